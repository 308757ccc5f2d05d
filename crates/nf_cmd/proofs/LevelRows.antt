-- What a level without a fault ends with: the value of an option of one value, which is there where it is required.
use Rattle.nf_cmd.proofs.Common.{cond_both, arith, ◌≡◌, ◌∙◌, ◌&&◌, Bool, true, false, not, refl, sym, subst, List, [], ◌∷◌, fold, Option, Some, None, inl, inr, find, bytes_eq, list_any, option_map_or, bytes_eq-Decides, DefaultValue, explicit_source, Kinds, is_given, value_passes, Held, Names, Row, Rule, Text, has_row, reading_by, settled, default_rows, first_of, nothing_held, stop_after, rows_after, walk, walk_from, with_default, Shape, level_fault, check_fault, settle_fault, walk_fault}
use Rattle.std.proofs.lemmas.Option.{option_and_then_some}
use Rattle.nf_cmd.proofs.Rows.{IsIn, IsSingle, Fits, EachFits, each-with_values, find-in, StopsAtNoHelp}
use Rattle.nf_cmd.proofs.WalkRows.{each-settled, each-walk}

-- what an argument that was not used gets, by its defaults
each-default_rows : (c : List Rule) (a : Rule) → IsIn a c → (rows : List Row) → EachFits c rows → (values : List Text) → a.defaults ≡ values
    → EachFits c (default_rows a.id (reading_by a) values rows)
each-default_rows c a inside rows f [] e = f
each-default_rows c a inside rows f (v ∷ vs) e =
    each-with_values c a inside (λ s. cc) _ DefaultValue (v ∷ vs) rows f

each-with_default : (c : List Rule) (a : Rule) → IsIn a c → (rows : List Row) → EachFits c rows → EachFits c (with_default rows a)
each-with_default c a inside rows f = cond_both (has_row a.id rows) _ _ (EachFits c) (λ e. f) (λ e. each-default_rows c a inside rows f a.defaults refl)

each-defaults : (c xs : List Rule) → ((a : Rule) → IsIn a xs → IsIn a c) → (rows : List Row) → EachFits c rows → EachFits c (fold with_default rows xs)
each-defaults c [] inside rows f = f
each-defaults c (x ∷ xs) inside rows f =
    each-defaults c xs (λ a i. inside a (inr i)) (with_default rows x) (each-with_default c x (inside x (inl refl)) rows f)

pub none_of : (p : Rule → Bool) (c : List Rule) (a : Rule) → IsIn a c → list_any p c ≡ false → p a ≡ false
none_of p [] a inside e = absurd inside
none_of p (x ∷ xs) a inside e = grind (arith, none_of p xs a)

each-in : (c : List Rule) (rows : List Row) (r : Row) → EachFits c rows → IsIn r rows → Fits c r
each-in c [] r f inside = absurd inside
each-in c (x ∷ xs) r f (inl same) = subst (Fits c) (sym same) f.0
each-in c (x ∷ xs) r f (inr inside) = each-in c xs r f.1 inside

-- the value of a required option of one value, at a level with no fault
pub record Given (a : Rule) (rows : List Row) : Type 0 where
  pub text : Text
  pub first : first_of a.id rows ≡ Some text
  pub passes : value_passes a text ≡ true

module _ (s : Shape) (off : s.args_override_self ≡ false) (names : Names) (words : List Text) (has : Bool) (below : Kinds)
    (none : level_fault s names nothing_held words has below ≡ []) where
  abbrev end : Held
  end = (walk s.rules names nothing_held words).held

  abbrev rows : List Row
  rows = rows_after s.rules names words

  pub faults : (walk_fault s names (walk_from nothing_held) words ≡ []) × (below ≡ []) × (settle_fault s.rules s.args_override_self end ≡ [])
      × (check_fault s rows has ≡ [])
  faults = grind arith

  pub walked : EachFits s.rules end.rows × StopsAtNoHelp s.disable_help_subcommand (stop_after s.rules names words)
  walked = each-walk s off names (walk_from nothing_held) words faults.0 (tt, tt)

  each-row : EachFits s.rules rows
  each-row = each-defaults s.rules s.rules (λ a i. i) (settled s.rules end).rows
      (each-settled s.rules end (rw off at faults.2) walked.0)

  module _ (a : Rule) (single : IsSingle a) (only : (x : Rule) → IsIn x s.rules → x.id ≡ a.id → x ≡ a) where
    one_value : (r : Row) → find (λ x. bytes_eq x.id a.id) rows ≡ Some r → Given a rows
    one_value r e =
        let found = find-in (λ (x : Row). bytes_eq x.id a.id) rows r e in
        let f : Fits s.rules r = each-in s.rules rows r each-row found.0 in
        let one = (rw (only f.rule f.inside (f.same ∙ (bytes_eq-Decides r.id a.id).0 found.1)) at f.one) single in
        record { text = one.text; first = cc; passes = one.passes }

    -- where it is there, its value passes
    pub passes : (text : Text) → first_of a.id rows ≡ Some text → value_passes a text ≡ true
    passes text first = option_and_then_some _ _ text first (λ r e _. let one = one_value r e in cc)

    pub given : s.subcommand_negates_reqs ≡ false → IsIn a s.rules → a.required ≡ true → Given a rows
    given lifts inside required = go (find (λ r. bytes_eq r.id a.id) rows) refl
        (grind (arith, none_of (λ x. x.required && not (is_given x.id rows)) s.rules a inside (grind (arith, faults))))
      where
        go : (o : Option Row) → find (λ x. bytes_eq x.id a.id) rows ≡ o → option_map_or (λ (r : Row). explicit_source r.source) o false ≡ true → Given a rows
        go None e h = cc
        go (Some r) e h = one_value r e
