-- Words in which clap finds no fault ask for something, or are `check` that lacks a form.
use Rattle.nf_cmd.proofs.Common.{cases_Bool, arith, ◌≡◌, ◌∙◌, ◌⊎◌, Bool, true, false, refl, sym, ap, subst, List, [], ◌∷◌, drop, Option, Some, None, inl, inr, codes, is_some, find, option_map, Bor, bytes_eq, list_any, option_map_or, bytes_eq-Decides, ErrorKind, MissingRequiredArgument, OutOfMemory, IsAmong, takes, value_passes, Row, Rule, Text, answers_to, first_of, nothing_held, rows_after, stop_after, texts, Shape, subcommand_of, built_fault, entered_fault, fault_of, is_simple_and_free, level_fault, list_any-map, Form, Request, Check, CheckForm, Measure, Test, IsLine, IsRefusal, check, conversion, convert, flag_rule, form_named, form_names, form_rule, is_set, lacks_form, line, policy_of, request_of, ⊎_elim, get_or}
use Rattle.clap.specs.Simple.{App, argument_words, built, entered, label_of, names_of, rows_at, new_shape, with_index, filled}
use Rattle.nf_cmd.proofs.Rows.{IsIn, IsSingle, find-in, IsNoHelp, StopsAtNoHelp}
use Rattle.nf_cmd.proofs.LevelRows.{none_of, faults, given, passes, walked}

-- what holds of each subcommand that is not help, and whose own words have no fault, holds of the one that is entered
module _ (P : Option (Text × List Row) → Type 0) (a : App) (words : List Text) (off : a.top.args_override_self ≡ false) (helps : a.top.disable_help_subcommand ≡ false)
    (needs : a.top.subcommand_required ≡ true) (none : built_fault a nothing_held words ≡ [])
    (each : (s : Shape) → IsIn s a.subs → (name : Text) → answers_to name (label_of s) ≡ true → IsNoHelp name
    → (left : List Text) → level_fault s [] nothing_held left false [] ≡ [] → P (Some (s.name, rows_after s.rules [] left))) where
  enters : P (entered a (stop_after a.top.rules (names_of a) words))
  enters = go (stop_after a.top.rules (names_of a) words)
      (walked a.top off (names_of a) words _ _ none).1
      (faults a.top off (names_of a) words _ _ none).1
      (grind (arith, faults a.top off (names_of a) words _ _ none))
    where
      at : (p : Text × List Text) → IsNoHelp p.0 → (o : Option Shape) → find (λ s. answers_to p.0 (label_of s)) a.subs ≡ o
          → option_map_or (λ s. level_fault s [] nothing_held p.1 false []) o [] ≡ [] → is_some (option_map (λ s. rows_at s p.1) o) ≡ true
          → P (option_map (λ s. rows_at s p.1) o)
      at p helpless None e below there = cc
      at p helpless (Some s) e below there = let found = find-in _ a.subs s e in each s found.0 p.0 found.1 helpless p.1 below

      go : (o : Option (Text × List Text)) → StopsAtNoHelp a.top.disable_help_subcommand o → entered_fault a o ≡ [] → is_some (entered a o) ≡ true → P (entered a o)
      go None helpless below there = cc
      go (Some p) helpless below there = at p (helpless helps) (find (λ s. answers_to p.0 (label_of s)) a.subs) refl below there

-- ---- this program's line

-- where no other rule has its id, the first is the one of that id
only_first : (a : Rule) (rest : List Rule) → list_any (λ r. bytes_eq a.id r.id) rest ≡ false → (x : Rule) → IsIn x (a ∷ rest) → x.id ≡ a.id → x ≡ a
only_first a rest differ x inside e = grind (arith, none_of (λ r. bytes_eq a.id r.id) rest x, bytes_eq-Decides a.id x.id)

-- what a subcommand's words come to: a request, or that a form is lacking
abbrev pub IsAsked : Option (Text × List Row) → Type 0
IsAsked found = ((r : Request) × (request_of found ≡ Some r)) ⊎ (lacks_form found ≡ true)

module _ (names : Bor (List (Bor Text))) (are : texts names.now ≡ form_names) where
  abbrev converting : Shape
  converting = get_or (built (line names)).subs 0 (new_shape [])

  abbrev checker : Shape
  checker = get_or (built (line names)).subs 1 (new_shape [])

  abbrev form : Bool → Rule
  form required = with_index 1 (filled (form_rule names required))

  single : (required : Bool) → IsSingle (form required)
  unfolding form_rule
  single required = record { set = refl; least = refl; most = refl; no_default = refl }

  value_named : (required : Bool) (text : Text) → value_passes (form required) text ≡ true → (f : Form) × (form_named text ≡ Some f)
  unfolding form_rule
  value_named required text e =
      let named : list_any (λ n. bytes_eq n text) form_names ≡ true = sym (list_any-map (λ n. bytes_eq n text) (λ (n : Bor Text). n.now) names.now ∙ ap (list_any (λ n. bytes_eq n text)) are) ∙ e in
      grind (arith, bytes_eq-Decides)

  converts : (words : List Text) → level_fault converting [] nothing_held words false [] ≡ [] → IsAsked (Some (converting.name, rows_after converting.rules [] words))
  unfolding line check convert form_rule flag_rule
  converts words none =
      let g = given converting refl [] words false [] none (form true) (single true) (only_first (form true) (drop 1 converting.rules) refl) refl (inl refl) refl in
      let f = value_named true g.text g.passes in
      let rows = rows_after converting.rules [] words in
      inl (conversion f.0 (policy_of rows) (is_set (codes "line-buffered") rows), rw (g.first, f.1))

  checks : (words : List Text) → level_fault checker [] nothing_held words false [] ≡ [] → IsAsked (Some (checker.name, rows_after checker.rules [] words))
  unfolding line check convert form_rule flag_rule
  checks words none = go (first_of (codes "form") rows) refl (is_set (codes "assigned") rows) refl
    where
      rows : List Row
      rows = rows_after checker.rules [] words

      go : (o : Option Text) → first_of (codes "form") rows ≡ o → (b : Bool) → is_set (codes "assigned") rows ≡ b → IsAsked (Some (checker.name, rows))
      go (Some text) first b set =
          let f = value_named false text (passes checker refl [] words false [] none (form false) (single false) (only_first (form false) (drop 1 checker.rules) refl) text first) in
          inl (CheckForm f.0 b, rw (first, set, f.1))
      go None first true set = inr (rw (first, set))
      go None first false set = inl (Check, rw (first, set))

  pub asked : (words : List Text) → fault_of (line names) words ≡ [] → IsAsked (subcommand_of (line names) words)
  unfolding line check convert form_rule flag_rule
  asked words none = enters IsAsked (built (line names)) (argument_words (line names) words) refl refl refl none of
    where
      of : (s : Shape) → IsIn s (built (line names)).subs → (name : Text) → answers_to name (label_of s) ≡ true → IsNoHelp name
          → (left : List Text) → level_fault s [] nothing_held left false [] ≡ [] → IsAsked (Some (s.name, rows_after s.rules [] left))
      of s (inl same) name answers helpless left = rw same (converts left)
      of s (inr (inl same)) name answers helpless left = rw same (checks left)
      of s (inr (inr (inl same))) name answers helpless left = rw same (λ below. inl (Measure, refl))
      of s (inr (inr (inr (inl same)))) name answers helpless left = rw same (λ below. inl (Test, refl))
      -- help answers to its own name alone
      of s (inr (inr (inr (inr (inl same))))) name answers helpless left = let help = rw same at answers in absurd (grind (arith, bytes_eq-Decides (codes "help") name))
      of s (inr (inr (inr (inr (inr bad))))) name answers helpless left = absurd bad

-- ---- the same of any description of the line

module _ {a : App} (is : IsLine a) where
  pub line_simple : is_simple_and_free a ≡ true
  unfolding line check convert form_rule flag_rule
  line_simple = rw is.2

  module _ {words : List Text} {k : ErrorKind} where
    -- where they ask for nothing, it is a form that is lacking
    pub line_lacks : fault_of a words ≡ [] → request_of (subcommand_of a words) ≡ None → k ≡ MissingRequiredArgument → IsRefusal words k
    line_lacks none nothing kind = ⊎_elim (λ asks. cc)
        (λ lacks. inr (inr (record { app = a; is_line = is; faultless = none; lacks = lacks; kind = kind })))
        (subst (λ x. IsAsked (subcommand_of x words)) (sym is.2) (asked is.0 is.1 words (rw is.2 at none)))

    -- an error of the parse is a refusal
    pub line_refused : (takes a words ≡ true → k ≡ OutOfMemory) → (k ≡ OutOfMemory) ⊎ IsAmong k (fault_of a words) → IsRefusal words k
    line_refused free (inl memory) = inl memory
    line_refused free (inr among) =
        ⊎_elim (λ e. inl (free e)) (λ e. inr (inl (record { app = a; is_line = is; refused = e; kind = among }))) (cases_Bool (takes a words))
