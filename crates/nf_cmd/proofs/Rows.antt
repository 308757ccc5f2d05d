-- Rows that fit the rules of one level, for an option of one value one that passes, and subcommands that are not help.
use Rattle.nf_cmd.proofs.Common.{cond_both, ◌≡◌, ◌∙◌, ◌⊎◌, Bool, true, false, refl, sym, min, ◌+◌, append-nil, arith, List, [], ◌∷◌, ◌++◌, length, Some, None, eqb-true, bytes_eq, bytes_eq-Decides, CommandLine, unwrap_or_range, value_passes, Row, Rule, Text, has_row, reading_by, action_fault, use_fault, values_fault, find, Option, codes, Step, subcommand}
use Rattle.clap.specs.Walk.{action_of, at_row, count_of, counted, more_values, most_values, new_count, used, used_as, values_or_missing, with_values, without}
use Rattle.clap.specs.declared.builder.action.ArgAction.{ArgAction}
use Rattle.clap.specs.declared.builder.action.ArgAction.TheVariants.{Set, Append, SetTrue, SetFalse, Count}
use Rattle.clap.specs.declared.builder.value_parser.Reading.{Reading}
use Rattle.clap.specs.declared.parser.matches.ValueSource.{ValueSource}

-- a is one of these
abbrev pub IsIn : {X : Type 0} → X → List X → Type 0
IsIn a [] = ⊥
IsIn a (x ∷ xs) = (a ≡ x) ⊎ IsIn a xs

-- what is found is one of them, and passes
pub find-in : {X : Type 0} (p : X → Bool) (xs : List X) (a : X) → find p xs ≡ Some a → IsIn a xs × (p a ≡ true)
find-in p [] a e = cc
find-in p (x ∷ xs) a e = grind (arith, find-in p xs a)

-- an option that takes one value and has no default
pub record IsSingle (a : Rule) : Type 0 where
  pub set : action_of a ≡ Set
  pub least : (unwrap_or_range a.range).start_inclusive ≡ 1
  pub most : most_values a ≡ 1
  pub no_default : a.defaults ≡ []

-- the values are one, which passes
pub record HasOne (a : Rule) (values : List Text) : Type 0 where
  pub text : Text
  pub alone : values ≡ text ∷ []
  pub passes : value_passes a text ≡ true

-- the row is of one of the rules, and has one value where the rule takes one
pub record Fits (c : List Rule) (r : Row) : Type 0 where
  pub rule : Rule
  pub inside : IsIn rule c
  pub same : rule.id ≡ r.id
  pub one : IsSingle rule → HasOne rule r.values

abbrev pub EachFits : List Rule → List Row → Type 0
EachFits c [] = Unit {0}
EachFits c (r ∷ rs) = Fits c r × EachFits c rs

-- where help is on, the subcommand that is met, or at which a walk stops, is not help; `off` says that help is off
abbrev pub IsNoHelp : Text → Type 0
IsNoHelp name = bytes_eq name (codes "help") ≡ false

abbrev pub StepsToNoHelp : Bool → Step → Type 0
StepsToNoHelp off (subcommand name) = off ≡ false → IsNoHelp name
StepsToNoHelp off _ = Unit {0}

abbrev pub StopsAtNoHelp : Bool → Option (Text × List Text) → Type 0
StopsAtNoHelp off None = Unit {0}
StopsAtNoHelp off (Some p) = off ≡ false → IsNoHelp p.0

each-append : (c : List Rule) (xs ys : List Row) → EachFits c xs → EachFits c ys → EachFits c (xs ++ ys)
each-append c [] ys f g = g
each-append c (x ∷ xs) ys f g = (f.0, each-append c xs ys f.1 g)

each-at_row : (c : List Rule) (id : Text) (change : Row → List Row) (missing : List Row) (rows : List Row) → EachFits c rows
    → ((r : Row) → r.id ≡ id → EachFits c (change r)) → EachFits c missing → EachFits c (at_row id change missing rows)
each-at_row c id change missing [] f g m = m
each-at_row c id change missing (r ∷ rs) f g m = cond_both (bytes_eq r.id id) _ _ (EachFits c)
    (λ e. each-append c (change r) rs (g r ((bytes_eq-Decides r.id id).0 e)) f.1) (λ e. (f.0, each-at_row c id change missing rs f.1 g m))

each-without : (c : List Rule) (id : Text) (rows : List Row) → EachFits c rows → EachFits c (without id rows)
each-without c id rows f = each-at_row c id (λ _. []) [] rows f (λ r e. tt) tt

-- where the id has no row, the row that was missing goes to the end
new_row : (id : Text) (change : Row → List Row) (missing : List Row) (rows : List Row) → has_row id rows ≡ false → at_row id change missing rows ≡ rows ++ missing
new_row id change missing [] none = refl
new_row id change missing (r ∷ rs) none = grind (arith, new_row id change missing rs)

-- ---- one use of an argument

has_one : (a : Rule) (values : List Text) → length values ≡ 1 → values_fault a (values_or_missing a values) ≡ [] → HasOne a (values_or_missing a values)
has_one a (v ∷ []) one e = record { text = v; alone = refl; passes = grind arith }
has_one a _ one e = absurd (omega arith)

module _ (c : List Rule) (a : Rule) (inside : IsIn a c) where
  -- an argument that is no option of one value asks nothing of its row
  module _ (other : IsSingle a → ⊥) where
    loose : (r : Row) → a.id ≡ r.id → Fits c r
    loose r same = record { rule = a; inside = inside; same = same; one = λ s. absurd (other s) }

    pub each-with_values : (how : Reading) (s : ValueSource) (values : List Text) (rows : List Row) → EachFits c rows → EachFits c (with_values a.id how s values rows)
    each-with_values how s values rows f = each-at_row c a.id (more_values s values) _ rows f (λ r e. (loose _ (sym e), tt)) (loose _ refl, tt)

    each-counted : (how : Reading) (values : List Text) (rows : List Row) → EachFits c rows → EachFits c (counted a.id how values rows)
    each-counted how [] rows f =
        each-at_row c a.id (new_count CommandLine (min (count_of a.id rows + 1) 255)) _ _ (each-without c a.id rows f) (λ r e. (loose _ (sym e), tt)) (loose _ refl, tt)
    each-counted how (v ∷ vs) rows f = each-with_values how CommandLine (v ∷ vs) _ (each-without c a.id rows f)

  pub each-used : (values : List Text) (rows : List Row) → use_fault false a values rows ≡ [] → EachFits c rows → EachFits c (used a values rows)
  each-used values rows none f = go (action_of a) refl
    where
      given : List Text
      given = values_or_missing a values

      set : action_fault Set false a given rows ≡ [] → EachFits c (with_values a.id (reading_by a) CommandLine given (without a.id rows))
      set h =
          let absent : has_row a.id rows ≡ false = grind arith in
          let kept : without a.id rows ≡ rows = new_row a.id (λ _. []) [] rows absent ∙ append-nil rows in
          let row : Row = record { id = a.id; values = given; count = None; source = Some CommandLine; reading = reading_by a } in
          let one : IsSingle a → HasOne a given = λ s. has_one a values (grind (arith, eqb-true)) (grind arith) in
          rw (kept, new_row a.id (more_values CommandLine given) (row ∷ []) rows absent)
          (each-append c rows (row ∷ []) f (record { rule = a; inside = inside; same = refl; one = one }, tt))

      go : (x : ArgAction) → x ≡ action_of a → EachFits c (used_as x a.id (reading_by a) (values_or_missing a values) rows)
      go Set e = set (grind arith)
      go Append e = each-with_values (λ s. cc) _ _ given rows f
      go SetTrue e = each-with_values (λ s. cc) _ _ given _ (each-without c a.id rows f)
      go SetFalse e = each-with_values (λ s. cc) _ _ given _ (each-without c a.id rows f)
      go Count e = each-counted (λ s. cc) _ given rows f
      go _ e = f
