use Rattle.nf_cmd.proofs.Common.{◌≡◌, ◌∙◌, Bool, true, false, refl, sym, ap, Option, Some, None, codes, bytes_eq, option_eq, option_map_or, bytes_eq-Decides, ReadsOne, found_of, Text, one_text-rows}
use Rattle.std.proofs.lemmas.Bool.{false_from_ne_true}
use Rattle.std.specs.Bool.{beq}
use Rattle.std.specs.Str.Parse.{ParsesBool}
use Rattle.nf_cmd.proofs.line.is_set.Goals as goal

-- what is read of a text as a truth value is true exactly of the text `true`
read : (E : Type 0) (text : Option Text) (value : Option Bool) → (text ≡ None → value ≡ None) → ((t : Text) → text ≡ Some t → ReadsOne (ParsesBool {E = E}) t value)
    → option_eq beq value (Some true) ≡ option_map_or (λ t. bytes_eq t (codes "true")) text false
read E None value none some = rw (none refl)
read E (Some t) (Some true) none some = rw (some t refl)
read E (Some t) (Some false) none some = rw (some t refl)
read E (Some t) None none some = sym (false_from_ne_true _ (λ e. (some t refl).1.0 ((bytes_eq-Decides t (codes "true")).0 e)))

pub returns : goal.returns
returns c = c.eq.ensures ∙ read _ _ c.get_one.result c.get_one.ensures.none c.get_one.ensures.value ∙ ap (λ o. option_map_or (λ t. bytes_eq t (codes "true")) o false) (one_text-rows (found_of c.args.found.now) c.args.flag.now)
