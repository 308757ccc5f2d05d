-- What some command lines ask for.
use Rattle.nf_cmd.proofs.Common.{◌≡◌, refl, true, false, List, [], ◌∷◌, Some, codes, Bor, Text, walked, subcommand_of, Request, Convert, ConvertLines, Check, CheckForm, check, convert, flag_rule, form_rule, lacks_form, line, request_of}
use Rattle.nf_forms.specs.declared.form.Form.TheVariants.{Nfc, Nfd}

module _ (names : Bor (List (Bor Text))) where
  -- each of these words, after the program's name, ask for their request
  abbrev EachAsks : List (List Text × Request) → Type 0
  EachAsks [] = Unit {0}
  EachAsks (asks ∷ rest) = (request_of (subcommand_of (line names) (codes "nfstream" ∷ asks.0)) ≡ Some asks.1) × EachAsks rest

  asked : EachAsks ((codes "convert" ∷ codes "--form" ∷ codes "nfc" ∷ [], Convert Nfc (record { replace = false; assigned = false }))
      ∷ (codes "convert" ∷ codes "--replace" ∷ codes "--form=nfc" ∷ [], Convert Nfc (record { replace = true; assigned = false }))
      ∷ (codes "convert" ∷ codes "--form" ∷ codes "nfc" ∷ codes "--assigned" ∷ [], Convert Nfc (record { replace = false; assigned = true }))
      ∷ (codes "convert" ∷ codes "--assigned" ∷ codes "--form" ∷ codes "nfc" ∷ codes "--replace" ∷ [], Convert Nfc (record { replace = true; assigned = true }))
      ∷ (codes "convert" ∷ codes "--line-buffered" ∷ codes "--form" ∷ codes "nfc" ∷ codes "--replace" ∷ [], ConvertLines Nfc (record { replace = true; assigned = false }))
      ∷ (codes "check" ∷ [], Check)
      ∷ (codes "check" ∷ codes "--form" ∷ codes "nfc" ∷ [], CheckForm Nfc false)
      ∷ (codes "check" ∷ codes "--assigned" ∷ codes "--form=nfd" ∷ [], CheckForm Nfd true)
      ∷ [])
  unfolding line check convert form_rule flag_rule walked
  asked = (refl, (refl, (refl, (refl, (refl, (refl, (refl, (refl, tt))))))))

  lacks : lacks_form (subcommand_of (line names) (codes "nfstream" ∷ codes "check" ∷ codes "--assigned" ∷ [])) ≡ true
  unfolding line check convert form_rule flag_rule walked
  lacks = refl
