-- The two bytes after a lead byte of UTF-8 (The Unicode Standard, section 3.9, Table 3-6).
use Rattle.std.specs.Prelude.{◌≡◌, ◌⊎◌, ℕ, List}
use Rattle.nf_lanes.specs.Looks.{is_in, NoneAfter, NoneFound}
use Rattle.nf_lanes.specs.declared.sets.Pairs.{Pairs}
use Rattle.nf_lanes.specs.declared.scripts.Scripts.{Scripts}

-- the family may be asked after the lead byte
abbrev pub IsAfter : Scripts → ℕ → Pairs → Type 0
IsAfter s lead family =
    ((lead ≡ 0xE0) × ((family ≡ s.indic) ⊎ ((family ≡ s.southern) ⊎ (family ≡ s.thai)))) ⊎ (((lead ≡ 0xE1) × (family ≡ s.letters)) ⊎ ((lead ≡ 0xE3) × (family ≡ s.kana)))

-- the character that begins at k is not found by one that may, or by pairs
abbrev pub IsToldInScript : Scripts → List ℕ → ℕ → Type 0
IsToldInScript s bytes k = NoneFound (is_in s.narrow) bytes k ⊎ ((lead : ℕ) × (family : Pairs) × IsAfter s lead family × NoneAfter (is_in family) lead bytes k)
