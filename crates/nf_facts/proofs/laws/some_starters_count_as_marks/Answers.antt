-- Starters of which NFKD has non-starters alone: two halfwidth marks, of one each, which are their own canonical rows, and three
-- vowel signs.
use Rattle.std.proofs.Common.{◌≡◌, ℕ, false, [], ◌∷◌, length, arith, refl}
use Rattle.nf_facts.proofs.Common.{nat_tests, unicode_normalization, has_starter, ucd}
use Rattle.nf_facts.proofs.laws.some_starters_count_as_marks.Goals as goal

abbrev IsCounted : ℕ → Type 0
IsCounted c = (has_starter ucd (ucd.compat c) ≡ false) × (length (ucd.compat c) ≡ 1) × (ucd.canonical c ≡ c ∷ [])

at_marks : IsCounted 0xFF9E × IsCounted 0xFF9F
unfolding ucd unicode_normalization
at_marks = ((refl, refl, refl), (refl, refl, refl))

at_vowels : (has_starter ucd (ucd.compat 0xF73) ≡ false) × (has_starter ucd (ucd.compat 0xF75) ≡ false) × (has_starter ucd (ucd.compat 0xF81) ≡ false)
unfolding ucd unicode_normalization
at_vowels = (refl, refl, refl)

pub returns : goal.returns
returns c = grind (arith, nat_tests, at_marks, at_vowels)
