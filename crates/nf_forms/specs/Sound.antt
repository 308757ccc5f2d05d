-- Sound characters: their decompositions are short, and their canonical one has no longer runs at its ends than
-- their compatibility one. So runs that are counted in NFKD (UAX #15, section 13) are bounded in every form. The
-- notion is this library's own: all of Unicode's characters are sound, and tables from elsewhere need not be.
use Rattle.std.specs.Prelude.{ℕ, Bool, not, ◌&&◌, ◌||◌, ◌==◌, nat_le, List, [], ◌∷◌, length}
use Rattle.std.specs.Str.{bytes_eq}
use Rattle.nf_forms.specs.Properties.{Properties}
use Rattle.nf_forms.specs.Runs.{lead, trail, has_starter}
use Rattle.nf_forms.specs.StreamSafe.{joiner}

-- how many members a row may have: the longest of Unicode's has 18 (U+FDFA)
abbrev pub max_row : ℕ
max_row = 18

-- a row has 1 to 18 members
abbrev pub fits : List ℕ → Bool
fits w = nat_le 1 (length w) && nat_le (length w) max_row

-- the canonical row begins and ends with no more non-starters than the compatibility row
abbrev pub ends_within : Properties → List ℕ → List ℕ → Bool
ends_within p canonical compat = nat_le (lead p canonical) (lead p compat) && nat_le (trail p canonical) (trail p compat)

-- where the canonical row has no starter, the compatibility row has none
abbrev pub marks_agree : Properties → List ℕ → List ℕ → Bool
marks_agree p canonical compat = has_starter p canonical || not (has_starter p compat)

-- the joiner is a starter that is its own row
abbrev pub joiner_is_plain : Properties → Bool
joiner_is_plain p = bytes_eq (p.canonical joiner) (joiner ∷ []) && bytes_eq (p.compat joiner) (joiner ∷ []) && p.class joiner == 0

abbrev pub is_sound : Properties → ℕ → Bool
is_sound p c = fits (p.canonical c) && fits (p.compat c) && ends_within p (p.canonical c) (p.compat c)
    && marks_agree p (p.canonical c) (p.compat c) && (not (c == joiner) || joiner_is_plain p)
