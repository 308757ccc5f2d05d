-- What the bytes after a lead byte tell (The Unicode Standard, section 3.9, Table 3-6).
use Rattle.std.specs.Prelude.{ℕ, ◌+◌, Bool, not, ◌&&◌, ◌||◌, ◌==◌, nat_le, if◌then◌else◌, List, slice_index, bit_and, bit_or}
use Rattle.nf_forms.specs.declared.form.Form.{Form}
use Rattle.nf_forms.specs.declared.form.Form.TheVariants.{Nfc, Nfd, Nfkc, Nfkd}
use Rattle.nf_lanes.specs.Looks.{is_in}
use Rattle.nf_lanes.specs.Sets.{pair_sets}
use Rattle.nf_lanes.specs.declared.sets.Pairs.{Pairs}
use Rattle.nf_span.specs.declared.closer.TheConstants.{COMPOSED_PAIRS, DECOMPOSED_PAIRS}
use Rattle.nf_span.specs.declared.scripts.TheConstants.{COMPOSED_INDIC, DECOMPOSED_INDIC, COMPOSED_LETTERS, DECOMPOSED_LETTERS, COMPOSED_YI, DECOMPOSED_YI}
use Rattle.nf_span.specs.declared.kana.TheConstants.{NFKC_KANA, NFD_KANA, NFKD_KANA}
use Rattle.nf_span.specs.declared.wide.TheConstants.{NFC_WIDE, NFD_WIDE, COMPATIBILITY_WIDE}
use Rattle.nf_span.specs.Leads.{lead_bits, wants_look}

-- that of forms that compose, or of the others
abbrev pub either_of : Form → Pairs → Pairs → Pairs
either_of Nfc composed decomposed = composed
either_of Nfkc composed decomposed = composed
either_of Nfd composed decomposed = decomposed
either_of Nfkd composed decomposed = decomposed

abbrev pub pairs_of : Form → Pairs
pairs_of f = either_of f COMPOSED_PAIRS DECOMPOSED_PAIRS

-- what is asked after E3
abbrev pub kana_of : Form → Pairs
kana_of Nfc = COMPOSED_YI
kana_of Nfkc = NFKC_KANA
kana_of Nfd = NFD_KANA
kana_of Nfkd = NFKD_KANA

-- after E2 and EF
abbrev pub wide_of : Form → Pairs
wide_of Nfc = NFC_WIDE
wide_of Nfkc = COMPATIBILITY_WIDE
wide_of Nfd = NFD_WIDE
wide_of Nfkd = COMPATIBILITY_WIDE

-- after each lead byte after which two bytes are asked
abbrev pub is_asked : ℕ → Bool
is_asked lead = (nat_le 0xE0 lead && nat_le lead 0xE3) || (lead == 0xEA || lead == 0xEF)

abbrev pub family_of : Form → ℕ → Pairs
family_of f lead =
    if lead == 0xE0 then either_of f COMPOSED_INDIC DECOMPOSED_INDIC
    else (if lead == 0xE1 then either_of f COMPOSED_LETTERS DECOMPOSED_LETTERS
    else (if lead == 0xE3 then kana_of f else (if lead == 0xEA then either_of f COMPOSED_YI DECOMPOSED_YI else wide_of f)))

-- a character that begins with these bytes has to be looked up: where the lead byte is not of D0 to DF it tells by itself,
-- its row being another than 2
abbrev pub wants_pair : Form → ℕ → ℕ → Bool
wants_pair f lead next = not (bit_or (pair_sets (pairs_of f) lead next) (bit_and (lead_bits f lead) 13) == 0)

-- the same of the two bytes after the lead byte
abbrev pub wants_after : Form → ℕ → ℕ → ℕ → Bool
wants_after f lead next last = not (is_asked lead) || is_in (family_of f lead) next last

-- neither the byte at k nor it and those after tell that a character passes which begins there
abbrev pub look_at : Form → List ℕ → ℕ → Bool
look_at f bytes k =
    wants_look f (slice_index bytes k)
    && (wants_pair f (slice_index bytes k) (slice_index bytes (k + 1)) && wants_after f (slice_index bytes k) (slice_index bytes (k + 1)) (slice_index bytes (k + 2)))
