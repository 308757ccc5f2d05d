-- Two forms one after the other, over Unicode's data, and the form of the stream-safe text brought into a form again.
use Rattle.std.proofs.Common.{◌≡◌, ℕ, true, List, [], ◌∷◌, flat_map, refl, arith}
use Rattle.nf_facts.proofs.Common.{nat_tests, list_all, KitNfd, KitNfkd, decompose, Form, Nfc, Nfd, Nfkc, Nfkd, normal_form, ucd, kit_form}
use Rattle.std.proofs.lemmas.Grind.{flat_map-append}
use Rattle.unicode_normalization.specs.Forms.{decomposed as kit_decomposed, normalize, nfd, nfkd, nfc}
use Rattle.unicode_normalization.specs.Order.{sink, canonical_order}
use Rattle.unicode_normalization.specs.StreamSafe.{stream_safe as kit_stream_safe}
use Rattle.unicode_normalization.proofs.ComposeLemmas.{list_all-append}
use Rattle.unicode_normalization.proofs.FormsLemmas.{normalize_idem, nfd-nfc, nfkd-nfkc, nfd-nfkc, nfd-nfkd, nfc-nfd, nfc-nfkd, nfc-nfkc, nfkc-nfkd, nfkc-by_nfkd}
use Rattle.unicode_normalization.proofs.OrderLemmas.{is_reorderable-true, sink_comm, canonical_order-append, list_all-canonical_order}
use Rattle.unicode_normalization.proofs.ShortRuns.{is_stream_safe-nfkd, is_stream_safe-stream_safe}
use Rattle.unicode_normalization.proofs.StreamSafeLemmas.{stream_safe-safe}
use Rattle.nf_forms.specs.StreamSafe.{stream_safe}
use Rattle.nf_forms.specs.SafeForm.{safe_form}
use Rattle.nf_facts.specs.After.{after}
use Rattle.nf_facts.proofs.Rows.{is_fixed, compat-fixed, compat-joined, canonical-fixed}
use Rattle.nf_facts.proofs.SameForms.{normal_form-ucd, stream_safe-ucd}

-- ---- NFKD sees no difference between a text and its NFD

abbrev compat_of : ℕ → List ℕ
compat_of = decompose KitNfkd

compat-sink : (c : ℕ) (ds : List ℕ) → list_all is_fixed (c ∷ ds) ≡ true → canonical_order (flat_map compat_of (sink c ds)) ≡ canonical_order (flat_map compat_of (c ∷ ds))
unfolding ucd sink canonical_order
compat-sink c [] all = refl
compat-sink c (d ∷ ds) all = grind (arith, nat_tests, compat-fixed c, compat-fixed d, is_reorderable-true c d, sink_comm c d (canonical_order (flat_map compat_of ds)), compat-sink c ds)

compat-order : (w : List ℕ) → list_all is_fixed w ≡ true → canonical_order (flat_map compat_of (canonical_order w)) ≡ canonical_order (flat_map compat_of w)
unfolding canonical_order
compat-order [] all = refl
compat-order (c ∷ w) all = grind (arith, nat_tests, compat-sink c (canonical_order w), list_all-canonical_order is_fixed w, canonical_order-append, compat-order w)

fixed-rows : (x : List ℕ) → list_all is_fixed (flat_map (decompose KitNfd) x) ≡ true
unfolding ucd
fixed-rows [] = refl
fixed-rows (c ∷ x) = list_all-append is_fixed _ _ (canonical-fixed c) (fixed-rows x)

compat-rows : (x : List ℕ) → flat_map compat_of (flat_map (decompose KitNfd) x) ≡ flat_map compat_of x
unfolding ucd
compat-rows [] = refl
compat-rows (c ∷ x) = rw (flat_map-append compat_of (decompose KitNfd c) (flat_map (decompose KitNfd) x), compat-joined c, compat-rows x)

nfkd-nfd : (x : List ℕ) → nfkd (nfd x) ≡ nfkd x
unfolding normalize kit_decomposed
nfkd-nfd x = rw (compat-order (flat_map (decompose KitNfd) x) (fixed-rows x), compat-rows x)

nfkd-nfc : (x : List ℕ) → nfkd (nfc x) ≡ nfkd x
nfkd-nfc x = rw (← (nfkd-nfd (nfc x)), nfd-nfc x) (nfkd-nfd x)

-- ---- two forms

normalize-after : (f g : Form) (x : List ℕ) → normalize (kit_form g) (normalize (kit_form f) x) ≡ normalize (kit_form (after g f)) x
normalize-after Nfc Nfkc x = rw (nfkc-by_nfkd (nfc x), nfkc-by_nfkd x, nfkd-nfc x)
normalize-after Nfd Nfkc x = rw (nfkc-by_nfkd (nfd x), nfkc-by_nfkd x, nfkd-nfd x)
normalize-after Nfkc Nfc x = nfc-nfkc x
normalize-after Nfkd Nfc x = nfc-nfkd x
normalize-after _ _ x = search (normalize_idem, nfd-nfc, nfkd-nfc, nfc-nfd, nfkd-nfd, nfd-nfkc, nfkd-nfkc, nfd-nfkd, nfkc-nfkd)

pub normal_form-after : (f g : Form) (x : List ℕ) → normal_form g ucd (normal_form f ucd x) ≡ normal_form (after g f) ucd x
normal_form-after f g x = simp normal_form-ucd (normalize-after f g x)

-- ---- stream-safe text

nfkd-form : (f : Form) (x : List ℕ) → nfkd (normalize (kit_form f) x) ≡ nfkd x
nfkd-form Nfc = normalize-after Nfc Nfkd
nfkd-form f = normalize-after f Nfkd

pub stream_safe-safe_form : (f : Form) (x : List ℕ) → stream_safe ucd (safe_form f ucd x) ≡ safe_form f ucd x
unfolding safe_form
stream_safe-safe_form f x =
    let y = kit_stream_safe x in
    simp (stream_safe-ucd, normal_form-ucd) (stream_safe-safe (normalize (kit_form f) y)
    (rw (is_stream_safe-nfkd (normalize (kit_form f) y), nfkd-form f y, ← (is_stream_safe-nfkd y)) (is_stream_safe-stream_safe x)))

pub safe_form-after : (f g : Form) (x : List ℕ) → safe_form g ucd (safe_form f ucd x) ≡ safe_form (after g f) ucd x
unfolding safe_form
safe_form-after f g x = rw (stream_safe-safe_form f x) (normal_form-after f g (stream_safe ucd x))

pub safe_form-twice : (f : Form) (x : List ℕ) → safe_form f ucd (safe_form f ucd x) ≡ safe_form f ucd x
safe_form-twice Nfc = safe_form-after Nfc Nfc
safe_form-twice f = safe_form-after f f
