use Rattle.std.proofs.Common.{◌≡◌, ◌⊎◌, inl, inr, ℕ, true, List, bit_and, refl, sym, ap, ◌∙◌}
use Rattle.nf_forms.specs.declared.form.Form.{Form}
use Rattle.nf_lanes.specs.Lanes.{bits_at}
use Rattle.nf_lanes.specs.Looks.{left_after}
use Rattle.nf_lanes.specs.declared.sets.Pairs.{Pairs}
use Rattle.nf_span.specs.Closer.{family_of, is_asked, kana_of, wide_of}
use Rattle.nf_span.specs.Window.{AreLooks}
use Rattle.nf_span.proofs.LookLemmas.{by_family}
use Rattle.nf_span.proofs.lanes.asked_looks.Goals as goal

-- by sets that are those of the lead byte
left_by : (f : Form) (bytes : List ℕ) (at lead looks left : ℕ) (t : Pairs) → is_asked lead ≡ true → t ≡ family_of f lead → AreLooks f bytes at looks → left ≡ bits_at (left_after t lead bytes) at → AreLooks f bytes at (bit_and looks left)
left_by f bytes at lead looks left t asked is are left_is = by_family f bytes at lead looks left asked are (left_is ∙ ap (λ t. bits_at (left_after t lead bytes) at) is)

wide_asked : (f : Form) (lead : ℕ) → (lead ≡ 0xE2) ⊎ (lead ≡ 0xEF) → (is_asked lead ≡ true) × (wide_of f ≡ family_of f lead)
wide_asked f lead (inl is) = rw is (refl, refl)
wide_asked f lead (inr is) = rw is (refl, refl)

pub returns-in-227 : goal.returns-in-227
returns-in-227 c =
    let kana : kana_of c.args.form ≡ family_of c.args.form c.args.lead = rw c.in-227.is refl in
    left_by c.args.form c.args.bytes.now c.args.at c.args.lead c.args.looks _ _ (rw c.in-227.is refl) (c.kana_of.ensures ∙ kana) c.requires.looks c.left_after-in-227.ensures.left

pub returns-in-226 : goal.returns-in-226
returns-in-226 c =
    let wide = wide_asked c.args.form c.args.lead c.in-226.is in
    left_by c.args.form c.args.bytes.now c.args.at c.args.lead c.args.looks _ _ wide.0 (c.wide_of.ensures ∙ wide.1) c.requires.looks c.left_after.ensures.left

pub returns-in_default : goal.returns-in_default
returns-in_default c =
    left_by c.args.form c.args.bytes.now c.args.at c.args.lead c.args.looks _ _ (sym c.is_asked.ensures ∙ c.if-is_asked.true) c.family_of.ensures c.requires.looks c.left_after-in_default.ensures.left
