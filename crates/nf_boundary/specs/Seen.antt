-- The first character of a text, as one look-up sees it.
use Rattle.std.specs.Prelude.{◌≡◌, true, ◌++◌, encode_utf8, IsUtf8}
use Rattle.ucd_normal.specs.CanonicalCombiningClass.{canonical_combining_class}
use Rattle.nf_forms.specs.declared.form.Form.{Form}
use Rattle.nf_forms.specs.Boundary.{IsBoundary}
use Rattle.nf_forms.specs.Sound.{is_sound}
use Rattle.nf_forms.specs.Ucd.{ucd}
use Rattle.nf_entry.specs.Entry.{IsEntry}
use Rattle.nf_boundary.specs.declared.seen.Seen.{Seen}

pub record Sees (seen : Seen) : Type 0 where
  pub text : seen.text.now ≡ encode_utf8 seen.character ++ seen.after.now
  pub text_utf8 : IsUtf8 seen.text.now
  pub known : IsEntry seen.character seen.known

-- a starter before which a text may be cut
pub record IsAtBoundary (f : Form) (seen : Seen) : Type 0 where
  pub sees : Sees seen
  pub boundary : IsBoundary ucd f seen.character
  pub sound : is_sound ucd seen.character ≡ true
  pub class : canonical_combining_class seen.character ≡ 0
