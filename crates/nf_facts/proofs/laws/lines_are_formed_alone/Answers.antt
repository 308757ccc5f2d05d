-- U+000A closes what stands before it, in each form.
use Rattle.std.proofs.Common.{◌≡◌, [], refl, arith}
use Rattle.nf_facts.proofs.Common.{unicode_normalization, Form, ucd}
use Rattle.ucd_normal.specs.Composition.{paired_with}
use Rattle.ucd_normal.specs.Compositions.{compositions}
use Rattle.ucd_normal.proofs.CompositionLemmas.{composite-paired_with}
use Rattle.unicode_normalization.specs.Compose.{primary_composite}
use Rattle.unicode_normalization.specs.Hangul.{compose_hangul}
use Rattle.nf_forms.specs.Closing.{IsClosing}
use Rattle.nf_forms.specs.Laws.StreamSafe.{row-own}
use Rattle.nf_facts.specs.LineFeed.{line_feed}
use Rattle.nf_facts.proofs.Ranges.{IsPlain-ascii}
use Rattle.nf_forms.specs.Ucd.{ucd}
use Rattle.nf_forms.specs.Laws.Closing.{safe_form-segments}
use Rattle.nf_facts.proofs.laws.lines_are_formed_alone.Goals as goal

no_compositions : compositions line_feed ≡ []
unfolding unicode_normalization
no_compositions = refl

IsClosing-line_feed : (f : Form) → IsClosing ucd f line_feed
unfolding ucd primary_composite compose_hangul paired_with
IsClosing-line_feed f =
    let plain = IsPlain-ascii line_feed (omega arith) in
    record {
      starts = rw plain.class;
      row = row-own ucd f line_feed (record { canonical = plain.canonical; compat = plain.compat });
      compat = plain.compat;
      never_second = λ _ a. rw (plain.never_second a);
      never_first = λ _ b. rw (composite-paired_with line_feed b, no_compositions);
    }

pub returns : goal.returns
returns c = record { closing = IsClosing-line_feed; form = λ f. safe_form-segments ucd f line_feed (IsClosing-line_feed f) }
