-- What was written to the end, said of the text that was read (UAX #15, section 13).
use Rattle.std.specs.Prelude.{◌≡◌, ℕ, List, IsTrue, encode_utf8_all}
use Rattle.nf_forms.specs.Properties.{Properties}
use Rattle.nf_forms.specs.declared.form.Form.{Form}
use Rattle.nf_forms.specs.Forms.{normal_form}
use Rattle.nf_safe.specs.Pieces.{IsGreedyCut, rejoined}
use Rattle.nf_safe.specs.Place.{is_in_format}
use Rattle.nf_filter.specs.declared.policy.Policy.{Policy}
use Rattle.nf_filter.specs.Devices.{SinkState, SourceState}
use Rattle.nf_filter.specs.Policy.{whole_under}
use Rattle.nf_filter.specs.Finishes.{final_utf8}
use Rattle.nf_filter.specs.Drives.{DrivesToEnd}

-- it is the form of the longest pieces in the Stream-Safe Text Format, with a joiner between each two; and of the text
-- itself where that was in the format
pub record JoinsPieces (policy : Policy) (f : Form) (p : Properties) (bytes : List ℕ) : Type 0 where
  pub pieces : List (List ℕ)
  pub cut : IsGreedyCut p (whole_under policy.replace bytes) pieces
  pub joined : final_utf8 policy f p bytes ≡ encode_utf8_all (normal_form f p (rejoined pieces))
  pub in_format : IsTrue (is_in_format p (whole_under policy.replace bytes)) → final_utf8 policy f p bytes ≡ encode_utf8_all (normal_form f p (whole_under policy.replace bytes))

-- a filter that stood after `bytes` was driven to the source's end
abbrev pub DrivesPieces : Policy → Form → Properties → List ℕ → SourceState → SourceState → SinkState → SinkState → Type 0
DrivesPieces policy f p bytes source left old new = DrivesToEnd policy f p bytes source left old new (JoinsPieces policy f p)
