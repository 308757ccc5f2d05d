-- What no bytes give, and what is settled of that.
use Rattle.std.proofs.Common.{◌≡◌, true, false, Bool, [], refl, encode_utf8_all}
use Rattle.std.specs.Str.{chars}
use Rattle.std.specs.Str.Lossy.{utf8_valid_len}
use Rattle.nf_forms.specs.Properties.{Properties}
use Rattle.nf_forms.specs.declared.form.Form.{Form}
use Rattle.nf_forms.specs.declared.form.Form.TheVariants.{Nfc}
use Rattle.nf_forms.specs.Order.{by_class}
use Rattle.nf_forms.specs.SafeForm.{safe_form}
use Rattle.nf_safe.specs.LongestFront.{longest_front}
use Rattle.nf_utf8.specs.Reading.{text_of, ending_of}
use Rattle.nf_utf8.specs.Replaced.{decoded_of, replaced}
use Rattle.nf_filter.specs.declared.policy.Policy.{Policy}
use Rattle.nf_filter.specs.Policy.{text_under, allowed}
use Rattle.nf_filter.specs.Settled.{settled, is_usable, usable, settled_utf8}

-- no characters
pub text_under-none : (replace : Bool) → text_under replace [] ≡ []
unfolding text_of ending_of replaced decoded_of chars utf8_valid_len
text_under-none false = refl
text_under-none true = refl

-- nothing
pub settled_utf8-none : (policy : Policy) (f : Form) (p : Properties) → settled_utf8 policy f p [] ≡ []
unfolding settled_utf8 settled safe_form usable is_usable longest_front by_class
settled_utf8-none policy f p = rw (text_under-none policy.replace) (by_policy policy.assigned f)
  where
    by_policy : (assigned : Bool) (f : Form) → encode_utf8_all (settled f p (usable p (allowed assigned p []))) ≡ []
    by_policy false Nfc = refl
    by_policy true Nfc = refl
    by_policy _ _ = refl
