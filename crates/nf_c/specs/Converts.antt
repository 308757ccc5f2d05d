-- What a whole text in memory becomes.
use Rattle.std.specs.Prelude.{◌≡◌, ◌⊎◌, true, ℕ, ◌+◌, ◌≤◌, ◌<◌, List, length, take, Some, None}
use Rattle.std.specs.Result.{result_err}
use Rattle.nf_forms.specs.Ucd.{ucd}
use Rattle.nf_forms.specs.declared.form.Form.{Form}
use Rattle.nf_filter.specs.declared.fault.Fault.TheVariants.{TooLong, Write}
use Rattle.nf_filter.specs.declared.policy.Policy.{Policy}
use Rattle.nf_filter.specs.Policy.{as_is}
use Rattle.nf_filter.specs.Settled.{settled_utf8}
use Rattle.nf_filter.specs.Faults.{fault_in}
use Rattle.nf_filter.specs.Finishes.{end_of, final_utf8}
use Rattle.nf_filter.specs.Whole.{IsFormOf}
use Rattle.nf_c.specs.declared.feeding.Fed.{Fed}
use Rattle.nf_c.specs.declared.moved.Moved.{Moved}
use Rattle.nf_c.specs.Feeds.{ends}
use Rattle.nf_c.specs.Moved.{ended, read_before}

-- reading ended before the text's end, or at a fault in it: what is settled of what was read was written
pub record StopsWithin (policy : Policy) (f : Form) (input output : List ℕ) (fed : Fed) : Type 0 where
  pub stopped : ¬ (fed.fault ≡ None)
  pub settles : take fed.written output ≡ settled_utf8 policy f ucd (take fed.read input)
  pub told : ends fed.fault ≡ true → fed.fault ≡ fault_in policy ucd 0 (take fed.read input)
  -- the output has no room for what one byte more settles
  pub full : fed.fault ≡ Some Write → length output < length (settled_utf8 policy f ucd (take (fed.read + 1) input))

-- all was read, in which there is no fault: the form was written, or what of it stands before a fault at the end
pub record ReachesEnd (policy : Policy) (f : Form) (input output : List ℕ) (fed : Fed) : Type 0 where
  pub all : fed.read ≡ length input
  pub no_fault : fault_in policy ucd 0 input ≡ None
  pub whole : ¬ (fed.fault ≡ Some Write) → take fed.written output ≡ final_utf8 policy f ucd input
  pub told : ¬ (fed.fault ≡ Some Write) → fed.fault ≡ result_err (end_of policy ucd 0 input)
  -- or the output has no room for it: what is settled was written
  pub settles : fed.fault ≡ Some Write → take fed.written output ≡ settled_utf8 policy f ucd input
  pub full : fed.fault ≡ Some Write → length output < length (final_utf8 policy f ucd input)

pub record ConvertsText (policy : Policy) (f : Form) (input output : List ℕ) (fed : Fed) : Type 0 where
  pub read : fed.read ≤ length input
  pub written : fed.written ≤ length output
  -- no input in memory is too long
  pub fits : ¬ (fed.fault ≡ Some TooLong)
  pub how : StopsWithin policy f input output fed ⊎ ReachesEnd policy f input output fed
  -- without a fault the input is the UTF-8 of a text, and the form of that was written
  pub form : policy ≡ as_is → fed.fault ≡ None → IsFormOf f ucd input (take fed.written output)

pub record Converts (policy : Policy) (f : Form) (input output : List ℕ) (moved : Moved) : Type 0 where
  pub fed : Fed
  -- where a fault in the input ended it, the bytes before that are told as read
  pub is : moved ≡ ended fed.fault (read_before fed.fault 0 (length input) fed.read) fed.written
  pub converts : ConvertsText policy f input output fed
