use Rattle.std.proofs.Common.{◌+◌, ◌-◌, ◌≤◌, ℕ, List, ◌++◌, length, take, None}
use Rattle.nf_c.proofs.Common.{Form, Policy, FeedsFront, state_of, StandAfter}
use Rattle.nf_c.proofs.feeding.feed_all.Given as goal

abbrev pub invariant-loop-read : goal.invariant-loop-read
invariant-loop-read l = record {
  read : l.read ≤ length l.input;
  written : l.written ≤ length l.output;
  feeds : (policy : Policy) (f : Form) (bytes : List ℕ) → StandAfter policy f l.fn.state (state_of l.fn.filter) bytes
      → FeedsFront policy f bytes l.input l.output (state_of l.fn.filter) (state_of l.filter) (record { read = l.read; written = l.written; fault = None })
      × StandAfter policy f l.state (state_of l.filter) (bytes ++ take l.read l.input);
}

abbrev pub decreases-loop-read : goal.decreases-loop-read
decreases-loop-read l = (length l.input - l.read) + l.guess.most
