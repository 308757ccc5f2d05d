use Rattle.std.proofs.Common.{◌≡◌, Some, refl, ap, rules}
use Rattle.nf_c.proofs.Common.{Write, Saved}
use Rattle.nf_c.proofs.finishing.finish.Goals as goal

pub returns-then-is_full-clause-finishes : goal.returns-then-is_full-clause-finishes
returns-then-is_full-clause-finishes c = λ policy f bytes stands.
    let full : c.finish_filter-finished.result.fault ≡ Some Write = search rules in record {
      finished = c.finish_filter-finished.result;
      finishes = rw (← ap (λ (s : Saved). s.base) c.in-Some.ensures.saved) (c.finish_filter-finished.ensures.finishes policy f bytes (c.in-Some.ensures.stands policy f bytes stands));
      full = λ _. (c.of-then-is_full.ensures, refl);
      told = λ not. absurd (not full);
      written = λ not. absurd (not full);
      spent = λ not. absurd (not full);
    }

pub returns-clause-finishes : goal.returns-clause-finishes
returns-clause-finishes c = λ policy f bytes stands.
    let not_full : ¬ (c.finish_filter-finished.result.fault ≡ Some Write) = search rules in record {
      finished = c.finish_filter-finished.result;
      finishes = rw (← ap (λ (s : Saved). s.base) c.in-Some.ensures.saved) (c.finish_filter-finished.ensures.finishes policy f bytes (c.in-Some.ensures.stands policy f bytes stands));
      full = λ e. absurd (not_full e);
      told = λ _. c.ended.ensures;
      written = λ _. c.finish_filter-finished.ensures.written;
      spent = λ _. (search (rules, stands.can), refl);
    }
