use Rattle.nf_vectors.proofs.WordLemmas.{HasRead}
use Rattle.nf_vectors.proofs.line.push_column.Given as goal

abbrev pub invariant-loop-word : goal.invariant-loop-word
invariant-loop-word l = record {
  can : (goal.iterator-loop-word).can_next l.word-iterator;
  ends : (goal.iterator-loop-word).is_finite l.word-iterator;
  read : HasRead (goal.iterator-loop-word).next_gives l.initial.word-iterator l.column l.fn.text.items l.yielded l.text.items;
}
