use Rattle.nf_vectors.proofs.Common.{◌∙◌, sym}
use Rattle.nf_vectors.proofs.PieceLemmas.{split-cut, split-none, split-blank, columns_in-more}
use Rattle.nf_vectors.proofs.line.pieces_of.Goals as goal
use Rattle.nf_vectors.proofs.line.pieces_of.Goals.{in-None, in-Some+else-not-is_all_blank}

pub returns-in_err-source-clause-pieces : goal.returns-in_err-source-clause-pieces
returns-in_err-source-clause-pieces c = rw c.from_residual.ensures (simp (split-none _ c.in_err-source.ensures.parts))

pub returns-in_err-nfc-clause-pieces : goal.returns-in_err-nfc-clause-pieces
returns-in_err-nfc-clause-pieces c = rw c.from_residual-in_err-nfc.ensures (simp (split-cut _ _ _ c.in_ok-source.ensures.parts, split-none _ c.in_err-nfc.ensures.parts))

pub returns-in_err-nfd-clause-pieces : goal.returns-in_err-nfd-clause-pieces
returns-in_err-nfd-clause-pieces c = rw c.from_residual-in_err-nfd.ensures (simp (split-cut _ _ _ c.in_ok-source.ensures.parts, split-cut _ _ _ c.in_ok-nfc.ensures.parts, split-none _ c.in_err-nfd.ensures.parts))

pub returns-in_err-nfkc-clause-pieces : goal.returns-in_err-nfkc-clause-pieces
returns-in_err-nfkc-clause-pieces c = rw c.from_residual-in_err-nfkc.ensures (simp (split-cut _ _ _ c.in_ok-source.ensures.parts, split-cut _ _ _ c.in_ok-nfc.ensures.parts, split-cut _ _ _ c.in_ok-nfd.ensures.parts, split-none _ c.in_err-nfkc.ensures.parts))

pub returns-then-not-is_all_blank-clause-pieces : goal.returns-then-not-is_all_blank-clause-pieces
returns-then-not-is_all_blank-clause-pieces c =
    simp (split-cut _ _ _ c.in_ok-source.ensures.parts, split-cut _ _ _ c.in_ok-nfc.ensures.parts, split-cut _ _ _ c.in_ok-nfd.ensures.parts, split-cut _ _ _ c.in_ok-nfkc.ensures.parts, split-cut _ _ _ c.in-Some.ensures.parts)
    (columns_in-more c.in_ok-source.source.now c.in_ok-nfc.nfc.now c.in_ok-nfd.nfd.now c.in_ok-nfkc.nfkc.now c.in-Some.nfkd.now c.in-Some.last.now (sym c.is_all_blank.ensures ∙ c.if-not-is_all_blank.true))

pub returns-clause-pieces : goal.returns-clause-pieces
returns-clause-pieces c =
    elim c.match-cut.branch [
      | in-None w ↦ simp (split-cut _ _ _ c.in_ok-source.ensures.parts, split-cut _ _ _ c.in_ok-nfc.ensures.parts, split-cut _ _ _ c.in_ok-nfd.ensures.parts, split-cut _ _ _ c.in_ok-nfkc.ensures.parts, split-none _ w.in-None.ensures.parts, w.nfkd-is)
      | in-Some+else-not-is_all_blank w ↦
          let blank = sym w.is_all_blank.ensures ∙ w.if-not-is_all_blank.false in
          simp (split-cut _ _ _ c.in_ok-source.ensures.parts, split-cut _ _ _ c.in_ok-nfc.ensures.parts, split-cut _ _ _ c.in_ok-nfd.ensures.parts, split-cut _ _ _ c.in_ok-nfkc.ensures.parts, split-cut _ _ _ w.in-Some.ensures.parts, split-blank w.in-Some.last.now blank, blank, w.nfkd-is)
    ]
