use Rattle.std.proofs.Common.{◌≡◌, ◌+◌, ◌-◌, not, cond, ◌∙◌, ◌++◌, arith}
use Rattle.std.proofs.lemmas.List.Folds.{list_all-append}
use Rattle.std.proofs.lemmas.List.Sums.{sum_by-append}
use Rattle.nf_forms.specs.Laws.StreamSafe.{decomposed-append}
use Rattle.nf_forms.specs.Ucd.{ucd}
use Rattle.nf_counts.proofs.PieceLemmas.{goes_on}
use Rattle.nf_counts.proofs.scan.Scan.pass.Goals as goal

pub returns-clause-reaches : goal.returns-clause-reaches
returns-clause-reaches c =
    let here = c.requires.reaches in
    let piece = c.requires.piece in
    let at : c.args.self.now.at + (c.args.end - c.args.self.now.at) ≡ c.args.end = omega (arith, c.requires.order) in
    let whole = rw at at (goes_on _ _ _ here.begins piece.chars _ piece.begins) in
    record {
      utf8 = here.utf8;
      front = here.front ++ piece.chars;
      begins = whole;
      sound = rw (list_all-append, here.sound, piece.sound);
      unassigned = c.add.ensures.unassigned c.if-not-add.false ∙ grind (arith, here.unassigned, piece.unassigned, sum_by-append (λ d. cond (not (ucd.assigned d)) 1 0) here.front piece.chars);
      counts = rw decomposed-append (c.add.ensures.counts c.if-not-add.false ucd _ _ piece.row here.counts);
      few = omega arith;
      less = grind (arith, c.add.ensures.unassigned c.if-not-add.false, here.less, piece.some);
      leads = c.add.ensures.room;
    }
