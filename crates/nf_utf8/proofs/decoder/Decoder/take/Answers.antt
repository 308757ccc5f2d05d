use Rattle.nf_utf8.proofs.Common.{◌≡◌, List, ℕ, [], None, Some, refl, sym, ◌∙◌, inr, arith, IsUtf8-nil, chars-nil, StandsAfter, Completes, IsFront}
use Rattle.nf_utf8.proofs.TakingLemmas.{Joined, taken, counts, takes_same}
use Rattle.nf_utf8.proofs.decoder.Decoder.take.Goals as goal

nothing : (c : goal.After-take_text) → Completes c.args.self.now c.args.piece.now None 0
nothing c = (sym c.self.view_is ∙ c.if-is_empty.ensures.0 refl, refl)

pub returns-then-is_empty-clause-takes : goal.returns-then-is_empty-clause-takes
returns-then-is_empty-clause-takes c bytes = c.take_text.ensures.takes c.args.self.now bytes (nothing c)

pub returns-then-is_empty-clause-only : goal.returns-then-is_empty-clause-only
returns-then-is_empty-clause-only c bytes first text end s t = takes_same t (returns-then-is_empty-clause-takes c bytes s)

pub returns-then-is_empty-clause-stands : goal.returns-then-is_empty-clause-stands
returns-then-is_empty-clause-stands c bytes = c.take_text.ensures.stands c.args.self.now bytes (nothing c)

begun : (c : goal.After-take_text-in-Char) → Completes c.args.self.now c.args.piece.now (Some c.in-Char.c) c.in-Char.len
begun c =
    let some : ¬ (c.args.self.now ≡ []) = λ none. let empty = c.is_empty.ensures.1 (c.self.view_is ∙ none) in absurd (cc) in
    (some, rw c.self.view_is at c.in-Char.ensures)

pub returns-in-Char-clause-takes : goal.returns-in-Char-clause-takes
returns-in-Char-clause-takes c bytes = c.take_text-in-Char.ensures.takes c.args.self.now bytes (begun c)

pub returns-in-Char-clause-only : goal.returns-in-Char-clause-only
returns-in-Char-clause-only c bytes first text end s t = takes_same t (returns-in-Char-clause-takes c bytes s)

pub returns-in-Char-clause-stands : goal.returns-in-Char-clause-stands
returns-in-Char-clause-stands c bytes = c.take_text-in-Char.ensures.stands c.args.self.now bytes (begun c)

pub returns-in_default : goal.returns-in_default
returns-in_default c =
    let subpart : List ℕ = c.args.self.now in
    let piece : List ℕ = c.args.piece.now in
    let front : IsFront subpart piece c.front.result = rw c.self.view_is at c.front.ensures in
    let joined : Joined subpart piece None [] subpart piece 0 = record { leads = (IsUtf8-nil, chars-nil); utf8 = IsUtf8-nil; begun = inr refl; joins = refl; sum = omega arith } in
    let all = λ (bytes : List ℕ) (s : StandsAfter subpart bytes). taken joined s c.front.result c.end.result c.end.new.self front c.end.ensures in
    record {
      takes = λ bytes s. (all bytes s).0;
      only = λ bytes first text end s t. takes_same t (all bytes s).0;
      stands = λ bytes s. (all bytes s).1;
      inside = omega arith;
      text = refl;
      counts = counts joined c.front.result c.end.result c.end.new.self front c.end.ensures;
    }
