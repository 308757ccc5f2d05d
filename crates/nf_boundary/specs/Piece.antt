-- What the characters from a boundary on have become, by their decompositions, in whatever order non-starters stand.
use Rattle.std.specs.Prelude.{◌≡◌, ◌≤◌, ◌+◌, ℕ, true, false, List, ◌∷◌, ◌++◌, map, encode_utf8_all}
use Rattle.nf_forms.specs.Properties.{is_starter}
use Rattle.nf_forms.specs.Runs.{has_starter, trail, longest}
use Rattle.nf_forms.specs.Order.{by_class}
use Rattle.nf_forms.specs.declared.form.Form.{Form}
use Rattle.nf_forms.specs.declared.form.Form.TheVariants.{Nfkd}
use Rattle.nf_forms.specs.Forms.{decomposed, finished}
use Rattle.nf_forms.specs.StreamSafe.{max_run}
use Rattle.nf_forms.specs.Segments.{BeginsAtBoundary}
use Rattle.nf_forms.specs.Ucd.{ucd}
use Rattle.nf_boundary.specs.declared.seen.Seen.{Seen}
use Rattle.nf_boundary.specs.declared.piece.Piece.{Piece}
use Rattle.nf_boundary.specs.declared.mark.Mark.{Mark}
use Rattle.nf_boundary.specs.Mark.{mark_of}
use Rattle.nf_boundary.specs.Seen.{Sees}

-- decomposed text has become what was appended, and after it a starter and non-starters, held in order of class: with any
-- text in place of these non-starters it comes to what was appended, and what the starter and that text come to
pub record Becomes (f : Form) (w : List ℕ) (starter : ℕ) (marks : List Mark) (before now : List ℕ) : Type 0 where
  pub head : List ℕ
  pub run : List ℕ
  pub done : List ℕ
  pub text : w ≡ head ++ run
  pub starts : is_starter ucd starter ≡ true
  pub no_starter : has_starter ucd run ≡ false
  pub held : marks ≡ map (mark_of ucd) (by_class ucd run)
  pub formed : now ≡ before ++ encode_utf8_all done
  pub comes_to : (v : List ℕ) → finished f ucd (head ++ v) ≡ done ++ finished f ucd (starter ∷ v)

-- in NFKD so many non-starters more may come after these characters, and no run of them is too long
pub record Leaves (cs : List ℕ) (room : ℕ) : Type 0 where
  pub trail : trail ucd (decomposed Nfkd ucd cs) + room ≤ max_run
  pub longest : longest ucd (decomposed Nfkd ucd cs) ≤ max_run

-- the characters from `first` on that stand before `next` have become so much
pub record Fills (f : Form) (first next : Seen) (piece : Piece) (before now : List ℕ) : Type 0 where
  pub front : List ℕ
  pub split : first.text.now ≡ encode_utf8_all front ++ next.text.now
  pub begins : BeginsAtBoundary ucd f front
  pub becomes : Becomes f (decomposed f ucd front) piece.starter piece.run.items before now
  pub leaves : Leaves front piece.room
  pub sees : Sees next
