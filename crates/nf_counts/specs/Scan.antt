-- How far the non-starters of a text are counted.
use Rattle.std.specs.Prelude.{◌≡◌, ℕ, ◌*◌, ◌≤◌, List, true}
use Rattle.std.specs.List.{list_all}
use Rattle.std.specs.Str.{IsUtf8}
use Rattle.nf_counts.specs.Counts.{HasCounts, unassigned_in}
use Rattle.nf_counts.specs.Piece.{BeginsWith}
use Rattle.nf_counts.specs.declared.scan.Scan.{Scan}
use Rattle.nf_forms.specs.Properties.{Properties}
use Rattle.nf_forms.specs.declared.form.Form.TheVariants.{Nfkd}
use Rattle.nf_forms.specs.Forms.{decomposed}
use Rattle.nf_forms.specs.Sound.{is_sound}

-- before the place stand these characters
pub record Reaches (p : Properties) (room : ℕ) (scan : Scan) : Type 0 where
  pub utf8 : IsUtf8 scan.text.now
  pub front : List ℕ
  pub begins : BeginsWith scan.text.now front scan.at
  pub sound : list_all (is_sound p) front ≡ true
  pub unassigned : scan.counts.unassigned ≡ unassigned_in p front
  pub counts : HasCounts p (decomposed Nfkd p front) scan.counts
  pub few : scan.counts.nonstarters ≤ 3 * scan.at
  pub less : scan.counts.unassigned ≤ scan.at
  pub leads : scan.counts.lead ≤ room
