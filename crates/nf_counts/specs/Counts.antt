-- What a count of non-starters (UAX #15, section 13) asks of characters.
use Rattle.std.specs.Prelude.{◌≡◌, ◌==◌, ℕ, ◌-◌, ◌/◌, ◌≤◌, ◌%◌, List, ◌++◌, true, Bool, not, ◌||◌, nat_lt, nat_le, min, count_by, if◌then◌else◌, chars}
use Rattle.std.specs.List.{list_all}
use Rattle.nf_counts.specs.declared.counts.Counts.{Counts}
use Rattle.nf_counts.specs.declared.counted.Counted.{Counted}
use Rattle.nf_forms.specs.Properties.{Properties, is_nonstarter}
use Rattle.nf_forms.specs.declared.form.Form.TheVariants.{Nfkd}
use Rattle.nf_forms.specs.Forms.{decomposed}
use Rattle.nf_forms.specs.Runs.{has_starter, lead, trail, longest}
use Rattle.nf_forms.specs.Sound.{is_sound}

-- these are those of the text
pub record HasCounts (p : Properties) (w : List ℕ) (counts : Counts) : Type 0 where
  pub has_starter : counts.has_starter ≡ has_starter p w
  pub lead : counts.lead ≡ lead p w
  pub trail : counts.trail ≡ trail p w
  pub longest : counts.longest ≡ longest p w
  pub nonstarters : counts.nonstarters ≡ count_by (is_nonstarter p) w

-- from 4 to 7 there is no starter
abbrev pub starts_by : ℕ → Bool
starts_by value = nat_lt value 4 || nat_le 8 value

-- the text has so many non-starters as the two low bits of the value are. Below 8 all stand together, and after the
-- starters, if any; from 8 on each stands between two starters, or at the end, where the third bit tells so
pub record HasValue (p : Properties) (w : List ℕ) (value : ℕ) : Type 0 where
  pub has_starter : starts_by value ≡ has_starter p w
  pub lead : (if starts_by value then 0 else value % 4) ≡ lead p w
  pub trail : (if nat_le 8 value then min (value % 4) (value / 4 - 2) else value % 4) ≡ trail p w
  pub longest : (if nat_le 8 value then min (value % 4) 1 else value % 4) ≡ longest p w
  pub nonstarters : value % 4 ≡ count_by (is_nonstarter p) w

-- how many unassigned characters the text has, and a character of this value is
abbrev pub unassigned_in : Properties → List ℕ → ℕ
unassigned_in p x = count_by (λ c. not (p.assigned c)) x

abbrev pub unassigned_by : ℕ → ℕ
unassigned_by value = if value == 8 then 1 else 0

-- c is sound, and its compatibility decomposition has this value, as has whether it is assigned
pub record IsValued (p : Properties) (c value : ℕ) : Type 0 where
  pub sound : is_sound p c ≡ true
  pub assigned : p.assigned c ≡ not (value == 8)
  pub row : HasValue p (p.compat c) value

-- the front of the text is of sound characters, so many of them unassigned, its compatibility decomposition has these
-- counts, and no more than `room` non-starters before the first starter
pub record IsCountedFront (p : Properties) (room : ℕ) (text : List ℕ) (counted : Counted) : Type 0 where
  pub split : text ≡ counted.front.now ++ counted.rest.now
  pub sound : list_all (is_sound p) (chars counted.front.now) ≡ true
  pub unassigned : counted.counts.unassigned ≡ unassigned_in p (chars counted.front.now)
  pub counts : HasCounts p (decomposed Nfkd p (chars counted.front.now)) counted.counts
  pub leads : counted.counts.lead ≤ room
