-- What pairs of bytes tell of a character is so, and what a look-up does.
use Rattle.std.proofs.Common.{◌≡◌, ◌+◌, ◌*◌, ◌/◌, ◌%◌, true, length, refl, arith}
use Rattle.std.proofs.lemmas.List.{drop-drop, drop_at}
use Rattle.ucd_table.specs.Trie.{block_value}
use Rattle.ucd_table.proofs.TrieCheck.{all_below, all_below-at}
use Rattle.nf_forms.specs.Ucd.{is_assigned}
use Rattle.nf_counts.proofs.AssignedLemmas.{is_assigned_by, is_first_block, assigned-by, assigned-first}
use Rattle.nf_lanes.proofs.LooksLemmas.{Known, Tells, TellsOf, ScriptsTell, by_pairs, by_scripts, either}
use Rattle.nf_lanes.specs.Looks.{is_in}
use Rattle.nf_assigned.specs.declared.pairs.TheConstants.{FIRST, SECOND}
use Rattle.nf_assigned.specs.declared.scripts.TheConstants.{SCRIPTS}
use Rattle.nf_assigned.specs.Bytes.{finds_lead, IsAssignedAt, IsTold}

pub known : Known 0xCD 0x340 (λ c. is_assigned c ≡ true)
unfolding is_assigned_by all_below block_value
known = record {
  whole = is_first_block;
  is = is_assigned_by;
  in_block = assigned-first;
  in_place = assigned-by;
  below = λ c small.
      let is : 64 * (c / 64) + c % 64 ≡ c = omega arith in
      let here = all_below-at (λ b. all_below (is_assigned_by b) 64) 13 (c / 64) refl (omega (arith, small)) in
      rw is at (assigned-by (c / 64) (c % 64) (omega (arith, small)) (omega arith) (all_below-at (is_assigned_by (c / 64)) 64 (c % 64) here (omega arith)));
  ascii = omega arith;
  of_low = omega arith;
  is_low = omega arith;
}

-- so of a character that one of them does not find
by_leads : Tells _ _ _ known finds_lead
unfolding is_assigned_by is_first_block all_below block_value known
by_leads = record { of_two = refl; of_three = refl; of_four = refl }

by_first : Tells _ _ _ known (is_in FIRST)
unfolding is_assigned_by is_first_block all_below block_value known
by_first = record { of_two = refl; of_three = refl; of_four = refl }

by_second : Tells _ _ _ known (is_in SECOND)
unfolding is_assigned_by is_first_block all_below block_value known
by_second = record { of_two = refl; of_three = refl; of_four = refl }

of_scripts : ScriptsTell _ _ _ known SCRIPTS
unfolding is_assigned_by is_first_block all_below block_value known
of_scripts = record { narrow = record { of_two = refl; of_three = refl; of_four = refl }; indic = refl; southern = refl; thai = refl; letters = refl; kana = refl }

by_look_up : TellsOf 0x340 (λ c. is_assigned c ≡ true) (IsAssignedAt true)
by_look_up = record {
  after = λ piece rest k at c more e. at c more (rw (← drop-drop, drop_at piece rest (length piece) refl) e);
  of_char = λ c more scalar some at. at c more refl;
}

pub tells : TellsOf 0x340 (λ c. is_assigned c ≡ true) IsTold
tells =
    either _ _ _ _ (by_pairs _ _ _ known finds_lead by_leads)
    (either _ _ _ _ (by_pairs _ _ _ known (is_in FIRST) by_first)
    (either _ _ _ _ (by_pairs _ _ _ known (is_in SECOND) by_second)
    (either _ _ _ _ (by_scripts _ _ _ known SCRIPTS of_scripts) by_look_up)))
