-- A word, and a walk over words, in which there is no fault leave rows that fit; where help is on the subcommand that is met, or at
-- which the walk stops, is not help.
use Rattle.nf_cmd.proofs.Common.{cond_both, arith, ◌≡◌, ◌&&◌, ℕ, Bool, cond, true, false, zero, suc, refl, List, [], ◌∷◌, length, drop, Option, Some, None, encode_utf8, find, slice_get, is_some, chars, option_map_or, Kinds, or_else, Held, Row, Rule, Text, settled, settle_fault, use_fault, Step, fold, bytes_eq, Names, subcommand, walked, Shape, walk_fault}
unfoldable use Rattle.clap.specs.Faults.{flags_fault}
use Rattle.clap.specs.Faults.{other_fault, step_fault, turn_fault, word_fault, flag_word_fault, positional_fault, stray_fault, bundle_fault, bundle_step_fault, long_fault, option_fault, react_fault, short_fault}
use Rattle.clap.specs.Lexer.{long_of, short_of}
unfoldable use Rattle.clap.specs.Walk.{bundle_met}
use Rattle.clap.specs.Walk.{Outcome, Waiting, Walk, after_flag, after_step, arg_by_index, done, plain, waits, long_or_other, next, option, plain_word, short_or_plain, subcommand_met, subcommand_or_other, to_positional, trailing, value, walked_from, word_met, arg_by_id, arg_by_long, arg_by_short, attached_value, bundle, bundle_step, flag_met, is_pending, long_met, option_met, option_word, positional_held, reacted, settled_rows, short_met, takes_several, takes_values, used_by_id}
use Rattle.clap.specs.declared.error.kind.ErrorKind.TheVariants as kind
use Rattle.nf_cmd.proofs.Rows.{IsIn, EachFits, each-used, find-in, StepsToNoHelp, StopsAtNoHelp}

-- the option is one of the rules, where it is there
abbrev IfIn : Option Rule → List Rule → Type 0
IfIn o c = (a : Rule) → o ≡ Some a → IsIn a c

find-if_in : (p : Rule → Bool) (c : List Rule) → IfIn (find p c) c
find-if_in p c a e = (find-in p c a e).0

module _ (c : List Rule) where
  abbrev Holds : Held → Type 0
  Holds h = EachFits c h.rows

  abbrev Met : Held × Outcome → Type 0
  Met m = Holds m.0

  each-used_by : (o : Option Rule) (values : List Text) (rows : List Row) → IfIn o c → option_map_or (λ a. use_fault false a values rows) o [] ≡ []
      → EachFits c rows → EachFits c (used_by_id o values rows)
  each-used_by None values rows inside none f = f
  each-used_by (Some a) values rows inside none f = each-used c a (inside a refl) values rows none f

  each-settled_rows : (p : Option (Text × List Text)) (rows : List Row)
      → option_map_or (λ q. option_map_or (λ a. use_fault false a q.1 rows) (arg_by_id c q.0) []) p [] ≡ [] → EachFits c rows → EachFits c (settled_rows c p rows)
  each-settled_rows None rows none f = f
  each-settled_rows (Some q) rows none f = each-used_by (arg_by_id c q.0) q.1 rows (find-if_in _ c) none f

  pub each-settled : (h : Held) → settle_fault c false h ≡ [] → Holds h → Holds (settled c h)
  each-settled h none f = each-settled_rows h.pending h.rows none f

  each-reacted : (a : Rule) (values : List Text) (h : Held) → IsIn a c → react_fault c false a values h ≡ [] → Holds h → Holds (reacted c a values h)
  each-reacted a values h inside none f =
      each-used c a inside values (settled c h).rows (grind arith) (each-settled h (grind arith) f)

  each-option_met : (a : Rule) (v : Option Text) (h : Held) → IsIn a c → option_fault c false a v h ≡ [] → Holds h → Met (option_met c a v h)
  each-option_met a (Some v) h inside none f = each-reacted a (v ∷ []) h inside none f
  each-option_met a None h inside none f = each-settled h none f

  each-flag_met : (a : Rule) (v : Option Text) (h : Held) → IsIn a c → cond (is_some v) (kind.TooManyValues ∷ []) (react_fault c false a [] h) ≡ [] → Holds h
      → Met (flag_met c a v h)
  each-flag_met a (Some v) h inside none f = f
  each-flag_met a None h inside none f = each-reacted a [] h inside none f

  each-long_met : (o : Option Rule) (v : Option Text) (h : Held) → IfIn o c → long_fault c false o v h ≡ [] → Holds h → Met (long_met c o v h)
  each-long_met None v h inside none f = f
  each-long_met (Some a) v h inside none f = cond_both (takes_values a) _ _ Met
      (λ e. each-option_met a v h (inside a refl) (grind arith) f) (λ e. each-flag_met a v h (inside a refl) (grind arith) f)

  each-short_met : (o : Option Rule) (rest : Text) (h : Held) (then : Held → Held × Outcome) (fault : Held → Kinds) → IfIn o c
      → short_fault c false o rest h fault ≡ [] → ((k : Held) → fault k ≡ [] → Holds k → Met (then k)) → Holds h → Met (short_met c o rest h then)
  each-short_met None rest h then fault inside none step f = f
  each-short_met (Some a) rest h then fault inside none step f = cond_both (takes_values a) _ _ Met
      (λ e. each-option_met a (attached_value rest) h (inside a refl) (grind arith) f)
      (λ e. step (reacted c a [] h) (grind arith) (each-reacted a [] h (inside a refl) (grind arith) f))

  each-bundle_met : (k : ℕ) (flags : Text) (skip : ℕ) (so_far : Outcome) (h : Held) → flags_fault c false k flags skip h ≡ [] → Holds h
      → Met (bundle_met c k flags skip so_far h)
  unfolding bundle_met flags_fault
  each-bundle_met zero flags skip so_far h none f = f
  each-bundle_met (suc k) flags skip so_far h none f =
      go (λ t n o m e g. each-bundle_met k t n o m e g) (slice_get (chars flags) 0) skip none
    where
      go : ((t : Text) (n : ℕ) (o : Outcome) (m : Held) → flags_fault c false k t n m ≡ [] → Holds m → Met (bundle_met c k t n o m))
          → (x : Option ℕ) (n : ℕ) → bundle_step_fault c false x flags n h (flags_fault c false k) ≡ []
          → Met (bundle_step c x flags n so_far h (bundle_met c k))
      go rest None n e = f
      go rest (Some x) zero e =
          each-short_met (arg_by_short c x) (drop (length (encode_utf8 x)) flags) h _ _ (find-if_in _ c) e (λ m e' g. rest _ 0 done m e' g) f
      go rest (Some x) (suc n) e = rest (drop (length (encode_utf8 x)) flags) n so_far h e f

  each-positional : (a : Rule) (word : Text) (h : Held) → positional_fault c false a h ≡ [] → Holds h → Holds (positional_held c a word h)
  each-positional a word h none f =
      cond_both (is_pending a h.pending && takes_several a) _ _ Holds (λ e. f) (λ e. each-settled h (grind arith) f)

  module _ (help_off : Bool) where
    abbrev Steps : Held × Step → Type 0
    Steps m = Holds m.0 × StepsToNoHelp help_off m.1

    each-plain_word : (waiting : Waiting) (word : Text) (h : Held) → Holds h → Steps (plain_word c waiting word h)
    each-plain_word (option id) word h f = (elim (arg_by_id c id) as (λ o. Holds (option_word o id word h).0) [ None ↦ f | Some a ↦ f ], tt)
    each-plain_word _ word h f = (f, tt)

    each-after_flag : (waiting : Waiting) (word : Text) (m : Held × Outcome) → Met m → Steps (after_flag c waiting word m.0 m.1)
    each-after_flag waiting word (h, done) f = (f, tt)
    each-after_flag waiting word (h, waits id) f = (f, tt)
    each-after_flag waiting word (h, _) f = each-plain_word waiting word h f

    each-short_or_plain : (waiting : Waiting) (word : Text) (o : Option Text) (h : Held) → option_map_or (λ flags. bundle_fault c false flags h) o [] ≡ []
        → Holds h → Steps (short_or_plain c waiting word o h)
    each-short_or_plain waiting word None h none f = each-plain_word waiting word h f
    each-short_or_plain waiting word (Some flags) h none f = each-after_flag waiting word (bundle c flags h)
        (each-bundle_met (length flags) flags h.skip plain (record h { skip = 0 }) none f)

    each-long_or_other : (waiting : Waiting) (word : Text) (o : Option (Text × Option Text)) (h : Held) → flag_word_fault c false o word h ≡ []
        → Holds h → Steps (long_or_other c waiting word o h)
    each-long_or_other waiting word None h none f = each-short_or_plain waiting word (short_of word) h none f
    each-long_or_other waiting word (Some p) h none f = each-after_flag waiting word (long_met c (arg_by_long c p.0) p.1 h)
        (each-long_met (arg_by_long c p.0) p.1 h (find-if_in _ c) none f)

module _ (s : Shape) (off : s.args_override_self ≡ false) (names : Names) where
  abbrev Keeps : Walk → Type 0
  Keeps w = EachFits s.rules w.held.rows × StopsAtNoHelp s.disable_help_subcommand w.stopped

  abbrev Turns : Held × Step → Type 0
  Turns m = EachFits s.rules m.0.rows × StepsToNoHelp s.disable_help_subcommand m.1

  each-other : (found : Option Text) (waiting : Waiting) (position : ℕ) (word : Text) (h : Held) → other_fault s found word h ≡ [] → EachFits s.rules h.rows
      → Turns (subcommand_or_other s.rules found waiting position word h)
  each-other (Some name) waiting position word h none f = (f, λ helps. grind arith)
  each-other None waiting position word h none f = cond_both (bytes_eq word (45 ∷ 45 ∷ [])) _ _ Turns
      (λ e. (f, tt)) (λ e. each-long_or_other s.rules s.disable_help_subcommand waiting word (long_of word) h (rw (e, off) at none) f)

  each-word_met : (is_trailing : Bool) (waiting : Waiting) (position : ℕ) (word : Text) (h : Held) → word_fault s names is_trailing waiting word h ≡ []
      → EachFits s.rules h.rows → Turns (word_met s.rules names is_trailing waiting position word h)
  each-word_met true waiting position word h none f = (f, tt)
  each-word_met false waiting position word h none f = each-other (subcommand_met names waiting word) waiting position word h none f

  each-to_positional : (o : Option Rule) (word : Text) (w : Walk) (h : Held) → option_map_or (λ a. positional_fault s.rules s.args_override_self a h) o (stray_fault s) ≡ []
      → EachFits s.rules h.rows → StopsAtNoHelp s.disable_help_subcommand w.stopped → Keeps (to_positional s.rules o word w h)
  each-to_positional None word w h none f stops = (f, stops)
  each-to_positional (Some a) word w h none f stops = (each-positional s.rules a word h (rw off at none) f, tt)

  each-after_step : (word : Text) (w : Walk) (m : Held × Step) → step_fault s w.position m.0 m.1 ≡ [] → Turns m → StopsAtNoHelp s.disable_help_subcommand w.stopped
      → Keeps (after_step s.rules word w m.0 m.1)
  each-after_step word w (h, value) none f stops = each-to_positional (arg_by_index s.rules w.position) word w h none f.0 stops
  each-after_step word w (h, subcommand name) none f stops = f
  each-after_step word w (h, next waiting) none f stops = (f.0, stops)
  each-after_step word w (h, trailing position) none f stops = (f.0, stops)

  each-walked : (w : Walk) (word : Text) → turn_fault s names w word ≡ [] → Keeps w → Keeps (walked s.rules names w word)
  unfolding walked
  each-walked w word none f = go w.stopped none f.1
    where
      m : Held × Step
      m = word_met s.rules names w.is_trailing w.waiting w.position word w.held

      go : (o : Option (Text × List Text)) → cond (is_some o) [] (or_else (word_fault s names w.is_trailing w.waiting word w.held) (step_fault s w.position m.0 m.1)) ≡ []
          → StopsAtNoHelp s.disable_help_subcommand o → Keeps (walked_from s.rules names o w word)
      go (Some p) e stops = (f.0, stops)
      go None e stops =
          each-after_step word w m (grind arith) (each-word_met w.is_trailing w.waiting w.position word w.held (grind arith) f.0) f.1

  pub each-walk : (w : Walk) (words : List Text) → walk_fault s names w words ≡ [] → Keeps w → Keeps (fold (walked s.rules names) w words)
  unfolding walk_fault
  each-walk w [] none f = f
  each-walk w (word ∷ rest) none f =
      each-walk (walked s.rules names w word) rest (grind arith) (each-walked w word (grind arith) f)
