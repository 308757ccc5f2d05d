-- A front of a text of which the non-starters are counted.
use Rattle.nf_safe.proofs.Common.{◌≡◌, ℕ, ◌+◌, ◌≤◌, not, cond, List, [], ◌∷◌, ◌++◌, length, encode_utf8_all, ap, ◌∙◌, arith, length-append, count_by, is_nonstarter, and_parts, sum_by-append, Properties, Nfkd, decomposed, is_sound, IsSoundText, IsSound-from_test}
use Rattle.std.specs.Prelude.{chars}
use Rattle.std.specs.Str.{IsUtf8}
use Rattle.std.proofs.Common.{◌*◌}
use Rattle.std.proofs.lemmas.Str.{chars-append, encodes-chars, length-le-encodes}
use Rattle.std.proofs.lemmas.List.Sums.{count_by-le-length}
use Rattle.nf_counts.specs.Counts.{IsCountedFront}
use Rattle.nf_counts.specs.declared.counted.Counted.{Counted}

module _ (p : Properties) where
  -- each has at most 18
  few : (y : List ℕ) → IsSoundText p y → count_by (is_nonstarter p) (decomposed Nfkd p y) ≤ 18 * length y
  few [] sound = omega arith
  few (c ∷ y) sound =
      let parts = and_parts (is_sound p c) _ sound in
      omega (arith, (IsSound-from_test p c parts.0).compat_few, count_by-le-length (is_nonstarter p) (p.compat c), few y parts.1, sum_by-append (λ d. cond (is_nonstarter p d) 1 0) (p.compat c) (decomposed Nfkd p y))

-- what is told of its size, and of what is counted in it
pub record IsCounted (p : Properties) (text : List ℕ) (counted : Counted) : Type 0 where
  pub split : chars text ≡ chars counted.front.now ++ chars counted.rest.now
  pub whole : length text ≡ length counted.front.now + length counted.rest.now
  pub bytes : encode_utf8_all (chars counted.front.now) ≡ counted.front.now
  pub chars_within : length (chars counted.front.now) ≤ length counted.front.now
  pub nonstarters_within : counted.counts.nonstarters ≤ 18 * length (chars counted.front.now)
  pub unassigned_within : counted.counts.unassigned ≤ length (chars counted.front.now)

pub counted_is : {p : Properties} {room : ℕ} {text : List ℕ} {counted : Counted} → IsCountedFront p room text counted → IsUtf8 counted.front.now → IsCounted p text counted
counted_is {p} {room} {text} {counted} is utf8 =
    let front = counted.front.now in
    let y = chars front in
    let bytes = encodes-chars front utf8 in
    record {
      split = ap chars is.split ∙ chars-append front counted.rest.now utf8;
      whole = ap length is.split ∙ length-append front counted.rest.now;
      bytes = bytes;
      chars_within = omega (arith, length-le-encodes y, ap length bytes);
      nonstarters_within = omega (arith, few p y is.sound);
      unassigned_within = omega (arith, is.unassigned, count_by-le-length (λ c. not (p.assigned c)) y);
    }
