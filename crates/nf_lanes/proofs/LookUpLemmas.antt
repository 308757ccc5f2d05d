-- A table of 16 entries, read at 16 places at once.
use Rattle.std.proofs.Common.{◌≡◌, ℕ, ◌+◌, ◌*◌, ◌/◌, ◌^◌, ◌<◌, List, map, length, get_or, replicate, arith, w8, Fits, refl}
use Rattle.std.proofs.lemmas.List.{get_or-map, length-map, ext_get_or}
use Rattle.std.proofs.lemmas.Simd.{Each1-weaker, Each1-zip2, Each2-splat, Each1-get_or, below_from_Fits, length-zip2, zip2_splat, swz_l, SwzOk, SwzOk-from_below, length-swz_l, get_or-swz_l_below}
use lib.Lanes.{zip2, Each1}

abbrev pub IsBlock : List ℕ → Type 0
IsBlock v = (length v ≡ 16) × Each1 (Fits w8) v

abbrev pub down : ℕ → ℕ → ℕ
down a b = a / 2 ^ b

-- at places f x m below 16
module _ (f : ℕ → ℕ → ℕ) (m : ℕ) (v : List ℕ) (fits : IsBlock v) (small : (a : ℕ) → a < 256 → f a m < 16) where
  pub swz_ok : SwzOk w8 16 16 0 (zip2 f v (replicate 16 m))
  swz_ok =
      SwzOk-from_below w8 16 1 16 0 (zip2 f v (replicate 16 m)) refl (omega (arith, length-zip2 f v (replicate 16 m) fits.0))
      (Each1-zip2 f (λ j. j < 16) v (replicate 16 m) (Each2-splat (λ a b. f a b < 16) v 16 m (Each1-weaker (λ a. a < 256) (λ a. f a m < 16) small v (below_from_Fits w8 v fits.1))))

  pub looked_up : (t : List ℕ) → swz_l w8 16 t 0 (zip2 f v (replicate 16 m)) ≡ map (λ x. get_or t (f x m) 0) v
  looked_up t =
      let js = map (λ x. f x m) v in
      let long : length js ≡ 16 = rw (length-map, fits.0) in
      rw (zip2_splat f v 16 m fits.0) (ext_get_or 0 _ _ (rw (length-swz_l, length-map, length-map)) (λ i h.
      let lt : i < 16 = omega (arith, length-swz_l w8 16 t 0 js) in
      let within : i < length v = omega (arith, fits.0) in
      let is : get_or js i 0 ≡ f (get_or v i 0) m = get_or-map (λ x. f x m) v i 0 0 within in
      let below : get_or js i 0 < 16 = omega (arith, is, small (get_or v i 0) (Each1-get_or (λ a. a < 256) v i 0 within (below_from_Fits w8 v fits.1))) in
      let first : 16 * ((0 + i) / 16) + get_or js i 0 ≡ get_or js i 0 = omega arith in
      rw (get_or-swz_l_below w8 16 t 0 js i (omega arith) below, first, is, get_or-map (λ x. get_or t (f x m) 0) v i 0 0 within)))
