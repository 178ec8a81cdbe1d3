-- The waiting, for any unit and any number of lead-in and closing clocks.
use Rattle.std.proofs.Common.{◌≡◌, ℕ, zero, suc, ◌+◌, ◌-◌, ◌<◌, min, Bool, true, false, cond, ◌&&◌, eqb, ltb, leb, refl, ap, ◌∙◌, arith}
use Rattle.std.proofs.lemmas.Bool.Decides.{nat_tests}
use Rattle.unit.specs.After.{after}
use Rattle.unit.specs.Waiting.{carried, carried_after, Waits}

module _ {P : Type 0} (start : P) (step : ℕ → P → P) (count lead : ℕ) where
  -- a clock before, among or past the steps
  place : (s : ℕ) (t u : Bool) → leb lead s ≡ t → ltb (s - lead) count ≡ u → cond (t && u) (step (s - lead) (after step start (min (s - lead) count))) (after step start (min (s - lead) count)) ≡ after step start (min (suc s - lead) count)
  unfolding after
  place s true true e f =
      let m : min (s - lead) count ≡ s - lead = grind (arith, nat_tests) in
      let n : min (suc s - lead) count ≡ suc (s - lead) = grind (arith, nat_tests) in
      rw (m, n)
  place s true false e f = ap (after step start) (grind (arith, nat_tests))
  place s false true e f = ap (after step start) (grind (arith, nat_tests))
  place s false false e f = ap (after step start) (grind (arith, nat_tests))

  -- one clock, from what stands for the pair of the steps so far
  pub once : (s : ℕ) (q : P) → cond (eqb s 0) start q ≡ after step start (min (s - lead) count) → carried start step count lead s q ≡ after step start (min (suc s - lead) count)
  once s q e = rw e (place s (leb lead s) (ltb (s - lead) count) refl refl)

  pairs : (p : P) (k : ℕ) → carried_after start step count lead p (suc k) ≡ after step start (min (suc k - lead) count)
  unfolding after carried_after
  pairs p zero = let z : min (0 - lead) count ≡ 0 = omega arith in once 0 p (rw z)
  pairs p (suc k) =
      let f : eqb (suc k) 0 ≡ false = grind (arith, nat_tests) in
      once (suc k) (carried_after start step count lead p (suc k)) (rw f (pairs p k))

  whole : (p : P) (closing total : ℕ) → total ≡ lead + count + closing → 0 < total → carried_after start step count lead p total ≡ after step start count
  whole p closing zero e h = absurd (omega arith)
  whole p closing (suc k) e h = let m : min (suc k - lead) count ≡ count = omega arith in pairs p k ∙ ap (after step start) m

pub waits : {P : Type 0} (start : P) (step : ℕ → P → P) (count : ℕ) → Waits start step count
waits start step count lead closing p =
    record {
      pairs = pairs start step count lead p;
      on = λ k h. grind (arith, nat_tests);
      ends = λ k e. grind (arith, nat_tests);
      whole = whole start step count lead p closing (lead + count + closing) refl;
    }
