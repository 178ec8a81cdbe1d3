-- The clocks of the multiplier and of the divider come to the exact product, quotient and rest.
use Rattle.std.proofs.Common.{◌≡◌, ℕ, zero, suc, ◌<◌, ◌^◌, refl, ap, ◌∙◌, lit<, arith}
use Rattle.isa.specs.declared.Kind.{Kind}
use Rattle.isa.specs.declared.Kind.TheVariants.{Register, Multiply, Divide, Load, Store, Branch}
use Rattle.isa.specs.Kinds.{kind_of, clocks_by}
use Rattle.isa.proofs.Counts.{at_least_one}
use Rattle.unit.specs.declared.Pair.{Pair}
use Rattle.unit.specs.declared.Factors.{Factors}
use Rattle.unit.specs.declared.Division.{Division}
use Rattle.unit.specs.declared.Words.{Words}
use Rattle.unit.specs.After.{after}
use Rattle.unit.specs.Waiting.{carried, carried_after}
use Rattle.unit.specs.Exact.{product, words_of, quotient, remainder}
use Rattle.unit.specs.Steps.{mul_start, mul_step, mul_answer, div_start, div_step, div_answer}
use Rattle.unit.proofs.Waitings.{waits}
use Rattle.unit.proofs.Products.{product_words}
use Rattle.unit.proofs.Divisions.{division_words}
use Rattle.machine.specs.declared.Registers.{Registers}
use Rattle.machine.specs.State.{rest}
use Rattle.machine.specs.Isa.{stepping, Lawful, turns}
use Rattle.risc5.specs.Registers.{given}
use Rattle.risc5.specs.Units.{factors, division, multiplying, dividing, multiplied_by, divided_by, multiplied, divided}
use Rattle.risc5.specs.Set.{class_by, effect_by, turn_by, result_by, card, pace}

module _ (w : ℕ) (g : Registers) where
  first_fits : (factors w g).first < 2 ^ 32
  unfolding factors
  first_fits = omega arith

  dividend_fits : (division w g).dividend < 2 ^ 32
  unfolding division
  dividend_fits = omega arith

  -- a unit's pairs, clock by clock, and what it writes after all of them
  module _ (start : Pair) (step : ℕ → Pair → Pair) (turns_by : (n : ℕ) (p : Pair) → pace.turn w g n p ≡ carried start step 32 0 n p) where
    pairs : (n : ℕ) → turns pace w g n ≡ carried_after start step 32 0 rest.pair n
    unfolding carried_after
    pairs zero = refl
    pairs (suc n) = turns_by n (turns pace w g n) ∙ ap (carried start step 32 0 n) (pairs n)

    writes : (answer : Pair → Words) (exact : Words) → answer (after step start 32) ≡ exact → given w g (answer (turns pace w g 32)) ≡ given w g exact
    writes answer exact e =
        ap (λ (p : Pair). given w g (answer p)) (pairs 32 ∙ (waits start step 32 0 0 rest.pair).whole (lit< tt)) ∙ ap (given w g) e

  product_given : kind_of w ≡ Multiply → multiplied_by w g (turns pace w g 32) ≡ multiplied w g
  unfolding multiplying multiplied_by multiplied
  product_given e =
      let f : Factors = factors w g in
      writes (mul_start f) (mul_step f) (λ n p. ap (λ (k : Kind). turn_by k w g n p) e) (mul_answer f) (words_of (product f)) (product_words f first_fits)

  quotient_given : kind_of w ≡ Divide → divided_by w g (turns pace w g 32) ≡ divided w g
  unfolding dividing divided_by divided
  quotient_given e =
      let f : Division = division w g in
      writes (div_start f) (div_step f) (λ n p. ap (λ (k : Kind). turn_by k w g n p) e) (div_answer f) (record { low = quotient f; high = remainder f }) (division_words f dividend_fits)

  exact_by : (pc : ℕ) (k : Kind) → kind_of w ≡ k → class_by k ≡ stepping → result_by k w g (turns pace w g (clocks_by k)) ≡ effect_by k w pc g
  exact_by pc (Register op) e s = cc
  exact_by pc Multiply e s = product_given e
  exact_by pc Divide e s = quotient_given e
  exact_by pc Load e s = cc
  exact_by pc Store e s = cc
  exact_by pc Branch e s = cc

pub fits : Lawful card pace
fits = record { least = λ w. at_least_one (kind_of w); exact = λ w pc g s. exact_by w g pc (kind_of w) refl s }
