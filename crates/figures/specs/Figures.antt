-- Figures of the card, computed from the definitions that the code is proved to follow, and what the card does where a line could be read otherwise.
use Rattle.std.specs.Prelude.{◌≡◌, Bool, true, false, [], ◌∷◌, ℕ}
use Rattle.bus.specs.Lanes.{joined}
use Rattle.bus.specs.Meaning.{Meaning}
use Rattle.alu.specs.Arithmetic.{sum, sum_carries, sum_overflows, asr}
use Rattle.unit.specs.declared.Words.{Words}
use Rattle.unit.specs.declared.Factors.{Factors}
use Rattle.unit.specs.declared.Division.{Division}
use Rattle.unit.specs.After.{after}
use Rattle.machine.specs.Laws.{ARiseOnAcknowledgingIsLost, AStalledLineIsNoStep, AStoreLandsBeforeTheFetch}
use Rattle.risc5.specs.Set.{card, pace}
use Rattle.unit.specs.Steps.{mul_start, mul_step, mul_answer, div_start, div_step, div_answer}

-- what the multiplier gives after its 32 steps, and the divider after its 32
abbrev pub multiplied : Bool → ℕ → ℕ → Words
multiplied signed first second =
    let f : Factors = record { first = first; second = second; signed = signed } in mul_answer f (after (mul_step f) (mul_start f) 32)

abbrev pub divided : ℕ → ℕ → Words
divided dividend divisor =
    let f : Division = record { dividend = dividend; divisor = divisor } in div_answer f (after (div_step f) (div_start f) 32)

abbrev pub words : ℕ → ℕ → Words
words low high = record { low = low; high = high }

pub record Figures : Type 0 where
  -- FFFFFFFFH + 1 is 0 with C, not V
  pub wraps : sum 0xFFFF_FFFF 1 false ≡ 0
  pub wraps_carries : sum_carries 0xFFFF_FFFF 1 false ≡ true
  pub wraps_overflows : sum_overflows 0xFFFF_FFFF 1 false ≡ false
  -- 7FFFFFFFH + 1 has V, not C
  pub tops_carries : sum_carries 0x7FFF_FFFF 1 false ≡ false
  pub tops_overflows : sum_overflows 0x7FFF_FFFF 1 false ≡ true
  -- ASR of 80000000H by 31 is FFFFFFFFH, by 32 unchanged
  pub asr_31 : asr 0x8000_0000 31 ≡ 0xFFFF_FFFF
  pub asr_32 : asr 0x8000_0000 32 ≡ 0x8000_0000
  -- FFFFFFFFH squared is 1, with H 0 signed and FFFFFFFEH unsigned
  pub squared_signed : multiplied true 0xFFFF_FFFF 0xFFFF_FFFF ≡ words 1 0
  pub squared_unsigned : multiplied false 0xFFFF_FFFF 0xFFFF_FFFF ≡ words 1 0xFFFF_FFFE
  -- 7 by 0 is FFFFFFFFH and rests 7
  pub by_zero : divided 7 0 ≡ words 0xFFFF_FFFF 7
  -- bytes 0, 0, 1, 0 at addresses 0 to 3 load as 65,536
  pub big_endian : joined (0 ∷ 0 ∷ 1 ∷ 0 ∷ []) ≡ 65536
  -- a rise on the acknowledging line is lost, over any bus
  pub rise : (M : Meaning) → ARiseOnAcknowledgingIsLost M card pace
  -- a store lands before the next word is fetched
  pub store : (M : Meaning) → AStoreLandsBeforeTheFetch M card
  -- a stalled line is no unit step
  pub stall : (M : Meaning) → AStalledLineIsNoStep M card pace
