-- What the two machines ask of an instruction set: what a word does, apart from how long it takes.
use Rattle.std.specs.Prelude.{◌≡◌, ℕ, zero, suc, ◌≤◌, Bool}
use Rattle.isa.specs.declared.Sent.{Sent}
use Rattle.unit.specs.declared.Pair.{Pair}
use Rattle.machine.specs.declared.Registers.{Registers}
use Rattle.machine.specs.State.{rest}

-- how a word goes about it: by a load, a store, the steps of a unit, or at once
pub data Class : Type 0 where
  loading : Class
  storing : Class
  stepping : Class
  plain : Class

-- What a word does, by the word, its address and the registers before it.
pub record Isa : Type 0 where
  pub class : ℕ → Class
  -- of a load or store: its word address, the registers after a load of the word shown there, and what a store sends
  pub place : ℕ → Registers → ℕ
  pub loaded : ℕ → Registers → ℕ → Registers
  pub sent : ℕ → Registers → Sent
  -- of every word: the registers after it (a load or store leaves them as the access left them), and the address reached if it does not return
  pub effect : ℕ → ℕ → Registers → Registers
  pub next : ℕ → ℕ → Registers → ℕ
  -- whether it returns from interrupt, and enable after it
  pub returns : ℕ → Bool
  pub enables : ℕ → Bool → Bool

-- How long it takes, and by which pairs.
pub record Pace : Type 0 where
  -- the clocks of a word, by the table
  pub clocks : ℕ → ℕ
  -- of a step unit: the pair after one clock at a step number, and the registers after its last
  pub turn : ℕ → Registers → ℕ → Pair → Pair
  pub result : ℕ → Registers → Pair → Registers

-- a unit's pair after its first clocks
abbrev pub turns : Pace → ℕ → Registers → ℕ → Pair
turns T w r zero = rest.pair
turns T w r (suc s) = T.turn w r s (turns T w r s)

-- A pace fits an instruction set if every word takes a clock and the clocks of a step unit come to its exact effect.
pub record Lawful (I : Isa) (T : Pace) : Type 0 where
  pub least : (w : ℕ) → 1 ≤ T.clocks w
  pub exact : (w pc : ℕ) (r : Registers) → I.class w ≡ stepping → T.result w r (turns T w r (T.clocks w)) ≡ I.effect w pc r
