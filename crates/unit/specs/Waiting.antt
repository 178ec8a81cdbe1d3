-- How a core waits for a unit that has count steps: lead clocks come before the first step (lead-in), and others after the last (closing).
use Rattle.std.specs.Prelude.{◌≡◌, ℕ, zero, suc, ◌+◌, ◌-◌, ◌<◌, min, Bool, true, false, cond, ◌&&◌, ◌==◌, nat_le, nat_lt}
use Rattle.unit.specs.After.{after}

-- The pair after one more clock, at step number s. The first clock starts from the start pair, a later one from the pair kept;
-- a clock after the lead-in and before the closing makes a step, and on any other the pair stands.
abbrev pub carried : {P : Type 0} → P → (ℕ → P → P) → ℕ → ℕ → ℕ → P → P
carried start step count lead s p =
    let q = cond (s == 0) start p in cond (nat_le lead s && nat_lt (s - lead) count) (step (s - lead) q) q

-- whether a wait of total clocks goes on after the clock at a step number
abbrev pub goes_on : ℕ → ℕ → Bool
goes_on total step = nat_lt (step + 1) total

-- the pair after the first k clocks, each handed what the one before it kept; p is the pair at step number 0
unfoldable pub carried_after : {P : Type 0} → P → (ℕ → P → P) → ℕ → ℕ → P → ℕ → P
carried_after start step count lead p zero = p
carried_after start step count lead p (suc k) = carried start step count lead k (carried_after start step count lead p k)

-- A wait of total clocks that begins with any pair p.
pub record Waited {P : Type 0} (start : P) (step : ℕ → P → P) (count lead total : ℕ) (p : P) : Type 0 where
  -- each clock leaves the pair of the steps that fit between the lead-in and it
  pub pairs : (k : ℕ) → carried_after start step count lead p (suc k) ≡ after step start (min (suc k - lead) count)
  -- every clock but the last goes on
  pub on : (k : ℕ) → k + 1 < total → goes_on total k ≡ true
  -- the last one does not
  pub ends : (k : ℕ) → k + 1 ≡ total → goes_on total k ≡ false
  -- and it leaves the pair of all steps
  pub whole : 0 < total → carried_after start step count lead p total ≡ after step start count

-- The waiting serves a unit, whatever the lead-in and closing clocks.
abbrev pub Waits : {P : Type 0} → P → (ℕ → P → P) → ℕ → Type 0
Waits {P} start step count = (lead closing : ℕ) (p : P) → Waited start step count lead (lead + count + closing) p
