-- A core is clocked line by line until the word shown at an address is not 0.
use Rattle.std.specs.Prelude.{◌≡◌, ℕ, ◌%◌, ◌^◌, ◌<◌, ◌≤◌, List, length, take, slice_index, Ok, Err, Result}
use Rattle.bus.specs.Meaning.{Meaning}
use Rattle.machine.specs.State.{State}
use Rattle.machine.specs.Clock.{run}
use Rattle.risc5.specs.Set.{card, pace}
use Rattle.refusal.specs.declared.Refusal.{Refusal}
use Rattle.history.specs.declared.watching.Unseen.{Unseen}

-- the word shown at an address after the first j lines
abbrev pub shown_after : Meaning → State → List ℕ → ℕ → ℕ → ℕ
shown_after M s ls at j = M.shown (run M card pace (take j ls) s).contents (at % 2 ^ 22)

-- After line k it is first seen not to be 0, counting from 1.
pub record FirstSeen (M : Meaning) (s : State) (ls : List ℕ) (at k : ℕ) : Type 0 where
  pub within : (1 ≤ k) × (k ≤ length ls)
  pub seen : shown_after M s ls at k ≡ 0 → ⊥
  pub unseen : (j : ℕ) → 1 ≤ j → j < k → shown_after M s ls at j ≡ 0

-- It is 0 after each of the first n lines, which are all of them unless the next one is over 3.
pub record NotSeen (M : Meaning) (s : State) (ls : List ℕ) (at n : ℕ) : Type 0 where
  pub within : n ≤ length ls
  pub all : n < length ls → 3 < slice_index ls n
  pub unseen : (j : ℕ) → 1 ≤ j → j ≤ n → shown_after M s ls at j ≡ 0

abbrev pub Tells : Meaning → State → List ℕ → ℕ → Result ℕ Unseen → Type 0
Tells M s ls at (Ok k) = FirstSeen M s ls at k
Tells M s ls at (Err u) = NotSeen M s ls at u.lines

-- the lines taken
abbrev pub taken : Result ℕ Unseen → ℕ
taken (Ok k) = k
taken (Err u) = u.lines

-- a line is taken unless it is over 3
abbrev pub SteppedBy : ℕ → Result (Unit {0}) Refusal → Type 0
SteppedBy l (Ok u) = l ≤ 3
SteppedBy l (Err r) = 3 < l

abbrev pub left_after : Result (Unit {0}) Refusal → State → State → State
left_after (Ok u) x y = x
left_after (Err r) x y = y
