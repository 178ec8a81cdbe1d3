-- Lines: one byte of input for each clock. Bit 0 is the tick line, bit 1 the stall line.
use Rattle.std.specs.Prelude.{ℕ, ◌+◌, ◌/◌, ◌%◌, Bool, false, cond, not, ◌&&◌, ◌||◌, List, [], ◌∷◌, fold, ◌==◌}
use Rattle.machine.specs.declared.Ticks.{Ticks}

abbrev pub ticking : ℕ → Bool
ticking l = l % 2 == 1

abbrev pub stalled : ℕ → Bool
stalled l = l / 2 % 2 == 1

-- 1 if it is so, else 0
abbrev pub one : Bool → ℕ
one b = cond b 1 0

-- A rise is a tick up after a last tick down. A line makes pending up if there is a rise, and leaves it as it was otherwise.
abbrev pub noted : ℕ → Ticks → Ticks
noted l t = record { pending = t.pending || (ticking l && not t.last); last = ticking l }

-- on a line that acknowledges, pending goes down, and a rise on it is lost
abbrev pub cleared : ℕ → Ticks
cleared l = record { pending = false; last = ticking l }

-- over some lines, one after the other
abbrev pub noted_all : List ℕ → Ticks → Ticks
noted_all ls t = fold (λ (q : Ticks) (l : ℕ). noted l q) t ls

-- how many lines are stalled, and how many are not
unfoldable pub stalls : List ℕ → ℕ
stalls [] = 0
stalls (l ∷ ls) = one (stalled l) + stalls ls

unfoldable pub unstalled : List ℕ → ℕ
unstalled [] = 0
unstalled (l ∷ ls) = one (not (stalled l)) + unstalled ls
