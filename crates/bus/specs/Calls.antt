-- The calls that change a bus, one after the other. (A fetch changes nothing.)
use Rattle.std.specs.Prelude.{ℕ, ◌+◌, List, [], ◌∷◌}
use Rattle.bus.specs.declared.Marks.{Marks}
use Rattle.bus.specs.Meaning.{Meaning}

pub data Call : Type 0 where
  -- so many clocks pass
  passes : ℕ → Call
  -- a word address is read
  reads : ℕ → Call
  -- at a word address a word is written under four marks
  writes : ℕ → ℕ → Marks → Call

-- the contents after one call
abbrev pub called : Meaning → List ℕ → Call → List ℕ
called m h (passes n) = m.passed h n
called m h (reads at) = m.read h at
called m h (writes at word marks) = m.write h at word marks

-- the contents after all of them
abbrev pub after : Meaning → List ℕ → List Call → List ℕ
after m h [] = h
after m h (c ∷ cs) = after m (called m h c) cs

-- the clocks that passed in one, and in all of them
abbrev pub lasted : Call → ℕ
lasted (passes n) = n
lasted (reads at) = 0
lasted (writes at word marks) = 0

abbrev pub clocks : List Call → ℕ
clocks [] = 0
clocks (c ∷ cs) = lasted c + clocks cs
