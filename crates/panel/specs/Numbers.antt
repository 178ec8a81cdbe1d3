-- A feed by its numbers.
use Rattle.std.specs.Prelude.{ℕ, List, ◌∷◌}
use Rattle.panel.specs.declared.queue.Feed.{Feed}

-- its age in clocks, how many of its bytes were taken, how many it has, and its 64 places
abbrev pub numbers : Feed → List ℕ
numbers f = f.age ∷ f.taken ∷ f.count ∷ f.bytes
