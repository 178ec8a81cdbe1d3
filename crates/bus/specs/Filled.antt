-- A table of fixed size, made from a list of any length.
use Rattle.std.specs.Prelude.{ℕ, List, ◌++◌, take, replicate}

-- the first n items of a list, with one item repeated after them where there are fewer
unfoldable pub filled_with : {T : Type 0} → T → ℕ → List T → List T
filled_with rest n xs = take n (xs ++ replicate n rest)

-- the first n numbers of a list, with zeros after them where there are fewer
abbrev pub filled : ℕ → List ℕ → List ℕ
filled n xs = filled_with 0 n xs
