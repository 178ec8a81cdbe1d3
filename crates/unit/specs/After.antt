use Rattle.std.specs.Prelude.{ℕ, zero, suc}

-- the pair after the first k steps, numbered from 0
unfoldable pub after : {P : Type 0} → (ℕ → P → P) → P → ℕ → P
after step start zero = start
after step start (suc k) = step k (after step start k)
