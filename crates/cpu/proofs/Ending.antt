-- The code finishes with the registers already written; the rule names them apart.
use Rattle.std.proofs.Common.{◌≡◌, ℕ, List, refl, ◌∙◌, ap₂}
use Rattle.bus.specs.Meaning.{Meaning}
use Rattle.machine.specs.declared.Registers.{Registers}
use Rattle.machine.specs.declared.Context.{Context}
use Rattle.machine.specs.State.{with_registers}
use Rattle.machine.specs.Clock.{finish_at}
use Rattle.risc5.specs.Set.{card}

written_apart : (M : Meaning) (f : Context) (n : ℕ) (r : Registers) (l : ℕ) (h : List ℕ) → finish_at M card (with_registers f r) n r l h ≡ finish_at M card f n r l h
unfolding finish_at
written_apart M f n r l h = refl

pub finish_with : (M : Meaning) (f : Context) (n k : ℕ) (r s : Registers) (l : ℕ) (h : List ℕ) → n ≡ k → r ≡ s
    → finish_at M card (with_registers f r) n r l h ≡ finish_at M card f k s l h
finish_with M f n k r s l h p q = written_apart M f n r l h ∙ ap₂ (λ (i : ℕ) (x : Registers). finish_at M card f i x l h) p q
