-- Instructions without an access only pass clocks.
use Rattle.std.proofs.Common.{◌≡◌, ℕ, ◌+◌, ◌-◌, ◌≤◌, ◌≢◌, ◌⊎◌, List, sym, refl, ap, ◌∙◌, inl, inr, arith}
use Rattle.bus.specs.Meaning.{Meaning}
use Rattle.isa.specs.declared.Kind.{Kind}
use Rattle.isa.specs.declared.Kind.TheVariants.{Load, Store, Register, Multiply, Divide, Branch}
use Rattle.isa.specs.Kinds.{kind_of}
use Rattle.machine.specs.declared.Context.{Context}
use Rattle.machine.specs.State.{with_registers}
use Rattle.machine.specs.Isa.{stepping, plain}
use Rattle.machine.specs.Clock.{Reached, access_by}
use Rattle.machine.specs.Instructions.{ready_at}
use Rattle.machine.proofs.Waits.{none_made}
use Rattle.risc5.specs.Set.{class_by, card}
use Rattle.cpu.specs.Cores.{boundary}

-- what code leaves that only passes n clocks
pub record Passed (M : Meaning) (f : Context) (h : List ℕ) (n a : ℕ) : Type 0 where
  pub context : f ≡ with_registers f (ready_at M card n a (boundary f h)).registers
  pub contents : M.passed h n ≡ (ready_at M card n a (boundary f h)).contents

-- the class of an instruction that is no load and no store
other_class : (k : Kind) → k ≢ Load → k ≢ Store → (class_by k ≡ stepping) ⊎ (class_by k ≡ plain)
other_class Load l s = absurd (l refl)
other_class Store l s = absurd (s refl)
other_class (Register o) l s = inr refl
other_class Multiply l s = inl refl
other_class Divide l s = inl refl
other_class Branch l s = inr refl

pub only_passes : (M : Meaning) (f : Context) (h : List ℕ) (n a : ℕ) → a ≤ n → kind_of f.fetched.ir ≢ Load → kind_of f.fetched.ir ≢ Store
    → Passed M f h n a
unfolding ready_at
only_passes M f h n a le l s =
    let w : ℕ = f.fetched.ir in
    let i : access_by M card (class_by (kind_of w)) w f.registers (M.passed h a) ≡ record { registers = f.registers; contents = M.passed h a } =
    none_made M card (class_by (kind_of w)) w f.registers (M.passed h a) (other_class (kind_of w) l s) in
    let s : a + (n - a) ≡ n = omega arith in
    record {
      context = sym (ap (λ (x : Reached). with_registers f x.registers) i);
      contents = sym (ap (λ (x : Reached). M.passed x.contents (n - a)) i ∙ M.more h a (n - a) ∙ ap (M.passed h) s);
    }
