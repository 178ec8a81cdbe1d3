-- What pins finishing.
use Rattle.std.proofs.Common.{◌≡◌, ℕ, ◌-◌, ◌%◌, ◌^◌, Bool, true, false, cond, not, ◌&&◌, List, length, sym, refl, ap, ◌∙◌, ap₂, arith}
use Rattle.bus.specs.Meaning.{Meaning}
use Rattle.machine.specs.declared.Registers.{Registers}
use Rattle.machine.specs.declared.Context.{Context}
use Rattle.machine.specs.Lines.{noted, cleared}
use Rattle.machine.specs.State.{State}
use Rattle.machine.specs.Isa.{Class, Isa, Pace}
use Rattle.machine.specs.Clock.{finish, finish_at, acks, access_by, waits, ends, clock}
use Rattle.machine.specs.Shares.{ahead}
use Rattle.machine.specs.Instructions.{ready_at, ready, before, instruction}
use Rattle.machine.specs.Laws.{ARiseOnAcknowledgingIsLost, AStalledLineIsNoStep, AStoreLandsBeforeTheFetch}
use Rattle.machine.proofs.Waits.{Way, stands, waiting, ending, way, clock-held}

finish_lost : (M : Meaning) (I : Isa) (f : Context) (r : Registers) (l : ℕ) (h : List ℕ) → acks f ≡ true → (finish M I f r l h).ticks.pending ≡ false
unfolding finish_at
finish_lost M I f r l h e = ap (λ (v : Bool). (cond v (cleared l) (noted l f.ticks)).pending) e

module _ (M : Meaning) (I : Isa) (T : Pace) (l : ℕ) (s : State) where
  lost : Way M I T l s → ends M I T l s ≡ true → acks s.core.context ≡ true → (clock M I T l s).core.context.ticks.pending ≡ false
  lost (stands p c) e k =
      let z : false ≡ true = sym (ap (λ (v : Bool). not v && not (waits M I T s.core)) p) ∙ e in
      let n : ◌≡◌ {A = ℕ} 0 1 = cc in
      absurd (omega arith)
  lost (waiting p q c) e k =
      let z : false ≡ true = sym (ap₂ (λ (u v : Bool). not u && not v) p q) ∙ e in
      let n : ◌≡◌ {A = ℕ} 0 1 = cc in
      absurd (omega arith)
  lost (ending p q c) e k = ap (λ (x : State). x.core.context.ticks.pending) c ∙ finish_lost M I _ _ l _ k

pub rise_lost : (M : Meaning) (I : Isa) (T : Pace) → ARiseOnAcknowledgingIsLost M I T
rise_lost M I T l s e k = lost M I T l s (way M I T l s) e k

pub no_step : (M : Meaning) (I : Isa) (T : Pace) → AStalledLineIsNoStep M I T
no_step M I T l s e =
    (ap (λ (x : State). x.core.waiting) (clock-held M I T l s e), ap (λ (x : State). x.core.context.registers) (clock-held M I T l s e))

fetched_from : (M : Meaning) (I : Isa) (f : Context) (r : Registers) (l : ℕ) (h : List ℕ)
    → (finish M I f r l h).fetched.ir ≡ M.shown h ((finish M I f r l h).fetched.pc % 2 ^ 22)
unfolding finish_at
fetched_from M I f r l h = refl

pub store_first : (M : Meaning) (I : Isa) → AStoreLandsBeforeTheFetch M I
unfolding instruction ready_at
store_first M I b l s e =
    let w : ℕ = s.context.fetched.ir in
    let r : Registers = s.context.registers in
    let f : Context = before M I b s in
    let x : ℕ = (instruction M I b l s).context.fetched.pc % 2 ^ 22 in
    fetched_from M I f (I.effect w f.fetched.pc f.registers) l (ready M I b s).contents
    ∙ ap (λ (k : Class). M.shown (M.passed (access_by M I k w r (M.passed s.contents (ahead b))).contents (length b - ahead b)) x) e
