-- Part c: over a still bus, with the ticking down, an instruction does not depend on its share.
use Rattle.std.proofs.Common.{◌≡◌, ℕ, zero, suc, ◌-◌, Bool, false, cond, not, ◌&&◌, ◌||◌, List, [], ◌∷◌, ◌++◌, length, sym, refl, ap, ◌∙◌, ap₂}
use mathlib.Core.Bool.{or-false}
use Rattle.bus.specs.Meaning.{Meaning, Still}
use Rattle.machine.specs.declared.Registers.{Registers}
use Rattle.machine.specs.declared.Ticks.{Ticks}
use Rattle.machine.specs.declared.Context.{Context}
use Rattle.machine.specs.State.{State, Boundary, live, with_registers, with_ticks}
use Rattle.machine.specs.Lines.{ticking, noted, noted_all}
use Rattle.machine.specs.Isa.{Isa, Pace, Lawful}
use Rattle.machine.specs.Clock.{Reached, access, acks, finish, finish_at}
use Rattle.machine.specs.Shares.{ahead}
use Rattle.machine.specs.Instructions.{ready_at, ready, instruction}
use Rattle.machine.specs.declared.Record.{Record}
use Rattle.machine.specs.Histories.{Call, After, lines, told}
use Rattle.machine.specs.Laws.{EndsBetween, Quiet, Law}
use Rattle.machine.proofs.Runs.{Ran, none, next}
use Rattle.machine.proofs.Histories.{used_all, by_the_clock_rules, by_the_instruction_machine, every_instruction, clocks_and_stalls}

abbrev down : Ticks → Ticks
down t = record { pending = t.pending; last = false }

noted_quiet : (l : ℕ) (t : Ticks) → ticking l ≡ false → noted l t ≡ down t
noted_quiet l t e =
    ap (λ (v : Bool). record { pending = t.pending || (v && not t.last); last = v }) e
    ∙ ap (λ (p : Bool). record { pending = p; last = false }) (or-false t.pending)

noted_all_quiet : (b : List ℕ) (t : Ticks) → Quiet b → (noted_all b t).pending ≡ t.pending
noted_all_quiet [] t q = refl
noted_all_quiet (x ∷ b) t q = noted_all_quiet b (noted x t) q.1 ∙ ap (λ (k : Ticks). k.pending) (noted_quiet x t q.0)

tick_zero : ticking 0 ≡ false
tick_zero = refl

quiet_split : (a b : List ℕ) → Quiet (a ++ b) → Quiet a × Quiet b
quiet_split [] b q = (tt, q)
quiet_split (x ∷ a) b q = ((q.0, (quiet_split a b q.1).0), (quiet_split a b q.1).1)

module _ (M : Meaning) (I : Isa) where
  -- finishing with the ticking down: of the ticks before, only pending counts
  finish_quiet : (f : Context) (r : Registers) (l : ℕ) (h : List ℕ) → ticking l ≡ false
      → finish M I f r l h ≡ finish M I (with_ticks f (down f.ticks)) r 0 h
  unfolding finish_at
  finish_quiet f r l h e =
      let o : Context = finish M I f r l h in
      ap (λ (k : Ticks). record { registers = o.registers; fetched = o.fetched; interrupts = o.interrupts; ticks = k })
      (ap₂ (cond (acks f))
      (ap (λ (v : Bool). record { pending = false; last = v }) (e ∙ sym tick_zero))
      (noted_quiet l f.ticks e ∙ sym (noted_quiet 0 (down f.ticks) tick_zero)))

  -- a number of instructions, each over one line
  abbrev times : ℕ → Boundary → Boundary
  times zero s = s
  times (suc n) s = times n (instruction M I [] 0 s)

  module _ (S : Still M) where
    abbrev alone : Boundary → Reached
    alone s = access M I s.context.fetched.ir s.context.registers s.contents

    ready_still : (b : List ℕ) (s : Boundary) → ready M I b s ≡ alone s
    unfolding ready_at
    ready_still b s =
        let j : ℕ = length b - ahead b in
        ap (λ (g : List ℕ).
        let a : Reached = access M I s.context.fetched.ir s.context.registers g in
        record { registers = a.registers; contents = M.passed a.contents j }) (S s.contents (ahead b))
        ∙ ap (λ (g : List ℕ). record { registers = (alone s).registers; contents = g }) (S (alone s).contents j)

    abbrev over : Boundary → Ticks → ℕ → Reached → Boundary
    over s t l a =
        let f : Context = with_ticks (with_registers s.context a.registers) t in
        record { context = finish M I f (I.effect f.fetched.ir f.fetched.pc f.registers) l a.contents; contents = M.passed a.contents 1 }

    alike : (b : List ℕ) (l : ℕ) (s : Boundary) → Quiet b → ticking l ≡ false → instruction M I b l s ≡ over s (down s.context.ticks) 0 (alone s)
    unfolding instruction
    alike b l s q e =
        let f : Context = with_ticks (with_registers s.context (alone s).registers) (noted_all b s.context.ticks) in
        ap (over s (noted_all b s.context.ticks) l) (ready_still b s)
        ∙ ap (λ (k : Context). record { context = k; contents = M.passed (alone s).contents 1 })
        (finish_quiet f (I.effect f.fetched.ir f.fetched.pc f.registers) l (alone s).contents e)
        ∙ ap (λ (p : Bool). over s (record { pending = p; last = false }) 0 (alone s)) (noted_all_quiet b s.context.ticks q)

    ran_quiet : {T : Pace} {s e : Boundary} {u : List ℕ} {rs : List Record} → Ran M I T s u rs e → Quiet u → e ≡ times (length rs) s
    ran_quiet none q = refl
    ran_quiet (next {s = s} {b = b} {u = u} {l = l} {rs = rs} v r) q =
        let o : Quiet (b ++ (l ∷ [])) × Quiet u = quiet_split (b ++ (l ∷ [])) u q in
        let i : Quiet b × Quiet (l ∷ []) = quiet_split b (l ∷ []) o.0 in
        ran_quiet r o.1 ∙ ap (times (length rs)) (alike b l s i.0 i.1.0 ∙ sym (alike [] 0 s tt tick_zero))

-- Of two paces of one instruction set as well.
pub paces_alike : (M : Meaning) (I : Isa) (T U : Pace) → Lawful I T → Lawful I U → Still M → (s : Boundary) (t u : List Call) (d e : State)
    → After M I T (live s) t d → After M I U (live s) u e → EndsBetween M I T (live s) t → EndsBetween M I U (live s) u
    → Quiet (lines t) → Quiet (lines u) → told t ≡ told u → d ≡ e
paces_alike M I T U L K S s t u d e a b y z p q k =
    by_the_instruction_machine M I T L s t d a y
    ∙ ap live
    (ran_quiet M I S (used_all M I T L s (lines t) y) p
    ∙ ap (λ (n : ℕ). times M I n s) (sym (every_instruction M I T L s t d a y) ∙ k ∙ every_instruction M I U K s u e b z)
    ∙ sym (ran_quiet M I S (used_all M I U K s (lines u) z) q))
    ∙ sym (by_the_instruction_machine M I U K s u e b z)

pub law : (M : Meaning) (I : Isa) (T : Pace) → Lawful I T → (b : Boundary) → Law M I T (live b)
law M I T L b =
    record {
      ends_by_the_clock_rules = by_the_clock_rules M I T L b;
      ends_by_the_instruction_machine = by_the_instruction_machine M I T L b;
      tells_every_instruction = every_instruction M I T L b;
      lines_are_clocks_and_stalls = clocks_and_stalls M I T L b;
      equal_ends_under_other_stalls = λ S. paces_alike M I T T L L S b;
    }
