-- The clock rules: what one line does to a core and its bus.
use Rattle.std.specs.Prelude.{ℕ, zero, suc, ◌+◌, ◌%◌, ◌^◌, Bool, true, false, cond, not, ◌&&◌, ◌||◌, List, [], ◌∷◌, fold, nat_lt}
use Rattle.bus.specs.Meaning.{Meaning}
use Rattle.isa.specs.declared.Flags.{Flags}
use Rattle.unit.specs.declared.Pair.{Pair}
use Rattle.machine.specs.declared.Registers.{Registers}
use Rattle.machine.specs.declared.Interrupts.{Interrupts}
use Rattle.machine.specs.declared.Ticks.{Ticks}
use Rattle.machine.specs.declared.Context.{Context}
use Rattle.machine.specs.declared.Waiting.{Waiting}
use Rattle.machine.specs.declared.Core.{Core}
use Rattle.machine.specs.Lines.{stalled, noted, cleared, one}
use Rattle.machine.specs.State.{State, rest, with_registers, with_ticks}
use Rattle.machine.specs.Isa.{Class, loading, storing, stepping, plain, Isa, Pace}

-- registers and contents after an access
pub record Reached : Type 0 where
  pub registers : Registers
  pub contents : List ℕ

-- ---- Finishing, the same for the clock rules and for the instruction machine. f is the core as it finishes, with pending and last tick as they
-- were before the last line; n is the address after the instruction if it does not return, r its registers after the write, l the last line, and h
-- the contents that the next word is fetched from.

-- it acknowledges if pending and enable were up and mode down
abbrev pub acks : Context → Bool
acks f = f.ticks.pending && (f.interrupts.enable && not f.interrupts.mode)

-- the address and the flags reached, before any acknowledgement: on a return the saved ones
abbrev pub reached : Isa → Context → ℕ → ℕ
reached I f n = cond (I.returns f.fetched.ir) f.interrupts.saved_pc n

abbrev pub flagged : Isa → Context → Registers → Flags
flagged I f r = cond (I.returns f.fetched.ir) f.interrupts.saved_flags r.flags

-- the address that PC takes: 1 if it acknowledges
abbrev pub taken : Isa → Context → ℕ → ℕ
taken I f n = cond (acks f) 1 (reached I f n)

-- An acknowledgement saves the address and the flags reached. Mode is down after a return, else up if it was up or the core acknowledged.
abbrev pub interrupted : Isa → Context → ℕ → Registers → Interrupts
interrupted I f n r =
    record {
      enable = I.enables f.fetched.ir f.interrupts.enable;
      mode = not (I.returns f.fetched.ir) && (f.interrupts.mode || acks f);
      saved_pc = cond (acks f) (reached I f n) f.interrupts.saved_pc;
      saved_flags = cond (acks f) (flagged I f r) f.interrupts.saved_flags;
    }

-- pending goes down on the acknowledging line, whatever its tick; else the line is noted
abbrev pub ticked : Context → ℕ → Ticks
ticked f l = cond (acks f) (cleared l) (noted l f.ticks)

unfoldable pub finish_at : Meaning → Isa → Context → ℕ → Registers → ℕ → List ℕ → Context
finish_at M I f n r l h =
    record {
      registers = record { r = r.r; h = r.h; flags = flagged I f r };
      fetched = record { pc = taken I f n; ir = M.shown h (taken I f n % 2 ^ 22) };
      interrupts = interrupted I f n r;
      ticks = ticked f l;
    }

-- the address after it is asked of the registers before the write
abbrev pub finish : Meaning → Isa → Context → Registers → ℕ → List ℕ → Context
finish M I f r l h = finish_at M I f (I.next f.fetched.ir f.fetched.pc f.registers) r l h

-- ---- The access of a load or store.

abbrev pub access_by : Meaning → Isa → Class → ℕ → Registers → List ℕ → Reached
access_by M I loading w r h =
    record { registers = I.loaded w r (M.shown h (I.place w r % 2 ^ 22)); contents = M.read h (I.place w r % 2 ^ 22) }
access_by M I storing w r h =
    record { registers = r; contents = M.write h (I.place w r % 2 ^ 22) (I.sent w r).word (I.sent w r).marks }
access_by M I stepping w r h = record { registers = r; contents = h }
access_by M I plain w r h = record { registers = r; contents = h }

abbrev pub access : Meaning → Isa → ℕ → Registers → List ℕ → Reached
access M I w r h = access_by M I (I.class w) w r h

-- ---- The parts of an unstalled line: the access at step number 0, the unit's step on every line, the write on the last.

abbrev pub opened : Meaning → Isa → ℕ → ℕ → Registers → List ℕ → Reached
opened M I zero w r h = access M I w r h
opened M I (suc s) w r h = record { registers = r; contents = h }

abbrev pub turned_by : Pace → Class → ℕ → Registers → ℕ → Pair → Pair
turned_by T loading w r s p = p
turned_by T storing w r s p = p
turned_by T stepping w r s p = T.turn w r s p
turned_by T plain w r s p = p

abbrev pub written_by : Isa → Pace → Class → ℕ → ℕ → Registers → Pair → Registers
written_by I T loading w pc r p = I.effect w pc r
written_by I T storing w pc r p = I.effect w pc r
written_by I T stepping w pc r p = T.result w r p
written_by I T plain w pc r p = I.effect w pc r

-- ---- Waiting, one text for loads, stores and every unit: what an unstalled line makes of the step number and the pair, and how many clocks the
-- instruction in hand lasts. Both are asked of the word, the registers before the line and the waiting so far.

abbrev pub carried : Meaning → Isa → Pace → ℕ → Registers → Waiting → Waiting
carried M I T w r x = record { step = x.step + 1; pair = turned_by T (I.class w) w r x.step x.pair }

abbrev pub lasts : Meaning → Isa → Pace → ℕ → Registers → Waiting → ℕ
lasts M I T w r x = T.clocks w

-- as it is asked between instructions: the unstalled lines of the instruction's share
abbrev pub owed : Meaning → Isa → Pace → ℕ → Registers → ℕ
owed M I T w r = lasts M I T w r rest

-- below the last step it waits on, at the last it finishes
abbrev pub waits : Meaning → Isa → Pace → Core → Bool
waits M I T c = nat_lt (c.waiting.step + 1) (lasts M I T c.context.fetched.ir c.context.registers c.waiting)

-- ---- One line.

-- a stalled line changes pending, last tick and the bus alone
abbrev pub held : Meaning → ℕ → State → State
held M l s =
    record {
      core = record { context = with_ticks s.core.context (noted l s.core.context.ticks); waiting = s.core.waiting };
      contents = M.passed s.contents 1;
    }

-- after the access and the unit's step, an unstalled line waits on or finishes
abbrev pub goes : Meaning → Isa → Pace → Bool → ℕ → Context → Waiting → List ℕ → State
goes M I T true l f x h = record { core = record { context = with_ticks f (noted l f.ticks); waiting = x }; contents = M.passed h 1 }
goes M I T false l f x h =
    record {
      core =
          record {
            context = finish M I f (written_by I T (I.class f.fetched.ir) f.fetched.ir f.fetched.pc f.registers x.pair) l h;
            waiting = rest;
          };
      contents = M.passed h 1;
    }

abbrev pub worked : Meaning → Isa → Pace → ℕ → State → State
worked M I T l s =
    let c : Core = s.core in
    let f : Context = c.context in
    let a : Reached = opened M I c.waiting.step f.fetched.ir f.registers s.contents in
    goes M I T (waits M I T c) l (with_registers f a.registers) (carried M I T f.fetched.ir f.registers c.waiting) a.contents

abbrev pub clock_by : Meaning → Isa → Pace → Bool → ℕ → State → State
clock_by M I T true l s = held M l s
clock_by M I T false l s = worked M I T l s

-- one clock
abbrev pub clock : Meaning → Isa → Pace → ℕ → State → State
clock M I T l s = clock_by M I T (stalled l) l s

-- the clock rules over some lines
abbrev pub run : Meaning → Isa → Pace → List ℕ → State → State
run M I T ls s = fold (λ (e : State) (l : ℕ). clock M I T l e) s ls

-- whether an instruction finishes on a line
abbrev pub ends : Meaning → Isa → Pace → ℕ → State → Bool
ends M I T l s = not (stalled l) && not (waits M I T s.core)

-- on how many lines something is so of the line and of the machine before it
unfoldable pub counted : Meaning → Isa → Pace → (ℕ → State → Bool) → List ℕ → State → ℕ
counted M I T on [] s = 0
counted M I T on (l ∷ ls) s = one (on l s) + counted M I T on ls (clock M I T l s)

abbrev pub finished : Meaning → Isa → Pace → List ℕ → State → ℕ
finished M I T ls s = counted M I T (ends M I T) ls s
