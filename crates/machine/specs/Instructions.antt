-- The instruction machine: it runs whole instructions, each over its share of the lines.
use Rattle.std.specs.Prelude.{ℕ, zero, suc, ◌+◌, ◌-◌, List, [], ◌∷◌, length}
use Rattle.bus.specs.Meaning.{Meaning}
use Rattle.machine.specs.declared.Context.{Context}
use Rattle.machine.specs.declared.Record.{Record}
use Rattle.machine.specs.Lines.{noted_all, one, stalls}
use Rattle.machine.specs.State.{Boundary, with_registers, with_ticks}
use Rattle.machine.specs.Isa.{Isa, Pace}
use Rattle.machine.specs.Clock.{Reached, access, finish, acks, owed}
use Rattle.machine.specs.Shares.{Cut, short, whole, cut, ahead}

-- Registers and contents just before finishing, over a share with n lines before its last, of which the first a are stalled. a clocks pass, the access
-- of a load or store is made, and the other n - a clocks pass. (Where there is no access, all n pass.)
unfoldable pub ready_at : Meaning → Isa → ℕ → ℕ → Boundary → Reached
ready_at M I n a s =
    let w : ℕ = s.context.fetched.ir in
    let o : Reached = access M I w s.context.registers (M.passed s.contents a) in
    record { registers = o.registers; contents = M.passed o.contents (n - a) }

-- b are the share's lines before its last
abbrev pub ready : Meaning → Isa → List ℕ → Boundary → Reached
ready M I b s = ready_at M I (length b) (ahead b) s

-- the core just before finishing: pending and last tick have followed the lines before the last
abbrev pub before : Meaning → Isa → List ℕ → Boundary → Context
before M I b s = with_ticks (with_registers s.context (ready M I b s).registers) (noted_all b s.context.ticks)

-- one instruction over a share: it takes effect, finishes, fetches, and one clock passes
unfoldable pub instruction : Meaning → Isa → List ℕ → ℕ → Boundary → Boundary
instruction M I b l s =
    let f : Context = before M I b s in
    let h : List ℕ = (ready M I b s).contents in
    record { context = finish M I f (I.effect f.fetched.ir f.fetched.pc f.registers) l h; contents = M.passed h 1 }

-- what is recorded of it
unfoldable pub recorded : Meaning → Isa → Pace → List ℕ → Boundary → Record
recorded M I T b s =
    record {
      address = s.context.fetched.pc;
      word = s.context.fetched.ir;
      clocks = T.clocks s.context.fetched.ir;
      stalls = stalls b;
      acknowledged = one (acks (before M I b s));
    }

-- what a run gives: the machine at its end, the records, how many lines it used, and the lines left
pub record Run : Type 0 where
  pub state : Boundary
  pub records : List Record
  pub used : ℕ
  pub left : List ℕ

abbrev pub stop : Boundary → List ℕ → Run
stop s ls = record { state = s; records = []; used = 0; left = ls }

abbrev pub then : Record → List ℕ → Run → Run
then e b r = record { state = r.state; records = e ∷ r.records; used = suc (length b) + r.used; left = r.left }

-- the share of the instruction in hand
abbrev pub share : Meaning → Isa → Pace → Boundary → List ℕ → Cut
share M I T s ls = cut (owed M I T s.context.fetched.ir s.context.registers) ls

-- it stops where no whole share is left, else runs one instruction and goes on with the lines left
abbrev pub onward : Meaning → Isa → Pace → (Boundary → List ℕ → Run) → Boundary → List ℕ → Cut → Run
onward M I T go s ls short = stop s ls
onward M I T go s ls (whole b l left) = then (recorded M I T b s) b (go (instruction M I b l s) left)

-- while a whole share and room for a record remain
unfoldable pub leaps : Meaning → Isa → Pace → ℕ → Boundary → List ℕ → Run
leaps M I T zero s ls = stop s ls
leaps M I T (suc room) s ls = onward M I T (leaps M I T room) s ls (share M I T s ls)

-- over all of some lines: each instruction takes a line at least, so there is room for all
abbrev pub completes : Meaning → Isa → Pace → Boundary → List ℕ → Run
completes M I T s ls = leaps M I T (length ls) s ls
