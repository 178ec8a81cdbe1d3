-- What leaping keeps of a share, and what it makes of it.
use Rattle.std.specs.Prelude.{◌≡◌, ℕ, ◌-◌, List, length, Some, None, Option}
use Rattle.bus.specs.Meaning.{Meaning}
use Rattle.machine.specs.declared.Ticks.{Ticks}
use Rattle.machine.specs.declared.Context.{Context}
use Rattle.machine.specs.declared.Record.{Record}
use Rattle.machine.specs.Lines.{noted_all, one}
use Rattle.machine.specs.State.{Boundary, with_registers, with_ticks}
use Rattle.machine.specs.Clock.{Reached, acks, finish}
use Rattle.machine.specs.Shares.{Cut, short, whole, ahead}
use Rattle.machine.specs.Instructions.{ready_at}
use Rattle.risc5.specs.Set.{card}
use Rattle.cpu.specs.declared.share.Share.{Share}

-- what is kept of the share of an instruction of n clocks: its lines before the last are b, its last is l, and t are the ticks before them
pub record IsShare (n : ℕ) (t : Ticks) (b : List ℕ) (l : ℕ) (x : Share) : Type 0 where
  pub clocks : x.clocks ≡ n
  pub before : x.before ≡ length b
  pub in_front : x.ahead ≡ ahead b
  pub last : x.last ≡ l
  pub ticks : x.ticks ≡ noted_all b t

-- what is measured of lines that are cut after its share: that share, and none if it is not whole
abbrev pub Measures : ℕ → Ticks → Cut → Option Share → Type 0
Measures n t short None = Unit {0}
Measures n t short (Some x) = ⊥
Measures n t (whole b l ls) None = ⊥
Measures n t (whole b l ls) (Some x) = IsShare n t b l x

-- the machine after the instruction in hand has run over its share
abbrev pub after_share : Meaning → Boundary → Share → Boundary
after_share m s x =
    let a : Reached = ready_at m card x.before x.ahead s in
    let f : Context = with_ticks (with_registers s.context a.registers) x.ticks in
    record {
      context = finish m card f (card.effect f.fetched.ir f.fetched.pc f.registers) x.last a.contents;
      contents = m.passed a.contents 1;
    }

-- its record
abbrev pub record_of : Context → Share → Record
record_of f x =
    record {
      address = f.fetched.pc;
      word = f.fetched.ir;
      clocks = x.clocks;
      stalls = x.before - (x.clocks - 1);
      acknowledged = one (acks (with_ticks f x.ticks));
    }
