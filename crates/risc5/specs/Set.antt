-- The card's instruction set and its pace: what each kind of word does, and how long it takes.
use Rattle.std.specs.Prelude.{Bool, false, ℕ}
use Rattle.isa.specs.declared.Kind.{Kind}
use Rattle.isa.specs.declared.Kind.TheVariants.{Register, Multiply, Divide, Load, Store, Branch}
use Rattle.isa.specs.Kinds.{kind_of, clocks_of}
use Rattle.isa.specs.Branch.{following, returns_by, enabled_by}
use Rattle.unit.specs.declared.Pair.{Pair}
use Rattle.machine.specs.declared.Registers.{Registers}
use Rattle.machine.specs.Isa.{Class, loading, storing, stepping, plain, Isa, Pace}
use Rattle.risc5.specs.Registers.{operated, place, loaded, sent, linked, branched}
use Rattle.risc5.specs.Units.{multiplying, dividing, multiplied_by, divided_by, multiplied, divided}

abbrev pub class_by : Kind → Class
class_by (Register op) = plain
class_by Multiply = stepping
class_by Divide = stepping
class_by Load = loading
class_by Store = storing
class_by Branch = plain

-- the registers after a word; a load writes its register with its access
abbrev pub effect_by : Kind → ℕ → ℕ → Registers → Registers
effect_by (Register op) w pc g = operated op w g
effect_by Multiply w pc g = multiplied w g
effect_by Divide w pc g = divided w g
effect_by Load w pc g = g
effect_by Store w pc g = g
effect_by Branch w pc g = linked w pc g

-- the address after it, but for returns
abbrev pub next_by : Kind → ℕ → ℕ → Registers → ℕ
next_by (Register op) w pc g = following pc
next_by Multiply w pc g = following pc
next_by Divide w pc g = following pc
next_by Load w pc g = following pc
next_by Store w pc g = following pc
next_by Branch w pc g = branched w pc g

-- branches alone return and set enable
abbrev pub returns_as : Kind → ℕ → Bool
returns_as (Register op) w = false
returns_as Multiply w = false
returns_as Divide w = false
returns_as Load w = false
returns_as Store w = false
returns_as Branch w = returns_by w

abbrev pub enables_as : Kind → ℕ → Bool → Bool
enables_as (Register op) w e = e
enables_as Multiply w e = e
enables_as Divide w e = e
enables_as Load w e = e
enables_as Store w e = e
enables_as Branch w e = enabled_by w e

-- a step unit's pair after one clock, and the registers after its last
abbrev pub turn_by : Kind → ℕ → Registers → ℕ → Pair → Pair
turn_by (Register op) w g s p = p
turn_by Multiply w g s p = multiplying w g s p
turn_by Divide w g s p = dividing w g s p
turn_by Load w g s p = p
turn_by Store w g s p = p
turn_by Branch w g s p = p

abbrev pub result_by : Kind → ℕ → Registers → Pair → Registers
result_by (Register op) w g p = g
result_by Multiply w g p = multiplied_by w g p
result_by Divide w g p = divided_by w g p
result_by Load w g p = g
result_by Store w g p = g
result_by Branch w g p = g

abbrev pub card : Isa
card =
    record {
      class = λ w. class_by (kind_of w);
      place = place;
      loaded = loaded;
      sent = sent;
      effect = λ w pc g. effect_by (kind_of w) w pc g;
      next = λ w pc g. next_by (kind_of w) w pc g;
      returns = λ w. returns_as (kind_of w) w;
      enables = λ w e. enables_as (kind_of w) w e;
    }

abbrev pub pace : Pace
pace =
    record {
      clocks = clocks_of;
      turn = λ w g s p. turn_by (kind_of w) w g s p;
      result = λ w g p. result_by (kind_of w) w g p;
    }
