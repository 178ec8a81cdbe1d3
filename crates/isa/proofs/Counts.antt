-- Every kind takes a clock at least.
use Rattle.std.proofs.Common.{◌≤◌, lit≤}
use Rattle.isa.specs.declared.Kind.{Kind}
use Rattle.isa.specs.declared.Kind.TheVariants.{Register, Multiply, Divide, Load, Store, Branch}
use Rattle.isa.specs.Kinds.{clocks_by}

pub at_least_one : (k : Kind) → 1 ≤ clocks_by k
at_least_one (Register operation) = lit≤ tt
at_least_one Multiply = lit≤ tt
at_least_one Divide = lit≤ tt
at_least_one Load = lit≤ tt
at_least_one Store = lit≤ tt
at_least_one Branch = lit≤ tt
