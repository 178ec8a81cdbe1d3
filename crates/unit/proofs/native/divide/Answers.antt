use Rattle.std.proofs.Common.{◌≡◌, ◌-◌, ◌/◌, ◌%◌, ◌^◌, rules, sym, ◌∙◌, arith}
use Rattle.unit.specs.declared.Words.{Words}
use Rattle.unit.specs.Exact.{quotient, remainder}
use Rattle.unit.proofs.Divisions.{division_words}
use Rattle.unit.proofs.native.divide.Goals as goal

pub returns-then-division-eq0-clause-steps : goal.returns-then-division-eq0-clause-steps
returns-then-division-eq0-clause-steps c =
    let d = c.args.division in
    let e : ◌≡◌ {A = Words} (record { low = 2 ^ 32 - 1; high = d.dividend }) (record { low = quotient d; high = remainder d }) = search rules in
    e ∙ sym (division_words d (omega arith))

pub returns-else-division-eq0-clause-steps : goal.returns-else-division-eq0-clause-steps
returns-else-division-eq0-clause-steps c =
    let d = c.args.division in
    let e : ◌≡◌ {A = Words} (record { low = d.dividend / d.divisor; high = d.dividend % d.divisor }) (record { low = quotient d; high = remainder d }) = search rules in
    e ∙ sym (division_words d (omega arith))
