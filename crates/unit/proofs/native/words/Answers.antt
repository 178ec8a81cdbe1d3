use Rattle.std.proofs.Common.{arith, ℕ, ◌/◌, ◌%◌, ◌^◌, ap, ◌∙◌}
use Rattle.unit.specs.declared.Words.{Words}
use Rattle.unit.proofs.Wrapped.{wrapped_words}
use Rattle.unit.proofs.native.words.Goals as goal

pub returns : goal.returns
returns c =
    let of : ℕ → Words = λ n. record { low = n % 2 ^ 32; high = n / 2 ^ 32 } in
    let both = ap of c.cast_unsigned-z.ensures ∙ wrapped_words c.args.first c.args.second c.ranges.first c.ranges.second in
    grind (arith, both)
