-- The verdict that a word stands for.
use Rattle.std.specs.Prelude.{◌≡◌, ◌≢◌, ℕ, Ok, Err, Result}
use Rattle.order_runs.specs.declared.house.Verdict.{Verdict}
use Rattle.order_runs.specs.declared.house.Verdict.TheVariants.{Passed, OverTheLimit}
use Rattle.order_runs.specs.declared.house.NoVerdict.{NoVerdict}

-- 1 is passed and 2 over the limit; any other word is no verdict
abbrev pub Reads : ℕ → Result Verdict NoVerdict → Type 0
Reads word (Ok Passed) = word ≡ 1
Reads word (Ok OverTheLimit) = word ≡ 2
Reads word (Err none) = (none.0 ≡ word) × (word ≢ 1) × (word ≢ 2)
