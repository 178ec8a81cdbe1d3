use Rattle.std.proofs.Common.{◌≡◌, ℕ, ◌<◌, ◌≤◌, Bool, true, false, not, cond, List, length, Some, None, Option, refl, sym, ap, ◌∙◌, nat_lt, nat_le, arith}
use Rattle.std.specs.List.{position, prefix_len}
use Rattle.std.specs.Option.{option_map}
use Rattle.std.proofs.lemmas.Bool.{cond-true, cond-false}
use Rattle.std.proofs.lemmas.Bool.Decides.{nat_tests}
use Rattle.refusal.specs.declared.Refusal.TheVariants.{LineValue}
use Rattle.machine.specs.Histories.{first_over, lines_refused}
use Rattle.cpu.proofs.lines.Lines.checked.Goals as goal

not_over : (n : ℕ) → not (nat_lt 3 n) ≡ nat_le n 3
not_over n = grind (arith, nat_tests)

too_many : (n : ℕ) → 65535 < n → nat_lt 65535 n ≡ true
too_many n h = grind (arith, nat_tests)

few_enough : (n : ℕ) → n ≤ 65535 → nat_lt 65535 n ≡ false
few_enough n h = grind (arith, nat_tests)

mapped : (t : Bool) (k : ℕ) → option_map LineValue (cond t (Some k) None) ≡ cond t (Some (LineValue k)) None
mapped true k = refl
mapped false k = refl

-- what the first line over 3 comes to, among lines that are not too many
line_refused : (ls : List ℕ) (o : Option ℕ) → length ls ≤ 65535 → o ≡ position (λ line. nat_lt 3 line) ls → option_map LineValue o ≡ lines_refused ls
unfolding lines_refused
line_refused ls o h e =
    let k : ℕ = first_over ls in
    ap (option_map LineValue) (e ∙ (λ j. let n : ℕ = prefix_len (λ line. not_over line j) ls in cond (nat_lt n (length ls)) (Some n) None))
    ∙ mapped (nat_lt k (length ls)) k
    ∙ sym (cond-false _ _ _ (few_enough (length ls) h))

pub returns-then-lines-gt-MOST_LINES-clause-refusal : goal.returns-then-lines-gt-MOST_LINES-clause-refusal
unfolding lines_refused
returns-then-lines-gt-MOST_LINES-clause-refusal c = sym (cond-true _ _ _ (too_many _ c.if-lines-gt-MOST_LINES.true))

pub returns-in-Some-clause-refusal : goal.returns-in-Some-clause-refusal
returns-in-Some-clause-refusal c =
    line_refused c.args.lines.now (Some c.in-Some.place) c.if-lines-gt-MOST_LINES.false c.in-Some.ensures

pub returns-clause-refusal : goal.returns-clause-refusal
returns-clause-refusal c = line_refused c.args.lines.now None c.if-lines-gt-MOST_LINES.false c.in_default.ensures
