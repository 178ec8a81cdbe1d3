-- What is heard of the answers, by number.
use Rattle.std.proofs.Common.{◌≡◌, ℕ, Bool, true, false, cond, eqb, ltb, List, length, Some, None, Option, Result, refl, ap, ◌∙◌}
use Rattle.refusal.specs.declared.Refusal.{Refusal}
use Rattle.refusal.specs.declared.Refusal.TheVariants.{LinesTooMany, LineValue, InsideInstruction}
use Rattle.refusal.specs.Heard.{heard, refused, nothing, first_heard}
use Rattle.machine.specs.Histories.{first_over, lines_refused, leap_refused}
use Rattle.cpu.specs.Calls.{answer_by, lines_heard, leap_heard}

abbrev or_else : Bool → Option Refusal → Option Refusal
or_else v (Some r) = Some r
or_else v None = cond v None (Some InsideInstruction)

module _ {X : Type 0} (x : X) where
  -- t: too many lines; u: one at place k over 3; v: at step number 0
  lines_by : (t u : Bool) (k : ℕ) → heard (answer_by (cond t (Some LinesTooMany) (cond u (Some (LineValue k)) None)) x) ≡ cond t (refused 5 2 0) (cond u (refused 6 2 k) nothing)
  lines_by true u k = refl
  lines_by false true k = refl
  lines_by false false k = refl

  leap_by : (t u v : Bool) (k : ℕ) → (let o : Option Refusal = cond t (Some LinesTooMany) (cond u (Some (LineValue k)) None) in
      heard (answer_by (or_else v o) x) ≡ first_heard (cond t (refused 5 2 0) (cond u (refused 6 2 k) nothing)) (cond v nothing (refused 7 2 0)))
  leap_by true u v k = refl
  leap_by false true v k = refl
  leap_by false false true k = refl
  leap_by false false false k = refl

  pub lines_heard_lem : (ls : List ℕ) (r : Result X Refusal) → r ≡ answer_by (lines_refused ls) x → heard r ≡ lines_heard ls
  unfolding lines_refused
  lines_heard_lem ls r e = ap (λ (i : Result X Refusal). heard i) e ∙ lines_by (ltb 65535 (length ls)) (ltb (first_over ls) (length ls)) (first_over ls)

  pub leap_heard_lem : (ls : List ℕ) (step : ℕ) (r : Result X Refusal) → r ≡ answer_by (leap_refused ls step) x → heard r ≡ leap_heard ls step
  unfolding lines_refused leap_refused
  leap_heard_lem ls step r e =
      ap (λ (i : Result X Refusal). heard i) e ∙ leap_by (ltb 65535 (length ls)) (ltb (first_over ls) (length ls)) (eqb step 0) (first_over ls)
