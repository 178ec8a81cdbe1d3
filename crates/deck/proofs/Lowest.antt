-- Of a row's faults the lowest is told.
use Rattle.std.proofs.Common.{◌≡◌, ℕ, Bool, true, false, cond, ◌&&◌, ◌||◌, eqb, ltb, Some, None, Ok, Err, Option, Result, refl, ◌∙◌}
use Rattle.refusal.specs.Heard.{Told, refused, nothing}
use Rattle.deck.specs.declared.rows.Deed.{Deed}
use Rattle.deck.specs.declared.rows.Deed.TheVariants.{Sets, Presets, Adds}
use Rattle.deck.specs.Field.{parse}
use Rattle.deck.specs.Rows.{refused_at, told_of, and_then, column, columns, field_of, within, numbers, deed_of}
use Rattle.deck.specs.Law.{fault_of, LowestTold}

told_deed : (deed : ℕ → ℕ → Deed) (r : Result (ℕ × ℕ) Told) → told_of (deed_of deed r) ≡ told_of r
told_deed deed (Ok n) = refl
told_deed deed (Err e) = refl

told_limits : (row m n : ℕ) (t u : Bool) →
    told_of {A = ℕ × ℕ} (and_then (cond t (Ok m) (refused_at 11 row)) (λ x. and_then (cond u (Ok n) (refused_at 11 row)) (λ y. Ok (x, y)))) ≡ cond (t && u) nothing (refused 11 3 row)
told_limits row m n true true = refl
told_limits row m n true false = refl
told_limits row m n false true = refl
told_limits row m n false false = refl

told_fields : (row : ℕ) (limits : ℕ × ℕ) (a b : Option ℕ) →
    told_of {A = ℕ × ℕ} (and_then (field_of row a) (λ x. and_then (field_of row b) (λ y. and_then (within limits.0 x) (λ m. and_then (within limits.1 y) (λ n. Ok (m, n))))))
    ≡ fault_of row limits true a b
told_fields row limits None None = refl
told_fields row limits None (Some n) = refl
told_fields row limits (Some m) None = refl
told_fields row limits (Some m) (Some n) = told_limits row m n (ltb m limits.0) (ltb n limits.1)

module _ (row words : ℕ) (read : ℕ → ℕ → Result (ℕ × ℕ) Told) (a b : Option ℕ)
    (is : (limits : ℕ × ℕ) → told_of (read limits.0 limits.1) ≡ fault_of row limits true a b) where
  told_letter : (w r l : Bool) →
      told_of (cond w (deed_of Sets (read words 4294967296)) (cond r (deed_of Presets (read 16 4294967296)) (cond l (deed_of Adds (read 4 65536)) (refused_at 9 row))))
      ≡ fault_of row (cond w (words, 4294967296) (cond r (16, 4294967296) (4, 65536))) (w || (r || l)) a b
  told_letter true r l = told_deed Sets (read words 4294967296) ∙ is (words, 4294967296)
  told_letter false true l = told_deed Presets (read 16 4294967296) ∙ is (16, 4294967296)
  told_letter false false true = told_deed Adds (read 4 65536) ∙ is (4, 65536)
  told_letter false false false = refl

told_end : (row : ℕ) (limits : ℕ × ℕ) (a b : Option ℕ) (r : Result Deed Told) (end form : Bool) → told_of r ≡ fault_of row limits form a b →
    told_of (cond end r (refused_at 9 row)) ≡ fault_of row limits (end && form) a b
told_end row limits a b r true form h = h
told_end row limits a b r false form h = refl

pub lowest_told : LowestTold
lowest_told bs words row =
    let a = parse (columns bs row 1 8) in
    let b = parse (columns bs row 9 10) in
    let c = column bs row 0 in
    told_end row _ a b _ (eqb (column bs row 19) 10) _
    (told_letter row words (numbers bs row) a b (λ limits. told_fields row limits a b) (eqb c 87) (eqb c 82) (eqb c 76))
