-- A written field is read as the bytes that it writes.
use Rattle.std.proofs.Common.{◌≡◌, ℕ, ◌+◌, ◌-◌, ◌*◌, ◌/◌, ◌%◌, ◌<◌, true, false, leb, [], ◌∷◌, ◌++◌, length, Some, ap, ◌∙◌, ⊎_elim, arith, length-append, drop_at}
use Rattle.std.proofs.lemmas.Bool.{cases_lt, cond-true, cond-false, and_from, and_right, le-leb, lt-leb, lt-ltb, le-ltb}
use Rattle.order.specs.Line.{between, and_then, digit_of, byte_of, field_in, written_digit, written_field, ReadsWhatIsWritten}

-- one digit
digit_back : (d : ℕ) → d < 16 → digit_of (written_digit d) ≡ Some d
digit_back d lt =
    ⊎_elim
    (λ low.
    let in-0-9 : between 48 (48 + d) 57 ≡ true = and_from _ _ (le-leb 48 (48 + d) (omega arith)) (le-leb (48 + d) 57 (omega arith)) in
    let value : 48 + d - 48 ≡ d = omega arith in
    ap digit_of (cond-true _ _ _ (lt-ltb d 10 low)) ∙ cond-true _ _ _ in-0-9 ∙ ap Some value)
    (λ high.
    let not-0-9 : between 48 (55 + d) 57 ≡ false = and_right (leb 48 (55 + d)) _ (lt-leb (55 + d) 57 (omega arith)) in
    let in-A-F : between 65 (55 + d) 70 ≡ true = and_from _ _ (le-leb 65 (55 + d) (omega arith)) (le-leb (55 + d) 70 (omega arith)) in
    let value : 55 + d - 65 + 10 ≡ d = omega arith in
    ap digit_of (cond-false _ _ _ (le-ltb d 10 high)) ∙ cond-false _ _ _ not-0-9 ∙ cond-true _ _ _ in-A-F ∙ ap Some value)
    (cases_lt d 10)

-- one byte
byte_back : (b : ℕ) → b < 256 → byte_of (written_digit (b / 16)) (written_digit (b % 16)) ≡ Some b
byte_back b lt =
    let value : b / 16 * 16 + b % 16 ≡ b = omega arith in
    ap (λ o. and_then o (λ h. and_then (digit_of (written_digit (b % 16))) (λ l. Some (h * 16 + l)))) (digit_back (b / 16) (omega arith))
    ∙ ap (λ o. and_then o (λ l. Some (b / 16 * 16 + l))) (digit_back (b % 16) (omega arith)) ∙ ap Some value

field_back : (a b c d : ℕ) → a < 256 → b < 256 → c < 256 → d < 256 → field_in (written_field a b c d) ≡ Some (a ∷ b ∷ c ∷ d ∷ [])
field_back a b c d fa fb fc fd =
    let read = λ (x : ℕ). byte_of (written_digit (x / 16)) (written_digit (x % 16)) in
    ap (λ o. and_then o (λ p. and_then (read b) (λ q. and_then (read c) (λ r. and_then (read d) (λ s. Some (p ∷ q ∷ r ∷ s ∷ [])))))) (byte_back a fa)
    ∙ ap (λ o. and_then o (λ q. and_then (read c) (λ r. and_then (read d) (λ s. Some (a ∷ q ∷ r ∷ s ∷ []))))) (byte_back b fb)
    ∙ ap (λ o. and_then o (λ r. and_then (read d) (λ s. Some (a ∷ b ∷ r ∷ s ∷ [])))) (byte_back c fc)
    ∙ ap (λ o. and_then o (λ s. Some (a ∷ b ∷ c ∷ s ∷ []))) (byte_back d fd)

pub reads_what_is_written : ReadsWhatIsWritten
reads_what_is_written = record {
  reads = λ text a b c d fa fb fc fd.
      let w = written_field a b c d in
      let long : length (text ++ w) ≡ length text + 11 = length-append text w in
      let start : length text ≡ length (text ++ w) - 11 = omega arith in
      cond-true _ _ _ (le-leb 11 (length (text ++ w)) (omega arith)) ∙ ap field_in (drop_at text w (length (text ++ w) - 11) start) ∙ field_back a b c d fa fb fc fd;
}
