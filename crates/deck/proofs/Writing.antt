-- The columns say a number exactly where they are blanks and then its decimal digits.
use Rattle.std.proofs.Common.{◌≡◌, ℕ, zero, suc, ◌+◌, ◌-◌, ◌*◌, ◌/◌, ◌%◌, ◌^◌, ◌<◌, ◌≤◌, ◌⊎◌, List, [], ◌∷◌, ◌++◌, length, replicate, Some, None, decimal, fold, Option, sym, refl, ap, ◌∙◌, inl, inr, append_assoc, append-nil, add-zero, arith}
use Rattle.std.proofs.Math.Nat.{pow-le-pow_right}
use Rattle.std.proofs.lemmas.List.Sums.{fold_push}
use Rattle.std.proofs.lemmas.Bool.Decides.{nat_tests, leb_tells, eqb_tells}
use Rattle.std.proofs.lemmas.Fmt.{decimal_by_steps, decimal_step, decimal_digit}
use Rattle.deck.proofs.Scans.{small_more}
use Rattle.deck.specs.declared.field.Seen.{Seen}
use Rattle.deck.specs.declared.field.Seen.TheVariants.{Blanks, Zero, Number, Wrong}
use Rattle.deck.specs.Field.{digit, after, said, parse, Written, ReadsAsWritten, Small}

blanks : (k : ℕ) (ds : List ℕ) → parse (replicate k 32 ++ ds) ≡ parse ds
blanks zero ds = refl
blanks (suc k) ds = blanks k ds

digit_in : (b : ℕ) (s : Seen) → 48 ≤ b → b ≤ 57 → digit b s ≡ s
digit_in b s lo hi = grind (arith, nat_tests)

-- what the decimal digits of n show
abbrev Shows : ℕ → List ℕ → Type 0
Shows n ds = (n ≡ 0 → fold after Blanks ds ≡ Zero) × (0 < n → fold after Blanks ds ≡ Number n)

one : (n : ℕ) → n < 10 → Shows n ((48 + n) ∷ [])
one n h = (λ e. grind (arith, nat_tests), λ p. grind (arith, nat_tests))

more : (n : ℕ) (ds : List ℕ) → 10 ≤ n → Shows (n / 10) ds → Shows n (ds ++ ((48 + n % 10) ∷ []))
more n ds h s = (
  λ e. absurd (omega arith),
  λ p.
      let q : 0 < n / 10 = omega arith in
      let a : 10 * (n / 10) + ((48 + n % 10) - 48) ≡ n = omega arith in
      let lo : 48 ≤ 48 + n % 10 = omega arith in
      let hi : 48 + n % 10 ≤ 57 = omega arith in
      fold_push after Blanks ds (48 + n % 10) ∙ (ap (λ (t : Seen). after t (48 + n % 10)) (s.1 q) ∙ (digit_in (48 + n % 10) (Number (10 * (n / 10) + ((48 + n % 10) - 48))) lo hi ∙ ap Number a)),
)

shows : (n : ℕ) → n < 2 ^ 64 → Shows n (decimal n)
shows n h = decimal_by_steps Shows one more n h

parse_decimal : (n : ℕ) → n < 2 ^ 64 → parse (decimal n) ≡ Some n
parse_decimal zero h = ap said ((shows 0 h).0 refl)
parse_decimal (suc n) h = ap said ((shows (suc n) h).1 (omega arith))

written : (k n : ℕ) → n < 2 ^ 64 → parse (replicate k 32 ++ decimal n) ≡ Some n
written k n h = blanks k (decimal n) ∙ parse_decimal n h

none_some : (n : ℕ) → ◌≡◌ {A = Option ℕ} None (Some n) → ⊥
none_some n e = grind arith

some_same : (m n : ℕ) → ◌≡◌ {A = Option ℕ} (Some m) (Some n) → m ≡ n
some_same m n e = grind arith

wrong : (cs : List ℕ) → fold after Wrong cs ≡ Wrong
wrong [] = refl
wrong (c ∷ cs) = wrong cs

not_wrong : (cs : List ℕ) (n : ℕ) → said (fold after Wrong cs) ≡ Some n → ⊥
not_wrong cs n h = none_some n (sym (ap said (wrong cs)) ∙ h)

digit_out : (b : ℕ) (s : Seen) → (48 ≤ b → b ≤ 57 → ⊥) → digit b s ≡ Wrong
digit_out b s out = grind (arith, nat_tests)

after_zero : (cs : List ℕ) (n : ℕ) → said (fold after Zero cs) ≡ Some n → (n ≡ 0) × (cs ≡ [])
after_zero [] n h = (sym (some_same 0 n h), refl)
after_zero (c ∷ cs) n h = absurd (not_wrong cs n h)

-- either a digit, or not
is_digit : (b : ℕ) → ((48 ≤ b) × (b ≤ 57)) ⊎ (48 ≤ b → b ≤ 57 → ⊥)
is_digit b =
    elim (leb_tells 48 b) [ inl lo ↦ elim (leb_tells b 57) [ inl hi ↦ inl (lo.1, hi.1) | inr hi ↦ inr (λ p q. omega arith) ] | inr lo ↦ inr (λ p q. omega arith) ]

decimal_more : (m c : ℕ) → 0 < m → 48 ≤ c → c ≤ 57 → 10 * m + (c - 48) < 2 ^ 64 → decimal (10 * m + (c - 48)) ≡ decimal m ++ (c ∷ [])
decimal_more m c p lo hi lt =
    let q : (10 * m + (c - 48)) / 10 ≡ m = omega arith in
    let r : 48 + (10 * m + (c - 48)) % 10 ≡ c = omega arith in
    decimal_step (10 * m + (c - 48)) (omega arith) lt ∙ (ap (λ (x : ℕ). decimal x ++ ((48 + (10 * m + (c - 48)) % 10) ∷ [])) q ∙ ap (λ (x : ℕ). decimal m ++ (x ∷ [])) r)

goes_on : (cs : List ℕ) (m n : ℕ) → 0 < m → n < 2 ^ 64 → said (fold after (Number m) cs) ≡ Some n → (m ≤ n) × (decimal m ++ cs ≡ decimal n)
goes_on [] m n p lt h = let e = some_same m n h in (omega arith, append-nil (decimal m) ∙ ap decimal e)
goes_on (c ∷ cs) m n p lt h =
    elim (is_digit c) [
      | inl d ↦
          let s : Seen = Number (10 * m + (c - 48)) in
          let rest = goes_on cs (10 * m + (c - 48)) n (omega arith) lt (sym (ap (λ (t : Seen). said (fold after t cs)) (digit_in c s d.0 d.1)) ∙ h) in
          (omega (arith, rest.0), (sym (append_assoc (decimal m) (c ∷ []) cs) ∙ ap (λ (x : List ℕ). x ++ cs) (sym (decimal_more m c p d.0 d.1 (omega (arith, rest.0))))) ∙ rest.1)
      | inr out ↦ absurd (not_wrong cs n (sym (ap (λ (t : Seen). said (fold after t cs)) (digit_out c (Number (10 * m + (c - 48))) out)) ∙ h))
    ]

first_blank : (c : ℕ) → c ≡ 32 → after Blanks c ≡ Blanks
first_blank c e = grind (arith, nat_tests)

first_zero : (c : ℕ) → c ≡ 48 → after Blanks c ≡ Zero
first_zero c e = grind (arith, nat_tests)

first_digit : (c : ℕ) → 48 < c → c ≤ 57 → after Blanks c ≡ Number (c - 48)
first_digit c lo hi = grind (arith, nat_tests)

first_wrong : (c : ℕ) → (c ≡ 32 → ⊥) → (48 ≤ c → c ≤ 57 → ⊥) → after Blanks c ≡ Wrong
first_wrong c a b = grind (arith, nat_tests)

from : (c : ℕ) (cs : List ℕ) (n : ℕ) (s : Seen) → after Blanks c ≡ s → parse (c ∷ cs) ≡ Some n → said (fold after s cs) ≡ Some n
from c cs n s e h = sym (ap (λ (t : Seen). said (fold after t cs)) e) ∙ h

says : (xs : List ℕ) (n : ℕ) → n < 2 ^ 64 → parse xs ≡ Some n → (k : ℕ) × (xs ≡ replicate k 32 ++ decimal n)
says [] n lt h = absurd (none_some n h)
says (c ∷ cs) n lt h =
    elim (eqb_tells c 32) [
      | inl b ↦ let r = says cs n lt (from c cs n Blanks (first_blank c b.1) h) in (suc r.0, ap (λ (x : ℕ). x ∷ cs) b.1 ∙ ap (λ (l : List ℕ). 32 ∷ l) r.1)
      | inr b ↦ (
        0,
        (elim (is_digit c) [
          | inl d ↦
              elim (eqb_tells c 48) [
                | inl z ↦
                    let r = after_zero cs n (from c cs n Zero (first_zero c z.1) h) in
                    ap (λ (x : ℕ). x ∷ cs) z.1 ∙ (ap (λ (l : List ℕ). 48 ∷ l) r.1 ∙ (sym (decimal_digit 0 (omega arith)) ∙ ap decimal (sym r.0)))
                | inr z ↦
                    let lo : 48 < c = omega (arith, d.0, z.1) in
                    let r = goes_on cs (c - 48) n (omega arith) lt (from c cs n (Number (c - 48)) (first_digit c lo d.1) h) in
                    let e : 48 + (c - 48) ≡ c = omega arith in
                    ap (λ (x : ℕ). x ∷ cs) (sym e) ∙ (ap (λ (l : List ℕ). l ++ cs) (sym (decimal_digit (c - 48) (omega (arith, d.1)))) ∙ r.1)
              ]
          | inr out ↦ absurd (not_wrong cs n (from c cs n Wrong (first_wrong c b.1 out) h))
        ]),
      )
    ]

back : (bs : List ℕ) (n : ℕ) → n < 2 ^ 64 → Written bs n → parse bs ≡ Some n
back bs n lt w = ap parse w.1 ∙ written w.0 n lt

-- bytes that go on from a state below ten to the i show less than ten to their number more
scan_from : (bs : List ℕ) (s : Seen) (i : ℕ) → Small s (10 ^ i) → Small (fold after s bs) (10 ^ (i + length bs))
scan_from [] s i h = rw add-zero h
scan_from (b ∷ bs) s i h =
    let same : (i + 1) + length bs ≡ i + suc (length bs) = omega arith in
    rw same at (scan_from bs (after s b) (i + 1) (small_more s b i h))

small_said : (s : Seen) (m n : ℕ) → Small s m → said s ≡ Some n → n < m + 1
small_said Blanks m n h e = absurd (none_some n e)
small_said Wrong m n h e = absurd (none_some n e)
small_said Zero m n h e = omega (arith, some_same 0 n e)
small_said (Number k) m n h e = omega (arith, some_same k n e)

bounded : (bs : List ℕ) (n : ℕ) → length bs ≤ 10 → parse bs ≡ Some n → n < 2 ^ 64
bounded bs n le e =
    let far : 0 + length bs ≤ 10 = omega arith in
    omega (arith, small_said (fold after Blanks bs) (10 ^ (0 + length bs)) n (scan_from bs Blanks 0 tt) e, pow-le-pow_right {n = 10} (omega arith) {i = 0 + length bs} {j = 10} far)

reads : (bs : List ℕ) (n : ℕ) → length bs ≤ 10 → parse bs ≡ Some n → Written bs n
reads bs n le e = says bs n (bounded bs n le e) e

or_none : (bs : List ℕ) (o : Option ℕ) → ((n : ℕ) → o ≡ Some n → ⊥) → o ≡ None
or_none bs None h = refl
or_none bs (Some n) h = absurd (h n refl)

pub reads_as_written : ReadsAsWritten
reads_as_written = record {
  read = reads;
  written = back;
  refused = λ bs n lt e w. none_some n (sym e ∙ back bs n lt w);
  otherwise = λ bs le h. or_none bs (parse bs) (λ n e. h n (bounded bs n le e) (reads bs n le e));
}
