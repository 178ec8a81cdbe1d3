-- One layer over another.
use Rattle.std.proofs.Common.{◌≡◌, ℕ, ◌+◌, ◌≤◌, List, ◌++◌, length, take, drop, sym, ap, ◌∙◌, ⊎_elim, append_assoc, arith, length-drop, take-append-drop, length-take-le, drop-drop}
use Rattle.std.proofs.Math.Seq.{take-append-add}
use Rattle.std.proofs.lemmas.Bool.{cases_lt}
use Rattle.bus.specs.Over.{over, over_long, over_short}

take_add : (j k : ℕ) (h : List ℕ) → j ≤ length h → take (j + k) h ≡ take j h ++ take k (drop j h)
take_add j k h le =
    ap (λ l. take (j + k) l) (sym (take-append-drop j h))
    ∙ ap (λ n. take (n + k) (take j h ++ drop j h)) (sym (length-take-le j h le)) ∙ take-append-add (take j h) (drop j h) k

-- the same change
pub over_same : (k : ℕ) (f g : List ℕ → List ℕ) → ((x : List ℕ) → f x ≡ g x) → (h : List ℕ) → over k f h ≡ over k g h
unfolding over
over_same k f g same h = rw (same (drop k h))

-- a change after k numbers of what comes after j numbers
pub over-over : (j k : ℕ) (f : List ℕ → List ℕ) (h : List ℕ) → over j (over k f) h ≡ over (j + k) f h
over-over j k f h =
    ⊎_elim
    (λ lt. over_short j (over k f) h lt ∙ sym (over_short (j + k) f h (omega arith)))
    (λ le.
    let rest = length-drop j h in
    over_long j (over k f) h le
    ∙ ⊎_elim
    (λ short. ap (λ r. take j h ++ r) (over_short k f (drop j h) short) ∙ take-append-drop j h ∙ sym (over_short (j + k) f h (omega arith)))
    (λ long.
    ap (λ r. take j h ++ r) (over_long k f (drop j h) long) ∙ sym (append_assoc (take j h) (take k (drop j h)) (f (drop k (drop j h))))
    ∙ ap (λ p. p ++ f (drop k (drop j h))) (sym (take_add j k h le)) ∙ ap (λ q. take (j + k) h ++ f q) (drop-drop k j h)
    ∙ sym (over_long (j + k) f h (omega arith)))
    (cases_lt (length (drop j h)) k))
    (cases_lt (length h) j)
