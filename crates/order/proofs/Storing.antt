-- Bytes stored one after the other.
use Rattle.std.proofs.Common.{◌≡◌, ℕ, zero, suc, ◌+◌, ◌/◌, ◌%◌, ◌^◌, ◌<◌, List, [], ◌∷◌, length, get_or, take, ap, ap₂, ◌∙◌, add-one, arith}
use Rattle.bus.specs.Calls.{called, after}
use Rattle.bus.specs.Calls.Call.{writes}
use Rattle.bus.specs.Lanes.{placed, only_marked}
use Rattle.bus.specs.Meaning.{Meaning}
use Rattle.order.specs.Quantity.{byte_store, byte_stores}

more : (m : Meaning) (h : List ℕ) (a : ℕ) (xs : List ℕ) (i : ℕ) → i < length xs →
    after m h (byte_stores a (take (suc i) xs)) ≡ called m (after m h (byte_stores a (take i xs))) (byte_store (a + i) (get_or xs i 0))
more m h a [] i lt = absurd (omega arith)
more m h a (x ∷ xs) zero lt = let same : a ≡ a + 0 = omega arith in ap (λ k. called m h (byte_store k x)) same
more m h a (x ∷ xs) (suc i) lt =
    let same : a + 1 + i ≡ a + suc i = omega arith in
    let first = called m h (byte_store a x) in
    more m first (a + 1) xs i (omega arith) ∙ ap (λ k. called m (after m first (byte_stores (a + 1) (take i xs))) (byte_store k (get_or xs i 0))) same

pub stored_more : (m : Meaning) (h : List ℕ) (a : ℕ) (xs : List ℕ) (i : ℕ) → i < length xs →
    after m h (byte_stores a (take (i + 1) xs)) ≡ called m (after m h (byte_stores a (take i xs))) (byte_store (a + i) (get_or xs i 0))
stored_more m h a xs i lt = ap (λ k. after m h (byte_stores a (take k xs))) (add-one i) ∙ more m h a xs i lt

-- a byte store at an address modulo 2^32 is the one at the address
pub wrapped : (address byte : ℕ) → byte_store (address % 2 ^ 32) byte ≡ byte_store address byte
wrapped address byte =
    let word : address % 2 ^ 32 / 4 % 2 ^ 22 ≡ address / 4 % 2 ^ 22 = omega arith in
    let lane : address % 2 ^ 32 % 4 ≡ address % 4 = omega arith in
    ap₂ (λ at lane. writes at (placed byte lane) (only_marked lane)) word lane
