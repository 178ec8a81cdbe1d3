-- One request more.
use Rattle.std.proofs.Common.{◌≡◌, ℕ, ◌+◌, ◌-◌, ◌<◌, ◌≤◌, List, [], ◌∷◌, ◌++◌, length, get_or, take, drop, set, Ok, Err, sym, refl, ap, ◌∙◌, ap₂, arith, length-take, length-drop, take-add}
use Rattle.std.proofs.Math.Nat.{sub-zero}
use Rattle.std.proofs.lemmas.List.Sums.{sum_by-cons, sum_by_push}
use Rattle.std.proofs.lemmas.List.{map-append, take-append-le, drop-append-le, take_more, take_more_set, take-take, length-take-le, drop-set-lt, drop-drop}
use Rattle.bus.specs.Meaning.{Meaning}
use Rattle.machine.specs.declared.Record.{Record}
use Rattle.machine.specs.State.{State}
use Rattle.machine.specs.Histories.{Call, leaping, Did, After, none, then}
use Rattle.risc5.specs.Set.{card, pace}
use Rattle.history.specs.declared.Way.{Way}
use Rattle.history.specs.declared.Request.{Request}
use Rattle.history.specs.declared.Answer.{Answer}
use Rattle.history.specs.declared.Answer.TheVariants.{Clocked, Leapt}
use Rattle.history.specs.Asked.{part_of, way_of, wrote, wrote_all, call_of, calls_of, asked, given}

-- a step at the end of a history
pub after_more : {M : Meaning} {s m e : State} {t : List Call} {c : Call} → After M card pace s t m → Did M card pace m c e → After M card pace s (t ++ (c ∷ [])) e
after_more none d = then d none
after_more (then o a) d = then o (after_more a d)

-- a call's records stand in front
call_front : (ls : List ℕ) (room : ℕ) (rs new : List Record) (x : Answer) → wrote x ≤ length rs → call_of ls room (rs ++ new) x ≡ call_of ls room rs x
call_front ls room rs new (Clocked r) h = refl
call_front ls room rs new (Leapt (Ok a)) h = ap (leaping ls room a.0 a.1 a.2) (take-append-le a.1 rs new h)
call_front ls room rs new (Leapt (Err r)) h = refl

call_own : (ls : List ℕ) (room : ℕ) (rs : List Record) (x : Answer) → call_of ls room (take (wrote x) rs) x ≡ call_of ls room rs x
call_own ls room rs (Clocked r) = refl
call_own ls room rs (Leapt (Ok a)) = let le : a.1 ≤ a.1 = omega arith in ap (leaping ls room a.0 a.1 a.2) (take-take a.1 a.1 rs le)
call_own ls room rs (Leapt (Err r)) = refl

calls_more : (room : ℕ) (ls : List ℕ) (qs : List Request) (xs : List Answer) (rs new : List Record) (q : Request) (x : Answer)
    → length qs ≡ length xs → wrote_all xs ≡ length rs
    → calls_of room ls (qs ++ (q ∷ [])) (xs ++ (x ∷ [])) (rs ++ new) ≡ calls_of room ls qs xs rs ++ (call_of (part_of ls q) (room - length rs) new x ∷ [])
calls_more room ls [] [] [] new q x e w = ap (λ (n : ℕ). call_of (part_of ls q) n new x ∷ []) (sym (sub-zero room))
calls_more room ls [] [] (r ∷ rs) new q x e w = absurd (omega arith)
calls_more room ls [] (y ∷ xs) rs new q x e w = absurd (omega arith)
calls_more room ls (p ∷ qs) [] rs new q x e w = absurd (omega arith)
calls_more room ls (p ∷ qs) (y ∷ xs) rs new q x e w =
    let k : ℕ = wrote y in
    let all : k + wrote_all xs ≡ length rs = sym (sum_by-cons wrote y xs) ∙ w in
    let le : k ≤ length rs = omega arith in
    let n : length qs ≡ length xs = omega arith in
    let v : wrote_all xs ≡ length (drop k rs) = omega (arith, length-drop k rs) in
    let room-left : room - k - length (drop k rs) ≡ room - length rs = omega (arith, length-drop k rs) in
    ap₂ (λ (c : Call) (t : List Call). c ∷ t) (call_front (part_of ls p) room rs new y le)
    (ap (calls_of (room - k) ls (qs ++ (q ∷ [])) (xs ++ (x ∷ []))) (drop-append-le k rs new le)
    ∙ calls_more (room - k) ls qs xs (drop k rs) new q x n v
    ∙ ap (λ (i : ℕ). calls_of (room - k) ls qs xs (drop k rs) ++ (call_of (part_of ls q) i new x ∷ [])) room-left)

-- an item more of a part in front is an item more of the whole
pub take_more_of : {X : Type 0} (xs : List X) (m i : ℕ) (d : X) → i < length (take m xs) → take (i + 1) xs ≡ take i xs ++ (get_or (take m xs) i d ∷ [])
take_more_of xs m i d h =
    let le : i ≤ m = omega (arith, length-take m xs) in
    let next : i + 1 ≤ m = omega (arith, length-take m xs) in
    sym (take-take (i + 1) m xs next) ∙ take_more (take m xs) i d h ∙ ap (λ r. r ++ (get_or (take m xs) i d ∷ [])) (take-take i m xs le)

module _ (xs : List Answer) (i : ℕ) (x : Answer) (h : i < length xs) where
  pub wrote_on : (n : ℕ) → wrote_all (take i xs) ≡ n → wrote_all (take (i + 1) (set xs i x)) ≡ n + wrote x
  wrote_on n e = ap wrote_all (take_more_set xs i x h) ∙ sum_by_push wrote (take i xs) x ∙ ap (λ (k : ℕ). k + wrote x) e

  pub given_on : (qs : List Request) (q : Request) → take (i + 1) qs ≡ take i qs ++ (q ∷ []) → given (take i xs) ≡ asked (take i qs) → way_of x ≡ q.way
      → given (take (i + 1) (set xs i x)) ≡ asked (take (i + 1) qs)
  given_on qs q p e w =
      ap given (take_more_set xs i x h) ∙ map-append way_of (take i xs) (x ∷ []) ∙ ap₂ (λ (r : List Way) (y : Way). r ++ (y ∷ [])) e w ∙ sym (ap asked p ∙ map-append (λ (r : Request). r.way) (take i qs) (q ∷ []))

  -- the answers that are not written yet
  pub left_on : (ys : List Answer) → drop i xs ≡ drop i ys → drop (i + 1) (set xs i x) ≡ drop (i + 1) ys
  left_on ys e = let lt : i < i + 1 = omega arith in drop-set-lt (i + 1) xs i x lt ∙ sym (drop-drop 1 i xs) ∙ ap (drop 1) e ∙ drop-drop 1 i ys

  pub calls_on : (room : ℕ) (ls : List ℕ) (qs : List Request) (q : Request) (k : ℕ) (t u : List Record)
      → take (i + 1) qs ≡ take i qs ++ (q ∷ []) → i ≤ length qs → wrote_all (take i xs) ≡ k → take k u ≡ take k t → k ≤ length t → length u ≡ length t
      → calls_of room ls (take (i + 1) qs) (take (i + 1) (set xs i x)) (take (k + wrote x) u)
      ≡ calls_of room ls (take i qs) (take i xs) (take k t) ++ (call_of (part_of ls q) (room - k) (drop k u) x ∷ [])
  calls_on room ls qs q k t u p lq w e le size =
      let a : length (take i qs) ≡ length (take i xs) = length-take-le i qs lq ∙ sym (length-take-le i xs (omega arith)) in
      let n : length (take k t) ≡ k = length-take-le k t le in
      let cut : take (k + wrote x) u ≡ take k t ++ take (wrote x) (drop k u) = take-add k (wrote x) u ∙ ap (λ (r : List Record). r ++ take (wrote x) (drop k u)) e in
      (λ j. calls_of room ls (p j) (take_more_set xs i x h j) (cut j))
      ∙ calls_more room ls (take i qs) (take i xs) (take k t) (take (wrote x) (drop k u)) q x a (w ∙ sym n)
      ∙ ap (λ (c : Call). calls_of room ls (take i qs) (take i xs) (take k t) ++ (c ∷ []))
      (ap (λ (j : ℕ). call_of (part_of ls q) (room - j) (take (wrote x) (drop k u)) x) n ∙ call_own (part_of ls q) (room - k) (drop k u) x)
