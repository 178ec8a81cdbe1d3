-- What holds over a run of the instruction machine.
use Rattle.std.proofs.Common.{◌≡◌, ℕ, zero, suc, pred, ◌+◌, ◌<◌, ◌≤◌, Bool, true, false, not, ◌&&◌, List, [], ◌∷◌, ◌++◌, length, take, sym, refl, ap, ◌∙◌, ap₂, append_assoc, not-suc-le-zero, add_assoc, zero-add, one-add, arith, length-append, le-ltb, lt-ltb}
use Rattle.bus.specs.Meaning.{Meaning}
use Rattle.machine.specs.declared.Registers.{Registers}
use Rattle.machine.specs.State.{State, Boundary, live}
use Rattle.machine.specs.Lines.{stalled, one, stalls}
use Rattle.machine.specs.Isa.{Isa, Pace, Lawful}
use Rattle.machine.specs.Clock.{opened, held, lasts, owed, waits, clock, run, ends, counted, finished}
use Rattle.machine.specs.Shares.{Cut, short, whole, cut_after}
use Rattle.machine.specs.declared.Record.{Record}
use Rattle.machine.specs.Instructions.{Run, recorded, instruction, share, stop, then, onward, leaps}
use Rattle.machine.specs.Histories.{stalls_of, clocks_of}
use Rattle.machine.specs.Laws.{StopsWithoutAShare}
use Rattle.machine.proofs.Cuts.{Whole, final, wait, work, Good, cut_good}
use Rattle.machine.proofs.Waits.{lasts-carried, owed_pred, clock-held, clock-goes, instructs}

-- a run of the instruction machine over just the lines that it uses
pub data Ran (M : Meaning) (I : Isa) (T : Pace) : Boundary → List ℕ → List Record → Boundary → Type 0 where
  none : {s : Boundary} → Ran M I T s [] [] s
  next : {s e : Boundary} {b u : List ℕ} {l : ℕ} {rs : List Record} → Whole (pred (owed M I T s.context.fetched.ir s.context.registers)) b l
      → Ran M I T (instruction M I b l s) u rs e → Ran M I T s ((b ++ (l ∷ [])) ++ u) (recorded M I T b s ∷ rs) e

take_front : (u v : List ℕ) → take (length u) (u ++ v) ≡ u
take_front [] v = refl
take_front (x ∷ u) v = ap {B = List ℕ} (λ r. x ∷ r) (take_front u v)

pub stalls-append : (a b : List ℕ) → stalls (a ++ b) ≡ stalls a + stalls b
unfolding stalls
stalls-append [] b = sym (zero-add _)
stalls-append (x ∷ a) b = ap (λ (n : ℕ). one (stalled x) + n) (stalls-append a b) ∙ sym (add_assoc _ _ _)

share-length : {k : ℕ} {b : List ℕ} {l : ℕ} → Whole k b l → (stalls (b ++ (l ∷ [])) ≡ stalls b) × (length (b ++ (l ∷ [])) ≡ suc k + stalls b)
unfolding stalls
share-length (final e) = (ap (λ (t : Bool). one t + 0) e, refl)
share-length (wait {x = x} {b = b} e v) =
    let n : one (stalled x) ≡ 1 = ap one e in
    (ap (λ (n : ℕ). one (stalled x) + n) (share-length v).0, omega (arith, (share-length v).1))
share-length (work {x = x} {b = b} e v) =
    let n : one (stalled x) ≡ 0 = ap one e in
    (ap (λ (n : ℕ). one (stalled x) + n) (share-length v).0, omega (arith, (share-length v).1))

pub share-stalls : {k : ℕ} {b : List ℕ} {l : ℕ} → Whole k b l → length b ≡ k + stalls b
share-stalls {b = b} {l = l} v = omega (arith, (share-length v).1, length-append b (l ∷ []))

module _ (M : Meaning) (I : Isa) (T : Pace) where
  -- what a run of the instruction machine is, with the lines that it used
  pub record Runs (s : Boundary) (ls : List ℕ) (r : Run) : Type 0 where
    pub over : List ℕ
    pub ran : Ran M I T s over r.records r.state
    pub split : ls ≡ over ++ r.left
    pub count : length over ≡ r.used

  runs_by : (go : Boundary → List ℕ → Run) → ((s : Boundary) (ls : List ℕ) → Runs s ls (go s ls)) → (s : Boundary) (ls : List ℕ) (c : Cut)
      → Good (pred (owed M I T s.context.fetched.ir s.context.registers)) ls c → Runs s ls (onward M I T go s ls c)
  runs_by go gs s ls short g = record { over = []; ran = none; split = refl; count = refl }
  runs_by go gs s ls (whole b l left) g =
      let k : Runs (instruction M I b l s) left (go (instruction M I b l s) left) = gs (instruction M I b l s) left in
      record {
        over = (b ++ (l ∷ [])) ++ k.over;
        ran = next g.0 k.ran;
        split =
            g.1 ∙ ap (λ (r : List ℕ). b ++ (l ∷ r)) k.split ∙ sym (append_assoc b (l ∷ []) (k.over ++ _)) ∙ sym (append_assoc (b ++ (l ∷ [])) k.over _);
        count = length-append (b ++ (l ∷ [])) k.over ∙ ap₂ ◌+◌ (length-append b (l ∷ []) ∙ omega arith) k.count;
      }

  pub runs : (room : ℕ) (s : Boundary) (ls : List ℕ) → Runs s ls (leaps M I T room s ls)
  unfolding leaps
  runs zero s ls = record { over = []; ran = none; split = refl; count = refl }
  runs (suc room) s ls = runs_by (leaps M I T room) (runs room) s ls (share M I T s ls) (cut_good (pred (owed M I T s.context.fetched.ir s.context.registers)) ls)

  pub run-append : (a b : List ℕ) (s : State) → run M I T (a ++ b) s ≡ run M I T b (run M I T a s)
  run-append [] b s = refl
  run-append (x ∷ a) b s = run-append a b (clock M I T x s)

  pub counted-append : (on : ℕ → State → Bool) (a b : List ℕ) (s : State)
      → counted M I T on (a ++ b) s ≡ counted M I T on a s + counted M I T on b (run M I T a s)
  unfolding counted
  counted-append on [] b s = sym (zero-add _)
  counted-append on (x ∷ a) b s = ap (λ (n : ℕ). one (on x s) + n) (counted-append on a b (clock M I T x s)) ∙ sym (add_assoc _ _ _)

  -- over a share one instruction finishes
  finished-share : {k : ℕ} {b : List ℕ} {l : ℕ} → Whole k b l → (s : State)
      → s.core.waiting.step + suc k ≡ lasts M I T s.core.context.fetched.ir s.core.context.registers s.core.waiting
      → finished M I T (b ++ (l ∷ [])) s ≡ 1
  unfolding counted
  finished-share {l = l} (final e) s q =
      let n : waits M I T s.core ≡ false = le-ltb _ _ (omega arith) in
      ap₂ (λ (t v : Bool). one (not t && not v) + 0) e n
  finished-share {l = l} (wait {x = x} {b = b} e v) s q =
      ap₂ ◌+◌ (ap (λ (t : Bool). one (not t && not (waits M I T s.core))) e)
      (ap (finished M I T (b ++ (l ∷ []))) (clock-held M I T x s e) ∙ finished-share v (held M x s) q)
  finished-share {l = l} (work {k = k} {x = x} {b = b} e v) s q =
      let w : ℕ = s.core.context.fetched.ir in
      let n : waits M I T s.core ≡ true = lt-ltb _ _ (omega arith) in
      let a : Registers = (opened M I s.core.waiting.step w s.core.context.registers s.contents).registers in
      let m : (s.core.waiting.step + 1) + suc k ≡ lasts M I T w s.core.context.registers s.core.waiting = omega arith in
      ap₂ ◌+◌ (ap₂ (λ (t v : Bool). one (not t && not v)) e n)
      (ap (finished M I T (b ++ (l ∷ []))) (clock-goes M I T x s true e n) ∙ finished-share v _ (m ∙ sym (lasts-carried M I T w s.core.context.registers a s.core.waiting)))

  module _ (L : Lawful I T) where
    pub ran-run : {s e : Boundary} {u : List ℕ} {rs : List Record} → Ran M I T s u rs e → run M I T u (live s) ≡ live e
    ran-run none = refl
    ran-run (next {s = s} {b = b} {u = u} {l = l} v r) = run-append (b ++ (l ∷ [])) u (live s) ∙ ap (run M I T u) (instructs M I T L s v) ∙ ran-run r

    pub ran-finished : {s e : Boundary} {u : List ℕ} {rs : List Record} → Ran M I T s u rs e → finished M I T u (live s) ≡ length rs
    unfolding counted
    ran-finished none = refl
    ran-finished (next {s = s} {b = b} {u = u} {l = l} v r) =
        counted-append (ends M I T) (b ++ (l ∷ [])) u (live s)
        ∙ ap₂ ◌+◌ (finished-share v (live s) (zero-add _ ∙ owed_pred M I T L s.context.fetched.ir s.context.registers)) (ap (finished M I T u) (instructs M I T L s v) ∙ ran-finished r)
        ∙ one-add _

    pub ran-stalls : {s e : Boundary} {u : List ℕ} {rs : List Record} → Ran M I T s u rs e → stalls u ≡ stalls_of rs
    unfolding stalls recorded
    ran-stalls none = refl
    ran-stalls (next {b = b} {u = u} {l = l} v r) = stalls-append (b ++ (l ∷ [])) u ∙ ap₂ ◌+◌ (share-length v).0 (ran-stalls r)

    pub ran-length : {s e : Boundary} {u : List ℕ} {rs : List Record} → Ran M I T s u rs e → length u ≡ clocks_of rs + stalls_of rs
    unfolding recorded
    ran-length none = refl
    ran-length (next {s = s} {b = b} {u = u} {l = l} v r) =
        length-append (b ++ (l ∷ [])) u ∙ omega (arith, (share-length v).1, ran-length r, owed_pred M I T L s.context.fetched.ir s.context.registers)

pub taken : (M : Meaning) (I : Isa) (T : Pace) (s : Boundary) (ls : List ℕ) (r : Run) (k : Runs M I T s ls r) → take r.used ls ≡ k.over
taken M I T s ls r k = ap₂ (λ (n : ℕ) (xs : List ℕ). take n xs) (sym k.count) k.split ∙ take_front k.over r.left

-- The clock rules over the lines that a run of the instruction machine used give that run's end.
pub leaps-run : (M : Meaning) (I : Isa) (T : Pace) → Lawful I T → (room : ℕ) (s : Boundary) (ls : List ℕ)
    → run M I T (take (leaps M I T room s ls).used ls) (live s) ≡ live (leaps M I T room s ls).state
leaps-run M I T L room s ls =
    let k : Runs M I T s ls (leaps M I T room s ls) = runs M I T room s ls in
    ap (λ (u : List ℕ). run M I T u (live s)) (taken M I T s ls _ k) ∙ ran-run M I T L k.ran

module _ (M : Meaning) (I : Isa) (T : Pace) where
  stops_by : (go : Boundary → List ℕ → Run) (s : Boundary) (ls : List ℕ) (c : Cut) → Good (pred (owed M I T s.context.fetched.ir s.context.registers)) ls c → share M I T s ls ≡ c
      → ((i : Boundary) (is : List ℕ) → length is < length ls → share M I T (go i is).state (go i is).left ≡ short)
      → share M I T (onward M I T go s ls c).state (onward M I T go s ls c).left ≡ short
  stops_by go s ls short g e f = e
  stops_by go s ls (whole b l left) g e f =
      f (instruction M I b l s) left (omega (arith, ap length g.1, length-append b (l ∷ left)))

  stops_room : (room : ℕ) (s : Boundary) (ls : List ℕ) → length ls ≤ room → share M I T (leaps M I T room s ls).state (leaps M I T room s ls).left ≡ short
  unfolding leaps cut_after
  stops_room zero s [] h = refl
  stops_room zero s (x ∷ ls) h = absurd (not-suc-le-zero h)
  stops_room (suc room) s ls h =
      stops_by (leaps M I T room) s ls (share M I T s ls) (cut_good (pred (owed M I T s.context.fetched.ir s.context.registers)) ls) refl (λ i is q. stops_room room i is (omega arith))

pub stops : (M : Meaning) (I : Isa) (T : Pace) → StopsWithoutAShare M I T
stops M I T s ls = stops_room M I T (length ls) s ls (omega arith)

-- the two steps of a leap's loop
module _ (M : Meaning) (I : Isa) (T : Pace) where
  pub leaps_next : (room : ℕ) (s : Boundary) (ls b : List ℕ) (l : ℕ) (left : List ℕ) → share M I T s ls ≡ whole b l left
      → leaps M I T (suc room) s ls ≡ then (recorded M I T b s) b (leaps M I T room (instruction M I b l s) left)
  unfolding leaps
  leaps_next room s ls b l left e = ap (onward M I T (leaps M I T room) s ls) e

  pub leaps_end : (room : ℕ) (s : Boundary) (ls : List ℕ) → share M I T s ls ≡ short → leaps M I T room s ls ≡ stop s ls
  unfolding leaps
  leaps_end zero s ls e = refl
  leaps_end (suc room) s ls e = ap (onward M I T (leaps M I T room) s ls) e
