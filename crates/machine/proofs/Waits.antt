-- One instruction: the clock rules over a share are the instruction machine's instruction over it.
use Rattle.std.proofs.Common.{◌≡◌, ℕ, zero, suc, pred, ◌+◌, ◌-◌, ◌≤◌, Bool, true, false, ◌⊎◌, List, [], ◌∷◌, ◌++◌, length, sym, refl, ap, ◌∙◌, ap₂, inl, inr, add-zero, zero-add, add-one, one-add, arith, le-ltb, lt-ltb}
use native.Mathlib.Nat.{suc-pred-eq_of_pos, suc-sub-suc, sub-zero}
use Rattle.bus.specs.Meaning.{Meaning}
use Rattle.machine.specs.declared.Registers.{Registers}
use Rattle.machine.specs.declared.Context.{Context}
use Rattle.machine.specs.declared.Waiting.{Waiting}
use Rattle.machine.specs.State.{State, Boundary, rest, live, with_registers, with_ticks}
use Rattle.machine.specs.Lines.{stalled, noted, noted_all}
use Rattle.machine.specs.Isa.{Class, Isa, Pace, turns, Lawful, loading, storing, stepping, plain}
use Rattle.machine.specs.Clock.{Reached, finish, access_by, access, opened, turned_by, written_by, held, goes, carried, lasts, owed, waits, clock_by, clock, run}
use Rattle.machine.specs.Shares.{ahead, ahead_by}
use Rattle.machine.specs.Instructions.{ready_at, ready, before, instruction}
use Rattle.machine.specs.Laws.{OthersPass}
use Rattle.machine.proofs.Cuts.{Whole, final, wait, work}

-- the core inside an instruction, with any wait state
abbrev pub mid : Context → Waiting → List ℕ → State
mid f x h = record { core = record { context = f; waiting = x }; contents = h }

-- what an unstalled line makes of the machine, waiting on or finishing
abbrev pub moved : Meaning → Isa → Pace → Bool → ℕ → State → State
moved M I T v l s =
    let f : Context = s.core.context in
    let a : Reached = opened M I s.core.waiting.step f.fetched.ir f.registers s.contents in
    goes M I T v l (with_registers f a.registers) (carried M I T f.fetched.ir f.registers s.core.waiting) a.contents

-- the three ways of a line
pub data Way (M : Meaning) (I : Isa) (T : Pace) (l : ℕ) (s : State) : Type 0 where
  stands : stalled l ≡ true → clock M I T l s ≡ held M l s → Way M I T l s
  waiting : stalled l ≡ false → waits M I T s.core ≡ true → clock M I T l s ≡ moved M I T true l s → Way M I T l s
  ending : stalled l ≡ false → waits M I T s.core ≡ false → clock M I T l s ≡ moved M I T false l s → Way M I T l s

module _ (M : Meaning) (I : Isa) (T : Pace) where
  -- all that the waiting needs of `carried` and `lasts`: S rises by 1, and a line changes nothing of the number of clocks, whatever registers the access leaves.
  carried_step : (w : ℕ) (r : Registers) (x : Waiting) → (carried M I T w r x).step ≡ suc x.step
  carried_step w r x = add-one x.step

  pub lasts-carried : (w : ℕ) (r q : Registers) (x : Waiting) → lasts M I T w q (carried M I T w r x) ≡ lasts M I T w r x
  lasts-carried w r q x = refl

  -- and of a step unit: its clocks are the table's
  owed-stepped : (w : ℕ) (r : Registers) → I.class w ≡ stepping → owed M I T w r ≡ T.clocks w
  owed-stepped w r e = refl

  -- the wait state after some unstalled lines more
  abbrev pub carries : ℕ → ℕ → Registers → Waiting → Waiting
  carries zero w r x = x
  carries (suc k) w r x = carries k w r (carried M I T w r x)

  pub clock-held : (l : ℕ) (s : State) → stalled l ≡ true → clock M I T l s ≡ held M l s
  clock-held l s e = ap (λ (v : Bool). clock_by M I T v l s) e

  pub clock-goes : (l : ℕ) (s : State) (v : Bool) → stalled l ≡ false → waits M I T s.core ≡ v → clock M I T l s ≡ moved M I T v l s
  clock-goes l s v e q = ap (λ (t : Bool). clock_by M I T t l s) e ∙ ap (λ (t : Bool). moved M I T t l s) q

  pub way : (l : ℕ) (s : State) → Way M I T l s
  way l s = by (stalled l) (waits M I T s.core) refl refl
    where
      by : (t v : Bool) → stalled l ≡ t → waits M I T s.core ≡ v → Way M I T l s
      by true v e q = stands e (clock-held l s e)
      by false true e q = waiting e q (clock-goes l s true e q)
      by false false e q = ending e q (clock-goes l s false e q)

  -- after the access, registers and contents stay
  opened_on : (n s w : ℕ) (r : Registers) (h : List ℕ) → n ≡ suc s → opened M I n w r h ≡ record { registers = r; contents = h }
  opened_on n s w r h e = ap (λ (i : ℕ). opened M I i w r h) e

  -- the end of an instruction, from the core after its access
  abbrev done : Context → List ℕ → ℕ → Waiting → List ℕ → State
  done f b l x h = goes M I T false l (with_ticks f (noted_all b f.ticks)) x h

  pass_more : (h : List ℕ) (n : ℕ) → M.passed (M.passed h 1) n ≡ M.passed h (suc n)
  pass_more h n = M.more h 1 n ∙ ap (M.passed h) (one-add n)

  -- one line of waiting
  goes_on_lem : (l : ℕ) (f : Context) (s : ℕ) (x : Waiting) (h : List ℕ) (v : Bool) → stalled l ≡ false → x.step ≡ suc s → waits M I T (mid f x h).core ≡ v
      → clock M I T l (mid f x h) ≡ goes M I T v l f (carried M I T f.fetched.ir f.registers x) h
  goes_on_lem l f s x h v e o q =
      clock-goes l (mid f x h) v e q
      ∙ ap (λ (a : Reached). goes M I T v l (with_registers f a.registers) (carried M I T f.fetched.ir f.registers x) a.contents)
      (opened_on x.step s f.fetched.ir f.registers h o)

  -- from step 1 on, only waiting is left
  waited : {k : ℕ} {b : List ℕ} {l : ℕ} → Whole k b l → (f : Context) (s : ℕ) (x : Waiting) (h : List ℕ) → x.step ≡ suc s
      → suc s + suc k ≡ lasts M I T f.fetched.ir f.registers x
      → run M I T (b ++ (l ∷ [])) (mid f x h) ≡ done f b l (carries (suc k) f.fetched.ir f.registers x) (M.passed h (length b))
  waited {l = l} (final e) f s x h o q =
      goes_on_lem l f s x h false e o (le-ltb _ _ (omega arith))
      ∙ ap (λ (g : List ℕ). goes M I T false l f (carried M I T f.fetched.ir f.registers x) g) (sym (M.none h))
  waited {k = k} {l = l} (wait {x = y} {b = b} e v) f s x h o q =
      let g : Context = with_ticks f (noted y f.ticks) in
      ap (run M I T (b ++ (l ∷ []))) (clock-held y (mid f x h) e)
      ∙ waited v g s x (M.passed h 1) o q
      ∙ ap (done g b l (carries (suc k) f.fetched.ir f.registers x)) (pass_more h (length b))
  waited {l = l} (work {k = k} {x = y} {b = b} e v) f s x h o q =
      let w : ℕ = f.fetched.ir in
      let g : Context = with_ticks f (noted y f.ticks) in
      let z : Waiting = carried M I T w f.registers x in
      let n : z.step ≡ suc (suc s) = carried_step w f.registers x ∙ ap suc o in
      let m : suc (suc s) + suc k ≡ lasts M I T w f.registers z = (omega arith) ∙ q ∙ sym (lasts-carried w f.registers f.registers x) in
      ap (run M I T (b ++ (l ∷ []))) (goes_on_lem y f s x h true e o (lt-ltb _ _ (omega arith)))
      ∙ waited v g (suc s) z (M.passed h 1) n m
      ∙ ap (done g b l (carries (suc k) w f.registers z)) (pass_more h (length b))

  -- the wait state at the end of an instruction of k + 1 clocks: its first clock has the registers before the access, the others those after it
  abbrev closing : ℕ → ℕ → Registers → Registers → Waiting
  closing k w r q = carries k w q (carried M I T w r rest)

  -- the end of an instruction with its access made at the contents g, j clocks before it finishes
  abbrev at : ℕ → Context → List ℕ → ℕ → List ℕ → ℕ → State
  at k f b l g j =
      let a : Reached = access M I f.fetched.ir f.registers g in
      done (with_registers f a.registers) b l (closing k f.fetched.ir f.registers a.registers) (M.passed a.contents j)

  -- from step 0: the access on the first unstalled line
  opens : {k : ℕ} {b : List ℕ} {l : ℕ} → Whole k b l → (f : Context) (h : List ℕ) → suc k ≡ owed M I T f.fetched.ir f.registers
      → run M I T (b ++ (l ∷ [])) (live (record { context = f; contents = h })) ≡ at k f b l (M.passed h (ahead b)) (length b - ahead b)
  opens {l = l} (final e) f h q =
      let w : ℕ = f.fetched.ir in
      let a : Reached = access M I w f.registers h in
      clock-goes l (live (record { context = f; contents = h })) false e (le-ltb _ _ (omega arith))
      ∙ ap (λ (g : List ℕ). goes M I T false l (with_registers f a.registers) (carried M I T w f.registers rest) g) (sym (M.none a.contents))
      ∙ ap (λ (g : List ℕ). at 0 f [] l g 0) (sym (M.none h))
  opens {k = k} {l = l} (wait {x = x} {b = b} e v) f h q =
      let g : Context = with_ticks f (noted x f.ticks) in
      let n : suc (ahead b) ≡ ahead (x ∷ b) = ap (λ (t : Bool). ahead_by t (ahead b)) (sym e) in
      ap (run M I T (b ++ (l ∷ []))) (clock-held x (live (record { context = f; contents = h })) e)
      ∙ opens v g (M.passed h 1) q
      ∙ ap₂ (at k g b l) (pass_more h (ahead b)) (sym (suc-sub-suc (length b) (ahead b)))
      ∙ ap (λ (i : ℕ). at k g b l (M.passed h i) (suc (length b) - i)) n
  opens {l = l} (work {k = k} {x = x} {b = b} e v) f h q =
      let w : ℕ = f.fetched.ir in
      let a : Reached = access M I w f.registers h in
      let o : Context = with_registers f a.registers in
      let g : Context = with_ticks o (noted x f.ticks) in
      let z : Waiting = carried M I T w f.registers rest in
      let n : 0 ≡ ahead (x ∷ b) = ap (λ (t : Bool). ahead_by t (ahead b)) (sym e) in
      let m : suc 0 + suc k ≡ lasts M I T w a.registers z = (omega arith) ∙ q ∙ sym (lasts-carried w f.registers a.registers rest) in
      ap (run M I T (b ++ (l ∷ []))) (clock-goes x (live (record { context = f; contents = h })) true e (lt-ltb _ _ (omega arith)))
      ∙ waited v g 0 z (M.passed a.contents 1) (carried_step w f.registers rest) m
      ∙ ap (done g b l (closing (suc k) w f.registers a.registers)) (pass_more a.contents (length b))
      ∙ ap₂ (at (suc k) f (x ∷ b) l) (sym (M.none h)) (sym (sub-zero (suc (length b))))
      ∙ ap (λ (i : ℕ). at (suc k) f (x ∷ b) l (M.passed h i) (suc (length b) - i)) n

  -- a step unit's pair, clock by clock
  carries-turns : (w : ℕ) (r : Registers) → I.class w ≡ stepping → (k s : ℕ) (x : Waiting) → x.step ≡ s → x.pair ≡ turns T w r s
      → (carries k w r x).pair ≡ turns T w r (k + s)
  carries-turns w r e zero s x o p = p ∙ ap (turns T w r) (sym (zero-add s))
  carries-turns w r e (suc k) s x o p =
      let n : k + suc s ≡ suc k + s = omega arith in
      carries-turns w r e k (suc s) (carried M I T w r x) (carried_step w r x ∙ ap suc o)
      (ap (λ (j : Class). turned_by T j w r x.step x.pair) e ∙ ap₂ (T.turn w r) o p)
      ∙ ap (turns T w r) n

  module _ (L : Lawful I T) where
    -- what the clock rules write at the end is the exact effect
    written-effect : (j : Class) (k w pc : ℕ) (r : Registers) (h : List ℕ) → I.class w ≡ j → suc k ≡ owed M I T w r
        → written_by I T j w pc (access_by M I j w r h).registers (closing k w r (access_by M I j w r h).registers).pair
        ≡ I.effect w pc (access_by M I j w r h).registers
    written-effect loading k w pc r h e q = refl
    written-effect storing k w pc r h e q = refl
    written-effect stepping k w pc r h e q =
        ap (T.result w r) (carries-turns w r e (suc k) 0 rest refl refl ∙ ap (turns T w r) (add-zero (suc k) ∙ q ∙ owed-stepped w r e)) ∙ L.exact w pc r e
    written-effect plain k w pc r h e q = refl

    owed_least : (w : ℕ) (r : Registers) → 1 ≤ owed M I T w r
    owed_least w r = L.least w

    pub owed_pred : (w : ℕ) (r : Registers) → suc (pred (owed M I T w r)) ≡ owed M I T w r
    owed_pred w r = suc-pred-eq_of_pos (owed_least w r)

    pub instructs : {b : List ℕ} {l : ℕ} (s : Boundary) → Whole (pred (owed M I T s.context.fetched.ir s.context.registers)) b l
        → run M I T (b ++ (l ∷ [])) (live s) ≡ live (instruction M I b l s)
    unfolding ready_at instruction
    instructs {b} {l} s v =
        let w : ℕ = s.context.fetched.ir in
        let r : Registers = s.context.registers in
        let f : Context = before M I b s in
        let h : List ℕ = (ready M I b s).contents in
        opens v s.context s.contents (owed_pred w r)
        ∙ ap (λ (r : Registers). record { core = record { context = finish M I f r l h; waiting = rest }; contents = M.passed h 1 })
        (written-effect (I.class w) (pred (owed M I T w r)) w s.context.fetched.pc r (M.passed s.contents (ahead b)) refl (owed_pred w r))

pub ahead_le : (b : List ℕ) → ahead b ≤ length b
ahead_le [] = omega arith
ahead_le (x ∷ b) = by (stalled x) (ahead_le b)
  where
    by : (v : Bool) → ahead b ≤ length b → ahead_by v (ahead b) ≤ suc (length b)
    by true h = omega arith
    by false h = omega arith

pub none_made : (M : Meaning) (I : Isa) (k : Class) (w : ℕ) (r : Registers) (h : List ℕ) → (k ≡ stepping) ⊎ (k ≡ plain) → access_by M I k w r h ≡ record { registers = r; contents = h }
none_made M I k w r h (inl e) = ap (λ (j : Class). access_by M I j w r h) e
none_made M I k w r h (inr e) = ap (λ (j : Class). access_by M I j w r h) e

pub others_pass : (M : Meaning) (I : Isa) → OthersPass M I
unfolding ready_at
others_pass M I b s o =
    let w : ℕ = s.context.fetched.ir in
    let e = none_made M I (I.class w) w s.context.registers (M.passed s.contents (ahead b)) o in
    let n : ahead b + (length b - ahead b) ≡ length b = omega (arith, ahead_le b) in (
      ap (λ (a : Reached). a.registers) e,
      ap (λ (a : Reached). M.passed a.contents (length b - ahead b)) e ∙ M.more s.contents (ahead b) (length b - ahead b) ∙ ap (M.passed s.contents) n,
    )
