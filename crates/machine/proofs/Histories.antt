-- What holds after a history: how it ends and what it tells.
use Rattle.std.proofs.Common.{◌≡◌, ℕ, ◌+◌, Bool, true, false, cond, eqb, List, [], ◌∷◌, ◌++◌, length, take, Some, None, Option, sym, refl, ap, ◌∙◌, subst, ap₂, append-nil, arith}
use Rattle.std.proofs.lemmas.Bool.Decides as ways
use Rattle.refusal.specs.declared.Refusal.{Refusal}
use Rattle.refusal.specs.declared.Refusal.TheVariants.{InsideInstruction}
use Rattle.bus.specs.Meaning.{Meaning}
use Rattle.machine.specs.declared.Waiting.{Waiting}
use Rattle.machine.specs.State.{State, Boundary, rest, live, boundary_of}
use Rattle.machine.specs.Lines.{stalls}
use Rattle.machine.specs.Isa.{Isa, Pace, Lawful}
use Rattle.machine.specs.Clock.{clock, run, ends, counted, finished}
use Rattle.machine.specs.Instructions.{Run, completes}
use Rattle.machine.specs.Histories.{lines_refused, or_inside, leap_refused, Call, leapt, Did, clocked, leaped, idled, After, none, then, takes, tells, tells_stalls, lines, told, stalls_told}
use Rattle.machine.specs.Laws.{EndsByTheClockRules, EndsByTheInstructionMachine, TellsEveryInstruction, LinesAreClocksAndStalls}
use Rattle.machine.proofs.Waits.{Way, stands, waiting, ending, way}
use Rattle.machine.proofs.Runs.{Ran, Runs, runs, run-append, counted-append, stalls-append, ran-run, ran-finished, ran-stalls, ran-length, taken, leaps-run}

-- at step 0 the pair is 0
abbrev pub Settled : State → Type 0
Settled s = s.core.waiting.step ≡ 0 → s.core.waiting ≡ rest

settled_live : (s : State) → Settled s → s.core.waiting.step ≡ 0 → live (boundary_of s) ≡ s
settled_live s p z = ap (λ (w : Waiting). record { core = record { context = s.core.context; waiting = w }; contents = s.contents }) (sym (p z))

-- a leap that is not refused is at step 0
inside_none : (i : ℕ) (o : Option Refusal) → or_inside i o ≡ None → i ≡ 0
inside_none i None e = by (eqb i 0) refl e
  where
    by : (v : Bool) → eqb i 0 ≡ v → cond v None (Some InsideInstruction) ≡ None → i ≡ 0
    by true q e = grind (arith, ways.nat_tests)
    by false q e = let z : ◌≡◌ {A = ℕ} 0 1 = cc in absurd (omega arith)
inside_none i (Some r) e = let z : ◌≡◌ {A = ℕ} 0 1 = cc in absurd (omega arith)

leap_none : (ls : List ℕ) (i : ℕ) → leap_refused ls i ≡ None → i ≡ 0
unfolding leap_refused
leap_none ls i e = inside_none i (lines_refused ls) e

module _ (M : Meaning) (I : Isa) (T : Pace) where
  settled_clock : (l : ℕ) (s : State) → Way M I T l s → Settled s → Settled (clock M I T l s)
  settled_clock l s (stands e c) p = subst Settled (sym c) p
  settled_clock l s (waiting e q c) p = subst Settled (sym c) (λ z. absurd (omega arith))
  settled_clock l s (ending e q c) p = subst Settled (sym c) (λ z. refl)

  settled_run : (ls : List ℕ) (s : State) → Settled s → Settled (run M I T ls s)
  settled_run [] s p = p
  settled_run (l ∷ ls) s p = settled_run ls (clock M I T l s) (settled_clock l s (way M I T l s) p)

  module _ (L : Lawful I T) where
    leap_run : (s : State) (ls : List ℕ) (room : ℕ) → Settled s → s.core.waiting.step ≡ 0
        → run M I T (take (leapt M I T room s ls).used ls) s ≡ live (leapt M I T room s ls).state
    leap_run s ls room p z =
        ap (run M I T (take (leapt M I T room s ls).used ls)) (sym (settled_live s p z)) ∙ leaps-run M I T L room (boundary_of s) ls

    -- one call: what it takes is a run of the clock rules, and it tells what that run finishes and stalls
    pub record Right (s : State) (c : Call) (e : State) : Type 0 where
      pub ends : e ≡ run M I T (takes c) s
      pub counts : tells c ≡ finished M I T (takes c) s
      pub waits : tells_stalls c ≡ stalls (takes c)
      pub rests : Settled e

    pub right : {s e : State} {c : Call} → Did M I T s c e → Settled s → Right s c e
    unfolding counted stalls
    right (clocked {s = s} ls o) p = record { ends = refl; counts = refl; waits = refl; rests = settled_run ls s p }
    right (leaped {s = s} ls room o) p =
        let z : s.core.waiting.step ≡ 0 = leap_none ls s.core.waiting.step o in
        let r : Run = leapt M I T room s ls in
        let k : Runs M I T (boundary_of s) ls r = runs M I T room (boundary_of s) ls in
        let u : k.over ≡ take r.used ls = sym (taken M I T (boundary_of s) ls r k) in
        record {
          ends = sym (leap_run s ls room p z);
          counts = sym (ran-finished M I T L k.ran) ∙ ap₂ (finished M I T) u (settled_live s p z);
          waits = sym (ran-stalls M I T L k.ran) ∙ ap stalls u;
          rests = λ y. refl;
        }
    right (idled n) p = record { ends = refl; counts = refl; waits = refl; rests = p }

    -- all calls
    pub after_run : {s e : State} {t : List Call} → After M I T s t e → Settled s → e ≡ run M I T (lines t) s
    after_run none p = refl
    after_run (then {s = s} {c = c} {t = t} d a) p =
        let o : Right s c _ = right d p in
        after_run a o.rests ∙ ap (run M I T (lines t)) o.ends ∙ sym (run-append M I T (takes c) (lines t) s)

    pub told-finished : {s e : State} {t : List Call} → After M I T s t e → Settled s → told t ≡ finished M I T (lines t) s
    unfolding counted
    told-finished none p = refl
    told-finished (then {s = s} {c = c} {t = t} d a) p =
        let o : Right s c _ = right d p in
        ap₂ ◌+◌ o.counts (told-finished a o.rests ∙ ap (finished M I T (lines t)) o.ends) ∙ sym (counted-append M I T (ends M I T) (takes c) (lines t) s)

    pub told-stalls : {s e : State} {t : List Call} → After M I T s t e → Settled s → stalls_told t ≡ stalls (lines t)
    unfolding stalls
    told-stalls none p = refl
    told-stalls (then {s = s} {c = c} {t = t} d a) p =
        let o : Right s c _ = right d p in
        ap₂ ◌+◌ o.waits (told-stalls a o.rests) ∙ sym (stalls-append (takes c) (lines t))

    -- the instruction machine that leaves none over used them all
    pub used_all : (s : Boundary) (ls : List ℕ) → (completes M I T s ls).left ≡ [] → Ran M I T s ls (completes M I T s ls).records (completes M I T s ls).state
    used_all s ls z =
        let k : Runs M I T s ls (completes M I T s ls) = runs M I T (length ls) s ls in
        subst (λ (u : List ℕ). Ran M I T s u (completes M I T s ls).records (completes M I T s ls).state)
        (sym (k.split ∙ ap (λ (r : List ℕ). k.over ++ r) z ∙ append-nil k.over)) k.ran

module _ (M : Meaning) (I : Isa) (T : Pace) (L : Lawful I T) (b : Boundary) where
  pub by_the_clock_rules : EndsByTheClockRules M I T (live b)
  by_the_clock_rules t e a = after_run M I T L a (λ z. refl)

  pub by_the_instruction_machine : EndsByTheInstructionMachine M I T (live b)
  by_the_instruction_machine t e a z = by_the_clock_rules t e a ∙ ran-run M I T L (used_all M I T L b (lines t) z)

  pub every_instruction : TellsEveryInstruction M I T (live b)
  every_instruction t e a z = told-finished M I T L a (λ y. refl) ∙ ran-finished M I T L (used_all M I T L b (lines t) z)

  pub clocks_and_stalls : LinesAreClocksAndStalls M I T (live b)
  clocks_and_stalls t e a z =
      let r = used_all M I T L b (lines t) z in
      omega (arith, ran-length M I T L r, ran-stalls M I T L r, told-stalls M I T L a (λ y. refl))
