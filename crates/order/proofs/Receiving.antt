-- What the standard card holds after a field was stored at byte addresses 0 to 3.
use Rattle.std.proofs.Common.{◌≡◌, ℕ, ◌%◌, ◌^◌, ◌<◌, List, [], ◌∷◌, ◌++◌, length, get_or, take, replicate, sym, refl, ap, ◌∙◌, append_assoc, mod-eq_of_lt, arith, take_all, drop_at}
use Rattle.std.proofs.Math.ListN.{length-replicate}
use Rattle.std.proofs.lemmas.List.{take-replicate}
use Rattle.bus.specs.declared.Marks.{Marks}
use Rattle.bus.specs.Calls.{after}
use Rattle.bus.specs.Lanes.{in_lane, merged, placed, only_marked}
use Rattle.bus.specs.Over.{over_at}
use Rattle.bus.proofs.Parting.{parted, joined_fits, replaced}
use Rattle.memory.specs.Words.{memory_meaning}
use Rattle.rom.specs.Boot.{boot_image}
use Rattle.bus.specs.Filled.{filled_with}
use Rattle.card.specs.Stack.{card_meaning, new_card}
use Rattle.card.proofs.Cards.{memory_below}
use Rattle.order.specs.Quantity.{bytes_of, loaded_as, field_stores, loaded_bytes}
use Rattle.order.specs.declared.Field.{Field}

-- the card's own numbers before the memory
abbrev pub front : List ℕ
front = 0 ∷ 0 ∷ 0 ∷ (replicate 64 0 ++ boot_image)

front_long : length front ≡ 579
front_long = refl

-- the standard card's contents with a word x at address 0
abbrev pub first : ℕ → List ℕ
first x = front ++ (x ∷ replicate 4095 0)

written : (x word : ℕ) (marks : Marks) → card_meaning.write (first x) 0 word marks ≡ first (merged x word marks)
written x word marks =
    memory_below.write (first x) 0 word marks (omega arith)
    ∙ over_at 579 (λ words. memory_meaning.write words 0 word marks) front (x ∷ replicate 4095 0) front_long

pub shown : (x : ℕ) → card_meaning.shown (first x) 0 ≡ x % 2 ^ 32
shown x = memory_below.shown (first x) 0 (omega arith) ∙ ap (λ words. memory_meaning.shown words 0) (drop_at front (x ∷ replicate 4095 0) 579 front_long)

pub kept : (x : ℕ) → card_meaning.read (first x) 0 ≡ first x
kept x = memory_below.read (first x) 0 (omega arith)

-- the field of four bytes, stored lane by lane, and loaded again
module _ (a b c d : ℕ) (fa : a < 256) (fb : b < 256) (fc : c < 256) (fd : d < 256) where
  zero_fits : 0 < 256
  zero_fits = omega arith

  pub stored : after card_meaning (first 0) (field_stores (a ∷ b ∷ c ∷ d ∷ [])) ≡ first (loaded_as (a ∷ b ∷ c ∷ d ∷ []))
  stored =
      let W = λ (h : List ℕ) (byte lane : ℕ). card_meaning.write h 0 (placed byte lane) (only_marked lane) in
      ap (λ h. W (W (W h b 1) c 2) d 3) (written 0 (placed a 0) (only_marked 0) ∙ ap first (replaced 0 0 0 0 a zero_fits zero_fits zero_fits zero_fits fa 0 (omega arith)))
      ∙ ap (λ h. W (W h c 2) d 3) (written _ (placed b 1) (only_marked 1) ∙ ap first (replaced a 0 0 0 b fa zero_fits zero_fits zero_fits fb 1 (omega arith)))
      ∙ ap (λ h. W h d 3) (written _ (placed c 2) (only_marked 2) ∙ ap first (replaced a b 0 0 c fa fb zero_fits zero_fits fc 2 (omega arith)))
      ∙ (written _ (placed d 3) (only_marked 3) ∙ ap first (replaced a b c 0 d fa fb fc zero_fits fd 3 (omega arith)))

  pub loaded : card_meaning.shown (first (loaded_as (a ∷ b ∷ c ∷ d ∷ []))) 0 ≡ loaded_as (a ∷ b ∷ c ∷ d ∷ [])
  loaded = shown _ ∙ mod-eq_of_lt (joined_fits a b c d fa fb fc fd)

  pub loaded_bytes_lem : loaded_bytes card_meaning (first (loaded_as (a ∷ b ∷ c ∷ d ∷ []))) ≡ a ∷ b ∷ c ∷ d ∷ []
  loaded_bytes_lem =
      let x = loaded_as (a ∷ b ∷ c ∷ d ∷ []) in
      let M = card_meaning in
      let r1 : M.read (first x) 0 ≡ first x = kept x in
      let r2 : M.read (M.read (first x) 0) 0 ≡ first x = ap (λ h. M.read h 0) r1 ∙ r1 in
      let r3 : M.read (M.read (M.read (first x) 0) 0) 0 ≡ first x = ap (λ h. M.read h 0) r2 ∙ r1 in
      let part = parted a b c d fa fb fc fd in
      let byte = λ (h : List ℕ) (lane : ℕ). in_lane (M.shown h 0) lane in
      ap (λ z. z ∷ byte (M.read (first x) 0) 1 ∷ byte (M.read (M.read (first x) 0) 0) 2 ∷ byte (M.read (M.read (M.read (first x) 0) 0) 0) 3 ∷ [])
      (ap (λ w. in_lane w 0) loaded ∙ part 0 (omega arith))
      ∙ ap (λ z. a ∷ z ∷ byte (M.read (M.read (first x) 0) 0) 2 ∷ byte (M.read (M.read (M.read (first x) 0) 0) 0) 3 ∷ [])
      (ap (λ h. byte h 1) r1 ∙ ap (λ w. in_lane w 1) loaded ∙ part 1 (omega arith))
      ∙ ap (λ z. a ∷ b ∷ z ∷ byte (M.read (M.read (M.read (first x) 0) 0) 0) 3 ∷ []) (ap (λ h. byte h 2) r2 ∙ ap (λ w. in_lane w 2) loaded ∙ part 2 (omega arith))
      ∙ ap (λ z. a ∷ b ∷ c ∷ z ∷ []) (ap (λ h. byte h 3) r3 ∙ ap (λ w. in_lane w 3) loaded ∙ part 3 (omega arith))

-- a new standard card
pub starts : new_card (replicate 4096 0) [] ≡ first 0
unfolding filled_with
starts =
    ap (λ f. 0 ∷ 0 ∷ 0 ∷ (f ++ (boot_image ++ take 262144 (replicate 4096 0)))) (take-replicate 64 64 0 (omega arith))
    ∙ ap (λ w. 0 ∷ 0 ∷ 0 ∷ (replicate 64 0 ++ (boot_image ++ w))) (take_all 262144 (replicate 4096 0) (let long = length-replicate {A = ℕ} 4096 0 in omega arith))
    ∙ ap (λ l. 0 ∷ 0 ∷ 0 ∷ l) (sym (append_assoc (replicate 64 0) boot_image (replicate 4096 0)))

-- what is loaded after the field was stored in a new standard card
module _ (a b c d : ℕ) (fa : a < 256) (fb : b < 256) (fc : c < 256) (fd : d < 256) (h : List ℕ) (new : h ≡ new_card (replicate 4096 0) []) where
  holds : after card_meaning h (field_stores (a ∷ b ∷ c ∷ d ∷ [])) ≡ first (loaded_as (a ∷ b ∷ c ∷ d ∷ []))
  holds = ap (λ x. after card_meaning x (field_stores (a ∷ b ∷ c ∷ d ∷ []))) (new ∙ starts) ∙ stored a b c d fa fb fc fd

  pub word_received : card_meaning.shown (after card_meaning h (field_stores (a ∷ b ∷ c ∷ d ∷ []))) 0 ≡ loaded_as (a ∷ b ∷ c ∷ d ∷ [])
  word_received = ap (λ x. card_meaning.shown x 0) holds ∙ loaded a b c d fa fb fc fd

  pub bytes_received : loaded_bytes card_meaning (card_meaning.read (after card_meaning h (field_stores (a ∷ b ∷ c ∷ d ∷ []))) 0) ≡ a ∷ b ∷ c ∷ d ∷ []
  bytes_received = ap (λ x. loaded_bytes card_meaning (card_meaning.read x 0)) holds ∙ ap (λ x. loaded_bytes card_meaning x) (kept _) ∙ loaded_bytes_lem a b c d fa fb fc fd

pub same_field : (f g : Field) → bytes_of f ≡ bytes_of g → f ≡ g
same_field f g e =
    λ i. record { b0 = ap (λ l. get_or l 0 0) e i; b1 = ap (λ l. get_or l 1 0) e i; b2 = ap (λ l. get_or l 2 0) e i; b3 = ap (λ l. get_or l 3 0) e i }
