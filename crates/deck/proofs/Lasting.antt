-- The last deed that writes at a place wins, and lines follow one another.
use Rattle.std.proofs.Common.{◌≡◌, ℕ, ◌<◌, ◌≢◌, List, [], ◌∷◌, ◌++◌, length, get_or, Some, None, Option, sym, refl, ap, ◌∙◌, subst, append_assoc, length-set, get_or-set_other, get_or-set_same}
use Rattle.deck.specs.declared.rows.Deed.{Deed}
use Rattle.deck.specs.Decks.{lines_of, all_lines}
use Rattle.deck.specs.Loaded.{placed, stored}
use Rattle.deck.specs.Law.{Elsewhere, Unwritten, LastWins, LinesFollow}

placed_long : (xs : List ℕ) (o : Option (ℕ × ℕ)) → length (placed xs o) ≡ length xs
placed_long xs None = refl
placed_long xs (Some w) = length-set xs w.0 w.1

placed_kept : (xs : List ℕ) (o : Option (ℕ × ℕ)) (at : ℕ) → Elsewhere at o → get_or (placed xs o) at 0 ≡ get_or xs at 0
placed_kept xs None at h = refl
placed_kept xs (Some w) at h = let apart : at ≢ w.0 = λ e. h (sym e) in get_or-set_other xs w.0 at w.1 0 apart

module _ (write : Deed → Option (ℕ × ℕ)) where
  stored_long : (xs : List ℕ) (ds : List Deed) → length (stored write xs ds) ≡ length xs
  stored_long xs [] = refl
  stored_long xs (d ∷ ds) = stored_long (placed xs (write d)) ds ∙ placed_long xs (write d)

  stored_kept : (xs : List ℕ) (ds : List Deed) (at : ℕ) → Unwritten write at ds → get_or (stored write xs ds) at 0 ≡ get_or xs at 0
  stored_kept xs [] at h = refl
  stored_kept xs (d ∷ ds) at h = stored_kept (placed xs (write d)) ds at h.1 ∙ placed_kept xs (write d) at h.0

  stored_last : (xs : List ℕ) (before after : List Deed) (d : Deed) (at x : ℕ) → write d ≡ Some (at, x) → Unwritten write at after → at < length xs →
      get_or (stored write xs (before ++ (d ∷ after))) at 0 ≡ x
  stored_last xs [] after d at x e h lt =
      stored_kept (placed xs (write d)) after at h
      ∙ (ap (λ (o : Option (ℕ × ℕ)). get_or (placed xs o) at 0) e ∙ get_or-set_same xs at x 0 lt)
  stored_last xs (b ∷ before) after d at x e h lt =
      stored_last (placed xs (write b)) before after d at x e h (subst (λ (n : ℕ). at < n) (sym (placed_long xs (write b))) lt)

  pub last_wins : LastWins write
  last_wins = record { last = stored_last; kept = stored_kept; long = stored_long }

pub lines_follow : LinesFollow
lines_follow [] es = refl
lines_follow (d ∷ ds) es = ap (λ (l : List ℕ). lines_of d ++ l) (lines_follow ds es) ∙ sym (append_assoc (lines_of d) (all_lines ds) (all_lines es))
