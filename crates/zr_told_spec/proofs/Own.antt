-- An interest in what is declared later is told what it wants, and nothing else.
use Rattle.std.proofs.Common.{◌≡◌, ◌||◌, ◌++◌, not, Bool, true, false, cond, List, [], ◌∷◌, refl, sym, ap, ◌∙◌}
use Rattle.std.specs.declared.option.Option.{Option}
use Rattle.std.specs.declared.option.Option.TheVariants.{None, Some}
use Rattle.std.specs.Map.{lookup}
use Rattle.std.specs.Option.{option_map_or}
use Rattle.std.proofs.lemmas.Bool.{true≢false}
use Rattle.std.proofs.lemmas.Map.Entries.{lookup-filter-keys}
use Rattle.zr_msg.specs.declared.decl.Decl.{Decl}
use Rattle.zr_told_spec.specs.Place.{same}
use Rattle.zr_told_spec.specs.Wanted.{asked, wants, is_complete_at, wanted}
use Rattle.zr_told_spec.specs.Told.{ToldMap, at, kept, gone, bool_same, is_told, fresh, undeclared, declared}
use Rattle.zr_told_spec.specs.Rows.{IsAsWanted, IsAdded, is_again, answered, closing}
use Rattle.zr_told_spec.specs.Laws.{ItsOwnIsTold}
use Rattle.zr_local.specs.declared.interest.Interest.{Interest}
use Rattle.zr_told_spec.specs.declared.place.Place.{Place}
use Rattle.zr_told_spec.proofs.Places.{same_is}
use Rattle.zr_told_spec.proofs.Agree.{at_kept}
use Rattle.zr_told_spec.proofs.Wants.{marks, marks_told, fresh_by, fresh_is, wanted_at, wanted_by, wanted_in}
use Rattle.zr_told_spec.proofs.Sorted.{same_entries, wanted_ascends, keys_ascend}

module _ (ds : List Decl) (before is : List Interest) (i : Interest) (m : ToldMap) (a : IsAdded i before is) (w : IsAsWanted ds before m) where
  -- what is wanted and isn't asked by it was told so
  told_before : (p : Place) → wants ds is p ≡ true → asked ds i p ≡ false → is_told (kept (wanted ds is) m) (p, is_complete_at ds p) ≡ true
  told_before p h n =
      let k : wants ds before p ≡ true = ap (λ z. z || wants ds before p) (sym n) ∙ a.others (λ j. asked ds j p) h in
      let t : marks m p ≡ Some (is_complete_at ds p) = w p ∙ ap (λ z. cond z (Some (is_complete_at ds p)) None) k in
      ap (λ z. option_map_or (λ e. bool_same e.complete (is_complete_at ds p)) z false) (at_kept (wanted ds is) m p ∙ ap (λ z. cond z (at m p) None) (wanted_in ds is p ∙ h))
      ∙ marks_told m p (is_complete_at ds p) t

  its_own : fresh (is_again true ds i) (wanted ds is) (kept (wanted ds is) m) ≡ wanted ds (i ∷ [])
  its_own =
      same_entries (fresh (is_again true ds i) (wanted ds is) (kept (wanted ds is) m)) (wanted ds (i ∷ []))
      (keys_ascend (λ u. is_again true ds i u.0 || not (is_told (kept (wanted ds is) m) u)) (wanted ds is) (wanted_ascends ds is))
      (wanted_ascends ds (i ∷ []))
      (λ q. ap (λ z. lookup (same q) z) (fresh_is (is_again true ds i) (is_complete_at ds) (kept (wanted ds is) m) (wanted ds is) (wanted_by ds is))
      ∙ lookup-filter-keys (same q) (fresh_by (is_again true ds i) (is_complete_at ds) (kept (wanted ds is) m)) (fresh_by (is_again true ds i) (is_complete_at ds) (kept (wanted ds is) m) q)
      (λ k h. ap (λ z. fresh_by (is_again true ds i) (is_complete_at ds) (kept (wanted ds is) m) z) (sym (same_is q k h))) (wanted ds is)
      ∙ ap (λ z. cond (fresh_by (is_again true ds i) (is_complete_at ds) (kept (wanted ds is) m) q) z None) (wanted_at ds is q)
      ∙ by q (asked ds i q) refl (wants ds is q) refl
      ∙ sym (wanted_at ds (i ∷ []) q))
    where
      by : (q : Place) (b : Bool) → asked ds i q ≡ b → (s : Bool) → wants ds is q ≡ s →
          cond (b || not (is_told (kept (wanted ds is) m) (q, is_complete_at ds q))) (cond s (Some (is_complete_at ds q)) None) None ≡ cond (b || false) (Some (is_complete_at ds q)) None
      by q true e true f = refl
      by q true e false f = absurd (true≢false (sym (a.itself (λ j. asked ds j q) e) ∙ f))
      by q false e true f = ap (λ z. cond (not z) (Some (is_complete_at ds q)) None) (told_before q f e)
      by q false e false f = nothing (not (is_told (kept (wanted ds is) m) (q, is_complete_at ds q)))
        where
          none : Option Bool
          none = None

          nothing : (b : Bool) → cond b none none ≡ none
          nothing true = refl
          nothing false = refl

pub its_own_is_told : ItsOwnIsTold
its_own_is_told current ds before is i m a w =
    ap (λ z. (undeclared m (gone (wanted ds is) m) ++ declared (answered current i) (kept (wanted ds is) m) z) ++ closing current true ds i) (its_own ds before is i m a w)
