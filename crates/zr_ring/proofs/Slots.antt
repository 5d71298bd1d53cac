-- What lies in the slots, as each end takes its slot and gives it back.
use Rattle.std.proofs.Common.{◌≡◌, ◌≢◌, ℕ, ◌+◌, ◌%◌, ◌<◌, true, false, List, [], ◌∷◌, ◌++◌, length, set, sym, refl, ap, ◌∙◌, subst, ⊎_elim, arith, mod-lt, length-append, length-set}
use mathlib.Core.Logic.{dite}
use mathlib.Core.Option.{none, some}
use mathlib.Core.Option as maybe
use native.Mathlib.Decide.{ℕ_discrete}
use native.Mathlib.Nat.{add-mod_right}
use lib.ListN.{get_elem?}
use Rattle.std.specs.Prelude.{Option, Some, None}
use Rattle.atomic_table.proofs.Lists.{set_here, set_else}
use Rattle.zr_ring.specs.declared.name.RingName.{RingName}
use Rattle.zr_ring.specs.Rule.{Progress, AreSlots, one_if}
use Rattle.zr_hist.proofs.Views.{at_end, at_below}
use Rattle.zr_ring.proofs.Lists.{apart}

module _ {X : Type 0} (stands : RingName → ℕ → X → Type 0) (cap : ℕ) where
  abbrev Homes : Type 0
  Homes = List (maybe.Option (Option X))

  -- the taker takes the slot of the next place
  pub taker_takes_slot : (z : Progress X) (homes : Homes) → AreSlots stands cap z homes → z.taker_holds ≡ false → z.taken < length z.given
      → AreSlots stands cap record z { taker_holds = true } (set homes (z.taken % cap) none)
  taker_takes_slot z homes s idle some_item =
      let i : ℕ = z.taken % cap in
      let within = s.within in record {
        some_slot = s.some_slot;
        deep = length-set homes i none ∙ s.deep;
        behind = omega arith;
        within = s.within;
        room = s.room;
        full = λ k x le ne at. let b = at_below z.given k x at in let n : k ≢ z.taken = ne refl in
            set_else homes i (k % cap) none (apart z.taken k cap (omega arith) (omega arith)) ∙ s.full k x le (λ e. absurd (cc (e, idle))) at;
        empty = λ k le near ne. set_else homes i (k % cap) none (apart z.taken k cap (omega arith) near) ∙ s.empty k le near ne;
        placed = s.placed;
      }

  -- it gives the slot back, empty
  pub taker_returns_slot : (z : Progress X) (homes : Homes) → AreSlots stands cap z homes → z.taker_holds ≡ true
      → AreSlots stands cap record z { taker_holds = false; taken = z.taken + 1 } (set homes (z.taken % cap) (some None))
  taker_returns_slot z homes s holds =
      let t : ℕ = z.taken in
      let i : ℕ = t % cap in
      let within = s.within in
      let one : one_if z.taker_holds ≡ 1 = ap one_if holds in
      let behind = s.behind in
      let deep = s.deep in
      let pos = s.some_slot in record {
        some_slot = s.some_slot;
        deep = length-set homes i (some None) ∙ s.deep;
        behind = omega arith;
        within = omega arith;
        room = λ f. let r = s.room f in omega arith;
        full = λ k x le ne at. let b = at_below z.given k x at in
            set_else homes i (k % cap) (some None) (apart t k cap (omega arith) (omega arith)) ∙ s.full k x (omega arith) (λ _ e. absurd (omega arith)) at;
        empty = λ k le near ne. dite (ℕ_discrete k (t + cap))
            (λ e. ap (λ (j : ℕ). get_elem? (set homes i (some None)) j) (ap (λ (j : ℕ). j % cap) e ∙ add-mod_right t cap) ∙ set_here homes i (some None) (subst (λ (j : ℕ). i < j) (sym deep) (mod-lt t pos)))
            (λ e. set_else homes i (k % cap) (some None) (apart t k cap (omega arith) (omega arith)) ∙ s.empty k le (omega arith) ne);
        placed = s.placed;
      }

  -- the giver takes the slot of the next place
  pub giver_takes_slot : (z : Progress X) (homes : Homes) → AreSlots stands cap z homes → z.giver_holds ≡ false → length z.given < z.taken + cap
      → AreSlots stands cap record z { giver_holds = true } (set homes (length z.given % cap) none)
  giver_takes_slot z homes s idle near =
      let n : ℕ = length z.given in
      let i : ℕ = n % cap in
      let t : ℕ = z.taken in record {
        some_slot = s.some_slot;
        deep = length-set homes i none ∙ s.deep;
        behind = s.behind;
        within = s.within;
        room = λ _. near;
        full = λ k x le ne at. let b = at_below z.given k x at in
            set_else homes i (k % cap) none (λ e. apart k n cap b (omega arith) (sym e)) ∙ s.full k x le ne at;
        empty = λ k le far ne. let other : k ≢ n = ne refl in
            let low = s.behind in
            set_else homes i (k % cap) none (apart n k cap (omega arith) (omega arith)) ∙ s.empty k le far (λ e. absurd (cc (e, idle)));
        placed = s.placed;
      }

  -- it gives the slot back with x
  pub giver_returns_slot : (z : Progress X) (homes : Homes) (x : X) → AreSlots stands cap z homes → z.giver_holds ≡ true → stands z.name (length z.given) x
      → AreSlots stands cap record z { giver_holds = false; given = z.given ++ x ∷ [] } (set homes (length z.given % cap) (some (Some x)))
  giver_returns_slot z homes x s holds at_place =
      let n : ℕ = length z.given in
      let i : ℕ = n % cap in
      let t : ℕ = z.taken in
      let near = s.room holds in
      let low = s.behind in
      let deep = s.deep in
      let more = length-append z.given (x ∷ []) in record {
        some_slot = s.some_slot;
        deep = length-set homes i (some (Some x)) ∙ s.deep;
        behind = omega arith;
        within = omega arith;
        room = λ f. absurd (cc f);
        full = λ k y le ne at. ⊎_elim
            (λ old. let b = at_below z.given k y old in set_else homes i (k % cap) (some (Some x)) (λ e. apart k n cap b (omega arith) (sym e)) ∙ s.full k y le ne old)
            (λ new. ap (λ (j : ℕ). get_elem? (set homes i (some (Some x))) (j % cap)) new.0 ∙ set_here homes i (some (Some x)) (subst (λ (j : ℕ). i < j) (sym deep) (mod-lt n s.some_slot)) ∙ ap (λ (w : X). some (some (Some w))) new.1)
            (at_end z.given x y k at);
        empty = λ k le far ne. set_else homes i (k % cap) (some (Some x)) (apart n k cap (omega arith) (omega arith)) ∙ s.empty k (omega arith) far (λ _ e. absurd (omega arith));
        placed = λ k y at. ⊎_elim (λ old. s.placed k y old) (λ new. subst (λ (u : ℕ × X). stands z.name u.0 u.1) (λ i. (sym new.0 i, new.1 i)) at_place) (at_end z.given x y k at);
      }
