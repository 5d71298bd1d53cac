-- A change of one end, and of the wire to it.
use Rattle.std.proofs.Common.{◌≡◌, Bool, true, false, cond, Option, Some, None, refl, sym, ap, ◌∙◌, subst, inl, inr}
use Rattle.std.specs.Prelude.{is_some, ◌⊎◌}
use Rattle.std.specs.List.Sorted.{IsStrictlySortedBy}
use Rattle.std.specs.Map.{keys_of}
use Rattle.std.specs.Option.{option_map}
use Rattle.zr_msg.specs.declared.peer.Role.{Role}
use Rattle.zr_carrier.specs.Wire.{Wire, Wires}
use Rattle.zr_world_spec.specs.World.{EndState, End, end_cmp, is_end, end_of, changed, turned}
use Rattle.zr_world_spec.proofs.Ends.{same_end}
use Rattle.zr_world_ends.specs.Carried.{seen, seen_ends, IsAtWire, AreCarried, neighbour_role, role_if}
use Rattle.zr_world_ends.specs.Kept.{KeptEnd, KeptEnds}
use Rattle.zr_world_ends.specs.Named.{at_end, change_at}
use Rattle.zr_world_ends.proofs.Same.{change_is, keys_change}
use Rattle.zr_world_ends.proofs.Seen.{seen_at, same_seen, sorted_seen}

module _ (ws ws' : Wires) (ks : KeptEnds) (e : End) (v : Option Wire) (f : KeptEnd → KeptEnd) (ordered : IsStrictlySortedBy end_cmp (keys_of ks))
    (wires : (q : End) → ws' q.1 q.0 ≡ cond (is_end e q) v (ws q.1 q.0)) where
  abbrev new : KeptEnds
  new = change_at ks e f

  sorted_new : IsStrictlySortedBy end_cmp (keys_of new)
  sorted_new = subst (IsStrictlySortedBy end_cmp) (sym (keys_change ks e f)) ordered

  wire_of : (q : End) (b : Bool) → is_end e q ≡ b → ws' q.1 q.0 ≡ cond b v (ws q.1 q.0)
  wire_of q b n = wires q ∙ ap (λ c. cond c v (ws q.1 q.0)) n

  -- so the end is seen to have changed
  pub seen_changed : (g : EndState → EndState) → ((k : KeptEnd) → at_end ks e ≡ Some k → seen (f k) v ≡ g (seen k (ws e.1 e.0))) → seen_ends ws' new ≡ changed (seen_ends ws ks) e g
  seen_changed g here =
      same_seen ws' new (changed (seen_ends ws ks) e g) sorted_new
      (subst (IsStrictlySortedBy end_cmp) (sym (keys_change (seen_ends ws ks) e g)) (sorted_seen ws ks ordered)) look
    where
      look : (q : End) → option_map (λ k. seen k (ws' q.1 q.0)) (at_end new q) ≡ end_of (changed (seen_ends ws ks) e g) q
      look q =
          ap (λ o. option_map (λ k. seen k (ws' q.1 q.0)) o) (change_is ks e f q) ∙ by (is_end e q) refl
          ∙ sym (change_is (seen_ends ws ks) e g q ∙ ap (λ o. cond (is_end e q) (option_map g o) o) (seen_at ws ks q))
        where
          by : (b : Bool) → is_end e q ≡ b → option_map (λ k. seen k (ws' q.1 q.0)) (cond b (option_map f (at_end ks q)) (at_end ks q))
              ≡ cond b (option_map g (option_map (λ k. seen k (ws q.1 q.0)) (at_end ks q))) (option_map (λ k. seen k (ws q.1 q.0)) (at_end ks q))
          by true n = found (at_end ks q) refl
            where
              found : (o : Option KeptEnd) → at_end ks q ≡ o → option_map (λ k. seen k (ws' q.1 q.0)) (option_map f o) ≡ option_map g (option_map (λ k. seen k (ws q.1 q.0)) o)
              found None at = refl
              found (Some k) at = ap (λ z. Some z)
                  (ap (λ w. seen (f k) w) (wire_of q true n) ∙ here k (ap (at_end ks) (same_end e q n) ∙ at) ∙ ap (λ (z : End). g (seen k (ws z.1 z.0))) (same_end e q n))
          by false n = ap (λ w. option_map (λ k. seen k w) (at_end ks q)) (wire_of q false n)

  -- ---- and it is carried

  module _ (keeps : (k : KeptEnd) → (f k).unbroken ≡ k.unbroken) where
    -- what was found there before
    abbrev Was : End → KeptEnd → KeptEnd → Type 0
    Was q k' k = (at_end ks q ≡ Some k) × (((is_end e q ≡ true) × (f k ≡ k')) ⊎ ((is_end e q ≡ false) × (k ≡ k')))

    was : (q : End) (k' : KeptEnd) → at_end new q ≡ Some k' → (k : KeptEnd) × Was q k' k
    was q k' found = by (is_end e q) refl (sym (change_is ks e f q) ∙ found)
      where
        on : is_end e q ≡ true → (o : Option KeptEnd) → at_end ks q ≡ o → option_map f o ≡ Some k' → (k : KeptEnd) × Was q k' k
        on n None at h = absurd (cc)
        on n (Some k) at h = let is : f k ≡ k' = cc in (k, (at, inl (n, is)))

        by : (b : Bool) → is_end e q ≡ b → cond b (option_map f (at_end ks q)) (at_end ks q) ≡ Some k' → (k : KeptEnd) × Was q k' k
        by true n h = on n (at_end ks q) refl h
        by false n h = (k', (h, inr (n, refl)))

    flag : (q : End) (k' k : KeptEnd) → Was q k' k → k'.unbroken ≡ k.unbroken
    flag q k' k (at, inl p) = ap (λ (z : KeptEnd). z.unbroken) (sym p.1) ∙ keeps k
    flag q k' k (at, inr p) = ap (λ (z : KeptEnd). z.unbroken) (sym p.1)

    there : (q : End) → is_some (at_end new q) ≡ is_some (at_end ks q)
    there q = ap (λ o. is_some o) (change_is ks e f q) ∙ by (is_end e q) (at_end ks q)
      where
        by : (b : Bool) (o : Option KeptEnd) → is_some (cond b (option_map f o) o) ≡ is_some o
        by false o = refl
        by true None = refl
        by true (Some k) = refl

    role : (q : End) → neighbour_role new q ≡ neighbour_role ks q
    role q = ap role_if (there (turned q))

    pub carried_changed : ((k : KeptEnd) → at_end ks e ≡ Some k → IsAtWire (neighbour_role ks e) k (ws e.1 e.0) → IsAtWire (neighbour_role ks e) (f k) v) → AreCarried ws ks → AreCarried ws' new
    carried_changed here h = record {
      ordered = sorted_new;
      carried = λ x y k' found. subst (λ (r : Role). IsAtWire r k' (ws' y x)) (sym (role (x, y))) (at (x, y) k' (was (x, y) k' found));
      paired = λ x y k' j' found found'.
          let k = was (x, y) k' found in
          let j = was (y, x) j' found' in
          flag (x, y) k' k.0 k.1 ∙ h.paired x y k.0 j.0 k.1.0 j.1.0 ∙ sym (flag (y, x) j' j.0 j.1);
    }
      where
        at : (q : End) (k' : KeptEnd) → (k : KeptEnd) × Was q k' k → IsAtWire (neighbour_role ks q) k' (ws' q.1 q.0)
        at q k' (k, (found, inl p)) =
            let one : e ≡ q = same_end e q p.0 in
            let found_e : at_end ks e ≡ Some k = ap (at_end ks) one ∙ found in
            subst (λ (z : KeptEnd). IsAtWire (neighbour_role ks q) z (ws' q.1 q.0)) p.1
            (subst (λ (w : Option Wire). IsAtWire (neighbour_role ks q) (f k) w) (sym (wire_of q true p.0))
            (subst (λ (z : End). IsAtWire (neighbour_role ks z) (f k) v) one (here k found_e (h.carried e.0 e.1 k found_e))))
        at q k' (k, (found, inr p)) =
            subst (λ (z : KeptEnd). IsAtWire (neighbour_role ks q) z (ws' q.1 q.0)) p.1
            (subst (λ (w : Option Wire). IsAtWire (neighbour_role ks q) k w) (sym (wire_of q false p.0)) (h.carried q.0 q.1 k found))
