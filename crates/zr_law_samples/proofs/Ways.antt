-- The way between two routers in a tree, from a destination up to the root: the destination, its parent, the parent of that, and so on.
-- Each router on it is below the root and above the destination, so it is the next one toward the destination from its parent.
use Rattle.std.proofs.Common.{◌≡◌, ℕ, zero, suc, true, false, List, [], ◌∷◌, Option, Some, None, ◌⊎◌, inl, inr, refl, sym, ap, ◌∙◌, subst, arith}
use Rattle.std.specs.Option.{option_map_or}
use Rattle.zr_id.specs.Zid.{is_named}
use Rattle.zr_tree.specs.Laws.{IsGraph}
use Rattle.zr_tree.specs.Tree.{tree_depth, parent, is_child, below, toward}
use Rattle.zr_tree.specs.Walk.{Graph}
use Rattle.zr_tree.proofs.Depths.{root_depth, zero_is_root}
use Rattle.zr_tree.proofs.Branches.{parent_is, has_parent, zero_no_parent, child_is, child_from, below_itself, below_parent, below_trans, below_nearer}
use Rattle.zr_tree.proofs.SameEdges.{next_one}
use Rattle.zr_law_samples.proofs.Places.{AtEach}

module _ (g : Graph) (is : IsGraph g) (root : List ℕ) where
  -- the root has no parent
  pub root_no_parent : parent g root root ≡ None
  root_no_parent = zero_no_parent g root root (root_depth g root)

  -- a router has one parent
  pub one_parent : (x p q : List ℕ) → is_child g root p x ≡ true → is_child g root q x ≡ true → p ≡ q
  one_parent x p q a b =
      let s : Some p ≡ Some q = sym (child_is g root p x a) ∙ child_is g root q x b in
      cc

  -- the root is no router's child
  pub root_no_child : (x : List ℕ) → is_child g root x root ≡ false
  root_no_child x = ap (λ o. option_map_or (λ p. is_named p x) o false) root_no_parent

  -- the way up from x, without x itself: so many routers, each the parent of the one before
  abbrev pub up_from : ℕ → List ℕ → List (List ℕ)
  up_from zero x = []
  up_from (suc n) x = option_map_or (λ p. p ∷ up_from n p) (parent g root x) []

  module _ (dest : List ℕ) (far : ℕ) (reaches : tree_depth g root dest ≡ Some far) where
    -- x is the next one toward the destination from its parent
    pub next_below : (x p : List ℕ) → parent g root x ≡ Some p → below g root x dest ≡ true → toward g root p dest ≡ Some x
    next_below x p e b =
        let above : below g root p dest ≡ true = below_trans g root far p x dest reaches (below_parent g root p x p e (below_itself g root p)) b in
        let q = parent_is g root x p e in
        let n = next_one g is root far p dest reaches above (apart q.0 q.1.from_parent q.1.to_child) in
        n.1.next ∙ ap Some (sym (n.1.only x (child_from g root p x e) b))
      where
        -- the destination is no nearer than x
        apart : (k : ℕ) → tree_depth g root p ≡ Some k → tree_depth g root x ≡ Some (suc k) → dest ≡ p → ⊥
        apart k dp dx same =
            let f = below_nearer g root far x dest reaches b in
            let s : Some f.0 ≡ Some (suc k) = sym f.1 ∙ dx in
            let i : f.0 ≡ suc k = cc in
            let t : Some far ≡ Some k = sym reaches ∙ ap (tree_depth g root) same ∙ dp in
            let j : far ≡ k = cc in
            absurd (omega (arith, i, j, f.2))

    -- `to` is the receiver at the destination, or the next router toward the destination
    abbrev pub IsNext : List ℕ → List ℕ → List ℕ → Type 0
    IsNext receiver to x = ((to ≡ receiver) × (x ≡ dest)) ⊎ ((toward g root x dest ≡ Some to) × (is_child g root x to ≡ true))

    module _ (publisher : List ℕ) (P : List ℕ → List ℕ → List ℕ → Type 0) (Q : List ℕ → List ℕ → Type 0)
        (between : (x p : List ℕ) → parent g root x ≡ Some p → below g root x dest ≡ true → Q x p) where
      module _ (receiver : List ℕ) (inner : (to x p : List ℕ) → IsNext receiver to x → below g root x dest ≡ true → parent g root x ≡ Some p → P to x p)
          (last : (to : List ℕ) → IsNext receiver to root → P to root publisher) where
        -- what holds of each router by its neighbours on the way holds along the way
        pub on_way : (n : ℕ) (to x : List ℕ) → tree_depth g root x ≡ Some n → below g root x dest ≡ true → IsNext receiver to x → AtEach P Q to (x ∷ up_from n x) publisher
        on_way zero to x d b k =
            let e : root ≡ x = zero_is_root g root x d in
            subst (λ (z : List ℕ). P to z publisher) e (last to (subst (λ (z : List ℕ). IsNext receiver to z) (sym e) k))
        on_way (suc n) to x d b k = by (λ q dq bq kq. on_way n x q dq bq kq) (parent g root x) refl
          where
            p : (p : List ℕ) × (parent g root x ≡ Some p)
            p = has_parent g root x n d

            by : ((q : List ℕ) → tree_depth g root q ≡ Some n → below g root q dest ≡ true → IsNext receiver x q → AtEach P Q x (q ∷ up_from n q) publisher) →
                (o : Option (List ℕ)) → parent g root x ≡ o → AtEach P Q to (x ∷ option_map_or (λ q. q ∷ up_from n q) o []) publisher
            by ih None e = absurd (let none : None ≡ Some p.0 = sym e ∙ p.1 in cc)
            by ih (Some q) e = (inner to x q k b e, between x q e b, ih q at_q above (inr (next_below x q e b, child_from g root q x e)))
              where
                r : (m : ℕ) × (tree_depth g root q ≡ Some m) × (tree_depth g root x ≡ Some (suc m))
                r = let z = parent_is g root x q e in (z.0, z.1.from_parent, z.1.to_child)

                at_q : tree_depth g root q ≡ Some n
                at_q = let s : Some (suc r.0) ≡ Some (suc n) = sym r.2 ∙ d in let i : r.0 ≡ n = cc in r.1 ∙ ap Some i

                above : below g root q dest ≡ true
                above = below_trans g root far q x dest reaches (below_parent g root q x q e (below_itself g root q)) b

        -- the way from the destination
        pub on_whole_way : AtEach P Q receiver (dest ∷ up_from far dest) publisher
        on_whole_way = on_way far receiver dest reaches (below_itself g root dest) (inl (refl, refl))
