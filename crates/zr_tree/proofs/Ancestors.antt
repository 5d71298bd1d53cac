-- One step of a way up the tree by what is kept of each router, and where it ends.
use Rattle.std.proofs.Common.{◌≡◌, ℕ, ◌+◌, ◌<◌, ◌≤◌, zero, suc, Bool, true, false, cond, ◌&&◌, ◌==◌, List, Option, Some, None, IsSome, IfSome, ◌⊎◌, inl, inr, length, refl, sym, ap, ◌∙◌, arith}
use Rattle.std.proofs.lemmas.Bool.{false≢true, cases_eq, eq-eqb, ne_eqb, and_parts, and_from, false_from_ne_true}
use Rattle.std.proofs.lemmas.Option.{same_Some}
use Rattle.zr_id.specs.Record.{RecordState}
use Rattle.zr_graph.specs.Record.{ids}
use Rattle.zr_tree.specs.declared.tree.Hop.{Hop}
use Rattle.zr_tree.specs.declared.tree.TheConstants.{UNREACHED}
use Rattle.zr_tree.specs.Hop.{IsHop, depth_of}
use Rattle.zr_tree.specs.Index.{name}
use Rattle.zr_tree.specs.Tree.{tree_depth, parent, below, is_child, toward}
use Rattle.zr_tree.specs.Walk.{graph_of}
use Rattle.zr_lists.proofs.Finds.{In, none_find, only_find}
use Rattle.zr_tree.proofs.Branches.{parent_is, has_parent, child_is, child_from, below_itself, below_parent, below_trans, below_nearer, below_one, below_cases, unreached_no_parent}

-- the number that is kept of a known distance
pub depth_value : (depth k : ℕ) → depth_of depth ≡ Some k → depth ≡ k
depth_value depth k h = by_test (depth == UNREACHED) h
  where
    by_test : (t : Bool) → cond t None (Some depth) ≡ Some k → depth ≡ k
    by_test true e = absurd (cc)
    by_test false e = cc

pub depth_reached : (depth : ℕ) → (depth ≡ UNREACHED → ⊥) → depth_of depth ≡ Some depth
depth_reached depth h = let t : (depth == UNREACHED) ≡ false = ne_eqb depth UNREACHED h in rw t refl

pub depth_unreached : (depth : ℕ) → depth ≡ UNREACHED → depth_of depth ≡ None
depth_unreached depth h = let t : (depth == UNREACHED) ≡ true = eq-eqb depth UNREACHED h in rw t refl

module _ (rs : List RecordState) (root : ℕ) where
  -- what is kept of a router that isn't the root: its parent is one less deep, and its jump at least that
  pub record IsStep (x k : ℕ) (hop : Hop) : Type 0 where
    pub parent_to : parent (graph_of rs) (name rs root) (name rs x) ≡ Some (name rs hop.parent)
    pub parent_at : tree_depth (graph_of rs) (name rs root) (name rs hop.parent) ≡ Some k
    pub parent_above : below (graph_of rs) (name rs root) (name rs hop.parent) (name rs x) ≡ true
    pub jump_at : (j : ℕ) × (tree_depth (graph_of rs) (name rs root) (name rs hop.jump) ≡ Some j) × (j ≤ k)
    pub jump_above : below (graph_of rs) (name rs root) (name rs hop.jump) (name rs x) ≡ true

  pub step_of : (lists : List (List (List ℕ))) (x k : ℕ) (hop : Hop) → IsHop rs root lists x hop → tree_depth (graph_of rs) (name rs root) (name rs x) ≡ Some (suc k) → IsStep x k hop
  step_of lists x k hop h d =
      let g = graph_of rs in
      let r = name rs root in
      let p = has_parent g r (name rs x) k d in
      let is : p.0 ≡ name rs hop.parent = named (hop.parent == x) p.0 (sym p.1 ∙ h.parent_is) in
      let to : parent g r (name rs x) ≡ Some (name rs hop.parent) = p.1 ∙ ap Some is in
      let q = parent_is g r (name rs x) (name rs hop.parent) to in
      let s : Some (suc k) ≡ Some (suc q.0) = sym d ∙ q.1.to_child in
      let e : q.0 ≡ k = cc in
      let near = q.1.from_parent ∙ ap Some e in
      let above = below_parent g r (name rs hop.parent) (name rs x) (name rs hop.parent) to (below_itself g r (name rs hop.parent)) in
      let j = below_nearer g r k (name rs hop.jump) (name rs hop.parent) near h.jump_above in
      record {
        parent_to = to;
        parent_at = near;
        parent_above = above;
        jump_at = (j.0, j.1, j.2);
        jump_above = below_trans g r (suc k) (name rs hop.jump) (name rs hop.parent) (name rs x) d h.jump_above above;
      }
    where
      named : (t : Bool) (p : List ℕ) → Some p ≡ cond t None (Some (name rs hop.parent)) → p ≡ name rs hop.parent
      named true p e = absurd (cc)
      named false p e = cc

  -- a router at or above the destination, and no nearer than the depth
  pub record IsOnWay (dest depth x : ℕ) : Type 0 where
    pub within : x < length rs
    pub start : ℕ
    pub start_at : tree_depth (graph_of rs) (name rs root) (name rs dest) ≡ Some start
    pub above : below (graph_of rs) (name rs root) (name rs x) (name rs dest) ≡ true
    pub far : ℕ
    pub distance : tree_depth (graph_of rs) (name rs root) (name rs x) ≡ Some far
    pub no_nearer : depth ≤ far

  pub way_first : (dest depth : ℕ) → dest < length rs → IsSome (tree_depth (graph_of rs) (name rs root) (name rs dest)) → IfSome (tree_depth (graph_of rs) (name rs root) (name rs dest)) (λ far. depth ≤ far) →
      IsOnWay dest depth dest
  way_first dest depth lt some far = by_depth (tree_depth (graph_of rs) (name rs root) (name rs dest)) refl some far
    where
      by_depth : (o : Option ℕ) → tree_depth (graph_of rs) (name rs root) (name rs dest) ≡ o → IsSome o → IfSome o (λ n. depth ≤ n) → IsOnWay dest depth dest
      by_depth None e s f = absurd (false≢true s)
      by_depth (Some n) e s f = record { within = lt; start = n; start_at = e; above = below_itself (graph_of rs) (name rs root) (name rs dest); far = n; distance = e; no_nearer = f }

  -- how far a router on the way is, by what is kept of it
  far_is : (lists : List (List (List ℕ))) (dest depth x : ℕ) (hop : Hop) → (w : IsOnWay dest depth x) → IsHop rs root lists x hop → hop.depth ≡ w.far
  far_is lists dest depth x hop w h = depth_value hop.depth w.far (h.depth ∙ w.distance)

  farther : (depth far : ℕ) → depth < far → (k : ℕ) × (far ≡ suc k) × (depth ≤ k)
  farther depth zero lt = absurd (omega arith)
  farther depth (suc k) lt = (k, refl, omega arith)

  pub way_up : (lists : List (List (List ℕ))) (dest depth x : ℕ) (hop : Hop) → IsOnWay dest depth x → IsHop rs root lists x hop → depth < hop.depth →
      (k : ℕ) × (hop.depth ≡ suc k) × (depth ≤ k) × (tree_depth (graph_of rs) (name rs root) (name rs x) ≡ Some (suc k)) × IsStep x k hop
  way_up lists dest depth x hop w h lt =
      let e = far_is lists dest depth x hop w h in
      let f = farther depth w.far (omega (arith, e)) in
      let d = w.distance ∙ ap Some f.1 in
      (f.0, e ∙ f.1, f.2, d, step_of lists x f.0 hop h d)

  over : (dest depth x : ℕ) → IsOnWay dest depth x → (y : List ℕ) → below (graph_of rs) (name rs root) y (name rs x) ≡ true → below (graph_of rs) (name rs root) y (name rs dest) ≡ true
  over dest depth x w y above = below_trans (graph_of rs) (name rs root) w.start y (name rs x) (name rs dest) w.start_at above w.above

  pub way_parent : (lists : List (List (List ℕ))) (dest depth x : ℕ) (hop : Hop) → IsOnWay dest depth x → IsHop rs root lists x hop → depth < hop.depth → IsOnWay dest depth hop.parent
  way_parent lists dest depth x hop w h lt =
      let u = way_up lists dest depth x hop w h lt in
      record {
        within = h.parent_within;
        start = w.start;
        start_at = w.start_at;
        above = over dest depth x w (name rs hop.parent) u.4.parent_above;
        far = u.0;
        distance = u.4.parent_at;
        no_nearer = u.2;
      }

  pub way_jump : (lists more : List (List (List ℕ))) (dest depth x : ℕ) (hop jump : Hop) → IsOnWay dest depth x → IsHop rs root lists x hop → depth < hop.depth →
      IsHop rs root more hop.jump jump → depth ≤ jump.depth → IsOnWay dest depth hop.jump
  way_jump lists more dest depth x hop jump w h lt j le =
      let u = way_up lists dest depth x hop w h lt in
      let at = u.4.jump_at in
      let e = depth_value jump.depth at.0 (j.depth ∙ at.1) in
      record {
        within = h.jump_within;
        start = w.start;
        start_at = w.start_at;
        above = over dest depth x w (name rs hop.jump) u.4.jump_above;
        far = at.0;
        distance = at.1;
        no_nearer = omega (arith, e);
      }

  -- both ways up come nearer to the root
  pub parent_nearer : (lists more : List (List (List ℕ))) (dest depth x : ℕ) (hop next : Hop) → IsOnWay dest depth x → IsHop rs root lists x hop → depth < hop.depth →
      IsHop rs root more hop.parent next → next.depth < hop.depth
  parent_nearer lists more dest depth x hop next w h lt j =
      let u = way_up lists dest depth x hop w h lt in
      let e = depth_value next.depth u.0 (j.depth ∙ u.4.parent_at) in
      omega (arith, e, u.1)

  pub jump_nearer : (lists more : List (List (List ℕ))) (dest depth x : ℕ) (hop next : Hop) → IsOnWay dest depth x → IsHop rs root lists x hop → depth < hop.depth →
      IsHop rs root more hop.jump next → next.depth < hop.depth
  jump_nearer lists more dest depth x hop next w h lt j =
      let u = way_up lists dest depth x hop w h lt in
      let at = u.4.jump_at in
      let e = depth_value next.depth at.0 (j.depth ∙ at.1) in
      omega (arith, e, u.1, at.2)

-- ---- the child toward a destination

module _ (rs : List RecordState) (r at dest : List ℕ) where
  -- what it says that y is the child of `at` above the destination
  record Passes (y : List ℕ) : Type 0 where
    parent_to : parent (graph_of rs) r y ≡ Some at
    above : below (graph_of rs) r y dest ≡ true
    k : ℕ
    at_is : tree_depth (graph_of rs) r at ≡ Some k
    child_is_at : tree_depth (graph_of rs) r y ≡ Some (suc k)

  passes : (y : List ℕ) → (is_child (graph_of rs) r at y && below (graph_of rs) r y dest) ≡ true → Passes y
  passes y t =
      let both = and_parts (is_child (graph_of rs) r at y) (below (graph_of rs) r y dest) t in
      let p = child_is (graph_of rs) r at y both.0 in
      let q = parent_is (graph_of rs) r y at p in
      record { parent_to = p; above = both.1; k = q.0; at_is = q.1.from_parent; child_is_at = q.1.to_child }

  none : ((y : List ℕ) → Passes y → ⊥) → toward (graph_of rs) r at dest ≡ None
  none h = none_find _ (ids rs) (λ y i. false_from_ne_true _ (λ t. h y (passes y t)))

  pub toward_unreached_dest : tree_depth (graph_of rs) r dest ≡ None → toward (graph_of rs) r at dest ≡ None
  toward_unreached_dest d = none (λ y p. apart y p (below_cases (graph_of rs) r y dest p.above))
    where
      apart : (y : List ℕ) → Passes y → (dest ≡ y) ⊎ ((q : List ℕ) × (parent (graph_of rs) r dest ≡ Some q) × (below (graph_of rs) r y q ≡ true)) → ⊥
      apart y p (inl e) = let s : None ≡ Some (suc p.k) = sym d ∙ ap (tree_depth (graph_of rs) r) e ∙ p.child_is_at in absurd (cc)
      apart y p (inr f) = let s : None ≡ Some f.0 = sym (unreached_no_parent (graph_of rs) r dest d) ∙ f.1 in absurd (cc)

  pub toward_unreached_at : tree_depth (graph_of rs) r at ≡ None → toward (graph_of rs) r at dest ≡ None
  toward_unreached_at d = none (λ y p. let s : None ≡ Some p.k = sym d ∙ p.at_is in absurd (cc))

  pub toward_short : (n m : ℕ) → tree_depth (graph_of rs) r dest ≡ Some n → tree_depth (graph_of rs) r at ≡ Some m → n ≤ m → toward (graph_of rs) r at dest ≡ None
  toward_short n m d e le = none (λ y p. apart y p (below_nearer (graph_of rs) r n y dest d p.above))
    where
      apart : (y : List ℕ) → Passes y → ((j : ℕ) × (tree_depth (graph_of rs) r y ≡ Some j) × (j ≤ n) × (j ≡ n → dest ≡ y)) → ⊥
      apart y p f =
          let s : Some m ≡ Some p.k = sym e ∙ p.at_is in
          let t : Some f.0 ≡ Some (suc p.k) = sym f.1 ∙ p.child_is_at in
          let i : m ≡ p.k = cc in
          let j : f.0 ≡ suc p.k = cc in
          absurd (omega (arith, i, j, f.2))

  -- another that passes is the same, since both are at one distance
  only : (n : ℕ) (x y : List ℕ) → tree_depth (graph_of rs) r dest ≡ Some n → below (graph_of rs) r x dest ≡ true → (p : Passes y) → tree_depth (graph_of rs) r x ≡ Some (suc p.k) → y ≡ x
  only n x y d above p e = below_one (graph_of rs) r n y x dest (suc p.k) d p.above above p.child_is_at e

  pub toward_found : (n : ℕ) (x : List ℕ) → tree_depth (graph_of rs) r dest ≡ Some n → below (graph_of rs) r x dest ≡ true → parent (graph_of rs) r x ≡ Some at → In x (ids rs) →
      toward (graph_of rs) r at dest ≡ Some x
  toward_found n x d above to i =
      only_find _ (ids rs) x i (and_from _ _ (child_from (graph_of rs) r at x to) above) (λ y j t.
      let p = passes y t in
      let q = parent_is (graph_of rs) r x at to in
      let s : Some q.0 ≡ Some p.k = sym q.1.from_parent ∙ p.at_is in
      let e : q.0 ≡ p.k = cc in
      only n x y d above p (q.1.to_child ∙ ap (λ (k : ℕ). Some (suc k)) e))

  pub toward_other : (n depth : ℕ) (x q : List ℕ) → tree_depth (graph_of rs) r dest ≡ Some n → below (graph_of rs) r x dest ≡ true → depth_of depth ≡ tree_depth (graph_of rs) r at →
      tree_depth (graph_of rs) r x ≡ Some (depth + 1) → parent (graph_of rs) r x ≡ Some q → (q ≡ at → ⊥) → toward (graph_of rs) r at dest ≡ None
  toward_other n depth x q d above at_depth x_depth to other = none (λ y p.
      let e = depth_value depth p.k (at_depth ∙ p.at_is) in
      let f : depth + 1 ≡ suc p.k = omega (arith, e) in
      let i = only n x y d above p (x_depth ∙ ap Some f) in
      let s : Some q ≡ Some at = sym to ∙ ap (parent (graph_of rs) r) (sym i) ∙ p.parent_to in
      other (same_Some q at s))

  pub toward_no_farther : (n depth : ℕ) → tree_depth (graph_of rs) r dest ≡ Some n → depth_of depth ≡ tree_depth (graph_of rs) r at → n ≤ depth → toward (graph_of rs) r at dest ≡ None
  toward_no_farther n depth d e le = elim (cases_eq depth UNREACHED) [
    | inl u ↦ toward_unreached_at (sym e ∙ depth_unreached depth u)
    | inr u ↦ toward_short n depth d (sym e ∙ depth_reached depth u) le
  ]
