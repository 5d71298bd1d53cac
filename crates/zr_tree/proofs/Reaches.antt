-- A destination toward which a router has a next step is reached from it: the tree has a walk from the root to each of the two,
-- and the one to the router can be walked back.
use Rattle.std.proofs.Common.{◌≡◌, ℕ, true, ◌&&◌, List, [], ◌∷◌, ◌++◌, Option, Some, None, is_some, refl, sym, ap, ◌∙◌, subst}
use Rattle.std.proofs.lemmas.Bool.{and_parts}
use Rattle.zr_id.specs.Record.{RecordState}
use Rattle.zr_graph.specs.Record.{ids, IsAscending}
use Rattle.zr_tree.specs.Laws.{IsGraph}
use Rattle.zr_tree.specs.Tree.{dist, is_child, below, toward, reached}
use Rattle.zr_tree.specs.Walk.{Graph, graph_of, IsWalk}
use Rattle.zr_tree.proofs.Ancestors.{toward_unreached_dest}
use Rattle.zr_tree.proofs.Branches.{child_is}
use Rattle.zr_tree.proofs.Depths.{parent_near, unreached_depth}
use Rattle.zr_lists.proofs.Finds.{find_in}
use Rattle.zr_tree.proofs.Paths.{graph_is, walk_back, walk_reaches, dist_walk}

pub walk_append : (g : Graph) (a b c : List ℕ) (path more : List (List ℕ)) → IsWalk g a path b → IsWalk g b more c → IsWalk g a (path ++ more) c
walk_append g a b c [] more h k = let P : List ℕ → Type 0 = λ z. IsWalk g z more c in subst P (sym h) k
walk_append g a b c (y ∷ path) more h k = (h.0, walk_append g y b c path more h.1 k)

module _ (g : Graph) (is : IsGraph g) where
  -- what the same root reaches reaches one another
  pub both_reached : (root x y : List ℕ) (m n : ℕ) → dist g root x ≡ Some m → dist g root y ≡ Some n → reached g x y ≡ true
  both_reached root x y m n d e =
      let near = dist_walk g is root x m d in
      let far = dist_walk g is root y n e in
      let back = walk_back g is root x near.0 near.1 in
      let whole = walk_append g x root y back.0 far.0 back.1 far.1 in
      ap is_some (walk_reaches g is x y (back.0 ++ far.0) whole).2

module _ (rs : List RecordState) (up : IsAscending (ids rs)) (root at dest : List ℕ) where
  at_reached : (y : List ℕ) → toward (graph_of rs) root at dest ≡ Some y → (k : ℕ) × (dist (graph_of rs) root at ≡ Some k)
  at_reached y h =
      let f = find_in (λ z. is_child (graph_of rs) root at z && below (graph_of rs) root z dest) (ids rs) y h in
      let p = parent_near (graph_of rs) root y at (child_is (graph_of rs) root at y (and_parts _ _ f.1).0) in
      (p.0, p.1.from_parent)

  pub toward_reached : (y : List ℕ) → toward (graph_of rs) root at dest ≡ Some y → reached (graph_of rs) at dest ≡ true
  toward_reached y h = by_dist (dist (graph_of rs) root dest) refl
    where
      by_dist : (o : Option ℕ) → dist (graph_of rs) root dest ≡ o → reached (graph_of rs) at dest ≡ true
      by_dist None d = let e : None ≡ Some y = sym (toward_unreached_dest rs root at dest (unreached_depth (graph_of rs) root dest d)) ∙ h in absurd (cc)
      by_dist (Some n) d = let k = at_reached y h in both_reached (graph_of rs) (graph_is rs up) root at dest k.0 n k.1 d
