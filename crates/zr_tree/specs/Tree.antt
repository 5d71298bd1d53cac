-- The tree of a root: how far each router is from it, and over which neighbours the shortest walks go.
use Rattle.std.specs.Prelude.{ℕ, ◌+◌, suc, zero, min, Bool, false, ◌&&◌, ◌||◌, List, [], ◌∷◌, ◌++◌, length, map, Option, Some, None, is_some, unwrap_or, if◌then◌else◌}
use Rattle.std.specs.List.{find, filter, flat_map}
use Rattle.std.specs.Option.{option_map, option_map_or}
use Rattle.zr_id.specs.Zid.{is_named}
use Rattle.zr_tree_parents.specs.Distance.{is_sum}
use Rattle.zr_tree.specs.Walk.{Graph, near, edge_length}

-- the sum of the walk without an edge, which leads from the root to itself alone
abbrev pub no_edge : List ℕ → List ℕ → List ℕ
no_edge root x = if is_named root x then 0 ∷ [] else []

-- the sums of weights of the walks of at most n edges from the root to x
abbrev pub sums : Graph → ℕ → List ℕ → List ℕ → List ℕ
sums g zero root x = no_edge root x
sums g (suc n) root x = no_edge root x ++ flat_map (λ y. map (λ m. m + edge_length g y x) (sums g n root y)) (near g x)

-- the least of some numbers
abbrev pub least : List ℕ → Option ℕ
least [] = None
least (n ∷ ns) = Some (option_map_or (λ m. min n m) (least ns) n)

-- how far x is from the root: the least sum of a walk; one of more edges than there are routers is none of the shortest
abbrev pub dist : Graph → List ℕ → List ℕ → Option ℕ
dist g root x = least (sums g (length g.names) root x)

-- a walk leads from one router to the other
abbrev pub reached : Graph → List ℕ → List ℕ → Bool
reached g from to = is_some (dist g from to)

-- the parent of x: its least neighbour from which the last edge of a shortest walk leads to it
abbrev pub parent : Graph → List ℕ → List ℕ → Option (List ℕ)
parent g root x = find (λ y. is_sum (dist g root y) (edge_length g y x) (dist g root x)) (near g x)

-- the parent of y is x
abbrev pub is_child : Graph → List ℕ → List ℕ → List ℕ → Bool
is_child g root x y = option_map_or (λ p. is_named p x) (parent g root y) false

-- the routers whose parent is x
abbrev pub children : Graph → List ℕ → List ℕ → List (List ℕ)
children g root x = filter (λ y. is_child g root x y) g.names

-- so many parents there are, one above the other, from x up to the root; no more than n are counted
abbrev pub parents_above : Graph → ℕ → List ℕ → List ℕ → ℕ
parents_above g zero root x = 0
parents_above g (suc n) root x = option_map_or (λ p. suc (parents_above g n root p)) (parent g root x) 0

-- how deep x is in the tree: how many edges lead to it from the root, which are no more than the distance is long
abbrev pub tree_depth : Graph → List ℕ → List ℕ → Option ℕ
tree_depth g root x = option_map (λ n. parents_above g n root x) (dist g root x)

-- y is x, or its parent, or the parent of that, up to n times
abbrev pub climbs : Graph → ℕ → List ℕ → List ℕ → List ℕ → Bool
climbs g zero root y x = is_named x y
climbs g (suc n) root y x = is_named x y || option_map_or (λ p. climbs g n root y p) (parent g root x) false

-- x is below y in the tree of the root: it is y, or its parent is below y; a parent is less deep
abbrev pub below : Graph → List ℕ → List ℕ → List ℕ → Bool
below g root y x = climbs g (unwrap_or (tree_depth g root x) 0) root y x

-- the child of `at` below which the destination is
abbrev pub toward : Graph → List ℕ → List ℕ → List ℕ → Option (List ℕ)
toward g root at dest = find (λ y. is_child g root at y && below g root y dest) g.names
