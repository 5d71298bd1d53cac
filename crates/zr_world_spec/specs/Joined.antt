-- Whether the routers of a world are joined: each is reached from each other over links that are up at both ends.
use Rattle.std.specs.Prelude.{ℕ, max, Bool, if◌then◌else◌, List}
use Rattle.std.specs.List.{list_all}
use Rattle.std.specs.Map.{keys_of}
use Rattle.zr_tree.specs.Walk.{Graph}
use Rattle.zr_tree.specs.Tree.{reached}
use Rattle.zr_world_spec.specs.World.{Ends, WorldState, is_linked, end_weight}

-- what a link that is up at both ends weighs: the greater of what it weighs for the routers of its ends; 0 where there is none
abbrev pub linked_weight : Ends → List ℕ → List ℕ → ℕ
linked_weight ends x y = if is_linked ends x y then max (end_weight ends (x, y)) (end_weight ends (y, x)) else 0

-- the routers, and the links between them that are up at both ends, with their weights
abbrev pub graph : WorldState → Graph
graph w = record { names = keys_of w.routers; joined = is_linked w.ends; weight = linked_weight w.ends }

-- each router is reached from each other
abbrev pub is_joined : WorldState → Bool
is_joined w = list_all (λ x. list_all (λ y. reached (graph w) x y) (keys_of w.routers)) (keys_of w.routers)
