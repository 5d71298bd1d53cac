use Rattle.std.proofs.Common.{◌≡◌, [], get_or, map, take}
use Rattle.std.specs.List.{filter}
use Rattle.zr_tree_parents.specs.Children.{is_child_index}
use Rattle.zr_tree_parents.proofs.children.children_of.Given as goal

abbrev pub invariant-loop-n : goal.invariant-loop-n
invariant-loop-n l = l.children.items ≡ map (λ n. get_or l.names n.index []) (filter (λ n. is_child_index l.parents l.x n.index) (take l.n-index l.neighbours))
