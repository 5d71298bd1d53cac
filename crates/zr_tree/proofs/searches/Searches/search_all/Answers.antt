use Rattle.std.proofs.Common.{ℕ, get_or, map, take, ap, ◌∙◌}
use Rattle.std.proofs.lemmas.List.{take_more, map_push}
use Rattle.zr_tree_parents.specs.declared.row.Neighbour.{Neighbour}
use Rattle.zr_tree.proofs.Searched.{searched_more}
use Rattle.zr_tree.proofs.searches.Searches.search_all.Goals as goal

pub loop-start-preserved : goal.loop-start-preserved
loop-start-preserved c =
    let none : Neighbour = record { index = 0; weight = 0 } in
    let index : Neighbour → ℕ = λ n. n.index in
    let more = ap (map index) (take_more c.args.starts.now c.loop-start.start-index none c.loop-start-test.true) ∙ map_push index (take c.loop-start.start-index c.args.starts.now) (get_or c.args.starts.now c.loop-start.start-index none) in
    rw more
    (searched_more c.args.edges.now c.args.self.now c.loop-start.self c.search.new.self (map index (take c.loop-start.start-index c.args.starts.now)) _ c.loop-start.invariant c.in_ok-search.ensures)
