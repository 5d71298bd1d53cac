use Rattle.std.proofs.Common.{◌≡◌, List, ℕ, ◌<◌, true, false, [], Option, length, get_or, arith, subst, sym, ap, ◌∙◌}
use Rattle.std.specs.Option.{option_map_or}
use Rattle.std.proofs.lemmas.List.{get_or-map, length-map, take_all}
use Rattle.zr_id.specs.Record.{LinkedState, RecordState, linked_ids}
use Rattle.zr_graph.specs.Record.{has, lists, weight_given, weight_to, IsAscending}
use Rattle.zr_graph.proofs.Names.{same_refl}
use Rattle.zr_id.specs.Zid.{is_named}
use Rattle.zr_lists.proofs.Finds.{In, in_any, map_in, place_in}
use Rattle.zr_tree.proofs.Links.{parts_of_links}
use Rattle.zr_tree.proofs.Rows.{IsFront, front_by, link_at, row_is}
use Rattle.zr_tree.proofs.edges.row_of.Goals as goal

pub loop-link-preserved : goal.loop-link-preserved
loop-link-preserved c =
    let rs : List RecordState = c.args.records.now in
    let links : List LinkedState = c.links-links.result.now in
    let link : LinkedState = c.link-item.result in
    let k : ℕ = c.loop-link.link-index in
    let at : link ≡ get_or links k link = c.link-item.is in
    let inside : k < length (linked_ids links) = omega (arith, length-map links (λ (l : LinkedState). l.id), c.loop-link-test.true) in
    let is : link.id ≡ get_or (linked_ids links) k [] = ap (λ (l : LinkedState). l.id) at ∙ sym (get_or-map (λ (l : LinkedState). l.id) links k link [] c.loop-link-test.true) in
    let sorted = (parts_of_links c.args.from.now.id c.args.from.now.links c.links-links.ensures.in_order).0.ascending in
    let up : IsAscending (linked_ids links) = rw c.links-links.ensures.value sorted in
    let found : weight_to links link.id ≡ link.weight = ap (λ (l : LinkedState). weight_to links l.id) at ∙ link_at links k link up c.loop-link-test.true ∙ ap (λ (l : LinkedState). l.weight) (sym at) in
    let there : has (linked_ids links) link.id ≡ true =
    in_any (λ y. is_named y link.id) (linked_ids links) link.id (map_in (λ (l : LinkedState). l.id) links link (subst (λ (l : LinkedState). In l links) (sym at) (place_in links k link c.loop-link-test.true))) (same_refl link.id) in
    let mine : lists rs c.args.from.now.id link.id ≡ true =
    ap (λ (o : Option RecordState). option_map_or (λ (r : RecordState). has (linked_ids r.links) link.id) o false) c.requires.among ∙ ap (λ (ls : List LinkedState). has (linked_ids ls) link.id) (sym c.links-links.ensures.value) ∙ there in
    let own : weight_given rs c.args.from.now.id link.id ≡ link.weight =
    ap (λ (o : Option RecordState). option_map_or (λ (r : RecordState). weight_to r.links link.id) o 0) c.requires.among ∙ ap (λ (ls : List LinkedState). weight_to ls link.id) (sym c.links-links.ensures.value) ∙ found in
    rw c.in_ok-extend.ensures (front_by rs c.args.from.now.id (linked_ids links) k c.loop-link.neighbours.items inside c.loop-link.invariant link is mine own c.linked_back.result (rw c.id.ensures at c.linked_back.ensures))

pub returns-clause-neighbours : goal.returns-clause-neighbours
returns-clause-neighbours c =
    let links : List LinkedState = c.links-links.result.now in
    let all = take_all c.loop-link.link-index (linked_ids links) (omega (arith, c.loop-link-test.false, length-map links (λ (l : LinkedState). l.id))) ∙ ap linked_ids c.links-links.ensures.value in
    let front = subst (λ (names : List (List ℕ)). IsFront c.args.records.now c.args.from.now.id names c.loop-link.neighbours.items) all c.loop-link.invariant in
    let sorted = (parts_of_links c.args.from.now.id c.args.from.now.links c.links-links.ensures.in_order).0.ascending in
    rw c.of.ensures (row_is c.args.records.now c.args.from.now c.loop-link.neighbours.items c.requires.ascending c.requires.among sorted front)
