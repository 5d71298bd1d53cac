use Rattle.std.proofs.Common.{◌∙◌, refl, sym, ap, arith}
use Rattle.std.specs.List.{sum_by}
use Rattle.std.specs.Option.{option_copied}
use Rattle.std.specs.Ordering.{nat_cmp}
use Rattle.std.specs.Cmp.Lexicographic.{slice_cmp}
use Rattle.std.specs.Map.{keys_of, set_value, remove_entry}
use Rattle.std.specs.BTreeMap.{is_at}
use Rattle.std.proofs.lemmas.Map.Keys.{IsDistinct-from_sorted}
use Rattle.zr_lists.specs.Cut.{parts}
use Rattle.zr_index.specs.declared.node.Node.{Node}
use Rattle.zr_index.specs.declared.node.Node.TheOpen.{Node-F}
use Rattle.zr_index.specs.declared.node.Node.TheViews.{out-Node}
use Rattle.zr_index.specs.Pairs.{pairs, weigh_below}
use Rattle.zr_index.proofs.Sought.{same_key}
use Rattle.zr_index.proofs.Taking.{takes_value, takes_plain, takes_wild, takes_below, none_in}
use Rattle.zr_index.proofs.Weights.{sum_set, sum_gone, lookup_set}
use Rattle.zr_index.proofs.node.+removing.Goals as goal

pub Node::remove-returns-in-None : goal.Node::remove-returns-in-None
Node::remove-returns-in-None g t c =
    let n = c.args.self.now in
    let x = out-Node g.row.V.Denot n in
    let y : Node-F g.row.V.Denot (Node g.row.V.Denot) = record { values = c.remove_value.new.values; plain = x.plain; wild = x.wild } in
    takes_value n y (parts 47 (option_copied c.args.rest)) g.V.PartialEq.eq c.args.value.now c.remove_value.result (ap (λ r. parts 47 (option_copied r)) c.in-None.is) refl refl c.remove_value.ensures

pub Node::remove-returns-then-is_plain : goal.Node::remove-returns-then-is_plain
Node::remove-returns-then-is_plain g t c =
    let n = c.args.self.now in
    let x = out-Node g.row.V.Denot n in
    let y : Node-F g.row.V.Denot (Node g.row.V.Denot) = record { values = x.values; plain = c.remove_below.new.children; wild = x.wild } in
    let left = ap (λ r. parts 47 (option_copied r)) c.in-Some.is ∙ c.cut.ensures.parts in
    takes_plain n y (parts 47 (option_copied c.args.rest)) g.V.PartialEq.eq c.args.value.now c.cut.result.0.now (parts 47 (option_copied c.cut.result.1)) left refl c.remove_below.result
    (sym c.if-is_plain.ensures) refl c.remove_below.ensures

pub Node::remove-returns-else-is_plain : goal.Node::remove-returns-else-is_plain
Node::remove-returns-else-is_plain g t c =
    let n = c.args.self.now in
    let x = out-Node g.row.V.Denot n in
    let y : Node-F g.row.V.Denot (Node g.row.V.Denot) = record { values = x.values; plain = x.plain; wild = c.remove_below-else-is_plain.new.children } in
    let left = ap (λ r. parts 47 (option_copied r)) c.in-Some.is ∙ c.cut.ensures.parts in
    takes_wild n y (parts 47 (option_copied c.args.rest)) g.V.PartialEq.eq c.args.value.now c.cut.result.0.now (parts 47 (option_copied c.cut.result.1)) left refl c.remove_below-else-is_plain.result
    (sym c.if-is_plain.ensures) refl c.remove_below-else-is_plain.ensures

pub remove_below-returns-in_default : goal.remove_below-returns-in_default
remove_below-returns-in_default g t c =
    let at_none = c.get_mut.follows.holds-at-none in
    (λ f. cc, none_in (λ k. k.items) g.V.PartialEq.eq c.args.chunk.now (parts 47 (option_copied c.args.rest)) c.args.value.now c.args.children.now.entries (sym c.in_default.ensures.value))

pub remove_below-returns-then-is_empty : goal.remove_below-returns-then-is_empty
remove_below-returns-then-is_empty g t c =
    let chunk = c.args.chunk.now in
    let es = c.args.children.now.entries in
    let old = c.in-Some.child.now in
    let new = c.remove-was_there.new.self in
    let found = sym c.in-Some.ensures.value in
    let distinct = IsDistinct-from_sorted _ (keys_of es) c.get_mut.ensures.ordered in
    takes_below (λ k. k.items) g.V.PartialEq.eq chunk (parts 47 (option_copied c.args.rest)) c.args.value.now c.remove-was_there.result es c.remove.new.self.entries old new distinct found
    (λ f.
    let test = is_at (λ k. slice_cmp nat_cmp chunk k.items) in
    let set = sum_set (λ k. k.items) (λ n x. sum_by (f n) (pairs x)) test chunk (λ k e. sym (same_key chunk k.items e)) es old new found in
    let gone = sum_gone (λ k. k.items) (λ n x. sum_by (f n) (pairs x)) test chunk (λ k e. sym (same_key chunk k.items e)) (set_value test es new) new (lookup_set test es old new found) in
    let written = ap (weigh_below (λ k. f k.items)) (c.remove.ensures.entries ∙ ap (λ xs. remove_entry test xs) (c.get_mut.follows.holds new).0) in
    let empty = ap (sum_by (f chunk)) (c.if-is_empty.ensures refl) in
    omega (arith, set, gone, written, empty))
    c.remove-was_there.ensures

pub remove_below-returns-else-is_empty : goal.remove_below-returns-else-is_empty
remove_below-returns-else-is_empty g t c =
    let chunk = c.args.chunk.now in
    let es = c.args.children.now.entries in
    let old = c.in-Some.child.now in
    let new = c.remove-was_there.new.self in
    let found = sym c.in-Some.ensures.value in
    let distinct = IsDistinct-from_sorted _ (keys_of es) c.get_mut.ensures.ordered in
    takes_below (λ k. k.items) g.V.PartialEq.eq chunk (parts 47 (option_copied c.args.rest)) c.args.value.now c.remove-was_there.result es (c.get_mut.follows.lender new).entries old new distinct found
    (λ f.
    let set = sum_set (λ k. k.items) (λ n x. sum_by (f n) (pairs x)) (is_at (λ k. slice_cmp nat_cmp chunk k.items)) chunk (λ k e. sym (same_key chunk k.items e)) es old new found in
    let written = ap (weigh_below (λ k. f k.items)) (c.get_mut.follows.holds new).0 in
    omega (arith, set, written))
    c.remove-was_there.ensures
