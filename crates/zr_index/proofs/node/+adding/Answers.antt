use Rattle.std.proofs.Common.{◌≡◌, [], ◌∷◌, ◌∙◌, None, true, false, refl, sym, ap, arith}
use Rattle.std.specs.List.{sum_by}
use Rattle.std.specs.Option.{option_copied}
use Rattle.std.specs.Ordering.{nat_cmp}
use Rattle.std.specs.Cmp.Lexicographic.{slice_cmp}
use Rattle.std.specs.Map.{lookup}
use Rattle.std.specs.BTreeMap.{is_at, insert_entry}
use Rattle.std.proofs.lemmas.Result.{on_ok_weaker}
use Rattle.std.proofs.lemmas.List.Sums.{sum_by-cons}
use Rattle.zr_lists.specs.Cut.{parts}
use Rattle.zr_index.specs.declared.node.Node.{Node}
use Rattle.zr_index.specs.declared.node.Node.TheOpen.{Node-F}
use Rattle.zr_index.specs.declared.node.Node.TheViews.{out-Node}
use Rattle.zr_index.specs.Pairs.{pairs, weigh_below}
use Rattle.zr_index.proofs.Levels.{guarded}
use Rattle.zr_index.proofs.Changing.{grow_values, grow_plain, grow_wild, same_level}
use Rattle.zr_index.proofs.Sought.{same_key}
use Rattle.zr_index.proofs.Taking.{added, kept, at_ok, refused_weaker}
use Rattle.zr_index.proofs.Weights.{sum_set, sum_new}
use Rattle.zr_index.proofs.node.+adding.Goals as goal

pub Node::add-returns-in-None-clause-added : goal.Node::add-returns-in-None-clause-added
Node::add-returns-in-None-clause-added g t c =
    let n = c.args.self.now in
    let x = out-Node g.row.V.Denot n in
    let y : Node-F g.row.V.Denot (Node g.row.V.Denot) = record { values = c.add_value.new.values; plain = x.plain; wild = x.wild } in
    on_ok_weaker c.add_value.result (λ h f. added n y (parts 47 (option_copied c.args.rest)) f [] c.args.value (ap (λ r. parts 47 (option_copied r)) c.in-None.is)
    (grow_values f x y c.args.value (h (λ w. f ([], w))) refl refl)) c.add_value.ensures.added

pub Node::add-returns-in-None-clause-refused : goal.Node::add-returns-in-None-clause-refused
Node::add-returns-in-None-clause-refused g t c =
    let n = c.args.self.now in
    let x = out-Node g.row.V.Denot n in
    let y : Node-F g.row.V.Denot (Node g.row.V.Denot) = record { values = c.add_value.new.values; plain = x.plain; wild = x.wild } in
    refused_weaker c.args.value c.add_value.result (λ h f. kept n y (parts 47 (option_copied c.args.rest)) f (same_level f x y h refl refl)) c.add_value.ensures.refused

pub Node::add-returns-then-is_plain-clause-added :
    goal.Node::add-returns-then-is_plain-clause-added
Node::add-returns-then-is_plain-clause-added g t c =
    let n = c.args.self.now in
    let x = out-Node g.row.V.Denot n in
    let y : Node-F g.row.V.Denot (Node g.row.V.Denot) = record { values = x.values; plain = c.add_below.new.children; wild = x.wild } in
    let chunk = c.cut.result.0.now in
    let path = parts 47 (option_copied c.cut.result.1) in
    let left = ap (λ r. parts 47 (option_copied r)) c.in-Some.is ∙ c.cut.ensures.parts in
    on_ok_weaker c.add_below.result (λ h f. added n y (parts 47 (option_copied c.args.rest)) f (chunk ∷ path) c.args.value left
    (grow_plain f x y chunk path c.args.value (sym c.if-is_plain.ensures) refl refl (h (guarded true f)))) c.add_below.ensures.added

pub Node::add-returns-then-is_plain-clause-refused :
    goal.Node::add-returns-then-is_plain-clause-refused
Node::add-returns-then-is_plain-clause-refused g t c =
    let n = c.args.self.now in
    let x = out-Node g.row.V.Denot n in
    let y : Node-F g.row.V.Denot (Node g.row.V.Denot) = record { values = x.values; plain = c.add_below.new.children; wild = x.wild } in
    refused_weaker c.args.value c.add_below.result (λ h f. kept n y (parts 47 (option_copied c.args.rest)) f (same_level f x y refl (h (guarded true f)) refl)) c.add_below.ensures.refused

pub Node::add-returns-else-is_plain-clause-added :
    goal.Node::add-returns-else-is_plain-clause-added
Node::add-returns-else-is_plain-clause-added g t c =
    let n = c.args.self.now in
    let x = out-Node g.row.V.Denot n in
    let y : Node-F g.row.V.Denot (Node g.row.V.Denot) = record { values = x.values; plain = x.plain; wild = c.add_below-else-is_plain.new.children } in
    let chunk = c.cut.result.0.now in
    let path = parts 47 (option_copied c.cut.result.1) in
    let left = ap (λ r. parts 47 (option_copied r)) c.in-Some.is ∙ c.cut.ensures.parts in
    on_ok_weaker c.add_below-else-is_plain.result (λ h f. added n y (parts 47 (option_copied c.args.rest)) f (chunk ∷ path) c.args.value left
    (grow_wild f x y chunk path c.args.value (sym c.if-is_plain.ensures) refl refl (h (guarded false f)))) c.add_below-else-is_plain.ensures.added

pub Node::add-returns-else-is_plain-clause-refused :
    goal.Node::add-returns-else-is_plain-clause-refused
Node::add-returns-else-is_plain-clause-refused g t c =
    let n = c.args.self.now in
    let x = out-Node g.row.V.Denot n in
    let y : Node-F g.row.V.Denot (Node g.row.V.Denot) = record { values = x.values; plain = x.plain; wild = c.add_below-else-is_plain.new.children } in
    refused_weaker c.args.value c.add_below-else-is_plain.result (λ h f. kept n y (parts 47 (option_copied c.args.rest)) f (same_level f x y refl refl (h (guarded false f)))) c.add_below-else-is_plain.ensures.refused

pub add_below-returns-in-Some-clause-added : goal.add_below-returns-in-Some-clause-added
add_below-returns-in-Some-clause-added g t c =
    let chunk = c.args.chunk.now in
    let es = c.args.children.now.entries in
    let path = parts 47 (option_copied c.args.rest) in
    on_ok_weaker c.add.result (λ h f.
    let set = sum_set (λ k. k.items) (λ n x. sum_by (f n) (pairs x)) (is_at (λ k. slice_cmp nat_cmp chunk k.items)) chunk (λ k e. sym (same_key chunk k.items e)) es c.in-Some.child.now c.add.new.self (sym c.in-Some.ensures.value) in
    let written = ap (weigh_below (λ k. f k.items)) (c.get_mut.follows.holds c.add.new.self).0 in
    omega (arith, set, written, h (f chunk), sum_by-cons (f chunk) (path, c.args.value) (pairs c.in-Some.child.now))) c.add.ensures.added

pub add_below-returns-in-Some-clause-refused : goal.add_below-returns-in-Some-clause-refused
add_below-returns-in-Some-clause-refused g t c =
    let chunk = c.args.chunk.now in
    let es = c.args.children.now.entries in
    refused_weaker c.args.value c.add.result (λ h f.
    let set = sum_set (λ k. k.items) (λ n x. sum_by (f n) (pairs x)) (is_at (λ k. slice_cmp nat_cmp chunk k.items)) chunk (λ k e. sym (same_key chunk k.items e)) es c.in-Some.child.now c.add.new.self (sym c.in-Some.ensures.value) in
    let written = ap (weigh_below (λ k. f k.items)) (c.get_mut.follows.holds c.add.new.self).0 in
    omega (arith, set, written, h (f chunk))) c.add.ensures.refused

pub add_below-returns-clause-added : goal.add_below-returns-clause-added
add_below-returns-clause-added g t c f =
    let chunk = c.args.chunk.now in
    let es = c.args.children.now.entries in
    let child = c.add-2.new.self in
    let path = parts 47 (option_copied c.args.rest) in
    let none : lookup (is_at (λ k. slice_cmp nat_cmp chunk k.items)) es ≡ None = sym c.in_default.ensures.value in
    let absent = ap (λ n. lookup (is_at (λ k. slice_cmp nat_cmp n k.items)) es) c.in-Ok.ensures.items ∙ none in
    let entries = at_ok c.insert.result c.if-is_err.ensures.negation c.insert.ensures.entries in
    let before = ap (λ m. insert_entry (λ x y. slice_cmp nat_cmp x.items y.items) m.entries c.in-Ok.name child) c.get_mut.follows.holds-at-none in
    let written = ap (weigh_below (λ k. f k.items)) (entries ∙ before) in
    let new = sum_new (λ k. k.items) (λ n x. sum_by (f n) (pairs x)) (λ x y. slice_cmp nat_cmp x.items y.items) c.in-Ok.name child es absent in
    let named = ap (λ n. sum_by (f n) (pairs child)) c.in-Ok.ensures.items in
    let empty = ap (sum_by (f chunk)) c.new-child.ensures in
    omega (arith, written, new, named, empty, c.in_ok-add.ensures.added (f chunk), sum_by-cons (f chunk) (path, c.args.value) (pairs c.new-child.result))
