use Rattle.std.proofs.Common.{◌≡◌, sym, ap, ◌∙◌}
use Rattle.std.specs.Map.{values_of}
use Rattle.zr_world_numbers.specs.Index.{how_often}
use Rattle.zr_world_numbers.proofs.Counted.{index_taken, none_goes, others}
use Rattle.zr_world_numbers.proofs.numbers.ClientNumbers.take.Goals as goal

pub invariant_of-self : goal.invariant_of-self
invariant_of-self c = λ k.
    index_taken c.self.inside.index.entries c.leave.new.index.entries c.args.number (values_of c.self.inside.items.entries) c.leave.ensures.others c.self.invariant k
    ∙ ap (λ ns. how_often k ns) (sym c.take_from.ensures)

pub returns-in-None : goal.returns-in-None
returns-in-None c =
    let n = c.args.number in
    let ns = values_of c.self.inside.items.entries in
    let none : how_often n ns ≡ 0 = sym (c.self.invariant n) ∙ c.leave.ensures.none c.in-None.is in
    sym (none_goes n ns none) ∙ ap (λ ks. others n ks) c.self.view_is
