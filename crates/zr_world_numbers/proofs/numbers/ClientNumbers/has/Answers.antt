use Rattle.std.proofs.Common.{◌==◌, nat_lt, ap, ◌∙◌}
use Rattle.std.specs.List.{list_any}
use Rattle.std.specs.Map.{values_of}
use Rattle.zr_world_numbers.proofs.Counted.{is_there}
use Rattle.zr_world_numbers.proofs.numbers.ClientNumbers.has.Goals as goal

pub returns : goal.returns
returns c =
    let n = c.args.number in
    ap (λ k. nat_lt 0 k) (c.times_in.ensures ∙ c.self.invariant n) ∙ is_there n (values_of c.self.inside.items.entries) ∙ ap (λ ns. list_any (λ m. m == n) ns) c.self.view_is
