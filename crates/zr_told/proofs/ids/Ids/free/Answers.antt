use Rattle.std.proofs.Common.{◌==◌, ◌&&◌, not, ap, ◌∙◌}
use Rattle.zr_told.specs.Ids.{IdsState, is_given}
use Rattle.zr_told.proofs.Freed.{ids_without, given_without}
use Rattle.zr_told.proofs.ids.Ids.free.Goals as goal

pub invariant_of-self-2 : goal.invariant_of-self-2
invariant_of-self-2 c =
    let s : IdsState = record { next = c.self.inside.next; freed = c.self.inside.freed.keys } in
    rw c.in_ok-insert.ensures.keys (ids_without s c.args.id c.self.invariant (ap (λ z. is_given z c.args.id) c.self.view_is ∙ c.requires))

pub returns-clause-ok : goal.returns-clause-ok
returns-clause-ok c = λ k.
    let s : IdsState = record { next = c.self.inside.next; freed = c.self.inside.freed.keys } in
    ap (λ z. is_given (record { next = c.self.inside.next; freed = z }) k) c.in_ok-insert.ensures.keys
    ∙ given_without s c.args.id k
    ∙ ap (λ z. is_given z k && not (c.args.id == k)) c.self.view_is
