use Rattle.std.proofs.Common.{[], ap, ◌∙◌}
use Rattle.std.specs.Ordering.{nat_cmp}
use Rattle.zr_lists.specs.Place.{IsAt, IsGap}
use Rattle.zr_local.specs.Clients.{client_link, clients_weight}
use Rattle.zr_local.specs.declared.interest.ClientInterests.{ClientInterests}
use Rattle.zr_local.proofs.Live.{forgotten_there, forgotten_gap, forgotten_weighs, forgotten_ascend}
use Rattle.zr_local.proofs.clients.Clients.forget.Goals as goal

pub invariant_of-self : goal.invariant_of-self
invariant_of-self c =
    let at : IsAt nat_cmp client_link c.self.inside.items.items c.args.link.0 c.in-Ok.at = rw (← c.deref.ensures.value) c.in-Ok.ensures in
    let d : ClientInterests = record { link = c.args.link; interests = [] } in
    rw (forgotten_there c.self.inside.items.items c.args.link c.args.id c.in-Ok.at d c.forget_at.new.items.items at (c.forget_at.ensures d))
    (forgotten_ascend c.self.inside.items.items c.args.link c.args.id c.self.invariant)

pub returns-in-Ok-clause-value : goal.returns-in-Ok-clause-value
returns-in-Ok-clause-value c =
    let at : IsAt nat_cmp client_link c.self.inside.items.items c.args.link.0 c.in-Ok.at = rw (← c.deref.ensures.value) c.in-Ok.ensures in
    let d : ClientInterests = record { link = c.args.link; interests = [] } in
    rw (← c.self.view_is) (forgotten_there c.self.inside.items.items c.args.link c.args.id c.in-Ok.at d c.forget_at.new.items.items at (c.forget_at.ensures d))

pub returns-in-Ok-clause-weight : goal.returns-in-Ok-clause-weight
returns-in-Ok-clause-weight c =
    let at : IsAt nat_cmp client_link c.self.inside.items.items c.args.link.0 c.in-Ok.at = rw (← c.deref.ensures.value) c.in-Ok.ensures in
    let d : ClientInterests = record { link = c.args.link; interests = [] } in
    rw (← c.self.view_is)
    (ap clients_weight (forgotten_there c.self.inside.items.items c.args.link c.args.id c.in-Ok.at d c.forget_at.new.items.items at (c.forget_at.ensures d))
    ∙ forgotten_weighs c.self.inside.items.items c.args.link c.args.id c.in-Ok.at at)

pub returns-in_default-clause-value : goal.returns-in_default-clause-value
returns-in_default-clause-value c =
    let gap : IsGap nat_cmp client_link c.self.inside.items.items c.args.link.0 c.in_default.field-0 = rw (← c.deref.ensures.value) c.in_default.ensures in
    rw (← c.self.view_is) (forgotten_gap c.self.inside.items.items c.args.link c.args.id c.in_default.field-0 gap)
