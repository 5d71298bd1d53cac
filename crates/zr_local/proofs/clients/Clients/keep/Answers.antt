use Rattle.std.proofs.Common.{[]}
use Rattle.std.specs.Ordering.{nat_cmp}
use Rattle.zr_lists.specs.Place.{IsAt, IsGap}
use Rattle.zr_local.specs.Clients.{AreByLink, client_link}
use Rattle.zr_local.specs.declared.interest.ClientInterests.{ClientInterests}
use Rattle.zr_local.proofs.Live.{kept_there, kept_ascend, inserted_is, inserted_ascend, in_either, on_ok}
use Rattle.zr_local.proofs.clients.Clients.keep.Goals as goal

pub invariant_of-self : goal.invariant_of-self
invariant_of-self c =
    let at : IsAt nat_cmp client_link c.self.inside.items.items c.args.link.0 c.in-Ok.at = rw (← c.deref.ensures.value) c.in-Ok.ensures in
    let d : ClientInterests = record { link = c.args.link; interests = [] } in
    in_either c.keep_at.result _ _ (AreByLink c.keep_at.new.items.items) (c.keep_at.ensures.ok d) c.keep_at.ensures.err
    (λ e. rw (kept_there c.self.inside.items.items c.args.link c.args.interest c.in-Ok.at d c.keep_at.new.items.items at e) (kept_ascend c.self.inside.items.items c.args.link c.args.interest c.self.invariant))
    (λ e. rw e c.self.invariant)

pub invariant_of-self-in-Err : goal.invariant_of-self-in-Err
invariant_of-self-in-Err c =
    let gap : IsGap nat_cmp client_link c.self.inside.items.items c.args.link.0 c.in-Err.at = rw (← c.deref.ensures.value) c.in-Err.ensures in
    rw (c.in_ok-insert-in-Err.ensures.items, inserted_is c.self.inside.items.items c.args.link _ c.in-Err.at gap) (inserted_ascend c.self.inside.items.items c.args.link _ c.self.invariant)

pub returns-in-Ok-clause-ok : goal.returns-in-Ok-clause-ok
returns-in-Ok-clause-ok c =
    let at : IsAt nat_cmp client_link c.self.inside.items.items c.args.link.0 c.in-Ok.at = rw (← c.deref.ensures.value) c.in-Ok.ensures in
    let d : ClientInterests = record { link = c.args.link; interests = [] } in
    rw (← c.self.view_is)
    (on_ok c.keep_at.result _ _ (kept_there c.self.inside.items.items c.args.link c.args.interest c.in-Ok.at d c.keep_at.new.items.items at) (c.keep_at.ensures.ok d))
