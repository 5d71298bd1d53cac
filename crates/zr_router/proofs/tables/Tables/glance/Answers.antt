use Rattle.std.proofs.Common.{◌≡◌, false, sym, subst, ap, ◌∙◌}
use Rattle.std.specs.Prelude.{IfOk}
use Rattle.zr_hist.specs.Words.{list_of, seen}
use Rattle.zr_router_queue.specs.Ends.{IsReplay}
use Rattle.zr_router_queue.specs.Tables.{replay}
use Rattle.zr_router.specs.Glance.{glance}
use Rattle.zr_router.proofs.tables.Tables.glance.Goals as goal

pub returns-clause-glance : goal.returns-clause-glance
returns-clause-glance g c =
    let me = g.B.Naming.me in
    let l = c.look.new.self in
    let open_now : l.is_spent ≡ false = c.look.ensures.same.2 ∙ sym c.in-Ok.ensures.spent in
    let r : IsReplay me (list_of l.kept) l.hub l.ends.items = l.replayed open_now in
    let all : list_of l.kept ≡ seen c.look.new.pass = c.look.ensures.kept ∙ sym c.look.ensures.pass.2 in
    subst (λ n. IfOk c.glance_of.result (λ x. x ≡ n)) (ap (λ h. glance h.node) r.hub_is ∙ ap (λ z. glance (replay me z).hub.node) all) c.glance_of.ensures
