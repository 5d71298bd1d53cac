use Rattle.std.proofs.Common.{Bool, List, [], filter, map, refl, ap, ◌∙◌, subst, sym, arith}
use Rattle.std.proofs.lemmas.Option.{IfSome_then}
use Rattle.zr_local.specs.declared.row.Row.{Row}
use Rattle.zr_msg.specs.declared.peer.LinkPeer.{LinkPeer}
use Rattle.zr_lists.proofs.Prefixes.{along_picked, along_passed}
use Rattle.zr_push.specs.declared.route.RouteLink.{RouteLink}
use Rattle.zr_push_sought.specs.Found.{TellClients}
use Rattle.zr_push_sought.specs.Sought.{by_meeting}
use Rattle.zr_push.specs.Route.{is_stop, stop_at}
use Rattle.zr_push.proofs.route.stops_on.Goals.{then-is_stop+in_ok-push, else-is_stop}
use Rattle.zr_push.proofs.route.stops_on.Goals as goal

pub is_stop-requires : goal.is_stop-requires
is_stop-requires c =
    IfSome_then c.args.found c.requires
    (λ f h. subst (λ (rows : List Row). TellClients (by_meeting c.args.sought) c.args.key.now rows f.now.holders.items) (sym c.loop-link.invariant.rows) h)

pub loop-link-preserved : goal.loop-link-preserved
loop-link-preserved c =
    let test : LinkPeer → Bool = λ l. is_stop c.args.tables.now c.args.hops.now c.args.sought c.args.key.now l l.peer.role in
    let said_of : LinkPeer → RouteLink = λ l. stop_at l in
    let links : List LinkPeer = c.links-links.result.now in
    let said : List RouteLink = map said_of (filter test links) in
    let is = c.is_stop.ensures.stop c.args.tables.now c.loop-link.invariant.rows in
    record {
      rows = c.is_stop.ensures.kept ∙ c.loop-link.invariant.rows;
      stops = elim c.if-is_stop.branch [
        | then-is_stop+in_ok-push w ↦
            along_picked test said_of [] said links c.loop-link.link-index c.link-item.result c.loop-link.stops.items c.if-is_stop.stops.items
            (omega arith) (rw (← c.link-item.is) (sym is ∙ w.if-is_stop.true))
            (ap (λ v. v.items) w.stops-is ∙ w.in_ok-push.ensures.items ∙ rw (← c.link-item.is, w.stop_at.ensures) refl)
            c.loop-link.invariant.stops
        | else-is_stop w ↦
            along_passed test said_of [] said links c.loop-link.link-index c.link-item.result c.loop-link.stops.items c.if-is_stop.stops.items
            (omega arith) (rw (← c.link-item.is) (sym is ∙ w.if-is_stop.false))
            (ap (λ v. v.items) w.stops-is) c.loop-link.invariant.stops
      ];
    }
