use Rattle.std.proofs.Common.{◌≡◌, true, false, [], Ok, Err, Some, None, sym, ap, ◌∙◌, subst, rules}
use Rattle.std.proofs.lemmas.Map.Steps.{set_value_same}
use Rattle.std.proofs.lemmas.Result.{err_from_is_err_and}
use Rattle.zr_id.specs.Zid.{is_named}
use Rattle.zr_id.specs.declared.link.LinkNo.{LinkNo}
use Rattle.zr_msg.specs.declared.event.Event.TheVariants.{Down}
use Rattle.zr_node_spec.specs.Tables.{link_to}
use Rattle.zr_world_spec.specs.World.{router_of, is_taken, end_of, with_router, changed, lowered}
use Rattle.zr_world.specs.Hearing.{IsHeard}
use Rattle.zr_world_ends.specs.Kept.{KeptEnd}
use Rattle.zr_world.specs.State.{state_of}
use Rattle.zr_world.proofs.Events.{has_link, link_found}
use Rattle.zr_world.proofs.Kept.{kept_there, none_kept}
use Rattle.zr_world.proofs.Moving.{hears_is, down_is}
use Rattle.zr_world.proofs.Refusing.{down_unknown, down_unlinked, down_refused}
use Rattle.zr_world.proofs.tables.WorldTables.down.Goals as goal

pub hear_down-requires : goal.hear_down-requires
hear_down-requires g c =
    let w = state_of c.args.self.now in
    let er : router_of (state_of c.args.self.now).routers c.args.router ≡ Some c.in-Some.r.now = search rules in
    let l = link_found (link_to c.in-Some.r.now.node.links c.args.neighbour) c.in-Some-link_to.link c.in-Some-link_to.ensures in
    rw (← l.2) (has_link w c.requires c.args.router c.in-Some.r.now er c.args.neighbour l.0 l.1)

pub returns : goal.returns
returns g c =
    let w = state_of c.args.self.now in
    let r = c.in-Some.r.now in
    let r' = c.hear_down.new.self in
    let er : router_of (state_of c.args.self.now).routers c.args.router ≡ Some c.in-Some.r.now = search rules in
    let et : is_taken (state_of c.args.self.now) c.args.neighbour ≡ true = sym c.is_taken-is_known.ensures ∙ c.if-not-is_known.false in
    let k = kept_there (end_of (state_of c.args.self.now).ends (c.args.router, c.args.neighbour)) c.in-Some-get.end.now (search rules) in
    let s = k.0 in
    let es : end_of (state_of c.args.self.now).ends (c.args.router, c.args.neighbour) ≡ Some s = k.1 in
    let up : s.up ≡ true = ap (λ (z : KeptEnd). z.up) k.2 ∙ sym c.is_up.ensures ∙ c.if-not-is_up.false in
    let broken : s.unbroken ≡ false = ap (λ (z : KeptEnd). z.unbroken) k.2 ∙ sym c.is_unbroken.ensures ∙ c.if-is_unbroken.false in
    let l = link_found (link_to c.in-Some.r.now.node.links c.args.neighbour) c.in-Some-link_to.link c.in-Some-link_to.ensures in
    let heard : IsHeard (Ok tt) c.in-Some.r.now c.hear_down.new.self (Down l.0.link) c.hear_down.new.out.items =
    subst (λ (z : LinkNo). IsHeard (Ok tt) c.in-Some.r.now c.hear_down.new.self (Down z) c.hear_down.new.out.items) (sym l.2) c.in_ok-hear_down.ensures in
    let lent : (c.get_mut.follows.lender c.hear_down.new.self).entries ≡ with_router c.args.self.now.routers.entries c.args.router c.hear_down.new.self = search rules in
    let lower : changed c.spread.new.ends (c.args.router, c.args.neighbour) lowered ≡ c.lower.new.self = sym c.lower.ensures in
    down_is w _ c.args.line c.args.router c.args.neighbour r s l.0 er et es up broken l.1
    (hears_is w w.ends c.spread.new.ends c.args.router r r' (Down l.0.link) c.hear_down.new.out.items c.args.line heard c.requires.in_order (c.requires.unique c.args.router r er)
    (has_link w c.requires c.args.router r er c.args.neighbour l.0 l.1) c.in_ok-spread.ensures)
    ∙ (λ i. Ok ([], record { routers = sym lent i; clients = c.args.self.now.clients.entries; ends = lower i; booked = c.args.self.now.booked }))

pub returns-in_err-hear_down : goal.returns-in_err-hear_down
returns-in_err-hear_down g c =
    let w = state_of c.args.self.now in
    let p = err_from_is_err_and c.from_residual.result c.from_residual.ensures.1 in
    let er : router_of (state_of c.args.self.now).routers c.args.router ≡ Some c.in-Some.r.now = search rules in
    let et : is_taken (state_of c.args.self.now) c.args.neighbour ≡ true = sym c.is_taken-is_known.ensures ∙ c.if-not-is_known.false in
    let k = kept_there (end_of (state_of c.args.self.now).ends (c.args.router, c.args.neighbour)) c.in-Some-get.end.now (search rules) in
    let s = k.0 in
    let es : end_of (state_of c.args.self.now).ends (c.args.router, c.args.neighbour) ≡ Some s = k.1 in
    let up : s.up ≡ true = ap (λ (z : KeptEnd). z.up) k.2 ∙ sym c.is_up.ensures ∙ c.if-not-is_up.false in
    let broken : s.unbroken ≡ false = ap (λ (z : KeptEnd). z.unbroken) k.2 ∙ sym c.is_unbroken.ensures ∙ c.if-is_unbroken.false in
    let l = link_found (link_to c.in-Some.r.now.node.links c.args.neighbour) c.in-Some-link_to.link c.in-Some-link_to.ensures in
    let heard : IsHeard (Err c.in_err-hear_down.field-0.0) c.in-Some.r.now c.hear_down.new.self (Down l.0.link) c.hear_down.new.out.items =
    subst (λ (z : LinkNo). IsHeard (Err c.in_err-hear_down.field-0.0) c.in-Some.r.now c.hear_down.new.self (Down z) c.hear_down.new.out.items) (sym l.2) c.in_err-hear_down.ensures in
    let lent : (c.get_mut.follows.lender c.hear_down.new.self).entries ≡ with_router c.args.self.now.routers.entries c.args.router c.hear_down.new.self = search rules in
    rw (p.1, p.2)
    (down_refused w _ c.args.line c.args.router c.args.neighbour c.in-Some.r.now c.hear_down.new.self s l.0 c.hear_down.new.out.items c.in_err-hear_down.field-0.0 er et es up broken l.1 heard
    (λ h. λ i. record {
      routers = (lent ∙ ap (with_router c.args.self.now.routers.entries c.args.router) h ∙ set_value_same (is_named c.args.router) c.args.self.now.routers.entries c.in-Some.r.now er) i;
      clients = c.args.self.now.clients.entries;
      ends = c.args.self.now.ends;
      booked = c.args.self.now.booked;
    }))

pub returns-then-not-is_known : goal.returns-then-not-is_known
returns-then-not-is_known g c =
    let w = state_of c.args.self.now in
    let er : router_of (state_of c.args.self.now).routers c.args.router ≡ Some c.in-Some.r.now = search rules in
    let et : is_taken (state_of c.args.self.now) c.args.neighbour ≡ false = sym c.is_taken-is_known.ensures ∙ c.if-not-is_known.true in
    let back : (c.get_mut.follows.lender c.in-Some.r.now).entries ≡ c.args.self.now.routers.entries = search (rules, set_value_same) in
    (down_unknown w c.args.line c.args.router c.args.neighbour c.in-Some.r.now er et, λ i. record { routers = back i; clients = c.args.self.now.clients.entries; ends = c.args.self.now.ends; booked = c.args.self.now.booked })

pub returns-in_default-get : goal.returns-in_default-get
returns-in_default-get g c =
    let w = state_of c.args.self.now in
    let er : router_of (state_of c.args.self.now).routers c.args.router ≡ Some c.in-Some.r.now = search rules in
    let et : is_taken (state_of c.args.self.now) c.args.neighbour ≡ true = sym c.is_taken-is_known.ensures ∙ c.if-not-is_known.false in
    let es : end_of (state_of c.args.self.now).ends (c.args.router, c.args.neighbour) ≡ None = none_kept (end_of (state_of c.args.self.now).ends (c.args.router, c.args.neighbour)) (search rules) in
    let back : (c.get_mut.follows.lender c.in-Some.r.now).entries ≡ c.args.self.now.routers.entries = search (rules, set_value_same) in
    (down_unlinked w c.args.line c.args.router c.args.neighbour c.in-Some.r.now er et es, λ i. record { routers = back i; clients = c.args.self.now.clients.entries; ends = c.args.self.now.ends; booked = c.args.self.now.booked })
