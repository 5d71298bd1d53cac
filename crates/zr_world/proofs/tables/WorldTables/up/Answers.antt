use Rattle.std.proofs.Common.{◌≡◌, true, false, [], Ok, Err, Some, None, sym, ap, ◌∙◌, subst, rules}
use Rattle.std.specs.Prelude.{is_some}
use Rattle.std.specs.Option.{option_map_or}
use Rattle.std.proofs.lemmas.Map.Steps.{set_value_same}
use Rattle.std.proofs.lemmas.Result.{err_from_is_err_and}
use Rattle.zr_id.specs.Zid.{is_named}
use Rattle.zr_msg.specs.Peer.{PeerState}
use Rattle.zr_world_spec.specs.World.{Ends, router_of, is_taken, end_of, with_end, with_router, is_up, lifted}
use Rattle.zr_world_spec.specs.Acts.{up_event, peer_of}
use Rattle.zr_world_ends.specs.Steps.{changed_at}
use Rattle.zr_world.specs.Hearing.{IsHeard}
use Rattle.zr_world_ends.specs.Spread.{all_queued_on}
use Rattle.zr_world_ends.specs.Kept.{KeptEnd}
use Rattle.zr_world.specs.State.{state_of}
use Rattle.zr_world.proofs.Events.{fresh}
use Rattle.zr_world.proofs.Kept.{kept_there, none_kept}
use Rattle.zr_world.proofs.Moving.{hears_is, up_by, ordered_with}
use Rattle.zr_world.proofs.Refusing.{up_unknown, up_unlinked, up_broken, up_twice, up_refused}
use Rattle.zr_world.proofs.tables.WorldTables.up.Goals as goal

pub hear_up-requires : goal.hear_up-requires
hear_up-requires g c =
    let w = state_of c.args.self.now in
    let er : router_of (state_of c.args.self.now).routers c.args.router ≡ Some c.in-Some.r.now = search rules in
    let k = kept_there (end_of (state_of c.args.self.now).ends (c.args.router, c.args.neighbour)) c.in-Some-get.end.now (search rules) in
    let s = k.0 in
    let es : end_of (state_of c.args.self.now).ends (c.args.router, c.args.neighbour) ≡ Some s = k.1 in
    let down : is_up (state_of c.args.self.now).ends (c.args.router, c.args.neighbour) ≡ false = ap (λ o. option_map_or (λ s. s.up) o false) es ∙ ap (λ (z : KeptEnd). z.up) k.2 ∙ sym c.is_up.ensures ∙ c.if-is_up.false in
    rw c.peer_of-peer.ensures
    (fresh w c.requires c.args.router c.in-Some.r.now er (peer_of w c.args.neighbour c.weight_at-weight.result) down (c.requires.apart c.args.router c.args.neighbour (ap is_some es)))

pub returns : goal.returns
returns g c =
    let w = state_of c.args.self.now in
    let r = c.in-Some.r.now in
    let r' = c.hear_up.new.self in
    let er : router_of (state_of c.args.self.now).routers c.args.router ≡ Some c.in-Some.r.now = search rules in
    let et : is_taken (state_of c.args.self.now) c.args.neighbour ≡ true = sym c.is_taken-is_known.ensures ∙ c.if-not-is_known.false in
    let k = kept_there (end_of (state_of c.args.self.now).ends (c.args.router, c.args.neighbour)) c.in-Some-get.end.now (search rules) in
    let s = k.0 in
    let es : end_of (state_of c.args.self.now).ends (c.args.router, c.args.neighbour) ≡ Some s = k.1 in
    let unbroken : s.unbroken ≡ true = ap (λ (z : KeptEnd). z.unbroken) k.2 ∙ sym c.is_unbroken.ensures ∙ c.if-not-is_unbroken.false in
    let up : s.up ≡ false = ap (λ (z : KeptEnd). z.up) k.2 ∙ sym c.is_up.ensures ∙ c.if-is_up.false in
    let down : is_up (state_of c.args.self.now).ends (c.args.router, c.args.neighbour) ≡ false = ap (λ o. option_map_or (λ s. s.up) o false) es ∙ up in
    let same : c.peer_of-peer.result ≡ peer_of w c.args.neighbour s.weight =
    c.peer_of-peer.ensures ∙ ap (peer_of w c.args.neighbour) (c.weight_at-weight.ensures s es) in
    let heard : IsHeard (Ok tt) c.in-Some.r.now c.hear_up.new.self (up_event c.in-Some.r.now (peer_of w c.args.neighbour s.weight)) c.hear_up.new.out.items =
    subst (λ (z : PeerState). IsHeard (Ok tt) c.in-Some.r.now c.hear_up.new.self (up_event c.in-Some.r.now z) c.hear_up.new.out.items) same c.in_ok-hear_up.ensures in
    let ends : Ends = with_end w.ends (c.args.router, c.args.neighbour) (lifted s) in
    let lift : c.lift.new.self ≡ with_end c.args.self.now.ends (c.args.router, c.args.neighbour) (lifted s) =
    c.lift.ensures ∙ ap (λ o. changed_at c.args.self.now.ends (c.args.router, c.args.neighbour) lifted o) es in
    let spread : c.spread.new.ends ≡ all_queued_on c.hear_up.new.self.node.links ends c.args.router c.hear_up.new.out.items c.args.line =
    c.in_ok-spread.ensures ∙ ap (λ (z : Ends). all_queued_on c.hear_up.new.self.node.links z c.args.router c.hear_up.new.out.items c.args.line) lift in
    let lent : (c.get_mut.follows.lender c.hear_up.new.self).entries ≡ with_router c.args.self.now.routers.entries c.args.router c.hear_up.new.self = search rules in
    up_by w c.args.line c.args.router c.args.neighbour r s er et es unbroken up (Ok (record { routers = with_router w.routers c.args.router r'; clients = w.clients; ends = c.spread.new.ends; booked = w.booked }))
    (hears_is w ends c.spread.new.ends c.args.router r r' (up_event r (peer_of w c.args.neighbour s.weight)) c.hear_up.new.out.items c.args.line heard
    (ordered_with w.ends (c.args.router, c.args.neighbour) (lifted s) c.requires.in_order) (c.requires.unique c.args.router r er)
    (fresh w c.requires c.args.router r er (peer_of w c.args.neighbour s.weight) down (c.requires.apart c.args.router c.args.neighbour (ap is_some es))) spread)
    ∙ (λ i. Ok ([], record { routers = sym lent i; clients = c.args.self.now.clients.entries; ends = c.spread.new.ends; booked = c.args.self.now.booked }))

pub returns-in_err-hear_up : goal.returns-in_err-hear_up
returns-in_err-hear_up g c =
    let w = state_of c.args.self.now in
    let p = err_from_is_err_and c.from_residual.result c.from_residual.ensures.1 in
    let er : router_of (state_of c.args.self.now).routers c.args.router ≡ Some c.in-Some.r.now = search rules in
    let et : is_taken (state_of c.args.self.now) c.args.neighbour ≡ true = sym c.is_taken-is_known.ensures ∙ c.if-not-is_known.false in
    let k = kept_there (end_of (state_of c.args.self.now).ends (c.args.router, c.args.neighbour)) c.in-Some-get.end.now (search rules) in
    let s = k.0 in
    let es : end_of (state_of c.args.self.now).ends (c.args.router, c.args.neighbour) ≡ Some s = k.1 in
    let unbroken : s.unbroken ≡ true = ap (λ (z : KeptEnd). z.unbroken) k.2 ∙ sym c.is_unbroken.ensures ∙ c.if-not-is_unbroken.false in
    let up : s.up ≡ false = ap (λ (z : KeptEnd). z.up) k.2 ∙ sym c.is_up.ensures ∙ c.if-is_up.false in
    let same : c.peer_of-peer.result ≡ peer_of w c.args.neighbour s.weight =
    c.peer_of-peer.ensures ∙ ap (peer_of w c.args.neighbour) (c.weight_at-weight.ensures s es) in
    let heard : IsHeard (Err c.in_err-hear_up.field-0.0) c.in-Some.r.now c.hear_up.new.self (up_event c.in-Some.r.now (peer_of w c.args.neighbour s.weight)) c.hear_up.new.out.items =
    subst (λ (z : PeerState). IsHeard (Err c.in_err-hear_up.field-0.0) c.in-Some.r.now c.hear_up.new.self (up_event c.in-Some.r.now z) c.hear_up.new.out.items) same c.in_err-hear_up.ensures in
    let lent : (c.get_mut.follows.lender c.hear_up.new.self).entries ≡ with_router c.args.self.now.routers.entries c.args.router c.hear_up.new.self = search rules in
    rw (p.1, p.2)
    (up_refused w _ c.args.line c.args.router c.args.neighbour c.in-Some.r.now c.hear_up.new.self s c.hear_up.new.out.items c.in_err-hear_up.field-0.0 er et es unbroken up heard
    (λ h. λ i. record {
      routers = (lent ∙ ap (with_router c.args.self.now.routers.entries c.args.router) h ∙ set_value_same (is_named c.args.router) c.args.self.now.routers.entries c.in-Some.r.now er) i;
      clients = c.args.self.now.clients.entries;
      ends = c.args.self.now.ends;
      booked = c.args.self.now.booked;
    }))

pub returns-then-not-is_known : goal.returns-then-not-is_known
returns-then-not-is_known g c =
    let w = state_of c.args.self.now in
    let er : router_of (state_of c.args.self.now).routers c.args.router ≡ Some c.in-Some.r.now = search rules in
    let et : is_taken (state_of c.args.self.now) c.args.neighbour ≡ false = sym c.is_taken-is_known.ensures ∙ c.if-not-is_known.true in
    let back : (c.get_mut.follows.lender c.in-Some.r.now).entries ≡ c.args.self.now.routers.entries = search (rules, set_value_same) in
    (up_unknown w c.args.line c.args.router c.args.neighbour c.in-Some.r.now er et, λ i. record { routers = back i; clients = c.args.self.now.clients.entries; ends = c.args.self.now.ends; booked = c.args.self.now.booked })

pub returns-in_default-get : goal.returns-in_default-get
returns-in_default-get g c =
    let w = state_of c.args.self.now in
    let er : router_of (state_of c.args.self.now).routers c.args.router ≡ Some c.in-Some.r.now = search rules in
    let et : is_taken (state_of c.args.self.now) c.args.neighbour ≡ true = sym c.is_taken-is_known.ensures ∙ c.if-not-is_known.false in
    let es : end_of (state_of c.args.self.now).ends (c.args.router, c.args.neighbour) ≡ None = none_kept (end_of (state_of c.args.self.now).ends (c.args.router, c.args.neighbour)) (search rules) in
    let back : (c.get_mut.follows.lender c.in-Some.r.now).entries ≡ c.args.self.now.routers.entries = search (rules, set_value_same) in
    (up_unlinked w c.args.line c.args.router c.args.neighbour c.in-Some.r.now er et es, λ i. record { routers = back i; clients = c.args.self.now.clients.entries; ends = c.args.self.now.ends; booked = c.args.self.now.booked })

pub returns-then-not-is_unbroken : goal.returns-then-not-is_unbroken
returns-then-not-is_unbroken g c =
    let w = state_of c.args.self.now in
    let er : router_of (state_of c.args.self.now).routers c.args.router ≡ Some c.in-Some.r.now = search rules in
    let et : is_taken (state_of c.args.self.now) c.args.neighbour ≡ true = sym c.is_taken-is_known.ensures ∙ c.if-not-is_known.false in
    let k = kept_there (end_of (state_of c.args.self.now).ends (c.args.router, c.args.neighbour)) c.in-Some-get.end.now (search rules) in
    let s = k.0 in
    let es : end_of (state_of c.args.self.now).ends (c.args.router, c.args.neighbour) ≡ Some s = k.1 in
    let back : (c.get_mut.follows.lender c.in-Some.r.now).entries ≡ c.args.self.now.routers.entries = search (rules, set_value_same) in
    (up_broken w c.args.line c.args.router c.args.neighbour c.in-Some.r.now s er et es (ap (λ (z : KeptEnd). z.unbroken) k.2 ∙ sym c.is_unbroken.ensures ∙ c.if-not-is_unbroken.true), λ i. record { routers = back i; clients = c.args.self.now.clients.entries; ends = c.args.self.now.ends; booked = c.args.self.now.booked })

pub returns-then-is_up : goal.returns-then-is_up
returns-then-is_up g c =
    let w = state_of c.args.self.now in
    let er : router_of (state_of c.args.self.now).routers c.args.router ≡ Some c.in-Some.r.now = search rules in
    let et : is_taken (state_of c.args.self.now) c.args.neighbour ≡ true = sym c.is_taken-is_known.ensures ∙ c.if-not-is_known.false in
    let k = kept_there (end_of (state_of c.args.self.now).ends (c.args.router, c.args.neighbour)) c.in-Some-get.end.now (search rules) in
    let s = k.0 in
    let es : end_of (state_of c.args.self.now).ends (c.args.router, c.args.neighbour) ≡ Some s = k.1 in
    let back : (c.get_mut.follows.lender c.in-Some.r.now).entries ≡ c.args.self.now.routers.entries = search (rules, set_value_same) in
    (up_twice w c.args.line c.args.router c.args.neighbour c.in-Some.r.now s er et es (ap (λ (z : KeptEnd). z.unbroken) k.2 ∙ sym c.is_unbroken.ensures ∙ c.if-not-is_unbroken.false) (ap (λ (z : KeptEnd). z.up) k.2 ∙ sym c.is_up.ensures ∙ c.if-is_up.true), λ i. record { routers = back i; clients = c.args.self.now.clients.entries; ends = c.args.self.now.ends; booked = c.args.self.now.booked })
