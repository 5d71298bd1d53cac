use Rattle.std.proofs.Common.{◌≡◌, true, false, [], Ok, Some, sym, ap, ◌∙◌, rules, arith}
use Rattle.std.proofs.lemmas.Map.Steps.{set_value_same}
use Rattle.std.proofs.lemmas.Result.{err_from_is_err_and}
use Rattle.zr_id.specs.Zid.{is_named}
use Rattle.std.specs.Prelude.{is_some, nat_le, length}
use Rattle.std.specs.Ordering.{nat_cmp}
use Rattle.std.specs.Cmp.Lexicographic.{slice_cmp}
use Rattle.std.specs.BTreeMap.{insert_entry}
use Rattle.std.proofs.lemmas.Bool.Decides.{nat_tests}
use Rattle.zr_msg.specs.Peer.{PeerState}
use Rattle.zr_msg.specs.declared.peer.Role.TheVariants as role
use Rattle.zr_world_spec.specs.World.{EndState, Ends, router_of, is_taken, most_clients, with_router, put_end, new_end, new_client, lifted}
use Rattle.zr_world_spec.specs.Acts.{up_event}
use Rattle.zr_world_spec.proofs.Ends.{sorted_put_end}
use Rattle.zr_world.specs.Hearing.{IsHeard}
use Rattle.zr_world_ends.specs.Spread.{all_queued_on}
use Rattle.zr_world.specs.State.{state_of}
use Rattle.zr_world.proofs.Events.{fresh_client}
use Rattle.zr_world.proofs.Going.{client_apart, client_alone}
use Rattle.zr_world.proofs.Moving.{hears_is, client_by}
use Rattle.zr_world.proofs.Refusing.{client_taken, client_refused}
use Rattle.zr_world.proofs.tables.WorldTables.client.Goals as goal

pub hear_up-requires : goal.hear_up-requires
hear_up-requires g c =
    let er : router_of (state_of c.args.self.now).routers c.args.router ≡ Some c.in-Some.r.now = search rules in
    let new : is_taken (state_of c.args.self.now) c.args.id ≡ false = sym c.is_taken-is_taken.ensures ∙ c.if-is_taken.false in
    fresh_client (state_of c.args.self.now) c.requires c.args.router c.in-Some.r.now er (record { id = c.args.id; role = role.Client; weight = 1 }) new

pub returns : goal.returns
returns g c =
    let w = state_of c.args.self.now in
    let r = c.in-Some.r.now in
    let r' = c.hear_up.new.self in
    let peer : PeerState = record { id = c.args.id; role = role.Client; weight = 1 } in
    let er : router_of (state_of c.args.self.now).routers c.args.router ≡ Some c.in-Some.r.now = search rules in
    let new : is_taken (state_of c.args.self.now) c.args.id ≡ false = sym c.is_taken-is_taken.ensures ∙ c.if-is_taken.false in
    let few : nat_le most_clients (length (state_of c.args.self.now).clients) ≡ false = grind (arith, nat_tests, c.len-count.ensures.len) in
    let heard : IsHeard (Ok tt) c.in-Some.r.now c.hear_up.new.self (up_event c.in-Some.r.now peer) c.hear_up.new.out.items = c.in_ok-hear_up.ensures in
    let es : Ends = put_end w.ends (c.args.router, c.args.id) (lifted (new_end 1)) in
    let put : c.put_client.new.self ≡ put_end c.args.self.now.ends (c.args.router, c.args.id) (lifted (new_end 1)) = c.in_ok-put_client.ensures in
    let spread : c.spread.new.ends ≡ all_queued_on c.hear_up.new.self.node.links es c.args.router c.hear_up.new.out.items c.args.line =
    c.in_ok-spread.ensures ∙ ap (λ (z : Ends). all_queued_on c.hear_up.new.self.node.links z c.args.router c.hear_up.new.out.items c.args.line) put in
    let lent : (c.get_mut.follows.lender c.hear_up.new.self).entries ≡ with_router c.args.self.now.routers.entries c.args.router c.hear_up.new.self = search rules in
    let clients : c.insert.new.self.entries ≡ insert_entry (slice_cmp nat_cmp) c.args.self.now.clients.entries c.args.id (new_client c.args.router) =
    c.in_ok-insert.ensures.entries ∙ ap (λ z. insert_entry (slice_cmp nat_cmp) c.args.self.now.clients.entries c.args.id z) c.new.ensures in
    client_by w c.args.line c.args.id c.args.router r er new few (Ok (record { routers = with_router w.routers c.args.router r'; clients = w.clients; ends = c.spread.new.ends; booked = w.booked }))
    (hears_is w es c.spread.new.ends c.args.router r r' (up_event r peer) c.hear_up.new.out.items c.args.line heard
    (sorted_put_end w.ends (c.args.router, c.args.id) (lifted (new_end 1)) c.requires.in_order) (c.requires.unique c.args.router r er)
    (fresh_client w c.requires c.args.router r er peer new) spread)
    ∙ (λ i. Ok ([], record { routers = sym lent i; clients = sym clients i; ends = c.spread.new.ends; booked = c.args.self.now.booked }))

pub returns-then-is_taken : goal.returns-then-is_taken
returns-then-is_taken g c =
    let w = state_of c.args.self.now in
    let er : router_of (state_of c.args.self.now).routers c.args.router ≡ Some c.in-Some.r.now = search rules in
    let et : is_taken (state_of c.args.self.now) c.args.id ≡ true = sym c.is_taken-is_taken.ensures ∙ c.if-is_taken.true in
    let back : (c.get_mut.follows.lender c.in-Some.r.now).entries ≡ c.args.self.now.routers.entries = search (rules, set_value_same) in
    (client_taken w c.args.line c.args.id c.args.router c.in-Some.r.now er et, λ i. record { routers = back i; clients = c.args.self.now.clients.entries; ends = c.args.self.now.ends; booked = c.args.self.now.booked })

pub returns-in_err-hear_up : goal.returns-in_err-hear_up
returns-in_err-hear_up g c =
    let w = state_of c.args.self.now in
    let p = err_from_is_err_and c.from_residual.result c.from_residual.ensures.1 in
    let er : router_of (state_of c.args.self.now).routers c.args.router ≡ Some c.in-Some.r.now = search rules in
    let new : is_taken (state_of c.args.self.now) c.args.id ≡ false = sym c.is_taken-is_taken.ensures ∙ c.if-is_taken.false in
    let few : nat_le most_clients (length (state_of c.args.self.now).clients) ≡ false = grind (arith, nat_tests, c.len-count.ensures.len) in
    let lent : (c.get_mut.follows.lender c.hear_up.new.self).entries ≡ with_router c.args.self.now.routers.entries c.args.router c.hear_up.new.self = search rules in
    rw (p.1, p.2)
    (client_refused w _ c.args.line c.args.id c.args.router c.in-Some.r.now c.hear_up.new.self c.hear_up.new.out.items c.in_err-hear_up.field-0.0 er new few c.in_err-hear_up.ensures
    (λ k. λ i. record {
      routers = (lent ∙ ap (with_router c.args.self.now.routers.entries c.args.router) k ∙ set_value_same (is_named c.args.router) c.args.self.now.routers.entries c.in-Some.r.now er) i;
      clients = c.args.self.now.clients.entries;
      ends = c.args.self.now.ends;
      booked = c.args.self.now.booked;
    }))

pub put_client-requires-clause-apart : goal.put_client-requires-clause-apart
put_client-requires-clause-apart g c =
    let er : router_of (state_of c.args.self.now).routers c.args.router ≡ Some c.in-Some.r.now = search rules in
    let new : is_taken (state_of c.args.self.now) c.args.id ≡ false = sym c.is_taken-is_taken.ensures ∙ c.if-is_taken.false in
    client_apart (state_of c.args.self.now) c.args.router c.args.id (ap is_some er) new

pub put_client-requires-clause-none : goal.put_client-requires-clause-none
put_client-requires-clause-none g c =
    let new : is_taken (state_of c.args.self.now) c.args.id ≡ false = sym c.is_taken-is_taken.ensures ∙ c.if-is_taken.false in
    client_alone (state_of c.args.self.now) c.args.router c.args.id c.requires new
