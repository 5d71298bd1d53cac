use Rattle.std.proofs.Common.{◌≡◌, [], ◌∷◌, Some, None, Ok, Err, sym, ap, ◌∙◌, subst, rules, arith}
use Rattle.std.specs.Prelude.{if◌then◌else◌}
use Rattle.std.proofs.lemmas.Grind.{common_steps}
use Rattle.std.proofs.lemmas.Map.Steps.{set_value_same}
use Rattle.std.proofs.lemmas.Result.{err_from_is_err_and}
use Rattle.zr_id.specs.Zid.{is_named}
use Rattle.zr_id.specs.declared.link.LinkNo.{LinkNo}
use Rattle.zr_msg.specs.declared.event.Event.TheVariants.{From}
use Rattle.zr_script_spec.specs.declared.error.ScriptError.TheVariants as e
use Rattle.zr_script_spec.specs.declared.report.ReportLine.TheVariants.{Handled}
use Rattle.zr_script_spec.specs.Step.{◌>>=◌}
use Rattle.zr_node_spec.specs.Tables.{link_to}
use Rattle.zr_world_spec.specs.World.{Tagged, WorldState, router_of, is_taken, with_router}
use Rattle.zr_world_spec.specs.Acts.{handle_step}
use Rattle.zr_world_ends.specs.Steps.{from_wire}
use Rattle.zr_world.specs.Hearing.{IsHeard}
use Rattle.zr_world_ends.specs.Spread.{all_queued_on}
use Rattle.zr_world.specs.Living.{lines_of}
use Rattle.zr_world.specs.State.{state_of}
use Rattle.zr_world.proofs.Events.{has_link, known, down_there, link_found, no_link_found}
use Rattle.zr_world.proofs.Moving.{hears_is, handle_by, handle_unlinked, handled_by, handle_refused, wire_ordered, unlinked_is, applied, ran_out, no_lines}
use Rattle.zr_world.proofs.Going.{handle_taken, heard_spent}
use Rattle.zr_world.proofs.tables.WorldTables.handle.Goals as goal

pub returns-in_default : goal.returns-in_default
unfolding handle_step
returns-in_default g c = first_of (search rules, grind (arith, common_steps))

pub returns-in_default-link_to : goal.returns-in_default-link_to
returns-in_default-link_to g c =
    let w = state_of c.args.self.now in
    let er : router_of (state_of c.args.self.now).routers c.args.router ≡ Some c.in-Some.r.now = search rules in
    let back : (c.get_mut.follows.lender c.in-Some.r.now).entries ≡ c.args.self.now.routers.entries = search (rules, set_value_same) in
    let none : link_to c.in-Some.r.now.node.links c.args.from ≡ None = no_link_found (link_to c.in-Some.r.now.node.links c.args.from) (search rules) in
    let same : record { routers = (c.get_mut.follows.lender c.in-Some.r.now).entries; clients = c.args.self.now.clients.entries; ends = c.args.self.now.ends; booked = c.args.self.now.booked } ≡ state_of c.args.self.now =
    (λ i. record { routers = back i; clients = c.args.self.now.clients.entries; ends = c.args.self.now.ends; booked = c.args.self.now.booked }) in
    unlinked_is (is_taken w c.args.from) c.unlinked.result (handle_step w c.args.router c.args.from) w _ c.args.report.now.items
    (c.unlinked.ensures ∙ ap (λ (z : WorldState). if is_taken z c.args.from then e.NotLinked else e.UnknownName) same)
    (handle_unlinked w c.args.router c.args.from c.in-Some.r.now er (down_there w c.requires.sound c.args.router c.in-Some.r.now er c.args.from none)) same

pub returns-in_err-x : goal.returns-in_err-x
returns-in_err-x g c =
    let w = state_of c.args.self.now in
    let p = err_from_is_err_and c.from_residual.result c.from_residual.ensures.1 in
    let er : router_of (state_of c.args.self.now).routers c.args.router ≡ Some c.in-Some.r.now = search rules in
    let back : (c.get_mut.follows.lender c.in-Some.r.now).entries ≡ c.args.self.now.routers.entries = search (rules, set_value_same) in
    let l = link_found (link_to c.in-Some.r.now.node.links c.args.from) c.in-Some-link_to.link c.in-Some-link_to.ensures in
    rw (p.1, p.2)
    (handle_refused w _ c.args.router c.args.from c.in-Some.r.now l.0 _ _ c.args.report.now.items er (known w c.requires.sound c.args.router c.in-Some.r.now er c.args.from l.0 l.1) l.1 c.in_err-x.ensures
    (λ h. λ i. record { routers = back i; clients = c.args.self.now.clients.entries; ends = h i; booked = c.args.self.now.booked }))

pub hear_message-requires : goal.hear_message-requires
hear_message-requires g c =
    let w = state_of c.args.self.now in
    let er : router_of (state_of c.args.self.now).routers c.args.router ≡ Some c.in-Some.r.now = search rules in
    let l = link_found (link_to c.in-Some.r.now.node.links c.args.from) c.in-Some-link_to.link c.in-Some-link_to.ensures in
    rw (← l.2) (has_link w c.requires.sound c.args.router c.in-Some.r.now er c.args.from l.0 l.1)

pub returns-in_err-msg : goal.returns-in_err-msg
returns-in_err-msg g c =
    let w = state_of c.args.self.now in
    let p = err_from_is_err_and c.from_residual-in_err-msg.result c.from_residual-in_err-msg.ensures.1 in
    let er : router_of (state_of c.args.self.now).routers c.args.router ≡ Some c.in-Some.r.now = search rules in
    let l = link_found (link_to c.in-Some.r.now.node.links c.args.from) c.in-Some-link_to.link c.in-Some-link_to.ensures in
    let heard : IsHeard (Err c.in_err-msg.field-0.0) c.in-Some.r.now c.hear_message.new.router (From l.0.link c.in_ok-x.x.msg) c.hear_message.new.out.items =
    subst (λ (z : LinkNo). IsHeard (Err c.in_err-msg.field-0.0) c.in-Some.r.now c.hear_message.new.router (From z c.in_ok-x.x.msg) c.hear_message.new.out.items) (sym l.2) c.in_err-msg.ensures in
    let spent = heard_spent c.in-Some.r.now c.hear_message.new.router l.0.link c.in_ok-x.x.msg c.hear_message.new.out.items c.in_err-msg.field-0.0 heard
    (handle_taken w c.args.router c.args.from c.in-Some.r.now l.0 (c.in_ok-x.x, c.next_sent.new.self) c.requires er l.1 c.in_ok-x.ensures) in
    ran_out c.from_residual-in_err-msg.result (handle_step w c.args.router c.args.from) w _ c.args.report.now.items c.args.report.now.items (p.1 ∙ ap Err (p.2 ∙ spent))
    (no_lines c.args.report.now.items (lines_of (handle_step w c.args.router c.args.from)))

pub returns-in_err-spread : goal.returns-in_err-spread
returns-in_err-spread g c =
    let w = state_of c.args.self.now in
    let p = err_from_is_err_and c.from_residual-in_err-spread.result c.from_residual-in_err-spread.ensures.1 in
    ran_out c.from_residual-in_err-spread.result (handle_step w c.args.router c.args.from) w _ c.args.report.now.items c.args.report.now.items (p.1 ∙ ap Err p.2)
    (no_lines c.args.report.now.items (lines_of (handle_step w c.args.router c.args.from)))

pub returns-in_err-push : goal.returns-in_err-push
returns-in_err-push g c =
    let w = state_of c.args.self.now in
    let p = err_from_is_err_and c.from_residual-in_err-push.result c.from_residual-in_err-push.ensures.1 in
    ran_out c.from_residual-in_err-push.result (handle_step w c.args.router c.args.from) w _ c.args.report.now.items c.push.new.self.items (p.1 ∙ ap Err p.2)
    (rw c.in_err-push.ensures.items (no_lines c.args.report.now.items (lines_of (handle_step w c.args.router c.args.from))))

pub returns : goal.returns
returns g c =
    let w = state_of c.args.self.now in
    let r = c.in-Some.r.now in
    let r' = c.hear_message.new.router in
    let er : router_of (state_of c.args.self.now).routers c.args.router ≡ Some c.in-Some.r.now = search rules in
    let l = link_found (link_to c.in-Some.r.now.node.links c.args.from) c.in-Some-link_to.link c.in-Some-link_to.ensures in
    let et = known w c.requires.sound c.args.router r er c.args.from l.0 l.1 in
    let x : Tagged = c.in_ok-x.x in
    let told : from_wire c.args.self.now.ends (c.args.router, c.args.from) ≡ Ok (c.in_ok-x.x, c.next_sent.new.self) = c.in_ok-x.ensures in
    let tag : c.x.inside.tag ≡ c.in_ok-x.x.tag = ap (λ (z : Tagged). z.tag) c.x.view_is in
    let back : c.in_ok-msg.msg ≡ c.in_ok-x.x.msg = c.in_ok-msg.ensures.0 in
    let heard : IsHeard (Ok tt) c.in-Some.r.now c.hear_message.new.router (From l.0.link c.in_ok-x.x.msg) c.hear_message.new.out.items =
    subst (λ (z : LinkNo). IsHeard (Ok tt) c.in-Some.r.now c.hear_message.new.router (From z c.in_ok-x.x.msg) c.hear_message.new.out.items) (sym l.2) c.in_ok-msg.ensures.1 in
    let spread : c.spread.new.ends ≡ all_queued_on c.hear_message.new.router.node.links c.next_sent.new.self c.args.router c.hear_message.new.out.items c.in_ok-x.x.tag =
    c.in_ok-spread.ensures ∙ (λ i. all_queued_on c.hear_message.new.router.node.links c.next_sent.new.self c.args.router c.hear_message.new.out.items (tag i)) in
    let lent : (c.get_mut.follows.lender c.hear_message.new.router).entries ≡ with_router c.args.self.now.routers.entries c.args.router c.hear_message.new.router = search rules in
    applied (handle_step w c.args.router c.args.from) (Handled c.args.router c.args.from c.in_ok-msg.msg c.x.inside.tag ∷ []) w
    (record { routers = (c.get_mut.follows.lender c.hear_message.new.router).entries; clients = c.args.self.now.clients.entries; ends = c.spread.new.ends; booked = c.args.self.now.booked })
    c.args.report.now.items c.push.new.self.items
    (handle_by w c.args.router c.args.from r l.0 er et l.1 ∙ ap (λ o. o >>= handled_by w c.args.router c.args.from r l.0.link) told
    ∙ ap (λ v. v >>= (λ v. Ok (Handled c.args.router c.args.from x.msg x.tag ∷ [], v)))
    (hears_is w c.next_sent.new.self c.spread.new.ends c.args.router r r' (From l.0.link x.msg) c.hear_message.new.out.items x.tag heard
    (wire_ordered w.ends (c.args.router, c.args.from) (x, c.next_sent.new.self) told c.requires.sound.in_order) (c.requires.sound.unique c.args.router r er)
    (has_link w c.requires.sound c.args.router r er c.args.from l.0 l.1) spread)
    ∙ (λ i. Ok (
      Handled c.args.router c.args.from (sym back i) (sym tag i) ∷ [],
      record { routers = sym lent i; clients = c.args.self.now.clients.entries; ends = c.spread.new.ends; booked = c.args.self.now.booked },
    )))
    c.in_ok-push.ensures.items
