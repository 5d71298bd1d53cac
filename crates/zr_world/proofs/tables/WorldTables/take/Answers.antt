use Rattle.std.proofs.Common.{◌≡◌, [], ◌∷◌, Ok, Err, sym, ap, ◌∙◌}
use Rattle.std.proofs.lemmas.Result.{err_from_is_err_and}
use Rattle.zr_script_spec.specs.declared.report.ReportLine.TheVariants.{Taken}
use Rattle.zr_script_spec.specs.Step.{◌>>=◌}
use Rattle.zr_world_spec.specs.World.{Tagged, router_of, client_of, changed, sent}
use Rattle.zr_world_spec.specs.Acts.{received, take_step}
use Rattle.zr_world_spec.proofs.Keyed.{there}
use Rattle.zr_world_ends.specs.Steps.{from_queue}
use Rattle.zr_world.specs.Living.{lines_of}
use Rattle.zr_world.specs.State.{state_of}
use Rattle.zr_world.proofs.Going.{take_goes}
use Rattle.zr_world.proofs.Moving.{take_by, taken_by, take_refused, queue_there, applied, ran_out, no_lines}
use Rattle.zr_world.proofs.Passing.{no_end_of_others}
use Rattle.zr_world.proofs.tables.WorldTables.take.Goals as goal

pub returns-in-Err : goal.returns-in-Err
returns-in-Err g c =
    take_refused (state_of c.args.self.now) _ c.args.router c.args.to c.in-Err.e c.refusal_of.result c.next_queued.new.self c.args.report.now.items c.refusal_of.ensures c.in-Err.ensures.steps
    (λ h. λ i. record { routers = c.args.self.now.routers.entries; clients = c.args.self.now.clients.entries; ends = h i; booked = c.args.self.now.booked })

pub returns-in_err-push : goal.returns-in_err-push
returns-in_err-push g c =
    let w = state_of c.args.self.now in
    let p = err_from_is_err_and c.from_residual-in_err-push.result c.from_residual-in_err-push.ensures.1 in
    ran_out c.from_residual-in_err-push.result (take_step w c.args.router c.args.to) w _ c.args.report.now.items c.push.new.self.items (p.1 ∙ ap Err p.2)
    (rw c.in_err-push.ensures.items (no_lines c.args.report.now.items (lines_of (take_step w c.args.router c.args.to))))

pub returns : goal.returns
returns g c =
    let w = state_of c.args.self.now in
    let x : Tagged = record { msg = c.x.inside.msg; tag = c.x.inside.tag } in
    let told : from_queue c.args.self.now.ends (c.args.router, c.args.to) ≡ Ok (x, c.next_queued.new.self) =
    c.in-Ok.ensures.steps ∙ ap (λ (z : Tagged). Ok (z, c.next_queued.new.self)) (sym c.x.view_is) in
    let end = queue_there w.ends (c.args.router, c.args.to) (x, c.next_queued.new.self) told in
    let r = there (router_of w.routers c.args.router) (c.requires.sound.routers c.args.router c.args.to end) in
    let ends : changed c.next_queued.new.self (c.args.to, c.args.router) (λ s. sent s x.msg x.tag) ≡ c.deliver.new.ends = sym c.in_ok-deliver.ensures.wire in
    let clients : received w.clients c.args.to x.msg (client_of w.clients c.args.to) ≡ c.deliver.new.clients.entries = sym c.in_ok-deliver.ensures.client in
    applied (take_step w c.args.router c.args.to) (Taken c.args.router c.args.to x.msg x.tag ∷ []) w
    (record { routers = c.args.self.now.routers.entries; clients = c.deliver.new.clients.entries; ends = c.deliver.new.ends; booked = c.args.self.now.booked })
    c.args.report.now.items c.push.new.self.items
    (take_by w c.args.router c.args.to r.0 r.1 (c.requires.sound.neighbours c.args.router c.args.to end) ∙ ap (λ o. o >>= taken_by w c.args.router c.args.to) told
    ∙ (λ i. Ok (
      Taken c.args.router c.args.to x.msg x.tag ∷ [],
      record { routers = c.args.self.now.routers.entries; clients = clients i; ends = ends i; booked = c.args.self.now.booked },
    )))
    c.in_ok-push.ensures.items

pub deliver-requires-clause-client : goal.deliver-requires-clause-client
deliver-requires-clause-client g c = λ other.
    let x : Tagged = record { msg = c.x.inside.msg; tag = c.x.inside.tag } in
    let told : from_queue c.args.self.now.ends (c.args.router, c.args.to) ≡ Ok (x, c.next_queued.new.self) =
    c.in-Ok.ensures.steps ∙ ap (λ (z : Tagged). Ok (z, c.next_queued.new.self)) (sym c.x.view_is) in
    no_end_of_others (state_of c.args.self.now) (c.args.router, c.args.to) c.args.to c.args.router (x, c.next_queued.new.self) c.requires.sound told (sym c.is_router-is_router.ensures ∙ other)

pub deliver-requires-clause-router : goal.deliver-requires-clause-router
deliver-requires-clause-router g c = λ router.
    let x : Tagged = record { msg = c.x.inside.msg; tag = c.x.inside.tag } in
    let told : from_queue c.args.self.now.ends (c.args.router, c.args.to) ≡ Ok (x, c.next_queued.new.self) =
    c.in-Ok.ensures.steps ∙ ap (λ (z : Tagged). Ok (z, c.next_queued.new.self)) (sym c.x.view_is) in
    take_goes (state_of c.args.self.now) c.args.router c.args.to (x, c.next_queued.new.self) c.requires told c.in-Ok.ensures.paired (sym c.is_router-is_router.ensures ∙ router)
