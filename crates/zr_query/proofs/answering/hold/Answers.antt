use Rattle.std.proofs.Common.{◌≡◌, ◌∙◌, true, cond, Option, None, ◌&&◌, ap, sym}
use Rattle.std.specs.Option.{option_map_or}
use Rattle.std.proofs.lemmas.Result.{on_ok_weaker}
use Rattle.zr_body.specs.Latest.{is_reply}
use Rattle.zr_pend_spec.specs.declared.branch.Asker.{Asker}
use Rattle.zr_pend_spec.specs.Held.{after_reply, gatherings_with, gathers_at, has_room, held_at_branch}
use Rattle.zr_pend_spec.specs.Pending.{branch}
use Rattle.zr_pend_spec.proofs.Gathered.{reply_held}
use Rattle.zr_node_spec.specs.Queries.{held_at, held_reply, link_no}
use Rattle.zr_query.proofs.answering.hold.Goals as goal

pub returns-clause-held : goal.returns-clause-held
returns-clause-held c =
    let rows = c.args.pending.now.rows in
    let held = c.args.pending.now.held in
    let reply = c.args.content.now in
    let from = branch (link_no c.args.from.0) c.args.number in
    let is : is_reply reply.body ≡ true = ap is_reply (sym c.body.ensures) ∙ sym c.is_reply.ensures ∙ c.if-not-is_reply.false in
    let at : held_at_branch rows held from reply ≡ held_at rows held c.args.from.0 c.args.number reply = ap (λ t. cond (t && has_room held reply) (gathers_at rows held from) None) (sym is) in
    let same : after_reply rows held from reply c.is_latest-later.result ≡ held_reply rows held c.args.from.0 c.args.number reply =
    reply_held rows held from reply c.is_latest-later.result c.is_latest-later.ensures.differ c.is_latest-later.ensures.later
    ∙ ap (λ (o : Option Asker). option_map_or (λ a. gatherings_with held a reply) o held) at in
    on_ok_weaker c.hold.result (λ (e : c.hold.new.self.held ≡ after_reply rows held from reply c.is_latest-later.result). e ∙ same) c.hold.ensures.held
