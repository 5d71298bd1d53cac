use Rattle.std.proofs.Common.{◌∙◌, [], length, ap, sym}
use Rattle.std.specs.Vec.Iter.{into_iter_items}
use Rattle.zr_port.specs.Coming.{sight}
use Rattle.zr_admin.proofs.Stepping.{due}
use Rattle.zr_admin.proofs.admin.answer_all.Goals as goal

pub returns-in-Ok-deliver_each-clause-answers : goal.returns-in-Ok-deliver_each-clause-answers
returns-in-Ok-deliver_each-clause-answers g c =
    due c.args.link (λ h m e. g.P.Port.refuses_message c.args.port.now h c.args.link m e) (λ h. g.P.Glancing.glance_of c.args.port.now h) c.args.id c.args.requests.now
    (into_iter_items c.into_iter.result) [] c.replies_among-replies.result (sight c.args.pass.now) (sight c.answers_now.new.pass) (sight c.deliver_each.new.pass)
    c.answers_now.ensures.looked (c.into_iter.ensures.rest ∙ c.in-Ok.ensures.answers) c.in-Ok-deliver_each.ensures.all (ap length c.into_iter.ensures.rest ∙ c.in-Ok.ensures.count)
    (c.replies_among-replies.ensures ∙ ap length (c.as_slice.ensures.value ∙ sym c.into_iter.ensures.rest))

pub returns-in-Err-clause-answers : goal.returns-in-Err-clause-answers
returns-in-Err-clause-answers g c =
    let stopped = c.in-Err.ensures.stopped in (
      stopped.0,
      c.replies_among-replies.result,
      due c.args.link (λ h m e. g.P.Port.refuses_message c.args.port.now h c.args.link m e) (λ h. g.P.Glancing.glance_of c.args.port.now h) c.args.id c.args.requests.now
          (into_iter_items c.into_iter.result) stopped.0 c.replies_among-replies.result (sight c.args.pass.now) (sight c.answers_now.new.pass) (sight c.deliver_each.new.pass)
          c.answers_now.ensures.looked (c.into_iter.ensures.rest ∙ c.in-Ok.ensures.answers) stopped.1 (ap length c.into_iter.ensures.rest ∙ c.in-Ok.ensures.count)
          (c.replies_among-replies.ensures ∙ ap length (c.as_slice.ensures.value ∙ sym c.into_iter.ensures.rest)),
      stopped.2,
    )
