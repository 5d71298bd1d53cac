use Rattle.std.proofs.Common.{◌≡◌, ◌∙◌, ◌++◌, ap, sym, subst}
use Rattle.zr_msg.specs.declared.peer.Role.TheVariants.{Router}
use Rattle.zr_open.specs.Sizes.{usual}
use Rattle.zr_open.specs.Table.{outbox_of}
use Rattle.zr_session.specs.declared.phase.Phase.TheVariants.{Established}
use Rattle.zr_session.specs.Session.{SessionState, owed_bytes}
use Rattle.zr_session.specs.Step.{established}
use Rattle.zr_netrun_batches.specs.Opening.{Stands, TakesBatch, accepted, caller, host}
use Rattle.zr_netrun_batches.proofs.Batch.{confirmed_stands}
use Rattle.zr_netrun_batches.proofs.Opens.{routers_open}
use Rattle.zr_netrun_batches.proofs.opening.open_both.Goals as goal

pub returns : goal.returns
returns c a d a_is d_is acc_at new dial_at init_is =
    let one = c.in_ok-init_answer.ensures in
    let two = c.in_ok-open.ensures in
    let three = c.in_ok-accepts_by.ensures in
    let four = c.in_ok-dials_by.ensures in
    let init_answer = c.in_ok-init_answer.init_answer.items in
    let opens = c.in_ok-open.open.items in
    let acc1 : SessionState = c.answer_to.new.session in
    let acc2 : SessionState = c.opened_by.new.session in
    let dial1 : SessionState = c.answer_to-2.new.session in
    let dial2 : SessionState = c.opened_by-2.new.session in
    let reply : c.deref-3.result.now ≡ owed_bytes acc2 = c.deref-3.ensures.value ∙ c.in_ok-confirm.ensures.ok.1 ∙ ap (λ z. z ++ owed_bytes acc2) c.new-open_answer.ensures.items in
    let second : TakesBatch c.args.dialler.now dial1 init_answer two.0 opens = subst (λ z. TakesBatch c.args.dialler.now dial1 z two.0 opens) c.deref.ensures.value two.1 in
    let third : TakesBatch acc1 acc2 opens three.0 three.1 = subst (λ z. TakesBatch acc1 acc2 z three.0 three.1) c.deref-2.ensures.value three.2 in
    let k = routers_open a d c.args.acceptor.now acc1 acc2 c.args.dialler.now dial1 dial2 c.args.init.now init_answer opens three.1 c.deref-3.result.now four.1 one.0 two.0 three.0 four.0
    a_is d_is acc_at new dial_at init_is one.1 second third reply four.2 in (
      subst (λ (z : SessionState). Stands z a (Established (established (accepted a d)))) (sym c.in_ok-confirm.ensures.ok.0)
          (confirmed_stands acc2 a (Established (established (accepted a d))) k.0),
      k.1,
      three.3 (caller a d) (outbox_of a Router usual) k.2,
      four.3 (host a d) (outbox_of d Router usual) k.3,
    )
