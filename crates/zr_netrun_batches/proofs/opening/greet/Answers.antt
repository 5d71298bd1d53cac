use Rattle.std.proofs.Common.{◌≡◌, ◌∙◌, ap, Some, true, false}
use Rattle.zr_frame_batch.specs.Framing.{framed}
use Rattle.zr_id.specs.Zid.{is_zid}
use Rattle.zr_trans.specs.declared.trans.Trans.TheVariants.{Open}
use Rattle.zr_trans.specs.Writing.{writes_trans}
use Rattle.zr_open.specs.Cookie.{cookie_of}
use Rattle.zr_session.specs.Session.{SessionState}
use Rattle.zr_netrun_batches.specs.Opening.{client_init, open_of}
use Rattle.zr_netrun_batches.proofs.Opens.{client_greeted, client_opens}
use Rattle.zr_netrun_batches.proofs.opening.greet.Goals as goal

pub returns : goal.returns
returns c a a_is acc_at =
    let one = c.in_ok-init_answer.ensures in
    let two = c.in_ok-answer_to.ensures in
    let init_answer = c.in_ok-init_answer.init_answer.items in
    let acc1 : SessionState = c.answer_to.new.session in
    let acc2 : SessionState = c.answer_to-2.new.session in
    let named : is_zid c.args.client ≡ true = c.bytes-named.ensures.valid in
    let init : c.deref.result.now ≡ framed (writes_trans (client_init c.args.client)) = c.deref.ensures.value ∙ c.in_ok-batch_of.ensures in
    let greeted = client_greeted a c.args.client c.args.acceptor.now acc1 c.deref.result.now init_answer one.0 a_is named acc_at init one.1 in
    let cookie : c.in_ok-cookie_in.field-0 ≡ cookie_of a c.args.client =
    c.in_ok-cookie_in.ensures.cookie a c.args.client (c.deref-2.ensures.value ∙ greeted.1) greeted.2 in
    let open_is : c.deref-3.result.now ≡ framed (writes_trans (open_of 0 a c.args.client)) =
    c.deref-3.ensures.value ∙ c.in_ok-batch_of-2.ensures ∙ ap (λ k. framed (writes_trans (Open false true 10 0 (Some k)))) cookie in
    client_opens a c.args.client acc1 acc2 c.deref-3.result.now c.in_ok-answer_to.field-0.items two.0 greeted.0 open_is two.1
