use Rattle.std.proofs.Common.{◌≡◌, ◌∙◌, ◌++◌, ap}
use Rattle.zr_session.specs.Session.{greeting_bytes}
use Rattle.zr_netrun_batches.proofs.Opens.{both_lead}
use Rattle.zr_netrun_batches.proofs.opening.between_routers.Goals as goal

pub new-requires : goal.new-requires
new-requires c =
    let init : c.deref.result.now ≡ greeting_bytes c.opening.result = c.deref.ensures.value ∙ c.in_ok-dialler.ensures.bytes ∙ ap (λ z. z ++ greeting_bytes c.opening.result) c.new-init.ensures.items in
    (both_lead c.packed_messages_are_read_back.ensures c.opening-2.result c.opening.result 0 c.accepting-acceptor.result c.open_both.new.acceptor c.in_ok-dialler.dialler c.open_both.new.dialler
    c.deref.result.now c.in_ok-accepts_by.accepts_by c.in_ok-accepts_by.dials_by c.in_ok-accepts_by.ensures c.opening-2.ensures.named c.opening.ensures.named c.accepting-acceptor.ensures.value
    c.in_ok-dialler.ensures.value init).0

pub new-requires-2 : goal.new-requires-2
new-requires-2 c =
    let init : c.deref.result.now ≡ greeting_bytes c.opening.result = c.deref.ensures.value ∙ c.in_ok-dialler.ensures.bytes ∙ ap (λ z. z ++ greeting_bytes c.opening.result) c.new-init.ensures.items in
    (both_lead c.packed_messages_are_read_back.ensures c.opening-2.result c.opening.result 0 c.accepting-acceptor.result c.open_both.new.acceptor c.in_ok-dialler.dialler c.open_both.new.dialler
    c.deref.result.now c.in_ok-accepts_by.accepts_by c.in_ok-accepts_by.dials_by c.in_ok-accepts_by.ensures c.opening-2.ensures.named c.opening.ensures.named c.accepting-acceptor.ensures.value
    c.in_ok-dialler.ensures.value init).1
