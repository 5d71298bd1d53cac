use Rattle.std.proofs.Common.{◌≡◌, ◌++◌, ◌∷◌, [], drop, sym, ◌∙◌}
use Rattle.std.specs.Prelude.{IfSome}
use Rattle.std.proofs.lemmas.Result.{IfOk-weaker}
use Rattle.zr_frame.specs.Packing.{one_parcel, parcels}
use Rattle.zr_router_queue.proofs.Fronts.{framed_alone, numbered_front, whole_front}
use Rattle.zr_router_queue.proofs.pack.in_frame.Goals as goal

pub returns-in_ok-from-in-Some-clause-some : goal.returns-in_ok-from-in-Some-clause-some
returns-in_ok-from-in-Some-clause-some c =
    let o = c.args.outbox.now in
    let m = c.args.msg.now in
    let front = c.number-in-Some.new.self.front.items in
    let from = c.in_ok-from-in-Some.from in
    let here = numbered_front o.names m c.in-Some.number front from (sym c.in-Some.ensures) c.in_ok-from-in-Some.ensures.front c.in_ok-from-in-Some.ensures.whole in
    IfOk-weaker c.behind_head.result (λ r. IfSome r (λ b. parcels o ((front ++ drop from c.args.bytes.now) ∷ []) ≡ one_parcel o b)) _
    (λ r h. framed_alone o m front c.args.bytes.now from c.requires here.1 r h) c.behind_head.ensures.some

pub returns-else-gives_number-clause-some : goal.returns-else-gives_number-clause-some
returns-else-gives_number-clause-some c =
    let o = c.args.outbox.now in
    let m = c.args.msg.now in
    let front = c.clear.new.self.items in
    let here = whole_front o.names m front (sym c.in-None.ensures) (sym c.gives_number.ensures ∙ c.if-gives_number.false) c.clear.ensures.items in
    IfOk-weaker c.behind_head-in-None.result (λ r. IfSome r (λ b. parcels o ((front ++ drop 0 c.args.bytes.now) ∷ []) ≡ one_parcel o b)) _
    (λ r h. framed_alone o m front c.args.bytes.now 0 c.requires here r h) c.behind_head-in-None.ensures.some
