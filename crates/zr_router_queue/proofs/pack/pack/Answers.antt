use Rattle.std.proofs.Common.{◌≡◌, ◌≤◌, ◌∷◌, [], length, subst, sym}
use Rattle.std.specs.List.{AllByRecursion}
use Rattle.std.proofs.lemmas.Result.{IfOk-weaker}
use Rattle.zr_frame_pack.specs.Packing.{parcels_of}
use Rattle.zr_router_queue.specs.Batches.{batches_in}
use Rattle.zr_router_queue.proofs.Plans.{short_packed}
use Rattle.zr_router_queue.proofs.pack.pack.Goals as goal

pub returns-in-Some-clause-short : goal.returns-in-Some-clause-short
returns-in-Some-clause-short c =
    let o = c.args.outbox.now in
    let messages = c.in-Some.msg.now ∷ [] in
    IfOk-weaker c.pack_one.result (λ b. batches_in b ≡ (parcels_of o messages).batches) _
    (λ b same. subst (λ l. AllByRecursion (λ x. length x ≤ 65535) l) (sym same) (short_packed o messages c.batch-batch.ensures.valid)) c.pack_one.ensures.batches
