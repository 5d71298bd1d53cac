-- The plan that is there is given batch by batch, and the queue's outbox stands behind it.
use Rattle.std.proofs.Common.{◌≡◌, ◌≤◌, ◌++◌, ◌∷◌, [], Some, None, length, option_map, ap, subst, sym, ◌∙◌, arith}
use Rattle.zr_hist.specs.Words.{seen}
use Rattle.zr_ring.specs.Giver.{sent}
use Rattle.zr_router_queue.specs.Batches.{batches_in}
use Rattle.zr_router_queue.specs.Note.{FitsRing, batches_of}
use Rattle.zr_router_queue.specs.Ends.{EndState}
use Rattle.zr_router_queue.specs.Planned.{planned}
use Rattle.zr_router_queue.specs.Tables.{queued}
use Rattle.zr_router_queue.proofs.Planning.{none_there, plan_given, plan_is, plan_so, outbox_is}
use Rattle.zr_router_queue.proofs.link_end.LinkSender.give_plan.Goals as goal

pub returns-in_default-clause-queue : goal.returns-in_default-clause-queue
returns-in_default-clause-queue c =
    let none : c.self.inside.plan ≡ None = cc in
    none_there c.args.self.now.plan _ (sym (ap (λ (e : EndState). e.plan) c.self.view_is) ∙ ap (λ k. option_map (planned c.self.inside.outbox) k) none)

pub give_one-requires-clause-room : goal.give_one-requires-clause-room
give_one-requires-clause-room c =
    let o = c.self.inside.outbox in
    let kept : c.self.inside.plan ≡ Some c.in-Some.plan = cc in
    let there = sym (ap (λ (e : EndState). e.plan) c.self.view_is) ∙ plan_is o c.self.inside.plan c.in-Some.plan kept in
    let room = plan_so c.args.self.now.plan (planned o c.in-Some.plan) (λ p. length p.parcels.batches ≤ c.args.self.now.free) there c.requires.room in
    omega (arith, room, ap (λ b. length (batches_in b)) c.in-One.is, ap (λ (e : EndState). e.free) c.self.view_is)

pub give_one-requires-clause-queued : goal.give_one-requires-clause-queued
give_one-requires-clause-queued c =
    let o = c.self.inside.outbox in
    let kept : c.self.inside.plan ≡ Some c.in-Some.plan = cc in
    let there = sym (ap (λ (e : EndState). e.plan) c.self.view_is) ∙ plan_is o c.self.inside.plan c.in-Some.plan kept in
    let next = plan_so c.args.self.now.plan (planned o c.in-Some.plan)
    (λ p. queued c.args.me (seen c.args.pass.now) c.args.self.now.queue.link ≡ c.args.self.now.queue.batches ++ p.parcels.batches) there c.requires.queued in
    let here = subst (λ (e : EndState). queued c.args.me (seen c.args.pass.now) e.queue.link ≡ e.queue.batches ++ batches_in c.in-Some.plan.batches) (sym c.self.view_is) next in
    ([], subst (λ b. queued c.args.me (seen c.args.pass.now) c.self.inside.link ≡ batches_of (sent c.self.inside.giver) ++ batches_in b) c.in-One.is here)

pub give_all-requires-clause-room : goal.give_all-requires-clause-room
give_all-requires-clause-room c =
    let o = c.self.inside.outbox in
    let kept : c.self.inside.plan ≡ Some c.in-Some.plan = cc in
    let there = sym (ap (λ (e : EndState). e.plan) c.self.view_is) ∙ plan_is o c.self.inside.plan c.in-Some.plan kept in
    let room = plan_so c.args.self.now.plan (planned o c.in-Some.plan) (λ p. length p.parcels.batches ≤ c.args.self.now.free) there c.requires.room in
    omega (arith, room, ap (λ b. length (batches_in b)) c.in-Several.is, ap (λ (e : EndState). e.free) c.self.view_is)

pub give_all-requires-clause-queued : goal.give_all-requires-clause-queued
give_all-requires-clause-queued c =
    let o = c.self.inside.outbox in
    let kept : c.self.inside.plan ≡ Some c.in-Some.plan = cc in
    let there = sym (ap (λ (e : EndState). e.plan) c.self.view_is) ∙ plan_is o c.self.inside.plan c.in-Some.plan kept in
    let next = plan_so c.args.self.now.plan (planned o c.in-Some.plan)
    (λ p. queued c.args.me (seen c.args.pass.now) c.args.self.now.queue.link ≡ c.args.self.now.queue.batches ++ p.parcels.batches) there c.requires.queued in
    let here = subst (λ (e : EndState). queued c.args.me (seen c.args.pass.now) e.queue.link ≡ e.queue.batches ++ batches_in c.in-Some.plan.batches) (sym c.self.view_is) next in
    subst (λ b. queued c.args.me (seen c.args.pass.now) c.self.inside.link ≡ batches_of (sent c.self.inside.giver) ++ batches_in b) c.in-Several.is here

pub returns-in-One-clause-queue : goal.returns-in-One-clause-queue
returns-in-One-clause-queue c =
    let o = c.self.inside.outbox in
    let kept : c.self.inside.plan ≡ Some c.in-Some.plan = cc in
    let there = sym (ap (λ (e : EndState). e.plan) c.self.view_is) ∙ plan_is o c.self.inside.plan c.in-Some.plan kept in
    plan_given c.args.self.now.queue _ c.give_one.new.self.queue o (c.in-One.bytes ∷ []) c.args.self.now.plan (planned o c.in-Some.plan) there
    (ap (λ b. record { batches = batches_in b; outbox = o }) c.in-One.is)
    (outbox_is _ _ _ _ (ap (λ (e : EndState). e.queue) c.self.view_is) c.mark-self-inside.ensures.outbox)
    c.give_one.ensures.queue

pub returns-in-Several-clause-queue : goal.returns-in-Several-clause-queue
returns-in-Several-clause-queue c =
    let o = c.self.inside.outbox in
    let kept : c.self.inside.plan ≡ Some c.in-Some.plan = cc in
    let there = sym (ap (λ (e : EndState). e.plan) c.self.view_is) ∙ plan_is o c.self.inside.plan c.in-Some.plan kept in
    plan_given c.args.self.now.queue _ c.give_all.new.self.queue o c.in-Several.batches.items c.args.self.now.plan (planned o c.in-Some.plan) there
    (ap (λ b. record { batches = batches_in b; outbox = o }) c.in-Several.is)
    (outbox_is _ _ _ _ (ap (λ (e : EndState). e.queue) c.self.view_is) c.mark-self-inside.ensures.outbox)
    c.give_all.ensures.queue

pub give_one-requires-clause-fits : goal.give_one-requires-clause-fits
give_one-requires-clause-fits c = subst (λ (e : EndState). FitsRing e.ring.name c.args.me e.queue.link (seen c.args.pass.now)) (sym c.self.view_is) c.requires.fits

pub give_all-requires-clause-fits : goal.give_all-requires-clause-fits
give_all-requires-clause-fits c = subst (λ (e : EndState). FitsRing e.ring.name c.args.me e.queue.link (seen c.args.pass.now)) (sym c.self.view_is) c.requires.fits
