use Rattle.std.proofs.Common.{◌≡◌, ◌≤◌, ◌++◌, None, length}
use Rattle.std.specs.List.{AllByRecursion}
use Rattle.zr_hist.specs.Words.{IsSamePass, seen, mine}
use Rattle.zr_router_queue.specs.Tables.{queued, with_parcels}
use Rattle.zr_router_queue.specs.Note.{FitsRing}
use Rattle.zr_router_queue.specs.Ends.{IsSameRing}
use Rattle.zr_router_queue.proofs.link_end.LinkSender.give_all.Given as goal

abbrev pub invariant-loop-bytes : goal.invariant-loop-bytes
invariant-loop-bytes l =
    IsSamePass l.fn.pass l.pass × (seen l.pass ≡ seen l.fn.pass) × (mine l.pass ≡ mine l.fn.pass)
    × (l.self.queue.closed ≡ None)
    × FitsRing l.self.ring.name l.me l.self.queue.link (seen l.fn.pass)
    × AllByRecursion (λ b. length b ≤ 65535) l.bytes-iterator.rest.items
    × (length l.bytes-iterator.rest.items ≤ l.self.free)
    × (queued l.me (seen l.fn.pass) l.self.queue.link ≡ l.self.queue.batches ++ l.bytes-iterator.rest.items)
    × (with_parcels l.self.queue (record { batches = l.bytes-iterator.rest.items; outbox = l.self.queue.outbox })
    ≡ with_parcels l.fn.self.queue (record { batches = l.fn.batches.items; outbox = l.fn.self.queue.outbox }))
    × IsSameRing l.fn.self l.self × (l.self.plan ≡ l.fn.self.plan)
