use Rattle.std.proofs.Common.{◌≡◌, ◌<◌, ◌∷◌, [], true, length, option_map, ap, subst, ◌∙◌, sym, arith}
use Rattle.zr_hist.specs.Words.{seen}
use Rattle.zr_ring.specs.Giver.{is_going, sent}
use Rattle.zr_ring.specs.Items.{end_of}
use Rattle.zr_ring.proofs.Items.{end_of_one}
use Rattle.zr_frame_pack.specs.Marks.{at_mark}
use Rattle.zr_router_queue.specs.Ends.{EndState}
use Rattle.zr_router_queue.specs.Note.{FitsRing}
use Rattle.zr_router_queue.specs.Tables.{with_parcels}
use Rattle.zr_router_queue.proofs.Batches.{given_more, none_of, none_too, stands_next}
use Rattle.zr_router_queue.proofs.link_end.LinkSender.give_one.Goals as goal

-- the list that the pass has seen queues the batch at its place
pub invariant_of-give_one-clause-vouched : goal.invariant_of-give_one-clause-vouched
invariant_of-give_one-clause-vouched c =
    let next = c.requires.queued in
    let note = c.note-note.ensures.note in
    rw (note.0, note.1, note.2)
    (stands_next _ c.args.self.now.queue.batches c.args.bytes next.0 c.self.inside.place next.1
    (c.self.inside.counted ∙ c.self.inside.numbered ∙ ap (λ (e : EndState). length e.queue.batches) c.self.view_is))

pub invariant_of-self-inside : goal.invariant_of-self-inside
invariant_of-self-inside c =
    let none = ap (λ e. e.queue.closed) c.self.view_is ∙ c.requires.open in
    let was : is_going c.self.inside.giver ≡ true = c.self.inside.going ∙ none_of (λ d. d.asked) c.self.inside.closed none in
    let given = c.give_one.ensures in
    let more = given_more c.self.inside.giver c.give_one.new.self _ was given.same.1 given.given c.self.inside.numbered in
    let room : 0 < c.self.inside.free = subst (λ n. 0 < n) (ap (λ e. e.free) (sym c.self.view_is)) c.requires.room in (
      given.same.1 ∙ sym was ∙ c.self.inside.going,
      (
        ap end_of given.given ∙ end_of_one (sent c.self.inside.giver) _ ∙ c.self.inside.ended,
        (
          none_too (λ d. d.asked) (λ d. d.free) c.self.inside.closed none ∙ sym (none_too (λ d. d.asked) _ c.self.inside.closed none),
          (
            given.same.0.1 ∙ c.self.inside.slots,
            (
              more.1,
              (
                (omega (arith, more.2, c.self.inside.counted)),
                (
                  (omega (arith, given.free, c.self.inside.known)),
                  ((omega (arith, c.self.inside.small, room)), (c.self.inside.alike, (c.self.inside.kept, tt))),
                ),
              ),
            ),
          ),
        ),
      ),
    )

-- the batch stands behind those that were there
pub returns-clause-queue : goal.returns-clause-queue
returns-clause-queue c =
    let none = ap (λ e. e.queue.closed) c.self.view_is ∙ c.requires.open in
    let was : is_going c.self.inside.giver ≡ true = c.self.inside.going ∙ none_of (λ d. d.asked) c.self.inside.closed none in
    let given = c.give_one.ensures in
    let more = given_more c.self.inside.giver c.give_one.new.self _ was given.same.1 given.given c.self.inside.numbered in
    ap (λ bs. record { link = c.self.inside.link; role = c.self.inside.role; is_up = true; outbox = at_mark c.self.inside.outbox c.self.inside.mark; batches = bs; closed = option_map (λ d. d.asked) c.self.inside.closed })
    more.0
    ∙ ap (λ e. with_parcels e.queue (record { batches = c.args.bytes ∷ []; outbox = e.queue.outbox })) c.self.view_is

pub give_one-requires-clause-fits : goal.give_one-requires-clause-fits
give_one-requires-clause-fits c =
    let note = c.note-note.ensures.note in
    let here = subst (λ (e : EndState). FitsRing e.ring.name c.args.me c.args.self.now.queue.link (seen c.args.pass.now)) (sym c.self.view_is) c.requires.fits in
    rw (note.0, note.1, note.2) here
