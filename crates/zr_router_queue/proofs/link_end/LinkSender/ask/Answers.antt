use Rattle.std.proofs.Common.{◌≡◌, ◌-◌, length, ap, ◌∙◌, sym, arith}
use Rattle.zr_ring.specs.Giver.{is_going, number, sent}
use Rattle.zr_ring.specs.Items.{end_of, ends_given}
use Rattle.zr_router_queue.specs.Note.{batches_of}
use Rattle.zr_router_queue.proofs.Batches.{none_too}
use Rattle.zr_router_queue.proofs.link_end.LinkSender.ask.Goals as goal

pub invariant_of-self-inside : goal.invariant_of-self-inside
invariant_of-self-inside c =
    let none = ap (λ e. e.queue.closed) c.self.view_is ∙ c.requires.open in
    let free = c.free-self-inside.ensures in
    let count : number c.free-self-inside.new.self ≡ number c.self.inside.giver =
    ap (λ s. length s - ends_given (is_going c.free-self-inside.new.self)) free.same.1 ∙ ap (λ b. length (sent c.self.inside.giver) - ends_given b) free.same.2 in (
      free.same.2 ∙ c.self.inside.going,
      (
        ap end_of free.same.1 ∙ c.self.inside.ended,
        (
          none_too (λ d. d.asked) (λ d. d.free) c.self.inside.closed none ∙ sym (none_too (λ d. d.asked) _ c.self.inside.closed none),
          (
            free.same.0.1 ∙ c.self.inside.slots,
            (
              count ∙ c.self.inside.numbered ∙ ap (λ s. length (batches_of s)) (sym free.same.1),
              (
                c.self.inside.counted ∙ sym count,
                (
                  sym free.kept,
                  ((omega (arith, free.answer, c.self.inside.counted, c.self.inside.small)), (c.self.inside.alike, (c.self.inside.kept, tt))),
                ),
              ),
            ),
          ),
        ),
      ),
    )
