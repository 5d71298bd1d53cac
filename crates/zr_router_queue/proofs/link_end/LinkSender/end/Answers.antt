use Rattle.std.proofs.Common.{◌≡◌, not, true, false, Some, ap, sym, ◌∙◌}
use Rattle.std.specs.Prelude.{is_some}
use Rattle.zr_ring.specs.Giver.{is_going, sent}
use Rattle.zr_ring.specs.Items.{end_of}
use Rattle.zr_router_queue.specs.Note.{batches_of, full_reason}
use Rattle.zr_router_queue.specs.Ends.{last_reason}
use Rattle.zr_router_queue.proofs.Batches.{end_of_end, given_end, is_none_of, map_none, map_some}
use Rattle.zr_router_queue.proofs.link_end.LinkSender.end.Goals.{then-is_none, else-is_none}
use Rattle.zr_router_queue.proofs.link_end.LinkSender.end.Goals as goal

pub returns-clause-given : goal.returns-clause-given
returns-clause-given c =
    let same = ap (λ e. e.queue.batches) c.self.view_is in
    elim c.if-is_none.branch [
      | then-is_none w ↦
          let none : is_some c.self.inside.closed ≡ false = c.is_none.ensures ∙ ap not w.if-is_none.true in
          let was : is_going c.self.inside.giver ≡ true = c.self.inside.going ∙ is_none_of c.self.inside.closed none in
          ap (λ g. batches_of (sent g)) w.giver-is
          ∙ (given_end c.self.inside.giver w.end.new.self c.args.reason c.args.note was w.end.ensures.same.1 w.end.ensures.given c.self.inside.numbered).0
          ∙ same
      | else-is_none w ↦ ap (λ g. batches_of (sent g)) w.giver-is ∙ same
    ]

pub returns-clause-ended : goal.returns-clause-ended
returns-clause-ended c =
    let closed = ap (λ e. Some (last_reason e.queue.closed c.args.reason)) c.self.view_is in
    elim c.if-is_none.branch [
      | then-is_none w ↦
          let none : is_some c.self.inside.closed ≡ false = c.is_none.ensures ∙ ap not w.if-is_none.true in
          ap (λ g. end_of (sent g)) w.giver-is
          ∙ end_of_end (sent c.self.inside.giver) (sent w.end.new.self) c.args.reason c.args.note
          (c.self.inside.ended ∙ map_none (λ d. Some full_reason) c.self.inside.closed none) w.end.ensures.given
          ∙ ap (λ o. Some (last_reason o c.args.reason)) (sym (map_none (λ d. d.asked) c.self.inside.closed none)) ∙ closed
      | else-is_none w ↦
          ap (λ g. end_of (sent g)) w.giver-is ∙ c.self.inside.ended
          ∙ map_some (λ d. d.asked) c.self.inside.closed c.args.reason (c.is_none.ensures ∙ ap not w.if-is_none.false) ∙ closed
    ]
