use Rattle.std.proofs.Common.{◌≡◌, true, Some, length, ap, ◌∙◌, sym, refl}
use Rattle.zr_ring.specs.Giver.{is_going, sent}
use Rattle.zr_router_queue.proofs.Batches.{end_of_end, given_end, none_of, none_too}
use Rattle.zr_router_queue.proofs.link_end.LinkSender.close.Goals as goal

pub invariant_of-self-inside : goal.invariant_of-self-inside
invariant_of-self-inside c =
    let was : is_going c.self.inside.giver ≡ true = c.self.inside.going ∙ none_of (λ d. d.asked) c.self.inside.closed (ap (λ e. e.queue.closed) c.self.view_is ∙ c.requires.open) in
    let g = given_end c.self.inside.giver c.end.new.self (Some 0) c.args.note was c.end.ensures.same.1 c.end.ensures.given c.self.inside.numbered in
    let counted = c.self.inside.counted ∙ c.self.inside.numbered ∙ ap length (sym g.0) ∙ sym g.1 in
    let none = c.self.inside.ended ∙ none_too (λ d. d.asked) (λ d. Some 0) c.self.inside.closed (ap (λ e. e.queue.closed) c.self.view_is ∙ c.requires.open) in
    let ended = end_of_end (sent c.self.inside.giver) (sent c.end.new.self) (Some 0) c.args.note none c.end.ensures.given in
    let lacked : c.args.closing.free ≡ c.self.inside.free = c.requires.free ∙ sym (ap (λ e. e.free) c.self.view_is) in
    (c.end.ensures.same.1, (ended, (ap (λ n. Some n) lacked, (c.end.ensures.same.0.1 ∙ c.self.inside.slots, (g.1, (counted, (c.self.inside.known ∙ sym c.end.ensures.free, (c.self.inside.small, (c.self.inside.alike, (c.self.inside.kept, tt))))))))))

pub returns : goal.returns
returns c =
    let was : is_going c.self.inside.giver ≡ true = c.self.inside.going ∙ none_of (λ d. d.asked) c.self.inside.closed (ap (λ e. e.queue.closed) c.self.view_is ∙ c.requires.open) in
    let same = (given_end c.self.inside.giver c.end.new.self (Some 0) c.args.note was c.end.ensures.same.1 c.end.ensures.given c.self.inside.numbered).0 in
    rw (← c.self.view_is, same, c.end.ensures.loaded.1, c.end.ensures.same.0.0, c.end.ensures.same.0.2) refl
