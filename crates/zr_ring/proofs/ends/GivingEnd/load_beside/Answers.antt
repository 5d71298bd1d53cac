use Rattle.std.proofs.Common.{rules, ap, ◌∙◌}
use Rattle.zr_ring.proofs.Keeping.{splits_giver, joins_giver, loads_given_beside, loads_taken_beside}
use Rattle.zr_ring.proofs.ends.GivingEnd.load_beside.Goals as goal

pub split_seat-piece-requires : goal.split_seat-piece-requires
split_seat-piece-requires g c = (search rules, search rules, splits_giver _ _ _ (ap (λ d. d.giver.is_here) c.args.self.now.knows))

pub join_seat-requires : goal.join_seat-requires
join_seat-requires g c = (
  search rules,
  search rules,
  search rules,
  search rules,
  joins_giver _ _ _ _ _ (ap (λ m. m.0.giver.is_here) c.split_seat-piece.ensures.4 ∙ ap (λ d. d.giver.is_here) c.args.self.now.knows),
)

pub load-requires : goal.load-requires
load-requires g c =
    let now = ap (λ m. m.0) c.join_seat.ensures.2 in (
      search rules,
      search rules,
      loads_given_beside _ _ _ _
          (ap (λ d. d.giver.is_here) now ∙ ap (λ m. m.0.giver.is_here) c.split_seat-piece.ensures.4 ∙ ap (λ d. d.giver.is_here) c.args.self.now.knows)
          (ap (λ d. d.taker.is_here) now ∙ ap (λ m. m.0.taker.is_here) c.args.other.now.knows),
    )

pub load-taken-requires : goal.load-taken-requires
load-taken-requires g c =
    let now = ap (λ m. m.0) c.join_seat.ensures.2 in
    let is_here = ap (λ d. d.giver.is_here) now ∙ ap (λ m. m.0.giver.is_here) c.split_seat-piece.ensures.4 ∙ ap (λ d. d.giver.is_here) c.args.self.now.knows in
    let then = c.load.ensures.2.0 in
    (search rules, search rules, loads_taken_beside _ _ _ _ (ap (λ d. d.giver.is_here) then ∙ is_here) (ap (λ d. d.taker.is_here) then))

pub split_seat-piece-requires-2 : goal.split_seat-piece-requires-2
split_seat-piece-requires-2 g c = (search rules, search rules, splits_giver _ _ _ (ap (λ d. d.giver.is_here) c.load-taken.ensures.2.0))

pub join_seat-requires-2 : goal.join_seat-requires-2
join_seat-requires-2 g c = (
  search rules,
  search rules,
  search rules,
  search rules,
  joins_giver _ _ _ _ _ (ap (λ m. m.0.giver.is_here) c.split_seat-piece-2.ensures.4 ∙ ap (λ d. d.giver.is_here) c.load-taken.ensures.2.0),
)
