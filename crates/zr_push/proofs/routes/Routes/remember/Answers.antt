use Rattle.std.proofs.Common.{ℕ, List, sym, ap, ◌∙◌}
use Rattle.zr_push.specs.Route.{route_of}
use Rattle.zr_push.proofs.Remembering.{put_right}
use Rattle.zr_push.proofs.routes.Routes.remember.Goals as goal

pub returns : goal.returns
returns c = λ t right is.
    put_right t c.make_room.new.self.known c.insert.new.self _ _ c.in_ok-insert.ensures.updates (c.make_room.ensures.right t right)
    (is ∙ ap (λ (key : List ℕ). route_of t c.args.tree c.args.sought key) (sym c.in_ok-key.ensures))
