use Rattle.std.proofs.Common.{sym, ◌∙◌}
use Rattle.zr_push.proofs.Remembering.{found_right}
use Rattle.zr_push.proofs.routes.Routes.find.Goals as goal

pub returns-then-is_of : goal.returns-then-is_of
returns-then-is_of c = λ t right.
    found_right t c.args.self.now.known c.number_of.result c.in_ok-found.found.now c.args.tree c.args.sought c.args.key.now c.in_ok-found.ensures.value (sym c.is_of.ensures ∙ c.if-is_of.true) right
