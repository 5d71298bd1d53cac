use Rattle.std.proofs.Common.{sym, subst}
use Rattle.std.proofs.lemmas.Result.{IfOk-weaker}
use Rattle.zr_world_gang.specs.Turns.{AllHaveDone}
use Rattle.zr_fan.specs.Parts.{all_of}
use Rattle.zr_fan.proofs.Given.{all_given}
use Rattle.zr_fan.proofs.threaded.run.Goals as goal

pub returns : goal.returns
returns g c = IfOk-weaker c.gather.result _ _
    (λ v h. subst (λ z. AllHaveDone c.args.turn (all_of c.args.parts.items) z) (sym h.1)
    (all_given c.args.turn c.args.parts.items c.in_ok-done.done.items c.in_ok-done.ensures.len c.in_ok-done.ensures.each h.0)) c.gather.ensures
