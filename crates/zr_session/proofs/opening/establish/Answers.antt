use Rattle.std.proofs.Common.{◌∙◌, ap, sym}
use Rattle.zr_session.specs.declared.phase.Phase.TheVariants.{Established}
use Rattle.zr_session.specs.Step.{established}
use Rattle.zr_session.proofs.opening.establish.Goals as goal

pub returns-in-Ok : goal.returns-in-Ok
returns-in-Ok c expected was =
    let given = c.in-Ok.ensures.steps (Established (established c.args.opened.now)) in
    (given.0, ap Established (sym c.in_ok-session.ensures) ∙ sym c.enter.ensures, given.2)

pub returns-in-Err : goal.returns-in-Err
returns-in-Err c expected was = let lost = c.in-Err.ensures.memory in rw lost.0 lost.1
