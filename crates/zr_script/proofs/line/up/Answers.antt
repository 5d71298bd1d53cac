use Rattle.std.proofs.Common.{Ok}
use Rattle.std.proofs.lemmas.Result.{err_from_is_err_and}
use Rattle.zr_script_spec.specs.declared.command.Act.TheVariants.{Up}
use Rattle.zr_script_spec.specs.declared.command.Command.TheVariants.{Act}
use Rattle.zr_script_spec.specs.Command.{up_line}
use Rattle.zr_script.proofs.line.up.Goals as goal

pub returns : goal.returns
unfolding up_line
returns c = c.in_ok-router.ensures (λ x. Ok (Act (Up x.0 x.1)))

pub returns-in_err-router : goal.returns-in_err-router
unfolding up_line
returns-in_err-router c =
    let p = err_from_is_err_and c.from_residual.result c.from_residual.ensures.1 in
    rw (p.1, p.2) (c.in_err-router.ensures (λ x. Ok (Act (Up x.0 x.1))))
