use Rattle.std.proofs.Common.{Ok}
use Rattle.std.proofs.lemmas.Result.{err_from_is_err_and}
use Rattle.zr_script_spec.specs.declared.command.Act.TheVariants.{Untoken}
use Rattle.zr_script_spec.specs.declared.command.Command.TheVariants.{Act}
use Rattle.zr_script_spec.specs.Command.{untoken_line}
use Rattle.zr_script.proofs.line.untoken.Goals as goal

pub returns : goal.returns
unfolding untoken_line
returns c = c.in_ok-client.ensures (λ x. Ok (Act (Untoken x.0 x.1)))

pub returns-in_err-client : goal.returns-in_err-client
unfolding untoken_line
returns-in_err-client c =
    let p = err_from_is_err_and c.from_residual.result c.from_residual.ensures.1 in
    rw (p.1, p.2) (c.in_err-client.ensures (λ x. Ok (Act (Untoken x.0 x.1))))
