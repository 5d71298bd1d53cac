use Rattle.std.proofs.Common.{Ok}
use Rattle.std.proofs.lemmas.Result.{err_from_is_err_and}
use Rattle.zr_script_spec.specs.declared.command.Act.TheVariants.{Client}
use Rattle.zr_script_spec.specs.declared.command.Command.TheVariants.{Act}
use Rattle.zr_script_spec.specs.Command.{client_line}
use Rattle.zr_script.proofs.line.client.Goals as goal

pub returns : goal.returns
unfolding client_line
returns c = c.in_ok-id.ensures (λ x. Ok (Act (Client x.0 x.1)))

pub returns-in_err-id : goal.returns-in_err-id
unfolding client_line
returns-in_err-id c =
    let p = err_from_is_err_and c.from_residual.result c.from_residual.ensures.1 in
    rw (p.1, p.2) (c.in_err-id.ensures (λ x. Ok (Act (Client x.0 x.1))))
