use Rattle.std.proofs.Common.{rules, Ok, Err, ◌∙◌}
use Rattle.std.specs.Prelude.{if◌then◌else◌}
use Rattle.std.proofs.lemmas.Result.{err_from_is_err_and}
use Rattle.zr_id.specs.Zid.{is_named}
use Rattle.zr_script_spec.specs.declared.command.Act.TheVariants.{Link}
use Rattle.zr_script_spec.specs.declared.command.Command.TheVariants.{Act}
use Rattle.zr_script_spec.specs.declared.error.ScriptError.TheVariants.{BadWords}
use Rattle.zr_script_spec.specs.Command.{link_line}
use Rattle.zr_script.proofs.line.link.Goals as goal

pub returns : goal.returns
unfolding link_line
returns c = c.in_ok-one.ensures (λ x. if is_named x.0 x.1 then Err BadWords else Ok (Act (Link x.0 x.1 x.2))) ∙ search rules

pub returns-then-eq : goal.returns-then-eq
unfolding link_line
returns-then-eq c = c.in_ok-one.ensures (λ x. if is_named x.0 x.1 then Err BadWords else Ok (Act (Link x.0 x.1 x.2))) ∙ search rules

pub returns-in_err-one : goal.returns-in_err-one
unfolding link_line
returns-in_err-one c =
    let p = err_from_is_err_and c.from_residual.result c.from_residual.ensures.1 in
    rw (p.1, p.2) (c.in_err-one.ensures (λ x. if is_named x.0 x.1 then Err BadWords else Ok (Act (Link x.0 x.1 x.2))))
