use Rattle.std.proofs.Common.{◌∙◌, refl, [], ◌∷◌}
use Rattle.rand_core.specs.Stream.{Stream}
use Rattle.zr_make.specs.Script.{all_samples, run_line}
use Rattle.zr_outside.proofs.Counting.{only_stopped}
use Rattle.zr_make.specs.declared.error.MakeError.TheVariants as e
use Rattle.zr_make.proofs.Joining.{made_no_more, made_stopped, prefix_then}
use Rattle.zr_make.proofs.writing.write_traffic.Goals as goal

pub returns-in_err-write_samples-clause-made : goal.returns-in_err-write_samples-clause-made
returns-in_err-write_samples-clause-made g c =
    let drawn : Stream = g.R.Rng.stream c.args.rng.now in
    made_stopped c.from_residual.result _ _ _ c.from_residual.ensures.0
    (made_no_more (all_samples drawn c.args.clients c.args.messages) _ _ _ c.in_err-write_samples.ensures.made)

pub returns-in_err-write_all-clause-made : goal.returns-in_err-write_all-clause-made
returns-in_err-write_all-clause-made g c =
    let drawn : Stream = g.R.Rng.stream c.args.rng.now in
    made_stopped c.from_residual-in_err-write_all.result _ _ _ c.from_residual-in_err-write_all.ensures.0
    (prefix_then (all_samples drawn c.args.clients c.args.messages) (run_line ∷ []) _ _ _ c.in_ok-write_samples.ensures.made c.in_err-write_all.ensures.err)

pub returns-in_err-write_samples-clause-only : goal.returns-in_err-write_samples-clause-only
returns-in_err-write_samples-clause-only g c = only_stopped e.WriteFault c.from_residual.result c.in_err-write_samples.field-0.0 _ _ _ c.from_residual.ensures.1 refl c.in_err-write_samples.ensures.only

pub returns-clause-only : goal.returns-clause-only
returns-clause-only g c = c.in_ok-write_all.ensures.quiet ∙ c.in_ok-write_samples.ensures.only
