use Rattle.std.proofs.Common.{◌∙◌, ◌+◌, ◌*◌, [], ◌∷◌, arith}
use Rattle.rand_core.specs.Stream.{Stream}
use Rattle.zr_make.specs.Draws.{pick}
use Rattle.zr_make.specs.Script.{sample_line}
use Rattle.zr_outside.proofs.Counting.{only_stopped}
use Rattle.zr_make.specs.declared.error.MakeError.TheVariants as e
use Rattle.zr_make.proofs.Joining.{item_made, item_stopped, made_stopped, drawn_more, sample_is}
use Rattle.zr_make.proofs.writing.write_samples.Goals as goal

pub returns-in_err-write_sample-clause-made : goal.returns-in_err-write_sample-clause-made
returns-in_err-write_sample-clause-made g c =
    let drawn : Stream = g.R.Rng.stream c.args.rng.now in
    made_stopped c.from_residual.result _ _ _ c.from_residual.ensures.0
    (item_stopped (λ i. sample_line (1 + pick drawn (2 * i) c.args.clients) (pick drawn (2 * i + 1) 8) (i + 1) ∷ []) c.loop-index.index c.args.count _ _ _ _ (omega arith) (sample_is _ drawn c.args.clients c.loop-index.index c.loop-index.invariant.drawn) c.loop-index.invariant.made c.in_err-write_sample.ensures.made)

pub loop-index-preserved : goal.loop-index-preserved
loop-index-preserved g c =
    let drawn : Stream = g.R.Rng.stream c.args.rng.now in
    record {
      made = item_made (λ i. sample_line (1 + pick drawn (2 * i) c.args.clients) (pick drawn (2 * i + 1) 8) (i + 1) ∷ []) c.loop-index.index _ _ _ _ (sample_is _ drawn c.args.clients c.loop-index.index c.loop-index.invariant.drawn) c.loop-index.invariant.made c.in_ok-write_sample.ensures.made;
      drawn = drawn_more _ _ drawn (2 * c.loop-index.index) 2 (2 * (c.loop-index.index + 1)) c.loop-index.invariant.drawn c.in_ok-write_sample.ensures.drawn (omega arith);
      quiet = c.in_ok-write_sample.ensures.only ∙ c.loop-index.invariant.quiet;
    }

pub returns-in_err-write_sample-clause-only : goal.returns-in_err-write_sample-clause-only
returns-in_err-write_sample-clause-only g c =
    only_stopped e.WriteFault c.from_residual.result c.in_err-write_sample.field-0.0 _ _ _ c.from_residual.ensures.1 c.loop-index.invariant.quiet c.in_err-write_sample.ensures.only
