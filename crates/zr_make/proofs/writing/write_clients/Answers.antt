use Rattle.std.proofs.Common.{◌∙◌, ◌+◌, ◌*◌, arith}
use Rattle.rand_core.specs.Stream.{Stream}
use Rattle.zr_make.specs.Draws.{pick}
use Rattle.zr_make.specs.Script.{client_lines}
use Rattle.zr_outside.proofs.Counting.{only_stopped}
use Rattle.zr_make.specs.declared.error.MakeError.TheVariants as e
use Rattle.zr_make.proofs.Joining.{item_made, item_stopped, made_stopped, drawn_more, client_is}
use Rattle.zr_make.proofs.writing.write_clients.Goals as goal

pub returns-in_err-write_client-clause-made : goal.returns-in_err-write_client-clause-made
returns-in_err-write_client-clause-made g c =
    let drawn : Stream = g.R.Rng.stream c.args.rng.now in
    made_stopped c.from_residual.result _ _ _ c.from_residual.ensures.0
    (item_stopped (λ i. client_lines (i + 1) (1 + pick drawn (3 * i) c.args.routers) (pick drawn (3 * i + 1) 4) (pick drawn (3 * i + 2) 8)) c.loop-index.index c.args.count _ _ _ _ (omega arith) (client_is _ drawn c.args.routers c.loop-index.index c.loop-index.invariant.drawn) c.loop-index.invariant.made c.in_err-write_client.ensures.made)

pub loop-index-preserved : goal.loop-index-preserved
loop-index-preserved g c =
    let drawn : Stream = g.R.Rng.stream c.args.rng.now in
    record {
      made = item_made (λ i. client_lines (i + 1) (1 + pick drawn (3 * i) c.args.routers) (pick drawn (3 * i + 1) 4) (pick drawn (3 * i + 2) 8)) c.loop-index.index _ _ _ _ (client_is _ drawn c.args.routers c.loop-index.index c.loop-index.invariant.drawn) c.loop-index.invariant.made c.in_ok-write_client.ensures.made;
      drawn = drawn_more _ _ drawn (3 * c.loop-index.index) 3 (3 * (c.loop-index.index + 1)) c.loop-index.invariant.drawn c.in_ok-write_client.ensures.drawn (omega arith);
      quiet = c.in_ok-write_client.ensures.only ∙ c.loop-index.invariant.quiet;
    }

pub returns-in_err-write_client-clause-only : goal.returns-in_err-write_client-clause-only
returns-in_err-write_client-clause-only g c =
    only_stopped e.WriteFault c.from_residual.result c.in_err-write_client.field-0.0 _ _ _ c.from_residual.ensures.1 c.loop-index.invariant.quiet c.in_err-write_client.ensures.only
