use Rattle.std.proofs.Common.{◌∙◌, ◌+◌, [], ◌∷◌, arith, refl}
use Rattle.zr_make.specs.Script.{router_line}
use Rattle.zr_outside.proofs.Counting.{only_stopped}
use Rattle.zr_make.specs.declared.error.MakeError.TheVariants as e
use Rattle.zr_make.proofs.Joining.{item_made, item_stopped, made_stopped}
use Rattle.zr_make.proofs.writing.write_routers.Goals as goal

pub returns-in_err-write_router-clause-made : goal.returns-in_err-write_router-clause-made
returns-in_err-write_router-clause-made g c =
    made_stopped c.from_residual.result _ _ _ c.from_residual.ensures.0
    (item_stopped (λ i. router_line (i + 1) ∷ []) c.loop-index.index c.args.count (router_line (c.loop-index.index + 1) ∷ []) _ _ _ (omega arith) refl c.loop-index.invariant.made c.in_err-write_router.ensures.made)

pub loop-index-preserved : goal.loop-index-preserved
loop-index-preserved g c =
    record {
      made = item_made (λ i. router_line (i + 1) ∷ []) c.loop-index.index (router_line (c.loop-index.index + 1) ∷ []) _ _ _ refl c.loop-index.invariant.made c.in_ok-write_router.ensures.made;
      quiet = c.in_ok-write_router.ensures.only ∙ c.loop-index.invariant.quiet;
    }

pub returns-in_err-write_router-clause-only : goal.returns-in_err-write_router-clause-only
returns-in_err-write_router-clause-only g c =
    only_stopped e.WriteFault c.from_residual.result c.in_err-write_router.field-0.0 _ _ _ c.from_residual.ensures.1 c.loop-index.invariant.quiet c.in_err-write_router.ensures.only
