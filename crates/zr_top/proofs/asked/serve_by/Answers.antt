-- A write that failed is told as that, or behind a host that failed as that.
use Rattle.std.proofs.Common.{◌∙◌, ap}
use Rattle.zr_top.specs.Asked.{status_of}
use Rattle.zr_top.proofs.Branches.{served_fault}
use Rattle.zr_top.proofs.asked.serve_by.Goals as goal

pub returns-clause-write_told : goal.returns-clause-write_told
returns-clause-write_told g c = (
  λ rose. c.status_of.ensures ∙ ap status_of (c.serve_router.ensures.only.0 rose),
  λ rose. served_fault c.serve_router.result _ c.status_of.ensures (c.serve_router.ensures.only.1 rose),
)
