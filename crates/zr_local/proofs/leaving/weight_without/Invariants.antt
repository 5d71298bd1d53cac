use Rattle.std.proofs.Common.{◌≡◌, ◌+◌, ◌-◌, drop}
use Rattle.zr_local.specs.Owners.{on_link}
use Rattle.zr_local.specs.Rows.{weight_of}
use Rattle.zr_local.proofs.leaving.weight_without.Given as goal

abbrev pub invariant-loop-row : goal.invariant-loop-row
invariant-loop-row l = l.held ≡ (l.fn.held - weight_of (on_link l.fn.rows l.link.0)) + weight_of (on_link (drop l.row-index l.rows) l.link.0)
