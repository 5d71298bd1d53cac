-- Those so far, and those among the records that are left.
use Rattle.std.proofs.Common.{◌≡◌, ◌++◌, drop}
use Rattle.zr_router_glance.specs.Glance.{other_ids}
use Rattle.zr_router_glance.proofs.glancing.others_of.Given as goal

abbrev pub invariant-loop-links : goal.invariant-loop-links
invariant-loop-links l = l.others.items ++ other_ids l.me (drop l.links-index l.records) ≡ other_ids l.me l.records
