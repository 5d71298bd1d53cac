use Rattle.std.proofs.Common.{nat_lt, rules}
use Rattle.std.proofs.lemmas.List.Sorted.{IsPartitionPoint-from_clause, IsPartitionedBy-ltb}
use Rattle.zr_local.specs.declared.row.Row.{Row}
use Rattle.zr_push_sought.proofs.Rows.{links_rise}
use Rattle.zr_push_sought.proofs.client_rows.first_on.Goals as goal

pub returns-clause-parted : goal.returns-clause-parted
returns-clause-parted c =
    IsPartitionPoint-from_clause (λ (r : Row). nat_lt r.link.0 c.args.link.0) c.args.rows.now c.partition_point.result c.partition_point.ensures.partitioned
    (IsPartitionedBy-ltb (λ (r : Row). r.link.0) c.args.rows.now c.args.link.0 (links_rise c.args.rows.now c.requires)) (λ a r q k. search rules)
