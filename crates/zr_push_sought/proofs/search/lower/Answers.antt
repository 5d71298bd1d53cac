use Rattle.std.proofs.Common.{rules}
use Rattle.std.proofs.lemmas.List.Sorted.{IsPartitionPoint-from_clause}
use Rattle.zr_push_sought.specs.Sought.{is_lower}
use Rattle.zr_push_sought.proofs.ByKind.{lower_first}
use Rattle.zr_push_sought.proofs.search.lower.Goals as goal

pub returns-clause-parted : goal.returns-clause-parted
returns-clause-parted c =
    IsPartitionPoint-from_clause (λ d. is_lower d.kind c.args.kind) c.args.decls.now c.partition_point.result c.partition_point.ensures.partitioned
    (lower_first c.args.decls.now c.args.kind c.requires) (λ a r q k. search rules)
