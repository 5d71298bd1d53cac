-- Which declarations of clients may change where a client asks something of its own.
use Rattle.std.specs.Prelude.{List}
use Rattle.zr_local.specs.Rows.{id_kind, left, undeclared}
use Rattle.zr_local.specs.declared.row.Row.{Row}
use Rattle.zr_node.specs.declared.asked.Asked.{Asked}
use Rattle.zr_node.specs.declared.asked.Asked.TheVariants.{Declare, Undeclare, Leave}
use Rattle.zr_node.specs.declared.holding.Touched.{Touched}
use Rattle.zr_node.specs.declared.holding.Touched.TheVariants as touches

abbrev pub touched : Asked → Touched
touched (Declare link id decl) = touches.Row link id decl.kind
touched (Undeclare link id kind) = touches.Row link id kind
touched (Leave link) = touches.Client link

-- the others
abbrev pub rows_but : List Row → Touched → List Row
rows_but rows (touches.Row link id kind) = undeclared rows (record { link = link.0; kind = id_kind kind; id = id })
rows_but rows (touches.Client link) = left rows link.0
