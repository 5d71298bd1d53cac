use Rattle.std.proofs.Common.{◌≡◌, ◌-◌, ◌^◌, false, length, ap, arith, ◌∙◌}
use Rattle.std.proofs.lemmas.Bool.{leb-false}
use Rattle.std.specs.Map.{values_of}
use Rattle.zr_pend_spec.specs.Pending.{free_number, is_full, numbers_on}
use Rattle.zr_pend_spec.proofs.Free.{free_is_least}
use Rattle.zr_pend_rows.proofs.OnLinks.{least_is_free}
use Rattle.zr_pend_rows.proofs.table.Table.free_number.Goals as goal

pub overflow_cast-result : goal.overflow_cast-result
overflow_cast-result c =
    let link = c.args.link in
    let rows = values_of c.self.inside.rows.entries in
    let e : c.least_free.result ≡ free_number link rows =
    least_is_free c.self.inside.pending rows link c.least_free.result c.self.invariant.1 c.least_free.ensures.positive c.least_free.ensures.free c.least_free.ensures.least in
    let room : is_full link rows ≡ false = ap (λ rs. is_full link rs) c.self.view_is ∙ c.requires in
    omega (arith, e, (free_is_least link rows).within, leb-false (2 ^ 32 - 1) (length (numbers_on link rows)) room)

pub returns : goal.returns
returns c =
    least_is_free c.self.inside.pending (values_of c.self.inside.rows.entries) c.args.link c.least_free.result c.self.invariant.1 c.least_free.ensures.positive c.least_free.ensures.free c.least_free.ensures.least
    ∙ ap (λ rs. free_number c.args.link rs) c.self.view_is
