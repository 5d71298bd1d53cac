use Rattle.std.proofs.Common.{◌≡◌, ap, arith}
use Rattle.zr_lists.specs.Place.{IsAt}
use Rattle.zr_local.specs.Rows.{Key, id_kind, key_cmp, row_key}
use Rattle.zr_local.specs.State.{LocalState}
use Rattle.zr_local.proofs.Steps.{others_weigh}
use Rattle.zr_local.proofs.local.Local.weight_of_others.Goals as goal

pub overflow_sub-result : goal.overflow_sub-result
overflow_sub-result c =
    let key : Key = record { link = c.args.link.0; kind = id_kind c.args.kind; id = c.args.id } in
    let rows_is : c.self.inside.rows.items ≡ c.args.self.now.rows = ap (λ (l : LocalState). l.rows) c.self.view_is in
    let at : IsAt key_cmp row_key c.self.inside.rows.items key c.args.at = rw rows_is c.requires in
    rw c.decl_weight.ensures
    (omega (arith, others_weigh c.self.inside.rows.items key c.args.at c.index-old.result.now at c.index-old.ensures, c.self.invariant.1))

pub returns : goal.returns
returns c =
    let key : Key = record { link = c.args.link.0; kind = id_kind c.args.kind; id = c.args.id } in
    let rows_is : c.self.inside.rows.items ≡ c.args.self.now.rows = ap (λ (l : LocalState). l.rows) c.self.view_is in
    let at : IsAt key_cmp row_key c.self.inside.rows.items key c.args.at = rw rows_is c.requires in
    rw (← c.self.view_is, c.decl_weight.ensures)
    (omega (arith, others_weigh c.self.inside.rows.items key c.args.at c.index-old.result.now at c.index-old.ensures, c.self.invariant.1))
