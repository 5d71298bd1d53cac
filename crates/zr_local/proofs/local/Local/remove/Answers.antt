use Rattle.std.proofs.Common.{◌≡◌, List, ap, ◌∙◌, arith}
use Rattle.zr_lists.specs.Place.{IsAt}
use Rattle.zr_local.specs.declared.row.Row.{Row}
use Rattle.zr_local.specs.State.{LocalState}
use Rattle.zr_local.specs.Rows.{Key, key_cmp, row_key}
use Rattle.zr_local.proofs.Sound.{remove_is, sound_remove}
use Rattle.zr_local.proofs.Steps.{others_weigh, gone_removed, came_removed}
use Rattle.zr_local.proofs.local.Local.remove.Goals as goal

pub overflow_sub-self : goal.overflow_sub-self
overflow_sub-self c =
    let key : Key = record { link = c.args.key.link; kind = c.args.key.kind; id = c.args.key.id } in
    let rows_is : c.self.inside.rows.items ≡ c.args.self.now.rows = ap (λ (l : LocalState). l.rows) c.self.view_is in
    let at : IsAt key_cmp row_key c.self.inside.rows.items key c.args.at = rw rows_is c.requires in
    omega (arith, others_weigh c.self.inside.rows.items key c.args.at c.index-row.result.now at c.index-row.ensures, c.decl_weight-weight.ensures, c.self.invariant.1)

pub invariant_of-self : goal.invariant_of-self
invariant_of-self c =
    let key : Key = record { link = c.args.key.link; kind = c.args.key.kind; id = c.args.key.id } in
    let rows_is : c.self.inside.rows.items ≡ c.args.self.now.rows = ap (λ (l : LocalState). l.rows) c.self.view_is in
    let at : IsAt key_cmp row_key c.self.inside.rows.items key c.args.at = rw rows_is c.requires in (
      rw (c.remove.ensures.rows, c.remove.ensures.owners c.index-row.result.now) (sound_remove c.self.inside.rows.items c.self.inside.owners key c.index-row.result.now c.args.at at c.self.invariant.0),
      rw (c.remove.ensures.rows, remove_is c.self.inside.rows.items key c.args.at at)
          (omega (arith, others_weigh c.self.inside.rows.items key c.args.at c.index-row.result.now at c.index-row.ensures, c.decl_weight-weight.ensures, c.self.invariant.1)),
    )

pub returns-clause-gone : goal.returns-clause-gone
returns-clause-gone c =
    let key : Key = record { link = c.args.key.link; kind = c.args.key.kind; id = c.args.key.id } in
    let rows_is : c.self.inside.rows.items ≡ c.args.self.now.rows = ap (λ (l : LocalState). l.rows) c.self.view_is in
    let at : IsAt key_cmp row_key c.self.inside.rows.items key c.args.at = rw rows_is c.requires in
    rw (← c.self.view_is)
    (c.in_ok-changes.ensures.gone
    ∙ gone_removed c.self.inside.rows.items c.self.inside.owners c.self.invariant.0 key c.index-row.result.now c.args.at at c.index-row.ensures)

pub returns-clause-came : goal.returns-clause-came
returns-clause-came c =
    let key : Key = record { link = c.args.key.link; kind = c.args.key.kind; id = c.args.key.id } in
    let rows_is : c.self.inside.rows.items ≡ c.args.self.now.rows = ap (λ (l : LocalState). l.rows) c.self.view_is in
    let at : IsAt key_cmp row_key c.self.inside.rows.items key c.args.at = rw rows_is c.requires in
    rw (← c.self.view_is)
    (c.in_ok-changes.ensures.came
    ∙ came_removed c.self.inside.rows.items c.self.inside.owners c.self.invariant.0 key c.index-row.result.now c.args.at at c.index-row.ensures)

pub returns-clause-value : goal.returns-clause-value
returns-clause-value c =
    let key : Key = record { link = c.args.key.link; kind = c.args.key.kind; id = c.args.key.id } in
    let rows_is : c.self.inside.rows.items ≡ c.args.self.now.rows = ap (λ (l : LocalState). l.rows) c.self.view_is in
    let at : IsAt key_cmp row_key c.self.inside.rows.items key c.args.at = rw rows_is c.requires in
    rw (← c.self.view_is)
    (ap (λ (rs : List Row). let l : LocalState = record { rows = rs; clients = c.self.inside.clients } in l) (c.remove.ensures.rows ∙ remove_is c.self.inside.rows.items key c.args.at at))
