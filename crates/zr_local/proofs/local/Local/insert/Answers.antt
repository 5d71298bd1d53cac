use Rattle.std.proofs.Common.{◌≡◌, ap, ◌∙◌, arith}
use Rattle.zr_local.specs.State.{LocalState}
use Rattle.zr_lists.specs.Place.{IsGap}
use Rattle.zr_local.specs.Rows.{key_cmp, row_key}
use Rattle.zr_local.proofs.Rows.{weight-insert}
use Rattle.zr_local.proofs.Sound.{sound_insert}
use Rattle.zr_local.proofs.Steps.{gone_insert, came_insert}
use Rattle.zr_local.proofs.local.Local.insert.Goals as goal

pub invariant_of-self-2 : goal.invariant_of-self-2
invariant_of-self-2 c =
    let rows_is : c.self.inside.rows.items ≡ c.args.self.now.rows = ap (λ (l : LocalState). l.rows) c.self.view_is in
    let gap : IsGap key_cmp row_key c.self.inside.rows.items (row_key c.args.row) c.args.at = rw rows_is c.requires in (
      rw (c.in_ok-insert.ensures.rows, c.in_ok-insert.ensures.owners) (sound_insert c.self.inside.rows.items c.self.inside.owners c.args.row c.args.at gap c.self.invariant.0),
      rw (c.in_ok-insert.ensures.rows, c.decl_weight-more.ensures) (omega (arith, c.self.invariant.1, weight-insert c.self.inside.rows.items c.args.at c.args.row)),
    )

pub returns-clause-gone : goal.returns-clause-gone
returns-clause-gone c =
    let rows_is : c.self.inside.rows.items ≡ c.args.self.now.rows = ap (λ (l : LocalState). l.rows) c.self.view_is in
    let gap : IsGap key_cmp row_key c.self.inside.rows.items (row_key c.args.row) c.args.at = rw rows_is c.requires in
    rw (← c.self.view_is)
    (c.in_ok-changes.ensures.gone ∙ gone_insert c.self.inside.rows.items c.self.inside.owners c.self.invariant.0 c.args.row c.args.at gap)

pub returns-clause-came : goal.returns-clause-came
returns-clause-came c =
    let rows_is : c.self.inside.rows.items ≡ c.args.self.now.rows = ap (λ (l : LocalState). l.rows) c.self.view_is in
    let gap : IsGap key_cmp row_key c.self.inside.rows.items (row_key c.args.row) c.args.at = rw rows_is c.requires in
    rw (← c.self.view_is)
    (c.in_ok-changes.ensures.came ∙ came_insert c.self.inside.rows.items c.self.inside.owners c.self.invariant.0 c.args.row c.args.at gap)
