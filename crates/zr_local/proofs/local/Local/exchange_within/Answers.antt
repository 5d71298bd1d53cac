use Rattle.std.proofs.Common.{◌≡◌, ◌+◌, List, sym, ap, ◌∙◌}
use Rattle.zr_lists.specs.Place.{IsAt}
use Rattle.zr_local.specs.Clients.{clients_weight}
use Rattle.zr_local.specs.declared.row.Row.{Row}
use Rattle.zr_local.specs.State.{LocalState}
use Rattle.zr_local.specs.Rows.{key_cmp, row_key, declared, weight_of}
use Rattle.zr_local.proofs.Sound.{set_is, sound_set}
use Rattle.zr_local.proofs.Steps.{gone_exchanged, came_exchanged}
use Rattle.zr_local.proofs.local.Local.exchange_within.Goals as goal

pub invariant_of-self-2 : goal.invariant_of-self-2
invariant_of-self-2 c =
    let rows_is : c.self.inside.rows.items ≡ c.args.self.now.rows = ap (λ (l : LocalState). l.rows) c.self.view_is in
    let at : IsAt key_cmp row_key c.self.inside.rows.items (row_key c.args.row) c.args.at = rw rows_is c.requires.at in
    let clients_is : c.self.inside.clients ≡ c.args.self.now.clients = ap (λ (l : LocalState). l.clients) c.self.view_is in
    let held : c.args.held ≡ weight_of (declared c.self.inside.rows.items c.args.row) + clients_weight c.self.inside.clients = rw (rows_is, clients_is) c.requires.held in
    let rows : c.exchange.new.rows.items ≡ declared c.self.inside.rows.items c.args.row = c.in_ok-exchange.ensures.rows ∙ set_is c.self.inside.rows.items c.args.row c.args.at at in (
      rw (c.in_ok-exchange.ensures.rows, c.in_ok-exchange.ensures.owners c.args.row) (sound_set c.self.inside.rows.items c.self.inside.owners c.args.row c.args.row c.args.at at c.self.invariant.0),
      held ∙ ap (λ (rs : List Row). weight_of rs + clients_weight c.self.inside.clients) (sym rows),
    )

pub returns-clause-gone : goal.returns-clause-gone
returns-clause-gone c =
    let rows_is : c.self.inside.rows.items ≡ c.args.self.now.rows = ap (λ (l : LocalState). l.rows) c.self.view_is in
    let at : IsAt key_cmp row_key c.self.inside.rows.items (row_key c.args.row) c.args.at = rw rows_is c.requires.at in
    rw (← c.self.view_is)
    (c.in_ok-changes.ensures.gone
    ∙ gone_exchanged c.self.inside.rows.items c.self.inside.owners c.self.invariant.0 c.args.row c.index.result.now c.args.at at c.index.ensures)

pub returns-clause-came : goal.returns-clause-came
returns-clause-came c =
    let rows_is : c.self.inside.rows.items ≡ c.args.self.now.rows = ap (λ (l : LocalState). l.rows) c.self.view_is in
    let at : IsAt key_cmp row_key c.self.inside.rows.items (row_key c.args.row) c.args.at = rw rows_is c.requires.at in
    rw (← c.self.view_is)
    (c.in_ok-changes.ensures.came
    ∙ came_exchanged c.self.inside.rows.items c.self.inside.owners c.self.invariant.0 c.args.row c.index.result.now c.args.at at c.index.ensures)

pub returns-clause-value : goal.returns-clause-value
returns-clause-value c =
    let rows_is : c.self.inside.rows.items ≡ c.args.self.now.rows = ap (λ (l : LocalState). l.rows) c.self.view_is in
    let at : IsAt key_cmp row_key c.self.inside.rows.items (row_key c.args.row) c.args.at = rw rows_is c.requires.at in
    rw (← c.self.view_is)
    (ap (λ (rs : List Row). let l : LocalState = record { rows = rs; clients = c.self.inside.clients } in l)
    (c.in_ok-exchange.ensures.rows ∙ set_is c.self.inside.rows.items c.args.row c.args.at at))
