use Rattle.std.proofs.Common.{◌≡◌, ◌+◌, ap, arith}
use Rattle.zr_local.specs.Clients.{weight_but}
use Rattle.zr_local.specs.Rows.{weight_of}
use Rattle.zr_local.specs.State.{LocalState}
use Rattle.zr_local.proofs.Live.{kept_weighs}
use Rattle.zr_local.proofs.local.Local.keep.Goals as goal

pub invariant_of-self-2 : goal.invariant_of-self-2
invariant_of-self-2 c =
    let rows_is : c.self.inside.rows.items ≡ c.args.self.now.rows = ap (λ (l : LocalState). l.rows) c.self.view_is in
    let clients_is : c.self.inside.clients ≡ c.args.self.now.clients = ap (λ (l : LocalState). l.clients) c.self.view_is in
    let held : c.weight_but-held.result ≡ weight_of c.self.inside.rows.items + weight_but c.self.inside.clients c.args.link c.args.interest.id = rw (rows_is, clients_is) c.weight_but-held.ensures in (
      c.self.invariant.0,
      rw c.in_ok-keep.ensures.ok (omega (arith, held, c.weight-more.ensures, kept_weighs c.self.inside.clients c.args.link c.args.interest)),
    )
