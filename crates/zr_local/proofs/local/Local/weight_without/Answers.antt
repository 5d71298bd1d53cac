use Rattle.std.proofs.Common.{◌≡◌, ◌-◌, arith}
use Rattle.zr_local.specs.Owners.{on_link}
use Rattle.zr_local.specs.Rows.{weight_of}
use Rattle.zr_local.proofs.Left.{parts_weigh}
use Rattle.zr_local.proofs.local.Local.weight_without.Goals as goal

pub weight_without-requires : goal.weight_without-requires
weight_without-requires c =
    let held : c.weight_without-held.result ≡ c.self.inside.held - weight_of (on_link c.self.inside.rows.items c.args.link.0) = rw (← c.deref.ensures.value) c.weight_without-held.ensures in
    omega (arith, held, c.self.invariant.1, parts_weigh c.self.inside.rows.items c.args.link.0)

pub returns : goal.returns
returns c =
    let held : c.weight_without-held.result ≡ c.self.inside.held - weight_of (on_link c.self.inside.rows.items c.args.link.0) = rw (← c.deref.ensures.value) c.weight_without-held.ensures in
    rw (← c.self.view_is) (omega (arith, held, c.weight_without.ensures, c.self.invariant.1, parts_weigh c.self.inside.rows.items c.args.link.0))
