use Rattle.std.proofs.Common.{refl}
use Rattle.zr_local.proofs.Left.{sound_left, gone_left, nothing_comes}
use Rattle.zr_local.proofs.local.Local.leave.Goals as goal

pub invariant_of-self : goal.invariant_of-self
invariant_of-self c =
    rw (c.take_out.ensures, c.release.ensures, c.weight_without-self-inside.ensures, c.leave.ensures, c.deref-2.ensures.value)
    (sound_left c.self.inside.rows.items c.self.inside.owners c.args.link.0 c.self.invariant.0, rw (← c.self.view_is) refl)

pub returns-clause-gone : goal.returns-clause-gone
returns-clause-gone c =
    rw (c.keep_unowned.ensures, c.release.ensures, c.into_vec-gone.ensures.value, c.in_ok-set.ensures, c.deref-2.ensures.value, c.deref.ensures.value, ← c.self.view_is)
    (gone_left c.self.inside.rows.items c.self.inside.owners c.args.link.0 c.self.invariant.0)

pub returns-clause-came : goal.returns-clause-came
returns-clause-came c = rw (c.new-came.ensures.items, ← c.self.view_is) (nothing_comes c.self.inside.rows.items c.args.link.0)
