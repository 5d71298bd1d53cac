use Rattle.std.proofs.Common.{sym, ℕ, List}
use Rattle.std.specs.Cmp.Lexicographic.{slice_cmp}
use Rattle.std.specs.Ordering.{nat_cmp}
use Rattle.zr_lists.specs.Place.{IsAt}
use Rattle.zr_push_sought.proofs.Ways.{put_there}
use Rattle.zr_push_sought.proofs.hops.Hops.add.Goals as goal

pub returns-in-Ok : goal.returns-in-Ok
returns-in-Ok c =
    let at : IsAt (slice_cmp nat_cmp) (λ (n : List ℕ). n) c.args.self.now c.args.name c.in-Ok.field-0 = rw (← c.self.view_is, ← c.deref.ensures.value) c.in-Ok.ensures in
    sym (put_there c.args.self.now c.args.name c.in-Ok.field-0 at)
