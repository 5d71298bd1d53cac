-- Those so far have their pages.
use Rattle.std.proofs.Common.{◌≡◌, ◌++◌, map, take}
use Rattle.zr_glance.specs.Pages.{parent_page}
use Rattle.zr_glance.proofs.space.put_parents.Given as goal

abbrev pub invariant-loop-parent : goal.invariant-loop-parent
invariant-loop-parent l = l.all.items ≡ l.fn.all.items ++ map (λ q. parent_page l.id q) (take l.parent-index l.parents)
