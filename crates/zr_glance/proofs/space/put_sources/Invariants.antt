-- Those so far have their pages.
use Rattle.std.proofs.Common.{◌≡◌, ◌++◌, map, take}
use Rattle.zr_glance.specs.Pages.{source_page}
use Rattle.zr_glance.proofs.space.put_sources.Given as goal

abbrev pub invariant-loop-count : goal.invariant-loop-count
invariant-loop-count l = l.all.items ≡ l.fn.all.items ++ map (λ c. source_page l.id c) (take l.count-index l.sources)
