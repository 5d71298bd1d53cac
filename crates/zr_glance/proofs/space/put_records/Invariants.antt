-- Those so far have their pages.
use Rattle.std.proofs.Common.{◌≡◌, ◌++◌, map, take}
use Rattle.zr_glance.specs.Pages.{record_page}
use Rattle.zr_glance.proofs.space.put_records.Given as goal

abbrev pub invariant-loop-links : goal.invariant-loop-links
invariant-loop-links l = l.all.items ≡ l.fn.all.items ++ map (λ r. record_page l.id r) (take l.links-index l.records)
