-- Those so far have their pages.
use Rattle.std.proofs.Common.{◌≡◌, ◌++◌, map, take}
use Rattle.zr_glance.specs.Pages.{link_page}
use Rattle.zr_glance.proofs.space.put_peers.Given as goal

abbrev pub invariant-loop-peer : goal.invariant-loop-peer
invariant-loop-peer l = l.all.items ≡ l.fn.all.items ++ map (λ p. link_page l.id p) (take l.peer-index l.peers)
