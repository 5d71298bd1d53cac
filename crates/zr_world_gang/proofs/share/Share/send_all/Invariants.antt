-- What is left to go over its links leads to the same share as all of it.
use Rattle.std.proofs.Common.{◌≡◌}
use Rattle.std.specs.Vec.Iter.{into_iter_items}
use Rattle.zr_world_gang.specs.Shares.{all_over}
use Rattle.zr_world_gang.proofs.share.Share.send_all.Given as goal

abbrev pub invariant-loop-to : goal.invariant-loop-to
invariant-loop-to l = all_over l.self l.tag (into_iter_items l.to-iterator) ≡ all_over l.fn.self l.tag l.fn.out.items
