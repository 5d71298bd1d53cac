use Rattle.std.proofs.Common.{◌≡◌, take, true}
use Rattle.std.specs.List.{list_all}
use Rattle.zr_oam.specs.Writing.{is_linked}
use Rattle.zr_law_sent.proofs.types.of_links.Given as goal

abbrev pub invariant-loop-link : goal.invariant-loop-link
invariant-loop-link l = list_all is_linked (take l.link-index l.links) ≡ true
