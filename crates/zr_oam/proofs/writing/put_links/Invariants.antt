use Rattle.std.proofs.Common.{◌≡◌, ◌++◌, drop}
use Rattle.std.specs.List.{flat_map}
use Rattle.zr_bytes.specs.Writing.{KeepsFront}
use Rattle.zr_oam.specs.Writing.{writes_linked}
use Rattle.zr_oam.proofs.writing.put_links.Given as goal

-- what was put, with what the others will put, is what all put
abbrev pub invariant-loop-link : goal.invariant-loop-link
invariant-loop-link l = record {
  same : l.out.items ++ flat_map (λ link. writes_linked l.weighted link) (drop l.link-index l.links) ≡ l.fn.out.items ++ flat_map (λ link. writes_linked l.weighted link) l.links;
  front : KeepsFront l.fn.out.items l.out.items;
}
