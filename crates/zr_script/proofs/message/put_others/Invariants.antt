use Rattle.std.proofs.Common.{◌≡◌, ◌++◌, ◌∷◌, drop}
use Rattle.std.specs.List.{flat_map}
use Rattle.zr_bytes.specs.Writing.{KeepsFront}
use Rattle.zr_script_spec.specs.Report.{linked_text}
use Rattle.zr_script.proofs.message.put_others.Given as goal

-- what was put, with what the others will put, is what all put
abbrev pub invariant-loop-link : goal.invariant-loop-link
invariant-loop-link l = record {
  same : l.out.items ++ flat_map (λ link. 44 ∷ linked_text link) (drop l.link-index l.links) ≡ l.fn.out.items ++ flat_map (λ link. 44 ∷ linked_text link) l.links;
  front : KeepsFront l.fn.out.items l.out.items;
}
