use Rattle.std.proofs.Common.{◌≡◌, ◌++◌, drop}
use Rattle.std.specs.List.{flat_map}
use Rattle.zr_bytes.specs.Writing.{KeepsFront}
use Rattle.zr_script_spec.specs.Report.{decl_text}
use Rattle.zr_script.proofs.message.put_decls.Given as goal

-- what was put, with what the others will put, is what all put
abbrev pub invariant-loop-decl : goal.invariant-loop-decl
invariant-loop-decl l = record {
  same : l.out.items ++ flat_map decl_text (drop l.decl-index l.decls) ≡ l.fn.out.items ++ flat_map decl_text l.decls;
  front : KeepsFront l.fn.out.items l.out.items;
}
