use Rattle.std.proofs.Common.{◌≡◌, ◌-◌, None}
use Rattle.zr_format_spec.specs.Reading.{last_of, series_of}
use Rattle.zr_format_spec.proofs.Series.{behind}
use Rattle.zr_oam.specs.Reading.{next_decl_of}
use Rattle.zr_oam.proofs.decl.read_decls.Given as goal

abbrev pub invariant-decls : goal.invariant-decls
invariant-decls l = behind l.decls (series_of next_decl_of (last_of l.decls) (l.count - l.counter) l.c) ≡ series_of next_decl_of None l.count l.fn.c
