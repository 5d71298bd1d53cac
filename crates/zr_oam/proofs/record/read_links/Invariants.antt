use Rattle.std.proofs.Common.{◌≡◌, ◌-◌, None}
use Rattle.zr_format_spec.specs.Reading.{last_of, series_of}
use Rattle.zr_format_spec.proofs.Series.{behind}
use Rattle.zr_oam.specs.Reading.{link_of}
use Rattle.zr_oam.proofs.record.read_links.Given as goal

abbrev pub invariant-links : goal.invariant-links
invariant-links l = behind l.links (series_of (link_of l.weighted l.own) (last_of l.links) (l.count - l.counter) l.c) ≡ series_of (link_of l.weighted l.own) None l.count l.fn.c
