-- How report lines are counted one after another. A count is a number of 64 bits, which stands still at the largest.
use Rattle.std.specs.Prelude.{ℕ, ◌+◌, ◌-◌, ◌^◌, min, Bool, true, false, List, is_some}
use Rattle.std.specs.List.{fold}
use Rattle.zr_script_spec.specs.declared.report.FanSteps.{FanSteps}
use Rattle.zr_script_spec.specs.declared.report.ReportLine.{ReportLine}
use Rattle.zr_script_spec.specs.declared.report.ReportLine.TheVariants.{Handled, Taken, Ran, Fanned, Mark, Show, Record, Parent, Source}
use Rattle.zr_world_spec.specs.World.{Routers, router_of}
use Rattle.zr_netrun_report.specs.declared.counts.Counts.{Counts}

-- a count as a number of 64 bits, which stands still at 2 ^ 64 - 1
abbrev pub capped : ℕ → ℕ
capped n = min n (2 ^ 64 - 1)

abbrev pub all_capped : Counts → Counts
all_capped c = record { handled = capped c.handled; taken = capped c.taken; sent = capped c.sent; marks = capped c.marks }

-- nothing is counted
abbrev pub no_counts : Counts
no_counts = record { handled = 0; taken = 0; sent = 0; marks = 0 }

-- a message that was taken is counted, which went to a router or to a client
abbrev pub with_taken : Bool → Counts → Counts
with_taken true c = record { handled = c.handled; taken = capped (c.taken + 1); sent = c.sent; marks = c.marks }
with_taken false c = record { handled = c.handled; taken = c.taken; sent = capped (c.sent + 1); marks = c.marks }

-- the steps of a fan are counted
abbrev pub with_kinds : Counts → FanSteps → Counts
with_kinds c kinds = record { handled = capped (c.handled + kinds.handled); taken = capped (c.taken + kinds.taken); sent = capped (c.sent + kinds.sent); marks = c.marks }

-- one more report line is counted
abbrev pub with_line : Routers → Counts → ReportLine → Counts
with_line routers c (Handled router from msg tag) = record { handled = capped (c.handled + 1); taken = c.taken; sent = c.sent; marks = c.marks }
with_line routers c (Taken router to msg tag) = with_taken (is_some (router_of routers to)) c
with_line routers c (Ran steps quiet) = c
with_line routers c (Fanned lines steps kinds) = with_kinds c kinds
with_line routers c (Mark line) = record { handled = c.handled; taken = c.taken; sent = c.sent; marks = capped (c.marks + 1) }
with_line routers c (Show router) = c
with_line routers c (Record links) = c
with_line routers c (Parent root parent) = c
with_line routers c (Source source number decls) = c

-- some lines are counted
abbrev pub with_lines : Routers → Counts → List ReportLine → Counts
with_lines routers c lines = fold (with_line routers) c lines
