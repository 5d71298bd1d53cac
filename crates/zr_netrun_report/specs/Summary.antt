-- What a summary tells of a report: how many messages routers handled, how many of their messages went onto links between routers, how
-- many were sent to clients, and how many phases began.
use Rattle.std.specs.Prelude.{ℕ, not, Bool, true, false, List, ◌++◌, codes, is_some}
use Rattle.std.specs.Fmt.{decimal}
use Rattle.std.specs.List.{count_by}
use Rattle.zr_script_spec.specs.declared.report.ReportLine.{ReportLine}
use Rattle.zr_script_spec.specs.declared.report.ReportLine.TheVariants.{Handled, Taken, Ran, Fanned, Mark, Show, Record, Parent, Source}
use Rattle.zr_script_spec.specs.Report.{line_end}
use Rattle.zr_world_spec.specs.World.{Routers, router_of}
use Rattle.zr_world_spec.specs.Fan.{is_handled, is_taken_to}
use Rattle.zr_world_spec.specs.Moments.{Moment}
use Rattle.zr_netrun_report.specs.declared.counts.Counts.{Counts}

-- whether a report line tells of a handled message
abbrev pub tells_handled : ReportLine → Bool
tells_handled line = is_handled line

-- whether it tells of a message that went onto the wire to a router
abbrev pub tells_taken : Routers → ReportLine → Bool
tells_taken routers line = is_taken_to (λ to. is_some (router_of routers to)) line

-- whether it tells of a message that was sent to a client: a neighbour that is no router
abbrev pub tells_sent : Routers → ReportLine → Bool
tells_sent routers line = is_taken_to (λ to. not (is_some (router_of routers to))) line

-- whether it tells that a phase has begun
abbrev pub tells_mark : ReportLine → Bool
tells_mark (Handled router from msg tag) = false
tells_mark (Taken router to msg tag) = false
tells_mark (Ran steps quiet) = false
tells_mark (Fanned lines steps kinds) = false
tells_mark (Mark line) = true
tells_mark (Show router) = false
tells_mark (Record links) = false
tells_mark (Parent root parent) = false
tells_mark (Source source number decls) = false

-- how many report lines are of each of these kinds, where these are the routers
abbrev pub counts_in : Routers → List ReportLine → Counts
counts_in routers lines =
    record {
      handled = count_by tells_handled lines;
      taken = count_by (tells_taken routers) lines;
      sent = count_by (tells_sent routers) lines;
      marks = count_by tells_mark lines;
    }

-- what a summary tells of a moment: no name is that of a router and of a client, and none is used again, so it is all one when the
-- neighbours are told apart
abbrev pub counts_of : Moment → Counts
counts_of m = counts_in m.world.routers m.report

-- a line of a summary
abbrev pub count_text : List ℕ → ℕ → List ℕ
count_text word n = word ++ codes " " ++ decimal n ++ line_end

-- its four lines
abbrev pub summary_text : Counts → List ℕ
summary_text c =
    count_text (codes "handled") c.handled ++ count_text (codes "taken") c.taken ++ count_text (codes "sent") c.sent
    ++ count_text (codes "marks") c.marks
