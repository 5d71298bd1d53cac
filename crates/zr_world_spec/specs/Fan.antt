-- A fan: all samples under way go to their ends. It is the steps of a run that goes on until none is possible; what is told of it are the lines of
-- these steps in the order of their bytes, since routers that are handled at the same time have no other order.
use Rattle.std.specs.Prelude.{ℕ, ◌+◌, not, nat_lt, Bool, true, false, List, ◌++◌, length, map, is_some}
use Rattle.std.specs.List.{concat, count_by, list_all, sum_by}
use Rattle.zr_orders.specs.Ranked.{ranked}
use Rattle.zr_msg.specs.declared.msg.Msg.{Msg}
use Rattle.zr_msg.specs.declared.msg.Msg.TheVariants.{Sub, Unsub, Token, Untoken, Able, Unable, Interest, EndInterest, ToldSub, ToldAble, ToldUnsub, ToldToken, ToldUntoken, ToldUnable, ToldEnd, Push, Request, Response, Final, State, Step, Snap}
use Rattle.zr_script_spec.specs.declared.report.FanSteps.{FanSteps}
use Rattle.zr_script_spec.specs.declared.report.ReportLine.{ReportLine}
use Rattle.zr_script_spec.specs.declared.report.ReportLine.TheVariants.{Handled, Taken, Ran, Fanned, Mark, Show, Record, Parent, Source}
use Rattle.zr_script_spec.specs.Report.{line_text}
use Rattle.zr_world_spec.specs.World.{Tagged, EndState, Routers, WorldState, router_of}

-- ---- what may be under way

-- whether a message is a sample
abbrev pub is_sample : Msg → Bool
is_sample (Sub id key) = false
is_sample (Unsub id) = false
is_sample (Token id key) = false
is_sample (Untoken id) = false
is_sample (Able id key complete) = false
is_sample (Unable id) = false
is_sample (Interest id current future kinds key aggregate) = false
is_sample (EndInterest id) = false
is_sample (ToldSub id key interest) = false
is_sample (ToldAble id key complete interest) = false
is_sample (ToldUnsub id) = false
is_sample (ToldToken id key interest) = false
is_sample (ToldUntoken id) = false
is_sample (ToldUnable id) = false
is_sample (ToldEnd interest) = false
is_sample (Push tree content) = true
is_sample (Request tree id target content) = false
is_sample (Response id content) = false
is_sample (Final id extras) = false
is_sample (State links) = false
is_sample (Step source number added decl) = false
is_sample (Snap source number decls) = false

-- how many bytes the key and the body of a sample have
abbrev pub sample_bytes : Msg → ℕ
sample_bytes (Sub id key) = 0
sample_bytes (Unsub id) = 0
sample_bytes (Token id key) = 0
sample_bytes (Untoken id) = 0
sample_bytes (Able id key complete) = 0
sample_bytes (Unable id) = 0
sample_bytes (Interest id current future kinds key aggregate) = 0
sample_bytes (EndInterest id) = 0
sample_bytes (ToldSub id key interest) = 0
sample_bytes (ToldAble id key complete interest) = 0
sample_bytes (ToldUnsub id) = 0
sample_bytes (ToldToken id key interest) = 0
sample_bytes (ToldUntoken id) = 0
sample_bytes (ToldUnable id) = 0
sample_bytes (ToldEnd interest) = 0
sample_bytes (Push tree content) = length content.key + length content.body
sample_bytes (Request tree id target content) = 0
sample_bytes (Response id content) = 0
sample_bytes (Final id extras) = 0
sample_bytes (State links) = 0
sample_bytes (Step source number added decl) = 0
sample_bytes (Snap source number decls) = 0

-- all that waits at an end
abbrev pub waiting_at : EndState → List Tagged
waiting_at s = s.wire ++ s.queue

-- only samples are under way
abbrev pub are_samples : WorldState → Bool
are_samples w = list_all (λ e. list_all (λ m. is_sample m.msg) (waiting_at e.1)) w.ends

-- ---- limits

-- how many samples are under way at most, and how many bytes their keys and bodies have together at most
abbrev pub most_fanned : ℕ
most_fanned = 2000

abbrev pub most_fanned_bytes : ℕ
most_fanned_bytes = 1048576

abbrev pub are_many : WorldState → Bool
are_many w = nat_lt most_fanned (sum_by (λ e. length (waiting_at e.1)) w.ends)

abbrev pub are_long : WorldState → Bool
are_long w = nat_lt most_fanned_bytes (sum_by (λ e. sum_by (λ m. sample_bytes m.msg) (waiting_at e.1)) w.ends)

-- how many steps a fan has at most: each sample is handled by 64 routers, goes onto 63 links between them, and is sent to 1,023 clients
unfoldable pub most_fan_steps : ℕ
most_fan_steps = 2300000

-- ---- what is told

abbrev pub is_handled : ReportLine → Bool
is_handled (Handled router from msg tag) = true
is_handled (Taken router to msg tag) = false
is_handled (Ran steps quiet) = false
is_handled (Fanned lines steps kinds) = false
is_handled (Mark line) = false
is_handled (Show router) = false
is_handled (Record links) = false
is_handled (Parent root parent) = false
is_handled (Source source number decls) = false

-- whether a line tells that a message went to a neighbour that passes a test
abbrev pub is_taken_to : (List ℕ → Bool) → ReportLine → Bool
is_taken_to test (Handled router from msg tag) = false
is_taken_to test (Taken router to msg tag) = test to
is_taken_to test (Ran steps quiet) = false
is_taken_to test (Fanned lines steps kinds) = false
is_taken_to test (Mark line) = false
is_taken_to test (Show router) = false
is_taken_to test (Record links) = false
is_taken_to test (Parent root parent) = false
is_taken_to test (Source source number decls) = false

-- how many steps were of each kind
abbrev pub kinds_of : Routers → List ReportLine → FanSteps
kinds_of routers lines =
    record {
      handled = count_by is_handled lines;
      taken = count_by (is_taken_to (λ to. is_some (router_of routers to))) lines;
      sent = count_by (is_taken_to (λ to. not (is_some (router_of routers to)))) lines;
    }

-- the texts of some lines, in the order of their bytes
abbrev pub sorted_text : List ReportLine → List ℕ
sorted_text lines = concat (ranked (map line_text lines))

-- what is told of a fan with these steps
abbrev pub fanned : Routers → List ReportLine → ReportLine
fanned routers lines = Fanned (sorted_text lines) (length lines) (kinds_of routers lines)
