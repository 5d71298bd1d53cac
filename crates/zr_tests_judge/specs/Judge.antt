-- What a judgement of a report says: whether the network has done what the one broker does.
use Rattle.std.specs.Prelude.{◌≡◌, ℕ, suc, ◌&&◌, ◌||◌, not, nat_lt, nat_le, Bool, true, false, List, [], ◌∷◌, ◌++◌, length, ◌↔◌, filter, Option, Some, None}
use Rattle.std.specs.List.{list_all, starts_with}
use Rattle.zr_msg.specs.declared.msg.Msg.{Msg}
use Rattle.zr_msg.specs.declared.msg.Msg.TheVariants.{Sub, Unsub, Token, Untoken, Able, Unable, Interest, EndInterest, ToldSub, ToldAble, ToldUnsub, ToldToken, ToldUntoken, ToldUnable, ToldEnd, Push, Request, Response, Final, State, Step, Snap}
use Rattle.zr_script_spec.specs.declared.command.Act.{Act}
use Rattle.zr_script_spec.specs.declared.command.Act.TheVariants as a
use Rattle.zr_script_spec.specs.declared.report.ReportLine.{ReportLine}
use Rattle.zr_script_spec.specs.declared.report.ReportLine.TheVariants as r
use Rattle.zr_world_spec.specs.World.{WorldState, is_quiet}
use Rattle.zr_world_spec.specs.Moments.{Numbered}
use Rattle.zr_guarantee.specs.Item.{Item, Carried, Reply}
use Rattle.zr_guarantee.specs.Names.{is_router}
use Rattle.zr_guarantee.specs.Broker.{Publication, publication, is_line_of, is_line, from}
use Rattle.zr_guarantee.specs.Queries.{Asked, queries, sayings, times_asked, times_ended, turn, replies, is_finished}
use Rattle.zr_guarantee.specs.Latest.{asks_latest, best, sent_in_turn, all_may_come}
use Rattle.zr_guarantee.specs.Sent.{carried_by, sent_to, told_to, requests_to, finals_in, behind_finals}
use Rattle.zr_guarantee.specs.Refines.{Refines, sent_of_query, has_final}
use Rattle.zr_tests_judge.specs.Same.{is_same, is_same_reply, is_same_key_body}

-- what is judged: the acts before a mark, the number of its line, the acts after it, the report so far, and whether
-- nothing is under way
pub record Judged : Type 0 where
  pub before : List Numbered
  pub mark : ℕ
  pub phase : List Numbered
  pub report : List ReportLine
  pub quiet : Bool

-- the answer is yes exactly where the network refines the one broker at a moment with this report and this quiet
abbrev pub Judges : Bool → Judged → Type 0
Judges answer j =
    (w : WorldState) → is_quiet w ≡ j.quiet → (answer ≡ true) ↔ Refines j.before j.mark j.phase (record { world = w; report = j.report })

-- ---- a publisher and a receiver

-- what a receiver was sent of a publisher's lines
abbrev pub sent_by : Judged → List ℕ → List ℕ → List Item
sent_by j publisher receiver = filter (λ i. is_line_of j.phase publisher i.line) (sent_to j.report receiver)

-- whether that begins what it is to have, and is the whole where nothing is under way
abbrev pub is_right : Judged → List ℕ → List ℕ → Bool
is_right j publisher receiver =
    starts_with is_same (from j.before j.phase publisher receiver) (sent_by j publisher receiver)
    && (not j.quiet || starts_with is_same (sent_by j publisher receiver) (from j.before j.phase publisher receiver))

-- so it is with each receiver, but of what a router is sent nothing is said
abbrev pub pair_holds : Judged → List ℕ → List ℕ → Bool
pair_holds j publisher receiver = is_router j.before receiver || is_right j publisher receiver

-- the same for the client that an act attaches
abbrev pub holds_for_client : Judged → List ℕ → Act → Bool
holds_for_client j publisher (a.Router id) = true
holds_for_client j publisher (a.Client id router) = pair_holds j publisher id
holds_for_client j publisher (a.Link one other weight) = true
holds_for_client j publisher (a.Up router neighbour) = true
holds_for_client j publisher (a.Break router neighbour) = true
holds_for_client j publisher (a.Down router neighbour) = true
holds_for_client j publisher (a.Sub client id key) = true
holds_for_client j publisher (a.Unsub client id) = true
holds_for_client j publisher (a.Token client id key) = true
holds_for_client j publisher (a.Untoken client id) = true
holds_for_client j publisher (a.Able client id key complete) = true
holds_for_client j publisher (a.Unable client id) = true
holds_for_client j publisher (a.Interest client id mode kinds key aggregate) = true
holds_for_client j publisher (a.Uninterest client id) = true
holds_for_client j publisher (a.Publish client content) = true
holds_for_client j publisher (a.Get client number target content) = true
holds_for_client j publisher (a.Reply client number content) = true
holds_for_client j publisher (a.End client number) = true
holds_for_client j publisher (a.Handle router from) = true
holds_for_client j publisher (a.Take router to) = true
holds_for_client j publisher a.Mark = true
holds_for_client j publisher (a.Show router) = true

-- the same for the client that a report line tells of
abbrev pub holds_for_receiver : Judged → List ℕ → ReportLine → Bool
holds_for_receiver j publisher (r.Handled router from msg tag) = true
holds_for_receiver j publisher (r.Taken router to msg tag) = pair_holds j publisher to
holds_for_receiver j publisher (r.Ran steps quiet) = true
holds_for_receiver j publisher (r.Fanned lines steps kinds) = true
holds_for_receiver j publisher (r.Mark line) = true
holds_for_receiver j publisher (r.Show router) = true
holds_for_receiver j publisher (r.Record links) = true
holds_for_receiver j publisher (r.Parent root parent) = true
holds_for_receiver j publisher (r.Source source number decls) = true

-- ---- all of them

-- the same for a publisher and all clients that were ever attached or were sent anything
abbrev pub holds_for_all : Judged → List ℕ → Bool
holds_for_all j publisher = list_all (λ x. holds_for_client j publisher x.1) j.before && list_all (λ x. holds_for_receiver j publisher x) j.report

-- the same for the client of what is published, if anything is
abbrev pub holds_for : Judged → Option Publication → Bool
holds_for j None = true
holds_for j (Some p) = holds_for_all j p.client

-- the same for the publisher of a line
abbrev pub holds_for_publisher : Judged → Act → Bool
holds_for_publisher j act = holds_for j (publication act)

-- whether a sample or a request, if it is one, is a line of the phase, or comes from before the mark
abbrev pub is_allowed : Judged → Option Carried → ℕ → Bool
is_allowed j None tag = true
is_allowed j (Some carried) tag = nat_lt tag j.mark || is_line j.phase tag

-- the same of what was sent
abbrev pub may_be_sent : Judged → ReportLine → Bool
may_be_sent j (r.Handled router from msg tag) = true
may_be_sent j (r.Taken router to msg tag) = is_allowed j (carried_by msg) tag
may_be_sent j (r.Ran steps quiet) = true
may_be_sent j (r.Fanned lines steps kinds) = true
may_be_sent j (r.Mark line) = true
may_be_sent j (r.Show router) = true
may_be_sent j (r.Record links) = true
may_be_sent j (r.Parent root parent) = true
may_be_sent j (r.Source source number decls) = true

-- ---- queries

-- all acts that are judged
abbrev pub acts_of : Judged → List Numbered
acts_of j = j.before ++ j.phase

-- the replies of a replier to a query that its client is to have, and those that it was sent
abbrev pub replies_due : Judged → Asked → List ℕ → List Reply
replies_due j q replier = replies (acts_of j) j.report q replier

abbrev pub replies_sent : Judged → Asked → List ℕ → List Reply
replies_sent j q replier = sent_of_query (acts_of j) j.report q replier (told_to j.report q.client)

abbrev pub replies_behind : Judged → Asked → List ℕ → List Reply
replies_behind j q replier = sent_of_query (acts_of j) j.report q replier (behind_finals q.number (turn (acts_of j) q) (told_to j.report q.client))

-- the final of a query was sent, and all that it asks have ended
abbrev pub is_final_sent : Judged → Asked → Bool
is_final_sent j q = has_final (acts_of j) j.report q

abbrev pub have_ended : Judged → Asked → Bool
have_ended j q = is_finished j.before (acts_of j) j.report q

-- no reply is left
abbrev pub is_none_left : List Reply → Bool
is_none_left [] = true
is_none_left (x ∷ xs) = false

-- of a replier what was sent begins what is due, it is the whole where the final was sent or nothing is under way, and none is behind the final
abbrev pub replier_holds : Judged → Asked → List ℕ → Bool
replier_holds j q replier =
    starts_with is_same_reply (replies_due j q replier) (replies_sent j q replier)
    && ((not (is_final_sent j q || j.quiet) || starts_with is_same_reply (replies_sent j q replier) (replies_due j q replier)) && is_none_left (replies_behind j q replier))

-- the best of all that was replied to a query for the latest, and what its client was sent
abbrev pub best_due : Judged → Asked → List (List ℕ × List ℕ)
best_due j q = best (acts_of j) j.report q

abbrev pub best_sent : Judged → Asked → List (List ℕ × List ℕ)
best_sent j q = sent_in_turn (acts_of j) j.report q

-- whether a query has all its replies by now
abbrev pub has_all_best : Judged → Asked → Bool
has_all_best j q = is_final_sent j q || (j.quiet && have_ended j q)

-- whether a list is empty
abbrev pub is_nothing : List (List ℕ × List ℕ) → Bool
is_nothing [] = true
is_nothing (x ∷ xs) = false

-- what was sent is nothing unless all that are asked have ended, it begins the best, and it is the whole where the final was sent, or where all have
-- ended and nothing is under way
abbrev pub best_holds : Judged → Asked → Bool
best_holds j q =
    (have_ended j q || is_nothing (best_sent j q))
    && (starts_with is_same_key_body (best_due j q) (best_sent j q) && (not (has_all_best j q) || starts_with is_same_key_body (best_sent j q) (best_due j q)))

-- so it is of a query for the latest, and of any other it is as said above for all that say anything
abbrev pub contents_hold : Bool → Judged → Asked → Bool
contents_hold true j q = best_holds j q
contents_hold false j q = list_all (λ s. replier_holds j q s.client) (sayings (acts_of j))

-- so it is, the final is sent only where all that are asked have ended, and it is where they have and nothing is under way
abbrev pub query_holds : Judged → Asked → Bool
query_holds j q =
    contents_hold (asks_latest q) j q
    && ((not (is_final_sent j q) || have_ended j q) && (not (j.quiet && have_ended j q) || is_final_sent j q))

-- no reply came to a client that is none of its own
abbrev pub replies_hold : Judged → List ℕ → Bool
replies_hold j receiver = all_may_come (acts_of j) j.report receiver [] (told_to j.report receiver)

-- if a message is a request, no more of them came under its number than its client has ended and one
abbrev pub requests_hold : Judged → List ℕ → Msg → Bool
requests_hold j receiver (Sub id key) = true
requests_hold j receiver (Unsub id) = true
requests_hold j receiver (Token id key) = true
requests_hold j receiver (Untoken id) = true
requests_hold j receiver (Able id key complete) = true
requests_hold j receiver (Unable id) = true
requests_hold j receiver (Interest id current future kinds key aggregate) = true
requests_hold j receiver (EndInterest id) = true
requests_hold j receiver (ToldSub id key interest) = true
requests_hold j receiver (ToldToken id key interest) = true
requests_hold j receiver (ToldAble id key complete interest) = true
requests_hold j receiver (ToldUnsub id) = true
requests_hold j receiver (ToldUntoken id) = true
requests_hold j receiver (ToldUnable id) = true
requests_hold j receiver (ToldEnd interest) = true
requests_hold j receiver (Push tree content) = true
requests_hold j receiver (Request tree id target content) = nat_le (length (requests_to j.report receiver id)) (suc (times_ended (acts_of j) receiver id))
requests_hold j receiver (Response id content) = true
requests_hold j receiver (Final id extras) = true
requests_hold j receiver (State links) = true
requests_hold j receiver (Step source number added decl) = true
requests_hold j receiver (Snap source number decls) = true

-- if it is a final, no more came under its number than its client asked queries
abbrev pub finals_hold : Judged → List ℕ → Msg → Bool
finals_hold j receiver (Sub id key) = true
finals_hold j receiver (Unsub id) = true
finals_hold j receiver (Token id key) = true
finals_hold j receiver (Untoken id) = true
finals_hold j receiver (Able id key complete) = true
finals_hold j receiver (Unable id) = true
finals_hold j receiver (Interest id current future kinds key aggregate) = true
finals_hold j receiver (EndInterest id) = true
finals_hold j receiver (ToldSub id key interest) = true
finals_hold j receiver (ToldToken id key interest) = true
finals_hold j receiver (ToldAble id key complete interest) = true
finals_hold j receiver (ToldUnsub id) = true
finals_hold j receiver (ToldUntoken id) = true
finals_hold j receiver (ToldUnable id) = true
finals_hold j receiver (ToldEnd interest) = true
finals_hold j receiver (Push tree content) = true
finals_hold j receiver (Request tree id target content) = true
finals_hold j receiver (Response id content) = true
finals_hold j receiver (Final id extras) = nat_le (finals_in id (told_to j.report receiver)) (times_asked (acts_of j) receiver id)
finals_hold j receiver (State links) = true
finals_hold j receiver (Step source number added decl) = true
finals_hold j receiver (Snap source number decls) = true

-- so it is of who was sent something, but of what a router is sent nothing is said
abbrev pub answers_hold : Judged → ReportLine → Bool
answers_hold j (r.Handled router from msg tag) = true
answers_hold j (r.Taken router to msg tag) = is_router j.before to || (replies_hold j to && (requests_hold j to msg && finals_hold j to msg))
answers_hold j (r.Ran steps quiet) = true
answers_hold j (r.Fanned lines steps kinds) = true
answers_hold j (r.Mark line) = true
answers_hold j (r.Show router) = true
answers_hold j (r.Record links) = true
answers_hold j (r.Parent root parent) = true
answers_hold j (r.Source source number decls) = true

-- samples and requests come as one broker sends them
abbrev pub is_delivered : Judged → Bool
is_delivered j = list_all (λ x. holds_for_publisher j x.1) j.phase && list_all (λ x. may_be_sent j x) j.report

-- replies and finals do, and under each number requests come one at a time
abbrev pub is_answered : Judged → Bool
is_answered j = list_all (λ q. query_holds j q) (queries j.phase) && list_all (λ x. answers_hold j x) j.report

-- the judgement
abbrev pub judgement : Judged → Bool
judgement j = is_delivered j && is_answered j
