-- What clients were sent, by the report alone: the samples, requests, replies and finals among the messages that it tells were taken for a client.
use Rattle.std.specs.Prelude.{ℕ, zero, suc, ◌==◌, Bool, false, if◌then◌else◌, List, [], ◌∷◌, map, filter, Option, Some, None}
use Rattle.std.specs.List.{flat_map, count_by, filter_map}
use Rattle.zr_id.specs.Zid.{is_named}
use Rattle.zr_msg.specs.declared.msg.Msg.{Msg}
use Rattle.zr_msg.specs.declared.msg.Msg.TheVariants.{Sub, Unsub, Token, Untoken, Able, Unable, Interest, EndInterest, ToldSub, ToldAble, ToldUnsub, ToldToken, ToldUntoken, ToldUnable, ToldEnd, Push, Request, Response, Final, State, Step, Snap}
use Rattle.zr_script_spec.specs.declared.report.ReportLine.{ReportLine}
use Rattle.zr_script_spec.specs.declared.report.ReportLine.TheVariants as r
use Rattle.zr_guarantee.specs.Item.{Item, Carried, Sample, Query, Reply}

-- ---- samples and requests

-- what a message carries, if it is a sample or a request
abbrev pub carried_by : Msg → Option Carried
carried_by (Sub id key) = None
carried_by (Unsub id) = None
carried_by (Token id key) = None
carried_by (Untoken id) = None
carried_by (Able id key complete) = None
carried_by (Unable id) = None
carried_by (Interest id current future kinds key aggregate) = None
carried_by (EndInterest id) = None
carried_by (ToldSub id key interest) = None
carried_by (ToldToken id key interest) = None
carried_by (ToldAble id key complete interest) = None
carried_by (ToldUnsub id) = None
carried_by (ToldUntoken id) = None
carried_by (ToldUnable id) = None
carried_by (ToldEnd interest) = None
carried_by (Push tree content) = Some (Sample content)
carried_by (Request tree id target content) = Some (Query target content)
carried_by (Response id content) = None
carried_by (Final id extras) = None
carried_by (State links) = None
carried_by (Step source number added decl) = None
carried_by (Snap source number decls) = None

-- a sample or a request, if there is one, with the number of the line that its tag names
abbrev pub items_of : Option Carried → ℕ → List Item
items_of None tag = []
items_of (Some carried) tag = record { line = tag; carried = carried } ∷ []

-- the sample or the request that a message is, if it is one
abbrev pub item_of : Msg → ℕ → List Item
item_of msg tag = items_of (carried_by msg) tag

-- a message that a report line says was sent to the receiver, with its tag, if it says so
pub record Told : Type 0 where
  pub msg : Msg
  pub tag : ℕ

abbrev pub told_in : List ℕ → ReportLine → Option Told
told_in receiver (r.Handled router from msg tag) = None
told_in receiver (r.Taken router to msg tag) = if is_named receiver to then Some (record { msg = msg; tag = tag }) else None
told_in receiver (r.Ran steps quiet) = None
told_in receiver (r.Fanned lines steps kinds) = None
told_in receiver (r.Mark line) = None
told_in receiver (r.Show router) = None
told_in receiver (r.Record links) = None
told_in receiver (r.Parent root parent) = None
told_in receiver (r.Source source number decls) = None

-- all messages that the receiver was sent, in order
abbrev pub told_to : List ReportLine → List ℕ → List Told
told_to report receiver = filter_map (told_in receiver) report

-- the samples and requests among them
abbrev pub sent_to : List ReportLine → List ℕ → List Item
sent_to report receiver = flat_map (λ x. item_of x.msg x.tag) (told_to report receiver)

-- ---- requests under a number

-- a message is a request of the number
abbrev pub is_request : ℕ → Msg → Bool
is_request under (Sub id key) = false
is_request under (Unsub id) = false
is_request under (Token id key) = false
is_request under (Untoken id) = false
is_request under (Able id key complete) = false
is_request under (Unable id) = false
is_request under (Interest id current future kinds key aggregate) = false
is_request under (EndInterest id) = false
is_request under (ToldSub id key interest) = false
is_request under (ToldToken id key interest) = false
is_request under (ToldAble id key complete interest) = false
is_request under (ToldUnsub id) = false
is_request under (ToldUntoken id) = false
is_request under (ToldUnable id) = false
is_request under (ToldEnd interest) = false
is_request under (Push tree content) = false
is_request under (Request tree id target content) = id == under
is_request under (Response id content) = false
is_request under (Final id extras) = false
is_request under (State links) = false
is_request under (Step source number added decl) = false
is_request under (Snap source number decls) = false

-- the lines of the queries whose requests the receiver was sent under a number, in order
abbrev pub requests_to : List ReportLine → List ℕ → ℕ → List ℕ
requests_to report receiver number = map (λ x. x.tag) (filter (λ x. is_request number x.msg) (told_to report receiver))

-- ---- replies and finals

-- the reply that a message is, if it is one, with the number of the line that its tag names
abbrev pub reply_in : ℕ → Msg → Option Reply
reply_in tag (Sub id key) = None
reply_in tag (Unsub id) = None
reply_in tag (Token id key) = None
reply_in tag (Untoken id) = None
reply_in tag (Able id key complete) = None
reply_in tag (Unable id) = None
reply_in tag (Interest id current future kinds key aggregate) = None
reply_in tag (EndInterest id) = None
reply_in tag (ToldSub id key interest) = None
reply_in tag (ToldToken id key interest) = None
reply_in tag (ToldAble id key complete interest) = None
reply_in tag (ToldUnsub id) = None
reply_in tag (ToldUntoken id) = None
reply_in tag (ToldUnable id) = None
reply_in tag (ToldEnd interest) = None
reply_in tag (Push tree content) = None
reply_in tag (Request tree id target content) = None
reply_in tag (Response id content) = Some (record { line = tag; number = id; content = content })
reply_in tag (Final id extras) = None
reply_in tag (State links) = None
reply_in tag (Step source number added decl) = None
reply_in tag (Snap source number decls) = None

-- the replies among some messages, in order
abbrev pub replies_in : List Told → List Reply
replies_in told = filter_map (λ x. reply_in x.tag x.msg) told

-- a message is a final of the number
abbrev pub is_final : ℕ → Msg → Bool
is_final under (Sub id key) = false
is_final under (Unsub id) = false
is_final under (Token id key) = false
is_final under (Untoken id) = false
is_final under (Able id key complete) = false
is_final under (Unable id) = false
is_final under (Interest id current future kinds key aggregate) = false
is_final under (EndInterest id) = false
is_final under (ToldSub id key interest) = false
is_final under (ToldToken id key interest) = false
is_final under (ToldAble id key complete interest) = false
is_final under (ToldUnsub id) = false
is_final under (ToldUntoken id) = false
is_final under (ToldUnable id) = false
is_final under (ToldEnd interest) = false
is_final under (Push tree content) = false
is_final under (Request tree id target content) = false
is_final under (Response id content) = false
is_final under (Final id extras) = id == under
is_final under (State links) = false
is_final under (Step source number added decl) = false
is_final under (Snap source number decls) = false

-- how many finals of a number are among some messages
abbrev pub finals_in : ℕ → List Told → ℕ
finals_in number told = count_by (λ x. is_final number x.msg) told

-- the messages behind the first so many finals of a number
abbrev pub behind_finals : ℕ → ℕ → List Told → List Told
behind_finals number zero told = told
behind_finals number (suc n) [] = []
behind_finals number (suc n) (x ∷ told) = if is_final number x.msg then behind_finals number n told else behind_finals number (suc n) told

-- the messages up to the next final of a number; replies of other numbers stand among them
abbrev pub up_to_final : ℕ → List Told → List Told
up_to_final number [] = []
up_to_final number (x ∷ told) = if is_final number x.msg then x ∷ [] else x ∷ up_to_final number told

-- those of a turn: behind so many finals, up to the next one
abbrev pub told_in_turn : ℕ → ℕ → List Told → List Told
told_in_turn number turns told = up_to_final number (behind_finals number turns told)
