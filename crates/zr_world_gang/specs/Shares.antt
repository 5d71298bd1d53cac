-- One router's part of a fan as plain data: what waits to be handled, the oldest first, what it has sent to routers, and the texts of its steps' lines,
-- or, once they are told, their text in order and how many steps were of each kind.
use Rattle.std.specs.Prelude.{◌≡◌, ℕ, Bool, true, not, List, [], ◌∷◌, ◌++◌, length, Option, Some, None, if◌then◌else◌}
use Rattle.std.specs.List.{AllByRecursion, concat}
use Rattle.std.specs.Option.{option_map}
use Rattle.std.specs.Ordering.{is_lt}
use Rattle.zr_orders.specs.Ranked.{ranked, text_cmp}
use Rattle.zr_id.specs.declared.link.LinkNo.{LinkNo}
use Rattle.zr_msg.specs.declared.event.Event.TheVariants.{From}
use Rattle.zr_msg.specs.declared.msg.Msg.{Msg}
use Rattle.zr_msg.specs.declared.peer.LinkPeer.{LinkPeer}
use Rattle.zr_node_spec.specs.Tables.{is_router, link_at, link_to}
use Rattle.zr_script_spec.specs.declared.report.FanSteps.{FanSteps}
use Rattle.zr_script_spec.specs.declared.report.ReportLine.TheVariants.{Handled, Taken}
use Rattle.zr_script_spec.specs.Report.{line_text}
use Rattle.zr_told_spec.specs.Hub.{HubState, HubSends, hub_after}
use Rattle.zr_world_spec.specs.Fan.{is_sample}
use Rattle.zr_world_gang.specs.declared.message.Waiting.{Waiting}
use Rattle.zr_world_gang.specs.declared.message.Sending.{Sending}

pub record ShareState : Type 0 where
  pub name : List ℕ
  pub hub : HubState
  pub input : List Waiting
  pub output : List Sending
  -- the texts of the lines of messages that were handled, that went to routers, and that were sent to clients
  pub handled : List (List ℕ)
  pub taken : List (List ℕ)
  pub sent : List (List ℕ)
  -- those that are told, in order, one behind another, and how many were of each kind
  pub lines : List (List ℕ)
  pub text : List ℕ
  pub kinds : FanSteps

abbrev pub no_steps : FanSteps
no_steps = record { handled = 0; taken = 0; sent = 0 }

-- a share of which nothing is done yet
abbrev pub new_share : List ℕ → HubState → ShareState
new_share name hub = record { name = name; hub = hub; input = []; output = []; handled = []; taken = []; sent = []; lines = []; text = []; kinds = no_steps }

-- what waits is a sample from the link to a neighbour, which is up
abbrev pub MayBeHandled : HubState → List Waiting → Type 0
MayBeHandled hub input = AllByRecursion (λ m. (is_sample m.msg ≡ true) × (option_map (λ l. l.link) (link_to hub.node.links m.name) ≡ Some m.from)) input

-- ---- one message

abbrev pub with_input : ShareState → List Waiting → ShareState
with_input s input = record { name = s.name; hub = s.hub; input = input; output = s.output; handled = s.handled; taken = s.taken; sent = s.sent; lines = s.lines; text = s.text; kinds = s.kinds }

abbrev pub with_output : ShareState → List Sending → ShareState
with_output s output = record { name = s.name; hub = s.hub; input = s.input; output = output; handled = s.handled; taken = s.taken; sent = s.sent; lines = s.lines; text = s.text; kinds = s.kinds }

-- a message goes to a router, or is sent to a client
abbrev pub to_router : ShareState → List ℕ → Msg → ℕ → ShareState
to_router s to msg tag = record {
  name = s.name;
  hub = s.hub;
  input = s.input;
  output = s.output ++ record { to = to; msg = msg; tag = tag } ∷ [];
  handled = s.handled;
  taken = s.taken ++ line_text (Taken s.name to msg tag) ∷ [];
  sent = s.sent;
  lines = s.lines;
  text = s.text;
  kinds = s.kinds;
}

abbrev pub to_client : ShareState → List ℕ → Msg → ℕ → ShareState
to_client s to msg tag = record {
  name = s.name;
  hub = s.hub;
  input = s.input;
  output = s.output;
  handled = s.handled;
  taken = s.taken;
  sent = s.sent ++ line_text (Taken s.name to msg tag) ∷ [];
  lines = s.lines;
  text = s.text;
  kinds = s.kinds;
}

-- a message goes over a link that is up
abbrev pub over : ShareState → ℕ → Option LinkPeer → Msg → ShareState
over s tag None msg = s
over s tag (Some l) msg = if is_router l.peer.role then to_router s l.peer.id msg tag else to_client s l.peer.id msg tag

abbrev pub all_over : ShareState → ℕ → List (LinkNo × Msg) → ShareState
all_over s tag [] = s
all_over s tag (m ∷ more) = all_over (over s tag (link_at s.hub.node.links m.0.0) m.1) tag more

-- the router has handled a message
abbrev pub heard : ShareState → Waiting → ShareState
heard s m = record {
  name = s.name;
  hub = hub_after s.hub (From m.from m.msg);
  input = s.input;
  output = s.output;
  handled = s.handled ++ line_text (Handled s.name m.name m.msg m.tag) ∷ [];
  taken = s.taken;
  sent = s.sent;
  lines = s.lines;
  text = s.text;
  kinds = s.kinds;
}

-- it has handled some, one after another; of what it sends for one the order is told link by link
abbrev pub HasHandled : ShareState → List Waiting → ShareState → Type 0
HasHandled s [] t = t ≡ s
HasHandled s (m ∷ more) t = (out : List (LinkNo × Msg)) × HubSends s.hub (From m.from m.msg) [] out × HasHandled (all_over (heard s m) m.tag out) more t

-- ---- what is told

-- the texts of all its lines
abbrev pub lines_in : ShareState → List (List ℕ)
lines_in s = s.handled ++ (s.taken ++ s.sent)

-- its lines are told
abbrev pub told : ShareState → ShareState
told s = record {
  name = s.name;
  hub = s.hub;
  input = s.input;
  output = s.output;
  handled = [];
  taken = [];
  sent = [];
  lines = ranked (lines_in s);
  text = concat (ranked (lines_in s));
  kinds = record { handled = length s.handled; taken = length s.taken; sent = length s.sent };
}

-- whether the first of some texts is not below another text; so it is where there are none
abbrev pub is_behind : List ℕ → List (List ℕ) → Bool
is_behind last [] = true
is_behind last (t ∷ ts) = not (is_lt (text_cmp t last))

-- the last of some texts, or the one before them where there are none
abbrev pub last_behind : List ℕ → List (List ℕ) → List ℕ
last_behind last [] = last
last_behind last (t ∷ ts) = last_behind t ts
