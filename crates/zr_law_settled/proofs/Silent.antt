-- What tells nothing of links: changes and snapshots of logs, samples, and whatever else is no record. So of all that an event sends, only
-- what it sends first tells of links, and of that only the records.
use Rattle.std.proofs.Common.{◌≡◌, ◌+◌, ℕ, Bool, true, false, cond, List, [], ◌∷◌, ◌++◌, Option, Some, None, refl, ap, ◌∙◌, append-nil}
use Rattle.std.specs.Prelude.{◌==◌, ◌&&◌, not, flat_map}
use Rattle.std.specs.Option.{option_map_or}
use Rattle.std.proofs.lemmas.Grind.{flat_map-append}
use Rattle.zr_id.specs.Record.{RecordState}
use Rattle.zr_id.specs.declared.link.LinkNo.{LinkNo}
use Rattle.zr_msg.specs.declared.content.Parts.{Parts}
use Rattle.zr_msg.specs.declared.msg.Msg.{Msg}
use Rattle.zr_msg.specs.declared.msg.Msg.TheVariants.{Sub, Unsub, Token, Untoken, Able, Unable, Interest, EndInterest, ToldSub, ToldAble, ToldUnsub, ToldToken, ToldUntoken, ToldUnable, ToldEnd, Push, Request, Response, Final, State, Step, Snap}
use Rattle.zr_msg.specs.declared.event.Event.{Event}
use Rattle.zr_msg.specs.declared.event.Event.TheVariants.{Down}
use Rattle.zr_msg.specs.declared.peer.LinkPeer.{LinkPeer}
use Rattle.zr_msg.specs.declared.peer.Role.{Role}
use Rattle.zr_msg.specs.declared.peer.Role.TheVariants.{Client, Router}
use Rattle.zr_local.specs.declared.row.Row.{Row}
use Rattle.zr_log.specs.declared.log.Log.{Log}
use Rattle.zr_log.specs.Log.{Change}
use Rattle.zr_log.specs.Known.{position, is_next, is_newer}
use Rattle.zr_node_spec.specs.Tables.{TableState, link_at, is_router, is_to_child, leads_to_router}
use Rattle.zr_node_spec.specs.Changes.{steps, changes}
use Rattle.zr_node_spec.specs.Samples.{subscribes, leads_to_subscriber, tree_of, push_to, push_on, push_along}
use Rattle.zr_node_spec.specs.Snapshots.{is_new_child, snapshot, snapshots_on, sends_snapshots}
use Rattle.zr_node_spec.specs.State.{NodeState, tables}
use Rattle.zr_node_spec.specs.Table.{rows_left, sends_rows, sends_down, sends_from, sends_first, sends, after_from, after}
use Rattle.zr_law_settled.proofs.Spreading.{Name}
use Rattle.zr_law_settled.proofs.Records.{notes_in, told}
use Rattle.zr_law_settled.proofs.Answering.{TellsNothing, request_silent, reply_silent, final_silent, behind_ends}

pub told-append : (xs ys : List Msg) → told (xs ++ ys) ≡ told xs ++ told ys
told-append xs ys = flat_map-append notes_in xs ys

-- ---- any reading of messages

module _ {X : Type 0} (tells : Msg → List X) where
  pub silent_if : (t : Bool) (xs : List Msg) → flat_map tells xs ≡ [] → flat_map tells (cond t xs []) ≡ []
  silent_if true xs e = e
  silent_if false xs e = refl

  -- a sample sends nothing but samples
  module _ (t : TableState) (from : ℕ) (content : Parts) (silent : (tree : Option Name) → tells (Push tree content) ≡ []) where
    push_silent_to : (tree : Name) (l : LinkPeer) (role : Role) → flat_map tells (push_to t from tree content l role) ≡ []
    push_silent_to tree l Client = silent_if (not (l.link.0 == from) && subscribes t.rows l.link.0 content.key) (Push None content ∷ []) (ap (λ z. z ++ []) (silent None))
    push_silent_to tree l Router = silent_if (leads_to_subscriber t tree content.key l.peer.id) (Push (Some tree) content ∷ []) (ap (λ z. z ++ []) (silent (Some tree)))

    push_silent_on : (tree : Name) (o : Option LinkPeer) → flat_map tells (push_on t from tree content o) ≡ []
    push_silent_on tree None = refl
    push_silent_on tree (Some l) = push_silent_to tree l l.peer.role

    pub push_silent : (tree : Option Name) (to : ℕ) → flat_map tells (push_along t from tree content to) ≡ []
    push_silent None to = refl
    push_silent (Some tree) to = push_silent_on tree (link_at t.links to)

steps_silent : (source : Name) (number : ℕ) (cs : List Change) → told (steps source number cs) ≡ []
steps_silent source number [] = refl
steps_silent source number (c ∷ cs) = steps_silent source (number + 1) cs

-- ---- snapshots

module _ (t : TableState) (before : List RecordState) where
  each_silent : (name : Name) (logs : List Log) → told (flat_map (λ log. cond (is_new_child before t.base.records t.base.me log.source name) (snapshot log ∷ []) []) logs) ≡ []
  each_silent name [] = refl
  each_silent name (log ∷ logs) = by (is_new_child before t.base.records t.base.me log.source name) (each_silent name logs)
    where
      more : List Msg
      more = flat_map (λ log. cond (is_new_child before t.base.records t.base.me log.source name) (snapshot log ∷ []) []) logs

      by : (b : Bool) → told more ≡ [] → told (cond b (snapshot log ∷ []) [] ++ more) ≡ []
      by true ih = ih
      by false ih = ih

  pub snapshots_silent : (to : ℕ) → told (sends_snapshots t before to) ≡ []
  snapshots_silent to = by (link_at t.links to)
    where
      by : (o : Option LinkPeer) → told (option_map_or (λ l. snapshots_on t before l) o []) ≡ []
      by None = refl
      by (Some l) = silent_if notes_in (is_router l.peer.role) _ (each_silent l.peer.id t.known.logs)

-- ---- events

-- a query tells nothing of links, nor does what answers it
no_notes : TellsNothing notes_in
no_notes = record { asks = λ tree number target content. refl; replies = λ number content. refl; ends = λ number extras. refl }

module _ (n : NodeState) where
  rows_silent : (rows : List Row) (to : ℕ) → told (sends_rows n rows to) ≡ []
  rows_silent rows to = silent_if notes_in (is_to_child (tables n) n.base.me to) _ (steps_silent n.base.me (position n.known n.base.me) (changes n.rows rows))

  pub from_silent : (from : ℕ) (msg : Msg) (to : ℕ) → notes_in msg ≡ [] → told (sends_from n from msg to) ≡ []
  from_silent from (Sub id key) to e = rows_silent _ to
  from_silent from (Unsub id) to e = rows_silent _ to
  from_silent from (Token id key) to e = rows_silent _ to
  from_silent from (Untoken id) to e = rows_silent _ to
  from_silent from (Able id key complete) to e = rows_silent _ to
  from_silent from (Unable id) to e = rows_silent _ to
  from_silent from (Interest id current future kinds key aggregate) to e = refl
  from_silent from (EndInterest id) to e = refl
  from_silent from (ToldSub id key interest) to e = refl
  from_silent from (ToldToken id key interest) to e = refl
  from_silent from (ToldAble id key complete interest) to e = refl
  from_silent from (ToldUnsub id) to e = refl
  from_silent from (ToldUntoken id) to e = refl
  from_silent from (ToldUnable id) to e = refl
  from_silent from (ToldEnd interest) to e = refl
  from_silent from (Push tree content) to e = push_silent notes_in (tables n) from content (λ tree. refl) (tree_of (tables n) (link_at n.links from) tree) to
  from_silent from (Request tree id target content) to e = request_silent notes_in no_notes (tables n) n.pending from tree id target content to
  from_silent from (Response id content) to e = reply_silent notes_in no_notes n.pending n.held from id content to
  from_silent from (Final id extras) to e = final_silent notes_in no_notes n.pending n.held from id extras to
  from_silent from (State links) to e = absurd (cc)
  from_silent from (Step source number added decl) to e =
      silent_if notes_in (leads_to_router n.links from && (is_next n.known source number && is_to_child (tables n) source to)) (Step source number added decl ∷ []) refl
  from_silent from (Snap source number decls) to e =
      silent_if notes_in (leads_to_router n.links from && (is_newer n.known source number && is_to_child (tables n) source to)) (Snap source number decls ∷ []) refl

  -- and what tells nothing leaves the base as it is
  pub base_silent : (from : ℕ) (msg : Msg) → notes_in msg ≡ [] → (after_from n from msg).base ≡ n.base
  base_silent from (Sub id key) e = refl
  base_silent from (Unsub id) e = refl
  base_silent from (Token id key) e = refl
  base_silent from (Untoken id) e = refl
  base_silent from (Able id key complete) e = refl
  base_silent from (Unable id) e = refl
  base_silent from (Interest id current future kinds key aggregate) e = refl
  base_silent from (EndInterest id) e = refl
  base_silent from (ToldSub id key interest) e = refl
  base_silent from (ToldToken id key interest) e = refl
  base_silent from (ToldAble id key complete interest) e = refl
  base_silent from (ToldUnsub id) e = refl
  base_silent from (ToldUntoken id) e = refl
  base_silent from (ToldUnable id) e = refl
  base_silent from (ToldEnd interest) e = refl
  base_silent from (Push tree content) e = refl
  base_silent from (Request tree id target content) e = refl
  base_silent from (Response id content) e = refl
  base_silent from (Final id extras) e = refl
  base_silent from (State links) e = absurd (cc)
  base_silent from (Step source number added decl) e = refl
  base_silent from (Snap source number decls) e = refl

  -- what an event sends tells what it sends first
  pub first_tells : (event : Event) (to : LinkNo) → told (sends n event to) ≡ told (sends_first n event to)
  first_tells event to =
      told-append (sends_first n event to) (sends_snapshots (tables (after n event)) n.base.records to.0)
      ∙ ap (λ z. told (sends_first n event to) ++ z) (snapshots_silent (tables (after n event)) n.base.records to.0)
      ∙ append-nil (told (sends_first n event to))

  pub down_tells_first : (link to : LinkNo) → told (sends_first n (Down link) to) ≡ told (sends_down n link.0 (link_at n.links link.0) to.0)
  down_tells_first link to =
      behind_ends notes_in no_notes n.pending n.held link.0 to.0 (sends_down n link.0 (link_at n.links link.0) to.0 ++ sends_rows n (rows_left n link.0) to.0)
      ∙ told-append (sends_down n link.0 (link_at n.links link.0) to.0) (sends_rows n (rows_left n link.0) to.0)
      ∙ ap (λ z. told (sends_down n link.0 (link_at n.links link.0) to.0) ++ z) (rows_silent (rows_left n link.0) to.0)
      ∙ append-nil (told (sends_down n link.0 (link_at n.links link.0) to.0))
