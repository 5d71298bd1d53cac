-- What a router holds of replies is of a kind, where the replies that came are: a reply is held as it came.
use Rattle.std.proofs.Common.{◌≡◌, ℕ, ◌==◌, ◌&&◌, not, Bool, true, false, cond, List, [], ◌∷◌, Option, Some, None, refl, ap}
use Rattle.std.specs.Cmp.Lexicographic.{slice_cmp}
use Rattle.std.specs.List.{AllByRecursion, find, fold}
use Rattle.std.specs.Option.{option_map_or}
use Rattle.std.specs.Ordering.{nat_cmp}
use Rattle.zr_lists.proofs.Each.{All-append, All-filter}
use Rattle.zr_lists.proofs.Order.{name_order}
use Rattle.zr_lists.proofs.Puts.{All-put}
use Rattle.zr_body.specs.Latest.{is_later, is_latest}
use Rattle.zr_id.specs.declared.link.LinkNo.{LinkNo}
use Rattle.zr_msg.specs.declared.content.Parts.{Parts}
use Rattle.zr_msg.specs.declared.event.Event.{Event}
use Rattle.zr_msg.specs.declared.event.Event.TheVariants.{Up, Down, From}
use Rattle.zr_msg.specs.declared.msg.Msg.{Msg}
use Rattle.zr_msg.specs.declared.msg.Msg.TheVariants.{Sub, Unsub, Token, Untoken, Able, Unable, Interest, EndInterest, ToldSub, ToldAble, ToldUnsub, ToldToken, ToldUntoken, ToldUnable, ToldEnd, Push, Request, Response, Final, State, Step, Snap}
use Rattle.zr_pend_spec.specs.declared.branch.Asker.{Asker}
use Rattle.zr_pend_spec.specs.Held.{GatheringState, gatherings_left, gatherings_off, gatherings_with, gatherings_without, held_for, held_with, is_for, put_reply, takes_place}
use Rattle.zr_pend_spec.specs.Pending.{branch, final_to, finals_of_drop}
use Rattle.zr_node_spec.specs.Queries.{asked_links, asker, gathering_if, held_at, link_no}
use Rattle.zr_node_spec.specs.State.{NodeState, tables}
use Rattle.zr_node_spec.specs.Table.{after}
use Rattle.zr_node_spec.specs.Tables.{leads_to_client}
use Rattle.zr_law_sent.specs.Sent.{Holds}

module _ (kind : Parts → Type 0) where
  abbrev AreOf : List Parts → Type 0
  AreOf replies = AllByRecursion (λ c. kind c) replies

  -- what is held for who asked
  pub found_held : (held : List GatheringState) (a : Asker) → Holds kind held → AreOf (held_for held a)
  found_held [] a h = tt
  found_held (g ∷ held) a h = by (is_for a g) (found_held held a h.1)
    where
      by : (t : Bool) → AreOf (held_for held a) → AreOf (option_map_or (λ k. k.held) (cond t (Some g) (find (λ k. is_for a k) held)) [])
      by true ih = h.0
      by false ih = ih

  -- a reply is held
  with_held : (held : List Parts) (reply : Parts) → AreOf held → kind reply → AreOf (held_with held reply)
  with_held held reply h k = by (takes_place (λ c. is_later reply.body c.body) held reply)
    where
      by : (t : Bool) → AreOf (cond t (put_reply held reply) held)
      by true = All-put (slice_cmp nat_cmp) (λ (c : Parts). c.key) name_order (λ c. kind c) held reply h k
      by false = h

  gathered_held : (held : List GatheringState) (a : Asker) (reply : Parts) → Holds kind held → kind reply → Holds kind (gatherings_with held a reply)
  gathered_held [] a reply h k = tt
  gathered_held (g ∷ held) a reply h k = (by (is_for a g), gathered_held held a reply h.1 k)
    where
      by : (t : Bool) → AreOf (cond t (record { asker = g.asker; held = held_with g.held reply }) g).held
      by true = with_held g.held reply h.0 k
      by false = h.0

  -- requests end
  ended_held : (held : List GatheringState) (a : Asker) → Holds kind held → Holds kind (gatherings_without held a)
  ended_held held a h = All-filter (λ g. not (is_for a g)) (λ g. AreOf g.held) held h

  all_ended_held : (held : List GatheringState) (askers : List Asker) → Holds kind held → Holds kind (fold gatherings_without held askers)
  all_ended_held held [] h = h
  all_ended_held held (a ∷ askers) h = all_ended_held (gatherings_without held a) askers (ended_held held a h)

  down_held : (held : List GatheringState) (link : LinkNo) (askers : List Asker) → Holds kind held → Holds kind (gatherings_left held link askers)
  down_held held link askers h = all_ended_held (gatherings_off held link) askers (All-filter (λ g. not (g.asker.link.0 == link.0)) (λ g. AreOf g.held) held h)

  -- a request begins
  begun_held : (held : List GatheringState) (latest : Bool) (a : Asker) (links : List LinkNo) → Holds kind held → Holds kind (gathering_if held latest a links)
  begun_held held latest a [] h = h
  begun_held held true a (l ∷ links) h = All-append (λ g. AreOf g.held) held (record { asker = a; held = [] } ∷ []) h (tt, tt)
  begun_held held false a (l ∷ links) h = h

  from_held : (node : NodeState) (link : LinkNo) (msg : Msg) → Holds kind node.held → ((id : ℕ) (content : Parts) → msg ≡ Response id content → kind content) → Holds kind (after node (From link msg)).held
  from_held node link (Sub id key) h k = h
  from_held node link (Unsub id) h k = h
  from_held node link (Token id key) h k = h
  from_held node link (Untoken id) h k = h
  from_held node link (Able id key complete) h k = h
  from_held node link (Unable id) h k = h
  from_held node link (Interest id current future kinds key aggregate) h k = h
  from_held node link (EndInterest id) h k = h
  from_held node link (ToldSub id key interest) h k = h
  from_held node link (ToldToken id key interest) h k = h
  from_held node link (ToldAble id key complete interest) h k = h
  from_held node link (ToldUnsub id) h k = h
  from_held node link (ToldUntoken id) h k = h
  from_held node link (ToldUnable id) h k = h
  from_held node link (ToldEnd interest) h k = h
  from_held node link (Push tree content) h k = h
  from_held node link (Request tree id target content) h k =
      begun_held node.held (leads_to_client node.links link.0 && is_latest content.body) (asker link.0 id) (asked_links (tables node) link.0 tree target content.key) h
  from_held node link (Response id content) h k = by (held_at node.pending node.held link.0 id content)
    where
      by : (o : Option Asker) → Holds kind (option_map_or (λ a. gatherings_with node.held a content) o node.held)
      by None = h
      by (Some a) = gathered_held node.held a content h (k id content refl)
  from_held node link (Final id extras) h k = by (final_to node.pending (branch (link_no link.0) id))
    where
      by : (o : Option Asker) → Holds kind (option_map_or (λ a. gatherings_without node.held a) o node.held)
      by None = h
      by (Some a) = ended_held node.held a h
  from_held node link (State links) h k = h
  from_held node link (Step source number added decl) h k = h
  from_held node link (Snap source number decls) h k = h

  -- whatever comes
  pub held_after : (node : NodeState) (event : Event) → Holds kind node.held → ((link : LinkNo) (id : ℕ) (content : Parts) → event ≡ From link (Response id content) → kind content) →
      Holds kind (after node event).held
  held_after node (Up link peer) h k = h
  held_after node (Down link) h k = down_held node.held (link_no link.0) (finals_of_drop (link_no link.0) node.pending) h
  held_after node (From link msg) h k = from_held node link msg h (λ id content e. k link id content (ap (λ m. From link m) e))
