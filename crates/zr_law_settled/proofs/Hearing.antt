-- What one router does at an event: all that it sends tells what its base then knows, its base stays in order; and on which links it tells
-- its new record, the whole base, or a record that was newer.
use Rattle.std.proofs.Common.{◌≡◌, ℕ, Bool, true, false, cond, not, List, [], ◌∷◌, Option, Some, None, is_some, ◌⊎◌, inl, inr, refl, sym, ap, ◌∙◌, subst}
use Rattle.std.specs.Prelude.{◌==◌, ◌&&◌}
use Rattle.std.specs.Option.{option_map_or}
use Rattle.std.proofs.lemmas.Bool.{true≢false, false≢true, eqb-false, ne_eqb, and_from}
use Rattle.zr_id.specs.Record.{RecordState}
use Rattle.zr_id.specs.Zid.{is_named}
use Rattle.zr_id.specs.declared.link.LinkNo.{LinkNo}
use Rattle.zr_graph.specs.Base.{BaseState, IsInOrder, is_newer, kept}
use Rattle.zr_graph.proofs.Names.{same_refl}
use Rattle.zr_graph.proofs.Ascending.{in_order_put}
use Rattle.zr_lists.proofs.Finds.{In, in_find}
use Rattle.zr_msg.specs.declared.msg.Msg.{Msg}
use Rattle.zr_msg.specs.declared.msg.Msg.TheVariants.{Sub, Unsub, Token, Untoken, Able, Unable, Interest, EndInterest, ToldSub, ToldAble, ToldUnsub, ToldToken, ToldUntoken, ToldUnable, ToldEnd, Push, Request, Response, Final, State, Step, Snap}
use Rattle.zr_msg.specs.declared.event.Event.{Event}
use Rattle.zr_msg.specs.declared.event.Event.TheVariants.{Up, Down, From}
use Rattle.zr_msg.specs.Peer.{PeerState}
use Rattle.zr_msg.specs.declared.peer.Role.{Role}
use Rattle.zr_msg.specs.declared.peer.Role.TheVariants.{Client, Router}
use Rattle.zr_node_spec.specs.Tables.{link_at, link_to, leads_to_router}
use Rattle.zr_node_spec.specs.State.{NodeState, new_link}
use Rattle.zr_msg.specs.declared.peer.LinkPeer.{LinkPeer}
use Rattle.zr_node_spec.specs.Table.{own_link, joined, parted, own_record, all_records, is_other_router, sends_own, sends_up, sends_parted, sends_down, sends_state, sends_first, sends, with_link, base_up, base_down, base_parted, base_told, after}
use Rattle.zr_world_spec.specs.Acts.{sends_to}
use Rattle.zr_law_settled.proofs.Spreading.{Name, Known, AllOf}
use Rattle.zr_law_settled.proofs.Links.{AreKnown, linked_to, is_at, leads_is, in_with, in_without}
use Rattle.zr_law_settled.proofs.Records.{Links, known_of, note_of, notes_in, told, known_kept, base_tells, own_tells}
use Rattle.zr_law_settled.proofs.Silent.{from_silent, first_tells, down_tells_first}

-- ---- all that is sent is of the base

of_cond : (t : Name → Known Links) (b : Bool) (xs : List Msg) → AllOf t (told xs) → AllOf t (told (cond b xs []))
of_cond t true xs h = h
of_cond t false xs h = tt

module _ (n : NodeState) where
  own_of : (link : ℕ) (b : BaseState) (to : ℕ) → AllOf (known_of b) (told (sends_own n link b to))
  own_of link b to = of_cond (known_of b) (is_other_router n link to) (own_record b) (own_tells b)

  up_of : (link : ℕ) (peer : PeerState) (role : Role) (to : ℕ) → IsInOrder (base_up n.base peer role) → AllOf (known_of (base_up n.base peer role)) (told (sends_up n link peer role to))
  up_of link peer Client to h = tt
  up_of link peer Router to h = by (to == link)
    where
      by : (b : Bool) → AllOf (known_of (joined n.base (own_link peer))) (told (cond b (all_records (joined n.base (own_link peer))) (sends_own n link (joined n.base (own_link peer)) to)))
      by true = base_tells (joined n.base (own_link peer)) h
      by false = own_of link (joined n.base (own_link peer)) to

  parted_of : (link : ℕ) (peer : PeerState) (role : Role) (to : ℕ) → AllOf (known_of (base_parted n.base peer role)) (told (sends_parted n link peer role to))
  parted_of link peer Client to = tt
  parted_of link peer Router to = own_of link (parted n.base peer.id) to

  down_of : (link : ℕ) (o : Option LinkPeer) (to : ℕ) → AllOf (known_of (base_down n.base o)) (told (sends_down n link o to))
  down_of link None to = tt
  down_of link (Some l) to = parted_of link l.peer l.peer.role to

  state_of : (from : ℕ) (r : RecordState) (to : ℕ) → AllOf (known_of (base_told n from r)) (told (sends_state n from r to))
  state_of from r to = by (leads_to_router n.links from) (is_newer n.base r) (is_other_router n from to)
    where
      by : (a b c : Bool) → AllOf (known_of (cond a (cond b (kept n.base r) n.base) n.base)) (told (cond (a && b && c) (State r ∷ []) []))
      by true true true = (known_kept n.base r r.id ∙ ap (λ t. cond t (note_of r).known (known_of n.base r.id)) (same_refl r.id), tt)
      by true true false = tt
      by true false c = tt
      by false b c = tt

  silent_of : (from : LinkNo) (msg : Msg) (to : LinkNo) → notes_in msg ≡ [] → AllOf (known_of (after n (From from msg)).base) (told (sends_first n (From from msg) to))
  silent_of from msg to e = subst (λ ms. AllOf (known_of (after n (From from msg)).base) ms) (sym (from_silent n from.0 msg to.0 e)) tt

  from_of : (from : LinkNo) (msg : Msg) (to : LinkNo) → AllOf (known_of (after n (From from msg)).base) (told (sends_first n (From from msg) to))
  from_of from (Sub id key) to = silent_of from (Sub id key) to refl
  from_of from (Unsub id) to = silent_of from (Unsub id) to refl
  from_of from (Token id key) to = silent_of from (Token id key) to refl
  from_of from (Untoken id) to = silent_of from (Untoken id) to refl
  from_of from (Able id key complete) to = silent_of from (Able id key complete) to refl
  from_of from (Unable id) to = silent_of from (Unable id) to refl
  from_of from (Interest id current future kinds key aggregate) to = tt
  from_of from (EndInterest id) to = tt
  from_of from (ToldSub id key interest) to = tt
  from_of from (ToldToken id key interest) to = tt
  from_of from (ToldAble id key complete interest) to = tt
  from_of from (ToldUnsub id) to = tt
  from_of from (ToldUntoken id) to = tt
  from_of from (ToldUnable id) to = tt
  from_of from (ToldEnd interest) to = tt
  from_of from (Push tree content) to = silent_of from (Push tree content) to refl
  from_of from (Request tree id target content) to = silent_of from (Request tree id target content) to refl
  from_of from (Response id content) to = silent_of from (Response id content) to refl
  from_of from (Final id extras) to = silent_of from (Final id extras) to refl
  from_of from (State links) to = state_of from.0 links to.0
  from_of from (Step source number added decl) to = silent_of from (Step source number added decl) to refl
  from_of from (Snap source number decls) to = silent_of from (Snap source number decls) to refl

  first_of : (event : Event) (to : LinkNo) → IsInOrder (after n event).base → AllOf (known_of (after n event).base) (told (sends_first n event to))
  first_of (Up link peer) to h = up_of link.0 peer peer.role to.0 h
  first_of (Down link) to h = subst (λ ms. AllOf (known_of (after n (Down link)).base) ms) (sym (down_tells_first n link to)) (down_of link.0 (link_at n.links link.0) to.0)
  first_of (From link msg) to h = from_of link msg to

  sends_of : (event : Event) (to : LinkNo) → IsInOrder (after n event).base → AllOf (known_of (after n event).base) (told (sends n event to))
  sends_of event to h = subst (λ ms. AllOf (known_of (after n event).base) ms) (sym (first_tells n event to)) (first_of event to h)

  pub sent_of : (event : Event) (y : Name) → IsInOrder (after n event).base → AllOf (known_of (after n event).base) (told (sends_to n event y))
  sent_of event y h = by (link_to (after n event).links y)
    where
      by : (o : Option LinkPeer) → AllOf (known_of (after n event).base) (told (option_map_or (λ l. sends n event l.link) o []))
      by None = tt
      by (Some l) = sends_of event l.link h

  -- ---- the base stays in order

  order_up : (peer : PeerState) (role : Role) → IsInOrder n.base → IsInOrder (base_up n.base peer role)
  order_up peer Client h = h
  order_up peer Router h = in_order_put n.base _ h

  order_down : (o : Option LinkPeer) → IsInOrder n.base → IsInOrder (base_down n.base o)
  order_down None h = h
  order_down (Some l) h = by l.peer.role
    where
      by : (role : Role) → IsInOrder (base_parted n.base l.peer role)
      by Client = h
      by Router = in_order_put n.base _ h

  order_told : (from : ℕ) (r : RecordState) → IsInOrder n.base → IsInOrder (base_told n from r)
  order_told from r h = by (leads_to_router n.links from) (is_newer n.base r)
    where
      by : (a b : Bool) → IsInOrder (cond a (cond b (kept n.base r) n.base) n.base)
      by true true = in_order_put n.base r h
      by true false = h
      by false b = h

  order_from : (from : LinkNo) (msg : Msg) → IsInOrder n.base → IsInOrder (after n (From from msg)).base
  order_from from (Sub id key) h = h
  order_from from (Unsub id) h = h
  order_from from (Token id key) h = h
  order_from from (Untoken id) h = h
  order_from from (Able id key complete) h = h
  order_from from (Unable id) h = h
  order_from from (Interest id current future kinds key aggregate) h = h
  order_from from (EndInterest id) h = h
  order_from from (ToldSub id key interest) h = h
  order_from from (ToldToken id key interest) h = h
  order_from from (ToldAble id key complete interest) h = h
  order_from from (ToldUnsub id) h = h
  order_from from (ToldUntoken id) h = h
  order_from from (ToldUnable id) h = h
  order_from from (ToldEnd interest) h = h
  order_from from (Push tree content) h = h
  order_from from (Request tree id target content) h = h
  order_from from (Response id content) h = h
  order_from from (Final id extras) h = h
  order_from from (State links) h = order_told from.0 links h
  order_from from (Step source number added decl) h = h
  order_from from (Snap source number decls) h = h

  pub order_after : (event : Event) → IsInOrder n.base → IsInOrder (after n event).base
  order_after (Up link peer) h = order_up peer peer.role h
  order_after (Down link) h = order_down (link_at n.links link.0) h
  order_after (From link msg) h = order_from link msg h

  module _ (there : Name → Bool) where
    -- ---- on which links what is told

    -- a router link of another number is another router link
    other_is : AreKnown there n.links → (from : ℕ) (l : LinkPeer) → In l n.links → (l.link.0 ≡ from → ⊥) → there l.peer.id ≡ true → is_other_router n from l.link.0 ≡ true
    other_is h from l i apart router =
        and_from (not (l.link.0 == from)) (leads_to_router n.links l.link.0)
        (ap not (ne_eqb l.link.0 from apart))
        (leads_is there n.links h l i ∙ router)

    -- a router that has come up is told all records; any other one, which was linked before, is told the own record
    pub up_tells : AreKnown there n.links → (link : LinkNo) (peer : PeerState) → peer.role ≡ Router → (y : Name) → is_some (link_to (after n (Up link peer)).links y) ≡ true → there y ≡ true →
        (told (sends_to n (Up link peer) y) ≡ told (all_records (joined n.base (own_link peer))))
        ⊎ ((is_some (link_to n.links y) ≡ true) × (told (sends_to n (Up link peer) y) ≡ told (own_record (joined n.base (own_link peer)))))
    up_tells h link peer role y linked router = by (link_to (with_link n.links (new_link link peer)) y) refl linked
      where
        by : (o : Option LinkPeer) → link_to (with_link n.links (new_link link peer)) y ≡ o → is_some o ≡ true →
            (told (option_map_or (λ l. sends n (Up link peer) l.link) o []) ≡ told (all_records (joined n.base (own_link peer))))
            ⊎ ((is_some (link_to n.links y) ≡ true) × (told (option_map_or (λ l. sends n (Up link peer) l.link) o []) ≡ told (own_record (joined n.base (own_link peer)))))
        by None e k = absurd (false≢true k)
        by (Some l) e k = at (l.link.0 == link.0) refl
          where
            at : (t : Bool) → (l.link.0 == link.0) ≡ t →
                (told (sends n (Up link peer) l.link) ≡ told (all_records (joined n.base (own_link peer))))
                ⊎ ((is_some (link_to n.links y) ≡ true) × (told (sends n (Up link peer) l.link) ≡ told (own_record (joined n.base (own_link peer)))))
            at true s = inl (first_tells n (Up link peer) l.link
                ∙ ap told (ap (λ r. sends_up n link.0 peer r l.link.0) role ∙ ap (λ t. cond t (all_records (joined n.base (own_link peer))) (sends_own n link.0 (joined n.base (own_link peer)) l.link.0)) s))
            at false s = inr (old (in_with there n.links (new_link link peer) l found.0))
              where
                found : In l (with_link n.links (new_link link peer)) × (l.peer.id ≡ y)
                found = linked_to (with_link n.links (new_link link peer)) y l e

                old : (l ≡ new_link link peer) ⊎ (In l n.links × (l.link.0 ≡ link.0 → ⊥)) →
                    (is_some (link_to n.links y) ≡ true) × (told (sends n (Up link peer) l.link) ≡ told (own_record (joined n.base (own_link peer))))
                old (inl d) = absurd (eqb-false l.link.0 link.0 s (ap (λ (x : LinkPeer). x.link.0) d))
                old (inr p) = (
                  some_found y l p.0 found.1,
                  first_tells n (Up link peer) l.link
                      ∙ ap told (ap (λ r. sends_up n link.0 peer r l.link.0) role
                      ∙ ap (λ t. cond t (all_records (joined n.base (own_link peer))) (sends_own n link.0 (joined n.base (own_link peer)) l.link.0)) s
                      ∙ ap (λ t. cond t (own_record (joined n.base (own_link peer))) []) (other_is h link.0 l p.0 p.1 (ap there found.1 ∙ router))),
                )
                  where
                    some_found : (y : Name) (l : LinkPeer) → In l n.links → l.peer.id ≡ y → is_some (link_to n.links y) ≡ true
                    some_found y l i same =
                        let f = in_find (λ k. is_named k.peer.id y) n.links l i (ap (λ z. is_named z y) same ∙ same_refl y) in
                        ap is_some f.1

    -- once a router link went down each router to which a link is left is told the own record
    pub down_tells : AreKnown there n.links → (k : LinkPeer) → In k n.links → k.peer.role ≡ Router → (y : Name) → is_some (link_to (after n (Down k.link)).links y) ≡ true → there y ≡ true →
        told (sends_to n (Down k.link) y) ≡ told (own_record (parted n.base k.peer.id))
    down_tells h k ik role y linked router = by (link_to (after n (Down k.link)).links y) refl linked
      where
        by : (o : Option LinkPeer) → link_to (after n (Down k.link)).links y ≡ o → is_some o ≡ true →
            told (option_map_or (λ l. sends n (Down k.link) l.link) o []) ≡ told (own_record (parted n.base k.peer.id))
        by None e s = absurd (false≢true s)
        by (Some l) e s =
            let found = linked_to (after n (Down k.link)).links y l e in
            let old = in_without there n.links k.link.0 l found.0 in
            first_tells n (Down k.link) l.link
            ∙ down_tells_first n k.link l.link
            ∙ ap told (ap (λ o. sends_down n k.link.0 o l.link.0) (is_at there n.links h k ik)
            ∙ ap (λ r. sends_parted n k.link.0 k.peer r l.link.0) role
            ∙ ap (λ t. cond t (own_record (parted n.base k.peer.id)) []) (other_is h k.link.0 l old.0 old.1 (ap there found.1 ∙ router)))

    -- a newer record from a router is told to each other router
    pub state_tells : AreKnown there n.links → (k : LinkPeer) → In k n.links → there k.peer.id ≡ true → (r : RecordState) → is_newer n.base r ≡ true →
        (y : Name) → is_some (link_to n.links y) ≡ true → there y ≡ true → is_named k.peer.id y ≡ false → told (sends_to n (From k.link (State r)) y) ≡ note_of r ∷ []
    state_tells h k ik from_router r newer y linked router other = by (link_to n.links y) refl linked
      where
        by : (o : Option LinkPeer) → link_to n.links y ≡ o → is_some o ≡ true → told (option_map_or (λ l. sends n (From k.link (State r)) l.link) o []) ≡ note_of r ∷ []
        by None e s = absurd (false≢true s)
        by (Some l) e s =
            let found = linked_to n.links y l e in
            first_tells n (From k.link (State r)) l.link
            ∙ ap told (ap (λ t. cond (t && is_newer n.base r && is_other_router n k.link.0 l.link.0) (State r ∷ []) []) (leads_is there n.links h k ik ∙ from_router)
            ∙ ap (λ t. cond (t && is_other_router n k.link.0 l.link.0) (State r ∷ []) []) newer
            ∙ ap (λ t. cond t (State r ∷ []) []) (other_is h k.link.0 l found.0 (apart l found) (ap there found.1 ∙ router)))
          where
            apart : (l : LinkPeer) → In l n.links × (l.peer.id ≡ y) → l.link.0 ≡ k.link.0 → ⊥
            apart l found same =
                let one : l ≡ k = h.apart l k found.0 ik same in
                true≢false (sym (same_refl y) ∙ ap (λ z. is_named z y) (sym found.1 ∙ ap (λ (x : LinkPeer). x.peer.id) one) ∙ other)
