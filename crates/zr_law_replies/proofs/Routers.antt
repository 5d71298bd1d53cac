-- What a router does when it hears of an event is fine on its links: a request that it asks is of the query of the one that came, and a reply that it passes
-- back is said to the query of who asked (`handle_fits`). Where a link comes up or goes down it does neither (`quiet_fits`).
use Rattle.std.proofs.Common.{◌≡◌, ℕ, ◌==◌, ◌⊎◌, inl, inr, not, true, false, cond, List, ◌∷◌, filter, Option, Some, None, is_some, refl, sym, ap, ◌∙◌, subst}
use Rattle.std.specs.Prelude.{◌&&◌, ◌||◌}
use Rattle.std.specs.List.{AllByRecursion, find}
use Rattle.std.specs.Option.{option_map, option_map_or, option_and_then}
use Rattle.zr_id.specs.Zid.{is_named}
use Rattle.std.proofs.lemmas.Bool.{false≢true, eq-eqb, and_parts, and_from, not-true}
use Rattle.std.proofs.lemmas.Option.{none-some}
use Rattle.zr_lists.proofs.Finds.{In, in_any}
use Rattle.zr_lists.proofs.Elements.{passes_each}
use Rattle.zr_body.specs.Latest.{is_latest}
use Rattle.zr_msg.specs.declared.content.Parts.{Parts}
use Rattle.zr_msg.specs.declared.event.Event.{Event}
use Rattle.zr_msg.specs.declared.event.Event.TheVariants.{Up, Down, From}
use Rattle.zr_msg.specs.declared.msg.Msg.{Msg}
use Rattle.zr_msg.specs.declared.msg.Msg.TheVariants.{Sub, Unsub, Token, Untoken, Able, Unable, Interest, EndInterest, ToldSub, ToldAble, ToldUnsub, ToldToken, ToldUntoken, ToldUnable, ToldEnd, Push, Request, Response, Final, State, Step, Snap}
use Rattle.zr_msg.specs.declared.msg.Target.{Target}
use Rattle.zr_msg.specs.declared.peer.LinkPeer.{LinkPeer}
use Rattle.zr_id.specs.declared.link.LinkNo.{LinkNo}
use Rattle.zr_script_spec.specs.declared.report.ReportLine.{ReportLine}
use Rattle.zr_pend_spec.specs.declared.branch.Asker.{Asker}
use Rattle.zr_pend_spec.specs.Row.{RowState, has}
use Rattle.zr_pend_spec.specs.Pending.{branch}
use Rattle.zr_pend_spec.specs.Readings.{back}
use Rattle.zr_node_spec.specs.Tables.{link_at, link_to, leads_to_client}
use Rattle.zr_node_spec.specs.Tables.{is_router as is_node}
use Rattle.zr_node_spec.specs.State.{NodeState}
use Rattle.zr_node_spec.specs.Table.{after}
use Rattle.zr_node_spec.proofs.LinksStay.{links_from}
use Rattle.zr_world_spec.specs.World.{Tagged, RouterState, WorldState, router_of}
use Rattle.zr_world_spec.specs.Moments.{Numbered}
use Rattle.zr_world_spec.specs.Sound.{AreUnique, IsSound}
use Rattle.zr_world_spec.proofs.Links.{numbered_link, named_link}
use Rattle.zr_law_settled.proofs.Orderly.{Orderly}
use Rattle.zr_law_queries.specs.Link.{Ask, Answer, ask, reply, has_number, answers_number, asked_by}
use Rattle.zr_law_queries.proofs.Hops.{front_ask}
use Rattle.zr_law_numbers.specs.Waiting.{Asked, Said, Place, waits, back_at, link_of, is_whole}
use Rattle.zr_law_numbers.specs.Deeds.{Asks, Hears, Closes, Leaves, Takes, Replies, Ends, place_in, IsPassedOn, IsPassedBack, is_ending, IsReleased, IsSaid}
use Rattle.zr_law_numbers.proofs.Waits.{asks_among, answers_among, router_back}
use Rattle.zr_law_numbers.proofs.HeardLinks.{Fits}
use Rattle.zr_law_numbers.proofs.Whole.{router_alone, whole_turned}
use Rattle.zr_guarantee.specs.Latest.{asks_latest}
use Rattle.zr_guarantee.specs.Queries.{queries}
use Rattle.zr_guarantee.specs.Queries.{Asked as Query}
use Rattle.zr_law_replies.specs.Answers.{IsAsked, is_latest_of, is_other_line, IsSaidTo}
use Rattle.zr_law_replies.proofs.Gathers.{in_held_with, Begun, Gains, IsGathering, gather_step}
use Rattle.zr_law_replies.proofs.Gathered.{asker_of_link, gathered_by, gathered_at, IsGathered, GathersHold, by_link, gathered_kept, released_said, in_held, old_gathered, is_from}
use Rattle.zr_law_replies.proofs.QueryTags.{agree, asks_alike, comes_well}
use Rattle.zr_law_replies.proofs.Links.{Lines, SaysTo, AsksFine, FineAsk, FineSay, Grows}
use Rattle.zr_law_replies.proofs.Lines.{LinesHold, AllShow, kept_pending}
use Rattle.zr_law_replies.proofs.Askers.{AskersHold}

-- ---- no message came

module _ (acts' : List Numbered) (report' : List ReportLine) (w v : WorldState) (lines : Lines) (a : List ℕ) (node : NodeState) where
  -- where a link comes up nothing is said
  pub quiet_fits : (event : Event) (tag : ℕ) → is_from event ≡ false → is_ending event ≡ false → Fits (FineAsk acts' w v lines) (FineSay acts' report' v lines) a node event tag
  quiet_fits event tag other quiet y (Asks n q b) m = absurd (false≢true (sym other ∙ ap is_from m.2.came))
  quiet_fits event tag other quiet y (Hears n) m = (tt, tt)
  quiet_fits event tag other quiet y (Closes n) m = (tt, tt)
  quiet_fits event tag other quiet y (Leaves n) m = (tt, tt)
  quiet_fits event tag other quiet y (Takes n) m = (tt, tt)
  quiet_fits event tag other quiet y (Replies n said) m = by m.2
    where
      by : IsSaid node event tag m.0.link n said → FineAsk acts' w v lines a y (Replies n said) × FineSay acts' report' v lines y a (Replies n said)
      by (inl p) = absurd (false≢true (sym other ∙ ap is_from p.came))
      by (inr p) = absurd (false≢true (sym quiet ∙ p.ends))
  quiet_fits event tag other quiet y (Ends n) m = (tt, tt)

-- ---- what was held is released

module _ (acts : List Numbered) (report : List ReportLine) (acts' : List Numbered) (report' : List ReportLine) (grows : Grows acts report acts' report') (w v : WorldState) (lines : Lines)
    (gathers : GathersHold acts report w lines) (a : List ℕ) (r : RouterState) (found : router_of w.routers a ≡ Some r) (tag : ℕ) (other : is_other_line acts' tag ≡ true)
    (kept_whole : (y : List ℕ) → is_whole v y a ≡ true → is_whole w y a ≡ true) where
  pub releases_fine : (event : Event) (y : List ℕ) (n : ℕ) (said : Said) (l : LinkPeer) → link_to r.node.links y ≡ Some l → IsReleased r.node event tag l.link n said → is_whole v y a ≡ true →
      IsSaidTo acts' report' y (lines y a n) said
  releases_fine event y n said l e m there =
      let held = in_held r.node (asker_of_link l n) m.content m.held in
      let is : IsGathered acts report y (lines y a n) held.0 = gathers a y n held.0 (kept_whole y there) (old_gathered w a r found y n held.0 l e held.1) in
      let grown : IsGathered acts' report' y (lines y a n) held.0 = record {
        latest = grows.latest y (lines y a n) is.latest;
        said = λ c i. let s = is.said c i in (s.0, grows.said y (lines y a n) (record { line = s.0; content = c }) s.1);
      } in
      subst (λ z. IsSaidTo acts' report' y (lines y a n) z) (sym m.reply) (released_said acts' report' y (lines y a n) held.0 grown m.content held.2 tag other)

  -- where a link goes down
  pub down_fits : (link : LinkNo) → Fits (FineAsk acts' w v lines) (FineSay acts' report' v lines) a r.node (Down link) tag
  down_fits link y (Asks n q b) m = absurd (false≢true (ap is_from m.2.came))
  down_fits link y (Hears n) m = (tt, tt)
  down_fits link y (Closes n) m = (tt, tt)
  down_fits link y (Leaves n) m = (tt, tt)
  down_fits link y (Takes n) m = (tt, tt)
  down_fits link y (Replies n said) m = (tt, λ there. by m.2 there)
    where
      by : IsSaid r.node (Down link) tag m.0.link n said → is_whole v y a ≡ true → IsSaidTo acts' report' y (lines y a n) said
      by (inl p) there = absurd (false≢true (ap is_from p.came))
      by (inr p) there = releases_fine (Down link) y n said m.0 m.1 p there
  down_fits link y (Ends n) m = (tt, tt)

-- ---- a message came

module _ (acts : List Numbered) (report : List ReportLine) (acts' : List Numbered) (report' : List ReportLine) (grows : Grows acts report acts' report') (w v : WorldState) (lines : Lines)
    (sound : IsSound w) (orderly : Orderly w) (shows : AllShow w) (holds : LinesHold acts report w lines) (a : List ℕ) (r : RouterState) (found : router_of w.routers a ≡ Some r)
    (from : List ℕ) (k : LinkPeer) (linked : link_to r.node.links from ≡ Some k) (msg : Msg) (tag : ℕ) (rest : List Tagged) (first : waits w from a ≡ record { msg = msg; tag = tag } ∷ rest)
    (whole : is_whole w from a ≡ true) (kept_whole : (y : List ℕ) → is_whole v y a ≡ true → is_whole w y a ≡ true) (gathers : GathersHold acts report w lines)
    (well : comes_well acts (record { msg = msg; tag = tag }) ≡ true) (askers : AskersHold acts w lines) (silent : (line : ℕ) → is_latest_of acts a line ≡ false) where
  unique : AreUnique r.node.links
  unique = sound.unique a r found

  placed : (y : List ℕ) (l : LinkPeer) → link_to r.node.links y ≡ Some l → (n : ℕ) → place_in r.node (record { link = l.link; number = n }) ≡ Some (record { name = y; number = n })
  placed y l e n =
      ap (λ o. option_map (λ (z : LinkPeer). record { name = z.peer.id; number = n }) o) (numbered_link r.node.links unique y l e)
      ∙ ap (λ z. Some (record { name = z; number = n })) (named_link r.node.links y l e)

  backs : (y : List ℕ) (l : LinkPeer) → link_to r.node.links y ≡ Some l → (n : ℕ) →
      back_at w a y n ≡ option_map (λ o. option_and_then (λ z. place_in r.node z) o) (back r.node.pending (branch l.link n))
  backs y l e n =
      router_back w a y r found (router_alone w orderly a r found) n
      ∙ ap (λ o. option_and_then (λ (z : LinkPeer). option_map (λ q. option_and_then (λ p. place_in r.node p) q) (back r.node.pending (branch z.link n))) o) e

  -- what comes to one that asks for no latest comes with its own line, to whomever it goes on
  said_on : (name other : List ℕ) (line : ℕ) (said : Said) → is_latest_of acts name line ≡ false → IsSaidTo acts report name line said → IsSaidTo acts report other line said
  said_on name other line said none s = record { place = s.place; saying = s.saying; stands = s.stands; line_is = by s.line_is; reply_is = s.reply_is; query = s.query }
    where
      by : (s.saying.line ≡ said.line) ⊎ ((is_latest_of acts name line ≡ true) × (is_other_line acts said.line ≡ true)) → (s.saying.line ≡ said.line) ⊎ ((is_latest_of acts other line ≡ true) × (is_other_line acts said.line ≡ true))
      by (inl e) = inl e
      by (inr e) = absurd (false≢true (sym none ∙ e.0))

  -- the request that came is of the query of its number, and pending for who sent it
  pub record Came (id : ℕ) : Type 0 where
    pub line : lines from a id ≡ tag
    pub by : Option Place
    pub pending : back_at w from a id ≡ Some by

  came_request : (tree : Option (List ℕ)) (id : ℕ) (target : Target) (content : Parts) → msg ≡ Request tree id target content → Came id
  came_request tree id target content e =
      let hops = shows.links from a whole in
      let asks : (link_of w from a).asks ≡ ask id (record { line = tag; tree = tree; target = target; content = content }) ∷ asks_among rest =
      ap asks_among first ∙ ap (λ z. asks_among (record { msg = z; tag = tag } ∷ rest)) e in
      let front = front_ask (link_of w from a) hops.0 hops.1 id (record { line = tag; tree = tree; target = target; content = content }) (asks_among rest) asks in
      let all : AllByRecursion (λ (z : Ask Asked). z.request.line ≡ lines from a id) (filter (has_number id) (link_of w from a).asks) = (holds.is from a id whole).asks in
      let here : filter (has_number id) (link_of w from a).asks ≡ ask id (record { line = tag; tree = tree; target = target; content = content }) ∷ filter (has_number id) (asks_among rest) =
      ap (filter (has_number id)) asks
      ∙ ap (λ b. cond b (ask id (record { line = tag; tree = tree; target = target; content = content }) ∷ filter (has_number id) (asks_among rest)) (filter (has_number id) (asks_among rest))) (eq-eqb id id refl) in
      record {
        line = sym (subst (λ zs. AllByRecursion (λ (z : Ask Asked). z.request.line ≡ lines from a id) zs) here all).0;
        by = front.hop.0;
        pending = (hops.1 id).back ∙ ap asked_by front.hop.1;
      }

  asks_fine : (y : List ℕ) (n : ℕ) (q : Asked) (b : Option Place) (l : LinkPeer) → link_to r.node.links y ≡ Some l → IsPassedOn r.node (From k.link msg) tag l.link n q b → AsksFine acts' w v lines a y n q b
  asks_fine y n q b l e m =
      let same_link : k.link ≡ m.link = ap link_in m.came in
      let same_msg : msg ≡ Request m.tree m.id m.target m.content = ap (λ z. msg_in msg z) m.came in
      let came = came_request m.tree m.id m.target m.content same_msg in
      record {
        asked = subst (λ z. IsAsked acts' z) (came.line ∙ sym m.line) (grows.asked (lines from a m.id) ((holds.is from a m.id whole).asked came.by came.pending));
        free = backs y l e n ∙ ap (λ o. option_map (λ z. option_and_then (λ p. place_in r.node p) z) o) m.free;
        asker = λ p f there.
            let one : Some (record { name = from; number = m.id }) ≡ Some p =
            sym (ap (λ z. place_in r.node (record { link = z; number = m.id })) (sym same_link) ∙ placed from k linked m.id) ∙ sym m.asker ∙ f in
            let here : record { name = from; number = m.id } ≡ p = cc in (
              ap (λ (z : Place). lines z.name a z.number) (sym here) ∙ came.line ∙ sym m.line,
              came.by,
              ap (λ (z : Place). back_at w z.name a z.number) (sym here) ∙ came.pending,
            );
      }
    where
      link_in : Event → LinkNo
      link_in (Up link peer) = link
      link_in (Down link) = link
      link_in (From link z) = link

      msg_in : Msg → Event → Msg
      msg_in d (Up link peer) = d
      msg_in d (Down link) = d
      msg_in d (From link z) = z

  says_fine : (y : List ℕ) (n : ℕ) (said : Said) (l : LinkPeer) → link_to r.node.links y ≡ Some l → IsPassedBack r.node (From k.link msg) tag l.link n said → is_whole v y a ≡ true →
      IsSaidTo acts' report' y (lines y a n) said
  says_fine y n said l e m there =
      let same_link : k.link ≡ m.link = ap link_in m.came in
      let same_msg : msg ≡ Response m.id m.content = ap (λ z. msg_in msg z) m.came in
      let answers : (link_of w a from).answers ≡ reply m.id (record { line = tag; content = m.content }) ∷ answers_among rest =
      ap answers_among first ∙ ap (λ z. answers_among (record { msg = z; tag = tag } ∷ rest)) same_msg in
      let here : filter (answers_number m.id) (link_of w a from).answers ≡ reply m.id (record { line = tag; content = m.content }) ∷ filter (answers_number m.id) (answers_among rest) =
      ap (filter (answers_number m.id)) answers
      ∙ ap (λ b. cond b (reply m.id (record { line = tag; content = m.content }) ∷ filter (answers_number m.id) (answers_among rest)) (filter (answers_number m.id) (answers_among rest))) (eq-eqb m.id m.id refl) in
      let turned : is_whole w a from ≡ true = whole_turned w a from ∙ whole in
      let is : IsSaidTo acts report y (lines a from m.id) (record { line = tag; content = m.content }) =
      said_on a y (lines a from m.id) (record { line = tag; content = m.content }) (silent (lines a from m.id))
      (subst (λ zs. AllByRecursion (λ (z : Answer Said). SaysTo acts report a (lines a from m.id) z.body) zs) here (holds.is a from m.id turned).said).0 in
      let row : back r.node.pending (branch k.link m.id) ≡ Some (Some (record { link = l.link; number = n })) =
      ap (λ z. back r.node.pending (branch z m.id)) same_link ∙ row_is (find (λ z. has (branch m.link m.id) z) r.node.pending) (record { link = l.link; number = n }) m.asker in
      let pending : back_at w a from m.id ≡ Some (Some (record { name = y; number = n })) =
      backs from k linked m.id ∙ ap (λ o. option_map (λ z. option_and_then (λ p. place_in r.node p) z) o) row ∙ ap (λ z. Some z) (placed y l e n) in
      subst (λ z. IsSaidTo acts' report' y (lines y a n) z) (sym m.reply)
      (subst (λ z. IsSaidTo acts' report' y z (record { line = tag; content = m.content })) (holds.back a from m.id (record { name = y; number = n }) turned pending (kept_whole y there))
      (grows.said y (lines a from m.id) (record { line = tag; content = m.content }) is))
    where
      link_in : Event → LinkNo
      link_in (Up link peer) = link
      link_in (Down link) = link
      link_in (From link z) = link

      msg_in : Msg → Event → Msg
      msg_in d (Up link peer) = d
      msg_in d (Down link) = d
      msg_in d (From link z) = z

      row_is : (o : Option RowState) (z : Asker) → option_and_then (λ q. q.asker) o ≡ Some z → option_map (λ q. q.asker) o ≡ Some (Some z)
      row_is None z f = absurd (none-some z f)
      row_is (Some q) z f = ap (λ j. Some j) f

  pub handle_fits : Fits (FineAsk acts' w v lines) (FineSay acts' report' v lines) a r.node (From k.link msg) tag
  handle_fits y (Asks n q b) m = (asks_fine y n q b m.0 m.1 m.2, tt)
  handle_fits y (Hears n) m = (tt, tt)
  handle_fits y (Closes n) m = (tt, tt)
  handle_fits y (Leaves n) m = (tt, tt)
  handle_fits y (Takes n) m = (tt, tt)
  handle_fits y (Replies n said) m = (tt, λ there. by m.2 there)
    where
      ends : (z : Msg) → is_ending (From k.link z) ≡ true → comes_well acts (record { msg = z; tag = tag }) ≡ true → is_other_line acts tag ≡ true
      ends (Sub id key) e h = absurd (false≢true e)
      ends (Unsub id) e h = absurd (false≢true e)
      ends (Token id key) e h = absurd (false≢true e)
      ends (Untoken id) e h = absurd (false≢true e)
      ends (Able id key complete) e h = absurd (false≢true e)
      ends (Unable id) e h = absurd (false≢true e)
      ends (Interest id current future kinds key aggregate) e h = absurd (false≢true e)
      ends (EndInterest id) e h = absurd (false≢true e)
      ends (ToldSub id key interest) e h = absurd (false≢true e)
      ends (ToldToken id key interest) e h = absurd (false≢true e)
      ends (ToldAble id key complete interest) e h = absurd (false≢true e)
      ends (ToldUnsub id) e h = absurd (false≢true e)
      ends (ToldUntoken id) e h = absurd (false≢true e)
      ends (ToldUnable id) e h = absurd (false≢true e)
      ends (ToldEnd interest) e h = absurd (false≢true e)
      ends (Push tree content) e h = absurd (false≢true e)
      ends (Request tree id target content) e h = absurd (false≢true e)
      ends (Response id content) e h = absurd (false≢true e)
      ends (Final id extras) e h = (and_parts (is_other_line acts tag) true h).0
      ends (State links) e h = absurd (false≢true e)
      ends (Step source number added decl) e h = absurd (false≢true e)
      ends (Snap source number decls) e h = absurd (false≢true e)

      by : IsSaid r.node (From k.link msg) tag m.0.link n said → is_whole v y a ≡ true → IsSaidTo acts' report' y (lines y a n) said
      by (inl p) there = says_fine y n said m.0 m.1 p there
      by (inr p) there = releases_fine acts report acts' report' grows w v lines gathers a r found tag (grows.other tag (ends msg p.ends well)) kept_whole (From k.link msg) y n said m.0 m.1 p there
  handle_fits y (Ends n) m = (tt, tt)

  -- ---- what the router holds then

  abbrev IsHeld : List ℕ → ℕ → List Parts → Type 0
  IsHeld y n hs = (gathered_at w a y n ≡ Some hs) ⊎ (IsGathered acts' report' y (lines y a n) hs × (by : Option Place) × (back_at w y a n ≡ Some by))

  module _ (y : List ℕ) (n : ℕ) (hs : List Parts) (l : LinkPeer) (linked_y : link_to r.node.links y ≡ Some l) where
    -- nothing yet, for a query for the latest
    begins : Begun r.node (From k.link msg) (asker_of_link l n) hs → IsHeld y n hs
    begins b =
        let same_link : k.link ≡ b.link = ap (λ z. link_in k.link z) b.came in
        let same_msg : msg ≡ Request b.tree b.id b.target b.content = ap (λ z. msg_in msg z) b.came in
        let own_link : l.link.0 ≡ k.link.0 = ap (λ (z : Asker). z.link.0) b.asked ∙ ap (λ (z : LinkNo). z.0) (sym same_link) in
        let number : n ≡ b.id = ap (λ (z : Asker). z.number) b.asked in
        let both : Some l ≡ Some k = sym (numbered_link r.node.links unique y l linked_y) ∙ ap (link_at r.node.links) own_link ∙ numbered_link r.node.links unique from k linked in
        let one : l ≡ k = cc in
        let name : y ≡ from = sym (named_link r.node.links y l linked_y) ∙ ap (λ (z : LinkPeer). z.peer.id) one ∙ named_link r.node.links from k linked in
        let came = came_request b.tree b.id b.target b.content same_msg in
        let asks : asks_alike acts tag (Request b.tree b.id b.target b.content) ≡ true =
        (and_parts (is_other_line acts tag) (asks_alike acts tag (Request b.tree b.id b.target b.content)) (subst (λ z. comes_well acts (record { msg = z; tag = tag }) ≡ true) same_msg well)).1 in
        -- its client has asked it
        let p = askers from a b.id came.by whole (is_client (ap (λ (z : LinkNo). leads_to_client r.node.links z.0) same_link ∙ b.client)) came.pending in
        let p_line : (p.query.line == tag) ≡ true = ap (λ z. p.query.line == z) (sym came.line) ∙ eq-eqb p.query.line (lines from a b.id) p.line_is in
        let p_latest : asks_latest p.query ≡ true = ap (λ b. not b || asks_latest p.query) (sym p_line) ∙ ap (λ z. not (p.query.line == tag) || cond z (asks_latest p.query) (not (asks_latest p.query))) (sym b.latest)
        ∙ passes_each (λ (z : Query). not (z.line == tag) || agree (is_latest b.content.body) (asks_latest z)) (queries acts) p.query asks p.asked in
        let latest : is_latest_of acts from (lines from a b.id) ≡ true = in_any (λ (z : Query). is_named from z.client && (z.line == lines from a b.id && asks_latest z)) (queries acts) p.query p.asked
        (and_from _ _ p.client (and_from _ _ (eq-eqb p.query.line (lines from a b.id) p.line_is) p_latest)) in
        let same : lines y a n ≡ lines from a b.id = (λ i. lines (name i) a (number i)) in
        inr (
          record { latest = grows.latest y (lines y a n) ((λ i. is_latest_of acts (name i) (same i)) ∙ latest); said = λ c i. absurd (subst (λ zs. In c zs) b.none i) },
          came.by,
          (λ i. back_at w (name i) a (number i)) ∙ came.pending,
        )
      where
        -- the link that it came over leads to a client
        is_client : leads_to_client r.node.links k.link.0 ≡ true → is_some (router_of w.routers from) ≡ false
        is_client leads = sym (sound.roles a from r k found linked)
            ∙ not-true (is_node k.peer.role) (sym (ap (λ o. option_map_or (λ (z : LinkPeer). not (is_node z.peer.role)) o false) (numbered_link r.node.links unique from k linked)) ∙ leads)

        link_in : LinkNo → Event → LinkNo
        link_in d (Up link peer) = d
        link_in d (Down link) = d
        link_in d (From link z) = link

        msg_in : Msg → Event → Msg
        msg_in d (Up link peer) = d
        msg_in d (Down link) = d
        msg_in d (From link z) = z

    -- one reply more
    gains : is_whole v y a ≡ true → Gains r.node (From k.link msg) (asker_of_link l n) hs → IsHeld y n hs
    gains there b =
        let old : gathered_at w a y n ≡ Some b.old = old_gathered w a r found y n b.old l linked_y b.was in
        let whole_y : is_whole w y a ≡ true = kept_whole y there in
        let is : IsGathered acts report y (lines y a n) b.old = gathers a y n b.old whole_y old in
        let new : IsSaidTo acts' report' y (lines y a n) (record { line = tag; content = b.content }) =
        says_fine y n (record { line = tag; content = b.content }) l linked_y (record { link = b.link; id = b.id; content = b.content; came = b.came; reply = refl; asker = b.asked }) there in
        let pending = kept_pending (link_of w y a) (shows.links y a whole_y).0 (shows.links y a whole_y).1 n (gathered_kept w shows.tables a y n b.old old) in
        inr (record { latest = grows.latest y (lines y a n) is.latest; said = λ c i. by is new c (in_held_with b.old b.content c (subst (λ zs. In c zs) b.now i)) }, pending.0, pending.1)
      where
        by : IsGathered acts report y (lines y a n) b.old → IsSaidTo acts' report' y (lines y a n) (record { line = tag; content = b.content }) → (c : Parts) → In c b.old ⊎ (c ≡ b.content) →
            (t : ℕ) × IsSaidTo acts' report' y (lines y a n) (record { line = t; content = c })
        by is new c (inl i) = let s = is.said c i in (s.0, grows.said y (lines y a n) (record { line = s.0; content = c }) s.1)
        by is new c (inr e) = (tag, subst (λ z. IsSaidTo acts' report' y (lines y a n) (record { line = tag; content = z })) (sym e) new)

  pub handle_gathers : (y : List ℕ) (n : ℕ) (hs : List Parts) → is_whole v y a ≡ true → gathered_by (after r.node (From k.link msg)) y n ≡ Some hs → IsHeld y n hs
  handle_gathers y n hs there e =
      let l = by_link (after r.node (From k.link msg)) y n hs e in
      by l.0 (sym (ap (λ z. link_to z y) (links_from r.node k.link msg)) ∙ l.1) (gather_step r.node (asker_of_link l.0 n) hs (From k.link msg) l.2)
    where
      by : (l : LinkPeer) → link_to r.node.links y ≡ Some l → IsGathering r.node (From k.link msg) (asker_of_link l n) hs → IsHeld y n hs
      by l f (inl old) = inl (old_gathered w a r found y n hs l f old)
      by l f (inr (inl b)) = begins y n hs l f b
      by l f (inr (inr b)) = gains y n hs l f there b
