-- A request that is the oldest message on a wire is taken (`requests_taken`). Its number isn't kept at the lower end, for it stands for a request that
-- waits. Its client has room for it: the numbers of all that is pending for a client, and that of the request, are open queries of the client. And each
-- link has a number left, since few acts came before.
use Rattle.std.proofs.Common.{◌≡◌, ◌≢◌, ◌≤◌, ◌<◌, ◌+◌, ℕ, ◌==◌, suc, Bool, true, false, cond, not, List, [], ◌∷◌, ◌++◌, length, Option, Some, None, refl, sym, ap, ◌∙◌, subst, arith}
use Rattle.std.specs.Prelude.{◌-◌, ◌^◌, ◌&&◌, ◌||◌, filter, is_some, flat_map}
use Rattle.std.specs.List.{AllByRecursion, IsDistinct}
use Rattle.std.specs.Option.{option_map_or, option_and_then, option_or}
use Rattle.std.specs.Cmp.{IsEquivalence}
use Rattle.std.specs.Set.{is_member}
use Rattle.std.proofs.lemmas.Bool.{false≢true, true≢false, and_parts, or_parts, or_right, or_from, eqb-true, eq-eqb, lt-leb}
use Rattle.std.proofs.lemmas.Map.Keys.{IsDistinct-cons}
use Rattle.std.proofs.lemmas.Map.Made.{length-le_from_is_member}
use Rattle.zr_id.specs.Zid.{is_named}
use Rattle.zr_id.specs.declared.link.LinkNo.{LinkNo}
use Rattle.zr_msg.specs.declared.content.Parts.{Parts}
use Rattle.zr_msg.specs.declared.error.NodeError.TheVariants as e
use Rattle.zr_msg.specs.declared.msg.Msg.TheVariants.{Request}
use Rattle.zr_msg.specs.declared.msg.Target.{Target}
use Rattle.zr_msg.specs.declared.peer.LinkPeer.{LinkPeer}
use Rattle.zr_pend_spec.specs.declared.branch.Asker.{Asker}
use Rattle.zr_pend_spec.specs.Row.{RowState, is_of}
use Rattle.zr_pend_spec.specs.Pending.{asked, count, askers_differ, is_full, numbers_on}
use Rattle.zr_node_spec.specs.Tables.{is_router, link_at, link_to, leads_to_client}
use Rattle.zr_node_spec.specs.Queries.{asker, asked_links, asks_most, has_no_number, most_pending}
use Rattle.zr_node_spec.specs.State.{tables}
use Rattle.zr_node_spec.specs.Table.{refuses_request}
use Rattle.zr_world_spec.specs.World.{Tagged, RouterState, ClientState, EndState, WorldState, router_of, client_of, end_of, is_empty, is_unbroken}
use Rattle.zr_world_spec.specs.Acts.{has_number}
use Rattle.zr_lists.proofs.Finds.{find_in}
use Rattle.zr_lists.proofs.Options.{not_there}
use Rattle.zr_lists.proofs.Elements.{each_in}
use Rattle.zr_world_spec.proofs.Keyed.{there as there_some}
use Rattle.zr_law_settled.specs.Events.{RequestsAreTaken}
use Rattle.zr_law_settled.proofs.Spreading.{Name}
use Rattle.zr_law_settled.proofs.Orderly.{has_wire}
use Rattle.zr_law_settled.proofs.Goes.{Goes}
use Rattle.zr_law_queries.specs.Link.{Hop, Ask, Free, Asked, Open, ask, is_kept, asked_by, ShowsAt}
use Rattle.zr_law_queries.specs.Numbers.{IsNewAsk, FrontsAreRight}
use Rattle.zr_law_numbers.specs.Waiting as waiting
use Rattle.zr_law_numbers.specs.Waiting.{Said, Place, asks_in, wire_at, queue_at, waits, asks, row_kept, is_kept_by, query_back, back_at, link_of, is_whole}
use Rattle.zr_law_numbers.specs.Numbers.{NumbersHold}
use Rattle.zr_law_numbers.proofs.Few.{FewHold}
use Rattle.zr_law_numbers.proofs.Open.{AreOpen}

-- ---- numbers

-- equality of numbers
pub number_laws : IsEquivalence (λ (n m : ℕ). n == m)
number_laws = record {
  refl = λ n. eq-eqb n n refl;
  symm = λ n m. by n m (n == m) (m == n) refl refl;
  congr = λ n m k same. ap (λ (x : ℕ). x == k) (eqb-true n m same);
}
  where
    by : (n m : ℕ) (t u : Bool) → (n == m) ≡ t → (m == n) ≡ u → t ≡ u
    by n m true true h k = refl
    by n m false false h k = refl
    by n m true false h k = absurd (false≢true (sym k ∙ eq-eqb m n (sym (eqb-true n m h))))
    by n m false true h k = absurd (false≢true (sym h ∙ eq-eqb n m (sym (eqb-true m n k))))

same_member : (ns : List ℕ) (n : ℕ) → has_number ns n ≡ is_member (λ (a b : ℕ). a == b) ns n
same_member [] n = refl
same_member (m ∷ ns) n = let one : (m == n) ≡ (n == m) = number_laws.symm m n in rw one (ap (λ t. (n == m) || t) (same_member ns n))

-- ---- who asked over a link

abbrev asked_first : LinkNo → Option Asker → List ℕ
asked_first link None = []
asked_first link (Some a) = cond (a.link.0 == link.0) (a.number ∷ []) []

-- the numbers of what was asked over a link
abbrev numbers_asked : LinkNo → List RowState → List ℕ
numbers_asked link rows = flat_map (λ r. asked_first link r.asker) rows

-- as many as rows
as_many : (link : LinkNo) (rows : List RowState) → length (numbers_asked link rows) ≡ count link rows
as_many link [] = refl
as_many link (r ∷ rows) = by r.asker (as_many link rows)
  where
    by : (o : Option Asker) → length (numbers_asked link rows) ≡ length (filter (λ q. is_of link q) rows) →
        length (asked_first link o ++ numbers_asked link rows) ≡ length (cond (option_map_or (λ (a : Asker). a.link.0 == link.0) o false) (r ∷ filter (λ q. is_of link q) rows) (filter (λ q. is_of link q) rows))
    by None ih = ih
    by (Some a) ih = at (a.link.0 == link.0)
      where
        at : (t : Bool) → length (cond t (a.number ∷ []) [] ++ numbers_asked link rows) ≡ length (cond t (r ∷ filter (λ q. is_of link q) rows) (filter (λ q. is_of link q) rows))
        at true = ap suc ih
        at false = ih

-- a number is among them just where a row was asked under it
asked_under : (link : LinkNo) (n : ℕ) (rows : List RowState) → has_number (numbers_asked link rows) n ≡ asked (record { link = link; number = n }) rows
asked_under link n [] = refl
asked_under link n (r ∷ rows) = by r.asker (asked_under link n rows)
  where
    by : (o : Option Asker) → has_number (numbers_asked link rows) n ≡ asked (record { link = link; number = n }) rows →
        has_number (asked_first link o ++ numbers_asked link rows) n ≡ (option_map_or (λ (a : Asker). (a.link.0 == link.0) && (a.number == n)) o false || asked (record { link = link; number = n }) rows)
    by None ih = ih
    by (Some a) ih = at (a.link.0 == link.0)
      where
        at : (t : Bool) → has_number (cond t (a.number ∷ []) [] ++ numbers_asked link rows) n ≡ ((t && (a.number == n)) || asked (record { link = link; number = n }) rows)
        at true = ap (λ u. (a.number == n) || u) ih
        at false = ih

-- what isn't among some is apart from each
apart_from : (n : ℕ) (ns : List ℕ) → has_number ns n ≡ false → AllByRecursion (λ m. (n == m) ≡ false) ns
apart_from n [] h = tt
apart_from n (m ∷ ns) h = let parts = or_parts (m == n) (has_number ns n) h in (number_laws.symm n m ∙ parts.0, apart_from n ns parts.1)

-- none of them stands twice
asked_apart : (link : LinkNo) (rows : List RowState) → askers_differ rows ≡ true → IsDistinct (λ (a b : ℕ). a == b) (numbers_asked link rows)
unfolding IsDistinct
asked_apart link [] h = tt
asked_apart link (r ∷ rows) h = by r.asker refl (asked_apart link rows (and_parts (not (option_map_or (λ a. asked a rows) r.asker false)) (askers_differ rows) h).1)
  where
    parts : (not (option_map_or (λ a. asked a rows) r.asker false) ≡ true) × (askers_differ rows ≡ true)
    parts = and_parts (not (option_map_or (λ a. asked a rows) r.asker false)) (askers_differ rows) h

    by : (o : Option Asker) → r.asker ≡ o → IsDistinct (λ (a b : ℕ). a == b) (numbers_asked link rows) → IsDistinct (λ (a b : ℕ). a == b) (asked_first link o ++ numbers_asked link rows)
    by None e ih = ih
    by (Some a) e ih = at (a.link.0 == link.0) refl
      where
        at : (t : Bool) → (a.link.0 == link.0) ≡ t → IsDistinct (λ (x y : ℕ). x == y) (cond t (a.number ∷ []) [] ++ numbers_asked link rows)
        at false k = ih
        at true k = IsDistinct-cons (λ (x y : ℕ). x == y) a.number (numbers_asked link rows) (apart_from a.number (numbers_asked link rows) none) ih
          where
            alone : asked a rows ≡ false
            alone = none_of (asked a rows) (sym (ap (λ (o : Option Asker). not (option_map_or (λ (b : Asker). asked b rows) o false)) e) ∙ parts.0)
              where
                none_of : (t : Bool) → not t ≡ true → t ≡ false
                none_of true f = absurd (false≢true f)
                none_of false f = refl

            its : link ≡ a.link
            its = let n : a.link.0 ≡ link.0 = eqb-true a.link.0 link.0 k in ap (λ (x : ℕ). let q : LinkNo = record { 0 = x } in q) (sym n)

            none : has_number (numbers_asked link rows) a.number ≡ false
            none = asked_under link a.number rows ∙ ap (λ (l : LinkNo). asked (record { link = l; number = a.number }) rows) its ∙ alone

-- ---- one request

module _ (fronts : FrontsAreRight waiting.Asked Place Said) (k : ℕ) (few_acts : k < 2 ^ 32 - 1) (w : WorldState) (g : Goes w)
    (hops : Name → Name → ℕ → Hop waiting.Asked Place Said) (numbers : NumbersHold hops w) (room : AreOpen w.clients) (few : FewHold k w.routers) where
  module _ (x y : Name) (r : RouterState) (l : LinkPeer) (at : EndState) (found : router_of w.routers x ≡ Some r) (linked : link_to r.node.links y ≡ Some l) (there : end_of w.ends (x, y) ≡ Some at)
      (tree : Option (List ℕ)) (id : ℕ) (target : Target) (content : Parts) (tag : ℕ) (rest : List Tagged) (front : at.wire ≡ record { msg = Request tree id target content; tag = tag } ∷ rest) where
    unbroken : is_unbroken w.ends (x, y) ≡ true
    unbroken = by (is_unbroken w.ends (x, y)) refl
      where
        by : (t : Bool) → is_unbroken w.ends (x, y) ≡ t → t ≡ true
        by true h = refl
        by false h =
            absurd (true≢false (sym (ap has_wire there ∙ ap (λ (ws : List Tagged). not (is_empty ws)) front) ∙ g.orderly.broken_links (x, y) h))

    whole : is_whole w y x ≡ true
    whole = or_right (is_unbroken w.ends (y, x)) (is_unbroken w.ends (x, y)) unbroken

    abbrev asking : waiting.Asked
    asking = record { line = tag; tree = tree; target = target; content = content }

    abbrev later_asks : List (Ask waiting.Asked)
    later_asks = flat_map (λ t. asks_in t.tag t.msg) (rest ++ queue_at w.ends (y, x))

    first : asks w y x ≡ ask id asking ∷ later_asks
    first = ap (λ (o : Option EndState). flat_map (λ t. asks_in t.tag t.msg) (option_map_or (λ (s : EndState). s.wire) o [] ++ queue_at w.ends (y, x))) there
        ∙ ap (λ (ws : List Tagged). flat_map (λ t. asks_in t.tag t.msg) (ws ++ queue_at w.ends (y, x))) front

    new : IsNewAsk (link_of w y x) (hops y x) id asking later_asks
    new = fronts.asks (link_of w y x) (hops y x) (numbers.links y x whole) id asking later_asks first

    -- a number that is kept, or is that of the request, is an open query of the client
    shown : (n : ℕ) → ShowsAt (link_of w y x) n (hops y x n)
    shown n = numbers.links y x whole n

    untaken : row_kept r y id ≡ false
    untaken = ap (λ (o : Option RouterState). option_map_or (λ q. row_kept q y id) o false) (sym found)
        ∙ (or_parts (option_map_or (λ q. row_kept q y id) (router_of w.routers x) false) _ new.untaken).0

    not_asked : asked (asker l.link.0 id) r.node.pending ≡ false
    not_asked = sym (ap (λ (o : Option LinkPeer). option_map_or (λ q. asked (record { link = q.link; number = id }) r.node.pending) o false) linked) ∙ untaken

    module _ (s : ClientState) (client : client_of w.clients y ≡ Some s) where
      -- what is kept for the client is one of its open queries
      open_of : (n : ℕ) → asked_by (hops y x n) ≢ None → has_number s.queries n ≡ true
      open_of n h = by (has_number s.queries n) refl
        where
          no_router : router_of w.routers y ≡ None
          no_router = not_there (router_of w.routers y) (g.clients.apart y s client)

          back_is : back_at w y x n ≡ query_back s y x n
          back_is = ap (λ (o : Option RouterState). option_or (option_and_then (λ q. waiting.branch_back q x n) o) (option_and_then (λ c. query_back c y x n) (client_of w.clients y))) no_router
              ∙ ap (λ (o : Option ClientState). option_and_then (λ c. query_back c y x n) o) client

          by : (t : Bool) → has_number s.queries n ≡ t → t ≡ true
          by true e = refl
          by false e = absurd (h (sym (shown n).back ∙ back_is ∙ ap (λ t. cond (is_named s.router x && t) (Some (Some (record { name = y; number = n }))) None) e ∙ none (is_named s.router x)))
            where
              none : (t : Bool) → cond (t && false) (Some (Some (let p : Place = record { name = y; number = n } in p))) None ≡ None
              none true = refl
              none false = refl

      kept_of : (n : ℕ) → asked (record { link = l.link; number = n }) r.node.pending ≡ true → is_kept (hops y x n) ≡ true
      kept_of n h = sym (shown n).keeps ∙ kept
        where
          in_row : row_kept r y n ≡ true
          in_row = ap (λ (o : Option LinkPeer). option_map_or (λ q. asked (record { link = q.link; number = n }) r.node.pending) o false) linked ∙ h

          kept : is_kept_by w y x n ≡ true
          kept = ap (λ (o : Option RouterState). option_map_or (λ q. row_kept q y n) o false || option_map_or (λ c. is_named c.router y && has_number c.requests n) (client_of w.clients x) false) found
              ∙ ap (λ t. t || option_map_or (λ c. is_named c.router y && has_number c.requests n) (client_of w.clients x) false) in_row

      one_more : count l.link r.node.pending + 1 ≤ length s.queries
      one_more =
          let ns : List ℕ = numbers_asked l.link r.node.pending in
          let le = length-le_from_is_member number_laws (id ∷ ns) s.queries (IsDistinct-cons (λ (a b : ℕ). a == b) id ns (apart_from id ns fresh) (asked_apart l.link r.node.pending (numbers.tables x r found).sound.askers)) each in
          let e = as_many l.link r.node.pending in
          omega (arith, le, e)
        where
          fresh : has_number (numbers_asked l.link r.node.pending) id ≡ false
          fresh = asked_under l.link id r.node.pending ∙ not_asked

          is_open : (h : Hop waiting.Asked Place Said) → is_kept h ≡ true → asked_by h ≢ None
          is_open Free t = absurd (false≢true t)
          is_open (Asked request by) t = absurd (false≢true t)
          is_open (Open request by replies done) t = λ e. false≢true (ap is_some (sym e))

          each : (n : ℕ) → is_member (λ (a b : ℕ). a == b) (id ∷ numbers_asked l.link r.node.pending) n ≡ true → is_member (λ (a b : ℕ). a == b) s.queries n ≡ true
          each n h = sym (same_member s.queries n) ∙ by (n == id) refl h
            where
              its : asked_by (hops y x id) ≢ None
              its = let hop = new.hop in λ e. false≢true (ap is_some (sym e ∙ ap (λ (z : Hop waiting.Asked Place Said). asked_by z) hop.1))

              by : (t : Bool) → (n == id) ≡ t → (t || is_member (λ (a b : ℕ). a == b) (numbers_asked l.link r.node.pending) n) ≡ true → has_number s.queries n ≡ true
              by true e m = let same : n ≡ id = eqb-true n id e in subst (λ (z : ℕ). has_number s.queries z ≡ true) (sym same) (open_of id its)
              by false e m = open_of n (is_open (hops y x n) (kept_of n (sym (asked_under l.link n r.node.pending) ∙ same_member (numbers_asked l.link r.node.pending) n ∙ m)))

    numbered : link_at r.node.links l.link.0 ≡ Some l
    numbered = each_in _ r.node.links l (g.sound.unique x r found).numbers (find_in (λ (q : LinkPeer). is_named q.peer.id y) r.node.links l linked).0

    -- the neighbour of a link that leads to a client is a client
    its_client : leads_to_client r.node.links l.link.0 ≡ true → (s : ClientState) × (client_of w.clients y ≡ Some s)
    its_client leads = there_some (client_of w.clients y) (by (is_some (router_of w.routers y)) refl (g.sound.neighbours x y (ap is_some there)))
      where
        no_router : not (is_some (router_of w.routers y)) ≡ true
        no_router = ap not (sym (g.sound.roles x y r l found linked)) ∙ sym (ap (λ (o : Option LinkPeer). option_map_or (λ q. not (is_router q.peer.role)) o false) numbered) ∙ leads

        by : (t : Bool) → is_some (router_of w.routers y) ≡ t → (is_some (router_of w.routers y) || is_some (client_of w.clients y)) ≡ true → is_some (client_of w.clients y) ≡ true
        by true e h = absurd (false≢true (sym (ap not e) ∙ no_router))
        by false e h = sym (ap (λ t. t || is_some (client_of w.clients y)) e) ∙ h

    has_room : (leads_to_client r.node.links l.link.0 && asks_most r.node.pending l.link.0) ≡ false
    has_room = by (leads_to_client r.node.links l.link.0) refl
      where
        by : (t : Bool) → leads_to_client r.node.links l.link.0 ≡ t → (t && asks_most r.node.pending l.link.0) ≡ false
        by false h = refl
        by true h =
            let c = its_client h in
            let more = one_more c.0 c.1 in
            let most = room y c.0 c.1 in
            lt-leb most_pending (count l.link r.node.pending) (omega (arith, more, most))

    have_numbers : has_no_number r.node.pending (asked_links (tables r.node) l.link.0 tree target content.key) ≡ false
    have_numbers = none (asked_links (tables r.node) l.link.0 tree target content.key)
      where
        none : (ls : List LinkNo) → has_no_number r.node.pending ls ≡ false
        none [] = refl
        none (q ∷ ls) = or_from (is_full q r.node.pending) (has_no_number r.node.pending ls) (lt-leb (2 ^ 32 - 1) (length (numbers_on q r.node.pending)) (let f = few x r found q in omega (arith, f, few_acts))) (none ls)

    pub request_taken : refuses_request r.node l.link.0 id (asked_links (tables r.node) l.link.0 tree target content.key) ≡ None
    request_taken =
        ap (λ t. cond t (Some (e.NumberTaken id)) (cond (leads_to_client r.node.links l.link.0 && asks_most r.node.pending l.link.0) (Some (e.TooMany most_pending))
        (cond (has_no_number r.node.pending (asked_links (tables r.node) l.link.0 tree target content.key)) (Some e.Worn) None))) not_asked
        ∙ ap (λ t. cond t (Some (e.TooMany most_pending)) (cond (has_no_number r.node.pending (asked_links (tables r.node) l.link.0 tree target content.key)) (Some e.Worn) None)) has_room
        ∙ ap (λ t. cond t (Some e.Worn) None) have_numbers

  pub requests_taken : RequestsAreTaken w
  requests_taken x y r l at found linked there tree id target content tag rest front = request_taken x y r l at found linked there tree id target content tag rest front
