-- A request is taken, and goes on over each link where it is asked under the least free number there; where it goes nowhere it is ended at once.
use Rattle.std.proofs.Common.{◌≡◌, ℕ, ◌==◌, ◌&&◌, ◌||◌, Bool, true, false, cond, List, [], ◌∷◌, ◌++◌, map, filter, Option, Some, None, refl, sym, ap, ◌∙◌}
use Rattle.std.specs.List.{AllByRecursion, flat_map, list_all}
use Rattle.std.specs.Option.{option_map, option_map_or, option_and_then}
use Rattle.std.proofs.lemmas.Bool.{eqb-true, eq-eqb, false≢true, true≢false}
use Rattle.std.proofs.lemmas.Option.{none-some}
use Rattle.zr_id.specs.declared.link.LinkNo.{LinkNo}
use Rattle.zr_msg.specs.Extras.{no_extras}
use Rattle.zr_msg.specs.declared.content.Parts.{Parts}
use Rattle.zr_msg.specs.declared.error.NodeError.{NodeError}
use Rattle.zr_msg.specs.declared.error.NodeError.TheVariants.{NumberTaken, TooMany, Worn}
use Rattle.zr_msg.specs.declared.event.Event.TheVariants.{From}
use Rattle.zr_msg.specs.declared.msg.Msg.{Msg}
use Rattle.zr_msg.specs.declared.msg.Msg.TheVariants.{Request, Final}
use Rattle.zr_msg.specs.declared.msg.Target.{Target}
use Rattle.zr_msg.specs.declared.peer.LinkPeer.{LinkPeer}
use Rattle.zr_msg.specs.declared.peer.Role.{Role}
use Rattle.zr_pend_spec.specs.Row.{RowState}
use Rattle.zr_pend_spec.specs.Pending.{asked, branch, free_number, begun}
use Rattle.zr_pend_spec.specs.Readings.{back}
use Rattle.zr_pend_spec.proofs.Readings.{begun_kept}
use Rattle.zr_node_spec.specs.Tables.{TableState, AreNumbered, link_at, leads_to_client}
use Rattle.zr_node_spec.specs.Samples.{tree_of}
use Rattle.zr_node_spec.specs.Queries.{asker, is_asked, links_along, asked_links, tree_for, request_along, final_at_once, asked_over, asks_most, has_no_number, most_pending}
use Rattle.zr_node_spec.specs.State.{NodeState, tables}
use Rattle.zr_node_spec.specs.Table.{with_pending, refuses_request}
use Rattle.zr_node_spec.proofs.Links.{none_behind, ascending_behind}
use Rattle.zr_node_spec.proofs.Apart.{none_kept}
use Rattle.zr_law_numbers.specs.Waiting.{asks_in, answers_in}
use Rattle.zr_law_numbers.specs.Deeds.{Deed, Asks, Takes, Ends, with_deeds, MayDoAll, is_own, asked_by_deed, answered_by_deed, place_in, half_of, IsMeant, IsDone}
use Rattle.zr_law_numbers.proofs.RowsBegun.{free_back, is_over, begun_back_on}
use Rattle.zr_law_numbers.proofs.DeedLists.{Leads, asks_on, swapped}
use Rattle.zr_law_numbers.proofs.DeedsDone.{back_in, done_from}

-- ---- where a request goes

-- a link is among those that a test keeps where it passes
over_kept : (test : LinkPeer → Bool) (links : List LinkPeer) (l : LinkPeer) → AreNumbered links → link_at links l.link.0 ≡ Some l → is_over l.link (map (λ k. k.link) (filter test links)) ≡ test l
over_kept test [] l up e = absurd (none-some l e)
over_kept test (k ∷ links) l up e = by (k.link.0 == l.link.0) refl (test k) refl e (over_kept test links l (ascending_behind k links up))
  where
    more : List LinkNo
    more = map (λ j. j.link) (filter test links)

    by : (t : Bool) → (k.link.0 == l.link.0) ≡ t → (u : Bool) → test k ≡ u → cond t (Some k) (link_at links l.link.0) ≡ Some l → (link_at links l.link.0 ≡ Some l → is_over l.link more ≡ test l) →
        is_over l.link (map (λ j. j.link) (cond u (k ∷ filter test links) (filter test links))) ≡ test l
    by true f true g h ih = let same : k ≡ l = cc in ap (λ t. t || is_over l.link more) f ∙ sym g ∙ ap test same
    by true f false g h ih =
        let same : k ≡ l = cc in
        none_kept test l.link.0 links (ap (λ n. link_at links n) (sym (eqb-true k.link.0 l.link.0 f)) ∙ none_behind k links up) ∙ sym g ∙ ap test same
    by false f true g h ih = ap (λ t. t || is_over l.link more) f ∙ ih h
    by false f false g h ih = ih h

-- the tree that a request names on a link, if it goes along one
abbrev pub named_on : Option (List ℕ) → Role → Option (List ℕ)
named_on o role = option_and_then (λ tree. tree_for tree role) o

along_is : (t : TableState) (pending : List RowState) (from : ℕ) (o : Option (List ℕ)) (target : Target) (content : Parts) (l : LinkPeer) → AreNumbered t.links → link_at t.links l.link.0 ≡ Some l →
    request_along t pending from o target content l.link.0
    ≡ cond (is_over l.link (links_along t from o target content.key)) (Request (named_on o l.peer.role) (free_number l.link pending) target content ∷ []) []
along_is t pending from None target content l up e = refl
along_is t pending from (Some tree) target content l up e =
    ap (λ z. option_map_or (λ k. cond (is_asked t from tree target content.key k k.peer.role) (Request (tree_for tree k.peer.role) (free_number k.link pending) target content ∷ []) []) z []) e
    ∙ ap (λ b. cond b (Request (tree_for tree l.peer.role) (free_number l.link pending) target content ∷ []) []) (sym (over_kept (λ k. is_asked t from tree target content.key k k.peer.role) t.links l up e))

-- a request that is not refused is none that its link asks already
pub number_is_free : (node : NodeState) (from id : ℕ) (links : List LinkNo) → refuses_request node from id links ≡ None → asked (asker from id) node.pending ≡ false
number_is_free node from id links r = by (asked (asker from id) node.pending) r
  where
    more : Option NodeError
    more = cond (leads_to_client node.links from && asks_most node.pending from) (Some (TooMany most_pending)) (cond (has_no_number node.pending links) (Some Worn) None)

    by : (t : Bool) → cond t (Some (NumberTaken id)) more ≡ None → t ≡ false
    by true e = absurd (none-some (NumberTaken id) (sym e))
    by false e = refl

-- ---- what is sent, and what is kept

or_false : (t : Bool) → t ≡ (t || false)
or_false true = refl
or_false false = refl

or_true : (t : Bool) → true ≡ (t || true)
or_true true = refl
or_true false = refl

module _ (node : NodeState) (from id : ℕ) (named : Option (List ℕ)) (target : Target) (content : Parts) (tag : ℕ) (l : LinkPeer) (free : asked (asker from id) node.pending ≡ false) where
  abbrev asks_for : Bool → List Deed
  asks_for v = cond v (Asks (free_number l.link node.pending) (record { line = tag; tree = named; target = target; content = content }) (place_in node (asker from id)) ∷ []) []

  abbrev ends_for : Bool → List Deed
  ends_for t = cond t (Ends id ∷ []) []

  -- the deeds of a request that goes over some links, and over this one or not; of one that goes nowhere
  abbrev own_deeds : List LinkNo → List Deed
  own_deeds [] = ends_for (from == l.link.0)
  own_deeds (k ∷ ks) = asks_for (is_over l.link (k ∷ ks))

  abbrev sent_over : List LinkNo → List Msg
  sent_over to = final_at_once from id to l.link.0 ++ cond (is_over l.link to) (Request named (free_number l.link node.pending) target content ∷ []) []

  request_sent : (to : List LinkNo) →
      (flat_map (λ m. asks_in tag m) (sent_over to) ≡ flat_map asked_by_deed (own_deeds to)) × (flat_map (λ m. answers_in tag m) (sent_over to) ≡ flat_map answered_by_deed (own_deeds to))
  request_sent [] = by (l.link.0 == from) (from == l.link.0) (swapped l.link.0 from (l.link.0 == from) refl)
    where
      by : (t u : Bool) → u ≡ t →
          (flat_map (λ m. asks_in tag m) (cond t (Final id no_extras ∷ []) [] ++ []) ≡ flat_map asked_by_deed (ends_for u))
          × (flat_map (λ m. answers_in tag m) (cond t (Final id no_extras ∷ []) [] ++ []) ≡ flat_map answered_by_deed (ends_for u))
      by true true e = (refl, refl)
      by true false e = absurd (false≢true e)
      by false true e = absurd (true≢false e)
      by false false e = (refl, refl)
  request_sent (k ∷ ks) = by (is_over l.link (k ∷ ks))
    where
      by : (v : Bool) →
          (flat_map (λ m. asks_in tag m) (cond v (Request named (free_number l.link node.pending) target content ∷ []) []) ≡ flat_map asked_by_deed (asks_for v))
          × (flat_map (λ m. answers_in tag m) (cond v (Request named (free_number l.link node.pending) target content ∷ []) []) ≡ flat_map answered_by_deed (asks_for v))
      by true = (refl, refl)
      by false = (refl, refl)

  -- it goes nowhere
  nowhere : (t : Bool) → (from == l.link.0) ≡ t → Leads (with_deeds (half_of node l) (cond t (Takes id ∷ []) [])) (ends_for t) (half_of node l)
  nowhere true e = record {
    owns = refl;
    may = (ap (λ b. cond b true (asked (asks_on l.link id) node.pending)) (eq-eqb id id refl), tt);
    leaves = record { keeps = λ n. by n (id == n) refl; back = λ n. refl };
  }
    where
      by : (n : ℕ) (t : Bool) → (id == n) ≡ t → asked (asks_on l.link n) node.pending ≡ cond t false (cond t true (asked (asks_on l.link n) node.pending))
      by n true f = ap (λ k. asked (asks_on l.link k) node.pending) (sym (eqb-true id n f)) ∙ ap (λ k. asked (asker k id) node.pending) (sym (eqb-true from l.link.0 e)) ∙ free
      by n false f = refl
  nowhere false e = record { owns = refl; may = tt; leaves = record { keeps = λ n. refl; back = λ n. refl } }

  -- it goes over some links
  keeps_now : (to : List LinkNo) (v t : Bool) → (from == l.link.0) ≡ t → (n : ℕ) →
      asked (asks_on l.link n) (begun node.pending (asker from id) to) ≡ (with_deeds (with_deeds (half_of node l) (cond t (Takes id ∷ []) [])) (asks_for v)).keeps n
  keeps_now to v t e n =
      begun_kept node.pending (asker from id) to (asks_on l.link n)
      ∙ ap (λ z. asked (asks_on l.link n) node.pending || ((z && id == n) || false)) e
      ∙ by v t (id == n) refl
    where
      was : Bool
      was = asked (asks_on l.link n) node.pending

      by : (v t u : Bool) → (id == n) ≡ u → (was || ((t && u) || false)) ≡ (with_deeds (with_deeds (half_of node l) (cond t (Takes id ∷ []) [])) (asks_for v)).keeps n
      by true true true f = sym (or_true was) ∙ ap (λ z. cond z true was) (sym f)
      by true true false f = sym (or_false was) ∙ ap (λ z. cond z true was) (sym f)
      by true false u f = sym (or_false was)
      by false true true f = sym (or_true was) ∙ ap (λ z. cond z true was) (sym f)
      by false true false f = sym (or_false was) ∙ ap (λ z. cond z true was) (sym f)
      by false false u f = sym (or_false was)

  back_now : (to : List LinkNo) (t : Bool) (n : ℕ) →
      option_map (λ o. option_and_then (λ a. place_in node a) o) (back (begun node.pending (asker from id) to) (branch l.link n))
      ≡ (with_deeds (with_deeds (half_of node l) (cond t (Takes id ∷ []) [])) (asks_for (is_over l.link to))).back n
  back_now to t n =
      ap (λ z. option_map (λ o. option_and_then (λ a. place_in node a) o) z) (begun_back_on node.pending (asker from id) to l.link n)
      ∙ by (is_over l.link to) t (free_number l.link node.pending == n) refl
    where
      by : (v t u : Bool) → (free_number l.link node.pending == n) ≡ u →
          option_map (λ o. option_and_then (λ a. place_in node a) o) (cond (v && u) (Some (Some (asker from id))) (back node.pending (branch l.link n)))
          ≡ (with_deeds (with_deeds (half_of node l) (cond t (Takes id ∷ []) [])) (asks_for v)).back n
      by true true true f = ap (λ z. cond z (Some (place_in node (asker from id))) (back_in node l n)) (sym f)
      by true true false f = ap (λ z. cond z (Some (place_in node (asker from id))) (back_in node l n)) (sym f)
      by true false true f = ap (λ z. cond z (Some (place_in node (asker from id))) (back_in node l n)) (sym f)
      by true false false f = ap (λ z. cond z (Some (place_in node (asker from id))) (back_in node l n)) (sym f)
      by false true u f = refl
      by false false u f = refl

  somewhere : (to : List LinkNo) (t : Bool) → (from == l.link.0) ≡ t →
      Leads (with_deeds (half_of node l) (cond t (Takes id ∷ []) [])) (asks_for (is_over l.link to)) (half_of (with_pending node (begun node.pending (asker from id) to)) l)
  somewhere to t e = record {
    owns = own (is_over l.link to);
    may = may (is_over l.link to) t;
    leaves = record { keeps = keeps_now to (is_over l.link to) t e; back = back_now to t };
  }
    where
      own : (v : Bool) → list_all is_own (asks_for v) ≡ true
      own true = refl
      own false = refl

      none : back_in node l (free_number l.link node.pending) ≡ None
      none = ap (λ z. option_map (λ o. option_and_then (λ a. place_in node a) o) z) (free_back node.pending l.link)

      may : (v t : Bool) → MayDoAll (with_deeds (half_of node l) (cond t (Takes id ∷ []) [])) (asks_for v)
      may true true = (none, tt)
      may true false = (none, tt)
      may false t = tt

  request_meant : (link : LinkNo) (tree : Option (List ℕ)) → link.0 ≡ from → (to : List LinkNo) → AllByRecursion (λ d. IsMeant node (From link (Request tree id target content)) tag l d) (own_deeds to)
  request_meant link tree e [] = by (from == l.link.0)
    where
      by : (t : Bool) → AllByRecursion (λ d. IsMeant node (From link (Request tree id target content)) tag l d) (ends_for t)
      by true = (tt, tt)
      by false = tt
  request_meant link tree e (k ∷ ks) = by (is_over l.link (k ∷ ks))
    where
      by : (t : Bool) → AllByRecursion (λ d. IsMeant node (From link (Request tree id target content)) tag l d) (asks_for t)
      by true = (
        record {
          link = link;
          tree = tree;
          id = id;
          target = target;
          content = content;
          came = refl;
          line = refl;
          asker = ap (λ n. place_in node (asker n id)) (sym e);
          free = free_back node.pending l.link;
        },
        tt,
      )
      by false = tt

  request_leads : (to : List LinkNo) → Leads (with_deeds (half_of node l) (cond (from == l.link.0) (Takes id ∷ []) [])) (own_deeds to) (half_of (with_pending node (asked_over node.pending (asker from id) to)) l)
  request_leads [] = nowhere (from == l.link.0) refl
  request_leads (k ∷ ks) = somewhere (k ∷ ks) (from == l.link.0) refl

-- ---- the event

pub request_done : (node : NodeState) (link : LinkNo) (tree : Option (List ℕ)) (id : ℕ) (target : Target) (content : Parts) (tag : ℕ) (l : LinkPeer) →
    AreNumbered node.links → link_at node.links l.link.0 ≡ Some l → refuses_request node link.0 id (asked_links (tables node) link.0 tree target content.key) ≡ None → IsDone node (From link (Request tree id target content)) tag l
request_done node link tree id target content tag l up here r =
    let o : Option (List ℕ) = tree_of (tables node) (link_at node.links link.0) tree in
    let to : List LinkNo = asked_links (tables node) link.0 tree target content.key in
    let named : Option (List ℕ) = named_on o l.peer.role in
    let free : asked (asker link.0 id) node.pending ≡ false = number_is_free node link.0 id to r in
    let own : List Deed = own_deeds node link.0 id named target content tag l free to in
    let same = along_is (tables node) node.pending link.0 o target content l up here in
    let told = request_sent node link.0 id named target content tag l free to in
    done_from node link (Request tree id target content) tag l (Takes id) own refl refl refl (λ h. tt) (request_leads node link.0 id named target content tag l free to)
    (ap (λ ms. flat_map (λ m. asks_in tag m) (final_at_once link.0 id to l.link.0 ++ ms)) same ∙ told.0)
    (ap (λ ms. flat_map (λ m. answers_in tag m) (final_at_once link.0 id to l.link.0 ++ ms)) same ∙ told.1)
    (request_meant node link.0 id named target content tag l free link tree refl to)
