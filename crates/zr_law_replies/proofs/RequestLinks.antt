-- What it does to links that a router handles a request: the neighbour that sent it is the upper end of a link whose request is taken, and ended where it
-- goes nowhere; on each link over which it goes it is asked under the number that is free there; and no other link changes (`from_asks`, `to_over`).
use Rattle.std.proofs.Common.{◌≡◌, ℕ, ◌==◌, Bool, true, false, cond, not, List, [], ◌∷◌, ◌++◌, Option, Some, None, refl, sym, ap, ◌∙◌, append-nil}
use Rattle.std.specs.Prelude.{◌||◌, ◌&&◌}
use Rattle.std.specs.List.{flat_map}
use Rattle.std.specs.Option.{option_map, option_map_or, option_and_then}
use Rattle.std.proofs.Math.Bool.{or-false, or-true}
use Rattle.std.proofs.lemmas.Bool.{true≢false, eqb-true, eq-eqb, false_from_ne_true}
use Rattle.std.proofs.lemmas.Grind.{flat_map-append}
use Rattle.zr_id.specs.Zid.{is_named}
use Rattle.zr_id.specs.declared.link.LinkNo.{LinkNo}
use Rattle.zr_graph.proofs.Names.{same_is, same_refl}
use Rattle.zr_msg.specs.declared.content.Parts.{Parts}
use Rattle.zr_msg.specs.declared.msg.Msg.{Msg}
use Rattle.zr_msg.specs.declared.msg.Msg.TheVariants.{Request}
use Rattle.zr_msg.specs.declared.msg.Target.{Target}
use Rattle.zr_msg.specs.declared.event.Event.{Event}
use Rattle.zr_msg.specs.declared.event.Event.TheVariants.{From}
use Rattle.zr_msg.specs.declared.peer.LinkPeer.{LinkPeer}
use Rattle.zr_pend_spec.specs.declared.branch.Asker.{Asker}
use Rattle.zr_pend_spec.specs.Pending.{asked, branch, free_number}
use Rattle.zr_pend_spec.specs.Readings.{back}
use Rattle.zr_node_spec.specs.Tables.{link_at, link_to}
use Rattle.zr_node_spec.specs.Queries.{asker, final_at_once}
use Rattle.zr_node_spec.specs.State.{tables}
use Rattle.zr_node_spec.specs.Table.{sends}
use Rattle.zr_world_spec.specs.World.{Tagged, RouterState, EndState, WorldState, router_of, end_of}
use Rattle.zr_world_spec.specs.Acts.{sends_to, having_told}
use Rattle.zr_world_spec.specs.Sound.{AreUnique, IsSound}
use Rattle.zr_world_spec.proofs.Links.{numbered_link, named_link}
use Rattle.zr_world_spec.proofs.Cases.{w_handle}
use Rattle.zr_law_settled.proofs.Orderly.{Orderly}
use Rattle.zr_law_queries.specs.Link.{ask, final, asked as link_asked, taken, ended}
use Rattle.zr_law_queries.specs.Query.{is_empty}
use Rattle.zr_law_numbers.specs.Waiting as waiting
use Rattle.zr_law_numbers.specs.Waiting.{Place, Said, asks_in, answers_in, asks, answers, place_of, back_at, is_kept_by, link_of}
use Rattle.zr_law_numbers.proofs.Leading.{link_is}
use Rattle.zr_law_numbers.proofs.DeedLists.{swapped}
use Rattle.zr_law_numbers.proofs.DeedsDone.{asks_are, answers_are}
use Rattle.zr_law_numbers.proofs.RowsBegun.{free_back, is_over}
use Rattle.zr_law_numbers.proofs.SentOfQueries.{IsOfQueries, first_tells}
use Rattle.zr_law_numbers.proofs.DeedsOfRequests.{named_on}
use Rattle.zr_law_replies.proofs.RequestGoes.{tree_on, links_on, goes_to, asked_on, along_over, final_asks, final_answers, kept_over, back_over}
use Rattle.zr_law_replies.proofs.HandleLinks.{from_apart, others_link, asks_to, answers_to, asks_from, asks_stay, answers_behind, keeps_now, keeps_was, back_now, back_was, keeps_there, back_there}

-- ---- links

module _ (w : WorldState) (sound : IsSound w) (orderly : Orderly w) (x : List ℕ) (r : RouterState) (found : router_of w.routers x ≡ Some r) (from : List ℕ) (s : EndState)
    (at : end_of w.ends (x, from) ≡ Some s) (tree : Option (List ℕ)) (id : ℕ) (target : Target) (content : Parts) (tag : ℕ) (xs : List Tagged)
    (first : s.wire ≡ record { msg = Request tree id target content; tag = tag } ∷ xs) (k : LinkPeer) (linked : link_to r.node.links from ≡ Some k) where
  abbrev msg : Msg
  msg = Request tree id target content

  abbrev event : Event
  event = From k.link (Request tree id target content)

  abbrev then : RouterState
  then = having_told r (From k.link (Request tree id target content))

  abbrev v : WorldState
  v = w_handle w x from r s k.link (Request tree id target content) tag xs

  -- in which tree it goes on, over which links, and what is asked there
  abbrev goes_in : Option (List ℕ)
  goes_in = tree_on r k tree

  abbrev goes_over : List LinkNo
  goes_over = links_on r k tree target content

  abbrev passed_to : LinkPeer → waiting.Asked
  passed_to l = asked_on r k tag tree target content l

  abbrev who : Asker
  who = asker k.link.0 id

  -- the request that came
  abbrev came_in : waiting.Asked
  came_in = record { line = tag; tree = tree; target = target; content = content }

  unique : AreUnique r.node.links
  unique = sound.unique x r found

  who_is : place_of r who ≡ Some (record { name = from; number = id })
  who_is =
      ap (λ o. option_map (λ (z : LinkPeer). record { name = z.peer.id; number = id }) o) (numbered_link r.node.links unique from k linked)
      ∙ ap (λ z. Some (record { name = z; number = id })) (named_link r.node.links from k linked)

  -- the link of a neighbour is that of the one that sent it where it is that one
  same_number : (y : List ℕ) (l : LinkPeer) → link_to r.node.links y ≡ Some l → (k.link.0 == l.link.0) ≡ is_named from y
  same_number y l e = by (is_named from y) refl
    where
      by : (b : Bool) → is_named from y ≡ b → (k.link.0 == l.link.0) ≡ b
      by true f =
          let both : Some k ≡ Some l = sym linked ∙ ap (link_to r.node.links) (same_is from y f) ∙ e in
          let one : k ≡ l = cc in
          eq-eqb k.link.0 l.link.0 (ap (λ (z : LinkPeer). z.link.0) one)
      by false f = false_from_ne_true (k.link.0 == l.link.0) (λ h.
          let both : Some k ≡ Some l = sym (numbered_link r.node.links unique from k linked) ∙ ap (link_at r.node.links) (eqb-true k.link.0 l.link.0 h) ∙ numbered_link r.node.links unique y l e in
          let one : k ≡ l = cc in
          true≢false (sym (same_refl from) ∙ ap (is_named from) (sym (named_link r.node.links from k linked) ∙ ap (λ (z : LinkPeer). z.peer.id) one ∙ named_link r.node.links y l e) ∙ f))

  -- ---- what is sent

  module _ (y : List ℕ) where
    sent_none : {X : Type 0} (tells : Msg → List X) → link_to r.node.links y ≡ None → flat_map tells (sends_to r.node event y) ≡ []
    sent_none tells e = ap (λ o. flat_map tells (option_map_or (λ (l : LinkPeer). sends r.node event l.link) o [])) e

    module _ (l : LinkPeer) (e : link_to r.node.links y ≡ Some l) where
      abbrev requested : List Msg
      requested = cond (is_over l.link goes_over) (Request (named_on goes_in l.peer.role) (free_number l.link r.node.pending) target content ∷ []) []

      sent_some : {X : Type 0} (tells : Msg → List X) → IsOfQueries tells → flat_map tells (sends_to r.node event y) ≡ flat_map tells (final_at_once k.link.0 id goes_over l.link.0 ++ requested)
      sent_some tells none =
          ap (λ o. flat_map tells (option_map_or (λ (z : LinkPeer). sends r.node event z.link) o [])) e ∙ first_tells tells none r.node event l.link
          ∙ ap (λ ms. flat_map tells (final_at_once k.link.0 id goes_over l.link.0 ++ ms))
          (along_over (tables r.node) unique r.node.pending k.link.0 goes_in target content l (numbered_link r.node.links unique y l e))

      asks_some : flat_map (λ m. asks_in tag m) (sends_to r.node event y) ≡ cond (is_over l.link goes_over) (ask (free_number l.link r.node.pending) (passed_to l) ∷ []) []
      asks_some = sent_some (λ m. asks_in tag m) (asks_are tag) ∙ final_asks tag k.link.0 id l.link.0 goes_over requested ∙ by (is_over l.link goes_over)
        where
          by : (b : Bool) → flat_map (λ m. asks_in tag m) (cond b (Request (named_on goes_in l.peer.role) (free_number l.link r.node.pending) target content ∷ []) [])
              ≡ cond b (ask (free_number l.link r.node.pending) (passed_to l) ∷ []) []
          by true = refl
          by false = refl

      answers_some : flat_map (λ m. answers_in tag m) (sends_to r.node event y) ≡ cond (is_empty goes_over && is_named from y) (final id ∷ []) []
      answers_some =
          sent_some (λ m. answers_in tag m) (answers_are tag) ∙ flat_map-append (λ m. answers_in tag m) (final_at_once k.link.0 id goes_over l.link.0) requested
          ∙ ap (λ z. flat_map (λ m. answers_in tag m) (final_at_once k.link.0 id goes_over l.link.0) ++ z) (by (is_over l.link goes_over))
          ∙ append-nil (flat_map (λ m. answers_in tag m) (final_at_once k.link.0 id goes_over l.link.0)) ∙ final_answers tag k.link.0 id l.link.0 goes_over
          ∙ ap (λ b. cond (is_empty goes_over && b) (final id ∷ []) []) (swapped k.link.0 l.link.0 (k.link.0 == l.link.0) refl ∙ same_number y l e)
        where
          by : (b : Bool) → flat_map (λ m. answers_in tag m) (cond b (Request (named_on goes_in l.peer.role) (free_number l.link r.node.pending) target content ∷ []) []) ≡ []
          by true = refl
          by false = refl

  -- ---- from the router to a neighbour

  module _ (y : List ℕ) (other : is_named x y ≡ false) where
    to_none : link_to r.node.links y ≡ None → link_of w x y ≡ link_of v x y
    to_none e = link_is (link_of w x y) (link_of v x y)
        (sym (asks_to w sound orderly x r found from s at msg tag xs first k linked y other ∙ ap (λ z. asks w x y ++ z) (sent_none y (λ m. asks_in tag m) e) ∙ append-nil (asks w x y)))
        (answers_behind w sound orderly x r found from s at msg tag xs first k linked y other refl)
        (λ n. sym (keeps_there w sound orderly x r found from s at msg tag xs first k linked y other n))
        (λ n. back_was w sound orderly x r found from s at msg tag xs first k linked y other n
        ∙ (λ i. option_and_then (λ (l : LinkPeer). option_map (λ o. option_and_then (λ a. place_of r a) o) (back r.node.pending (branch l.link n))) (e i))
        ∙ sym (back_now w sound orderly x r found from s at msg tag xs first k linked y other n
        ∙ (λ i. option_and_then (λ (l : LinkPeer). option_map (λ o. option_and_then (λ a. place_of r a) o) (back then.node.pending (branch l.link n))) (e i))))

    module _ (l : LinkPeer) (e : link_to r.node.links y ≡ Some l) where
      -- for whom the numbers are pending then
      back_some : (n : ℕ) → back_at v x y n ≡ cond (is_over l.link goes_over && free_number l.link r.node.pending == n) (Some (Some (record { name = from; number = id }))) (back_at w x y n)
      back_some n =
          back_now w sound orderly x r found from s at msg tag xs first k linked y other n
          ∙ (λ i. option_and_then (λ (z : LinkPeer). option_map (λ o. option_and_then (λ a. place_of r a) o) (back then.node.pending (branch z.link n))) (e i))
          ∙ ap (λ o. option_map (λ q. option_and_then (λ a. place_of r a) q) o) (back_over r.node.pending who goes_over l.link n)
          ∙ by (is_over l.link goes_over && free_number l.link r.node.pending == n)
          ∙ ap (λ z. cond (is_over l.link goes_over && free_number l.link r.node.pending == n) (Some (Some (record { name = from; number = id }))) z)
          (sym (back_was w sound orderly x r found from s at msg tag xs first k linked y other n
          ∙ (λ i. option_and_then (λ (z : LinkPeer). option_map (λ o. option_and_then (λ a. place_of r a) o) (back r.node.pending (branch z.link n))) (e i))))
        where
          was : Option (Option Place)
          was = option_map (λ o. option_and_then (λ a. place_of r a) o) (back r.node.pending (branch l.link n))

          by : (b : Bool) → option_map (λ o. option_and_then (λ a. place_of r a) o) (cond b (Some (Some who)) (back r.node.pending (branch l.link n)))
              ≡ cond b (Some (Some (record { name = from; number = id }))) was
          by true = ap (λ z. Some z) who_is
          by false = refl

      pub to_over : is_over l.link goes_over ≡ true → link_of v x y ≡ link_asked (link_of w x y) (free_number l.link r.node.pending) (passed_to l) (Some (record { name = from; number = id }))
      to_over over = link_is (link_of v x y) (link_asked (link_of w x y) (free_number l.link r.node.pending) (passed_to l) (Some (record { name = from; number = id })))
          (asks_to w sound orderly x r found from s at msg tag xs first k linked y other
          ∙ ap (λ z. asks w x y ++ z) (asks_some y l e ∙ ap (λ b. cond b (ask (free_number l.link r.node.pending) (passed_to l) ∷ []) []) over))
          (sym (answers_behind w sound orderly x r found from s at msg tag xs first k linked y other refl))
          (λ n. keeps_there w sound orderly x r found from s at msg tag xs first k linked y other n)
          (λ n. back_some n ∙ ap (λ b. cond (b && free_number l.link r.node.pending == n) (Some (Some (record { name = from; number = id }))) (back_at w x y n)) over)

      to_apart : is_over l.link goes_over ≡ false → link_of w x y ≡ link_of v x y
      to_apart over = link_is (link_of w x y) (link_of v x y)
          (sym (asks_to w sound orderly x r found from s at msg tag xs first k linked y other
          ∙ ap (λ z. asks w x y ++ z) (asks_some y l e ∙ ap (λ b. cond b (ask (free_number l.link r.node.pending) (passed_to l) ∷ []) []) over) ∙ append-nil (asks w x y)))
          (answers_behind w sound orderly x r found from s at msg tag xs first k linked y other refl)
          (λ n. sym (keeps_there w sound orderly x r found from s at msg tag xs first k linked y other n))
          (λ n. sym (back_some n ∙ ap (λ b. cond (b && free_number l.link r.node.pending == n) (Some (Some (record { name = from; number = id }))) (back_at w x y n)) over))

      -- the number under which it is asked was free
      pub was_free : back_at w x y (free_number l.link r.node.pending) ≡ None
      was_free =
          back_was w sound orderly x r found from s at msg tag xs first k linked y other (free_number l.link r.node.pending)
          ∙ (λ i. option_and_then (λ (z : LinkPeer). option_map (λ o. option_and_then (λ a. place_of r a) o) (back r.node.pending (branch z.link (free_number l.link r.node.pending)))) (e i))
          ∙ ap (λ o. option_map (λ q. option_and_then (λ a. place_of r a) q) o) (free_back r.node.pending l.link)

    pub to_same : goes_to r goes_over y ≡ false → link_of w x y ≡ link_of v x y
    to_same h = by (link_to r.node.links y) refl h
      where
        by : (o : Option LinkPeer) → link_to r.node.links y ≡ o → option_map_or (λ l. is_over l.link goes_over) o false ≡ false → link_of w x y ≡ link_of v x y
        by None e g = to_none e
        by (Some l) e g = to_apart l e g

  -- ---- from a neighbour to the router

  kept_now : (y : List ℕ) → is_named x y ≡ false → (l : LinkPeer) → link_to r.node.links y ≡ Some l → (n : ℕ) →
      is_kept_by v y x n ≡ (is_kept_by w y x n || (not (is_empty goes_over) && (is_named from y && id == n)))
  kept_now y other l e n =
      keeps_now w sound orderly x r found from s at msg tag xs first k linked y other n
      ∙ (λ i. option_map_or (λ (z : LinkPeer). asked (record { link = z.link; number = n }) then.node.pending) (e i) false)
      ∙ kept_over r.node.pending who (record { link = l.link; number = n }) goes_over
      ∙ (λ i. sym (keeps_was w sound orderly x r found from s at msg tag xs first k linked y other n
      ∙ (λ j. option_map_or (λ (z : LinkPeer). asked (record { link = z.link; number = n }) r.node.pending) (e j) false)) i || (not (is_empty goes_over) && (same_number y l e i && id == n)))

  pub from_asks : asks w from x ≡ ask id came_in ∷ asks v from x
  from_asks = asks_from w sound orderly x r found from s at msg tag xs first k linked from (from_apart w sound orderly x r found from s at msg tag xs first k linked) (same_refl from)

  module _ (apart : is_named x from ≡ false) where
    pub from_taken : is_empty goes_over ≡ false → link_of v from x ≡ taken (link_of w from x) id (asks v from x)
    from_taken some = link_is (link_of v from x) (taken (link_of w from x) id (asks v from x)) refl
        (answers_to w sound orderly x r found from s at msg tag xs first k linked from apart
        ∙ ap (λ z. answers w from x ++ z) (answers_some from k linked ∙ ap (λ b. cond (b && is_named from from) (final id ∷ []) []) some) ∙ append-nil (answers w from x))
        (λ n. kept_now from apart k linked n ∙ (λ i. is_kept_by w from x n || (not (some i) && (same_refl from i && id == n))) ∙ by n (id == n))
        (λ n. back_there w sound orderly x r found from s at msg tag xs first k linked from apart n)
      where
        by : (n : ℕ) (b : Bool) → (is_kept_by w from x n || b) ≡ cond b true (is_kept_by w from x n)
        by n true = or-true (is_kept_by w from x n)
        by n false = or-false (is_kept_by w from x n)

    pub from_ended : is_empty goes_over ≡ true → is_kept_by w from x id ≡ false → link_of v from x ≡ ended (taken (link_of w from x) id (asks v from x)) id
    from_ended none free = link_is (link_of v from x) (ended (taken (link_of w from x) id (asks v from x)) id) refl
        (answers_to w sound orderly x r found from s at msg tag xs first k linked from apart
        ∙ ap (λ z. answers w from x ++ z) (answers_some from k linked ∙ (λ i. cond (none i && same_refl from i) (final id ∷ []) [])))
        (λ n. kept_now from apart k linked n ∙ (λ i. is_kept_by w from x n || (not (none i) && (is_named from from && id == n))) ∙ or-false (is_kept_by w from x n) ∙ by n (id == n) refl)
        (λ n. back_there w sound orderly x r found from s at msg tag xs first k linked from apart n)
      where
        by : (n : ℕ) (b : Bool) → (id == n) ≡ b → is_kept_by w from x n ≡ cond b false (cond b true (is_kept_by w from x n))
        by n true e = ap (is_kept_by w from x) (sym (eqb-true id n e)) ∙ free
        by n false e = refl

  pub from_same : (y : List ℕ) → is_named x y ≡ false → is_named from y ≡ false → link_of w y x ≡ link_of v y x
  from_same y other apart = by (link_to r.node.links y) refl
    where
      sent : (o : Option LinkPeer) → link_to r.node.links y ≡ o → flat_map (λ m. answers_in tag m) (sends_to r.node event y) ≡ []
      sent None e = sent_none y (λ m. answers_in tag m) e
      sent (Some l) e = answers_some y l e ∙ ap (λ b. cond (is_empty goes_over && b) (final id ∷ []) []) apart ∙ none (is_empty goes_over)
        where
          none : (b : Bool) → cond (b && false) (final {R = Said} id ∷ []) [] ≡ []
          none true = refl
          none false = refl

      nothing : (b : Bool) → (b && false) ≡ false
      nothing true = refl
      nothing false = refl

      keeps : (o : Option LinkPeer) → link_to r.node.links y ≡ o → (n : ℕ) → is_kept_by v y x n ≡ is_kept_by w y x n
      keeps None e n =
          keeps_now w sound orderly x r found from s at msg tag xs first k linked y other n
          ∙ (λ i. option_map_or (λ (z : LinkPeer). asked (record { link = z.link; number = n }) then.node.pending) (e i) false)
          ∙ sym (keeps_was w sound orderly x r found from s at msg tag xs first k linked y other n
          ∙ (λ i. option_map_or (λ (z : LinkPeer). asked (record { link = z.link; number = n }) r.node.pending) (e i) false))
      keeps (Some l) e n = kept_now y other l e n ∙ (λ i. is_kept_by w y x n || (not (is_empty goes_over) && (apart i && id == n)))
          ∙ ap (λ b. is_kept_by w y x n || b) (nothing (not (is_empty goes_over))) ∙ or-false (is_kept_by w y x n)

      by : (o : Option LinkPeer) → link_to r.node.links y ≡ o → link_of w y x ≡ link_of v y x
      by o e = link_is (link_of w y x) (link_of v y x) (sym (asks_stay w sound orderly x r found from s at msg tag xs first k linked y other apart))
          (sym (answers_to w sound orderly x r found from s at msg tag xs first k linked y other ∙ ap (λ z. answers w y x ++ z) (sent o e) ∙ append-nil (answers w y x)))
          (λ n. sym (keeps o e n)) (λ n. sym (back_there w sound orderly x r found from s at msg tag xs first k linked y other n))

  -- all others
  pub apart_same : (a b : List ℕ) → is_named x a ≡ false → is_named x b ≡ false → link_of w a b ≡ link_of v a b
  apart_same a b ax bx = others_link w sound orderly x r found from s at msg tag xs first k linked a b ax bx
