-- What is known where a router handles a request: the hop of the request that came, and what becomes of hops (`Comes`).
use Rattle.std.proofs.Common.{◌≡◌, ℕ, ◌==◌, true, false, List, [], Option, Some, None, refl, sym, ap, ◌∙◌}
use Rattle.std.specs.Prelude.{◌&&◌}
use Rattle.std.specs.Option.{option_map_or}
use Rattle.std.proofs.lemmas.Bool.{false≢true}
use Rattle.zr_id.specs.Zid.{is_named}
use Rattle.zr_id.specs.declared.link.LinkNo.{LinkNo}
use Rattle.zr_msg.specs.declared.content.Parts.{Parts}
use Rattle.zr_msg.specs.declared.msg.Msg.TheVariants.{Request}
use Rattle.zr_msg.specs.declared.msg.Target.{Target}
use Rattle.zr_msg.specs.declared.peer.LinkPeer.{LinkPeer}
use Rattle.zr_pend_spec.specs.Pending.{asked, free_number}
use Rattle.zr_node_spec.specs.Tables.{link_to}
use Rattle.zr_world_spec.specs.World.{RouterState, WorldState}
use Rattle.zr_world_spec.specs.Moments.{Numbered, Moment}
use Rattle.zr_world_spec.specs.Sound.{IsSound}
use Rattle.zr_law_settled.proofs.Orderly.{Orderly}
use Rattle.zr_guarantee.specs.Queries.{Asked}
use Rattle.zr_law_queries.specs.Link.{Free, Asked as AskedHop, Open}
use Rattle.zr_law_queries.specs.Query.{is_empty}
use Rattle.zr_law_queries.specs.Numbers.{IsNewAsk}
use Rattle.zr_law_numbers.specs.Waiting as waiting
use Rattle.zr_law_numbers.specs.Waiting.{Place, asks, link_of, is_whole}
use Rattle.zr_law_numbers.proofs.RowsBegun.{is_over}
use Rattle.zr_law_numbers.proofs.Whole.{whole_apart}
use Rattle.zr_law_replies.specs.Stands.{IsStill, place}
use Rattle.zr_law_replies.proofs.Links.{lines_on}
use Rattle.zr_law_replies.proofs.MarkChanges.{is_hop}
use Rattle.zr_law_replies.proofs.StandBranches.{number_for}
use Rattle.zr_law_replies.proofs.StandSteps.{Hops}
use Rattle.zr_law_replies.proofs.StandStep.{request_of, PlainHops, Here}
use Rattle.zr_law_replies.proofs.HandleLinks.{from_apart, keeps_was}
use Rattle.zr_law_replies.proofs.StandHere.{still_whole}
use Rattle.zr_law_replies.proofs.HandleHeard.{Heard, after_heard, heard_whole}
use Rattle.zr_law_replies.proofs.RequestGoes.{links_on, goes_to, asked_on}
use Rattle.zr_law_replies.proofs.RequestHops.{front_is, opened_hop, free_hop, passed_hop, stays_hop}

-- The request that came was on its way, and is open then, or done where it goes nowhere. Over each link where it goes it is asked under a number that was
-- free. And all other hops are as they were.
pub record Comes (w : WorldState) (q : Asked) (hop hop' : Hops) (x from : List ℕ) (r : RouterState) (k : LinkPeer) (tree : Option (List ℕ)) (id : ℕ) (target : Target) (content : Parts) (tag : ℕ) : Type 0 where
  pub by : Option Place
  pub front : hop from x id ≡ AskedHop (record { line = tag; tree = tree; target = target; content = content }) by
  pub whole : is_whole w from x ≡ true
  -- the router kept no request of that number from there
  pub unasked : asked (record { link = k.link; number = id }) r.node.pending ≡ false
  pub opened : hop' from x id ≡ Open (request_of w q x tag) by [] (is_empty (links_on r k tree target content))
  pub free : (y : List ℕ) → is_whole w x y ≡ true → goes_to r (links_on r k tree target content) y ≡ true → hop x y (number_for r y) ≡ Free
  pub passed : (y : List ℕ) → is_whole w x y ≡ true → goes_to r (links_on r k tree target content) y ≡ true →
      (l : LinkPeer) × (link_to r.node.links y ≡ Some l) × (hop' x y (number_for r y) ≡ AskedHop (asked_on r k tag tree target content l) (Some (place from id)))
  pub stays : (a y : List ℕ) (n : ℕ) → is_whole w a y ≡ true → is_hop from x id a y n ≡ false → (is_named x a && (goes_to r (links_on r k tree target content) y && number_for r y == n)) ≡ false →
      hop' a y n ≡ hop a y n

module _ (w : WorldState) (phase : List Numbered) (q : Asked) (acts : List Numbered) (m : Moment) (here : Here w phase q acts m) (x from : List ℕ) (tree : Option (List ℕ)) (id : ℕ) (target : Target)
    (content : Parts) (tag : ℕ) (h : Heard m.world x from (Request tree id target content) tag) where
  abbrev next : Moment
  next = after_heard m x from (Request tree id target content) tag h

  abbrev sound : IsSound m.world
  sound = here.holds.go.0.sound

  abbrev orderly : Orderly m.world
  orderly = here.holds.go.0.orderly

  abbrev to : List LinkNo
  to = links_on h.router h.link tree target content

  abbrev came : waiting.Asked
  came = record { line = tag; tree = tree; target = target; content = content }

  there : is_whole m.world from x ≡ true
  there = heard_whole m.world orderly x from (Request tree id target content) tag h

  first : IsNewAsk (link_of m.world from x) (here.hop from x) id came (asks next.world from x)
  first = front_is w q m.world sound orderly here.holds.lines here.hop here.plain x from tree id target content tag h there

  was_unasked : asked (record { link = h.link.link; number = id }) h.router.node.pending ≡ false
  was_unasked =
      ap (λ o. option_map_or (λ (l : LinkPeer). asked (record { link = l.link; number = id }) h.router.node.pending) o false) (sym h.linked)
      ∙ sym (keeps_was m.world sound orderly x h.router h.found from h.state h.at (Request tree id target content) tag h.behind h.first h.link h.linked from
      (from_apart m.world sound orderly x h.router h.found from h.state h.at (Request tree id target content) tag h.behind h.first h.link h.linked) id)
      ∙ first.untaken

  module _ (still : IsStill w next.world) (hop' : Hops) (plain' : PlainHops w q next.world (lines_on next.world here.holds.lines) hop') where
    was : (a y : List ℕ) → is_whole w a y ≡ true → is_whole m.world a y ≡ true
    was a y k = still_whole w m.world here.stands.still a y ∙ k

    now : (a y : List ℕ) → is_whole w a y ≡ true → is_whole next.world a y ≡ true
    now a y k = still_whole w next.world still a y ∙ k

    from_whole : is_whole w from x ≡ true
    from_whole = sym (still_whole w m.world here.stands.still from x) ∙ there

    -- a link over which it goes
    record GoesTo (y : List ℕ) : Type 0 where
      pub link : LinkPeer
      pub linked : link_to h.router.node.links y ≡ Some link
      pub over_is : is_over link.link to ≡ true
      pub number : number_for h.router y ≡ free_number link.link h.router.node.pending

    goes : (y : List ℕ) → goes_to h.router to y ≡ true → GoesTo y
    goes y e = by (link_to h.router.node.links y) refl e
      where
        by : (o : Option LinkPeer) → link_to h.router.node.links y ≡ o → option_map_or (λ l. is_over l.link to) o false ≡ true → GoesTo y
        by None f k = absurd (false≢true k)
        by (Some l) f k = record { link = l; linked = f; over_is = k; number = ap (λ o. option_map_or (λ (z : LinkPeer). free_number z.link h.router.node.pending) o 0) f }

    apart : (a y : List ℕ) → is_whole w a y ≡ true → is_named a y ≡ false
    apart a y k = whole_apart m.world sound a y (was a y k)

    pub comes : Comes w q here.hop hop' x from h.router h.link tree id target content tag
    comes = record {
      by = first.hop.0;
      front = first.hop.1;
      whole = from_whole;
      unasked = was_unasked;
      opened = opened_hop w q m.world sound orderly here.holds.lines here.hop here.plain x from tree id target content tag h hop' plain' there (now from x from_whole) first.hop.0 first.hop.1;
      free = λ y k g.
          let z = goes y g in
          ap (here.hop x y) z.number
          ∙ free_hop w q m.world sound orderly here.holds.lines here.hop here.plain x from tree id target content tag h hop' plain' y (apart x y k) (was x y k) (now x y k) z.link z.linked;
      passed = λ y k g.
          let z = goes y g in (
            z.link,
            z.linked,
            ap (hop' x y) z.number
                ∙ passed_hop w q m.world sound orderly here.holds.lines here.hop here.plain x from tree id target content tag h hop' plain' y (apart x y k) (was x y k) (now x y k) z.link z.linked z.over_is,
          );
      stays = λ a y n k e f.
          stays_hop w q m.world sound orderly here.holds.lines here.hop here.plain x from tree id target content tag h hop' plain' a y (apart a y k) (was a y k) (now a y k) n e f;
    }
