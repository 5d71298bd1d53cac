-- A router handles another query's request: nothing of the query changes, since what is asked is asked under numbers that were free, and the row of whom it
-- asks is none of the query's (`other_stands`).
use Rattle.std.proofs.Common.{subst, ◌≡◌, ℕ, ◌==◌, Bool, true, false, List, [], ◌∷◌, ◌++◌, Option, inl, inr, ◌⊎◌, refl, sym, ap, ◌∙◌, Some, ◌&&◌}
use Rattle.std.specs.Prelude.{◌&&◌}
use Rattle.std.proofs.lemmas.Bool.{false≢true, eqb-true, and_parts, and_from, eq-eqb}
use Rattle.zr_id.specs.Zid.{is_named}
use Rattle.zr_id.specs.declared.link.LinkNo.{LinkNo}
use Rattle.zr_msg.specs.declared.content.Parts.{Parts}
use Rattle.zr_msg.specs.declared.msg.Msg.TheVariants.{Request}
use Rattle.zr_msg.specs.declared.msg.Target.{Target}
use Rattle.zr_msg.specs.declared.event.Event.TheVariants.{From}
use Rattle.zr_script_spec.specs.declared.command.Act.TheVariants as c
use Rattle.zr_node_spec.specs.Queries.{asker, asked_links}
use Rattle.zr_world_spec.specs.World.{RouterState, WorldState}
use Rattle.zr_world_spec.specs.Acts.{having_told}
use Rattle.zr_world_spec.specs.Moments.{Numbered, Moment}
use Rattle.zr_world_spec.specs.Sound.{AreUnique}
use Rattle.zr_world_spec.proofs.Names.{same_name}
use Rattle.zr_guarantee.specs.Queries.{Asked}
use Rattle.zr_law_queries.specs.Link.{Asked as AskedHop}
use Rattle.zr_law_queries.specs.Query.{Tree, IsTree, Stage, NotYet, OnTheWay, Here as HasCome, Over, is_child, is_not_yet, is_empty}
use Rattle.zr_law_numbers.specs.Waiting as waiting
use Rattle.zr_law_numbers.specs.Waiting.{Place, Said, is_whole}
use Rattle.zr_law_replies.specs.Trees.{has_router, tree_at}
use Rattle.zr_law_replies.specs.Stands.{IsStill, is_of, is_open, place, asked_at, Shown, request_to, row_places, Stands, held_by}
use Rattle.zr_law_replies.proofs.MarkChanges.{is_hop, hop_is, foreign_marks}
use Rattle.zr_law_replies.proofs.StandRows.{is_place}
use Rattle.zr_law_replies.proofs.StandBranches.{number_for, begun_others, row_same}
use Rattle.zr_law_replies.proofs.StandSteps.{Hops}
use Rattle.zr_law_replies.proofs.StandStep.{Begins, Here}
use Rattle.zr_law_replies.proofs.StandHere.{kids, asker_apart}
use Rattle.zr_law_replies.proofs.HandleHeard.{Heard, after_heard, heard_same}
use Rattle.zr_law_replies.proofs.RequestGoes.{links_on, goes_to, over_some, over_none}
use Rattle.zr_law_replies.proofs.RequestComes.{Comes}
use Rattle.zr_law_replies.proofs.RequestChildren.{routes}
use Rattle.zr_graph.proofs.Names.{same_refl}
use Rattle.zr_body.specs.Latest.{is_latest}
use Rattle.zr_law_replies.proofs.HeldAt.{place_is, begun_apart}
use Rattle.zr_law_replies.proofs.AnswerAskers.{placed}
use Rattle.zr_node_spec.specs.Tables.{leads_to_client}
use Rattle.zr_node_spec.specs.State.{tables}

module _ (before : List Numbered) (mark : ℕ) (start : Moment) (q : Asked) (b : Begins before mark start q) (phase acts : List Numbered) (m : Moment) (here : Here start.world phase q acts m)
    (n : ℕ) (x from : List ℕ) (tree : Option (List ℕ)) (id : ℕ) (target : Target) (content : Parts) (tag : ℕ) (h : Heard m.world x from (Request tree id target content) tag)
    (still : IsStill start.world (after_heard m x from (Request tree id target content) tag h).world) (hop' : Hops)
    (comes : Comes start.world q here.hop hop' x from h.router h.link tree id target content tag) (other : (tag == q.line) ≡ false) where
  abbrev w : WorldState
  w = start.world

  abbrev next : Moment
  next = after_heard m x from (Request tree id target content) tag h

  abbrev then : RouterState
  then = having_told h.router (From h.link.link (Request tree id target content))

  abbrev t : Tree (List ℕ)
  t = tree_at start.world q

  abbrev s : Stands start.world phase q acts m here.hop
  s = here.stands

  abbrev to : List LinkNo
  to = links_on h.router h.link tree target content

  abbrev came : waiting.Asked
  came = record { line = tag; tree = tree; target = target; content = content }

  abbrev goes : List ℕ → Bool
  goes y = goes_to h.router to y

  abbrev more : List ℕ → ℕ
  more y = number_for h.router y

  is : IsTree (tree_at start.world q)
  is = b.tree.is_tree

  apart : has_router start.world q.client ≡ false
  apart = asker_apart before mark start q b phase acts m here

  x_routes : has_router start.world x ≡ true
  x_routes = routes before mark start b.marked q b.client b.found b.up m.world here.stands.still here.holds.go.0.sound x h.router h.found

  unique : AreUnique h.router.node.links
  unique = here.holds.go.0.sound.unique x h.router h.found

  came_is : is_of q.line (here.hop from x id) ≡ false
  came_is = ap (is_of q.line) comes.front ∙ other

  own_stays : (a y : List ℕ) (k : ℕ) → is_whole start.world a y ≡ true → is_of q.line (here.hop a y k) ≡ true → hop' a y k ≡ here.hop a y k
  own_stays a y k there o = comes.stays a y k there (by (is_hop from x id a y k) refl) (at (is_named x a && (goes y && more y == k)) refl)
    where
      by : (d : Bool) → is_hop from x id a y k ≡ d → d ≡ false
      by false e = refl
      by true e = let one = hop_is from x id a y k e in absurd (false≢true (sym came_is ∙ (λ i. is_of q.line (here.hop (one.0 i) (one.1 i) (one.2 i))) ∙ o))

      at : (d : Bool) → (is_named x a && (goes y && more y == k)) ≡ d → d ≡ false
      at false e = refl
      at true e =
          let ps = and_parts (is_named x a) (goes y && more y == k) e in
          let rs = and_parts (goes y) (more y == k) ps.1 in
          let one : x ≡ a = same_name x a ps.0 in
          let free = comes.free y (ap (λ z. is_whole start.world z y) one ∙ there) rs.0 in
          absurd (false≢true (sym (ap (is_of q.line) free) ∙ (λ i. is_of q.line (here.hop (one i) y (eqb-true (more y) k rs.1 i))) ∙ o))

  foreign_stays : (a y : List ℕ) (k : ℕ) → is_whole start.world a y ≡ true → is_of q.line (here.hop a y k) ≡ false → is_of q.line (hop' a y k) ≡ false
  foreign_stays a y k there o = by (is_hop from x id a y k) refl (is_named x a && (goes y && more y == k)) refl
    where
      by : (d : Bool) → is_hop from x id a y k ≡ d → (f : Bool) → (is_named x a && (goes y && more y == k)) ≡ f → is_of q.line (hop' a y k) ≡ false
      by true e f ef =
          let one = hop_is from x id a y k e in
          (λ i. is_of q.line (hop' (sym one.0 i) (sym one.1 i) (sym one.2 i))) ∙ ap (is_of q.line) comes.opened ∙ other
      by false e true ef =
          let ps = and_parts (is_named x a) (goes y && more y == k) ef in
          let rs = and_parts (goes y) (more y == k) ps.1 in
          let one : x ≡ a = same_name x a ps.0 in
          let passed = comes.passed y (ap (λ z. is_whole start.world z y) one ∙ there) rs.0 in
          (λ i. is_of q.line (hop' (sym one i) y (sym (eqb-true (more y) k rs.1) i))) ∙ ap (is_of q.line) passed.2 ∙ other
      by false e false ef = ap (is_of q.line) (comes.stays a y k there e ef) ∙ o

  -- the query's row isn't that of who asked it
  not_its_row : is_open (s.stage x) ≡ true → is_place (place from id) (asked_at t s.num x) ≡ false
  not_its_row o = by (is_place (place from id) (asked_at t s.num x)) refl
    where
      reached : (u : Stage Said) → is_open u ≡ true → is_not_yet u ≡ false
      reached NotYet k = absurd (false≢true k)
      reached OnTheWay k = refl
      reached (HasCome rs done) k = refl
      reached Over k = refl

      below : (x ≡ t.root) ⊎ (is_child t (t.parent x) x ≡ true) → is_child t (t.parent x) x ≡ true
      below (inl root) = absurd (false≢true (sym apart ∙ ap (has_router start.world) (sym root) ∙ x_routes))
      below (inr kid) = kid

      clash : (r : waiting.Asked) (by : Option Place) (u : Stage Said) → is_open u ≡ true → Shown r (asked_at t s.num (t.parent x)) u (AskedHop came by) → ⊥
      clash r by NotYet k shows = false≢true k
      clash r by OnTheWay k shows = false≢true k
      clash r by (HasCome rs done) k shows = absurd (cc)
      clash r by Over k shows = false≢true k

      by : (d : Bool) → is_place (place from id) (asked_at t s.num x) ≡ d → d ≡ false
      by false e = refl
      by true e =
          let ps = and_parts (is_named from (t.parent x)) (s.num x == id) e in
          let one : from ≡ t.parent x = same_name from (t.parent x) ps.0 in
          let number : id ≡ s.num x = sym (eqb-true (s.num x) id ps.1) in
          let hop_here : here.hop (t.parent x) x (s.num x) ≡ AskedHop came comes.by = (λ i. here.hop (sym one i) x (sym number i)) ∙ comes.front in
          absurd (clash (request_to w q x) comes.by (s.stage x) o (subst (λ k. Shown (request_to w q x) (asked_at t s.num (t.parent x)) (s.stage x) k) hop_here
          (s.marks.shown (t.parent x) x (below (s.sound.inside x (reached (s.stage x) o))))))

  row_stays : is_open (s.stage x) ≡ true → row_places then (asked_at t s.num x) ≡ row_places h.router (asked_at t s.num x)
  row_stays o = by (is_empty to) refl
    where
      by : (d : Bool) → is_empty to ≡ d → row_places then (asked_at t s.num x) ≡ row_places h.router (asked_at t s.num x)
      by true e = row_same h.router then refl (over_none h.router.node.pending (asker h.link.link.0 id) to e) (asked_at t s.num x)
      by false e = begun_others h.router unique then refl from h.link h.linked id to
          (over_some h.router.node.pending (asker h.link.link.0 id) to e) (asked_at t s.num x) (not_its_row o)

  held_stays : is_open (s.stage x) ≡ true → held_by then (asked_at t s.num x) ≡ held_by h.router (asked_at t s.num x)
  held_stays o = begun_apart h.router unique (asked_at t s.num x) h.router.node.held (leads_to_client h.router.node.links h.link.link.0 && is_latest content.body) (asker h.link.link.0 id)
      (asked_links (tables h.router.node) h.link.link.0 tree target content.key) (λ e.
      let mine : placed h.router (Some (asker h.link.link.0 id)) ≡ Some (place from id) = place_is h.router unique (place from id) h.link h.linked in
      let both : Some (place from id) ≡ Some (asked_at t s.num x) = sym mine ∙ e in
      let one : place from id ≡ asked_at t s.num x = cc in
      false≢true (sym (not_its_row o) ∙ ap (is_place (place from id)) (sym one) ∙ and_from (is_named from from) (id == id) (same_refl from) (eq-eqb id id refl)))

  pub other_stands : Stands start.world phase q (acts ++ (n, c.Handle x from) ∷ []) next hop'
  other_stands = heard_same w phase q apart acts m here.hop s n x from (Request tree id target content) tag h hop' still
      (foreign_marks t is (request_to w q) q.line (λ y. refl) (is_whole w) (kids before mark start q b) s.num s.stage here.hop hop' s.marks own_stays foreign_stays) (λ o. (row_stays o, held_stays o))
