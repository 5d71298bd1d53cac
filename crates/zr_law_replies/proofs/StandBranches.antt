-- The rows of a router by the names of its neighbours, where a branch ends and where a request begins (`ended_places`, `begun_places`).
use Rattle.std.proofs.Common.{◌≡◌, ℕ, ◌==◌, ◌&&◌, ◌||◌, Bool, true, false, cond, List, [], ◌∷◌, Option, Some, None, refl, sym, ap, ◌∙◌}
use Rattle.std.specs.Prelude.{not, map, is_some}
use Rattle.std.specs.List.{cons_option, list_any, filter_map, find}
use Rattle.std.specs.Option.{option_map, option_map_or, option_and_then}
use Rattle.std.proofs.lemmas.Bool.{false≢true, eqb-true, eq-eqb, and_from}
use Rattle.zr_id.specs.Zid.{is_named}
use Rattle.zr_id.specs.declared.link.LinkNo.{LinkNo}
use Rattle.zr_lists.proofs.Finds.{find_in}
use Rattle.zr_lists.proofs.Elements.{each_in}
use Rattle.zr_msg.specs.declared.peer.LinkPeer.{LinkPeer}
use Rattle.zr_pend_spec.specs.declared.branch.Asker.{Asker}
use Rattle.zr_pend_spec.specs.Row.{RowState, is_asked_by}
use Rattle.zr_pend_spec.specs.Held.{is_for}
use Rattle.zr_pend_spec.specs.Pending.{asked, branch, askers_differ, free_number, opened, begun, finished}
use Rattle.zr_pend_spec.specs.Readings.{back, row_of, new_row}
use Rattle.zr_pend_spec.proofs.Readings.{in_row, finished_row, begun_row, no_row}
use Rattle.zr_node_spec.specs.Tables.{is_link, link_at, link_to}
use Rattle.zr_world_spec.specs.World.{RouterState}
use Rattle.zr_world_spec.specs.Sound.{AreUnique}
use Rattle.zr_world_spec.proofs.Names.{names}
use Rattle.zr_world_spec.proofs.Links.{named_link, numbered_link}
use Rattle.zr_law_numbers.specs.Waiting.{Place, place_of, branch_back}
use Rattle.zr_law_replies.specs.Trees.{neighbours_of}
use Rattle.zr_law_replies.specs.Stands.{place, branch_place, row_places, held_by}
use Rattle.zr_law_replies.proofs.StandRows.{is_place, without, places_without, place_among}

-- what isn't there is left out of nothing
pub without_none : (b : Place) (bs : List Place) → list_any (λ c. is_place b c) bs ≡ false → without b bs ≡ bs
without_none b [] h = refl
without_none b (c ∷ bs) h = by (is_place b c) h (without_none b bs)
  where
    by : (t : Bool) → (t || list_any (λ c. is_place b c) bs) ≡ false → (list_any (λ c. is_place b c) bs ≡ false → without b bs ≡ bs) → cond (not t) (c ∷ without b bs) (without b bs) ≡ c ∷ bs
    by true k ih = absurd (false≢true (sym k))
    by false k ih = ap (λ z. c ∷ z) (ih k)

-- a router with the same links and rows has the same by name
pub row_same : (r r' : RouterState) → r'.node.links ≡ r.node.links → r'.node.pending ≡ r.node.pending → (from : Place) → row_places r' from ≡ row_places r from
row_same r r' links pending from = λ i. row_places (record { node = record { links = links i; base = r.node.base; rows = r.node.rows; clients = r.node.clients; known = r.node.known; pending = pending i; held = r.node.held; spent = r.node.spent }; told = r.told; weight = r.weight }) from

-- and with the same held, what is held
pub held_same : (r r' : RouterState) → r'.node.links ≡ r.node.links → r'.node.held ≡ r.node.held → (from : Place) → held_by r' from ≡ held_by r from
held_same r r' links held from = λ i.
    option_and_then (λ l. option_map (λ g. g.held) (find (λ g. is_for (record { link = l.link; number = from.number }) g) (held i))) (link_to (links i) from.name)

-- the number that a request gets on the link to a neighbour
abbrev pub number_for : RouterState → List ℕ → ℕ
number_for r y = option_map_or (λ l. free_number l.link r.node.pending) (link_to r.node.links y) 0

module _ (r : RouterState) (unique : AreUnique r.node.links) where
  -- the link of a number is the one to its neighbour, and has that number
  pub link_of_number : (n : LinkNo) (l : LinkPeer) → link_at r.node.links n.0 ≡ Some l → (link_to r.node.links l.peer.id ≡ Some l) × (l.link ≡ n)
  link_of_number n l found =
      let f = find_in (λ y. is_link n.0 y) r.node.links l found in
      let number : l.link.0 ≡ n.0 = eqb-true l.link.0 n.0 f.1 in
      (each_in (λ (y : LinkPeer). link_to r.node.links y.peer.id ≡ Some y) r.node.links l unique.names f.0, λ i. record { 0 = number i })

  -- a number that is pending for who asked stands in the row of who asked
  pub branch_in_row : askers_differ r.node.pending ≡ true → (y : List ℕ) (n : ℕ) (from : Place) → branch_back r y n ≡ Some (Some from) →
      list_any (λ b. is_place (place y n) b) (row_places r from) ≡ true
  branch_in_row differ y n from h = by_link (link_to r.node.links y) refl h
    where
      by_link : (o : Option LinkPeer) → link_to r.node.links y ≡ o →
          option_and_then (λ l. option_map (λ o. option_and_then (λ from. place_of r from) o) (back r.node.pending (branch l.link n))) o ≡ Some (Some from) →
          list_any (λ b. is_place (place y n) b) (row_places r from) ≡ true
      by_link None e k = absurd (false≢true (ap is_some k))
      by_link (Some l) e k = by_back (back r.node.pending (branch l.link n)) refl k
        where
          by_back : (o : Option (Option Asker)) → back r.node.pending (branch l.link n) ≡ o → option_map (λ o. option_and_then (λ from. place_of r from) o) o ≡ Some (Some from) →
              list_any (λ b. is_place (place y n) b) (row_places r from) ≡ true
          by_back None f k = absurd (false≢true (ap is_some k))
          by_back (Some None) f k = absurd (let none : None ≡ Some from = cc in false≢true (ap is_some none))
          by_back (Some (Some a)) f k = by_place (link_at r.node.links a.link.0) refl (let one : place_of r a ≡ Some from = cc in one)
            where
              by_place : (o : Option LinkPeer) → link_at r.node.links a.link.0 ≡ o → option_map (λ l. place l.peer.id a.number) o ≡ Some from → list_any (λ b. is_place (place y n) b) (row_places r from) ≡ true
              by_place None g v = absurd (false≢true (ap is_some v))
              by_place (Some j) g v =
                  let from_is : place j.peer.id a.number ≡ from = cc in
                  let at = link_of_number a.link j g in
                  ap (λ z. list_any (λ b. is_place (place y n) b) (row_places r z)) (sym from_is)
                  ∙ ap (λ o. list_any (λ b. is_place (place y n) b)
                  (option_map_or (λ (l : LinkPeer). filter_map (λ b. branch_place r b) (row_of (record { link = l.link; number = a.number }) r.node.pending)) o [])) at.0
                  ∙ ap (λ z. list_any (λ b. is_place (place y n) b) (filter_map (λ b. branch_place r b) (row_of (record { link = z; number = a.number }) r.node.pending))) at.1
                  ∙ ap (λ z. list_any (λ b. is_place (place z n) b) (filter_map (λ b. branch_place r b) (row_of a r.node.pending))) (sym (named_link r.node.links y l e))
                  ∙ place_among r unique l (numbered_link r.node.links unique y l e) n (row_of a r.node.pending) (in_row r.node.pending (branch l.link n) a differ f)

  -- where a branch ends, each row loses it
  pub ended_places : (r' : RouterState) → r'.node.links ≡ r.node.links → askers_differ r.node.pending ≡ true → (y : List ℕ) (l : LinkPeer) → link_to r.node.links y ≡ Some l → (n : ℕ) →
      r'.node.pending ≡ finished r.node.pending (branch l.link n) → (from : Place) → row_places r' from ≡ without (place y n) (row_places r from)
  ended_places r' links differ y l e n pending from = ap (λ z. places_by z r'.node.pending) links ∙ ap (places_by r.node.links) pending ∙ by (link_to r.node.links from.name)
    where
      places_by : List LinkPeer → List RowState → List Place
      places_by ls rows = option_map_or (λ j. filter_map (λ b. option_map (λ k. place k.peer.id b.number) (link_at ls b.link.0)) (row_of (record { link = j.link; number = from.number }) rows)) (link_to ls from.name) []

      by : (o : Option LinkPeer) →
          option_map_or (λ j. filter_map (λ b. branch_place r b) (row_of (record { link = j.link; number = from.number }) (finished r.node.pending (branch l.link n)))) o []
          ≡ without (place y n) (option_map_or (λ j. filter_map (λ b. branch_place r b) (row_of (record { link = j.link; number = from.number }) r.node.pending)) o [])
      by None = refl
      by (Some j) =
          ap (filter_map (λ b. branch_place r b)) (finished_row r.node.pending (branch l.link n) (record { link = j.link; number = from.number }) differ)
          ∙ places_without r unique l (numbered_link r.node.links unique y l e) n (row_of (record { link = j.link; number = from.number }) r.node.pending)
          ∙ ap (λ z. without (place z n) (filter_map (λ b. branch_place r b) (row_of (record { link = j.link; number = from.number }) r.node.pending))) (named_link r.node.links y l e)

  -- the branches of a request that goes on over some links are those of their neighbours, each under its number
  pub opened_places : (to : List LinkNo) → filter_map (λ b. branch_place r b) (opened r.node.pending to) ≡ map (λ y. place y (number_for r y)) (neighbours_of r.node.links to)
  opened_places [] = refl
  opened_places (n ∷ to) = by (link_at r.node.links n.0) refl (opened_places to)
    where
      by : (o : Option LinkPeer) → link_at r.node.links n.0 ≡ o → filter_map (λ b. branch_place r b) (opened r.node.pending to) ≡ map (λ y. place y (number_for r y)) (neighbours_of r.node.links to) →
          cons_option (option_map (λ l. place l.peer.id (free_number n r.node.pending)) o) (filter_map (λ b. branch_place r b) (opened r.node.pending to))
          ≡ map (λ y. place y (number_for r y)) (cons_option (option_map (λ l. l.peer.id) o) (neighbours_of r.node.links to))
      by None e ih = ih
      by (Some l) e ih =
          let at = link_of_number n l e in
          ap (λ z. place l.peer.id (free_number n r.node.pending) ∷ z) ih
          ∙ ap (λ k. place l.peer.id k ∷ map (λ y. place y (number_for r y)) (neighbours_of r.node.links to))
          (ap (λ z. free_number z r.node.pending) (sym at.1) ∙ ap (λ o. option_map_or (λ (l : LinkPeer). free_number l.link r.node.pending) o 0) (sym at.0))

  -- where a request begins that came under a number that isn't kept, they are the row of who asked
  pub begun_places : (r' : RouterState) → r'.node.links ≡ r.node.links → (x : List ℕ) (l : LinkPeer) → link_to r.node.links x ≡ Some l → (n : ℕ) (to : List LinkNo) →
      r'.node.pending ≡ begun r.node.pending (record { link = l.link; number = n }) to → asked (record { link = l.link; number = n }) r.node.pending ≡ false →
      row_places r' (place x n) ≡ map (λ y. place y (number_for r y)) (neighbours_of r.node.links to)
  begun_places r' links x l e n to pending free =
      ap (λ z. places_by z r'.node.pending) links ∙ ap (places_by r.node.links) pending
      ∙ ap (λ o. option_map_or (λ (j : LinkPeer). filter_map (λ b. branch_place r b) (row_of (record { link = j.link; number = n }) (begun r.node.pending asker to))) o []) e
      ∙ ap (filter_map (λ b. branch_place r b)) (begun_row r.node.pending asker to asker ∙ ap (λ b. cond b (row_of asker r.node.pending) (cond (is_asked_by asker (new_row r.node.pending asker to)) (opened r.node.pending to) [])) free
      ∙ ap (λ b. cond b (opened r.node.pending to) []) (and_from (l.link.0 == l.link.0) (n == n) (eq-eqb l.link.0 l.link.0 refl) (eq-eqb n n refl)))
      ∙ opened_places to
    where
      asker : Asker
      asker = record { link = l.link; number = n }

      places_by : List LinkPeer → List RowState → List Place
      places_by ls rows = option_map_or (λ j. filter_map (λ b. option_map (λ k. place k.peer.id b.number) (link_at ls b.link.0)) (row_of (record { link = j.link; number = n }) rows)) (link_to ls x) []

  -- and the rows of all others stay
  pub begun_others : (r' : RouterState) → r'.node.links ≡ r.node.links → (x : List ℕ) (l : LinkPeer) → link_to r.node.links x ≡ Some l → (n : ℕ) (to : List LinkNo) →
      r'.node.pending ≡ begun r.node.pending (record { link = l.link; number = n }) to → (from : Place) → is_place (place x n) from ≡ false → row_places r' from ≡ row_places r from
  begun_others r' links x l e n to pending from other = ap (λ z. places_by z r'.node.pending) links ∙ ap (places_by r.node.links) pending ∙ by (link_to r.node.links from.name) refl
    where
      asker : Asker
      asker = record { link = l.link; number = n }

      places_by : List LinkPeer → List RowState → List Place
      places_by ls rows = option_map_or (λ j. filter_map (λ b. option_map (λ k. place k.peer.id b.number) (link_at ls b.link.0)) (row_of (record { link = j.link; number = from.number }) rows)) (link_to ls from.name) []

      apart : (j : LinkPeer) → link_to r.node.links from.name ≡ Some j → (l.link.0 == j.link.0 && n == from.number) ≡ false
      apart j f = at (l.link.0 == j.link.0) refl (n == from.number) refl
        where
          at : (a : Bool) → (l.link.0 == j.link.0) ≡ a → (b : Bool) → (n == from.number) ≡ b → (a && b) ≡ false
          at false ea b eb = refl
          at true ea false eb = refl
          at true ea true eb =
              let both : Some l ≡ Some j = sym (numbered_link r.node.links unique x l e) ∙ ap (link_at r.node.links) (eqb-true l.link.0 j.link.0 ea) ∙ numbered_link r.node.links unique from.name j f in
              let one : l ≡ j = cc in
              let name : x ≡ from.name = sym (named_link r.node.links x l e) ∙ ap (λ (z : LinkPeer). z.peer.id) one ∙ named_link r.node.links from.name j f in
              absurd (false≢true (sym other ∙ and_from (is_named x from.name) (from.number == n) (ap (is_named x) (sym name) ∙ names.refl x) (eq-eqb from.number n (sym (eqb-true n from.number eb)))))

      row_is : (j : LinkPeer) → link_to r.node.links from.name ≡ Some j →
          row_of (record { link = j.link; number = from.number }) (begun r.node.pending asker to) ≡ row_of (record { link = j.link; number = from.number }) r.node.pending
      row_is j f =
          begun_row r.node.pending asker to (record { link = j.link; number = from.number })
          ∙ ap (λ b. cond (asked (record { link = j.link; number = from.number }) r.node.pending) (row_of (record { link = j.link; number = from.number }) r.node.pending) (cond b (opened r.node.pending to) [])) (apart j f)
          ∙ at (asked (record { link = j.link; number = from.number }) r.node.pending) refl
        where
          at : (b : Bool) → asked (record { link = j.link; number = from.number }) r.node.pending ≡ b →
              cond b (row_of (record { link = j.link; number = from.number }) r.node.pending) [] ≡ row_of (record { link = j.link; number = from.number }) r.node.pending
          at true k = refl
          at false k = sym (no_row (record { link = j.link; number = from.number }) r.node.pending k)

      by : (o : Option LinkPeer) → link_to r.node.links from.name ≡ o →
          option_map_or (λ j. filter_map (λ b. branch_place r b) (row_of (record { link = j.link; number = from.number }) (begun r.node.pending asker to))) o []
          ≡ option_map_or (λ j. filter_map (λ b. branch_place r b) (row_of (record { link = j.link; number = from.number }) r.node.pending)) o []
      by None f = refl
      by (Some j) f = ap (filter_map (λ b. branch_place r b)) (row_is j f)
