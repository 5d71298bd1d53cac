-- The rows of a router by the names of its neighbours, and those that a query has: of each child whose final was not handled.
use Rattle.std.proofs.Common.{◌≡◌, ℕ, ◌==◌, ◌&&◌, ◌||◌, Bool, true, false, cond, List, [], ◌∷◌, Option, Some, None, refl, sym, ap, ◌∙◌}
use Rattle.std.specs.Prelude.{not, map, filter, is_some}
use Rattle.std.specs.List.{AllByRecursion, cons_option, list_any, filter_map}
use Rattle.std.specs.Option.{option_map}
use Rattle.std.proofs.lemmas.Bool.{eqb-true, eq-eqb, false≢true, true≢false, and_parts, and_from}
use Rattle.zr_id.specs.Zid.{is_named}
use Rattle.zr_lists.proofs.Finds.{find_in}
use Rattle.zr_lists.proofs.Elements.{each_in}
use Rattle.zr_msg.specs.declared.peer.LinkPeer.{LinkPeer}
use Rattle.zr_pend_spec.specs.declared.branch.Branch.{Branch}
use Rattle.zr_pend_spec.specs.Row.{is_branch}
use Rattle.zr_pend_spec.specs.Pending.{branch}
use Rattle.zr_pend_spec.specs.Readings.{but_for}
use Rattle.zr_node_spec.specs.Tables.{is_link, link_at, link_to}
use Rattle.zr_world_spec.specs.World.{RouterState}
use Rattle.zr_world_spec.specs.Sound.{AreUnique}
use Rattle.zr_world_spec.proofs.Names.{names, same_name}
use Rattle.zr_law_queries.specs.Query.{Tree, IsTree, Stage, Over, is_child, is_over, all_over, is_empty, with_one}
use Rattle.zr_law_queries.proofs.Trees.{has_head, has_tail, same_of}
use Rattle.zr_law_numbers.specs.Waiting.{Place, Said}
use Rattle.zr_law_replies.specs.Stands.{place, branch_place, open_below}

-- ---- places

abbrev pub is_place : Place → Place → Bool
is_place a b = is_named a.name b.name && b.number == a.number

abbrev pub without : Place → List Place → List Place
without b bs = filter (λ c. not (is_place b c)) bs

module _ (r : RouterState) (unique : AreUnique r.node.links) (l : LinkPeer) (at : link_at r.node.links l.link.0 ≡ Some l) (n : ℕ) where
  -- a branch is that of the link and number exactly where its place is that of the neighbour and number
  same_branch : (c : Branch) (k : LinkPeer) → link_at r.node.links c.link.0 ≡ Some k → is_branch (branch l.link n) c ≡ is_place (place l.peer.id n) (place k.peer.id c.number)
  same_branch c k found = ap (λ b. b && c.number == n) (by (c.link.0 == l.link.0) refl (is_named l.peer.id k.peer.id) refl)
    where
      number_is : k.link.0 ≡ c.link.0
      number_is = eqb-true k.link.0 c.link.0 (find_in (λ z. is_link c.link.0 z) r.node.links k found).1

      to_link : (z : LinkPeer) (number : ℕ) → link_at r.node.links number ≡ Some z → link_to r.node.links z.peer.id ≡ Some z
      to_link z number f = each_in (λ (y : LinkPeer). link_to r.node.links y.peer.id ≡ Some y) r.node.links z unique.names (find_in (λ y. is_link number y) r.node.links z f).0

      by : (a : Bool) → (c.link.0 == l.link.0) ≡ a → (b : Bool) → is_named l.peer.id k.peer.id ≡ b → a ≡ b
      by true ea true eb = refl
      by false ea false eb = refl
      by true ea false eb =
          let both : Some k ≡ Some l = sym found ∙ ap (link_at r.node.links) (eqb-true c.link.0 l.link.0 ea) ∙ at in
          let one : k ≡ l = cc in
          absurd (true≢false (sym (names.refl l.peer.id) ∙ ap (λ (z : LinkPeer). is_named l.peer.id z.peer.id) (sym one) ∙ eb))
      by false ea true eb =
          let both : Some l ≡ Some k = sym (to_link l l.link.0 at) ∙ ap (link_to r.node.links) (same_name l.peer.id k.peer.id eb) ∙ to_link k c.link.0 found in
          let one : l ≡ k = cc in
          absurd (false≢true (sym ea ∙ eq-eqb c.link.0 l.link.0 (sym number_is ∙ ap (λ (z : LinkPeer). z.link.0) (sym one))))

  -- branches but for one are all places but for its own
  pub places_without : (bs : List Branch) → filter_map (λ b. branch_place r b) (but_for (branch l.link n) bs) ≡ without (place l.peer.id n) (filter_map (λ b. branch_place r b) bs)
  places_without [] = refl
  places_without (c ∷ bs) = by (link_at r.node.links c.link.0) refl (is_branch (branch l.link n) c) refl (places_without bs)
    where
      rest : List Branch
      rest = but_for (branch l.link n) bs

      places : List Place
      places = filter_map (λ b. branch_place r b) bs

      by : (o : Option LinkPeer) → link_at r.node.links c.link.0 ≡ o → (t : Bool) → is_branch (branch l.link n) c ≡ t →
          filter_map (λ b. branch_place r b) rest ≡ without (place l.peer.id n) places →
          filter_map (λ b. branch_place r b) (cond (not t) (c ∷ rest) rest) ≡ without (place l.peer.id n) (cons_option (option_map (λ k. place k.peer.id c.number) o) places)
      by None e true f ih = ih
      by None e false f ih = ap (λ o. cons_option (option_map (λ (k : LinkPeer). place k.peer.id c.number) o) (filter_map (λ b. branch_place r b) rest)) e ∙ ih
      by (Some k) e true f ih = ih ∙ ap (λ b. cond (not b) (place k.peer.id c.number ∷ without (place l.peer.id n) places) (without (place l.peer.id n) places)) (sym f ∙ same_branch c k e)
      by (Some k) e false f ih =
          ap (λ o. cons_option (option_map (λ (k : LinkPeer). place k.peer.id c.number) o) (filter_map (λ b. branch_place r b) rest)) e
          ∙ ap (λ z. place k.peer.id c.number ∷ z) ih
          ∙ ap (λ b. cond (not b) (place k.peer.id c.number ∷ without (place l.peer.id n) places) (without (place l.peer.id n) places)) (sym f ∙ same_branch c k e)

  -- a branch stands among some where its place does
  pub place_among : (bs : List Branch) → list_any (λ c. is_branch (branch l.link n) c) bs ≡ true → list_any (λ b. is_place (place l.peer.id n) b) (filter_map (λ b. branch_place r b) bs) ≡ true
  place_among [] h = h
  place_among (c ∷ bs) h = by (link_at r.node.links c.link.0) refl (is_branch (branch l.link n) c) refl (place_among bs) h
    where
      P : Place → Bool
      P b = is_place (place l.peer.id n) b

      by : (o : Option LinkPeer) → link_at r.node.links c.link.0 ≡ o → (t : Bool) → is_branch (branch l.link n) c ≡ t →
          (list_any (λ c. is_branch (branch l.link n) c) bs ≡ true → list_any (λ b. is_place (place l.peer.id n) b) (filter_map (λ b. branch_place r b) bs) ≡ true) →
          (t || list_any (λ c. is_branch (branch l.link n) c) bs) ≡ true →
          list_any (λ b. is_place (place l.peer.id n) b) (cons_option (option_map (λ k. place k.peer.id c.number) o) (filter_map (λ b. branch_place r b) bs)) ≡ true
      by None e true f ih k = absurd (false≢true (ap is_some (sym e ∙ ap (link_at r.node.links) (eqb-true c.link.0 l.link.0 (and_parts (c.link.0 == l.link.0) (c.number == n) f).0) ∙ at)))
      by None e false f ih k = ih k
      by (Some y) e true f ih k = ap (λ b. b || list_any (λ b. is_place (place l.peer.id n) b) (filter_map (λ b. branch_place r b) bs)) (sym (same_branch c y e) ∙ f)
      by (Some y) e false f ih k =
          ap (λ b. b || list_any (λ b. is_place (place l.peer.id n) b) (filter_map (λ b. branch_place r b) bs)) (sym (same_branch c y e) ∙ f) ∙ ih k

-- where all links of branches are there, there are places where there are branches
pub places_empty : (r : RouterState) (bs : List Branch) → AllByRecursion (λ b. is_some (link_at r.node.links b.link.0) ≡ true) bs → is_empty (filter_map (λ b. branch_place r b) bs) ≡ is_empty bs
places_empty r [] h = refl
places_empty r (b ∷ bs) h = by (link_at r.node.links b.link.0) h.0
  where
    by : (o : Option LinkPeer) → is_some o ≡ true → is_empty (cons_option (option_map (λ l. place l.peer.id b.number) o) (filter_map (λ b. branch_place r b) bs)) ≡ false
    by None k = absurd (false≢true k)
    by (Some l) k = refl

-- ---- those of a query

module _ (t : Tree (List ℕ)) (is : IsTree t) (num : List ℕ → ℕ) where
  filter_on : (p p' : List ℕ → Bool) (ys : List (List ℕ)) → ((y : List ℕ) → list_any (λ z. t.same z y) ys ≡ true → p y ≡ p' y) → filter p ys ≡ filter p' ys
  filter_on p p' [] f = refl
  filter_on p p' (y ∷ ys) f =
      ap (λ b. cond b (y ∷ filter p ys) (filter p ys)) (f y (has_head t is y ys)) ∙ ap (λ z. cond (p' y) (y ∷ z) z) (filter_on p p' ys (λ z h. f z (has_tail t is y z ys h)))

  -- they are the same where the same children are over
  pub open_on : (stage stage' : List ℕ → Stage Said) (x : List ℕ) → ((y : List ℕ) → is_child t x y ≡ true → is_over (stage y) ≡ is_over (stage' y)) → open_below t num stage x ≡ open_below t num stage' x
  open_on stage stage' x f = ap (map (λ y. place y (num y))) (filter_on (λ y. not (is_over (stage y))) (λ y. not (is_over (stage' y))) (t.children x) (λ y k. ap not (f y k)))

  -- or under other numbers
  pub open_numbers : (num' : List ℕ → ℕ) (stage : List ℕ → Stage Said) (x : List ℕ) → ((y : List ℕ) → is_child t x y ≡ true → num y ≡ num' y) → open_below t num stage x ≡ open_below t num' stage x
  open_numbers num' stage x f = places (t.children x) f
    where
      places : (ys : List (List ℕ)) → ((y : List ℕ) → list_any (λ z. t.same z y) ys ≡ true → num y ≡ num' y) →
          map (λ y. place y (num y)) (filter (λ y. not (is_over (stage y))) ys) ≡ map (λ y. place y (num' y)) (filter (λ y. not (is_over (stage y))) ys)
      places [] f = refl
      places (y ∷ ys) f = by (not (is_over (stage y))) (places ys (λ z h. f z (has_tail t is y z ys h)))
        where
          by : (b : Bool) → map (λ y. place y (num y)) (filter (λ y. not (is_over (stage y))) ys) ≡ map (λ y. place y (num' y)) (filter (λ y. not (is_over (stage y))) ys) →
              map (λ y. place y (num y)) (cond b (y ∷ filter (λ y. not (is_over (stage y))) ys) (filter (λ y. not (is_over (stage y))) ys))
              ≡ map (λ y. place y (num' y)) (cond b (y ∷ filter (λ y. not (is_over (stage y))) ys) (filter (λ y. not (is_over (stage y))) ys))
          by true ih = ap (λ z. place y z ∷ map (λ y. place y (num y)) (filter (λ y. not (is_over (stage y))) ys)) (f y (has_head t is y ys)) ∙ ap (λ z. place y (num' y) ∷ z) ih
          by false ih = ih

  -- what stands there is a child that isn't over, under its number
  pub in_open : (stage : List ℕ → Stage Said) (x y : List ℕ) (n : ℕ) → list_any (λ b. is_place (place y n) b) (open_below t num stage x) ≡ true →
      (is_child t x y ≡ true) × (is_over (stage y) ≡ false) × (n ≡ num y)
  in_open stage x y n h = among (t.children x) h
    where
      F : List (List ℕ) → List Place
      F ys = map (λ z. place z (num z)) (filter (λ z. not (is_over (stage z))) ys)

      among : (ys : List (List ℕ)) → list_any (λ b. is_place (place y n) b) (F ys) ≡ true → (list_any (λ z. t.same z y) ys ≡ true) × (is_over (stage y) ≡ false) × (n ≡ num y)
      among [] k = absurd (false≢true k)
      among (z ∷ zs) k = by (is_over (stage z)) refl (among zs) k
        where
          more : (list_any (λ j. t.same j y) zs ≡ true) × (is_over (stage y) ≡ false) × (n ≡ num y) → (list_any (λ j. t.same j y) (z ∷ zs) ≡ true) × (is_over (stage y) ≡ false) × (n ≡ num y)
          more r = (has_tail t is z y zs r.0, r.1, r.2)

          by_place : (c : Bool) → (is_named y z && num z == n) ≡ c → is_over (stage z) ≡ false →
              (list_any (λ b. is_place (place y n) b) (F zs) ≡ true → (list_any (λ j. t.same j y) zs ≡ true) × (is_over (stage y) ≡ false) × (n ≡ num y)) →
              (c || list_any (λ b. is_place (place y n) b) (F zs)) ≡ true → (list_any (λ j. t.same j y) (z ∷ zs) ≡ true) × (is_over (stage y) ≡ false) × (n ≡ num y)
          by_place true e over ih m =
              let parts = and_parts (is_named y z) (num z == n) e in
              let one : y ≡ z = same_name y z parts.0 in
              (ap (λ j. list_any (λ v. t.same v j) (z ∷ zs)) one ∙ has_head t is z zs, ap (λ j. is_over (stage j)) one ∙ over, sym (eqb-true (num z) n parts.1) ∙ ap num (sym one))
          by_place false e over ih m = more (ih m)

          by : (c : Bool) → is_over (stage z) ≡ c → (list_any (λ b. is_place (place y n) b) (F zs) ≡ true → (list_any (λ j. t.same j y) zs ≡ true) × (is_over (stage y) ≡ false) × (n ≡ num y)) →
              list_any (λ b. is_place (place y n) b) (map (λ j. place j (num j)) (cond (not c) (z ∷ filter (λ j. not (is_over (stage j))) zs) (filter (λ j. not (is_over (stage j))) zs))) ≡ true →
              (list_any (λ j. t.same j y) (z ∷ zs) ≡ true) × (is_over (stage y) ≡ false) × (n ≡ num y)
          by true e ih m = more (ih m)
          by false e ih m = by_place (is_named y z && num z == n) refl e ih m

  -- none is left where all are over
  pub none_open : (stage : List ℕ → Stage Said) (x : List ℕ) → is_empty (open_below t num stage x) ≡ all_over stage (t.children x)
  none_open stage x = among (t.children x)
    where
      among : (ys : List (List ℕ)) → is_empty (map (λ z. place z (num z)) (filter (λ z. not (is_over (stage z))) ys)) ≡ all_over stage ys
      among [] = refl
      among (y ∷ ys) = by (is_over (stage y)) (among ys)
        where
          by : (b : Bool) → is_empty (map (λ z. place z (num z)) (filter (λ z. not (is_over (stage z))) ys)) ≡ all_over stage ys →
              is_empty (map (λ z. place z (num z)) (cond (not b) (y ∷ filter (λ z. not (is_over (stage z))) ys) (filter (λ z. not (is_over (stage z))) ys))) ≡ (b && all_over stage ys)
          by true ih = ih
          by false ih = refl

  -- once a child is over, the others are left
  pub without_open : (stage : List ℕ → Stage Said) (x y : List ℕ) → without (place y (num y)) (open_below t num stage x) ≡ open_below t num (with_one t stage y Over) x
  without_open stage x y = among (t.children x)
    where
      F : List (List ℕ) → List Place
      F ys = map (λ z. place z (num z)) (filter (λ z. not (is_over (stage z))) ys)

      left : List (List ℕ) → List (List ℕ)
      left ys = filter (λ z. not (is_over (with_one t stage y Over z))) ys

      same_place : (z : List ℕ) (c : Bool) → t.same y z ≡ c → (is_named y z && num z == num y) ≡ c
      same_place z true e = let one = is.decides y z e in and_from (is_named y z) (num z == num y) (ap (is_named y) (sym one) ∙ names.refl y) (eq-eqb (num z) (num y) (ap num (sym one)))
      same_place z false e = by (is_named y z) refl
        where
          by : (b : Bool) → is_named y z ≡ b → (b && num z == num y) ≡ false
          by false f = refl
          by true f = absurd (false≢true (sym e ∙ same_of t is y z (same_name y z f)))

      among : (ys : List (List ℕ)) → without (place y (num y)) (F ys) ≡ map (λ z. place z (num z)) (left ys)
      among [] = refl
      among (z ∷ zs) = by (is_over (stage z)) refl (t.same y z) refl (among zs)
        where
          by : (b : Bool) → is_over (stage z) ≡ b → (c : Bool) → t.same y z ≡ c → without (place y (num y)) (F zs) ≡ map (λ j. place j (num j)) (left zs) →
              without (place y (num y)) (map (λ j. place j (num j)) (cond (not b) (z ∷ filter (λ j. not (is_over (stage j))) zs) (filter (λ j. not (is_over (stage j))) zs)))
              ≡ map (λ j. place j (num j)) (cond (not (is_over (cond c Over (stage z)))) (z ∷ left zs) (left zs))
          by true o true e ih = ih
          by true o false e ih = ih ∙ ap (λ u. map (λ j. place j (num j)) (cond (not u) (z ∷ left zs) (left zs))) (sym o)
          by false o true e ih = ap (λ u. cond (not u) (place z (num z) ∷ without (place y (num y)) (F zs)) (without (place y (num y)) (F zs))) (same_place z true e) ∙ ih
          by false o false e ih = ap (λ u. cond (not u) (place z (num z) ∷ without (place y (num y)) (F zs)) (without (place y (num y)) (F zs))) (same_place z false e)
              ∙ ap (λ l. place z (num z) ∷ l) ih ∙ ap (λ u. map (λ j. place j (num j)) (cond (not u) (z ∷ left zs) (left zs))) (sym o)
