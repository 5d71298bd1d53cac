-- Where a world is settled, tables agree. Nothing is on the way, and each link that is up at both ends feeds both ways: so its two routers
-- know the same (`linked_level`), and a router knows of each that it reaches what that one knows (`walk_level`). What a router's own record
-- lists are its ends, so edges are links (`edges_are`), and weigh what those weigh (`weights_are`).
use Rattle.std.proofs.Common.{◌≡◌, ◌+◌, max, cond, Bool, true, false, not, List, [], ◌∷◌, ◌++◌, Option, Some, None, refl, sym, ap, ◌∙◌, arith}
use Rattle.std.specs.Prelude.{◌&&◌}
use Rattle.std.specs.List.{list_all}
use Rattle.std.specs.Option.{option_map_or}
use Rattle.std.proofs.lemmas.Bool.{true≢false, false≢true, and_parts, and_from}
use Rattle.zr_id.specs.Record.{RecordState, linked_ids}
use Rattle.zr_id.specs.Zid.{is_named}
use Rattle.zr_graph.specs.Record.{has, record_of, lists, has_edge, edge_weight, weight_given, weight_to}
use Rattle.zr_graph.proofs.Names.{same_is}
use Rattle.zr_tree.specs.Walk.{IsWalk}
use Rattle.zr_lists.proofs.Finds.{find_in}
use Rattle.zr_msg.specs.declared.msg.Msg.{Msg}
use Rattle.zr_msg.specs.declared.msg.Msg.TheVariants.{Sub, Unsub, Token, Untoken, Able, Unable, Interest, EndInterest, ToldSub, ToldAble, ToldUnsub, ToldToken, ToldUntoken, ToldUnable, ToldEnd, Push, Request, Response, Final, State, Step, Snap}
use Rattle.zr_world_spec.specs.World.{Tagged, RouterState, EndState, End, Ends, WorldState, end_weight, router_of, end_of, is_up, is_unbroken, is_linked, unsettles, is_calm, is_calm_end, is_met, is_settled, wire_at}
use Rattle.zr_world_spec.specs.Joined.{linked_weight, graph}
use Rattle.zr_world_spec.specs.Sound.{IsSound}
use Rattle.zr_world_spec.proofs.Ends.{end_passes}
use Rattle.zr_law_settled.specs.Tables.{TablesAgree}
use Rattle.zr_law_settled.proofs.Spreading.{Name, Known, Note, level}
use Rattle.zr_law_settled.proofs.Records.{Links, known, known_of, notes_in}
use Rattle.zr_law_settled.proofs.Worlds.{there_in, knows, table_of, queue_at, notes, way_of, lane_of, feeds_of, up_weight_at, up_weight, Holds}
use Rattle.zr_law_settled.proofs.Quiet.{passes_there}
use Rattle.zr_law_settled.proofs.UpEnds.{met_settled}

-- ---- nothing is told

calm_notes : (msg : Msg) → not (unsettles msg) ≡ true → notes_in msg ≡ []
calm_notes (Sub id key) h = refl
calm_notes (Unsub id) h = refl
calm_notes (Token id key) h = refl
calm_notes (Untoken id) h = refl
calm_notes (Able id key complete) h = refl
calm_notes (Unable id) h = refl
calm_notes (Interest id current future kinds key aggregate) h = refl
calm_notes (EndInterest id) h = refl
calm_notes (ToldSub id key interest) h = refl
calm_notes (ToldToken id key interest) h = refl
calm_notes (ToldAble id key complete interest) h = refl
calm_notes (ToldUnsub id) h = refl
calm_notes (ToldUntoken id) h = refl
calm_notes (ToldUnable id) h = refl
calm_notes (ToldEnd interest) h = refl
calm_notes (Push tree content) h = refl
calm_notes (Request tree id target content) h = refl
calm_notes (Response id content) h = refl
calm_notes (Final id extras) h = refl
calm_notes (State links) h = absurd (false≢true h)
calm_notes (Step source number added decl) h = refl
calm_notes (Snap source number decls) h = refl

-- what tells nothing where it may be under way in a settled world
abbrev pub IsCalm : {V : Type 0} → (Msg → List (Note V)) → Type 0
IsCalm tells = (msg : Msg) → not (unsettles msg) ≡ true → tells msg ≡ []

no_notes : {V : Type 0} (tells : Msg → List (Note V)) → IsCalm tells → (ws : List Tagged) → list_all is_calm ws ≡ true → notes tells ws ≡ []
no_notes tells calm [] h = refl
no_notes tells calm (x ∷ xs) h =
    let parts = and_parts (is_calm x) (list_all is_calm xs) h in
    ap (λ z. z ++ notes tells xs) (calm x.msg parts.0) ∙ no_notes tells calm xs parts.1

-- ---- records and edges

pub lists_known : (records : List RecordState) (x y : Name) → lists records x y ≡ has (linked_ids (known (record_of records x)).value) y
lists_known records x y = by (record_of records x)
  where
    by : (o : Option RecordState) → option_map_or (λ r. has (linked_ids r.links) y) o false ≡ has (linked_ids (known o).value) y
    by None = refl
    by (Some r) = refl

weights_known : (records : List RecordState) (x y : Name) → weight_given records x y ≡ weight_to (known (record_of records x)).value y
weights_known records x y = by (record_of records x)
  where
    by : (o : Option RecordState) → option_map_or (λ r. weight_to r.links y) o 0 ≡ weight_to (known o).value y
    by None = refl
    by (Some r) = refl

-- at an end that is up the link weighs what it weighs
up_weighs : (ends : Ends) (e : End) → is_up ends e ≡ true → up_weight ends e ≡ end_weight ends e
up_weighs ends e up = by (end_of ends e) up
  where
    by : (o : Option EndState) → option_map_or (λ s. s.up) o false ≡ true → up_weight_at o ≡ option_map_or (λ s. s.weight) o 0
    by None k = absurd (false≢true k)
    by (Some s) k = ap (λ t. cond t s.weight 0) k

-- two records of one router that tell the same are the same
pub same_record : (z : Name) (o p : Option RecordState) → ((r : RecordState) → o ≡ Some r → r.id ≡ z) → ((r : RecordState) → p ≡ Some r → r.id ≡ z) → known o ≡ known p → o ≡ p
same_record z None None i j e = refl
same_record z None (Some q) i j e = let no : 0 ≡ q.seq + 1 = ap (λ (k : Known Links). k.number) e in absurd (omega (arith, no))
same_record z (Some r) None i j e = let no : r.seq + 1 ≡ 0 = ap (λ (k : Known Links). k.number) e in absurd (omega (arith, no))
same_record z (Some r) (Some q) i j e = λ t. Some (record { id = ids t; seq = numbers t; links = values t })
  where
    ids : r.id ≡ q.id
    ids = i r refl ∙ sym (j q refl)

    numbers : r.seq ≡ q.seq
    numbers = let one : r.seq + 1 ≡ q.seq + 1 = ap (λ (k : Known Links). k.number) e in omega (arith, one)

    values : r.links ≡ q.links
    values = ap (λ (k : Known Links). k.value) e

pub record_named : (records : List RecordState) (z : Name) (r : RecordState) → record_of records z ≡ Some r → r.id ≡ z
record_named records z r found = same_is r.id z (find_in (λ q. is_named q.id z) records r found).1

-- ---- a settled world

module _ (w : WorldState) (sound : IsSound w) (h : Holds w) (settled : is_settled w ≡ true) where
  pub passes : (q : End) (s : EndState) → end_of w.ends q ≡ Some s → (is_met w q s && is_calm_end s) ≡ true
  passes q s found = end_passes (λ x. is_met w x.0 x.1 && is_calm_end x.1) w.ends q s settled found

  module _ {V : Type 0} (tells : Msg → List (Note V)) (calm : IsCalm tells) where
    wires : (q : End) → notes tells (wire_at (end_of w.ends q)) ≡ []
    wires q = by (end_of w.ends q) refl
      where
        by : (o : Option EndState) → end_of w.ends q ≡ o → notes tells (wire_at o) ≡ []
        by None e = refl
        by (Some s) e = no_notes tells calm s.wire (and_parts (list_all is_calm s.wire) (list_all is_calm s.queue) (and_parts (is_met w q s) (is_calm_end s) (passes q s e)).1).0

    queues : (q : End) → notes tells (queue_at (end_of w.ends q)) ≡ []
    queues q = by (end_of w.ends q) refl
      where
        by : (o : Option EndState) → end_of w.ends q ≡ o → notes tells (queue_at o) ≡ []
        by None e = refl
        by (Some s) e = no_notes tells calm s.queue (and_parts (list_all is_calm s.wire) (list_all is_calm s.queue) (and_parts (is_met w q s) (is_calm_end s) (passes q s e)).1).1

    pub still : (x y : Name) → way_of tells w.ends x y ≡ []
    still x y = ap (λ z. z ++ notes tells (queue_at (end_of w.ends (x, y)))) (wires (y, x)) ∙ queues (x, y)

  -- an end that is up is that of an unbroken link, and a router's end at its other side is up
  pub met : (x y : Name) → is_up w.ends (x, y) ≡ true → (is_unbroken w.ends (x, y) ≡ true) × (there_in w y ≡ true → is_up w.ends (y, x) ≡ true)
  met x y up = met_settled w settled (x, y) up

  -- an end that is up is a router's
  pub router_of_end : (x y : Name) → is_up w.ends (x, y) ≡ true → there_in w x ≡ true
  router_of_end x y up = sound.routers x y (passes_there (λ s. s.up) w.ends (x, y) up)

  linked_level : (x y z : Name) → is_linked w.ends x y ≡ true → table_of w x z ≡ table_of w y z
  linked_level x y z linked =
      let ups = and_parts (is_up w.ends (x, y)) (is_up w.ends (y, x)) linked in
      level h.made (feeds_of w) (lane_of w) h.spreads x y z (feeds x y ups.0 ups.1) (feeds y x ups.1 ups.0) (still notes_in calm_notes x y) (still notes_in calm_notes y x)
    where
      feeds : (x y : Name) → is_up w.ends (x, y) ≡ true → is_up w.ends (y, x) ≡ true → feeds_of w z x y ≡ true
      feeds x y up back = and_from (there_in w y) (is_up w.ends (x, y) && is_unbroken w.ends (x, y)) (router_of_end y x back)
          (and_from (is_up w.ends (x, y)) (is_unbroken w.ends (x, y)) up (met x y up).0)

  pub walk_level : (path : List Name) (x z s : Name) → IsWalk (graph w) x path z → table_of w x s ≡ table_of w z s
  walk_level [] x z s walk = ap (λ q. table_of w q s) walk
  walk_level (y ∷ path) x z s walk = linked_level x y s walk.0 ∙ walk_level path y z s walk.1

  -- what a router's own record lists, where its end to a router is up
  pub own_lists : (z u : Name) → is_up w.ends (z, u) ≡ true → there_in w u ≡ true → has (linked_ids (table_of w z z).value) u ≡ true
  own_lists z u up router = h.lists z u ∙ and_from (there_in w u) (is_up w.ends (z, u)) router up

  -- and with which weight
  own_weighs : (z u : Name) → is_up w.ends (z, u) ≡ true → there_in w u ≡ true → weight_to (table_of w z z).value u ≡ end_weight w.ends (z, u)
  own_weighs z u up router = h.weighs z u ∙ ap (λ t. cond t (up_weight w.ends (z, u)) 0) router ∙ up_weighs w.ends (z, u) up

  pub table_is : (x z : Name) (r : RouterState) → router_of w.routers x ≡ Some r → table_of w x z ≡ known_of r.node.base z
  table_is x z r found = ap (λ o. knows o z) found

  pub edges_are : (path : List Name) (x z y : Name) (r : RouterState) → router_of w.routers x ≡ Some r → IsWalk (graph w) x path z → has_edge r.node.base.records z y ≡ is_linked w.ends z y
  edges_are path x z y r found walk =
      ap (λ t. t && lists r.node.base.records y z) (lists_known r.node.base.records z y ∙ ap (λ (k : Known Links). has (linked_ids k.value) y) (sym (table_is x z r found) ∙ walk_level path x z z walk) ∙ h.lists z y)
      ∙ ap (λ t. (there_in w y && is_up w.ends (z, y)) && t) (lists_known r.node.base.records y z ∙ ap (λ (k : Known Links). has (linked_ids k.value) z) (sym (table_is x y r found) ∙ walk_level path x z y walk))
      ∙ by (there_in w y && is_up w.ends (z, y)) refl
    where
      by : (t : Bool) → (there_in w y && is_up w.ends (z, y)) ≡ t → (t && has (linked_ids (table_of w z y).value) z) ≡ is_linked w.ends z y
      by true e =
          let parts = and_parts (there_in w y) (is_up w.ends (z, y)) e in
          let back = (met z y parts.1).1 parts.0 in
          let linked : is_linked w.ends z y ≡ true = and_from (is_up w.ends (z, y)) (is_up w.ends (y, z)) parts.1 back in
          ap (λ (k : Known Links). has (linked_ids k.value) z) (linked_level z y y linked) ∙ own_lists y z back (router_of_end z y parts.1) ∙ sym linked
      by false e = at (is_up w.ends (z, y)) refl (is_up w.ends (y, z)) refl
        where
          at : (s : Bool) → is_up w.ends (z, y) ≡ s → (t : Bool) → is_up w.ends (y, z) ≡ t → false ≡ (s && t)
          at true k true l = absurd (true≢false (sym (and_from (there_in w y) (is_up w.ends (z, y)) (router_of_end y z l) k) ∙ e))
          at true k false l = refl
          at false k t l = refl

  pub weights_are : (path : List Name) (x z y : Name) (r : RouterState) → router_of w.routers x ≡ Some r → IsWalk (graph w) x path z → edge_weight r.node.base.records z y ≡ linked_weight w.ends z y
  weights_are path x z y r found walk =
      ap (λ t. cond t (max (weight_given r.node.base.records z y) (weight_given r.node.base.records y z)) 0) (edges_are path x z y r found walk) ∙ by (is_linked w.ends z y) refl
    where
      by : (t : Bool) → is_linked w.ends z y ≡ t →
          cond t (max (weight_given r.node.base.records z y) (weight_given r.node.base.records y z)) 0 ≡ cond t (max (end_weight w.ends (z, y)) (end_weight w.ends (y, z))) 0
      by false e = refl
      by true e =
          let ups = and_parts (is_up w.ends (z, y)) (is_up w.ends (y, z)) e in
          let mine : weight_given r.node.base.records z y ≡ end_weight w.ends (z, y) =
          weights_known r.node.base.records z y ∙ ap (λ (k : Known Links). weight_to k.value y) (sym (table_is x z r found) ∙ walk_level path x z z walk)
          ∙ own_weighs z y ups.0 (router_of_end y z ups.1) in
          let other : weight_given r.node.base.records y z ≡ end_weight w.ends (y, z) =
          weights_known r.node.base.records y z ∙ ap (λ (k : Known Links). weight_to k.value z) (sym (table_is x y r found) ∙ walk_level path x z y walk ∙ linked_level z y y e)
          ∙ own_weighs y z ups.1 (router_of_end z y ups.0) in
          ap (λ n. max n (weight_given r.node.base.records y z)) mine ∙ ap (λ n. max (end_weight w.ends (z, y)) n) other

  pub records_are : (path : List Name) (x z : Name) (rx rz : RouterState) → router_of w.routers x ≡ Some rx → router_of w.routers z ≡ Some rz → IsWalk (graph w) x path z →
      record_of rx.node.base.records z ≡ record_of rz.node.base.records z
  records_are path x z rx rz fx fz walk =
      same_record z (record_of rx.node.base.records z) (record_of rz.node.base.records z) (record_named rx.node.base.records z) (record_named rz.node.base.records z)
      (sym (table_is x z rx fx) ∙ walk_level path x z z walk ∙ table_is z z rz fz)

  pub tables_agree : TablesAgree w
  tables_agree x z path rx rz fx fz walk = record { record_is = records_are path x z rx rz fx fz walk; edges_are = λ y. edges_are path x z y rx fx walk; weights_are = λ y. weights_are path x z y rx fx walk }
