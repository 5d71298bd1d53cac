-- Acts by which no router learns of another: a router or a client comes, a link is made or breaks, a client's message is on its wire, a message
-- is taken, a queue is emptied, and a router hears of what tells nothing of links. What is under way moves or goes, and where it goes, no
-- record can be missed: its link no longer feeds, or its receiver knows it.
use Rattle.std.proofs.Common.{◌≡◌, ◌≤◌, ◌+◌, ℕ, max, Bool, true, false, cond, List, [], ◌++◌, Option, Some, None, is_some, refl, sym, ap, ◌∙◌, subst, append-nil, arith}
use Rattle.std.specs.Prelude.{◌&&◌}
use Rattle.std.specs.Ordering.{nat_cmp}
use Rattle.std.specs.Cmp.Lexicographic.{slice_cmp}
use Rattle.std.specs.BTreeMap.{insert_entry}
use Rattle.std.specs.Option.{option_map_or}
use Rattle.std.proofs.lemmas.Bool.{true≢false, false≢true, and_parts, or_parts}
use Rattle.zr_lists.proofs.Options.{not_there}
use Rattle.zr_id.specs.Zid.{is_named}
use Rattle.zr_id.specs.Record.{linked_ids}
use Rattle.zr_graph.specs.Record.{has, weight_to}
use Rattle.zr_graph.specs.Base.{IsInOrder}
use Rattle.zr_graph.proofs.Names.{same_is, same_refl}
use Rattle.zr_graph.proofs.Ascending.{in_order_alone}
use Rattle.zr_msg.specs.declared.event.Event.{Event}
use Rattle.zr_node_spec.specs.Table.{after}
use Rattle.zr_world_spec.specs.World.{RouterState, EndState, End, Ends, WorldState, with_routers, router_of, end_of, is_end, is_taken, passes, is_up, is_unbroken, new_router}
use Rattle.zr_world_spec.specs.Acts.{sends_to, sending}
use Rattle.zr_world_spec.specs.Sound.{IsSound}
use Rattle.zr_world_spec.proofs.Names.{names, value_new}
use Rattle.zr_world_spec.proofs.Ends.{end_parts}
use Rattle.zr_law_settled.proofs.Spreading.{at_name, Name, Known, Note, own, best, IsPart, is_all, drops_kept}
use Rattle.zr_law_settled.proofs.Telling.{more, tells_anew_kept}
use Rattle.zr_law_settled.proofs.Records.{Links, known, known_of, notes_in, told}
use Rattle.zr_law_settled.proofs.Worlds.{there_in, knows, table_of, way_of, lane_of, feeds_of, up_weight_at, up_weight, Holds, there_heard, table_heard, way_sent, way_other, order_heard, up_heard, up_weight_heard, unbroken_heard, some_heard}

-- What no router learns anything by.
pub record Quiet (w w' : WorldState) : Type 0 where
  pub tables : (x z : Name) → table_of w' x z ≡ table_of w x z
  pub part : (x y : Name) → IsPart (way_of notes_in w'.ends x y) (way_of notes_in w.ends x y)
  pub dropped : (x y z : Name) → feeds_of w' z x y ≡ true → (feeds_of w z x y ≡ true) × (best z (way_of notes_in w.ends x y) ≤ max (table_of w y z).number (best z (way_of notes_in w'.ends x y)))
  pub lists : (z y : Name) → (there_in w' y && is_up w'.ends (z, y)) ≡ (there_in w y && is_up w.ends (z, y))
  pub weighs : (z y : Name) → cond (there_in w' y) (up_weight w'.ends (z, y)) 0 ≡ cond (there_in w y) (up_weight w.ends (z, y)) 0
  pub in_order : (x : Name) (r : RouterState) → router_of w'.routers x ≡ Some r → IsInOrder r.node.base
  pub twins : (x y : Name) → is_some (end_of w'.ends (x, y)) ≡ true → there_in w' y ≡ true → is_some (end_of w'.ends (y, x)) ≡ true

pub quiet_kept : (w w' : WorldState) → Holds w → Quiet w w' → Holds w'
quiet_kept w w' h q = record {
  made = h.made;
  spreads = drops_kept h.made (feeds_of w) (feeds_of w') (lane_of w) (lane_of w') h.spreads (record { tables = q.tables; part = q.part; dropped = q.dropped });
  lists = λ z y. ap (λ (k : Known Links). has (linked_ids k.value) y) (q.tables z z) ∙ h.lists z y ∙ sym (q.lists z y);
  weighs = λ z y. ap (λ (k : Known Links). weight_to k.value y) (q.tables z z) ∙ h.weighs z y ∙ sym (q.weighs z y);
  in_order = q.in_order;
  twins = q.twins;
}

-- ---- lists

-- the same is under way
pub same_way : {V : Type 0} (z : Name) (n : ℕ) (some all : List (Note V)) → some ≡ all → best z all ≤ max n (best z some)
same_way z n some all e = let same : best z some ≡ best z all = ap (best z) e in omega (arith, same)

-- ---- ends

-- what an end passes is an end that is there
pub passes_there : (t : EndState → Bool) (ends : Ends) (e : End) → passes t ends e ≡ true → is_some (end_of ends e) ≡ true
passes_there t ends e h = by (end_of ends e) h
  where
    by : (o : Option EndState) → option_map_or t o false ≡ true → is_some o ≡ true
    by None k = absurd (false≢true k)
    by (Some s) k = refl

-- an end is not another one's and that one's turned over
pub turned_is : (a b x y : Name) → is_end (b, a) (y, x) ≡ is_end (a, b) (x, y)
turned_is a b x y = end_parts (b, a) (y, x) ∙ by (is_named b y) (is_named a x) ∙ sym (end_parts (a, b) (x, y))
  where
    by : (s t : Bool) → (s && t) ≡ (t && s)
    by true true = refl
    by true false = refl
    by false true = refl
    by false false = refl

-- no end leads to a name that is not taken
pub no_end : (w : WorldState) → IsSound w → (id : Name) → is_taken w id ≡ false → (x : Name) → is_some (end_of w.ends (x, id)) ≡ true → ⊥
no_end w s id free x h = true≢false (sym (s.neighbours x id h) ∙ free)

-- ---- a router that hears of what tells nothing

pub silent_kept : (w : WorldState) (a : Name) (r : RouterState) → router_of w.routers a ≡ Some r → (event : Event) (tag : ℕ) → Holds w → (after r.node event).base ≡ r.node.base →
    ((y : Name) → told (sends_to r.node event y) ≡ []) → Holds (sending w a r event tag)
silent_kept w a r found event tag h same silent = quiet_kept w v h (record {
  tables = tables;
  part = λ x y. is_all (way_of notes_in v.ends x y) (way_of notes_in w.ends x y) (sym (ways x y));
  dropped = λ x y z f. (sym (feeds x y z) ∙ f, same_way z (table_of w y z).number (way_of notes_in v.ends x y) (way_of notes_in w.ends x y) (ways x y));
  lists = λ z y. ap (λ b. b && is_up v.ends (z, y)) (there_heard w a r found event tag y) ∙ ap (λ b. there_in w y && b) (up_heard w a r found event tag (z, y));
  weighs = λ z y. ap (λ b. cond b (up_weight v.ends (z, y)) 0) (there_heard w a r found event tag y) ∙ ap (λ n. cond (there_in w y) n 0) (up_weight_heard w a r found event tag (z, y));
  in_order = order_heard w a r found event tag h.in_order;
  twins = λ x y there router. some_heard w a r found event tag (y, x) ∙ h.twins x y (sym (some_heard w a r found event tag (x, y)) ∙ there) (sym (there_heard w a r found event tag y) ∙ router);
})
  where
    v : WorldState
    v = sending w a r event tag

    tables : (x z : Name) → table_of v x z ≡ table_of w x z
    tables x z = table_heard w a r found event tag x z ∙ by (is_named a x) refl
      where
        by : (b : Bool) → is_named a x ≡ b → cond b (known_of (after r.node event).base z) (table_of w x z) ≡ table_of w x z
        by true e = ap (λ b. known_of b z) same ∙ sym (ap (λ o. knows o z) found) ∙ ap (λ q. table_of w q z) (same_is a x e)
        by false e = refl

    nothing : (y : Name) (b : Bool) → told (cond b (sends_to r.node event y) []) ≡ []
    nothing y true = silent y
    nothing y false = refl

    ways : (x y : Name) → way_of notes_in v.ends x y ≡ way_of notes_in w.ends x y
    ways x y = by (is_named a x) refl
      where
        by : (b : Bool) → is_named a x ≡ b → way_of notes_in v.ends x y ≡ way_of notes_in w.ends x y
        by true e = subst (λ q. way_of notes_in v.ends q y ≡ way_of notes_in w.ends q y) (same_is a x e)
            (way_sent notes_in w a r event tag y ∙ ap (λ z. way_of notes_in w.ends a y ++ z) (nothing y (is_some (end_of w.ends (a, y)))) ∙ append-nil (way_of notes_in w.ends a y))
        by false e = way_other notes_in w a r event tag x y e

    feeds : (x y z : Name) → feeds_of v z x y ≡ feeds_of w z x y
    feeds x y z = ap (λ b. b && (is_up v.ends (x, y) && is_unbroken v.ends (x, y))) (there_heard w a r found event tag y)
        ∙ ap (λ b. there_in w y && (b && is_unbroken v.ends (x, y))) (up_heard w a r found event tag (x, y)) ∙ ap (λ b. there_in w y && (is_up w.ends (x, y) && b)) (unbroken_heard w a r found event tag (x, y))

-- ---- a router comes

pub router_kept : (w : WorldState) → IsSound w → Holds w → (id : Name) → is_taken w id ≡ false → Holds (with_routers w (insert_entry (slice_cmp nat_cmp) w.routers id (new_router id)))
router_kept w s h id free = record {
  made = more h.made id (own (lane_of w) id) [];
  spreads = tells_anew_kept h.made (feeds_of w) (feeds_of v) id [] (lane_of w) (lane_of v) h.spreads (record {
    others = others;
    table = table;
    sent = λ y. [];
    sends = λ y. sym (append-nil (way_of notes_in w.ends id y));
    silent = λ x y other. refl;
    sent_of = λ y. tt;
    tells = λ y z f. absurd (no_feed y z f);
    feeds_less = λ x y z other f. feeds x y (is_named y id) refl (sym (ap (λ b. b && (is_up w.ends (x, y) && is_unbroken w.ends (x, y))) (there y)) ∙ f);
  });
  lists = λ z y. ap (λ ls. has (linked_ids ls) y) (values z) ∙ h.lists z y ∙ sym (ap (λ b. b && is_up w.ends (z, y)) (there y) ∙ lists z y (is_named y id) refl);
  weighs = λ z y. ap (λ ls. weight_to ls y) (values z) ∙ h.weighs z y ∙ sym (ap (λ b. cond b (up_weight w.ends (z, y)) 0) (there y) ∙ weighs z y (is_named y id) refl);
  in_order = in_order;
  twins = λ x y some router. twins x y some (is_named y id) refl (sym (there y) ∙ router);
}
  where
    v : WorldState
    v = with_routers w (insert_entry (slice_cmp nat_cmp) w.routers id (new_router id))

    no_router : router_of w.routers id ≡ None
    no_router = not_there (router_of w.routers id) (or_parts (is_some (router_of w.routers id)) _ free).0

    routers : (x : Name) → router_of v.routers x ≡ cond (is_named x id) (Some (new_router id)) (router_of w.routers x)
    routers x = value_new w.routers id x (new_router id) no_router

    there : (y : Name) → there_in v y ≡ cond (is_named y id) true (there_in w y)
    there y = ap is_some (routers y) ∙ by (is_named y id)
      where
        by : (b : Bool) → is_some (cond b (Some (new_router id)) (router_of w.routers y)) ≡ cond b true (there_in w y)
        by true = refl
        by false = refl

    others : (x z : Name) → is_named id x ≡ false → table_of v x z ≡ table_of w x z
    others x z other = ap (λ o. knows o z) (routers x) ∙ ap (λ b. knows (cond b (Some (new_router id)) (router_of w.routers x)) z) (names.symm x id ∙ other)

    -- the new router knows its own record alone, and none knew it
    none_known : own (lane_of w) id ≡ 0
    none_known = ap (λ o. (knows o id).number) no_router

    table : (z : Name) → table_of v id z ≡ cond (is_named id z) (record { number = own (lane_of w) id + 1; value = [] }) (table_of w id z)
    table z =
        ap (λ o. knows o z) (routers id)
        ∙ ap (λ b. knows (cond b (Some (new_router id)) (router_of w.routers id)) z) (same_refl id)
        ∙ by (is_named id z)
        ∙ ap (λ n. cond (is_named id z) (record { number = n + 1; value = [] }) (table_of w id z)) (sym none_known)
      where
        by : (b : Bool) → known (cond b (Some (record { id = id; seq = 0; links = [] })) None) ≡ cond b (record { number = 0 + 1; value = [] }) (table_of w id z)
        by true = refl
        by false = sym (ap (λ o. knows o z) no_router)

    values : (z : Name) → (table_of v z z).value ≡ (table_of w z z).value
    values z = at_name id (λ q. (table_of v q q).value ≡ (table_of w q q).value) here (λ q other. ap (λ (k : Known Links). k.value) (others q q other)) z
      where
        here : (table_of v id id).value ≡ (table_of w id id).value
        here =
            ap (λ (k : Known Links). k.value) (table id)
            ∙ ap (λ b. (cond b (record { number = own (lane_of w) id + 1; value = [] }) (table_of w id id)).value) (same_refl id)
            ∙ sym (ap (λ o. (knows o id).value) no_router)

    -- the new router has no end
    no_feed : (y z : Name) → feeds_of v z id y ≡ true → ⊥
    no_feed y z f =
        let parts = and_parts (there_in v y) (is_up w.ends (id, y) && is_unbroken w.ends (id, y)) f in
        let up = (and_parts (is_up w.ends (id, y)) (is_unbroken w.ends (id, y)) parts.1).0 in
        false≢true (sym (ap is_some no_router) ∙ s.routers id y (passes_there (λ e. e.up) w.ends (id, y) up))

    -- no end leads to the new router
    none : (x y : Name) → is_named y id ≡ true → is_some (end_of w.ends (x, y)) ≡ true → ⊥
    none x y e some = no_end w s id free x (ap (λ q. is_some (end_of w.ends (x, q))) (sym (same_is y id e)) ∙ some)

    feeds : (x y : Name) (b : Bool) → is_named y id ≡ b → (cond b true (there_in w y) && (is_up w.ends (x, y) && is_unbroken w.ends (x, y))) ≡ true →
        (there_in w y && (is_up w.ends (x, y) && is_unbroken w.ends (x, y))) ≡ true
    feeds x y true e f = absurd (none x y e (passes_there (λ s. s.up) w.ends (x, y) (and_parts (is_up w.ends (x, y)) (is_unbroken w.ends (x, y)) f).0))
    feeds x y false e f = f

    lists : (x y : Name) (b : Bool) → is_named y id ≡ b → (cond b true (there_in w y) && is_up w.ends (x, y)) ≡ (there_in w y && is_up w.ends (x, y))
    lists x y false e = refl
    lists x y true e = up (is_up w.ends (x, y)) refl
      where
        up : (b : Bool) → is_up w.ends (x, y) ≡ b → b ≡ (there_in w y && b)
        up true k = absurd (none x y e (passes_there (λ s. s.up) w.ends (x, y) k))
        up false k = no (there_in w y)
          where
            no : (b : Bool) → false ≡ (b && false)
            no true = refl
            no false = refl

    weighs : (x y : Name) (b : Bool) → is_named y id ≡ b → cond (cond b true (there_in w y)) (up_weight w.ends (x, y)) 0 ≡ cond (there_in w y) (up_weight w.ends (x, y)) 0
    weighs x y false e = refl
    weighs x y true e = at (end_of w.ends (x, y)) refl (there_in w y)
      where
        at : (o : Option EndState) → end_of w.ends (x, y) ≡ o → (b : Bool) → up_weight_at o ≡ cond b (up_weight_at o) 0
        at (Some s) k b = absurd (none x y e (ap is_some k))
        at None k true = refl
        at None k false = refl

    in_order : (x : Name) (r : RouterState) → router_of v.routers x ≡ Some r → IsInOrder r.node.base
    in_order x r e = by (is_named x id) (sym (routers x) ∙ e)
      where
        by : (b : Bool) → cond b (Some (new_router id)) (router_of w.routers x) ≡ Some r → IsInOrder r.node.base
        by true k = let one : new_router id ≡ r = cc in subst (λ (q : RouterState). IsInOrder q.node.base) one (in_order_alone (record { id = id; seq = 0; links = [] }))
        by false k = h.in_order x r k

    twins : (x y : Name) → is_some (end_of w.ends (x, y)) ≡ true → (b : Bool) → is_named y id ≡ b → cond b true (there_in w y) ≡ true → is_some (end_of w.ends (y, x)) ≡ true
    twins x y some true e router = absurd (none x y e some)
    twins x y some false e router = h.twins x y some router
