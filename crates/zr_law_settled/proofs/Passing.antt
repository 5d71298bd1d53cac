-- Messages that move at ends: one is taken from a queue onto a wire, one leaves a wire, a queue is emptied; and a router's weight changes.
use Rattle.std.proofs.Common.{◌≡◌, ◌≤◌, ℕ, max, Bool, true, false, cond, List, [], ◌∷◌, ◌++◌, Option, Some, None, is_some, refl, sym, ap, ◌∙◌, subst, append_assoc, append-nil, arith}
use Rattle.std.specs.Prelude.{◌&&◌, flat_map}
use Rattle.std.specs.Option.{option_map}
use Rattle.std.proofs.lemmas.Bool.{true≢false, false≢true}
use Rattle.zr_lists.proofs.Options.{not_there}
use Rattle.zr_id.specs.Zid.{is_named}
use Rattle.zr_graph.specs.Base.{IsInOrder}
use Rattle.zr_msg.specs.declared.msg.Msg.{Msg}
use Rattle.zr_world_spec.specs.World.{Tagged, RouterState, EndState, End, Ends, WorldState, with_routers, with_ends, router_of, with_router, end_of, is_end, is_up, is_unbroken, with_end, with_queue, with_wire, changed, lowered, sent, wire_at}
use Rattle.zr_msg.specs.declared.event.Event.{Event}
use Rattle.zr_world_spec.specs.Acts.{weighing, sends_to, sending}
use Rattle.zr_world_spec.proofs.Names.{read_kept, read_after}
use Rattle.zr_world_spec.proofs.Ends.{same_end, read_with_end, keep_with_end, read_changed, keep_changed}
use Rattle.zr_law_settled.proofs.Spreading.{at_name, Name, Known, Note, best, IsPart, is_all, best_append}
use Rattle.zr_law_settled.proofs.Records.{notes_in}
use Rattle.zr_law_settled.proofs.Worlds.{there_in, knows, table_of, queue_at, notes, way_of, up_weight_at, up_weight, HasTwins, Holds, notes-append, sent_at, way_sent, way_other}
use Rattle.zr_law_settled.proofs.Quiet.{quiet_kept, turned_is, same_way}
use Rattle.zr_law_settled.proofs.Moving.{up_at, unbroken_at, Moves, both_ways}

module _ (ends : Ends) (a b : Name) (s : EndState) (found : end_of ends (a, b) ≡ Some s) where
  -- what the end of the two says
  pub says : {Y : Type 0} (f : Option EndState → Y) (q : End) → is_end (a, b) q ≡ true → f (end_of ends q) ≡ f (Some s)
  says f q e = ap (λ z. f (end_of ends z)) (sym (same_end (a, b) q e)) ∙ ap f found

  module _ (msg : Msg) (tag : ℕ) (xs : List Tagged) where
    -- ---- a message leaves the wire

    abbrev pub popped : Ends
    popped = with_end ends (a, b) (with_wire s xs)

    pub keep_popped : {Y : Type 0} (f : Option EndState → Y) → f (Some (with_wire s xs)) ≡ f (Some s) → (q : End) → f (end_of popped q) ≡ f (end_of ends q)
    keep_popped f same q = keep_with_end ends (a, b) (with_wire s xs) f q s found same

    -- ---- a message is taken

    abbrev pub taken : Ends
    taken = changed (with_end ends (a, b) (with_queue s xs)) (b, a) (λ e. sent e msg tag)

    pub keep_taken : {Y : Type 0} (f : Option EndState → Y) → f (Some (with_queue s xs)) ≡ f (Some s) → ((e : EndState) → f (Some (sent e msg tag)) ≡ f (Some e)) → (q : End) → f (end_of taken q) ≡ f (end_of ends q)
    keep_taken f same alike q = keep_changed (with_end ends (a, b) (with_queue s xs)) (b, a) (λ e. sent e msg tag) f q alike ∙ keep_with_end ends (a, b) (with_queue s xs) f q s found same

-- ---- a queue is emptied

module _ (ends : Ends) (a b : Name) where
  abbrev pub emptied : Ends
  emptied = changed ends (a, b) lowered

  pub keep_emptied : {Y : Type 0} (f : Option EndState → Y) → ((s : EndState) → f (Some (lowered s)) ≡ f (Some s)) → (q : End) → f (end_of emptied q) ≡ f (end_of ends q)
  keep_emptied f same q = keep_changed ends (a, b) lowered f q same

  -- a lowered end is down
  pub emptied_up : (q : End) → is_up emptied q ≡ cond (is_end (a, b) q) false (is_up ends q)
  emptied_up q = read_changed ends (a, b) lowered up_at q ∙ ap (λ z. cond (is_end (a, b) q) z (is_up ends q)) (down (end_of ends q))
    where
      down : (o : Option EndState) → up_at (option_map lowered o) ≡ false
      down None = refl
      down (Some s) = refl

  -- and weighs nothing
  pub emptied_weight : (q : End) → up_weight emptied q ≡ cond (is_end (a, b) q) 0 (up_weight ends q)
  emptied_weight q = read_changed ends (a, b) lowered up_weight_at q ∙ ap (λ z. cond (is_end (a, b) q) z (up_weight ends q)) (down (end_of ends q))
    where
      down : (o : Option EndState) → up_weight_at (option_map lowered o) ≡ 0
      down None = refl
      down (Some s) = refl

-- ---- what is on the way

module _ {V : Type 0} (tells : Msg → List (Note V)) (ends : Ends) (a b : Name) (s : EndState) (found : end_of ends (a, b) ≡ Some s) (msg : Msg) (tag : ℕ) (xs : List Tagged) where
  pub popped_way : s.wire ≡ record { msg = msg; tag = tag } ∷ xs → (x y : Name) → way_of tells ends x y ≡ cond (is_end (a, b) (y, x)) (tells msg) [] ++ way_of tells (with_end ends (a, b) (with_wire s xs)) x y
  popped_way front x y = by (is_end (a, b) (y, x)) refl
    where
      queue : notes tells (queue_at (end_of (with_end ends (a, b) (with_wire s xs)) (x, y))) ≡ notes tells (queue_at (end_of ends (x, y)))
      queue = keep_popped ends a b s found msg tag xs (λ o. notes tells (queue_at o)) refl (x, y)

      wire : (t : Bool) → is_end (a, b) (y, x) ≡ t → notes tells (wire_at (end_of (with_end ends (a, b) (with_wire s xs)) (y, x))) ≡ cond t (notes tells xs) (notes tells (wire_at (end_of ends (y, x))))
      wire t e = read_with_end ends (a, b) (with_wire s xs) (λ o. notes tells (wire_at o)) (y, x) (ap is_some found) ∙ ap (λ u. cond u (notes tells xs) (notes tells (wire_at (end_of ends (y, x))))) e

      by : (t : Bool) → is_end (a, b) (y, x) ≡ t → way_of tells ends x y ≡ cond t (tells msg) [] ++ way_of tells (with_end ends (a, b) (with_wire s xs)) x y
      by true e =
          ap (λ z. z ++ notes tells (queue_at (end_of ends (x, y)))) (says ends a b s found (λ o. notes tells (wire_at o)) (y, x) e ∙ ap (notes tells) front)
          ∙ append_assoc (tells msg) (notes tells xs) (notes tells (queue_at (end_of ends (x, y))))
          ∙ ap (λ z. tells msg ++ z) (sym (both_ways (notes tells (wire_at (end_of (with_end ends (a, b) (with_wire s xs)) (y, x)))) (notes tells xs) (notes tells (queue_at (end_of (with_end ends (a, b) (with_wire s xs)) (x, y)))) (notes tells (queue_at (end_of ends (x, y)))) (wire true e) queue))
      by false e = sym (both_ways (notes tells (wire_at (end_of (with_end ends (a, b) (with_wire s xs)) (y, x)))) (notes tells (wire_at (end_of ends (y, x)))) (notes tells (queue_at (end_of (with_end ends (a, b) (with_wire s xs)) (x, y)))) (notes tells (queue_at (end_of ends (x, y)))) (wire false e) queue)

  -- ---- a message is taken

  taken_queue : (q : End) → notes tells (queue_at (end_of (changed (with_end ends (a, b) (with_queue s xs)) (b, a) (λ e. sent e msg tag)) q)) ≡ cond (is_end (a, b) q) (notes tells xs) (notes tells (queue_at (end_of ends q)))
  taken_queue q = keep_changed (with_end ends (a, b) (with_queue s xs)) (b, a) (λ e. sent e msg tag) (λ o. notes tells (queue_at o)) q (λ e. refl)
      ∙ read_with_end ends (a, b) (with_queue s xs) (λ o. notes tells (queue_at o)) q (ap is_some found)

  taken_wire : (q : End) → notes tells (wire_at (end_of (changed (with_end ends (a, b) (with_queue s xs)) (b, a) (λ e. sent e msg tag)) q)) ≡ cond (is_end (b, a) q) (notes tells (wire_at (end_of ends q)) ++ cond (is_some (end_of ends q)) (tells msg) []) (notes tells (wire_at (end_of ends q)))
  taken_wire q =
      read_changed (with_end ends (a, b) (with_queue s xs)) (b, a) (λ e. sent e msg tag) (λ o. notes tells (wire_at o)) q
      ∙ ap (λ z. cond (is_end (b, a) q) z (notes tells (wire_at (end_of (with_end ends (a, b) (with_queue s xs)) q)))) (one (end_of (with_end ends (a, b) (with_queue s xs)) q))
      ∙ ap (λ z. cond (is_end (b, a) q) (z ++ cond (is_some (end_of (with_end ends (a, b) (with_queue s xs)) q)) (tells msg) []) z) (keep_with_end ends (a, b) (with_queue s xs) (λ o. notes tells (wire_at o)) q s found refl)
      ∙ ap (λ z. cond (is_end (b, a) q) (notes tells (wire_at (end_of ends q)) ++ cond z (tells msg) []) (notes tells (wire_at (end_of ends q)))) (keep_with_end ends (a, b) (with_queue s xs) (λ o. is_some o) q s found refl)
    where
      one : (o : Option EndState) → notes tells (wire_at (option_map (λ e. sent e msg tag) o)) ≡ notes tells (wire_at o) ++ cond (is_some o) (tells msg) []
      one None = refl
      one (Some e) = notes-append tells e.wire (record { msg = msg; tag = tag } ∷ []) ∙ ap (λ z. notes tells e.wire ++ z) (append-nil (tells msg))

  taken_way : (x y : Name) (t : Bool) → is_end (a, b) (x, y) ≡ t →
      way_of tells (changed (with_end ends (a, b) (with_queue s xs)) (b, a) (λ e. sent e msg tag)) x y ≡ cond t (notes tells (wire_at (end_of ends (y, x))) ++ cond (is_some (end_of ends (y, x))) (tells msg) []) (notes tells (wire_at (end_of ends (y, x)))) ++ cond t (notes tells xs) (notes tells (queue_at (end_of ends (x, y))))
  taken_way x y t e = both_ways (notes tells (wire_at (end_of (changed (with_end ends (a, b) (with_queue s xs)) (b, a) (λ e. sent e msg tag)) (y, x)))) (cond t (notes tells (wire_at (end_of ends (y, x))) ++ cond (is_some (end_of ends (y, x))) (tells msg) []) (notes tells (wire_at (end_of ends (y, x)))))
      (notes tells (queue_at (end_of (changed (with_end ends (a, b) (with_queue s xs)) (b, a) (λ e. sent e msg tag)) (x, y)))) (cond t (notes tells xs) (notes tells (queue_at (end_of ends (x, y)))))
      (taken_wire (y, x) ∙ ap (λ u. cond u (notes tells (wire_at (end_of ends (y, x))) ++ cond (is_some (end_of ends (y, x))) (tells msg) []) (notes tells (wire_at (end_of ends (y, x))))) (turned_is a b x y ∙ e))
      (taken_queue (x, y) ∙ ap (λ u. cond u (notes tells xs) (notes tells (queue_at (end_of ends (x, y))))) e)

  module _ (front : s.queue ≡ record { msg = msg; tag = tag } ∷ xs) where
    first : (x y : Name) → is_end (a, b) (x, y) ≡ true → notes tells (queue_at (end_of ends (x, y))) ≡ tells msg ++ notes tells xs
    first x y e = says ends a b s found (λ o. notes tells (queue_at o)) (x, y) e ∙ ap (notes tells) front

    -- the way stays where the message has gone onto the wire
    pub taken_same : (x y : Name) (t : Bool) → is_end (a, b) (x, y) ≡ t → (t ≡ true → is_some (end_of ends (y, x)) ≡ true) → way_of tells (changed (with_end ends (a, b) (with_queue s xs)) (b, a) (λ e. sent e msg tag)) x y ≡ way_of tells ends x y
    taken_same x y true e there =
        taken_way x y true e
        ∙ ap (λ u. (notes tells (wire_at (end_of ends (y, x))) ++ cond u (tells msg) []) ++ notes tells xs) (there refl)
        ∙ append_assoc (notes tells (wire_at (end_of ends (y, x)))) (tells msg) (notes tells xs)
        ∙ ap (λ z. notes tells (wire_at (end_of ends (y, x))) ++ z) (sym (first x y e))
    taken_same x y false e there = taken_way x y false e

    taken_part : (x y : Name) → IsPart (way_of tells (changed (with_end ends (a, b) (with_queue s xs)) (b, a) (λ e. sent e msg tag)) x y) (way_of tells ends x y)
    taken_part x y = by (is_end (a, b) (x, y)) refl (is_some (end_of ends (y, x))) refl
      where
        by : (t : Bool) → is_end (a, b) (x, y) ≡ t → (p : Bool) → is_some (end_of ends (y, x)) ≡ p → IsPart (way_of tells (changed (with_end ends (a, b) (with_queue s xs)) (b, a) (λ e. sent e msg tag)) x y) (way_of tells ends x y)
        by t e true k = is_all (way_of tells (changed (with_end ends (a, b) (with_queue s xs)) (b, a) (λ e. sent e msg tag)) x y) (way_of tells ends x y) (sym (taken_same x y t e (λ u. k)))
        by false e false k = is_all (way_of tells (changed (with_end ends (a, b) (with_queue s xs)) (b, a) (λ e. sent e msg tag)) x y) (way_of tells ends x y) (sym (taken_same x y false e (λ u. absurd (false≢true u))))
        by true e false k = record { before = tells msg; after = []; whole = whole }
          where
            none : notes tells (wire_at (end_of ends (y, x))) ≡ []
            none = ap (λ o. notes tells (wire_at o)) (not_there (end_of ends (y, x)) k)

            rest : way_of tells (changed (with_end ends (a, b) (with_queue s xs)) (b, a) (λ e. sent e msg tag)) x y ≡ notes tells xs
            rest = taken_way x y true e ∙ ap (λ z. (z ++ cond (is_some (end_of ends (y, x))) (tells msg) []) ++ notes tells xs) none ∙ ap (λ u. cond u (tells msg) [] ++ notes tells xs) k

            whole : way_of tells ends x y ≡ tells msg ++ (way_of tells (changed (with_end ends (a, b) (with_queue s xs)) (b, a) (λ e. sent e msg tag)) x y ++ [])
            whole = ap (λ z. z ++ notes tells (queue_at (end_of ends (x, y)))) none ∙ first x y e ∙ ap (λ z. tells msg ++ z) (sym (append-nil (way_of tells (changed (with_end ends (a, b) (with_queue s xs)) (b, a) (λ e. sent e msg tag)) x y) ∙ rest))

module _ {V : Type 0} (tells : Msg → List (Note V)) (ends : Ends) (a b : Name) where
  emptied_way : (x y : Name) → way_of tells (changed ends (a, b) lowered) x y ≡ notes tells (wire_at (end_of ends (y, x))) ++ cond (is_end (a, b) (x, y)) [] (notes tells (queue_at (end_of ends (x, y))))
  emptied_way x y = both_ways (notes tells (wire_at (end_of (changed ends (a, b) lowered) (y, x)))) (notes tells (wire_at (end_of ends (y, x)))) (notes tells (queue_at (end_of (changed ends (a, b) lowered) (x, y)))) (cond (is_end (a, b) (x, y)) [] (notes tells (queue_at (end_of ends (x, y)))))
      (keep_emptied ends a b (λ o. notes tells (wire_at o)) (λ s. refl) (y, x))
      (read_changed ends (a, b) lowered (λ o. notes tells (queue_at o)) (x, y) ∙ ap (λ z. cond (is_end (a, b) (x, y)) z (notes tells (queue_at (end_of ends (x, y))))) (none (end_of ends (x, y))))
    where
      none : (o : Option EndState) → notes tells (queue_at (option_map lowered o)) ≡ []
      none None = refl
      none (Some s) = refl

  pub emptied_same : (x y : Name) → is_end (a, b) (x, y) ≡ false → way_of tells (changed ends (a, b) lowered) x y ≡ way_of tells ends x y
  emptied_same x y e = emptied_way x y ∙ ap (λ t. notes tells (wire_at (end_of ends (y, x))) ++ cond t [] (notes tells (queue_at (end_of ends (x, y))))) e

  pub emptied_part : (x y : Name) → IsPart (way_of tells (changed ends (a, b) lowered) x y) (way_of tells ends x y)
  emptied_part x y = by (is_end (a, b) (x, y)) refl
    where
      by : (t : Bool) → is_end (a, b) (x, y) ≡ t → IsPart (way_of tells (changed ends (a, b) lowered) x y) (way_of tells ends x y)
      by false e = is_all (way_of tells (changed ends (a, b) lowered) x y) (way_of tells ends x y) (sym (emptied_same x y e))
      by true e = record {
        before = [];
        after = notes tells (queue_at (end_of ends (x, y)));
        whole = ap (λ z. z ++ notes tells (queue_at (end_of ends (x, y))))
            (sym (emptied_way x y ∙ ap (λ t. notes tells (wire_at (end_of ends (y, x))) ++ cond t [] (notes tells (queue_at (end_of ends (x, y))))) e ∙ append-nil (notes tells (wire_at (end_of ends (y, x))))));
      }

-- ---- a message is handled

-- A router that has heard of a message with the message still on the wire, and one where it has left it: the way from the neighbour has it first.
module _ {V : Type 0} (tells : Msg → List (Note V)) (w : WorldState) (a : Name) (r : RouterState) (event : Event) (b : Name) (s : EndState) (found : end_of w.ends (a, b) ≡ Some s) (msg : Msg) (tag : ℕ) (xs : List Tagged)
    (front : s.wire ≡ record { msg = msg; tag = tag } ∷ xs) where
  pub handled_way : (x y : Name) → way_of tells (sending w a r event tag).ends x y ≡ cond (is_end (a, b) (y, x)) (tells msg) [] ++ way_of tells (sending (with_ends w (with_end w.ends (a, b) (with_wire s xs))) a r event tag).ends x y
  handled_way x y = at_name a (λ q. way_of tells (sending w a r event tag).ends q y ≡ before q ++ way_of tells (sending (with_ends w left) a r event tag).ends q y) here other x
    where
      left : Ends
      left = with_end w.ends (a, b) (with_wire s xs)

      before : Name → List (Note V)
      before q = cond (is_end (a, b) (y, q)) (tells msg) []

      first : (q : Name) → way_of tells w.ends q y ≡ before q ++ way_of tells left q y
      first q = popped_way tells w.ends a b s found msg tag xs front q y

      sent_same : sent_at tells w a r event tag y ≡ sent_at tells (with_ends w left) a r event tag y
      sent_same = ap (λ t. flat_map tells (cond t (sends_to r.node event y) [])) (sym (keep_popped w.ends a b s found msg tag xs is_some refl (a, y)))

      here : way_of tells (sending w a r event tag).ends a y ≡ before a ++ way_of tells (sending (with_ends w left) a r event tag).ends a y
      here =
          way_sent tells w a r event tag y
          ∙ ap (λ z. z ++ sent_at tells w a r event tag y) (first a)
          ∙ append_assoc (before a) (way_of tells left a y) (sent_at tells w a r event tag y)
          ∙ ap (λ z. before a ++ (way_of tells left a y ++ z)) sent_same
          ∙ ap (λ z. before a ++ z) (sym (way_sent tells (with_ends w left) a r event tag y))

      other : (q : Name) → is_named a q ≡ false → way_of tells (sending w a r event tag).ends q y ≡ before q ++ way_of tells (sending (with_ends w left) a r event tag).ends q y
      other q apart = way_other tells w a r event tag q y apart ∙ first q
          ∙ ap (λ z. before q ++ z) (sym (way_other tells (with_ends w left) a r event tag q y apart))

-- ---- worlds

module _ {V : Type 0} (tells : Msg → List (Note V)) (table : Name → Name → Known V) (w : WorldState) (pairs : HasTwins w) (a b : Name) where
  pub taken_moves : (s : EndState) → end_of w.ends (a, b) ≡ Some s → (msg : Msg) (tag : ℕ) (xs : List Tagged) → s.queue ≡ record { msg = msg; tag = tag } ∷ xs →
      Moves tells table w (changed (with_end w.ends (a, b) (with_queue s xs)) (b, a) (λ e. sent e msg tag))
  taken_moves s found msg tag xs front = record {
    part = taken_part tells w.ends a b s found msg tag xs front;
    up = λ x y router. keep_taken w.ends a b s found msg tag xs up_at refl (λ e. refl) (x, y);
    weight = λ x y router. keep_taken w.ends a b s found msg tag xs up_weight_at refl (λ e. refl) (x, y);
    dropped = λ x y z router up unbroken. (
      sym (keep_taken w.ends a b s found msg tag xs unbroken_at refl (λ e. refl) (x, y)) ∙ unbroken,
      same_way z (table y z).number (way_of tells es x y) (way_of tells w.ends x y) (taken_same tells w.ends a b s found msg tag xs front x y (is_end (a, b) (x, y)) refl (λ t. pairs x y (says w.ends a b s found is_some (x, y) t) router)),
    );
    twins = λ x y some router. keep_taken w.ends a b s found msg tag xs is_some refl (λ e. refl) (y, x)
        ∙ pairs x y (sym (keep_taken w.ends a b s found msg tag xs is_some refl (λ e. refl) (x, y)) ∙ some) router;
  }
    where
      es : Ends
      es = changed (with_end w.ends (a, b) (with_queue s xs)) (b, a) (λ e. sent e msg tag)

  -- a message leaves the wire, where its receiver knows what it tells, or its link does not feed
  pub popped_moves : (s : EndState) → end_of w.ends (a, b) ≡ Some s → (msg : Msg) (tag : ℕ) (xs : List Tagged) → s.wire ≡ record { msg = msg; tag = tag } ∷ xs →
      (is_up w.ends (b, a) ≡ true → (z : Name) → best z (tells msg) ≤ (table a z).number) → Moves tells table w (with_end w.ends (a, b) (with_wire s xs))
  popped_moves s found msg tag xs front known = record {
    part = λ x y. record { before = cond (is_end (a, b) (y, x)) (tells msg) []; after = []; whole = way x y ∙ ap (λ z. cond (is_end (a, b) (y, x)) (tells msg) [] ++ z) (sym (append-nil (way_of tells es x y))) };
    up = λ x y router. keep_popped w.ends a b s found msg tag xs up_at refl (x, y);
    weight = λ x y router. keep_popped w.ends a b s found msg tag xs up_weight_at refl (x, y);
    dropped = λ x y z router up unbroken. (
      sym (keep_popped w.ends a b s found msg tag xs unbroken_at refl (x, y)) ∙ unbroken,
      (let e : best z (way_of tells w.ends x y) ≡ max (best z (cond (is_end (a, b) (y, x)) (tells msg) [])) (best z (way_of tells es x y)) = ap (best z) (way x y) ∙ best_append z (cond (is_end (a, b) (y, x)) (tells msg) []) (way_of tells es x y) in
          omega (arith, e, left x y z (is_end (a, b) (y, x)) refl (sym (keep_popped w.ends a b s found msg tag xs up_at refl (x, y)) ∙ up))),
    );
    twins = λ x y some router. keep_popped w.ends a b s found msg tag xs is_some refl (y, x) ∙ pairs x y (sym (keep_popped w.ends a b s found msg tag xs is_some refl (x, y)) ∙ some) router;
  }
    where
      es : Ends
      es = with_end w.ends (a, b) (with_wire s xs)

      way : (x y : Name) → way_of tells w.ends x y ≡ cond (is_end (a, b) (y, x)) (tells msg) [] ++ way_of tells es x y
      way x y = popped_way tells w.ends a b s found msg tag xs front x y

      left : (x y z : Name) (t : Bool) → is_end (a, b) (y, x) ≡ t → is_up w.ends (x, y) ≡ true → best z (cond t (tells msg) []) ≤ (table y z).number
      left x y z false e up = omega arith
      left x y z true e up = subst (λ (q : End). best z (tells msg) ≤ (table q.0 z).number) (same_end (a, b) (y, x) e)
          (known (ap (λ (q : End). is_up w.ends (q.1, q.0)) (same_end (a, b) (y, x) e) ∙ up) z)

  -- an end that leads to no router goes down
  pub lowered_moves : there_in w b ≡ false → Moves tells table w (changed w.ends (a, b) lowered)
  lowered_moves none = record {
    part = emptied_part tells w.ends a b;
    up = λ x y router. emptied_up w.ends a b (x, y) ∙ ap (λ t. cond t false (is_up w.ends (x, y))) (apart x y router);
    weight = λ x y router. emptied_weight w.ends a b (x, y) ∙ ap (λ t. cond t 0 (up_weight w.ends (x, y))) (apart x y router);
    dropped = λ x y z router up unbroken.
        (sym (keep_emptied w.ends a b unbroken_at (λ s. refl) (x, y)) ∙ unbroken, same_way z (table y z).number (way_of tells es x y) (way_of tells w.ends x y) (emptied_same tells w.ends a b x y (apart x y router)));
    twins = λ x y some router. keep_emptied w.ends a b is_some (λ s. refl) (y, x) ∙ pairs x y (sym (keep_emptied w.ends a b is_some (λ s. refl) (x, y)) ∙ some) router;
  }
    where
      es : Ends
      es = changed w.ends (a, b) lowered

      apart : (x y : Name) → there_in w y ≡ true → is_end (a, b) (x, y) ≡ false
      apart x y router = by (is_end (a, b) (x, y)) refl
        where
          by : (t : Bool) → is_end (a, b) (x, y) ≡ t → t ≡ false
          by false e = refl
          by true e = absurd (true≢false (sym router ∙ ap (λ (q : End). there_in w q.1) (sym (same_end (a, b) (x, y) e)) ∙ none))

-- a router's weight tells nothing
module _ (w : WorldState) (h : Holds w) (a : Name) where
  pub weighed_kept : (r : RouterState) (key : List ℕ) → router_of w.routers a ≡ Some r → Holds (with_routers w (with_router w.routers a (weighing r key)))
  weighed_kept r key found = quiet_kept w v h (record {
    tables = λ x z. keep (λ o. knows o z) refl x;
    part = λ x y. is_all (way_of notes_in v.ends x y) (way_of notes_in w.ends x y) refl;
    dropped = λ x y z f. (sym (ap (λ t. t && (is_up w.ends (x, y) && is_unbroken w.ends (x, y))) (keep is_some refl y)) ∙ f, same_way z (table_of w y z).number (way_of notes_in v.ends x y) (way_of notes_in w.ends x y) refl);
    lists = λ z y. ap (λ t. t && is_up w.ends (z, y)) (keep is_some refl y);
    weighs = λ z y. ap (λ t. cond t (up_weight w.ends (z, y)) 0) (keep is_some refl y);
    in_order = λ x q e. at x q (is_named a x) (sym (read_after (λ o. o) w.routers a x r (weighing r key) found) ∙ e);
    twins = λ x y some router. h.twins x y some (sym (keep is_some refl y) ∙ router);
  })
    where
      v : WorldState
      v = with_routers w (with_router w.routers a (weighing r key))

      keep : {Y : Type 0} (f : Option RouterState → Y) → f (Some (weighing r key)) ≡ f (Some r) → (x : Name) → f (router_of v.routers x) ≡ f (router_of w.routers x)
      keep f same x = read_kept f w.routers a x r (weighing r key) found same

      at : (x : Name) (q : RouterState) (t : Bool) → cond t (Some (weighing r key)) (router_of w.routers x) ≡ Some q → IsInOrder q.node.base
      at x q true k = let one : weighing r key ≡ q = cc in subst (λ (s : RouterState). IsInOrder s.node.base) one (h.in_order a r found)
      at x q false k = h.in_order x q k
