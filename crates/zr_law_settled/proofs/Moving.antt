-- Acts that change ends alone, where routers stay as they are: each says what is on the way then, and that no link to a router comes up.
use Rattle.std.proofs.Common.{◌≡◌, ◌≤◌, ℕ, max, Bool, true, false, cond, List, [], ◌∷◌, ◌++◌, Option, Some, None, is_some, refl, sym, ap, ◌∙◌, subst, append-nil}
use Rattle.std.specs.Prelude.{◌&&◌, ◌||◌}
use Rattle.std.specs.Option.{option_map, option_map_or}
use Rattle.std.proofs.lemmas.Bool.{true≢false, false≢true, and_parts, and_from, or_parts}
use Rattle.zr_msg.specs.declared.msg.Msg.{Msg}
use Rattle.zr_world_spec.specs.World.{EndState, End, Ends, WorldState, with_ends, end_of, is_end, is_up, is_unbroken, is_in_place, new_end, with_end, put_end, changed, broken, lifted, sent, wire_at}
use Rattle.zr_world_spec.proofs.Ends.{same_end, read_with_end, keep_with_end, read_put_end, keep_put_end, read_changed, keep_changed}
use Rattle.zr_law_settled.proofs.Spreading.{Name, Known, Note, best, IsPart, is_all}
use Rattle.zr_law_settled.proofs.Records.{notes_in}
use Rattle.zr_law_settled.proofs.Worlds.{there_in, table_of, queue_at, notes, way_of, feeds_of, up_weight_at, up_weight, HasTwins, Holds, notes-append}
use Rattle.zr_law_settled.proofs.Quiet.{quiet_kept, turned_is, same_way}

-- readings of one end
abbrev pub up_at : Option EndState → Bool
up_at o = option_map_or (λ s. s.up) o false

abbrev pub unbroken_at : Option EndState → Bool
unbroken_at o = option_map_or (λ s. s.unbroken) o false

-- an end that is not up weighs nothing
none_up : (ends : Ends) (e : End) → is_up ends e ≡ false → up_weight ends e ≡ 0
none_up ends e down = by (end_of ends e) down
  where
    by : (o : Option EndState) → up_at o ≡ false → up_weight_at o ≡ 0
    by None k = refl
    by (Some s) k = ap (λ t. cond t s.weight 0) k

-- What is on the way is a part, no link to a router comes up or has another weight, and what is gone can't be missed.
pub record Moves {V : Type 0} (tells : Msg → List (Note V)) (table : Name → Name → Known V) (w : WorldState) (es : Ends) : Type 0 where
  pub part : (x y : Name) → IsPart (way_of tells es x y) (way_of tells w.ends x y)
  pub up : (x y : Name) → there_in w y ≡ true → is_up es (x, y) ≡ is_up w.ends (x, y)
  pub weight : (x y : Name) → there_in w y ≡ true → up_weight es (x, y) ≡ up_weight w.ends (x, y)
  pub dropped : (x y z : Name) → there_in w y ≡ true → is_up es (x, y) ≡ true → is_unbroken es (x, y) ≡ true →
      (is_unbroken w.ends (x, y) ≡ true) × (best z (way_of tells w.ends x y) ≤ max (table y z).number (best z (way_of tells es x y)))
  pub twins : (x y : Name) → is_some (end_of es (x, y)) ≡ true → there_in w y ≡ true → is_some (end_of es (y, x)) ≡ true

-- what feeds then has fed
pub fed_before : {V : Type 0} (tells : Msg → List (Note V)) (table : Name → Name → Known V) (w : WorldState) (es : Ends) → Moves tells table w es → (x y z : Name) → feeds_of (with_ends w es) z x y ≡ true →
    (feeds_of w z x y ≡ true) × (best z (way_of tells w.ends x y) ≤ max (table y z).number (best z (way_of tells es x y)))
fed_before tells table w es m x y z f =
    let parts = and_parts (there_in w y) (is_up es (x, y) && is_unbroken es (x, y)) f in
    let both = and_parts (is_up es (x, y)) (is_unbroken es (x, y)) parts.1 in
    let d = m.dropped x y z parts.0 both.0 both.1 in (
      and_from (there_in w y) (is_up w.ends (x, y) && is_unbroken w.ends (x, y)) parts.0
          (and_from (is_up w.ends (x, y)) (is_unbroken w.ends (x, y)) (sym (m.up x y parts.0) ∙ both.0) d.0),
      d.1,
    )

pub moves_kept : (w : WorldState) (es : Ends) → Holds w → Moves notes_in (table_of w) w es → Holds (with_ends w es)
moves_kept w es h m = quiet_kept w (with_ends w es) h (record {
  tables = λ x z. refl;
  part = m.part;
  dropped = λ x y z f. fed_before notes_in (table_of w) w es m x y z f;
  lists = λ z y. at z y (there_in w y) refl;
  weighs = λ z y. weight_at z y (there_in w y) refl;
  in_order = h.in_order;
  twins = m.twins;
})
  where
    at : (z y : Name) (b : Bool) → there_in w y ≡ b → (b && is_up es (z, y)) ≡ (b && is_up w.ends (z, y))
    at z y true e = m.up z y e
    at z y false e = refl

    weight_at : (z y : Name) (b : Bool) → there_in w y ≡ b → cond b (up_weight es (z, y)) 0 ≡ cond b (up_weight w.ends (z, y)) 0
    weight_at z y true e = m.weight z y e
    weight_at z y false e = refl

pub both_ways : {X : Type 0} (wire wire' queue queue' : List X) → wire ≡ wire' → queue ≡ queue' → wire ++ queue ≡ wire' ++ queue'
both_ways wire wire' queue queue' e f = ap (λ z. z ++ queue) e ∙ ap (λ z. wire' ++ z) f

-- an end that comes up leaves what is on the way
pub lifted_way : {V : Type 0} (tells : Msg → List (Note V)) (es : Ends) (a b : Name) (s : EndState) → end_of es (a, b) ≡ Some s → (x y : Name) → way_of tells (with_end es (a, b) (lifted s)) x y ≡ way_of tells es x y
lifted_way tells es a b s found x y =
    both_ways (notes tells (wire_at (end_of (with_end es (a, b) (lifted s)) (y, x)))) (notes tells (wire_at (end_of es (y, x)))) (notes tells (queue_at (end_of (with_end es (a, b) (lifted s)) (x, y)))) (notes tells (queue_at (end_of es (x, y))))
    (keep_with_end es (a, b) (lifted s) (λ o. notes tells (wire_at o)) (y, x) s found refl) (keep_with_end es (a, b) (lifted s) (λ o. notes tells (queue_at o)) (x, y) s found refl)

module _ {V : Type 0} (tells : Msg → List (Note V)) (table : Name → Name → Known V) (w : WorldState) (pairs : HasTwins w) where
  -- where the same is on the way, and each link to a router is up and unbroken as before
  alike : (es : Ends) → ((x y : Name) → way_of tells es x y ≡ way_of tells w.ends x y) → ((x y : Name) → there_in w y ≡ true → is_up es (x, y) ≡ is_up w.ends (x, y)) →
      ((x y : Name) → there_in w y ≡ true → up_weight es (x, y) ≡ up_weight w.ends (x, y)) → ((x y : Name) → there_in w y ≡ true → is_unbroken es (x, y) ≡ is_unbroken w.ends (x, y)) →
      ((x y : Name) → is_some (end_of es (x, y)) ≡ true → there_in w y ≡ true → is_some (end_of es (y, x)) ≡ true) → Moves tells table w es
  alike es way up weight unbroken twins = record {
    part = λ x y. is_all (way_of tells es x y) (way_of tells w.ends x y) (sym (way x y));
    up = up;
    weight = weight;
    dropped = λ x y z router is_up is_unbroken. (sym (unbroken x y router) ∙ is_unbroken, same_way z (table y z).number (way_of tells es x y) (way_of tells w.ends x y) (way x y));
    twins = twins;
  }

  module _ (a b : Name) where
    -- an end that another name's end can't be, as it leads to no router
    apart : there_in w b ≡ false → (x y : Name) → there_in w y ≡ true → is_end (a, b) (x, y) ≡ false
    apart none x y router = by (is_end (a, b) (x, y)) refl
      where
        by : (t : Bool) → is_end (a, b) (x, y) ≡ t → t ≡ false
        by false e = refl
        by true e = absurd (true≢false (sym router ∙ ap (λ (q : End). there_in w q.1) (sym (same_end (a, b) (x, y) e)) ∙ none))

    -- ---- a client's message is on the wire

    pub sent_moves : (s : EndState) → end_of w.ends (a, b) ≡ Some s → (msg : Msg) (tag : ℕ) → tells msg ≡ [] → Moves tells table w (with_end w.ends (a, b) (sent s msg tag))
    sent_moves s found msg tag silent = alike es
        (λ x y. both_ways (notes tells (wire_at (end_of es (y, x)))) (notes tells (wire_at (end_of w.ends (y, x)))) (notes tells (queue_at (end_of es (x, y)))) (notes tells (queue_at (end_of w.ends (x, y))))
        (keep (λ o. notes tells (wire_at o)) more (y, x)) (keep (λ o. notes tells (queue_at o)) refl (x, y)))
        (λ x y router. keep up_at refl (x, y)) (λ x y router. keep up_weight_at refl (x, y)) (λ x y router. keep unbroken_at refl (x, y))
        (λ x y some router. keep is_some refl (y, x) ∙ pairs x y (sym (keep is_some refl (x, y)) ∙ some) router)
      where
        es : Ends
        es = with_end w.ends (a, b) (sent s msg tag)

        keep : {Y : Type 0} (f : Option EndState → Y) → f (Some (sent s msg tag)) ≡ f (Some s) → (q : End) → f (end_of es q) ≡ f (end_of w.ends q)
        keep f same q = keep_with_end w.ends (a, b) (sent s msg tag) f q s found same

        more : notes tells (s.wire ++ record { msg = msg; tag = tag } ∷ []) ≡ notes tells s.wire
        more = notes-append tells s.wire (record { msg = msg; tag = tag } ∷ []) ∙ ap (λ z. notes tells s.wire ++ (z ++ [])) silent ∙ append-nil (notes tells s.wire)

    -- ---- an end that leads to no router comes up

    pub lifted_moves : (s : EndState) → end_of w.ends (a, b) ≡ Some s → there_in w b ≡ false → Moves tells table w (with_end w.ends (a, b) (lifted s))
    lifted_moves s found none = alike es (lifted_way tells w.ends a b s found)
        (λ x y router. read_with_end w.ends (a, b) (lifted s) up_at (x, y) (ap is_some found) ∙ ap (λ t. cond t true (is_up w.ends (x, y))) (apart none x y router))
        (λ x y router. read_with_end w.ends (a, b) (lifted s) up_weight_at (x, y) (ap is_some found) ∙ ap (λ t. cond t s.weight (up_weight w.ends (x, y))) (apart none x y router))
        (λ x y router. keep unbroken_at refl (x, y))
        (λ x y some router. keep is_some refl (y, x) ∙ pairs x y (sym (keep is_some refl (x, y)) ∙ some) router)
      where
        es : Ends
        es = with_end w.ends (a, b) (lifted s)

        keep : {Y : Type 0} (f : Option EndState → Y) → f (Some (lifted s)) ≡ f (Some s) → (q : End) → f (end_of es q) ≡ f (end_of w.ends q)
        keep f same q = keep_with_end w.ends (a, b) (lifted s) f q s found same

    -- ---- a new end that leads to no router, and is up at once

    pub joined_moves : end_of w.ends (a, b) ≡ None → there_in w b ≡ false → Moves tells table w (put_end w.ends (a, b) (lifted (new_end 1)))
    joined_moves free none = alike es
        (λ x y. both_ways (notes tells (wire_at (end_of es (y, x)))) (notes tells (wire_at (end_of w.ends (y, x)))) (notes tells (queue_at (end_of es (x, y)))) (notes tells (queue_at (end_of w.ends (x, y))))
        (keep (λ o. notes tells (wire_at o)) refl (y, x)) (keep (λ o. notes tells (queue_at o)) refl (x, y)))
        (λ x y router. read up_at (x, y) ∙ ap (λ t. cond t true (is_up w.ends (x, y))) (apart none x y router))
        (λ x y router. read up_weight_at (x, y) ∙ ap (λ t. cond t 1 (up_weight w.ends (x, y))) (apart none x y router))
        (λ x y router. read unbroken_at (x, y) ∙ ap (λ t. cond t true (is_unbroken w.ends (x, y))) (apart none x y router))
        (λ x y some router. kept_some (y, x) (pairs x y (sym (read is_some (x, y) ∙ ap (λ t. cond t true (is_some (end_of w.ends (x, y)))) (apart none x y router)) ∙ some) router))
      where
        es : Ends
        es = put_end w.ends (a, b) (lifted (new_end 1))

        read : {Y : Type 0} (f : Option EndState → Y) (q : End) → f (end_of es q) ≡ cond (is_end (a, b) q) (f (Some (lifted (new_end 1)))) (f (end_of w.ends q))
        read f q = read_put_end w.ends (a, b) (lifted (new_end 1)) f q

        keep : {Y : Type 0} (f : Option EndState → Y) → f (Some (lifted (new_end 1))) ≡ f None → (q : End) → f (end_of es q) ≡ f (end_of w.ends q)
        keep f same q = keep_put_end w.ends (a, b) (lifted (new_end 1)) f q (same ∙ ap f (sym free))

        kept_some : (q : End) → is_some (end_of w.ends q) ≡ true → is_some (end_of es q) ≡ true
        kept_some q k = read is_some q ∙ by (is_end (a, b) q)
          where
            by : (t : Bool) → cond t true (is_some (end_of w.ends q)) ≡ true
            by true = refl
            by false = k

    -- ---- a link is made

    pub linked_moves : (weight : ℕ) → there_in w a ≡ true → there_in w b ≡ true → is_in_place w.ends (a, b) ≡ false → Moves tells table w (put_end (put_end w.ends (a, b) (new_end weight)) (b, a) (new_end weight))
    linked_moves weight here there new = record {
      part = λ x y. part x y (is_end (a, b) (x, y)) refl (is_end (b, a) (x, y)) refl;
      up = λ x y router. up x y;
      weight = λ x y router. weights x y;
      dropped = λ x y z router is_up is_unbroken. dropped x y z (is_end (a, b) (x, y)) refl (is_end (b, a) (x, y)) refl is_up is_unbroken;
      twins = λ x y some router. twins x y some router (is_end (a, b) (x, y)) refl (is_end (b, a) (x, y)) refl;
    }
      where
        es : Ends
        es = put_end (put_end w.ends (a, b) (new_end weight)) (b, a) (new_end weight)

        read : {Y : Type 0} (f : Option EndState → Y) (q : End) → f (end_of es q) ≡ cond (is_end (b, a) q) (f (Some (new_end weight))) (cond (is_end (a, b) q) (f (Some (new_end weight))) (f (end_of w.ends q)))
        read f q = read_put_end (put_end w.ends (a, b) (new_end weight)) (b, a) (new_end weight) f q
            ∙ ap (λ z. cond (is_end (b, a) q) (f (Some (new_end weight))) z) (read_put_end w.ends (a, b) (new_end weight) f q)

        -- what an end says, by whether it is one of the two
        read_at : {Y : Type 0} (f : Option EndState → Y) (q : End) (s t : Bool) → is_end (a, b) q ≡ s → is_end (b, a) q ≡ t → f (end_of es q) ≡ cond t (f (Some (new_end weight))) (cond s (f (Some (new_end weight))) (f (end_of w.ends q)))
        read_at f q s t e d = read f q ∙ ap (λ u. cond u (f (Some (new_end weight))) (cond (is_end (a, b) q) (f (Some (new_end weight))) (f (end_of w.ends q)))) d
            ∙ ap (λ u. cond t (f (Some (new_end weight))) (cond u (f (Some (new_end weight))) (f (end_of w.ends q)))) e

        way_at : (x y : Name) (s t : Bool) → is_end (a, b) (x, y) ≡ s → is_end (b, a) (x, y) ≡ t →
            way_of tells es x y ≡ cond s [] (cond t [] (notes tells (wire_at (end_of w.ends (y, x))))) ++ cond t [] (cond s [] (notes tells (queue_at (end_of w.ends (x, y)))))
        way_at x y s t e d = both_ways (notes tells (wire_at (end_of es (y, x)))) (cond s [] (cond t [] (notes tells (wire_at (end_of w.ends (y, x))))))
            (notes tells (queue_at (end_of es (x, y)))) (cond t [] (cond s [] (notes tells (queue_at (end_of w.ends (x, y))))))
            (read_at (λ o. notes tells (wire_at o)) (y, x) t s (turned_is b a x y ∙ d) (turned_is a b x y ∙ e)) (read_at (λ o. notes tells (queue_at o)) (x, y) s t e d)

        none_of : (x y : Name) → way_of tells es x y ≡ [] → IsPart (way_of tells es x y) (way_of tells w.ends x y)
        none_of x y e = record { before = way_of tells w.ends x y; after = []; whole = sym (append-nil (way_of tells w.ends x y)) ∙ ap (λ z. way_of tells w.ends x y ++ (z ++ [])) (sym e) }

        part : (x y : Name) (s : Bool) → is_end (a, b) (x, y) ≡ s → (t : Bool) → is_end (b, a) (x, y) ≡ t → IsPart (way_of tells es x y) (way_of tells w.ends x y)
        part x y true e true d = none_of x y (way_at x y true true e d)
        part x y true e false d = none_of x y (way_at x y true false e d)
        part x y false e true d = none_of x y (way_at x y false true e d)
        part x y false e false d = is_all (way_of tells es x y) (way_of tells w.ends x y) (sym (way_at x y false false e d))

        -- the link was not in place, so its ends were down
        down : (q : End) → is_up w.ends (a, b) ≡ false → is_up w.ends (b, a) ≡ false → is_up es q ≡ is_up w.ends q
        down q one other = read up_at q ∙ by (is_end (b, a) q) refl (is_end (a, b) q) refl
          where
            was : (e : End) → is_up w.ends e ≡ false → is_end e q ≡ true → false ≡ is_up w.ends q
            was e d k = sym d ∙ ap (λ z. is_up w.ends z) (same_end e q k)

            by : (s : Bool) → is_end (b, a) q ≡ s → (t : Bool) → is_end (a, b) q ≡ t → cond s false (cond t false (is_up w.ends q)) ≡ is_up w.ends q
            by true k t l = was (b, a) other k
            by false k true l = was (a, b) one l
            by false k false l = refl

        up : (x y : Name) → is_up es (x, y) ≡ is_up w.ends (x, y)
        up x y =
            let ups = or_parts (is_unbroken w.ends (a, b) || is_up w.ends (a, b)) (is_up w.ends (b, a)) new in
            down (x, y) (or_parts (is_unbroken w.ends (a, b)) (is_up w.ends (a, b)) ups.0).1 ups.1

        down_weight : (q : End) → is_up w.ends (a, b) ≡ false → is_up w.ends (b, a) ≡ false → up_weight es q ≡ up_weight w.ends q
        down_weight q one other = read up_weight_at q ∙ by (is_end (b, a) q) refl (is_end (a, b) q) refl
          where
            was : (e : End) → is_up w.ends e ≡ false → is_end e q ≡ true → 0 ≡ up_weight w.ends q
            was e d k = sym (none_up w.ends e d) ∙ ap (λ z. up_weight w.ends z) (same_end e q k)

            by : (s : Bool) → is_end (b, a) q ≡ s → (t : Bool) → is_end (a, b) q ≡ t → cond s 0 (cond t 0 (up_weight w.ends q)) ≡ up_weight w.ends q
            by true k t l = was (b, a) other k
            by false k true l = was (a, b) one l
            by false k false l = refl

        weights : (x y : Name) → up_weight es (x, y) ≡ up_weight w.ends (x, y)
        weights x y =
            let ups = or_parts (is_unbroken w.ends (a, b) || is_up w.ends (a, b)) (is_up w.ends (b, a)) new in
            down_weight (x, y) (or_parts (is_unbroken w.ends (a, b)) (is_up w.ends (a, b)) ups.0).1 ups.1

        dropped : (x y z : Name) (s : Bool) → is_end (a, b) (x, y) ≡ s → (t : Bool) → is_end (b, a) (x, y) ≡ t → is_up es (x, y) ≡ true → is_unbroken es (x, y) ≡ true →
            (is_unbroken w.ends (x, y) ≡ true) × (best z (way_of tells w.ends x y) ≤ max (table y z).number (best z (way_of tells es x y)))
        dropped x y z true e true d u k = absurd (false≢true (sym (read_at up_at (x, y) true true e d) ∙ u))
        dropped x y z true e false d u k = absurd (false≢true (sym (read_at up_at (x, y) true false e d) ∙ u))
        dropped x y z false e true d u k = absurd (false≢true (sym (read_at up_at (x, y) false true e d) ∙ u))
        dropped x y z false e false d u k = (sym (read_at unbroken_at (x, y) false false e d) ∙ k, same_way z (table y z).number (way_of tells es x y) (way_of tells w.ends x y) (way_at x y false false e d))

        twins : (x y : Name) → is_some (end_of es (x, y)) ≡ true → there_in w y ≡ true → (s : Bool) → is_end (a, b) (x, y) ≡ s → (t : Bool) → is_end (b, a) (x, y) ≡ t → is_some (end_of es (y, x)) ≡ true
        twins x y some router true e t d = read_at is_some (y, x) t true (turned_is b a x y ∙ d) (turned_is a b x y ∙ e)
        twins x y some router false e true d = read_at is_some (y, x) true false (turned_is b a x y ∙ d) (turned_is a b x y ∙ e)
        twins x y some router false e false d =
            read_at is_some (y, x) false false (turned_is b a x y ∙ d) (turned_is a b x y ∙ e) ∙ pairs x y (sym (read_at is_some (x, y) false false e d) ∙ some) router

    -- ---- a link breaks

    pub broken_moves : Moves tells table w (changed (changed w.ends (a, b) broken) (b, a) broken)
    broken_moves = record {
      part = λ x y. subst (λ ms. IsPart ms (way_of tells w.ends x y)) (sym (way x y)) (part x y (is_end (a, b) (x, y)) (is_end (b, a) (x, y)));
      up = λ x y router. keep up_at (λ s. refl) (x, y);
      weight = λ x y router. keep up_weight_at (λ s. refl) (x, y);
      dropped = λ x y z router is_up is_unbroken. dropped x y z (is_end (a, b) (x, y)) refl (is_end (b, a) (x, y)) refl (sym (cut (x, y)) ∙ is_unbroken);
      twins = λ x y some router. keep is_some (λ s. refl) (y, x) ∙ pairs x y (sym (keep is_some (λ s. refl) (x, y)) ∙ some) router;
    }
      where
        es : Ends
        es = changed (changed w.ends (a, b) broken) (b, a) broken

        keep : {Y : Type 0} (f : Option EndState → Y) → ((s : EndState) → f (Some (broken s)) ≡ f (Some s)) → (q : End) → f (end_of es q) ≡ f (end_of w.ends q)
        keep f same q = keep_changed (changed w.ends (a, b) broken) (b, a) broken f q same ∙ keep_changed w.ends (a, b) broken f q same

        -- what each broken end says alike
        all_say : {Y : Type 0} (f : Option EndState → Y) (d : Y) → ((o : Option EndState) → f (option_map broken o) ≡ d) → (q : End) →
            f (end_of es q) ≡ cond (is_end (b, a) q) d (cond (is_end (a, b) q) d (f (end_of w.ends q)))
        all_say f d says q =
            read_changed (changed w.ends (a, b) broken) (b, a) broken f q
            ∙ ap (λ z. cond (is_end (b, a) q) z (f (end_of (changed w.ends (a, b) broken) q))) (says (end_of (changed w.ends (a, b) broken) q))
            ∙ ap (λ z. cond (is_end (b, a) q) d z) (read_changed w.ends (a, b) broken f q ∙ ap (λ z. cond (is_end (a, b) q) z (f (end_of w.ends q))) (says (end_of w.ends q)))

        no_wire : (o : Option EndState) → notes tells (wire_at (option_map broken o)) ≡ []
        no_wire None = refl
        no_wire (Some s) = refl

        no_link : (o : Option EndState) → unbroken_at (option_map broken o) ≡ false
        no_link None = refl
        no_link (Some s) = refl

        cut : (q : End) → is_unbroken es q ≡ cond (is_end (b, a) q) false (cond (is_end (a, b) q) false (is_unbroken w.ends q))
        cut q = all_say unbroken_at false no_link q

        wire : Name → Name → List (Note V)
        wire x y = notes tells (wire_at (end_of w.ends (y, x)))

        queue : Name → Name → List (Note V)
        queue x y = notes tells (queue_at (end_of w.ends (x, y)))

        way : (x y : Name) → way_of tells es x y ≡ cond (is_end (a, b) (x, y)) [] (cond (is_end (b, a) (x, y)) [] (wire x y)) ++ queue x y
        way x y = both_ways (notes tells (wire_at (end_of es (y, x)))) (cond (is_end (a, b) (x, y)) [] (cond (is_end (b, a) (x, y)) [] (wire x y)))
            (notes tells (queue_at (end_of es (x, y)))) (queue x y)
            (all_say (λ o. notes tells (wire_at o)) [] no_wire (y, x) ∙ ap (λ t. cond t [] (cond (is_end (a, b) (y, x)) [] (wire x y))) (turned_is a b x y)
            ∙ ap (λ t. cond (is_end (a, b) (x, y)) [] (cond t [] (wire x y))) (turned_is b a x y))
            (keep (λ o. notes tells (queue_at o)) (λ s. refl) (x, y))

        part : (x y : Name) (s t : Bool) → IsPart (cond s [] (cond t [] (wire x y)) ++ queue x y) (way_of tells w.ends x y)
        part x y true t = record { before = wire x y; after = []; whole = ap (λ z. wire x y ++ z) (sym (append-nil (queue x y))) }
        part x y false true = record { before = wire x y; after = []; whole = ap (λ z. wire x y ++ z) (sym (append-nil (queue x y))) }
        part x y false false = is_all (wire x y ++ queue x y) (way_of tells w.ends x y) refl

        dropped : (x y z : Name) (s : Bool) → is_end (a, b) (x, y) ≡ s → (t : Bool) → is_end (b, a) (x, y) ≡ t → cond (is_end (b, a) (x, y)) false (cond (is_end (a, b) (x, y)) false (is_unbroken w.ends (x, y))) ≡ true →
            (is_unbroken w.ends (x, y) ≡ true) × (best z (way_of tells w.ends x y) ≤ max (table y z).number (best z (way_of tells es x y)))
        dropped x y z s e true d k = absurd (false≢true (sym (ap (λ u. cond u false (cond (is_end (a, b) (x, y)) false (is_unbroken w.ends (x, y)))) d) ∙ k))
        dropped x y z true e false d k = absurd (false≢true (sym (ap (λ u. cond u false (cond (is_end (a, b) (x, y)) false (is_unbroken w.ends (x, y)))) d ∙ ap (λ u. cond u false (is_unbroken w.ends (x, y))) e) ∙ k))
        dropped x y z false e false d k = (
          sym (ap (λ u. cond u false (cond (is_end (a, b) (x, y)) false (is_unbroken w.ends (x, y)))) d ∙ ap (λ u. cond u false (is_unbroken w.ends (x, y))) e) ∙ k,
          same_way z (table y z).number (way_of tells es x y) (way_of tells w.ends x y) (way x y ∙ ap (λ u. cond u [] (cond (is_end (b, a) (x, y)) [] (wire x y)) ++ queue x y) e ∙ ap (λ u. cond u [] (wire x y) ++ queue x y) d),
        )
