-- All messages leave the wires to some ends.
use Rattle.std.proofs.Common.{◌≡◌, ℕ, ◌+◌, Bool, true, false, cond, List, [], ◌∷◌, ◌++◌, map, take, drop, length, append_assoc, zero, suc, Option, Some, None, Less, refl, sym, ap, ◌∙◌, subst, arith}
use Rattle.std.specs.Prelude.{is_some, slice_get}
use Rattle.std.specs.Ordering.{is_eq}
use Rattle.std.specs.List.{AllByRecursion}
use Rattle.std.specs.List.Sorted.{IsStrictlySortedBy}
use Rattle.std.specs.Map.{keys_of}
use Rattle.std.specs.Option.{option_map}
use Rattle.std.proofs.lemmas.List.{length-map, map-append, append-nil, take_all, drop_all, drop-drop}
use Rattle.std.proofs.lemmas.Map.Keys.{sorted_head, sorted_tail}
use Rattle.zr_msg.specs.declared.msg.Msg.{Msg}
use Rattle.zr_msg.specs.declared.peer.Role.{Role}
use Rattle.zr_carrier.specs.Wire.{Wire, Wires, Sets, oldest, without_oldest}
use Rattle.zr_law_fan.specs.Samples.{bare as bare_end, emptied as emptied_ends}
use Rattle.zr_world_spec.specs.World.{Tagged, EndState, End, Ends, end_cmp, is_end, end_of}
use Rattle.zr_world_spec.proofs.Ends.{ends, same_end}
use Rattle.zr_world_ends.specs.Carried.{messages, received, seen, seen_ends, without, Drains, AreDrained, drained_wire, IsWireIf, IsAtWire, AreCarried, neighbour_role, role_if}
use Rattle.zr_world_ends.specs.Drained.{drained}
use Rattle.zr_world_ends.specs.Kept.{KeptEnd, KeptEnds, bare, emptied, kind_of}
use Rattle.zr_world_ends.specs.Named.{at_end}
use Rattle.zr_world_ends.proofs.Same.{at_mapped, keys_mapped}
use Rattle.zr_world_ends.proofs.Seen.{set_wire, seen_at, same_seen, sorted_seen}

-- ---- one wire

module _ (e : End) (ws : Wires) where
  abbrev w : Option Wire
  w = ws e.1 e.0

  none_left : (o : Option Wire) → option_map (without 0) o ≡ o
  none_left None = refl
  none_left (Some v) = refl

  -- none has left yet
  pub drains_none : Drains e 0 [] ws ws
  drains_none = (refl, λ f t. by f t (is_end (e.1, e.0) (f, t)) refl)
    where
      by : (f t : List ℕ) (b : Bool) → is_end (e.1, e.0) (f, t) ≡ b → ws f t ≡ cond b (option_map (without 0) w) (ws f t)
      by f t true n = sym (none_left w ∙ ap (λ (z : End). ws z.0 z.1) (same_end (e.1, e.0) (f, t) n))
      by f t false n = refl

  set_again : (u v : Option Wire) (mid new : Wires) → Sets e.1 e.0 u ws mid → Sets e.1 e.0 v mid new → Sets e.1 e.0 v ws new
  set_again u v mid new g k f t = k f t ∙ by (is_end (e.1, e.0) (f, t)) (g f t)
    where
      by : (b : Bool) → mid f t ≡ cond b u (ws f t) → cond b v (mid f t) ≡ cond b v (ws f t)
      by true e = refl
      by false e = e

  here : (v : Option Wire) (new : Wires) → Sets e.1 e.0 v ws new → new e.1 e.0 ≡ v
  here v new g = g e.1 e.0 ∙ ap (λ b. cond b v w) (ends.refl (e.1, e.0))

  -- one more has left, where one was there
  pub drains_more : (n : ℕ) (msgs : List Tagged) (mid new : Wires) (r : Option (Msg × ℕ)) → Drains e n msgs ws mid → r ≡ oldest (mid e.1 e.0) →
      Sets e.1 e.0 (option_map without_oldest (mid e.1 e.0)) mid new → Drains e (n + 1) (msgs ++ received r) ws new
  drains_more n msgs mid new r g first sets = (
    ap (λ z. z ++ received r) g.0 ∙ ap (λ o. take n (messages w) ++ received o) (first ∙ ap (λ z. oldest z) mid_is) ∙ more w,
    set_again (option_map (without n) w) (option_map (without (n + 1)) w) mid new g.1
        (subst (λ (z : Option Wire). Sets e.1 e.0 z mid new) (ap (option_map without_oldest) mid_is ∙ less w) sets),
  )
    where
      mid_is : mid e.1 e.0 ≡ option_map (without n) w
      mid_is = here (option_map (without n) w) mid g.1

      less : (o : Option Wire) → option_map without_oldest (option_map (without n) o) ≡ option_map (without (n + 1)) o
      less None = refl
      less (Some v) = ap (λ z. Some (record { role = v.role; waiting = z })) (drop-drop 1 n v.waiting)

      list : (k : ℕ) (xs : List (Msg × ℕ)) → take k (map (λ x. record { msg = x.0; tag = x.1 }) xs) ++ received (slice_get (drop k xs) 0) ≡ take (suc k) (map (λ x. record { msg = x.0; tag = x.1 }) xs)
      list zero [] = refl
      list zero (x ∷ xs) = refl
      list (suc k) [] = refl
      list (suc k) (x ∷ xs) = ap (λ z. record { msg = x.0; tag = x.1 } ∷ z) (list k xs)

      more : (o : Option Wire) → take n (messages o) ++ received (oldest (option_map (without n) o)) ≡ take (n + 1) (messages o)
      more None = ap (λ z. z ++ []) (take_nil n) ∙ sym (take_nil (n + 1))
        where
          take_nil : (m : ℕ) → take {A = Tagged} m [] ≡ []
          take_nil zero = refl
          take_nil (suc m) = refl
      more (Some v) = let one : suc n ≡ n + 1 = omega arith in list n v.waiting ∙ ap (λ m. take m (messages (Some v))) one

-- ---- all wires

-- where nothing stands under a key, it is what is behind
at_behind : {S : Type 0} (xs ys : List (End × S)) (a : End) → at_end xs a ≡ None → at_end (xs ++ ys) a ≡ at_end ys a
at_behind [] ys a none = refl
at_behind (x ∷ xs) ys a none = by (is_end a x.0) refl none (at_behind xs ys a)
  where
    by : (b : Bool) → is_end a x.0 ≡ b → cond b (Some x.1) (at_end xs a) ≡ None → (at_end xs a ≡ None → at_end (xs ++ ys) a ≡ at_end ys a) →
        cond (is_end a x.0) (Some x.1) (at_end (xs ++ ys) a) ≡ at_end ys a
    by true n h ih = absurd (cc)
    by false n h ih = rw n (ih h)

-- one more behind others
at_more : {S : Type 0} (xs : List (End × S)) (a : End) (s : S) (q : End) → at_end xs a ≡ None → at_end (xs ++ (a, s) ∷ []) q ≡ cond (is_end a q) (Some s) (at_end xs q)
at_more [] a s q none = ap (λ b. cond b (Some s) None) (ends.symm q a)
at_more (x ∷ xs) a s q none = by (is_end a x.0) refl none (at_more xs a s q)
  where
    at : (b : Bool) → is_end q x.0 ≡ b → is_end a x.0 ≡ false → at_end (xs ++ (a, s) ∷ []) q ≡ cond (is_end a q) (Some s) (at_end xs q) →
        cond b (Some x.1) (at_end (xs ++ (a, s) ∷ []) q) ≡ cond (is_end a q) (Some s) (cond b (Some x.1) (at_end xs q))
    at true m n ih =
        let apart : is_end a q ≡ false = ap (is_end a) (same_end q x.0 m) ∙ n in
        rw apart refl
    at false m n ih = ih

    by : (b : Bool) → is_end a x.0 ≡ b → cond b (Some x.1) (at_end xs a) ≡ None → (at_end xs a ≡ None → at_end (xs ++ (a, s) ∷ []) q ≡ cond (is_end a q) (Some s) (at_end xs q)) →
        cond (is_end q x.0) (Some x.1) (at_end (xs ++ (a, s) ∷ []) q) ≡ cond (is_end a q) (Some s) (cond (is_end q x.0) (Some x.1) (at_end xs q))
    by true n h ih = absurd (cc)
    by false n h ih = at (is_end q x.0) refl n (ih h)

-- in order each key stands once
last_of : (P : End → Type 0) (a : End) (k : KeptEnd) (rest done : KeptEnds) → AllByRecursion P (keys_of (done ++ (a, k) ∷ rest)) → P a
last_of P a k rest [] h = h.0
last_of P a k rest (x ∷ done) h = last_of P a k rest done h.1

none_yet : (a : End) (k : KeptEnd) (rest done : KeptEnds) → IsStrictlySortedBy end_cmp (keys_of (done ++ (a, k) ∷ rest)) → at_end done a ≡ None
none_yet a k rest [] h = refl
none_yet a k rest (x ∷ done) h =
    let less : end_cmp x.0 a ≡ Less = last_of (λ y. end_cmp x.0 y ≡ Less) a k rest done (sorted_head end_cmp x.0 (keys_of (done ++ (a, k) ∷ rest)) h) in
    ap (λ b. cond b (Some x.1) (at_end done a)) (ends.symm a x.0 ∙ ap is_eq less) ∙ none_yet a k rest done (sorted_tail end_cmp x.0 (keys_of (done ++ (a, k) ∷ rest)) h)

-- the ends up to the rest were drained
abbrev pub Draining : Wires → KeptEnds → Ends → Wires → KeptEnds → Type 0
Draining ws ks es now rest = (done : KeptEnds) × (ks ≡ done ++ rest) × (es ≡ seen_ends ws done) × ((q : End) → now q.1 q.0 ≡ drained_wire (at_end done q) (ws q.1 q.0))

module _ (ws : Wires) (ks : KeptEnds) where
  pub draining_none : (rest : KeptEnds) → rest ≡ ks → Draining ws ks [] ws rest
  draining_none rest is = ([], sym is, refl, λ q. refl)

  pub draining_more : (es : Ends) (now new : Wires) (rest : KeptEnds) (a : End) (k : KeptEnd) (msgs : List Tagged) → AreCarried ws ks → Draining ws ks es now ((a, k) ∷ rest) →
      Drains a (length k.kinds) msgs now new → Draining ws ks (es ++ (a, drained k msgs) ∷ []) new rest
  draining_more es now new rest a k msgs h (done, whole, seen_is, wires) g = (
    done ++ (a, k) ∷ [],
    whole ∙ sym (append_assoc done ((a, k) ∷ []) rest),
    (λ i. seen_is i ++ (a, end_is i) ∷ []) ∙ sym (map-append (λ (e : End × KeptEnd). (e.0, seen e.1 (ws e.0.1 e.0.0))) done ((a, k) ∷ [])),
    λ q. set_wire a (option_map (without n) (now a.1 a.0)) now new g.1 q ∙ by q (is_end a q) refl ∙ ap (λ o. drained_wire o (ws q.1 q.0)) (sym (at_more done a k q none)),
  )
    where
      n : ℕ
      n = length k.kinds

      sorted : IsStrictlySortedBy end_cmp (keys_of (done ++ (a, k) ∷ rest))
      sorted = subst (λ (z : KeptEnds). IsStrictlySortedBy end_cmp (keys_of z)) whole h.ordered

      none : at_end done a ≡ None
      none = none_yet a k rest done sorted

      there : at_end ks a ≡ Some k
      there = ap (λ z. at_end z a) whole ∙ at_behind done ((a, k) ∷ rest) a none ∙ ap (λ b. cond b (Some k) (at_end rest a)) (ends.refl a)

      still : now a.1 a.0 ≡ ws a.1 a.0
      still = wires a ∙ ap (λ o. drained_wire o (ws a.1 a.0)) none

      all : (b : Bool) (w : Option Wire) → IsWireIf (neighbour_role ks a) k.kinds w b → take n (messages w) ≡ cond b (messages w) []
      all true None g = absurd g
      all true (Some v) g =
          let long : n ≡ length v.waiting = ap length g.1 ∙ length-map v.waiting (λ x. kind_of x.0) in
          let same : length (messages (Some v)) ≡ length v.waiting = length-map v.waiting (λ x. record { msg = x.0; tag = x.1 }) in
          take_all n (messages (Some v)) (omega (arith, long, same))
      all false w g = ap (λ m. take m (messages w)) (ap length g)

      end_is : drained k msgs ≡ seen k (ws a.1 a.0)
      end_is = ap (drained k) (g.0 ∙ ap (λ w. take n (messages w)) still ∙ all k.unbroken (ws a.1 a.0) (h.carried a.0 a.1 k there))

      by : (q : End) (b : Bool) → is_end a q ≡ b → cond b (option_map (without n) (now a.1 a.0)) (now q.1 q.0) ≡ drained_wire (cond b (Some k) (at_end done q)) (ws q.1 q.0)
      by q true m = ap (option_map (without n)) (still ∙ ap (λ (z : End). ws z.1 z.0) (same_end a q m))
      by q false m = wires q

  pub draining_all : (es : Ends) (now : Wires) (rest : KeptEnds) → rest ≡ [] → Draining ws ks es now rest → (es ≡ seen_ends ws ks) × AreDrained ks ws now
  draining_all es now rest none (done, whole, seen_is, wires) =
      let same : done ≡ ks = sym (append-nil done) ∙ ap (λ z. done ++ z) (sym none) ∙ sym whole in
      (seen_is ∙ ap (seen_ends ws) same, λ x y. wires (x, y) ∙ ap (λ z. drained_wire (at_end z (x, y)) (ws y x)) same)

-- ---- nothing is left

pub carried_none : (ws : Wires) → AreCarried ws []
unfolding IsStrictlySortedBy
carried_none ws = record { ordered = tt; carried = λ x y k found. absurd (cc); paired = λ x y k j found found'. absurd (cc) }

module _ (ws ws' : Wires) (ks : KeptEnds) (h : AreCarried ws ks) (drains : AreDrained ks ws ws') where
  idle_at : (q : End) → at_end (emptied ks) q ≡ option_map bare (at_end ks q)
  idle_at q = at_mapped (λ (e : End) (k : KeptEnd). bare k) ks q

  sorted_idle : IsStrictlySortedBy end_cmp (keys_of (emptied ks))
  sorted_idle = subst (IsStrictlySortedBy end_cmp) (sym (keys_mapped (λ (e : End) (k : KeptEnd). bare k) ks)) h.ordered

  -- what was on a wire is gone
  gone : (role : Role) (k : KeptEnd) (w : Option Wire) → IsAtWire role k w → IsAtWire role (bare k) (option_map (without (length k.kinds)) w)
  gone role k w g = by k.unbroken w g
    where
      by : (b : Bool) (w : Option Wire) → IsWireIf role k.kinds w b → IsWireIf role [] (option_map (without (length k.kinds)) w) b
      by true None g = g
      by true (Some v) g =
          let long : length k.kinds ≡ length v.waiting = ap length g.1 ∙ length-map v.waiting (λ x. kind_of x.0) in
          (g.0, sym (ap (λ (z : List (Msg × ℕ)). map (λ x. kind_of x.0) z) (drop_all (length k.kinds) v.waiting (omega (arith, long)))))
      by false w g = refl

  was : (q : End) (k : KeptEnd) → at_end (emptied ks) q ≡ Some k → (j : KeptEnd) × (at_end ks q ≡ Some j) × (bare j ≡ k)
  was q k found = by (at_end ks q) refl (sym (idle_at q) ∙ found)
    where
      by : (o : Option KeptEnd) → at_end ks q ≡ o → option_map bare o ≡ Some k → (j : KeptEnd) × (at_end ks q ≡ Some j) × (bare j ≡ k)
      by None at g = absurd (cc)
      by (Some j) at g = let is : bare j ≡ k = cc in (j, at, is)

  pub carried_idle : AreCarried ws' (emptied ks)
  carried_idle = record {
    ordered = sorted_idle;
    carried = λ x y k found.
        let j = was (x, y) k found in
        subst (λ (r : Role). IsAtWire r k (ws' y x)) (sym (role (x, y))) (subst (λ (z : KeptEnd). IsAtWire (neighbour_role ks (x, y)) z (ws' y x)) j.2
        (subst (λ (w : Option Wire). IsAtWire (neighbour_role ks (x, y)) (bare j.0) w) (sym (drains x y ∙ ap (λ o. drained_wire o (ws y x)) j.1))
        (gone (neighbour_role ks (x, y)) j.0 (ws y x) (h.carried x y j.0 j.1))));
    paired = λ x y k l found found'.
        let j = was (x, y) k found in
        let m = was (y, x) l found' in
        ap (λ (z : KeptEnd). z.unbroken) (sym j.2) ∙ h.paired x y j.0 m.0 j.1 m.1 ∙ ap (λ (z : KeptEnd). z.unbroken) m.2;
  }
    where
      some : (o : Option KeptEnd) → is_some (option_map bare o) ≡ is_some o
      some None = refl
      some (Some k) = refl

      role : (q : End) → neighbour_role (emptied ks) q ≡ neighbour_role ks q
      role q = ap role_if (ap (λ o. is_some o) (idle_at (q.1, q.0)) ∙ some (at_end ks (q.1, q.0)))

  pub seen_idle : seen_ends ws' (emptied ks) ≡ emptied_ends (seen_ends ws ks)
  seen_idle =
      same_seen ws' (emptied ks) (emptied_ends (seen_ends ws ks)) sorted_idle
      (subst (IsStrictlySortedBy end_cmp) (sym (keys_mapped (λ (e : End) (s : EndState). bare_end s) (seen_ends ws ks))) (sorted_seen ws ks h.ordered)) look
    where
      empty : (q : End) (k : KeptEnd) → at_end ks q ≡ Some k → (b : Bool) (w : Option Wire) → IsWireIf (neighbour_role ks q) k.kinds w b →
          cond b (messages (option_map (without (length k.kinds)) w)) [] ≡ []
      empty q k at false w g = refl
      empty q k at true None g = refl
      empty q k at true (Some v) g =
          let long : length k.kinds ≡ length v.waiting = ap length g.1 ∙ length-map v.waiting (λ x. kind_of x.0) in
          ap (λ (z : List (Msg × ℕ)). map (λ x. record { msg = x.0; tag = x.1 }) z) (drop_all (length k.kinds) v.waiting (omega (arith, long)))

      by : (q : End) (o : Option KeptEnd) → at_end ks q ≡ o → option_map (λ k. seen k (ws' q.1 q.0)) (option_map bare o) ≡ option_map bare_end (option_map (λ k. seen k (ws q.1 q.0)) o)
      by q None at = refl
      by q (Some k) at =
          ap (λ (z : List Tagged). Some (record { up = k.up; unbroken = k.unbroken; queue = []; wire = z; weight = k.weight }))
          (ap (λ w. cond k.unbroken (messages w) []) (drains q.0 q.1 ∙ ap (λ o. drained_wire o (ws q.1 q.0)) at) ∙ empty q k at k.unbroken (ws q.1 q.0) (h.carried q.0 q.1 k at))

      look : (q : End) → option_map (λ k. seen k (ws' q.1 q.0)) (at_end (emptied ks) q) ≡ end_of (emptied_ends (seen_ends ws ks)) q
      look q =
          ap (λ o. option_map (λ k. seen k (ws' q.1 q.0)) o) (idle_at q) ∙ by q (at_end ks q) refl
          ∙ sym (at_mapped (λ (e : End) (s : EndState). bare_end s) (seen_ends ws ks) q ∙ ap (option_map bare_end) (seen_at ws ks q))
