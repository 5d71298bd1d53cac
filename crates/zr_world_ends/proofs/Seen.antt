-- Ends as they are seen through a carrier: what a look-up finds, and what is kept of them.
use Rattle.std.proofs.Common.{◌≡◌, ℕ, Bool, true, false, cond, List, [], ◌∷◌, map, filter, Option, Some, None, refl, sym, ap, ◌∙◌, subst}
use Rattle.std.specs.Prelude.{◌&&◌}
use Rattle.std.specs.List.{reduce}
use Rattle.std.specs.List.Sorted.{IsStrictlySortedBy}
use Rattle.std.specs.Map.{keys_of}
use Rattle.std.specs.Option.{option_map}
use Rattle.zr_id.specs.Zid.{is_named}
use Rattle.zr_msg.specs.declared.msg.Msg.{Msg}
use Rattle.zr_msg.specs.declared.peer.Role.{Role}
use Rattle.zr_carrier.specs.Wire.{Wire, Wires, Sets}
use Rattle.zr_world_spec.specs.World.{EndState, End, Ends, end_cmp, is_end, end_of}
use Rattle.zr_world_spec.specs.Next.{lesser, first_where}
use Rattle.zr_world_spec.proofs.Ends.{end_parts}
use Rattle.zr_world_ends.specs.declared.kind.WireKind.{WireKind}
use Rattle.zr_world_ends.specs.Carried.{messages, seen, seen_ends, AreOnWires, IsWireIf, IsAtWire, AreCarried, neighbour_role}
use Rattle.zr_world_ends.specs.Kept.{KeptEnd, KeptEnds, kept, kept_ends, kind_of, kinds_of}
use Rattle.zr_world_ends.specs.Named.{at_end, first_at}
use Rattle.zr_world_ends.proofs.Same.{same_sorted, at_mapped, keys_mapped}

-- ---- the two ends of a link

pub turned_is : (a b : End) → is_end (a.1, a.0) (b.1, b.0) ≡ is_end a b
turned_is a b = end_parts (a.1, a.0) (b.1, b.0) ∙ swap (is_named a.1 b.1) (is_named a.0 b.0) ∙ sym (end_parts a b)
  where
    swap : (x y : Bool) → (x && y) ≡ (y && x)
    swap true true = refl
    swap true false = refl
    swap false true = refl
    swap false false = refl

-- a wire that is set, by the end at which it arrives
pub set_wire : (e : End) (v : Option Wire) (ws ws' : Wires) → Sets e.1 e.0 v ws ws' → (q : End) → ws' q.1 q.0 ≡ cond (is_end e q) v (ws q.1 q.0)
set_wire e v ws ws' h q = h q.1 q.0 ∙ ap (λ b. cond b v (ws q.1 q.0)) (turned_is e q)

-- ---- look-ups

pub seen_at : (ws : Wires) (ks : KeptEnds) (q : End) → end_of (seen_ends ws ks) q ≡ option_map (λ k. seen k (ws q.1 q.0)) (at_end ks q)
seen_at ws ks q = at_mapped (λ (e : End) (k : KeptEnd). seen k (ws e.1 e.0)) ks q

pub keys_seen : (ws : Wires) (ks : KeptEnds) → keys_of (seen_ends ws ks) ≡ keys_of ks
keys_seen ws ks = keys_mapped (λ (e : End) (k : KeptEnd). seen k (ws e.1 e.0)) ks

pub sorted_seen : (ws : Wires) (ks : KeptEnds) → IsStrictlySortedBy end_cmp (keys_of ks) → IsStrictlySortedBy end_cmp (keys_of (seen_ends ws ks))
sorted_seen ws ks h = subst (IsStrictlySortedBy end_cmp) (sym (keys_seen ws ks)) h

-- ends with these look-ups are what is seen
pub same_seen : (ws : Wires) (ks : KeptEnds) (es : Ends) → IsStrictlySortedBy end_cmp (keys_of ks) → IsStrictlySortedBy end_cmp (keys_of es) →
    ((q : End) → option_map (λ k. seen k (ws q.1 q.0)) (at_end ks q) ≡ end_of es q) → seen_ends ws ks ≡ es
same_seen ws ks es sorted sorted' h = same_sorted (seen_ends ws ks) es (sorted_seen ws ks sorted) sorted' (λ q. seen_at ws ks q ∙ h q)

-- ---- what is on the wires

pub on_wires : (ws : Wires) (ks : KeptEnds) → AreOnWires ws (seen_ends ws ks)
on_wires ws ks x y s found unbroken = by (at_end ks (x, y)) (sym (seen_at ws ks (x, y)) ∙ found)
  where
    on : (b : Bool) → b ≡ true → cond b (messages (ws y x)) [] ≡ messages (ws y x)
    on true e = refl
    on false e = absurd (cc)

    by : (o : Option KeptEnd) → option_map (λ k. seen k (ws y x)) o ≡ Some s → s.wire ≡ messages (ws y x)
    by None e = absurd (cc)
    by (Some k) e =
        let is : seen k (ws y x) ≡ s = cc in
        ap (λ (z : EndState). z.wire) (sym is) ∙ on k.unbroken (ap (λ (z : EndState). z.unbroken) is ∙ unbroken)

-- ---- what is kept

kinds_same : (waiting : List (Msg × ℕ)) → kinds_of (map (λ x. record { msg = x.0; tag = x.1 }) waiting) ≡ map (λ x. kind_of x.0) waiting
kinds_same [] = refl
kinds_same (x ∷ xs) = ap (λ z. kind_of x.0 ∷ z) (kinds_same xs)

-- of an end that is seen the same is kept
pub kept_seen : (role : Role) (k : KeptEnd) (wire : Option Wire) → IsAtWire role k wire → kept (seen k wire) ≡ k
kept_seen role k wire h = ap (λ (z : List WireKind). record { up = k.up; unbroken = k.unbroken; queue = k.queue; kinds = z; weight = k.weight }) (by k.unbroken wire h)
  where
    by : (b : Bool) (w : Option Wire) → IsWireIf role k.kinds w b → kinds_of (cond b (messages w) []) ≡ k.kinds
    by true None h = absurd h
    by true (Some w) h = kinds_same w.waiting ∙ sym h.1
    by false w h = sym h

pub kept_found : (ws : Wires) (ks : KeptEnds) (q : End) → AreCarried ws ks → at_end ks q ≡ option_map kept (end_of (seen_ends ws ks) q)
kept_found ws ks q h = by (at_end ks q) refl ∙ sym (ap (λ o. option_map kept o) (seen_at ws ks q))
  where
    by : (o : Option KeptEnd) → at_end ks q ≡ o → o ≡ option_map kept (option_map (λ k. seen k (ws q.1 q.0)) o)
    by None e = refl
    by (Some k) e = ap (λ z. Some z) (sym (kept_seen (neighbour_role ks q) k (ws q.1 q.0) (h.carried q.0 q.1 k e)))

pub kept_all : (ws : Wires) (ks : KeptEnds) → AreCarried ws ks → ks ≡ kept_ends (seen_ends ws ks)
kept_all ws ks h =
    same_sorted ks (kept_ends (seen_ends ws ks)) h.ordered
    (subst (IsStrictlySortedBy end_cmp) (sym (keys_mapped (λ (e : End) (s : EndState). kept s) (seen_ends ws ks) ∙ keys_seen ws ks)) h.ordered)
    (λ q. kept_found ws ks q h ∙ sym (at_mapped (λ (e : End) (s : EndState). kept s) (seen_ends ws ks) q))

-- ---- the first end that passes a test

where_same : (test : KeptEnd → Bool) (test' : EndState → Bool) → ((s : EndState) → test (kept s) ≡ test' s) → (es : Ends) →
    map (λ x. x.0) (filter (λ x. test x.1) (kept_ends es)) ≡ map (λ x. x.0) (filter (λ x. test' x.1) es)
where_same test test' h [] = refl
where_same test test' h (e ∷ es) = by (test' e.1) (h e.1) (where_same test test' h es)
  where
    rest : List End
    rest = map (λ x. x.0) (filter (λ x. test x.1) (kept_ends es))

    rest' : List End
    rest' = map (λ x. x.0) (filter (λ x. test' x.1) es)

    by : (b : Bool) → test (kept e.1) ≡ b → rest ≡ rest' →
        map (λ x. x.0) (cond (test (kept e.1)) ((e.0, kept e.1) ∷ filter (λ x. test x.1) (kept_ends es)) (filter (λ x. test x.1) (kept_ends es)))
        ≡ map (λ x. x.0) (cond b (e ∷ filter (λ x. test' x.1) es) (filter (λ x. test' x.1) es))
    by true n ih = rw n (ap (λ z. e.0 ∷ z) ih)
    by false n ih = rw n ih

pub first_same : (test : KeptEnd → Bool) (test' : EndState → Bool) → ((s : EndState) → test (kept s) ≡ test' s) → (ws : Wires) (ks : KeptEnds) → AreCarried ws ks →
    first_at test ks ≡ first_where test' (seen_ends ws ks)
first_same test test' h ws ks c = ap (λ (z : KeptEnds). first_at test z) (kept_all ws ks c) ∙ ap (λ es. reduce lesser es) (where_same test test' h (seen_ends ws ks))
