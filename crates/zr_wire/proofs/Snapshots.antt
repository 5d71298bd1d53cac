-- A snapshot of a set that isn't too heavy has a spelling: its declarations ascend, and what is written of each is no longer than what it weighs.
use Rattle.std.proofs.Common.{◌≡◌, ℕ, ◌^◌, ◌<◌, ◌≤◌, ◌&&◌, true, List, [], ◌∷◌, ◌++◌, length, Some, None, Ordering, Less, inl, inr, refl, ap, ◌∙◌, arith}
use Rattle.std.specs.List.{AllByRecursion, flat_map}
use Rattle.std.specs.Cmp.Lexicographic.{slice_cmp}
use Rattle.std.specs.Ordering.{is_lt, nat_cmp}
use Rattle.std.proofs.lemmas.List.{length-append}
use Rattle.std.proofs.lemmas.List.Sums.{sum_by-cons}
use Rattle.std.proofs.lemmas.Map.Keys.{sorted_head, sorted_tail}
use Rattle.zr_bytes.specs.Number.{writes}
use Rattle.zr_bytes.specs.Text.{writes_text}
use Rattle.zr_bytes.proofs.Numbers.{written_long}
use Rattle.zr_msg.specs.Decl.{decl_cmp}
use Rattle.zr_msg.specs.declared.decl.Decl.{Decl}
use Rattle.zr_msg.specs.declared.decl.Kind.{Kind}
use Rattle.zr_msg.specs.declared.decl.Kind.TheVariants as kind
use Rattle.zr_msg.specs.declared.msg.Msg.{Msg}
use Rattle.zr_msg.specs.declared.msg.Msg.TheVariants.{Sub, Unsub, Token, Untoken, Able, Unable, Interest, EndInterest, ToldSub, ToldAble, ToldUnsub, ToldToken, ToldUntoken, ToldUnable, ToldEnd, Push, Request, Response, Final, State, Step, Snap}
use Rattle.zr_oam.proofs.Keys.{zid_small}
use Rattle.zr_oam.specs.Oam.{decl_before}
use Rattle.zr_oam.specs.Writing.{writes_decl, writes_snap, decls_in_order}
use Rattle.zr_log_set.specs.Decls.{IsSet, decl_weight, weight, most_weight}
use Rattle.zr_wire.specs.Writing.{IsSpelled}
use Rattle.zr_wire.specs.Writable.{IsLightSnap, IsSourced, IsWritable}

-- ---- the order on the wire is that of sets

-- by the kinds, and then by the keys
before_so : (a b : Kind) (r : Ordering) (x y : List ℕ) → slice_cmp nat_cmp x y ≡ r → decl_cmp (record { kind = a; key = x }) (record { kind = b; key = y }) ≡ Less →
    decl_before (record { kind = a; key = x }) (record { kind = b; key = y }) ≡ true
before_so kind.Sub kind.Sub r x y e h = ap is_lt h
before_so kind.Sub kind.Able r x y e h = refl
before_so kind.Sub kind.Full r x y e h = refl
before_so kind.Sub kind.Token r x y e h = refl
before_so kind.Able kind.Sub r x y e h = cc
before_so kind.Able kind.Able r x y e h = ap is_lt h
before_so kind.Able kind.Full r x y e h = refl
before_so kind.Able kind.Token r x y e h = refl
before_so kind.Full kind.Sub r x y e h = cc
before_so kind.Full kind.Able r x y e h = cc
before_so kind.Full kind.Full r x y e h = ap is_lt h
before_so kind.Full kind.Token r x y e h = refl
before_so kind.Token kind.Sub r x y e h = cc
before_so kind.Token kind.Able r x y e h = cc
before_so kind.Token kind.Full r x y e h = cc
before_so kind.Token kind.Token r x y e h = ap is_lt h

before_is : (a b : Decl) → decl_cmp a b ≡ Less → decl_before a b ≡ true
before_is a b h = before_so a.kind b.kind (slice_cmp nat_cmp a.key b.key) a.key b.key refl h

behind_one : (d : Decl) (ds : List Decl) → AllByRecursion (λ e. decl_cmp d e ≡ Less) ds → IsSet ds → decls_in_order (Some d) ds ≡ true
behind_one d [] less up = refl
behind_one d (e ∷ ds) less up =
    ap (λ b. b && decls_in_order (Some e) ds) (before_is d e less.0) ∙ behind_one e ds (sorted_head decl_cmp e ds up) (sorted_tail decl_cmp e ds up)

in_order : (ds : List Decl) → IsSet ds → decls_in_order None ds ≡ true
in_order [] up = refl
in_order (d ∷ ds) up = behind_one d ds (sorted_head decl_cmp d ds up) (sorted_tail decl_cmp d ds up)

-- ---- how long it is

decl_long : (d : Decl) → length (writes_decl d) ≤ decl_weight d
decl_long d = omega (arith, length-append (writes (length d.key)) d.key, written_long 8 (length d.key))

pub decls_long : (ds : List Decl) → length (flat_map (λ d. writes_decl d) ds) ≤ weight ds
decls_long [] = omega arith
decls_long (d ∷ ds) =
    omega (arith, length-append (writes_decl d) (flat_map (λ e. writes_decl e) ds), decl_long d, decls_long ds, sum_by-cons decl_weight d ds)

decls_few : (ds : List Decl) → length ds ≤ weight ds
decls_few [] = omega arith
decls_few (d ∷ ds) = omega (arith, decls_few ds, sum_by-cons decl_weight d ds)

snap_long : (source : List ℕ) (number : ℕ) (ds : List Decl) → length source ≤ 255 → weight ds ≤ most_weight → length (writes_snap source number ds) < 2 ^ 32
snap_long source number ds short light =
    let all : List ℕ = flat_map (λ d. writes_decl d) ds in
    omega (
      arith,
      length-append (0 ∷ (writes_text source ++ writes number)) (writes (length ds) ++ all),
      length-append (writes_text source) (writes number),
      length-append (writes (length source)) source,
      length-append (writes (length ds)) all,
      written_long 8 (length source),
      written_long 8 number,
      written_long 8 (length ds),
      decls_long ds,
      short,
      light,
    )

-- ---- a message that may be written has a spelling

light_spelled : (m : Msg) → IsLightSnap m → IsSourced m → IsSpelled m
light_spelled (Snap source number decls) h s =
    (h.0, (let few = decls_few decls in omega (arith, few, h.2)), in_order decls h.1, snap_long source number decls (zid_small source s) h.2)
light_spelled (Sub id key) h s = absurd h
light_spelled (Unsub id) h s = absurd h
light_spelled (Token id key) h s = absurd h
light_spelled (Untoken id) h s = absurd h
light_spelled (Able id key complete) h s = absurd h
light_spelled (Unable id) h s = absurd h
light_spelled (Interest id current future kinds key aggregate) h s = absurd h
light_spelled (EndInterest id) h s = absurd h
light_spelled (ToldSub id key interest) h s = absurd h
light_spelled (ToldToken id key interest) h s = absurd h
light_spelled (ToldAble id key complete interest) h s = absurd h
light_spelled (ToldUnsub id) h s = absurd h
light_spelled (ToldUntoken id) h s = absurd h
light_spelled (ToldUnable id) h s = absurd h
light_spelled (ToldEnd interest) h s = absurd h
light_spelled (Push tree content) h s = absurd h
light_spelled (Request tree id target content) h s = absurd h
light_spelled (Response id content) h s = absurd h
light_spelled (Final id extras) h s = absurd h
light_spelled (State links) h s = absurd h
light_spelled (Step source number added decl) h s = absurd h

pub writable_spelled : (m : Msg) → IsWritable m → IsSourced m → IsSpelled m
writable_spelled m (inl h) s = h
writable_spelled m (inr h) s = light_spelled m h s
