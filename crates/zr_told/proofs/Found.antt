-- A search through two lists, one after the other, and what is kept of both; and places that are the same.
use Rattle.std.proofs.Common.{◌≡◌, ◌&&◌, ◌||◌, ◌++◌, ℕ, Bool, true, false, List, [], ◌∷◌, Ordering, Less, Equal, Greater, filter, refl, sym, ap, ◌∙◌}
use Rattle.std.specs.declared.option.Option.TheVariants.{None}
use Rattle.std.specs.Cmp.Lexicographic.{slice_cmp}
use Rattle.std.specs.List.{list_any}
use Rattle.std.specs.Ordering.{is_eq, nat_cmp, ordering_then}
use Rattle.std.specs.Str.{bytes_eq}
use Rattle.std.proofs.lemmas.Bool.{or_from, true≢false}
use Rattle.std.proofs.lemmas.List.Elements.{filter-append}
use Rattle.std.proofs.lemmas.List.Folds.{list_any-append}
use Rattle.std.proofs.lemmas.Map.Text.{is_eq-slice_cmp}
use Rattle.zr_msg.specs.declared.decl.Decl.{Decl}
use Rattle.zr_msg.specs.declared.decl.Kind.{Kind}
use Rattle.zr_msg.specs.declared.decl.Kind.TheVariants.{Sub, Able, Full, Token}
use Rattle.zr_node_spec.specs.Queries.{is_complete}
use Rattle.zr_told_spec.specs.Place.{class_of, class_rank, place_of, same}
use Rattle.zr_told_spec.specs.declared.place.Class.{Class}
use Rattle.zr_told_spec.specs.declared.place.Class.TheVariants.{Subscriber, Queryable, Living}
use Rattle.zr_told_spec.specs.declared.place.Place.{Place}
use Rattle.zr_told.specs.Plan.{is_sought, may_be_complete}

-- std's lemmas, under names that an attribute can carry
pub any_append : {X : Type 0} (f : X → Bool) (xs ys : List X) → list_any f (xs ++ ys) ≡ (list_any f xs || list_any f ys)
any_append f xs ys = list_any-append f xs ys

pub kept_append : {X : Type 0} (f : X → Bool) (xs ys : List X) → filter f (xs ++ ys) ≡ filter f xs ++ filter f ys
kept_append f xs ys = filter-append f xs ys

-- ---- places

-- places are the same where their classes are, and the bytes of their keys
pub same_by : (p : Place) (class : Class) (key : List ℕ) → same p (record { class = class; key = key }) ≡ (is_eq (nat_cmp (class_rank p.class) (class_rank class)) && bytes_eq p.key key)
same_by p class key = by (nat_cmp (class_rank p.class) (class_rank class))
  where
    by : (o : Ordering) → is_eq (ordering_then o (slice_cmp nat_cmp p.key key)) ≡ (is_eq o && bytes_eq p.key key)
    by Less = refl
    by Equal = is_eq-slice_cmp p.key key
    by Greater = refl

-- no subscriber is complete, and no token
pub complete_if : (ds : List Decl) (p : Place) → (may_be_complete p.class && list_any (is_sought None p) ds) ≡ list_any (is_sought None p) ds
complete_if ds p = by p.class refl
  where
    and_no : (b : Bool) → (b && false) ≡ false
    and_no true = refl
    and_no false = refl

    other : (d : Decl) (k : Kind) (c : Class) → d.kind ≡ k → p.class ≡ c → may_be_complete c ≡ false → is_sought None p d ≡ false
    other d Sub c k e n = ap (λ z. same p (place_of d) && is_complete z) k ∙ and_no (same p (place_of d))
    other d Able c k e n = ap (λ z. same p (place_of d) && is_complete z) k ∙ and_no (same p (place_of d))
    other d Token c k e n = ap (λ z. same p (place_of d) && is_complete z) k ∙ and_no (same p (place_of d))
    other d Full c k e n = ap (λ z. z && is_complete d.kind) (same_by p (class_of d.kind) d.key ∙ ap (λ z. is_eq (nat_cmp (class_rank z) (class_rank (class_of d.kind))) && bytes_eq p.key d.key) e
        ∙ ap (λ z. is_eq (nat_cmp (class_rank c) (class_rank (class_of z))) && bytes_eq p.key d.key) k ∙ apart c n)
      where
        apart : (c : Class) → may_be_complete c ≡ false → (is_eq (nat_cmp (class_rank c) 1) && bytes_eq p.key d.key) ≡ false
        apart Subscriber n = refl
        apart Queryable n = absurd (true≢false n)
        apart Living n = refl

    none : (c : Class) → p.class ≡ c → may_be_complete c ≡ false → (es : List Decl) → list_any (is_sought None p) es ≡ false
    none c e n [] = refl
    none c e n (d ∷ es) = or_from (is_sought None p d) (list_any (is_sought None p) es) (other d d.kind c refl e n) (none c e n es)

    by : (c : Class) → p.class ≡ c → (may_be_complete p.class && list_any (is_sought None p) ds) ≡ list_any (is_sought None p) ds
    by Queryable e = ap (λ z. may_be_complete z && list_any (is_sought None p) ds) e
    by Subscriber e = ap (λ z. may_be_complete z && list_any (is_sought None p) ds) e ∙ sym (none Subscriber e refl ds)
    by Living e = ap (λ z. may_be_complete z && list_any (is_sought None p) ds) e ∙ sym (none Living e refl ds)
