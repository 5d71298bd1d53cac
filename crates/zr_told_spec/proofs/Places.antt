-- Places, and what a map holds at a place once an entry was put.
use Rattle.std.proofs.Common.{Less, Equal, Greater, ◌≡◌, Bool, true, false, cond, List, [], ◌∷◌, refl, sym, ap, ◌∙◌, rules, arith}
use Rattle.std.specs.Cmp.{IsTotalOrder, IsEquivalence}
use Rattle.std.specs.Cmp.Rules.{comparing}
use Rattle.std.specs.declared.cmp.Ordering.{Ordering}
use Rattle.std.specs.Ordering.{is_eq, nat_cmp, match_ordering, ordering_then}
use Rattle.std.specs.Cmp.Lexicographic.{slice_cmp}
use Rattle.std.specs.Map.{lookup}
use Rattle.std.specs.BTreeMap.{insert_entry}
use Rattle.std.specs.declared.option.Option.TheVariants.{Some}
use Rattle.std.proofs.lemmas.Map.Lookups.{exact_unsigned, exact_bytes}
use Rattle.std.proofs.lemmas.Cmp.{eq_by_cmp_equiv}
use Rattle.std.proofs.lemmas.Bool.{false≢true}
use Rattle.zr_lists.proofs.Order.{IsExactOrder, is_same}
use Rattle.zr_msg.specs.declared.decl.Decl.{Decl}
use Rattle.zr_msg.specs.declared.decl.Kind.{Kind}
use Rattle.zr_msg.specs.declared.decl.Kind.TheVariants as k
use Rattle.zr_told_spec.specs.Place.{place_cmp, same, class_rank, is_token, token_on}
use Rattle.zr_told_spec.specs.declared.place.Class.{Class}
use Rattle.zr_told_spec.specs.declared.place.Class.TheVariants.{Subscriber, Queryable, Living}
use Rattle.zr_told_spec.specs.declared.place.Place.{Place}

pub rank_is : (a b : Class) → class_rank a ≡ class_rank b → a ≡ b
rank_is Subscriber Subscriber h = refl
rank_is Subscriber Queryable h = absurd (omega arith)
rank_is Queryable Subscriber h = absurd (omega arith)
rank_is Queryable Queryable h = refl
rank_is Subscriber Living h = absurd (omega arith)
rank_is Queryable Living h = absurd (omega arith)
rank_is Living Subscriber h = absurd (omega arith)
rank_is Living Queryable h = absurd (omega arith)
rank_is Living Living h = refl

place_is : (p q : Place) → p.class ≡ q.class → p.key ≡ q.key → p ≡ q
place_is p q c k = λ i. record { class = c i; key = k i }

place_exact : (p q : Place) → place_cmp p q ≡ Equal → p ≡ q
place_exact p q h = by_class (nat_cmp (class_rank p.class) (class_rank q.class)) refl h
  where
    by_class : (r : Ordering) → nat_cmp (class_rank p.class) (class_rank q.class) ≡ r → ordering_then r (slice_cmp nat_cmp p.key q.key) ≡ Equal → p ≡ q
    by_class Less e t = cc
    by_class Equal e t = place_is p q (rank_is p.class q.class (exact_unsigned _ _ e)) (exact_bytes _ _ t)
    by_class Greater e t = cc

pub place_total : IsTotalOrder place_cmp
place_total = search (comparing, rules)

pub place_order : IsExactOrder place_cmp
place_order = record { total = place_total; exact = place_exact }

pub same_equiv : IsEquivalence same
same_equiv = eq_by_cmp_equiv place_total

pub same_is : (p q : Place) → same p q ≡ true → p ≡ q
same_is p q h = is_same place_cmp place_order p q h

pub same_refl : (p : Place) → same p p ≡ true
same_refl p = same_equiv.refl p

pub same_at : (p q : Place) → p ≡ q → same p q ≡ true
same_at p q e = ap (λ z. same p z) (sym e) ∙ same_refl p

-- what was put is found at its place, and all else as before
pub at_put : {X : Type 0} (es : List (Place × X)) (k : Place) (v : X) (p : Place) → lookup (same p) (insert_entry place_cmp es k v) ≡ cond (same p k) (Some v) (lookup (same p) es)
at_put [] k v p = refl
at_put {X} (e ∷ es) k v p = by (place_cmp k e.0) refl (at_put es k v p)
  where
    by : (o : Ordering) → place_cmp k e.0 ≡ o → lookup (same p) (insert_entry place_cmp es k v) ≡ cond (same p k) (Some v) (lookup (same p) es) →
        lookup (same p) (match_ordering o ((k, v) ∷ e ∷ es) ((e.0, v) ∷ es) (e ∷ insert_entry place_cmp es k v)) ≡ cond (same p k) (Some v) (cond (same p e.0) (Some e.1) (lookup (same p) es))
    by Less q ih = refl
    by Equal q ih = tie (same p e.0) (same p k) (ap (λ z. same p z) (sym (same_is k e.0 (ap is_eq q))))
      where
        tie : (s t : Bool) → s ≡ t → cond s (Some v) (lookup (same p) es) ≡ cond t (Some v) (cond s (Some e.1) (lookup (same p) es))
        tie true true h = refl
        tie true false h = cc
        tie false true h = cc
        tie false false h = refl
    by Greater q ih = ap (λ z. cond (same p e.0) (Some e.1) z) ih ∙ apart (same p e.0) refl (same p k) refl
      where
        apart : (s : Bool) → same p e.0 ≡ s → (t : Bool) → same p k ≡ t →
            cond s (Some e.1) (cond t (Some v) (lookup (same p) es)) ≡ cond t (Some v) (cond s (Some e.1) (lookup (same p) es))
        apart true a true b = let f : same k e.0 ≡ true = ap (λ z. same z e.0) (sym (same_is p k b)) ∙ a in
            let g : is_eq Greater ≡ true = ap is_eq (sym q) ∙ f in cc
        apart true a false b = refl
        apart false a true b = refl
        apart false a false b = refl

-- ---- tokens

-- a token is what its key says
pub token_is : (d : Decl) → is_token d.kind ≡ true → token_on d.key ≡ d
token_is d h = by d.kind refl h
  where
    by : (kind : Kind) → d.kind ≡ kind → is_token kind ≡ true → token_on d.key ≡ d
    by k.Sub e h = absurd (false≢true h)
    by k.Able e h = absurd (false≢true h)
    by k.Full e h = absurd (false≢true h)
    by k.Token e h = λ t. record { kind = sym e t; key = d.key }
