-- What a tree of chunks holds, level by level.
use Rattle.std.proofs.Common.{◌≡◌, ℕ, ◌+◌, Bool, true, false, cond, List, [], ◌∷◌, ◌++◌, map, refl, sym, ap, ◌∙◌, arith}
use Rattle.std.specs.List.{sum_by}
use Rattle.std.proofs.lemmas.List.Sums.{sum_by-cons, sum_by-append}
use Rattle.zr_index.specs.Pairs.{Pairs, pairs, pairs_step, behind, below, is_of, weigh_below}
use Rattle.zr_index.specs.declared.node.Node.{Node}
use Rattle.zr_index.specs.declared.node.Node.TheOpen.{Node-F}
use Rattle.zr_index.specs.declared.node.Node.TheViews.{out-Node, roll-Node}
use Rattle.zr_index.specs.declared.node.Node.TheFolds.{fold-roll-Node, fold_out-Node}

-- the weight of a pair that stands below a chunk of one kind
abbrev pub guarded : {V : Type 0} → Bool → (List (List ℕ) × V → ℕ) → List ℕ → List (List ℕ) × V → ℕ
guarded plain f chunk p = cond (is_of plain chunk) (f (chunk ∷ p.0, p.1)) 0

sum_map : {A B : Type 0} (f : B → ℕ) (h : A → B) (xs : List A) → sum_by f (map h xs) ≡ sum_by (λ x. f (h x)) xs
sum_map f h [] = refl
sum_map f h (x ∷ xs) = omega (arith, sum_map f h xs, sum_by-cons f (h x) (map h xs), sum_by-cons (λ x. f (h x)) x xs)

sum_zero : {A : Type 0} (xs : List A) → sum_by (λ x. 0) xs ≡ 0
sum_zero [] = refl
sum_zero (x ∷ xs) = omega (arith, sum_zero xs, sum_by-cons (λ x. 0) x xs)

module _ {V K : Type 0} (text : K → List ℕ) (f : List (List ℕ) × V → ℕ) (plain : Bool) where
  one_below : (b : Bool) (c : List ℕ) (ps : Pairs V) → sum_by f (cond b (behind c ps) []) ≡ sum_by (λ p. cond b (f (c ∷ p.0, p.1)) 0) ps
  one_below true c ps = sum_map f (λ p. (c ∷ p.0, p.1)) ps
  one_below false c ps = sym (sum_zero ps)

  sum_below : (es : List (K × Node V)) → sum_by f (below text plain (map (λ e. (e.0, pairs e.1)) es)) ≡ weigh_below (λ k. guarded plain f (text k)) es
  sum_below [] = refl
  sum_below (e ∷ es) =
      omega (
        arith,
        sum_below es,
        one_below (is_of plain (text e.0)) (text e.0) (pairs e.1),
        sum_by-append f (cond (is_of plain (text e.0)) (behind (text e.0) (pairs e.1)) []) (below text plain (map (λ e. (e.0, pairs e.1)) es)),
        sum_by-cons (λ (e : K × Node V). sum_by (guarded plain f (text e.0)) (pairs e.1)) e es,
      )

-- the weight of one level
abbrev pub level : {V : Type 0} → (List (List ℕ) × V → ℕ) → Node-F V (Node V) → ℕ
level f x = sum_by (λ v. f ([], v)) x.values.items + (weigh_below (λ k. guarded true f k.items) x.plain.entries + weigh_below (λ k. guarded false f k.items) x.wild.entries)

level_is : {V : Type 0} (f : List (List ℕ) × V → ℕ) (x : Node-F V (Node V)) →
    sum_by f (map (λ v. ([], v)) x.values.items
    ++ (below (λ k. k.items) true (map (λ e. (e.0, pairs e.1)) x.plain.entries) ++ below (λ k. k.items) false (map (λ e. (e.0, pairs e.1)) x.wild.entries))) ≡ level f x
level_is f x = omega (
  arith,
  sum_by-append f (map (λ v. ([], v)) x.values.items) (below (λ k. k.items) true (map (λ e. (e.0, pairs e.1)) x.plain.entries) ++ below (λ k. k.items) false (map (λ e. (e.0, pairs e.1)) x.wild.entries)),
  sum_by-append f (below (λ k. k.items) true (map (λ e. (e.0, pairs e.1)) x.plain.entries)) (below (λ k. k.items) false (map (λ e. (e.0, pairs e.1)) x.wild.entries)),
  sum_map f (λ v. ([], v)) x.values.items,
  sum_below (λ k. k.items) f true x.plain.entries,
  sum_below (λ k. k.items) f false x.wild.entries,
)

pub weigh_roll : {V : Type 0} (f : List (List ℕ) × V → ℕ) (x : Node-F V (Node V)) → sum_by f (pairs (roll-Node V x)) ≡ level f x
weigh_roll {V = V} f x = ap (sum_by f) (fold-roll-Node V (Pairs V) pairs_step x) ∙ level_is f x

pub weigh_out : {V : Type 0} (f : List (List ℕ) × V → ℕ) (n : Node V) → sum_by f (pairs n) ≡ level f (out-Node V n)
weigh_out {V = V} f n = ap (sum_by f) (fold_out-Node V (Pairs V) pairs_step n) ∙ level_is f (out-Node V n)
