-- A chain of nodes, each a child of the one before it, from the root to a client that is asked, is a way.
use Rattle.std.proofs.Common.{◌≡◌, ◌<◌, ◌||◌, Bool, true, false, cond, List, [], ◌∷◌, refl, sym, ap, ◌∙◌, arith}
use Rattle.std.proofs.lemmas.Bool.{false≢true, false_from_ne_true}
use Rattle.zr_law_queries.specs.Query.{Tree, IsTree, has, is_child, IsWay}
use Rattle.zr_law_queries.specs.Courses.{Chain, behind, way_of, ChainsAreWays}
use Rattle.zr_law_queries.proofs.Trees.{has_head, has_tail, same_of}

module _ {N : Type 0} (t : Tree N) (is : IsTree t) (d : N) where
  lower : (ps : List N) (x z : N) → Chain t x ps d → has t ps z ≡ true → t.height z < t.height x
  lower [] x z c k = absurd (false≢true k)
  lower (y ∷ ps) x z c k = by (t.same y z) refl k (lower ps y z c.1)
    where
      by : (b : Bool) → t.same y z ≡ b → (b || has t ps z) ≡ true → (has t ps z ≡ true → t.height z < t.height y) → t.height z < t.height x
      by true e k ih = rw (← is.decides y z e) (is.falls x y c.0)
      by false e k ih = let lt : t.height y < t.height x = is.falls x y c.0 in let less : t.height z < t.height y = ih k in omega (arith, lt, less)

  last : (ps : List N) (x : N) → Chain t x ps d → has t (x ∷ ps) d ≡ true
  last [] x c = ap (λ z. t.same z d || false) c ∙ has_head t is d []
  last (y ∷ ps) x c = has_tail t is x d (y ∷ ps) (last ps y c.1)

  goes : (ps : List N) (x z : N) → Chain t x ps d → has t (x ∷ ps) z ≡ true → t.same z d ≡ false → (is_child t z (behind t x ps z) ≡ true) × (has t (x ∷ ps) (behind t x ps z) ≡ true)
  goes [] x z c k n = by (t.same x z) refl k
    where
      by : (b : Bool) → t.same x z ≡ b → (b || false) ≡ true → (is_child t z z ≡ true) × (has t (x ∷ []) z ≡ true)
      by true e k = absurd (false≢true (sym n ∙ same_of t is z d (sym (is.decides x z e) ∙ c)))
      by false e k = absurd (false≢true k)
  goes (y ∷ ps) x z c k n = by (t.same x z) refl k (goes ps y z c.1)
    where
      by : (b : Bool) → t.same x z ≡ b → (b || has t (y ∷ ps) z) ≡ true → (has t (y ∷ ps) z ≡ true → t.same z d ≡ false → (is_child t z (behind t y ps z) ≡ true) × (has t (y ∷ ps) (behind t y ps z) ≡ true)) →
          (is_child t z (cond b y (behind t y ps z)) ≡ true) × (has t (x ∷ y ∷ ps) (cond b y (behind t y ps z)) ≡ true)
      by true e k ih = (ap (λ j. is_child t j y) (sym (is.decides x z e)) ∙ c.0, has_tail t is x y (y ∷ ps) (has_head t is y ps))
      by false e k ih = ((ih k n).0, has_tail t is x (behind t y ps z) (y ∷ ps) (ih k n).1)

  -- who stands above a node of the chain stands before it
  before : (ps : List N) (x z y : N) → Chain t x ps d → has t ps y ≡ true → is_child t z y ≡ true → (has t (x ∷ ps) z ≡ true) × (behind t x ps z ≡ y)
  before [] x z y c k kid = absurd (false≢true k)
  before (v ∷ ps) x z y c k kid = by (t.same v y) refl k (before ps v z y c.1)
    where
      by : (b : Bool) → t.same v y ≡ b → (b || has t ps y) ≡ true → (has t ps y ≡ true → is_child t z y ≡ true → (has t (v ∷ ps) z ≡ true) × (behind t v ps z ≡ y)) →
          (has t (x ∷ v ∷ ps) z ≡ true) × (cond (t.same x z) v (behind t v ps z) ≡ y)
      by true e k ih =
          let vy : v ≡ y = is.decides v y e in
          let xz : x ≡ z = sym (is.parent x v c.0) ∙ ap t.parent vy ∙ is.parent z y kid in
          (ap (λ j. t.same j z || has t (v ∷ ps) z) xz ∙ has_head t is z (v ∷ ps), ap (λ b. cond b v (behind t v ps z)) (same_of t is x z xz) ∙ vy)
      by false e k ih =
          let got = ih k kid in (
            has_tail t is x z (v ∷ ps) got.0,
            ap (λ b. cond b v (behind t v ps z)) (false_from_ne_true (t.same x z) (λ i.
                let less : t.height z < t.height x = lower (v ∷ ps) x z c got.0 in
                let same : x ≡ z = is.decides x z i in
                let level : t.height x ≡ t.height z = ap (λ j. t.height j) same in
                omega (arith, less, level))) ∙ got.1,
          )

  pub chain_way : {R : Type 0} (ps : List N) (is_own : R → Bool) → t.passes d ≡ false → Chain t t.root ps d → IsWay t (way_of t ps d is_own)
  chain_way ps is_own leaf c = record {
    starts = has_head t is t.root ps;
    ends = last ps t.root c;
    apart = λ x y k o. false_from_ne_true (has t (t.root ∷ ps) y) (λ e. false≢true (sym o ∙ (before ps t.root x y c (in_rest x y k e) k).0));
    goes = λ x o n. (goes ps t.root x c o n).0;
    stays = λ x o n. (goes ps t.root x c o n).1;
    only = λ x y k o. (before ps t.root x y c (in_rest x y k o) k).1;
    leaf = leaf;
  }
    where
      in_rest : (x y : N) → is_child t x y ≡ true → has t (t.root ∷ ps) y ≡ true → has t ps y ≡ true
      in_rest x y k e = go (t.same t.root y) refl e
        where
          go : (b : Bool) → t.same t.root y ≡ b → (b || has t ps y) ≡ true → has t ps y ≡ true
          go true i o = absurd (false≢true (sym (is.top x) ∙ ap (is_child t x) (is.decides t.root y i) ∙ k))
          go false i o = o

pub law : (N R : Type 0) → ChainsAreWays N R
law N R t ps d is_own is leaf c = chain_way t is d ps is_own leaf c
