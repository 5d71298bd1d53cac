-- What one node does keeps the stages sound.
use Rattle.std.proofs.Common.{◌≡◌, ◌<◌, ◌&&◌, ◌||◌, Bool, true, false, cond, List, [], ◌∷◌, sym, ap, ◌∙◌, subst, refl, inr, arith}
use Rattle.std.specs.Prelude.{◌⊎◌}
use Rattle.std.specs.List.{list_all}
use Rattle.std.proofs.lemmas.Bool.{false≢true}
use Rattle.zr_law_queries.specs.Query.{Tree, IsTree, Stage, Here, has, is_child, is_not_yet, is_over, fits, all_over, Sound, moved}

pub has_head : {N : Type 0} (t : Tree N) (is : IsTree t) (y : N) (ys : List N) → has t (y ∷ ys) y ≡ true
has_head t is y ys = ap (λ b. b || has t ys y) (is.itself y)

pub has_tail : {N : Type 0} (t : Tree N) (is : IsTree t) (z y : N) (ys : List N) → has t ys y ≡ true → has t (z ∷ ys) y ≡ true
has_tail t is z y ys h = by (t.same z y)
  where
    by : (b : Bool) → (b || has t ys y) ≡ true
    by true = refl
    by false = h

-- two tests that agree on some nodes
pub all_on : {N : Type 0} (t : Tree N) (is : IsTree t) (p q : N → Bool) (ys : List N) → ((y : N) → has t ys y ≡ true → p y ≡ q y) → list_all p ys ≡ list_all q ys
all_on t is p q [] f = refl
all_on t is p q (y ∷ ys) f = ap (λ b. b && list_all p ys) (f y (has_head t is y ys)) ∙ ap (λ b. q y && b) (all_on t is p q ys (λ z h. f z (has_tail t is y z ys h)))

pub same_of : {N : Type 0} (t : Tree N) (is : IsTree t) (x y : N) → x ≡ y → t.same x y ≡ true
same_of t is x y e = ap (t.same x) (sym e) ∙ is.itself x

-- what has to be known where the stage of x becomes v, and those of its children f
pub record Goes {N R : Type 0} (t : Tree N) (s : N → Stage R) (x : N) (v : Stage R) (f : N → Stage R) : Type 0 where
  pub above : (a : N) → is_child t a x ≡ true → fits (s a) v ≡ true
  pub own : (y : N) → is_child t x y ≡ true → fits v (f y) ≡ true
  pub below : (y : N) → is_child t x y ≡ true → (z : N) → is_child t y z ≡ true → fits (f y) (s z) ≡ true
  pub inside : (x ≡ t.root) ⊎ (is_child t (t.parent x) x ≡ true)
  pub level : is_over v ≡ is_over (s x)
  pub row : t.passes x ≡ true → (rs : List R) (done : Bool) → v ≡ Here rs done → done ≡ all_over f (t.children x)
  pub rows : (y : N) → is_child t x y ≡ true → (rs : List R) (done : Bool) → f y ≡ Here rs done → (old : List R) × (s y ≡ Here old done)

module _ {N : Type 0} (t : Tree N) (is : IsTree t) where
  pub no_loop : (x : N) → is_child t x x ≡ true → ⊥
  no_loop x k = let lt : t.height x < t.height x = is.falls x x k in omega arith

  pub no_cycle : (x y : N) → is_child t x y ≡ true → is_child t y x ≡ true → ⊥
  no_cycle x y k l =
      let lt : t.height y < t.height x = is.falls x y k in
      let gt : t.height x < t.height y = is.falls y x l in
      omega arith

  pub one_parent : (x a y : N) → is_child t x y ≡ true → is_child t a y ≡ true → x ≡ a
  one_parent x a y k l = sym (is.parent x y k) ∙ is.parent a y l

module _ {N R : Type 0} (t : Tree N) (is : IsTree t) (s : N → Stage R) (x : N) (v : Stage R) (f : N → Stage R) where
  pub at_own : (y : N) → is_child t x y ≡ true → moved t s x v f y ≡ f y
  at_own y k = by (t.same x y) refl
    where
      by : (b : Bool) → t.same x y ≡ b → cond b v (cond (is_child t x y) (f y) (s y)) ≡ f y
      by true e = absurd (no_loop t is x (ap (is_child t x) (is.decides x y e) ∙ k))
      by false e = ap (λ b. cond b (f y) (s y)) k

  -- below another node only x has changed
  pub at_other : (a b : N) → t.same x a ≡ false → is_child t a b ≡ true → moved t s x v f b ≡ cond (t.same x b) v (s b)
  at_other a b other k = by (is_child t x b) refl
    where
      by : (c : Bool) → is_child t x b ≡ c → cond (t.same x b) v (cond c (f b) (s b)) ≡ cond (t.same x b) v (s b)
      by true e = absurd (false≢true (sym other ∙ same_of t is x a (one_parent t is x a b e k)))
      by false e = refl

  module _ (h : Sound t s) where
    pub goes_sound : Goes t s x v f → Sound t (moved t s x v f)
    goes_sound g = record {
      fit = λ a b k. fit_at a b k (t.same x a) refl;
      row = λ a p rs done e. row_at a p rs done (t.same x a) refl (is_child t x a) refl e;
      inside = λ a n. inside_at a (t.same x a) refl (is_child t x a) refl n;
    }
      where
        inside_at : (a : N) → (c : Bool) → t.same x a ≡ c → (m : Bool) → is_child t x a ≡ m → is_not_yet (cond c v (cond m (f a) (s a))) ≡ false → (a ≡ t.root) ⊎ (is_child t (t.parent a) a ≡ true)
        inside_at a true e m em n = subst (λ z. (z ≡ t.root) ⊎ (is_child t (t.parent z) z ≡ true)) (is.decides x a e) g.inside
        inside_at a false e true em n = inr (ap (λ z. is_child t z a) (is.parent x a em) ∙ em)
        inside_at a false e false em n = h.inside a n

        same_over : (a b : N) → t.same x a ≡ false → is_child t a b ≡ true → is_over (moved t s x v f b) ≡ is_over (s b)
        same_over a b other k = ap is_over (at_other a b other k) ∙ by (t.same x b) refl
          where
            by : (c : Bool) → t.same x b ≡ c → is_over (cond c v (s b)) ≡ is_over (s b)
            by true e = g.level ∙ ap (λ z. is_over (s z)) (is.decides x b e)
            by false e = refl

        fit_at : (a b : N) → is_child t a b ≡ true → (c : Bool) → t.same x a ≡ c → fits (cond c v (cond (is_child t x a) (f a) (s a))) (moved t s x v f b) ≡ true
        fit_at a b k true e =
            let xa : x ≡ a = is.decides x a e in
            let kid : is_child t x b ≡ true = ap (λ z. is_child t z b) xa ∙ k in
            ap (fits v) (at_own b kid) ∙ g.own b kid
        fit_at a b k false e = ap (fits (cond (is_child t x a) (f a) (s a))) (at_other a b e k) ∙ by (is_child t x a) refl (t.same x b) refl
          where
            by : (m : Bool) → is_child t x a ≡ m → (n : Bool) → t.same x b ≡ n → fits (cond m (f a) (s a)) (cond n v (s b)) ≡ true
            by true em true en = absurd (no_cycle t is x a em (ap (is_child t a) (is.decides x b en) ∙ k))
            by true em false en = g.below a em b k
            by false em true en = g.above a (ap (is_child t a) (is.decides x b en) ∙ k)
            by false em false en = h.fit a b k

        row_at : (a : N) → t.passes a ≡ true → (rs : List R) (done : Bool) → (c : Bool) → t.same x a ≡ c → (m : Bool) → is_child t x a ≡ m → cond c v (cond m (f a) (s a)) ≡ Here rs done → done ≡ all_over (moved t s x v f) (t.children a)
        row_at a p rs done true e m em i =
            let xa : x ≡ a = is.decides x a e in
            g.row (ap t.passes xa ∙ p) rs done i
            ∙ all_on t is (λ y. is_over (f y)) (λ y. is_over (moved t s x v f y)) (t.children x) (λ y k. ap is_over (sym (at_own y k)))
            ∙ ap (λ z. all_over (moved t s x v f) (t.children z)) xa
        row_at a p rs done false e true em i =
            let old = g.rows a em rs done i in
            h.row a p old.0 done old.1 ∙ all_on t is (λ y. is_over (s y)) (λ y. is_over (moved t s x v f y)) (t.children a) (λ y k. sym (same_over a y e k))
        row_at a p rs done false e false em i =
            h.row a p rs done i ∙ all_on t is (λ y. is_over (s y)) (λ y. is_over (moved t s x v f y)) (t.children a) (λ y k. sym (same_over a y e k))
