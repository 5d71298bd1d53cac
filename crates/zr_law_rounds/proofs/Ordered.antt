-- Texts that are in order stay so as others come behind them.
use Rattle.std.proofs.Common.{◌≡◌, ℕ, ◌+◌, Bool, true, false, cond, List, [], ◌∷◌, ◌++◌, refl, sym, ap, ◌∙◌, subst, arith}
use Rattle.std.specs.declared.cmp.Ordering.{Ordering}
use Rattle.std.specs.declared.cmp.Ordering.TheVariants.{Less, Equal, Greater}
use Rattle.std.specs.Ordering.{is_lt, ordering_reverse}
use Rattle.std.proofs.lemmas.Bool.{false≢true, not-true}
use Rattle.std.proofs.lemmas.Cmp.{nat_list_cmp_total}
use Rattle.zr_orders.specs.Bag.{weigh, AreSame}
use Rattle.zr_orders.specs.Ranked.{put_in, ranked_by, text_cmp, ranked}
use Rattle.zr_orders.proofs.Bag.{weigh-append}
use Rattle.zr_orders.proofs.Ranked.{texts_same}
use Rattle.zr_world_gang.specs.Shares.{is_behind, last_behind}
use Rattle.zr_law_rounds.specs.Ordered.{PartsAreRanked}

-- the first of some texts is not below this one
abbrev pub IsBehind : List ℕ → List (List ℕ) → Type 0
IsBehind last [] = Unit {0}
IsBehind last (u ∷ us) = is_lt (text_cmp u last) ≡ false

-- each text is not below the one before it
abbrev pub AreUp : List (List ℕ) → Type 0
AreUp [] = Unit {0}
AreUp (t ∷ us) = IsBehind t us × AreUp us

-- ---- what is put in order is in order, and has the same texts

not_above : (t u : List ℕ) → is_lt (text_cmp u t) ≡ true → is_lt (text_cmp t u) ≡ false
not_above t u below = by (text_cmp u t) refl below
  where
    by : (o : Ordering) → text_cmp u t ≡ o → is_lt o ≡ true → is_lt (text_cmp t u) ≡ false
    by Less e lt = ap is_lt (nat_list_cmp_total.antisymm t u ∙ ap ordering_reverse e)
    by Equal e lt = absurd (false≢true lt)
    by Greater e lt = absurd (false≢true lt)

-- what stands behind a text does so with one more, which is not below it
behind_put : (t x : List ℕ) (ys : List (List ℕ)) → is_lt (text_cmp x t) ≡ false → IsBehind t ys → IsBehind t (put_in text_cmp x ys)
behind_put t x [] up h = up
behind_put t x (y ∷ ys) up h = by (is_lt (text_cmp y x))
  where
    by : (b : Bool) → IsBehind t (cond b (y ∷ put_in text_cmp x ys) (x ∷ y ∷ ys))
    by true = h
    by false = up

put_up : (x : List ℕ) (ys : List (List ℕ)) → AreUp ys → AreUp (put_in text_cmp x ys)
put_up x [] up = (tt, tt)
put_up x (y ∷ ys) up = by (is_lt (text_cmp y x)) refl (put_up x ys up.1)
  where
    by : (b : Bool) → is_lt (text_cmp y x) ≡ b → AreUp (put_in text_cmp x ys) → AreUp (cond b (y ∷ put_in text_cmp x ys) (x ∷ y ∷ ys))
    by true e rest = (behind_put y x ys (not_above x y e) up.0, rest)
    by false e rest = (e, up)

pub ranked_up : (ts : List (List ℕ)) → AreUp (ranked ts)
ranked_up [] = tt
ranked_up (t ∷ ts) = put_up t (ranked ts) (ranked_up ts)

put_same : (f : List ℕ → ℕ) (x : List ℕ) (ys : List (List ℕ)) → weigh f (put_in text_cmp x ys) ≡ f x + weigh f ys
put_same f x [] = refl
put_same f x (y ∷ ys) = by (is_lt (text_cmp y x)) (put_same f x ys)
  where
    by : (b : Bool) → weigh f (put_in text_cmp x ys) ≡ f x + weigh f ys → weigh f (cond b (y ∷ put_in text_cmp x ys) (x ∷ y ∷ ys)) ≡ f x + weigh f (y ∷ ys)
    by true rest = omega (arith, rest)
    by false rest = refl

pub ranked_same : (ts : List (List ℕ)) → AreSame (ranked ts) ts
ranked_same [] f = refl
ranked_same (t ∷ ts) f = let one = put_same f t (ranked ts) in let rest = ranked_same ts f in omega (arith, one, rest)

-- ---- what is in order stays as it is

up_ranked : (ts : List (List ℕ)) → AreUp ts → ranked ts ≡ ts
up_ranked [] up = refl
up_ranked (t ∷ ts) up = ap (put_in text_cmp t) (up_ranked ts up.1) ∙ front ts up.0
  where
    front : (us : List (List ℕ)) → IsBehind t us → put_in text_cmp t us ≡ t ∷ us
    front [] h = refl
    front (u ∷ us) h = ap (λ b. cond b (u ∷ put_in text_cmp t us) (t ∷ u ∷ us)) h

up_both : (ts us : List (List ℕ)) → AreUp ts → AreUp us → IsBehind (last_behind [] ts) us → AreUp (ts ++ us)
up_both [] us a b h = b
up_both (t ∷ []) us a b h = (h, b)
up_both (t ∷ v ∷ vs) us a b h = (a.0, up_both (v ∷ vs) us a.1 b h)

behind_is : (last : List ℕ) (us : List (List ℕ)) → is_behind last us ≡ true → IsBehind last us
behind_is last [] h = tt
behind_is last (u ∷ us) h = not-true (is_lt (text_cmp u last)) h

pub parts_are_ranked : PartsAreRanked
parts_are_ranked ts us h =
    texts_same (ts ++ us) (ranked ts ++ ranked us) same
    ∙ up_ranked (ranked ts ++ ranked us) (up_both (ranked ts) (ranked us) (ranked_up ts) (ranked_up us) (behind_is (last_behind [] (ranked ts)) (ranked us) h))
  where
    same : AreSame (ts ++ us) (ranked ts ++ ranked us)
    same f =
        let one = weigh-append f ts us in
        let two = weigh-append f (ranked ts) (ranked us) in
        let three = ranked_same ts f in
        let four = ranked_same us f in
        omega (arith, one, two, three, four)

-- what is in order already, once more
pub ranked_twice : (ts : List (List ℕ)) → ranked (ranked ts) ≡ ranked ts
ranked_twice ts = up_ranked (ranked ts) (ranked_up ts)
