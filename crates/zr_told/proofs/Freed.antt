-- Which ids are in use once one was given or freed.
use Rattle.std.proofs.Common.{length, Less, Equal, Greater, ◌≡◌, ℕ, ◌+◌, ◌<◌, ◌≤◌, ◌==◌, ◌&&◌, ◌||◌, not, Bool, true, false, List, [], ◌∷◌, refl, sym, ap, ◌∙◌, subst, arith}
use Rattle.std.specs.Prelude.{nat_le, nat_lt, slice_get}
use Rattle.std.specs.declared.option.Option.TheVariants.{Some}
use Rattle.std.proofs.lemmas.Option.{none-some, same_Some}
use Rattle.std.specs.declared.cmp.Ordering.{Ordering}
use Rattle.std.specs.Ordering.{is_eq, is_gt, nat_cmp, match_ordering}
use Rattle.std.specs.List.{AllByRecursion}
use Rattle.std.specs.BTreeSet.{insert_key}
use Rattle.std.proofs.lemmas.Bool.{eqb-true, eqb-false, false_from_ne_true, true≢false, false≢true}
use Rattle.zr_told_spec.specs.Ids.{IsLeast}
use Rattle.zr_told.specs.Ids.{IdsState, is_freed, is_given, AreIds}
use Rattle.zr_told_spec.proofs.Free.{least_is_one}

-- where none below a number is freed, and it is freed or the next one, it is the least
pub least_freed : (s : IdsState) (f : ℕ) (rest : List ℕ) → AreIds s → s.freed ≡ f ∷ rest → ((k : ℕ) → is_freed s.freed k ≡ true → is_gt (nat_cmp f k) ≡ false) → IsLeast (is_given s) f
least_freed s f rest a e low =
    let r : AllByRecursion (λ k. (1 ≤ k) × (k < s.next)) (f ∷ rest) = subst (λ z. AllByRecursion (λ k. (1 ≤ k) × (k < s.next)) z) e a.freed in
    record {
      positive = r.0.0;
      free = ap (λ z. (nat_le 1 f && nat_lt f s.next) && not (is_freed z f)) e ∙ at_head;
      least = λ k le lt. given k le (omega (arith, r.0.1, lt)) (false_from_ne_true _ (λ t. absurd (true≢false (sym (greater k lt) ∙ low k t))));
    }
  where
    itself : is_eq (nat_cmp f f) ≡ true
    itself = grind arith

    at_head : ((nat_le 1 f && nat_lt f s.next) && not (is_eq (nat_cmp f f) || is_freed rest f)) ≡ false
    at_head = rw itself (grind arith)

    greater : (k : ℕ) → k < f → is_gt (nat_cmp f k) ≡ true
    greater k lt = grind arith

    given : (k : ℕ) → 1 ≤ k → k < s.next → is_freed s.freed k ≡ false → is_given s k ≡ true
    given k le lt n = rw n (grind arith)

pub least_next : (s : IdsState) → AreIds s → s.freed ≡ [] → IsLeast (is_given s) s.next
least_next s a e = record {
  positive = a.from;
  free = above;
  least = λ k le lt. below k le lt;
}
  where
    above : ((nat_le 1 s.next && nat_lt s.next s.next) && not (is_freed s.freed s.next)) ≡ false
    above = grind arith

    below : (k : ℕ) → 1 ≤ k → k < s.next → is_given s k ≡ true
    below k le lt = rw e (grind arith)

-- the least freed one comes into use again
pub given_freed : (s : IdsState) (f : ℕ) (rest : List ℕ) (k : ℕ) → AreIds s → s.freed ≡ f ∷ rest → is_freed rest f ≡ false →
    is_given (record { next = s.next; freed = rest }) k ≡ (f == k || is_given s k)
given_freed s f rest k a e n =
    let r : AllByRecursion (λ k. (1 ≤ k) × (k < s.next)) (f ∷ rest) = subst (λ z. AllByRecursion (λ k. (1 ≤ k) × (k < s.next)) z) e a.freed in
    by (f == k) refl r.0
  where
    by : (b : Bool) → (f == k) ≡ b → (1 ≤ f) × (f < s.next) → is_given (record { next = s.next; freed = rest }) k ≡ (b || is_given s k)
    by true q r = let i : f ≡ k = eqb-true f k q in let m : is_freed rest k ≡ false = ap (is_freed rest) (sym i) ∙ n in rw m (grind arith)
    by false q r = let t : is_eq (nat_cmp k f) ≡ false = grind (arith, eqb-false f k q) in rw (e, t) refl

-- the next one comes into use
pub given_next : (s : IdsState) (k : ℕ) → AreIds s → s.freed ≡ [] → is_given (record { next = s.next + 1; freed = [] }) k ≡ (s.next == k || is_given s k)
given_next s k a e = let p = a.from in rw e (grind arith)

-- a freed one is not in use
freed_insert : (fs : List ℕ) (id k : ℕ) → is_freed (insert_key nat_cmp fs id) k ≡ (id == k || is_freed fs k)
freed_insert [] id k = grind arith
freed_insert (f ∷ fs) id k = by (nat_cmp id f) refl (freed_insert fs id k)
  where
    by : (o : Ordering) → nat_cmp id f ≡ o → is_freed (insert_key nat_cmp fs id) k ≡ (id == k || is_freed fs k) →
        is_freed (match_ordering o (id ∷ f ∷ fs) (f ∷ fs) (f ∷ insert_key nat_cmp fs id)) k ≡ (id == k || (is_eq (nat_cmp k f) || is_freed fs k))
    by Less q ih = grind arith
    by Equal q ih = grind arith
    by Greater q ih = rw ih (grind arith)

pub given_without : (s : IdsState) (id k : ℕ) → is_given (record { next = s.next; freed = insert_key nat_cmp s.freed id }) k ≡ (is_given s k && not (id == k))
given_without s id k = ap (λ z. (nat_le 1 k && nat_lt k s.next) && not z) (freed_insert s.freed id k) ∙ by (nat_le 1 k && nat_lt k s.next) (id == k) (is_freed s.freed k)
  where
    by : (r a b : Bool) → (r && not (a || b)) ≡ ((r && not b) && not a)
    by true true true = refl
    by true true false = refl
    by true false true = refl
    by true false false = refl
    by false a b = refl

-- one that is in use has 32 bits
pub given_within : (s : IdsState) (n : ℕ) → AreIds s → is_given s n ≡ true → (1 ≤ n) × (n < s.next)
given_within s n a g = by (nat_le 1 n) refl (nat_lt n s.next) refl g
  where
    by : (x : Bool) → nat_le 1 n ≡ x → (y : Bool) → nat_lt n s.next ≡ y → ((x && y) && not (is_freed s.freed n)) ≡ true → (1 ≤ n) × (n < s.next)
    by true p true q h = (grind arith, grind arith)
    by true p false q h = cc
    by false p y q h = cc

insert_all : (P : ℕ → Type 0) (fs : List ℕ) (id : ℕ) → P id → AllByRecursion P fs → AllByRecursion P (insert_key nat_cmp fs id)
insert_all P [] id p a = (p, tt)
insert_all P (f ∷ fs) id p a = by (nat_cmp id f) (insert_all P fs id p a.1)
  where
    by : (o : Ordering) → AllByRecursion P (insert_key nat_cmp fs id) → AllByRecursion P (match_ordering o (id ∷ f ∷ fs) (f ∷ fs) (f ∷ insert_key nat_cmp fs id))
    by Less ih = (p, a)
    by Equal ih = a
    by Greater ih = (a.0, ih)

pub ids_without : (s : IdsState) (id : ℕ) → AreIds s → is_given s id ≡ true → AreIds (record { next = s.next; freed = insert_key nat_cmp s.freed id })
ids_without s id a g = record { from = a.from; upto = a.upto; freed = insert_all _ s.freed id (given_within s id a g) a.freed }

-- ---- the first one, as a list has it

pub none_freed : (ks : List ℕ) → (0 < length ks → false ≡ true) → ks ≡ []
none_freed [] h = refl
none_freed (k ∷ ks) h = absurd (false≢true (h (omega arith)))

pub least_first : (s : IdsState) (f : ℕ) → AreIds s → slice_get s.freed 0 ≡ Some f → ((k : ℕ) → is_freed s.freed k ≡ true → is_gt (nat_cmp f k) ≡ false) → IsLeast (is_given s) f
least_first s f a h low = by s.freed refl h
  where
    by : (ks : List ℕ) → s.freed ≡ ks → slice_get ks 0 ≡ Some f → IsLeast (is_given s) f
    by [] e q = absurd (none-some f q)
    by (k ∷ ks) e q = least_freed s f ks a (e ∙ ap (λ z. z ∷ ks) (same_Some k f q)) low

pub given_first : (s : IdsState) (f : ℕ) (rest : List ℕ) → AreIds s → s.freed ≡ f ∷ rest → is_freed rest f ≡ false → ((k : ℕ) → is_freed s.freed k ≡ true → is_gt (nat_cmp f k) ≡ false) →
    (n k : ℕ) → IsLeast (is_given s) n → is_given (record { next = s.next; freed = rest }) k ≡ (n == k || is_given s k)
given_first s f rest a e m low n k l =
    given_freed s f rest k a e m ∙ ap (λ z. z == k || is_given s k) (sym (least_is_one (is_given s) n f l (least_freed s f rest a e low)))
