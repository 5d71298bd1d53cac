-- Lists that are taken from the front, and messages beside their tags.
use Rattle.std.proofs.Common.{◌≡◌, ◌∙◌, ap, refl, sym, subst, ℕ, zero, suc, ◌+◌, ◌%◌, ◌<◌, ◌≤◌, ◌==◌, mod-lt, true, false, not, List, [], ◌∷◌, ◌++◌, length, map, take, drop, Option, Some, None, Result, Ok, Err, arith}
use Rattle.std.proofs.lemmas.Bool.Decides.{nat_tests}
use Rattle.std.specs.Prelude.{is_some, slice_get, IsSome, ◌↔◌}
use Rattle.std.specs.List.{zip}
use Rattle.std.specs.Result.{OnOk}
use Rattle.zr_msg.specs.declared.msg.Msg.{Msg}
use Rattle.zr_carrier.specs.Wire.{Wire, with_message}
use Rattle.zr_netrun_batches.specs.Line.{LineState, with_sent}
use Rattle.zr_netrun_batches.specs.Way.{wire_of}
use Rattle.std.specs.Option.{option_to_list, option_zip}

-- ---- the front

pub popped : {X : Type 0} (r : Option X) (old new : List X) → old ≡ option_to_list r ++ new → (IsSome r ↔ (0 < length old)) → (r ≡ slice_get old 0) × (new ≡ drop 1 old)
popped (Some x) old new e h = (ap (λ z. slice_get z 0) (sym e), ap (λ z. drop 1 z) (sym e))
popped None [] new e h = (refl, sym e)
popped None (x ∷ old) new e h = let bad : false ≡ true = h.1 (omega arith) in absurd cc

-- so many bytes at most, and the others
pub cut_front : (n : ℕ) (w : List ℕ) → w ≡ take n w ++ drop (length (take n w)) w
cut_front zero w = refl
cut_front (suc n) [] = refl
cut_front (suc n) (x ∷ w) = ap (λ z. x ∷ z) (cut_front n w)

pub front_within : (n : ℕ) (w : List ℕ) → length (take n w) ≤ length w
front_within zero w = omega arith
front_within (suc n) [] = omega arith
front_within (suc n) (x ∷ w) = omega (arith, front_within n w)

pub front_short : (n : ℕ) (w : List ℕ) → length (take n w) ≤ n
front_short zero w = omega arith
front_short (suc n) [] = omega arith
front_short (suc n) (x ∷ w) = omega (arith, front_short n w)

-- the next piece
pub next_short : (last n : ℕ) → n ≡ last % 64 + 1 → n ≤ 64
next_short last n is =
    let turn : last % 64 < 64 = mod-lt last (omega arith) in
    omega (arith, is, turn)

drop_within : (n : ℕ) (w : List ℕ) → length (drop n w) ≤ length w
drop_within zero w = omega arith
drop_within (suc n) [] = omega arith
drop_within (suc n) (x ∷ w) = omega (arith, drop_within n w)

pub front_some : (n : ℕ) (w : List ℕ) → 0 < n → 0 < length w → length (drop (length (take n w)) w) < length w
front_some zero w some more = absurd (omega (arith, some))
front_some (suc n) [] some more = absurd (omega (arith, more))
front_some (suc n) (x ∷ w) some more = omega (arith, drop_within (length (take n w)) w)

pub split_front : (n : ℕ) (w piece rest : List ℕ) → piece ≡ take n w → rest ≡ drop (length piece) w → w ≡ piece ++ rest
split_front n w piece rest e f = cut_front n w ∙ ap (λ z. z ++ drop (length z) w) (sym e) ∙ ap (λ z. piece ++ z) (sym f)

pub rest_smaller : (n : ℕ) (w piece rest : List ℕ) → piece ≡ take n w → rest ≡ drop (length piece) w → 0 < n → 0 < length w → length rest < length w
rest_smaller n w piece rest e f some more =
    subst (λ z. length z < length w) (sym f) (subst (λ z. length (drop (length z) w) < length w) (sym e) (front_some n w some more))

-- the first of the messages that were given, or else there is none
pub received : (r : Option Msg) (ready new left : List Msg) (n : ℕ) → ready ≡ option_to_list r ++ new → n ≡ length ready → (IsSome r ↔ (0 < n)) → (ready ≡ [] → left ≡ []) →
    (r ≡ slice_get (ready ++ left) 0) × (new ++ left ≡ drop 1 (ready ++ left))
received (Some x) ready new left n e long h none = (ap (λ z. slice_get (z ++ left) 0) (sym e), ap (λ z. drop 1 (z ++ left)) (sym e))
received None [] new left n e long h none =
    (ap (λ z. slice_get z 0) (sym (none refl)), ap (λ z. z ++ left) (sym e) ∙ none refl ∙ ap (λ z. drop 1 z) (sym (none refl)))
received None (x ∷ ready) new left n e long h none = let bad : false ≡ true = h.1 (omega (arith, long)) in absurd cc

-- ---- messages with their tags

module _ {X Y : Type 0} where
  pub zip_more : (xs : List X) (ys : List Y) (x : X) (y : Y) → length ys ≡ length xs → zip (xs ++ x ∷ []) (ys ++ y ∷ []) ≡ zip xs ys ++ (x, y) ∷ []
  zip_more [] [] x y e = refl
  zip_more [] (b ∷ ys) x y e = absurd (omega (arith, e))
  zip_more (a ∷ xs) [] x y e = absurd (omega (arith, e))
  zip_more (a ∷ xs) (b ∷ ys) x y e = ap (λ z. (a, b) ∷ z) (zip_more xs ys x y (omega (arith, e)))

  pub zip_first : (xs : List X) (ys : List Y) → option_zip (slice_get xs 0) (slice_get ys 0) ≡ slice_get (zip xs ys) 0
  zip_first [] [] = refl
  zip_first [] (y ∷ ys) = refl
  zip_first (x ∷ xs) [] = refl
  zip_first (x ∷ xs) (y ∷ ys) = refl

  pub zip_rest : (xs : List X) (ys : List Y) → length ys ≡ length xs → zip (drop 1 xs) (drop 1 ys) ≡ drop 1 (zip xs ys)
  zip_rest [] [] e = refl
  zip_rest [] (y ∷ ys) e = absurd (omega (arith, e))
  zip_rest (x ∷ xs) [] e = absurd (omega (arith, e))
  zip_rest (x ∷ xs) (y ∷ ys) e = refl

  pub rest_long : (xs : List X) (ys : List Y) → length ys ≡ length xs → length (drop 1 ys) ≡ length (drop 1 xs)
  rest_long [] [] e = refl
  rest_long [] (y ∷ ys) e = absurd (omega (arith, e))
  rest_long (x ∷ xs) [] e = absurd (omega (arith, e))
  rest_long (x ∷ xs) (y ∷ ys) e = omega (arith, e)

  pub zip_firsts : (xs : List X) (ys : List Y) → length ys ≡ length xs → map (λ x. x.0) (zip xs ys) ≡ xs
  zip_firsts [] [] e = refl
  zip_firsts [] (y ∷ ys) e = refl
  zip_firsts (x ∷ xs) [] e = absurd (omega (arith, e))
  zip_firsts (x ∷ xs) (y ∷ ys) e = ap (λ z. x ∷ z) (zip_firsts xs ys (omega (arith, e)))

  pub zip_some : (xs : List X) (ys : List Y) → length ys ≡ length xs → not (length ys == 0) ≡ is_some (slice_get (zip xs ys) 0)
  zip_some [] [] e = refl
  zip_some [] (y ∷ ys) e = absurd (omega (arith, e))
  zip_some (x ∷ xs) [] e = absurd (omega (arith, e))
  zip_some (x ∷ xs) (y ∷ ys) e = grind (arith, nat_tests)

-- a message came onto the line, and its tag behind the others
pub wire_sent : (l k : LineState) (ts us : List ℕ) (w : Wire) (m : Msg) (tag : ℕ) → length ts ≡ length l.messages → wire_of l ts ≡ w → k ≡ with_sent l m → us ≡ ts ++ tag ∷ [] →
    wire_of k us ≡ with_message w m tag
wire_sent l k ts us w m tag long is line tags =
    ap (λ z. wire_of z us) line ∙ ap (λ z. wire_of (with_sent l m) z) tags ∙ ap {B = Wire} (λ z. record { role = l.role; waiting = z }) (zip_more l.messages ts m tag long)
    ∙ ap (λ (z : Wire). with_message z m tag) is

pub on_both : {X E P Q R : Type 0} (r : Result X E) → (P → Q → R) → OnOk r P → OnOk r Q → OnOk r R
on_both (Ok x) f p q = f p q
on_both (Err e) f p q = tt
