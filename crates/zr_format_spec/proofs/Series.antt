-- Values one after another: what a loop that reads them keeps, and what they spell together.
use Rattle.std.proofs.Common.{◌≡◌, ℕ, zero, suc, ◌+◌, ◌-◌, ◌<◌, List, [], ◌∷◌, ◌++◌, length, Option, Some, None, Result, Ok, Err, refl, sym, ap, subst, ◌∙◌, arith, append_assoc, inl, inr}
use Rattle.std.specs.List.{flat_map, slice_get}
use Rattle.std.proofs.lemmas.List.{append-nil, length-append, get_or_push}
use Rattle.std.proofs.lemmas.Option.{slice_get-get_or}
use Rattle.zr_bytes.specs.declared.read_error.ReadError.{ReadError}
use Rattle.zr_bytes.specs.Reading.{Read, Fails, ◌>>=◌}
use Rattle.zr_bytes.proofs.Steps.{ok_is, bind_ok, bind_err, not_both}
use Rattle.zr_format_spec.specs.Format.{Format, series, ◌then◌, gives}
use Rattle.zr_format_spec.specs.Reading.{Reader, last_of, series_of}

-- ---- the loop

-- what is read with these before it
abbrev pub behind : {X : Type 0} → List X → Read (List X) → Read (List X)
behind xs said = said >>= λ a. Ok (xs ++ a.0, a.1)

pub last_of-push : {X : Type 0} (xs : List X) (x : X) → last_of (xs ++ x ∷ []) ≡ Some x
last_of-push {X} xs x =
    let long : length (xs ++ x ∷ []) ≡ length xs + 1 = length-append xs (x ∷ []) in
    let at : length (xs ++ x ∷ []) - 1 ≡ length xs = omega (arith, long) in
    let within : length xs < length (xs ++ x ∷ []) = omega (arith, long) in
    ap (slice_get (xs ++ x ∷ [])) at ∙ slice_get-get_or (xs ++ x ∷ []) (length xs) x within ∙ ap (λ (y : X). Some y) (get_or_push xs x x (length xs) refl)

pub series_begins : {X : Type 0} (r : Option X → Reader X) (count : ℕ) (bytes : List ℕ) (xs : List X) → xs ≡ [] → behind xs (series_of r (last_of xs) (count - 0) bytes) ≡ series_of r None count bytes
series_begins {X} r count bytes xs e =
    ap (λ (ys : List X). behind ys (series_of r (last_of ys) (count - 0) bytes)) e ∙ ap (λ (n : ℕ). behind [] (series_of r None n bytes)) same ∙ bare (series_of r None count bytes)
  where
    same : count - 0 ≡ count
    same = omega arith

    bare : (said : Read (List X)) → behind [] said ≡ said
    bare (Ok a) = refl
    bare (Err e) = refl

one_more : {X : Type 0} (r : Option X → Reader X) (last : Option X) (left : ℕ) (bytes : List ℕ) (i count : ℕ) → i < count → (count - i ≡ suc left) → series_of r last (count - i) bytes ≡ (r last bytes >>= λ x. series_of r (Some x.0) left x.1 >>= λ ys. Ok (x.0 ∷ ys.0, ys.1))
unfolding series_of
one_more r last left bytes i count lt e = ap (λ (n : ℕ). series_of r last n bytes) e

moved : {X : Type 0} (xs : List X) (x : X) (said : Read (List X)) → behind xs (said >>= λ ys. Ok (x ∷ ys.0, ys.1)) ≡ behind (xs ++ x ∷ []) said
moved xs x (Ok a) = ap (λ ys. Ok (ys, a.1)) (sym (append_assoc xs (x ∷ []) a.0))
moved xs x (Err e) = refl

pub series_more : {X : Type 0} (r : Option X → Reader X) (i count : ℕ) (xs : List X) (x : X) (bytes rest : List ℕ) (said : Read (List X)) → i < count → r (last_of xs) bytes ≡ Ok (x, rest)
    → behind xs (series_of r (last_of xs) (count - i) bytes) ≡ said → behind (xs ++ x ∷ []) (series_of r (last_of (xs ++ x ∷ [])) (count - (i + 1)) rest) ≡ said
series_more {X} r i count xs x bytes rest said lt read so_far =
    let left : ℕ = count - (i + 1) in
    let split = one_more r (last_of xs) left bytes i count lt (omega arith) in
    let front = ap (λ (a : Read X). a >>= λ y. series_of r (Some y.0) left y.1 >>= λ ys. Ok (y.0 ∷ ys.0, ys.1)) read in
    ap (λ (o : Option X). behind (xs ++ x ∷ []) (series_of r o left rest)) (last_of-push xs x) ∙ sym (moved xs x (series_of r (Some x) left rest)) ∙ ap (behind xs) (sym (split ∙ front)) ∙ so_far

pub series_refused : {X : Type 0} (r : Option X → Reader X) (i count : ℕ) (xs : List X) (bytes : List ℕ) (e : ReadError) (said : Read (List X)) → i < count → r (last_of xs) bytes ≡ Err e
    → behind xs (series_of r (last_of xs) (count - i) bytes) ≡ said → said ≡ Err e
series_refused {X} r i count xs bytes e said lt read so_far =
    let left : ℕ = count - (i + 1) in
    let split = one_more r (last_of xs) left bytes i count lt (omega arith) in
    let front = ap (λ (a : Read X). a >>= λ y. series_of r (Some y.0) left y.1 >>= λ ys. Ok (y.0 ∷ ys.0, ys.1)) read in
    sym so_far ∙ ap (behind xs) (split ∙ front)

pub series_fails : {X : Type 0} (r : Option X → Reader X) (i count : ℕ) (xs : List X) (bytes : List ℕ) (e : ReadError) (said : Read (List X)) → i < count → Fails e (r (last_of xs) bytes)
    → behind xs (series_of r (last_of xs) (count - i) bytes) ≡ said → Fails e said
series_fails r i count xs bytes e said lt h so_far = elim h [ inl memory ↦ inl memory | inr refused ↦ inr (series_refused r i count xs bytes e said lt refused so_far) ]

no_more : {X : Type 0} (r : Option X → Reader X) (last : Option X) (bytes : List ℕ) (n : ℕ) → n ≡ 0 → series_of r last n bytes ≡ Ok ([], bytes)
unfolding series_of
no_more r last bytes n e = ap (λ (n : ℕ). series_of r last n bytes) e

pub series_over : {X : Type 0} (r : Option X → Reader X) (i count : ℕ) (xs : List X) (bytes : List ℕ) (said : Read (List X)) → count ≡ i
    → behind xs (series_of r (last_of xs) (count - i) bytes) ≡ said → said ≡ Ok (xs, bytes)
series_over {X} r i count xs bytes said e so_far =
    sym so_far ∙ ap (behind xs) (no_more r (last_of xs) bytes (count - i) (omega arith)) ∙ ap (λ (ys : List X). Ok (ys, bytes)) (append-nil xs)

-- ---- what they spell

-- what holds of values from each one on (`G`), where each is spelled so, is what they spell one after another
pub series_spelled : {X : Type 0} (f : Option X → Format X) (w : X → List ℕ) (G : Option X → List X → Type 0) → ((last : Option X) (x : X) (xs : List X) → G last (x ∷ xs) → (f last).spelled x (w x) × G (Some x) xs)
    → (last : Option X) (xs : List X) (n : ℕ) → n ≡ length xs → G last xs → (series f last n).spelled xs (flat_map w xs)
series_spelled f w G each last [] zero long g = (refl, refl)
series_spelled f w G each last [] (suc n) long g = absurd (omega arith)
series_spelled f w G each last (x ∷ xs) zero long g = absurd (omega arith)
series_spelled f w G each last (x ∷ xs) (suc n) long g =
    let here = each last x xs g in
    let others = series_spelled f w G each (Some x) xs n (omega arith) here.1 in
    (x, w x, flat_map w xs, refl, here.0, (xs, flat_map w xs, [], sym (append-nil (flat_map w xs)), others, (refl, refl)))

-- and back
pub spelled_series : {X : Type 0} (f : Option X → Format X) (G : Option X → List X → Type 0) → ((last : Option X) → G last []) → ((last : Option X) (x : X) (xs : List X) (bytes : List ℕ) → (f last).spelled x bytes → G (Some x) xs → G last (x ∷ xs))
    → (last : Option X) (n : ℕ) (xs : List X) (bytes : List ℕ) → (series f last n).spelled xs bytes → G last xs × (length xs ≡ n)
spelled_series {X} f G none each last zero xs bytes s = (subst (G last) (sym s.0) (none last), ap (λ (ys : List X). length ys) s.0)
spelled_series {X} f G none each last (suc n) xs bytes s =
    let rest = spelled_series f G none each (Some s.0) n s.5.0 s.5.1 s.5.4 in
    let whole : xs ≡ s.0 ∷ s.5.0 = s.5.5.0 in
    (subst (G last) (sym whole) (each last s.0 s.5.0 s.1 s.4 rest.0), ap (λ (ys : List X). length ys) whole ∙ omega (arith, rest.1))
