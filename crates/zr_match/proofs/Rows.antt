-- One row of the table after another, place by place, in one list.
use Rattle.std.proofs.Common.{◌≡◌, ◌≢◌, ℕ, suc, zero, ◌+◌, ◌<◌, ◌≤◌, ◌∷◌, ◌++◌, [], List, Bool, true, false, ◌&&◌, sym, ap, ◌∙◌, arith, length, reverse, take, drop, get_or, set, ◌⊎◌, inl, inr, get_or-set_same, get_or-set_other, add-one}
use Rattle.std.proofs.lemmas.List.{reverse-append}
use Rattle.std.proofs.lemmas.Bool.{cases_eq}
use Rattle.zr_match.specs.Table.{Signs, place, first_row, next_row, IsRow}

-- what is taken and what is left, one sign on
take_suc : {X : Type 0} (n : ℕ) (ys : List X) (y : X) (rest : List X) → drop n ys ≡ y ∷ rest → take (suc n) ys ≡ take n ys ++ y ∷ []
take_suc zero ys y rest e = ap (λ z. take 1 z) e
take_suc (suc n) [] y rest e = cc
take_suc (suc n) (z ∷ ys) y rest e = ap (λ t. z ∷ t) (take_suc n ys y rest e)

drop_suc : {X : Type 0} (n : ℕ) (ys : List X) (y : X) (rest : List X) → drop n ys ≡ y ∷ rest → drop (suc n) ys ≡ rest
drop_suc zero ys y rest e = ap (λ z. drop 1 z) e
drop_suc (suc n) [] y rest e = cc
drop_suc (suc n) (z ∷ ys) y rest e = drop_suc n ys y rest e

pub length_suc : {X : Type 0} (n : ℕ) (ys : List X) (y : X) (rest : List X) → drop n ys ≡ y ∷ rest → length ys ≡ suc n + length rest
length_suc zero ys y rest e = ap length e ∙ omega arith
length_suc (suc n) [] y rest e = cc
length_suc (suc n) (z ∷ ys) y rest e =
    let h = length_suc n ys y rest e in
    omega arith

pub drop_next : {X : Type 0} (n : ℕ) (ys : List X) (y : X) (rest : List X) → drop n ys ≡ y ∷ rest → drop (n + 1) ys ≡ rest
drop_next n ys y rest e = rw add-one (drop_suc n ys y rest e)

pub reverse_next : {X : Type 0} (n : ℕ) (ys : List X) (y : X) (rest : List X) → drop n ys ≡ y ∷ rest → reverse (take (n + 1) ys) ≡ y ∷ reverse (take n ys)
reverse_next n ys y rest e = rw add-one (ap (λ z. reverse z) (take_suc n ys y rest e) ∙ reverse-append (take n ys) (y ∷ []))

pub drop_none : {X : Type 0} (n : ℕ) (ys : List X) → drop n ys ≡ [] → length ys ≤ n
drop_none zero [] e = omega arith
drop_none zero (z ∷ ys) e = cc
drop_none (suc n) [] e = omega arith
drop_none (suc n) (z ∷ ys) e =
    let h = drop_none n ys e in
    omega arith

-- a row that is filled up to a place
abbrev pub UpTo : {X : Type 0} → (List X → Bool) → List X → ℕ → List Bool → Type 0
UpTo f ys n row = (k : ℕ) → k ≤ n → get_or row k false ≡ f (reverse (take k ys))

-- one place more
pub UpTo-more : {X : Type 0} (f : List X → Bool) (ys : List X) (n : ℕ) (row : List Bool) (value : Bool) → UpTo f ys n row → n + 1 < length row
    → value ≡ f (reverse (take (n + 1) ys)) → UpTo f ys (n + 1) (set row (n + 1) value)
UpTo-more f ys n row value up within e k le = by (cases_eq k (n + 1))
  where
    by : (k ≡ n + 1) ⊎ (k ≡ n + 1 → ⊥) → get_or (set row (n + 1) value) k false ≡ f (reverse (take k ys))
    by (inl h) = rw h (get_or-set_same row (n + 1) value false within ∙ e)
    by (inr h) = get_or-set_other row (n + 1) k value false h ∙ up k (omega arith)

-- the first row
pub first_begun : {X : Type 0} (s : Signs X) (ys : List X) (row : List Bool) → 0 < length row → UpTo (first_row s) ys 0 (set row 0 true)
first_begun s ys row within k le =
    let h : k ≡ 0 = omega arith in
    rw h (get_or-set_same row 0 true false within)

pub first_more : {X : Type 0} (s : Signs X) (ys : List X) (n : ℕ) (y : X) (rest : List X) (row : List Bool) (value : Bool) → UpTo (first_row s) ys n row → drop n ys ≡ y ∷ rest → n + 1 < length row
    → value ≡ (s.expands && s.is_gap y && get_or row n false) → UpTo (first_row s) ys (n + 1) (set row (n + 1) value)
first_more s ys n y rest row value up e within v =
    UpTo-more (first_row s) ys n row value up within
    (v ∙ ap (λ z. s.expands && s.is_gap y && z) (up n (omega arith)) ∙ ap (λ z. first_row s z) (sym (reverse_next n ys y rest e)))

-- A row on the way: the places so far are those of the next row, the others those of the row above, and the last one that was written over is kept.
pub record OnTheWay {X : Type 0} (s : Signs X) (x : X) (f : List X → Bool) (ys : List X) (n : ℕ) (row : List Bool) (across : Bool) : Type 0 where
  pub done : UpTo (next_row s x f) ys n row
  pub ahead : (k : ℕ) → n < k → k ≤ length ys → get_or row k false ≡ f (reverse (take k ys))
  pub kept : across ≡ f (reverse (take n ys))

pub next_begun : {X : Type 0} (s : Signs X) (x : X) (f : List X → Bool) (ys : List X) (row : List Bool) (value : Bool) → IsRow f ys row → 0 < length row
    → value ≡ (s.is_gap x && get_or row 0 false) → OnTheWay s x f ys 0 (set row 0 value) (get_or row 0 false)
next_begun s x f ys row value h within v = record {
  done = λ k le.
      let e : k ≡ 0 = omega arith in
      rw e (get_or-set_same row 0 value false within ∙ v ∙ ap (λ z. s.is_gap x && z) (h 0 (omega arith)));
  ahead = λ k lt le.
      let ne : k ≢ 0 = omega arith in
      get_or-set_other row 0 k value false ne ∙ h k le;
  kept = h 0 (omega arith);
}

pub next_more : {X : Type 0} (s : Signs X) (x : X) (f : List X → Bool) (ys : List X) (n : ℕ) (y : X) (rest : List X) (row : List Bool) (across above value : Bool)
    → OnTheWay s x f ys n row across → drop n ys ≡ y ∷ rest → n + 1 < length row → above ≡ get_or row (n + 1) false
    → value ≡ place s x y across above (get_or row n false) → OnTheWay s x f ys (n + 1) (set row (n + 1) value) above
next_more s x f ys n y rest row across above value h e within a v =
    let more : n + 1 ≤ length ys = omega (arith, length_suc n ys y rest e) in
    let up : above ≡ f (y ∷ reverse (take n ys)) = a ∙ h.ahead (n + 1) (omega arith) more ∙ ap (λ z. f z) (reverse_next n ys y rest e) in
    let left : get_or row n false ≡ next_row s x f (reverse (take n ys)) = h.done n (omega arith) in
    let whole : value ≡ next_row s x f (y ∷ reverse (take n ys)) = v ∙ ap (λ z. place s x y z above (get_or row n false)) h.kept
    ∙ ap (λ z. place s x y (f (reverse (take n ys))) z (get_or row n false)) up ∙ ap (λ z. place s x y (f (reverse (take n ys))) (f (y ∷ reverse (take n ys))) z) left in
    record {
      done = UpTo-more (next_row s x f) ys n row value h.done within (whole ∙ ap (λ z. next_row s x f z) (sym (reverse_next n ys y rest e)));
      ahead = λ k lt le.
          let ne : k ≢ n + 1 = omega arith in
          get_or-set_other row (n + 1) k value false ne ∙ h.ahead k (omega arith) le;
      kept = a ∙ h.ahead (n + 1) (omega arith) more;
    }

-- at the end of the signs the row is whole
pub first_whole : {X : Type 0} (s : Signs X) (ys : List X) (n : ℕ) (row : List Bool) → UpTo (first_row s) ys n row → drop n ys ≡ [] → IsRow (first_row s) ys row
first_whole s ys n row up e k le =
    let short : length ys ≤ n = drop_none n ys e in
    up k (omega arith)

pub next_whole : {X : Type 0} (s : Signs X) (x : X) (f : List X → Bool) (ys : List X) (n : ℕ) (row : List Bool) (across : Bool) → OnTheWay s x f ys n row across → drop n ys ≡ [] → IsRow (next_row s x f) ys row
next_whole s x f ys n row across h e k le =
    let short : length ys ≤ n = drop_none n ys e in
    h.done k (omega arith)
