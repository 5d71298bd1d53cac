-- Lines that are cut out of their text, and one more behind them.
use Rattle.std.proofs.Common.{◌≡◌, ℕ, zero, suc, ◌+◌, ◌-◌, ◌<◌, ◌≤◌, List, [], ◌∷◌, ◌++◌, Some, None, length, map, take, drop, get_or, refl, sym, ap, ◌∙◌, subst, arith, add-one, append_assoc, drop-cons, length-append}
use Rattle.std.specs.Prelude.{slice_get}
use Rattle.std.specs.List.{concat, sum}
use Rattle.std.specs.Option.{option_map}
use Rattle.std.proofs.lemmas.List.{append-nil, drop-append-le, drop_all, length-drop, map-append, take_all, take-append-drop, take-append-le, take_more}
use Rattle.std.proofs.lemmas.List.Sums.{sum_by-append, sum_by-cons}
use Rattle.std.proofs.Math.Seq.{drop-drop}
use Rattle.zr_world_lines.specs.Lines.{cut}

no_bytes : (text : List ℕ) → 0 ≡ length text → text ≡ []
no_bytes [] h = refl
no_bytes (x ∷ xs) h = absurd (omega (arith, h))

sum-cons : (n : ℕ) (ns : List ℕ) → sum (n ∷ ns) ≡ n + sum ns
sum-cons n ns = sum_by-cons (λ x. x) n ns

-- joined, they are the text
pub joined : (ns text : List ℕ) → sum ns ≡ length text → text ≡ concat (cut ns text)
joined [] text h = no_bytes text h
joined (n ∷ ns) text h =
    sym (take-append-drop n text) ∙ ap (λ z. take n text ++ z) (joined ns (drop n text) (let e = length-drop n text in let s = sum-cons n ns in omega (arith, e, h, s)))

pub count : (ns text : List ℕ) → length (cut ns text) ≡ length ns
count [] text = refl
count (n ∷ ns) text = ap suc (count ns (drop n text))

-- one more line
pub one_more : (ns text line : List ℕ) → sum ns ≡ length text → cut (ns ++ length line ∷ []) (text ++ line) ≡ cut ns text ++ line ∷ []
one_more [] text line h =
    subst (λ z. cut (length line ∷ []) (z ++ line) ≡ line ∷ []) (sym (no_bytes text h)) (ap (λ z. z ∷ []) (take_all (length line) line (omega arith)))
one_more (n ∷ ns) text line h =
    let s = sum-cons n ns in
    let fits : n ≤ length text = omega (arith, h, s) in
    let rest = one_more ns (drop n text) line (let e = length-drop n text in omega (arith, e, h, s)) in
    (λ i. take-append-le n text line fits i ∷ cut (ns ++ length line ∷ []) (drop-append-le n text line fits i)) ∙ ap (λ z. take n text ∷ z) rest

pub sum_more : (ns : List ℕ) (n : ℕ) → sum (ns ++ n ∷ []) ≡ sum ns + n
sum_more ns n = let e = sum_by-append (λ x. x) ns (n ∷ []) in let s = sum-cons n [] in omega (arith, e, s)

-- the first and the last
pub first_is : (ns text : List ℕ) → slice_get (cut ns text) 0 ≡ option_map (λ n. take n text) (slice_get ns 0)
first_is [] text = refl
first_is (n ∷ ns) text = refl

one_below : (ns : List ℕ) (k n : ℕ) → Some n ≡ slice_get ns k → n ≤ sum ns
one_below [] k n h = absurd (cc)
one_below (m ∷ ms) zero n h = let same : n ≡ m = cc in let s = sum-cons m ms in omega (arith, same, s)
one_below (m ∷ ms) (suc k) n h = let e = one_below ms k n h in let s = sum-cons m ms in omega (arith, e, s)

last_at : (ns text : List ℕ) (k n : ℕ) → length ns ≡ k + 1 → sum ns ≡ length text → Some n ≡ slice_get ns k → slice_get (cut ns text) k ≡ Some (drop (length text - n) text)
last_at [] text k n long h is = absurd (omega (arith, long))
last_at (m ∷ []) text zero n long h is =
    let same : n ≡ m = cc in
    let s = sum-cons m [] in
    let all : length text ≤ m = omega (arith, h, s) in
    let none : length text - n ≡ 0 = omega (arith, h, same, s) in
    ap Some (take_all m text all) ∙ ap (λ z. Some (drop z text)) (sym none)
last_at (m ∷ []) text (suc k) n long h is = absurd (omega (arith, long))
last_at (m ∷ p ∷ ms) text zero n long h is = absurd (omega (arith, long))
last_at (m ∷ p ∷ ms) text (suc k) n long h is =
    let shorter = length-drop m text in
    let below = one_below (p ∷ ms) k n is in
    let s = sum-cons m (p ∷ ms) in
    let place : m + (length (drop m text) - n) ≡ length text - n = omega (arith, h, shorter, below, s) in
    last_at (p ∷ ms) (drop m text) k n (omega (arith, long)) (omega (arith, h, shorter, s)) is
    ∙ ap Some (drop-drop (length (drop m text) - n) m text ∙ ap (λ z. drop z text) place)

pub last_is : (ns text : List ℕ) (n : ℕ) → sum ns ≡ length text → Some n ≡ slice_get ns (length ns - 1) → slice_get (cut ns text) (length (cut ns text) - 1) ≡ Some (drop (length text - n) text)
last_is [] text n h is = absurd (cc)
last_is (m ∷ ms) text n h is =
    ap (λ k. slice_get (cut (m ∷ ms) text) (k - 1)) (count (m ∷ ms) text) ∙ last_at (m ∷ ms) text (length (m ∷ ms) - 1) n (omega arith) h is

pub last_none : (ns text : List ℕ) → None ≡ slice_get ns (length ns - 1) → slice_get (cut ns text) (length (cut ns text) - 1) ≡ None
last_none [] text is = refl
last_none (m ∷ ms) text is = absurd (there (m ∷ ms) (length (m ∷ ms) - 1) (omega arith) is)
  where
    there : (ns : List ℕ) (k : ℕ) → k < length ns → None ≡ slice_get ns k → ⊥
    there [] k lt is = omega (arith, lt)
    there (n ∷ ns) zero lt is = cc
    there (n ∷ ns) (suc k) lt is = there ns k (omega (arith, lt)) is

-- ---- lines that are listed one after another

abbrev pub IsListed : {R : Type 0} → (R → List ℕ) → List ℕ → List ℕ → List R → ℕ → List R → List ℕ → Type 0
IsListed shown ns text others i all rest =
    (sum (drop i ns) ≡ length rest) × (map shown all ++ cut (drop i ns) rest ≡ map shown others ++ cut ns text)

one_off : (ns : List ℕ) (i n : ℕ) → i < length ns → n ≡ get_or ns i 0 → drop i ns ≡ n ∷ drop (i + 1) ns
one_off ns i n lt is = drop-cons ns i 0 lt ∙ (λ j. sym is j ∷ drop (sym (add-one i) j) ns)

pub fits : (ns rest : List ℕ) (i n : ℕ) → i < length ns → n ≡ get_or ns i 0 → sum (drop i ns) ≡ length rest → n ≤ length rest
fits ns rest i n lt is h = let e = ap sum (one_off ns i n lt is) in let s = sum-cons n (drop (i + 1) ns) in omega (arith, e, h, s)

pub listed_next : {R : Type 0} (shown : R → List ℕ) (ns text : List ℕ) (others : List R) (i : ℕ) (all all' : List R) (rest rest' : List ℕ) (n : ℕ) (x : R) →
    i < length ns → n ≡ get_or ns i 0 → IsListed shown ns text others i all rest → all' ≡ all ++ x ∷ [] → shown x ≡ take n rest → rest' ≡ drop n rest →
    IsListed shown ns text others (i + 1) all' rest'
listed_next shown ns text others i all all' rest rest' n x lt is h more line less =
    let here : drop i ns ≡ n ∷ drop (i + 1) ns = one_off ns i n lt is in
    let short = length-drop n rest in
    let whole = ap sum here in
    let s = sum-cons n (drop (i + 1) ns) in
    let left = ap length less in
    let front : map shown all' ≡ map shown all ++ take n rest ∷ [] = ap (map shown) more ∙ map-append shown all (x ∷ []) ∙ ap (λ z. map shown all ++ z ∷ []) line in (
      omega (arith, h.0, whole, short, left, s),
      (λ j. front j ++ cut (drop (i + 1) ns) (less j))
          ∙ append_assoc (map shown all) (take n rest ∷ []) (cut (drop (i + 1) ns) (drop n rest))
          ∙ ap (λ z. map shown all ++ cut z rest) (sym here)
          ∙ h.1,
    )

pub listed_all : {R : Type 0} (shown : R → List ℕ) (ns text : List ℕ) (others : List R) (i : ℕ) (all : List R) (rest : List ℕ) →
    length ns ≤ i → IsListed shown ns text others i all rest → map shown all ≡ map shown others ++ cut ns text
listed_all shown ns text others i all rest long h =
    sym (append-nil (map shown all)) ∙ ap (λ z. map shown all ++ cut z rest) (sym (drop_all i ns long)) ∙ h.1

-- ---- lines that are gathered one after another

abbrev pub IsGathered : {R : Type 0} → (R → List ℕ) → List R → ℕ → List ℕ → List ℕ → Type 0
IsGathered shown ls i ns text = (sum ns ≡ length text) × (cut ns text ≡ map shown (take i ls))

pub gathered_next : {R : Type 0} (shown : R → List ℕ) (ls : List R) (i : ℕ) (d x : R) (ns ns' text text' line : List ℕ) → i < length ls → x ≡ get_or ls i d →
    line ≡ shown x → IsGathered shown ls i ns text → ns' ≡ ns ++ length line ∷ [] → text' ≡ text ++ line → IsGathered shown ls (i + 1) ns' text'
gathered_next shown ls i d x ns ns' text text' line lt is same h more longer =
    let total = ap sum more ∙ sum_more ns (length line) in
    let long = ap length longer ∙ length-append text line in (
      omega (arith, h.0, total, long),
      (λ j. cut (more j) (longer j)) ∙ one_more ns text line h.0 ∙ (λ j. h.1 j ++ same j ∷ [])
          ∙ sym (map-append shown (take i ls) (x ∷ [])) ∙ ap (λ z. map shown (take i ls ++ z ∷ [])) is ∙ ap (map shown) (sym (take_more ls i d lt)),
    )

pub gathered_all : {R : Type 0} (shown : R → List ℕ) (ls : List R) (i : ℕ) (ns text : List ℕ) → length ls ≤ i → IsGathered shown ls i ns text → cut ns text ≡ map shown ls
gathered_all shown ls i ns text long h = h.1 ∙ ap (map shown) (take_all i ls long)
