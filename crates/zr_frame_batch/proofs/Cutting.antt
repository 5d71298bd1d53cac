-- A stream of bytes is cut into batches in one way.
use Rattle.std.proofs.Common.{◌≡◌, ◌∙◌, ap, refl, sym, subst, ℕ, zero, suc, ◌+◌, ◌-◌, ◌*◌, ◌%◌, ◌/◌, ◌^◌, ◌<◌, ◌≤◌, List, [], ◌∷◌, ◌++◌, length, length-append, length-take-le, take, drop, take-append-drop, append_assoc, arith}
use Rattle.std.specs.List.{AllByRecursion, flat_map}
use Rattle.zr_frame_batch.specs.Framing.{framed, IsFramed, Are, lacks}

-- batches of some bytes, and then those of what is left of them with more behind it
pub are_more : (bytes more mid rest : List ℕ) (xs ys : List (List ℕ)) → Are bytes xs mid → Are (mid ++ more) ys rest → Are (bytes ++ more) (xs ++ ys) rest
are_more bytes more mid rest [] ys h k = rw h k
are_more bytes more mid rest (x ∷ xs) ys h k =
    (h.0, h.1 ++ more, rw h.2 (append_assoc h.0 h.1 more), h.3, are_more h.1 more mid rest xs ys h.4 k)

-- ---- one way

-- nothing is lacking where a batch stands in front
full : (bytes front back batch : List ℕ) → bytes ≡ front ++ back → IsFramed front batch → lacks bytes ≡ 0
full bytes front back batch e h =
    let len : length (batch ++ back) ≡ length batch + length back = length-append batch back in
    rw (e, h.2) (omega (arith, h.3, len))

-- lists of one length, with lists behind them
same_front : (xs ys us bs : List ℕ) → length xs ≡ length ys → xs ++ us ≡ ys ++ bs → (xs ≡ ys) × (us ≡ bs)
same_front [] [] us bs n e = (refl, e)
same_front [] (y ∷ ys) us bs n e = absurd (omega (arith, n))
same_front (x ∷ xs) [] us bs n e = absurd (omega (arith, n))
same_front (x ∷ xs) (y ∷ ys) us bs n e =
    let rest = same_front xs ys us bs (omega (arith, n)) (cc) in
    let head : x ≡ y = cc in
    (ap (λ z. z ∷ xs) head ∙ ap (λ z. y ∷ z) rest.0, rest.1)

one_batch : (bytes f g a b x y : List ℕ) → bytes ≡ f ++ a → IsFramed f x → bytes ≡ g ++ b → IsFramed g y → (x ≡ y) × (a ≡ b)
one_batch bytes f g a b x y e h d k =
    let whole : h.0 ∷ h.1 ∷ (x ++ a) ≡ k.0 ∷ k.1 ∷ (y ++ b) = sym (e ∙ ap (λ z. z ++ a) h.2) ∙ d ∙ ap (λ z. z ++ b) k.2 in
    let low : h.0 ≡ k.0 = cc in
    let high : h.1 ≡ k.1 = cc in
    let behind : x ++ a ≡ y ++ b = cc in
    same_front x y a b (omega (arith, h.3, k.3, low, high)) behind

pub cut_one : (bytes rest left : List ℕ) (xs ys : List (List ℕ)) → Are bytes xs rest → 0 < lacks rest → Are bytes ys left → 0 < lacks left → (xs ≡ ys) × (rest ≡ left)
cut_one bytes rest left [] [] h m k n = (refl, sym h ∙ k)
cut_one bytes rest left [] (y ∷ ys) h m k n =
    let none : lacks rest ≡ 0 = ap lacks (sym h) ∙ full bytes k.0 k.1 y k.2 k.3 in
    absurd (omega (arith, none, m))
cut_one bytes rest left (x ∷ xs) [] h m k n =
    let none : lacks left ≡ 0 = ap lacks (sym k) ∙ full bytes h.0 h.1 x h.2 h.3 in
    absurd (omega (arith, none, n))
cut_one bytes rest left (x ∷ xs) (y ∷ ys) h m k n =
    let same = one_batch bytes h.0 k.0 h.1 k.1 x y h.2 h.3 k.2 k.3 in
    let back : Are h.1 ys left = rw same.1 k.4 in
    let others = cut_one h.1 rest left xs ys h.4 m back n in
    (ap (λ z. z ∷ xs) same.0 ∙ ap (λ z. y ∷ z) others.0, others.1)

-- ---- some way

abbrev IsCut : List ℕ → Type 0
IsCut b = (batches : List (List ℕ)) × (rest : List ℕ) × Are b batches rest × (0 < lacks rest)

partial : (b : List ℕ) → 0 < lacks b → IsCut b
partial b h = ([], b, refl, h)

longer : (front batch back : List ℕ) → IsFramed front batch → IsCut back → IsCut (front ++ back)
longer front batch back f h = (batch ∷ h.0, h.1, (front, back, refl, f, h.2), h.3)

pub cut_some : (n : ℕ) (b : List ℕ) → length b ≤ n → IsCut b
cut_some n [] h = partial [] (omega arith)
cut_some n (a ∷ []) h = partial (a ∷ []) (omega arith)
cut_some zero (a ∷ c ∷ bytes) h = absurd (omega (arith, h))
cut_some (suc n) (a ∷ c ∷ bytes) h = by (λ b k. cut_some n b k) (a + 256 * c - length bytes) refl
  where
    by : ((b : List ℕ) → length b ≤ n → IsCut b) → (k : ℕ) → a + 256 * c - length bytes ≡ k → IsCut (a ∷ c ∷ bytes)
    by ih (suc k) e = partial (a ∷ c ∷ bytes) (omega (arith, e))
    by ih zero e =
        let cut : take (a + 256 * c) bytes ++ drop (a + 256 * c) bytes ≡ bytes = take-append-drop (a + 256 * c) bytes in
        let size : length (take (a + 256 * c) bytes) ≡ a + 256 * c = length-take-le (a + 256 * c) bytes (omega (arith, e)) in
        let len = length-append (take (a + 256 * c) bytes) (drop (a + 256 * c) bytes) in
        let all : length (take (a + 256 * c) bytes ++ drop (a + 256 * c) bytes) ≡ length bytes = ap length cut in
        let few : length (drop (a + 256 * c) bytes) ≤ n = omega (arith, len, all, h) in
        subst (λ (z : List ℕ). IsCut (a ∷ c ∷ z)) cut
        (longer (a ∷ c ∷ take (a + 256 * c) bytes) (take (a + 256 * c) bytes) (drop (a + 256 * c) bytes) (a, c, refl, size) (ih (drop (a + 256 * c) bytes) few))

-- ---- what is written

pub framed_is : (b : List ℕ) → length b < 2 ^ 16 → IsFramed (framed b) b
framed_is b h = (length b % 256, length b / 256, refl, omega (arith, h))

pub written_cut : (bs : List (List ℕ)) → AllByRecursion (λ batch. length batch < 2 ^ 16) bs → Are (flat_map framed bs) bs []
written_cut [] h = refl
written_cut (b ∷ bs) h = (framed b, flat_map framed bs, refl, framed_is b h.0, written_cut bs h.1)
