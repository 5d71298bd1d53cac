-- Words that are written one behind the other.
use Rattle.std.proofs.Common.{arith, suc, ◌≡◌, ℕ, ◌+◌, List, [], ◌∷◌, ◌++◌, length, take, drop, refl, sym, ap, subst, ◌∙◌, append_assoc}
use Rattle.std.proofs.lemmas.List.{append-nil, length-append, length-drop}
use Rattle.std.proofs.Math.Seq.{take-append_seam, drop-append-add}

-- a word at a place of some bytes
abbrev pub put_in : ℕ → List ℕ → List ℕ → List ℕ
put_in at word all = take at all ++ (word ++ drop (at + length word) all)

behind : (front rest word : List ℕ) → put_in (length front) word (front ++ rest) ≡ (front ++ word) ++ drop (length word) rest
behind front rest word =
    ap (λ z. z ++ (word ++ drop (length front + length word) (front ++ rest))) (take-append_seam front rest)
    ∙ (ap (λ z. front ++ (word ++ z)) (drop-append-add front rest (length word)) ∙ sym (append_assoc front word (drop (length word) rest)))

behind_at : (front rest word : List ℕ) (at : ℕ) → length front ≡ at → put_in at word (front ++ rest) ≡ (front ++ word) ++ drop (length word) rest
behind_at front rest word at e = subst (λ n. put_in n word (front ++ rest) ≡ (front ++ word) ++ drop (length word) rest) e (behind front rest word)

first : (all a : List ℕ) → put_in 0 a all ≡ a ++ drop (length a) all
first all a = ap (λ n. a ++ drop n all) (zero (length a))
  where
    zero : (n : ℕ) → 0 + n ≡ n
    zero n = omega arith

empty : (xs : List ℕ) → length xs ≡ 0 → xs ≡ []
empty [] e = refl
empty (x ∷ xs) e = absurd (by e)
  where
    by : suc (length xs) ≡ 0 → ⊥
    by e = omega arith

-- four words of eight bytes
pub four : (all a b c d : List ℕ) → length all ≡ 32 → length a ≡ 8 → length b ≡ 8 → length c ≡ 8 → length d ≡ 8 →
    put_in 24 d (put_in 16 c (put_in 8 b (put_in 0 a all))) ≡ ((a ++ b) ++ c) ++ d
four all a b c d lall la lb lc ld =
    ap (λ z. put_in 24 d (put_in 16 c (put_in 8 b z))) (first all a)
    ∙ (ap (λ z. put_in 24 d (put_in 16 c z)) (behind_at a (drop (length a) all) b 8 la)
    ∙ (ap (λ z. put_in 24 d z) (behind_at (a ++ b) (drop (length b) (drop (length a) all)) c 16 lab)
    ∙ (behind_at ((a ++ b) ++ c) (drop (length c) (drop (length b) (drop (length a) all))) d 24 labc
    ∙ (ap (λ z. (((a ++ b) ++ c) ++ d) ++ z) (empty rest none) ∙ append-nil (((a ++ b) ++ c) ++ d)))))
  where
    lab : length (a ++ b) ≡ 16
    lab = omega (arith, length-append a b, la, lb)

    labc : length ((a ++ b) ++ c) ≡ 24
    labc = omega (arith, length-append (a ++ b) c, lab, lc)

    rest : List ℕ
    rest = drop (length d) (drop (length c) (drop (length b) (drop (length a) all)))

    none : length rest ≡ 0
    none = omega (
      arith,
      length-drop (length d) (drop (length c) (drop (length b) (drop (length a) all))),
      length-drop (length c) (drop (length b) (drop (length a) all)),
      length-drop (length b) (drop (length a) all),
      length-drop (length a) all,
      lall,
      la,
      lb,
      lc,
      ld,
    )
