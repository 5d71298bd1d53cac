-- A tag's text, put together from its end.
use Rattle.std.proofs.Common.{◌≡◌, ℕ, ◌+◌, ◌-◌, ◌≤◌, List, [], ◌∷◌, ◌++◌, length, take, drop, set, Result, Ok, Err, ap, ◌∙◌, arith}
use Rattle.std.specs.Prelude.{OnOk, if◌then◌else◌, is_ok}
use Rattle.std.specs.declared.alloc.AllocError.{AllocError}
use Rattle.std.proofs.lemmas.List.{drop-set, length-set, length-drop, take_all}

pub tag_slice : (t digits : List ℕ) (s n : ℕ) → drop s t ≡ digits ++ 10 ∷ [] → s + length digits ≡ 22 → length digits ≤ 20 →
    length t ≡ 23 → 23 ≤ n + (s - 2) → take n (drop (s - 2) (set (set t (s - 2 + 1) 35) (s - 2) 32)) ≡ 32 ∷ 35 ∷ (digits ++ 10 ∷ [])
tag_slice t digits s n h at short whole enough =
    let signed : List ℕ = set t (s - 2 + 1) 35 in
    let spaced : List ℕ = set signed (s - 2) 32 in
    let all = take_all n (drop (s - 2) spaced) (omega (arith, length-drop (s - 2) spaced, length-set signed (s - 2) 32, length-set t (s - 2 + 1) 35)) in
    let first = drop-set signed (s - 2) 32 (omega (arith, length-set t (s - 2 + 1) 35)) in
    let second = drop-set t (s - 2 + 1) 35 (omega arith) in
    let same : s - 2 + 1 + 1 ≡ s = omega arith in
    all ∙ first ∙ ap (λ v. 32 ∷ v) (second ∙ ap (λ v. 35 ∷ v) (ap (λ k. drop k t) same ∙ h))

-- what a list has after bytes were appended, by another text of these bytes
pub appended : (r : Result (Unit {0}) AllocError) (new old x y : List ℕ) → new ≡ (if is_ok r then old ++ x else old) → x ≡ y → OnOk r (new ≡ old ++ y)
appended (Ok u) new old x y e same = e ∙ ap (λ v. old ++ v) same
appended (Err u) new old x y e same = tt
