-- What the sender has given numbers, the receiver of its declarations knows.
use Rattle.std.proofs.Common.{◌≡◌, ℕ, suc, ◌+◌, ◌<◌, ◌≤◌, ◌==◌, Bool, true, false, cond, List, [], ◌∷◌, ◌++◌, length, Option, Some, Greater, refl, sym, ap, ◌∙◌, arith}
use Rattle.std.specs.List.{sum_by}
use Rattle.std.specs.Map.{lookup, values_of}
use Rattle.std.specs.Ordering.{nat_cmp, is_eq, match_ordering}
use Rattle.std.specs.BTreeMap.{insert_entry}
use Rattle.std.proofs.lemmas.Bool.Decides.{nat_tests}
use Rattle.std.proofs.lemmas.Cmp.{nat_cmp_total, tied_itself}
use Rattle.std.proofs.lemmas.List.Sums.{sum_by-cons}
use Rattle.zr_wirekey.specs.Scopes.{Texts, is_number, text_at, declared, bytes_of}
use Rattle.zr_wirekey.specs.Names.{NameList, is_text, number_from, number_of, numbered_from, numbered}
use Rattle.zr_wirekey.proofs.Alike.{text_is}

-- a number is one of those from the first on
pub within : (first : ℕ) (names : NameList) (text : List ℕ) (n : ℕ) → number_from first names text ≡ Some n → (first ≤ n) × (n < first + length names)
within first [] text n e = absurd cc
within first (t ∷ names) text n e = by (is_text text t) e (λ r. within (suc first) names text n r)
  where
    by : (b : Bool) → cond b (Some first) (number_from (suc first) names text) ≡ Some n →
        (number_from (suc first) names text ≡ Some n → (suc first ≤ n) × (n < suc first + length names)) → (first ≤ n) × (n < first + suc (length names))
    by true e ih = let same : first ≡ n = cc in (omega (arith, same), omega (arith, same))
    by false e ih = let low = (ih e).0 in let high = (ih e).1 in (omega (arith, low), omega (arith, high))

itself : (n m : ℕ) → m ≡ n → is_number n m ≡ true
itself n m e = ap (λ k. is_eq (nat_cmp n k)) e ∙ ap is_eq (tied_itself nat_cmp_total n)

above : (n m : ℕ) → suc m ≤ n → is_number n m ≡ false
above n m h = grind (arith, nat_tests, h)

-- the text that has a number is found under it
found : (first : ℕ) (names : NameList) (text : List ℕ) (n : ℕ) → number_from first names text ≡ Some n → lookup (is_number n) (numbered_from first names) ≡ Some text
found first [] text n e = absurd cc
found first (t ∷ names) text n e = by (is_text text t) refl e (λ r. found (suc first) names text n r)
  where
    rest : Option (List ℕ)
    rest = lookup (is_number n) (numbered_from (suc first) names)

    by : (b : Bool) → is_text text t ≡ b → cond b (Some first) (number_from (suc first) names text) ≡ Some n → (number_from (suc first) names text ≡ Some n → rest ≡ Some text) →
        cond (is_number n first) (Some t) rest ≡ Some text
    by true same e ih = let it : first ≡ n = cc in ap (λ b. cond b (Some t) rest) (itself n first it) ∙ ap (λ x. Some x) (sym (text_is text t same))
    by false same e ih = ap (λ b. cond b (Some t) rest) (above n first (within (suc first) names text n e).0) ∙ ih e

-- a declaration of the next number
next_from : (first : ℕ) (names : NameList) (text : List ℕ) → declared (numbered_from first names) (first + length names) text ≡ numbered_from first (names ++ text ∷ [])
next_from first [] text = ap (λ n. (n, text) ∷ []) (omega arith)
next_from first (t ∷ names) text =
    let more : Texts = numbered_from (suc first) names in
    let k : ℕ = first + suc (length names) in
    let greater : nat_cmp k first ≡ Greater = grind (arith, nat_tests) in
    let same : k ≡ suc first + length names = omega arith in
    ap (λ o. match_ordering o ((k, text) ∷ (first, t) ∷ more) ((first, text) ∷ more) ((first, t) ∷ insert_entry nat_cmp more k text)) greater
    ∙ ap (λ (z : Texts). (first, t) ∷ z) (ap (λ n. insert_entry nat_cmp more n text) same ∙ next_from (suc first) names text)

bytes_from : (first : ℕ) (names : NameList) → bytes_of (numbered_from first names) ≡ sum_by (λ t. length t) names
bytes_from first [] = refl
bytes_from first (t ∷ names) =
    let f : List ℕ → ℕ = λ x. length x in
    omega (arith, sum_by-cons f t (values_of (numbered_from (suc first) names)), sum_by-cons f t names, bytes_from (suc first) names)

pub number_heard : (names : NameList) (text : List ℕ) (n : ℕ) → number_of names text ≡ Some n → (0 < n) × (n ≤ length names) × (text_at (numbered names) n ≡ Some text)
number_heard names text n e =
    let low = (within 1 names text n e).0 in
    let high = (within 1 names text n e).1 in
    let some : (n == 0) ≡ false = grind (arith, nat_tests, low) in
    (omega (arith, low), omega (arith, high), ap (λ b. cond b (Some []) (lookup (is_number n) (numbered names))) some ∙ found 1 names text n e)

pub next_heard : (names : NameList) (text : List ℕ) → declared (numbered names) (suc (length names)) text ≡ numbered (names ++ text ∷ [])
next_heard names text =
    let same : suc (length names) ≡ 1 + length names = omega arith in
    ap (λ n. declared (numbered names) n text) same ∙ next_from 1 names text

pub bytes_heard : (names : NameList) → bytes_of (numbered names) ≡ sum_by (λ t. length t) names
bytes_heard names = bytes_from 1 names
