-- Numbers group by group: what a loop over the groups keeps, for the reader and for the writer.
use Rattle.std.proofs.Common.{◌≡◌, ℕ, zero, suc, ◌+◌, ◌-◌, ◌*◌, ◌/◌, ◌%◌, ◌^◌, ◌<◌, ◌≤◌, List, [], ◌∷◌, ◌++◌, length, take, Result, Ok, Err, refl, sym, ap, subst, ◌∙◌, arith, mul_assoc, mul_comm, append_assoc, set, inl, inr}
use Rattle.std.proofs.Math.Nat.{pow-le-pow_right, mul-le-mul_right, div-mul-le_self}
use Rattle.std.proofs.lemmas.Grind.{pow_more}
use Rattle.std.proofs.lemmas.Bool.{lt-ltb, le-ltb, cases_lt}
use Rattle.std.proofs.lemmas.List.{take_more_set}
use Rattle.zr_bytes.specs.declared.read_error.ReadError.{ReadError}
use Rattle.zr_bytes.specs.Number.{writes_within}
use Rattle.zr_bytes.specs.Reading.{Read, ◌>>=◌, byte_of, number_within}
use Rattle.zr_bytes.proofs.Steps.{ok_is}

-- a reading whose number has these low groups before it
abbrev pub with_low : ℕ → ℕ → Read ℕ → Read ℕ
with_low low scale said = said >>= λ x. Ok (low + scale * x.0, x.1)

pub scale_below : (i : ℕ) → i < 8 → 128 ^ i * 128 ≤ 2 ^ 56
scale_below i lt =
    let le : 128 ^ (i + 1) ≤ 128 ^ 8 = pow-le-pow_right {n = 128} (omega arith) {i = i + 1} {j = 8} (omega arith) in
    rw (← pow_more 128 i) le

pub with_low-start : (said : Read ℕ) → with_low 0 1 said ≡ said
with_low-start (Ok x) = ap (λ (n : ℕ). Ok (n, x.1)) (omega arith)
with_low-start (Err e) = refl

higher : (low b scale : ℕ) (said : Read ℕ) → 128 ≤ b → with_low low scale (said >>= λ x. Ok (b - 128 + 128 * x.0, x.1)) ≡ with_low (low + (b - 128) * scale) (scale * 128) said
higher low b scale (Ok x) le = ap (λ (n : ℕ). Ok (n, x.1)) (grind arith)
higher low b scale (Err e) le = refl

-- what stands at the front, where there is a byte
byte_front : (bytes : List ℕ) (b : ℕ) (rest : List ℕ) → byte_of bytes ≡ Ok (b, rest) → bytes ≡ b ∷ rest
unfolding byte_of
byte_front [] b rest e = absurd cc
byte_front (x ∷ xs) b rest e = let same : (x, xs) ≡ (b, rest) = ok_is (x, xs) (b, rest) e in ap (λ (p : ℕ × List ℕ). p.0 ∷ p.1) same

pub with_low-more : (i low b scale : ℕ) (bytes rest : List ℕ) (said : Read ℕ) → i < 8 → 128 ≤ b → byte_of bytes ≡ Ok (b, rest)
    → with_low low scale (number_within (8 - i) bytes) ≡ said → with_low (low + (b - 128) * scale) (scale * 128) (number_within (8 - (i + 1)) rest) ≡ said
unfolding number_within
with_low-more i low b scale bytes rest said lt le at same =
    let k : 8 - i ≡ suc (8 - (i + 1)) = omega arith in
    let step : with_low low scale (number_within (8 - i) bytes) ≡ with_low (low + (b - 128) * scale) (scale * 128) (number_within (8 - (i + 1)) rest) =
    rw (byte_front bytes b rest at, k, le-ltb b 128 le) (higher low b scale (number_within (8 - (i + 1)) rest) le) in
    sym step ∙ same

pub with_low-last : (i low b scale : ℕ) (bytes rest : List ℕ) (said : Read ℕ) → i < 8 → b < 128 → byte_of bytes ≡ Ok (b, rest)
    → with_low low scale (number_within (8 - i) bytes) ≡ said → said ≡ Ok (low + b * scale, rest)
unfolding number_within
with_low-last i low b scale bytes rest said lt below at same =
    let k : 8 - i ≡ suc (8 - (i + 1)) = omega arith in
    let step : with_low low scale (number_within (8 - i) bytes) ≡ Ok (low + b * scale, rest) =
    rw (byte_front bytes b rest at, k, lt-ltb b 128 below) (ap (λ (n : ℕ). Ok (low + n, rest)) (mul_comm scale b)) in
    sym same ∙ step

pub with_low-ninth : (i low b scale : ℕ) (bytes rest : List ℕ) (said : Read ℕ) → 8 ≤ i → byte_of bytes ≡ Ok (b, rest)
    → with_low low scale (number_within (8 - i) bytes) ≡ said → said ≡ Ok (low + b * scale, rest)
unfolding number_within
with_low-ninth i low b scale bytes rest said le at same =
    let k : 8 - i ≡ 0 = omega arith in
    let step : with_low low scale (number_within (8 - i) bytes) ≡ Ok (low + b * scale, rest) =
    rw (byte_front bytes b rest at, k) (ap (λ (n : ℕ). Ok (low + n, rest)) (mul_comm scale b)) in
    sym same ∙ step

none_left : (more low scale : ℕ) (e : ReadError) (bytes : List ℕ) → byte_of bytes ≡ Err e → with_low low scale (number_within more bytes) ≡ Err e
unfolding number_within byte_of
none_left zero low scale e [] h = cc
none_left (suc more) low scale e [] h = cc
none_left zero low scale e (x ∷ xs) h = absurd cc
none_left (suc more) low scale e (x ∷ xs) h = absurd cc

pub with_low-short : (i low scale : ℕ) (bytes : List ℕ) (e : ReadError) (said : Read ℕ) → byte_of bytes ≡ Err e
    → with_low low scale (number_within (8 - i) bytes) ≡ said → said ≡ Err e
with_low-short i low scale bytes e said at same = sym same ∙ none_left (8 - i) low scale e bytes at

-- what a group below 128 adds
pub record GroupFits (low b scale : ℕ) : Type 0 where
  pub product : b * scale < 2 ^ 56
  pub total : low + b * scale < scale * 128
  pub next : scale * 128 ≤ 2 ^ 56

pub group_fits : (i low b scale : ℕ) → i < 8 → b < 128 → low < scale → scale ≡ 128 ^ i → GroupFits low b scale
group_fits i low b scale lt below less is =
    let most : b * scale ≤ 127 * scale = mul-le-mul_right {m = b} {n = 127} scale (omega arith) in
    let next : scale * 128 ≤ 2 ^ 56 = rw is (scale_below i lt) in
    record { product = omega (arith, most, next); total = omega (arith, most); next = next }

-- what the ninth byte adds
pub ninth_fits : (i low b scale : ℕ) → i ≤ 8 → 8 ≤ i → b < 256 → low < scale → scale ≡ 128 ^ i → low + b * scale < 2 ^ 64
ninth_fits i low b scale le ge below less is =
    let most : b * scale ≤ 255 * scale = mul-le-mul_right {m = b} {n = 255} scale (omega arith) in
    let eight : i ≡ 8 = omega arith in
    let whole : scale ≡ 2 ^ 56 = is ∙ ap (λ (k : ℕ). 128 ^ k) eight in
    omega (arith, most, whole)

-- ---- writing

pub put_more : (i rest : ℕ) (bytes said : List ℕ) → length bytes ≡ 9 → i < 8 → 128 ≤ rest → take i bytes ++ writes_within (8 - i) rest ≡ said
    → take (i + 1) (set bytes i (rest % 128 + 128)) ++ writes_within (8 - (i + 1)) (rest / 128) ≡ said
unfolding writes_within
put_more i rest bytes said sized lt le same =
    let k : 8 - i ≡ suc (8 - (i + 1)) = omega arith in
    let step : take i bytes ++ writes_within (8 - i) rest ≡ take i bytes ++ ((rest % 128 + 128) ∷ writes_within (8 - (i + 1)) (rest / 128)) = rw (k, le-ltb rest 128 le) refl in
    let put : take (i + 1) (set bytes i (rest % 128 + 128)) ≡ take i bytes ++ (rest % 128 + 128) ∷ [] = take_more_set bytes i (rest % 128 + 128) (omega arith) in
    rw (put, append_assoc) (sym step ∙ same)

last_group : (more rest : ℕ) → (0 < more → rest < 128) → writes_within more rest ≡ rest ∷ []
unfolding writes_within
last_group zero rest low = refl
last_group (suc more) rest low = rw (lt-ltb rest 128 (low (omega arith))) refl

pub put_last : (i rest : ℕ) (bytes said : List ℕ) → length bytes ≡ 9 → i ≤ 8 → (i < 8 → rest < 128) → take i bytes ++ writes_within (8 - i) rest ≡ said
    → take (i + 1) (set bytes i rest) ≡ said
put_last i rest bytes said sized le low same =
    take_more_set bytes i rest (omega arith) ∙ ap (λ (ys : List ℕ). take i bytes ++ ys) (sym (last_group (8 - i) rest (λ positive. low (omega arith)))) ∙ same

pub rest_falls : (i rest value : ℕ) → rest * 128 ^ i ≤ value → rest / 128 * 128 ^ (i + 1) ≤ value
rest_falls i rest value le =
    let high : rest / 128 * 128 ≤ rest = div-mul-le_self rest 128 in
    let scaled : rest / 128 * 128 * 128 ^ i ≤ rest * 128 ^ i = mul-le-mul_right (128 ^ i) high in
    let e : rest / 128 * 128 ^ (i + 1) ≡ rest / 128 * 128 * 128 ^ i = rw pow_more (ap (λ (n : ℕ). rest / 128 * n) (mul_comm (128 ^ i) 128) ∙ sym (mul_assoc (rest / 128) 128 (128 ^ i))) in
    omega (arith, scaled, e)

pub top_fits : (i rest value : ℕ) → i ≤ 8 → (i < 8 → rest < 128) → rest * 128 ^ i ≤ value → value < 2 ^ 64 → rest < 256
top_fits i rest value le low high fits =
    elim (cases_lt i 8) [
      | inl lt ↦ omega (arith, low lt)
      | inr ge ↦
          let eight : i ≡ 8 = omega arith in
          let whole : rest * 2 ^ 56 ≤ value = subst (λ (k : ℕ). rest * 128 ^ k ≤ value) eight high in
          omega (arith, whole)
    ]
