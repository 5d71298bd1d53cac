-- A number is read where a front of the bytes spells it, by induction on the groups; short is what no byte ends.
use Rattle.std.proofs.Common.{◌≡◌, ℕ, zero, suc, ◌+◌, ◌-◌, ◌*◌, ◌/◌, ◌%◌, ◌^◌, ◌<◌, ◌≤◌, List, [], ◌∷◌, ◌++◌, length, Ok, Err, cond, ltb, refl, sym, ap, subst, ◌∙◌, arith, append_assoc, inl, inr, ◌⊎◌, add-one, mul_assoc}
use Rattle.std.specs.List.{AllByRecursion}
use Rattle.std.proofs.lemmas.Bool.{lt-ltb, le-ltb, ltb-true, ltb-false, cases_lt}
use Rattle.std.proofs.lemmas.List.{append_cancel_right, append-nil, length-append}
use Rattle.std.proofs.Math.Nat.{div-add-mod, div-lt_iff_lt-mul}
use Rattle.std.proofs.lemmas.Grind.{pow_more}
use Rattle.zr_bytes.specs.declared.read_error.ReadError.{ReadError}
use Rattle.zr_bytes.specs.declared.read_error.ReadError.TheVariants.{Short, TooBig}
use Rattle.zr_bytes.specs.Spelling.{Begins, EndsInside}
use Rattle.zr_bytes.specs.Number.{SpellsWithin, Spells, writes_within}
use Rattle.zr_bytes.specs.Reading.{◌>>=◌, number_within, number_of, number_below}
use Rattle.zr_bytes.proofs.Steps.{ok_is, bind_ok, bind_err, chosen, not_both, answered}

-- ---- reading

-- a group that goes on, before the spelling of the rest
goes_on : (more b high : ℕ) (bytes : List ℕ) → 128 ≤ b → SpellsWithin more high bytes → SpellsWithin (suc more) (b - 128 + 128 * high) (b ∷ bytes)
goes_on more b high [] le s = absurd s
goes_on more b high (c ∷ bytes) le s = (le, high, omega arith, s)

-- what is read stands at the front
pub read_begins : (more value : ℕ) (bytes rest : List ℕ) → number_within more bytes ≡ Ok (value, rest) → Begins (SpellsWithin more) value bytes rest
unfolding number_within
read_begins zero value [] rest e = absurd cc
read_begins (suc more) value [] rest e = absurd cc
read_begins zero value (b ∷ bytes) rest e =
    let same : (b, bytes) ≡ (value, rest) = ok_is (b, bytes) (value, rest) e in
    (b ∷ [], sym (ap (λ (p : ℕ × List ℕ). p.0) same), ap (λ (p : ℕ × List ℕ). b ∷ p.1) same)
read_begins (suc more) value (b ∷ bytes) rest e =
    elim (chosen (ltb b 128) (Ok (b, bytes)) (number_within more bytes >>= λ x. Ok (b - 128 + 128 * x.0, x.1)) (Ok (value, rest)) e) [
      | inl last ↦
          let same : (b, bytes) ≡ (value, rest) = ok_is (b, bytes) (value, rest) last.1 in
          (b ∷ [], (ltb-true b 128 last.0, sym (ap (λ (p : ℕ × List ℕ). p.0) same)), ap (λ (p : ℕ × List ℕ). b ∷ p.1) same)
      | inr on ↦
          let step = bind_ok (number_within more bytes) (λ x. Ok (b - 128 + 128 * x.0, x.1)) (value, rest) on.1 in
          let inner = read_begins more step.0.0 bytes step.0.1 step.1 in
          let same : (b - 128 + 128 * step.0.0, step.0.1) ≡ (value, rest) = ok_is (b - 128 + 128 * step.0.0, step.0.1) (value, rest) step.2 in
          let made : Begins (SpellsWithin (suc more)) (b - 128 + 128 * step.0.0) (b ∷ bytes) step.0.1 = (b ∷ inner.0, goes_on more b step.0.0 inner.0 (ltb-false b 128 on.0) inner.1, ap (λ (xs : List ℕ). b ∷ xs) inner.2) in
          subst (λ (p : ℕ × List ℕ). Begins (SpellsWithin (suc more)) p.0 (b ∷ bytes) p.1) same made
    ]

-- what stands at the front is read
pub begins_read : (more value : ℕ) (front rest : List ℕ) → SpellsWithin more value front → number_within more (front ++ rest) ≡ Ok (value, rest)
unfolding number_within
begins_read zero value [] rest s = absurd s
begins_read (suc more) value [] rest s = absurd s
begins_read zero value (b ∷ []) rest s = ap (λ (n : ℕ). Ok (n, rest)) (sym s)
begins_read zero value (b ∷ c ∷ bytes) rest s = absurd s
begins_read (suc more) value (b ∷ []) rest s = rw (lt-ltb b 128 s.0) (ap (λ (n : ℕ). Ok (n, rest)) (sym s.1))
begins_read (suc more) value (b ∷ c ∷ bytes) rest s =
    let inner : number_within more ((c ∷ bytes) ++ rest) ≡ Ok (s.1, rest) = begins_read more s.1 (c ∷ bytes) rest s.3 in
    rw (le-ltb b 128 s.0, inner) (ap (λ (n : ℕ). Ok (n, rest)) (omega (arith, s.0, s.2)))

-- a refusal is for want of a byte
pub refused_inside : (more : ℕ) (bytes : List ℕ) (e : ReadError) → number_within more bytes ≡ Err e → (e ≡ Short) × EndsInside (SpellsWithin more) bytes
unfolding number_within
refused_inside zero [] e h = (cc, (0, 0, [], refl))
refused_inside (suc more) [] e h = (cc, (0, 0, [], (omega arith, refl)))
refused_inside zero (b ∷ bytes) e h = absurd cc
refused_inside (suc more) (b ∷ bytes) e h =
    elim (chosen (ltb b 128) (Ok (b, bytes)) (number_within more bytes >>= λ x. Ok (b - 128 + 128 * x.0, x.1)) (Err e) h) [
      | inl last ↦ absurd (not_both (Ok (b, bytes)) (b, bytes) e refl last.1)
      | inr on ↦ elim (bind_err (number_within more bytes) (λ x. Ok (b - 128 + 128 * x.0, x.1)) e on.1) [
        | inl inner ↦
            let ends = refused_inside more bytes e inner in
            (ends.0, (b - 128 + 128 * ends.1.0, ends.1.1, ends.1.2, goes_on more b ends.1.0 (bytes ++ ends.1.1 ∷ ends.1.2) (ltb-false b 128 on.0) ends.1.3))
        | inr step ↦ absurd (not_both (Ok (b - 128 + 128 * step.0.0, step.0.1)) (b - 128 + 128 * step.0.0, step.0.1) e refl step.2)
      ]
    ]

pub inside_refused : (more : ℕ) (bytes : List ℕ) → EndsInside (SpellsWithin more) bytes → number_within more bytes ≡ Err Short
inside_refused more bytes ends =
    elim (answered (number_within more bytes)) [
      | inl read ↦
          let front = read_begins more read.0.0 bytes read.0.1 read.1 in
          let whole : bytes ++ ends.1 ∷ ends.2 ≡ front.0 ++ (read.0.1 ++ ends.1 ∷ ends.2) = ap (λ (xs : List ℕ). xs ++ ends.1 ∷ ends.2) front.2 ∙ append_assoc front.0 read.0.1 (ends.1 ∷ ends.2) in
          let one : number_within more (bytes ++ ends.1 ∷ ends.2) ≡ Ok (read.0.0, read.0.1 ++ ends.1 ∷ ends.2) = ap (number_within more) whole ∙ begins_read more read.0.0 front.0 (read.0.1 ++ ends.1 ∷ ends.2) front.1 in
          let two : number_within more (bytes ++ ends.1 ∷ ends.2) ≡ Ok (ends.0, []) = ap (number_within more) (sym (append-nil (bytes ++ ends.1 ∷ ends.2))) ∙ begins_read more ends.0 (bytes ++ ends.1 ∷ ends.2) [] ends.3 in
          let same : (read.0.0, read.0.1 ++ ends.1 ∷ ends.2) ≡ (ends.0, []) = ok_is (read.0.0, read.0.1 ++ ends.1 ∷ ends.2) (ends.0, []) (sym one ∙ two) in
          let lengths : length (read.0.1 ++ ends.1 ∷ ends.2) ≡ 0 = ap (λ (p : ℕ × List ℕ). length p.1) same in
          absurd (omega (arith, lengths, length-append read.0.1 (ends.1 ∷ ends.2)))
      | inr refused ↦ refused.1 ∙ ap (λ (d : ReadError). Err d) (refused_inside more bytes refused.0 refused.1).0
    ]

pub same_reading : (a b c d : List ℕ) (m n : ℕ) → Spells m a → Spells n b → a ++ c ≡ b ++ d → (m ≡ n) × (c ≡ d)
same_reading a b c d m n s t e =
    let both : (m, c) ≡ (n, d) = ok_is (m, c) (n, d) (sym (begins_read 8 m a c s) ∙ ap number_of e ∙ begins_read 8 n b d t) in
    (ap (λ (p : ℕ × List ℕ). p.0) both, ap (λ (p : ℕ × List ℕ). p.1) both)

pub one_reading : (m n : ℕ) (a b c d : List ℕ) → Spells m a → Spells n b → a ++ c ≡ b ++ d → (a ≡ b) × (m ≡ n)
one_reading m n a b c d s t e =
    let same = same_reading a b c d m n s t e in
    (append_cancel_right a b c (e ∙ ap (λ (xs : List ℕ). b ++ xs) (sym same.1)), same.0)

-- ---- numbers of a type

pub below_begins : (limit value : ℕ) (bytes rest : List ℕ) → number_below limit bytes ≡ Ok (value, rest) → (value < limit) × Begins Spells value bytes rest
unfolding number_below
below_begins limit value bytes rest e =
    let step = bind_ok (number_of bytes) (λ x. cond (ltb x.0 limit) (Ok x) (Err TooBig)) (value, rest) e in
    elim (chosen (ltb step.0.0 limit) (Ok step.0) (Err TooBig) (Ok (value, rest)) step.2) [
      | inl fits ↦
          let same : step.0 ≡ (value, rest) = ok_is step.0 (value, rest) fits.1 in
          let P : ℕ × List ℕ → Type 0 = λ p. (p.0 < limit) × Begins Spells p.0 bytes p.1 in
          subst P same (ltb-true step.0.0 limit fits.0, read_begins 8 step.0.0 bytes step.0.1 step.1)
      | inr big ↦ absurd (not_both (Err TooBig) (value, rest) TooBig big.1 refl)
    ]

pub begins_below : (limit value : ℕ) (bytes rest : List ℕ) → value < limit → Begins Spells value bytes rest → number_below limit bytes ≡ Ok (value, rest)
unfolding number_below
begins_below limit value bytes rest lt begins =
    let read : number_of bytes ≡ Ok (value, rest) = ap number_of begins.2 ∙ begins_read 8 value begins.0 rest begins.1 in
    rw (read, lt-ltb value limit lt) refl

pub begins_above : (limit value : ℕ) (bytes rest : List ℕ) → limit ≤ value → Begins Spells value bytes rest → number_below limit bytes ≡ Err TooBig
unfolding number_below
begins_above limit value bytes rest le begins =
    let read : number_of bytes ≡ Ok (value, rest) = ap number_of begins.2 ∙ begins_read 8 value begins.0 rest begins.1 in
    rw (read, le-ltb value limit le) refl

pub inside_below : (limit : ℕ) (bytes : List ℕ) → EndsInside Spells bytes → number_below limit bytes ≡ Err Short
unfolding number_below
inside_below limit bytes ends = let read : number_of bytes ≡ Err Short = inside_refused 8 bytes ends in rw read refl

-- why a number of a type is refused
abbrev pub Judged : ℕ → List ℕ → ReadError → Type 0
Judged limit bytes e = ((e ≡ Short) × EndsInside Spells bytes) ⊎ ((e ≡ TooBig) × (value : ℕ) × (rest : List ℕ) × (limit ≤ value) × Begins Spells value bytes rest)

pub below_refused : (limit : ℕ) (bytes : List ℕ) (e : ReadError) → number_below limit bytes ≡ Err e → Judged limit bytes e
unfolding number_below
below_refused limit bytes e h =
    elim (bind_err (number_of bytes) (λ x. cond (ltb x.0 limit) (Ok x) (Err TooBig)) e h) [
      | inl first ↦ inl (refused_inside 8 bytes e first)
      | inr step ↦ elim (chosen (ltb step.0.0 limit) (Ok step.0) (Err TooBig) (Err e) step.2) [
        | inl fits ↦ absurd (not_both (Ok step.0) step.0 e refl fits.1)
        | inr big ↦ inr (cc, step.0.0, step.0.1, ltb-false step.0.0 limit big.0, read_begins 8 step.0.0 bytes step.0.1 step.1)
      ]
    ]

-- ---- writing

pub written_spells : (more value : ℕ) → SpellsWithin more value (writes_within more value)
unfolding writes_within
written_spells zero value = refl
written_spells (suc more) value =
    elim (cases_lt value 128) [
      | inl lt ↦ rw (lt-ltb value 128 lt) (lt, refl)
      | inr le ↦
          let whole : value % 128 + 128 - 128 + 128 * (value / 128) ≡ value = omega (arith, div-add-mod value 128) in
          let made : SpellsWithin (suc more) (value % 128 + 128 - 128 + 128 * (value / 128)) ((value % 128 + 128) ∷ writes_within more (value / 128)) = goes_on more (value % 128 + 128) (value / 128) (writes_within more (value / 128)) (omega arith) (written_spells more (value / 128)) in
          rw (le-ltb value 128 le) (subst (λ (n : ℕ). SpellsWithin (suc more) n ((value % 128 + 128) ∷ writes_within more (value / 128))) whole made)
    ]

pub written_bytes : (more value : ℕ) → value < 256 * 128 ^ more → AllByRecursion (λ b. b < 256) (writes_within more value)
unfolding writes_within
written_bytes zero value lt = (omega arith, tt)
written_bytes (suc more) value lt =
    elim (cases_lt value 128) [
      | inl low ↦ rw (lt-ltb value 128 low) (omega arith, tt)
      | inr le ↦
          let power : 128 ^ suc more ≡ 128 ^ more * 128 = ap (λ (k : ℕ). 128 ^ k) (sym (add-one more)) ∙ pow_more 128 more in
          let scaled : value < 256 * 128 ^ more * 128 = subst (λ (n : ℕ). value < n) (ap (λ (n : ℕ). 256 * n) power ∙ sym (mul_assoc 256 (128 ^ more) 128)) lt in
          let high : value / 128 < 256 * 128 ^ more = (div-lt_iff_lt-mul {k = 128} {x = value} {y = 256 * 128 ^ more} (omega arith)).1 scaled in
          rw (le-ltb value 128 le) (omega arith, written_bytes more (value / 128) high)
    ]

pub written_shortest : (more value : ℕ) (bytes : List ℕ) → AllByRecursion (λ b. b < 256) bytes → SpellsWithin more value bytes → length (writes_within more value) ≤ length bytes
unfolding writes_within
written_shortest zero value [] fits s = absurd s
written_shortest (suc more) value [] fits s = absurd s
written_shortest zero value (b ∷ []) fits s = omega arith
written_shortest zero value (b ∷ c ∷ bytes) fits s = absurd s
written_shortest (suc more) value (b ∷ []) fits s = let lt : value < 128 = omega (arith, s.0, s.1) in rw (lt-ltb value 128 lt) (omega arith)
written_shortest (suc more) value (b ∷ c ∷ bytes) fits s =
    elim (cases_lt value 128) [
      | inl lt ↦ rw (lt-ltb value 128 lt) (omega arith)
      | inr le ↦
          let high : value / 128 ≡ s.1 = omega (arith, s.0, s.2, fits.0, div-add-mod value 128) in
          let inner : length (writes_within more (value / 128)) ≤ length (c ∷ bytes) = rw high (written_shortest more s.1 (c ∷ bytes) fits.1 s.3) in
          rw (le-ltb value 128 le) (omega (arith, inner))
    ]

pub written_long : (more value : ℕ) → length (writes_within more value) ≤ more + 1
unfolding writes_within
written_long zero value = omega arith
written_long (suc more) value =
    elim (cases_lt value 128) [
      | inl lt ↦ rw (lt-ltb value 128 lt) (omega arith)
      | inr le ↦ let rest : length (writes_within more (value / 128)) ≤ more + 1 = written_long more (value / 128) in rw (le-ltb value 128 le) (omega (arith, rest))
    ]
