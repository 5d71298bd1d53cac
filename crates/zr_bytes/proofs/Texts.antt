-- Byte strings: the length as a number, then the bytes. Every law is one of the length and one of what follows it.
use Rattle.std.proofs.Common.{◌≡◌, ℕ, ◌+◌, ◌-◌, ◌<◌, ◌≤◌, List, ◌∷◌, ◌++◌, length, take, drop, Ok, Err, false, cond, ltb, refl, sym, ap, subst, ◌∙◌, arith, append_assoc, inl, inr, ◌⊎◌, replicate}
use Rattle.std.proofs.lemmas.Bool.{lt-ltb, le-ltb, ltb-true, ltb-false}
use Rattle.std.proofs.lemmas.List.{take-append-drop, length-append, length-take, length-replicate, take_at, drop_at, append_cancel_right}
use Rattle.zr_bytes.specs.declared.read_error.ReadError.{ReadError}
use Rattle.zr_bytes.specs.declared.read_error.ReadError.TheVariants.{Short, TooBig}
use Rattle.zr_bytes.specs.Spelling.{Begins, EndsInside}
use Rattle.zr_bytes.specs.Number.{Spells}
use Rattle.zr_bytes.specs.Text.{SpellsText}
use Rattle.zr_bytes.specs.Reading.{Read, number_of, text_of}
use Rattle.zr_bytes.proofs.Steps.{ok_is, bind_ok, bind_err, not_both, answered, guard_ok, guard_err}
use Rattle.zr_bytes.proofs.Numbers.{read_begins, begins_read, refused_inside, same_reading}

-- what follows the length
abbrev text_after : ℕ → ℕ × List ℕ → Read (List ℕ)
text_after limit n = cond (ltb limit n.0) (Err TooBig) (cond (ltb (length n.1) n.0) (Err Short) (Ok (take n.0 n.1, drop n.0 n.1)))

pub text_begins : (limit : ℕ) (text bytes rest : List ℕ) → text_of limit bytes ≡ Ok (text, rest) → (length text ≤ limit) × Begins SpellsText text bytes rest
unfolding text_of
text_begins limit text bytes rest e =
    let step = bind_ok (number_of bytes) (text_after limit) (text, rest) e in
    let n = step.0 in
    let within = guard_ok (ltb limit n.0) TooBig (cond (ltb (length n.1) n.0) (Err Short) (Ok (take n.0 n.1, drop n.0 n.1))) (text, rest) step.2 in
    let long = guard_ok (ltb (length n.1) n.0) Short (Ok (take n.0 n.1, drop n.0 n.1)) (text, rest) within.1 in
    let same : (take n.0 n.1, drop n.0 n.1) ≡ (text, rest) = ok_is (take n.0 n.1, drop n.0 n.1) (text, rest) long.1 in
    let front = read_begins 8 n.0 bytes n.1 step.1 in
    let enough : n.0 ≤ length n.1 = ltb-false (length n.1) n.0 long.0 in
    let small : n.0 ≤ limit = ltb-false limit n.0 within.0 in
    let len : length (take n.0 n.1) ≡ n.0 = omega (arith, length-take n.0 n.1, enough) in
    let spelled : Spells (length (take n.0 n.1)) front.0 = subst (λ (k : ℕ). Spells k front.0) (sym len) front.1 in
    let parts : bytes ≡ (front.0 ++ take n.0 n.1) ++ drop n.0 n.1 = front.2 ∙ ap (λ (xs : List ℕ). front.0 ++ xs) (sym (take-append-drop n.0 n.1)) ∙ sym (append_assoc front.0 (take n.0 n.1) (drop n.0 n.1)) in
    let begins : Begins SpellsText (take n.0 n.1) bytes (drop n.0 n.1) = (front.0 ++ take n.0 n.1, (front.0, spelled, refl), parts) in
    let P : List ℕ × List ℕ → Type 0 = λ p. (length p.0 ≤ limit) × Begins SpellsText p.0 bytes p.1 in
    subst P same (omega (arith, len, small), begins)

pub begins_text : (limit : ℕ) (text bytes rest : List ℕ) → length text ≤ limit → Begins SpellsText text bytes rest → text_of limit bytes ≡ Ok (text, rest)
unfolding text_of
begins_text limit text bytes rest le begins =
    let front = begins.1.0 in
    let whole : bytes ≡ front ++ (text ++ rest) = begins.2 ∙ ap (λ (xs : List ℕ). xs ++ rest) begins.1.2 ∙ append_assoc front text rest in
    let read : number_of bytes ≡ Ok (length text, text ++ rest) = ap number_of whole ∙ begins_read 8 (length text) front (text ++ rest) begins.1.1 in
    let enough : ltb (length (text ++ rest)) (length text) ≡ false = le-ltb (length (text ++ rest)) (length text) (omega (arith, length-append text rest)) in
    rw (read, le-ltb limit (length text) le, enough, take_at text rest (length text) refl, drop_at text rest (length text) refl) refl

pub begins_too_big : (limit n : ℕ) (bytes rest : List ℕ) → limit < n → Begins Spells n bytes rest → text_of limit bytes ≡ Err TooBig
unfolding text_of
begins_too_big limit n bytes rest lt begins =
    let read : number_of bytes ≡ Ok (n, rest) = ap number_of begins.2 ∙ begins_read 8 n begins.0 rest begins.1 in
    rw (read, lt-ltb limit n lt) refl

abbrev pub IsWithin : ℕ → List ℕ → Type 0
IsWithin limit bytes = (n : ℕ) (rest : List ℕ) → Begins Spells n bytes rest → n ≤ limit

-- why a byte string is refused
abbrev pub Judged : ℕ → List ℕ → ReadError → Type 0
Judged limit bytes e = ((e ≡ Short) × IsWithin limit bytes × EndsInside SpellsText bytes) ⊎ ((e ≡ TooBig) × (n : ℕ) × (rest : List ℕ) × (limit < n) × Begins Spells n bytes rest)

-- where the bytes end inside the length, any text of that length completes them
ends_in_length : (bytes : List ℕ) → EndsInside Spells bytes → EndsInside SpellsText bytes
ends_in_length bytes ends =
    let text : List ℕ = replicate ends.0 0 in
    let spelled : Spells (length text) (bytes ++ ends.1 ∷ ends.2) = subst (λ (k : ℕ). Spells k (bytes ++ ends.1 ∷ ends.2)) (sym (length-replicate ends.0 0)) ends.3 in
    (text, ends.1, ends.2 ++ text, (bytes ++ ends.1 ∷ ends.2, spelled, sym (append_assoc bytes (ends.1 ∷ ends.2) text)))

-- where they end behind it, the bytes that are missing do
ends_in_text : (n : ℕ) (bytes rest : List ℕ) → length rest < n → Begins Spells n bytes rest → EndsInside SpellsText bytes
ends_in_text n bytes rest lt begins =
    let more : List ℕ = replicate (n - length rest - 1) 0 in
    let text : List ℕ = rest ++ 0 ∷ more in
    let len : length text ≡ n = omega (arith, length-append rest (0 ∷ more), length-replicate {A = ℕ} (n - length rest - 1) 0, lt) in
    let spelled : Spells (length text) begins.0 = subst (λ (k : ℕ). Spells k begins.0) (sym len) begins.1 in
    (text, 0, more, (begins.0, spelled, ap (λ (xs : List ℕ). xs ++ 0 ∷ more) begins.2 ∙ append_assoc begins.0 rest (0 ∷ more)))

pub text_refused : (limit : ℕ) (bytes : List ℕ) (e : ReadError) → text_of limit bytes ≡ Err e → Judged limit bytes e
unfolding text_of
text_refused limit bytes e h =
    elim (bind_err (number_of bytes) (text_after limit) e h) [
      | inl first ↦
          let ends = refused_inside 8 bytes e first in
          let within : IsWithin limit bytes = λ n rest begins. absurd (not_both (number_of bytes) (n, rest) e (ap number_of begins.2 ∙ begins_read 8 n begins.0 rest begins.1) first) in
          inl (ends.0, within, ends_in_length bytes ends.1)
      | inr step ↦
          let n = step.0 in
          let front = read_begins 8 n.0 bytes n.1 step.1 in
          elim (guard_err (ltb limit n.0) TooBig (cond (ltb (length n.1) n.0) (Err Short) (Ok (take n.0 n.1, drop n.0 n.1))) e step.2) [
            | inl big ↦ inr (big.1, n.0, n.1, ltb-true limit n.0 big.0, front)
            | inr fits ↦ elim (guard_err (ltb (length n.1) n.0) Short (Ok (take n.0 n.1, drop n.0 n.1)) e fits.1) [
              | inl short ↦
                  let within : IsWithin limit bytes = λ m rest begins.
                  let same : (m ≡ n.0) × (rest ≡ n.1) = same_reading begins.0 front.0 rest n.1 m n.0 begins.1 front.1 (sym begins.2 ∙ front.2) in
                  let small : n.0 ≤ limit = ltb-false limit n.0 fits.0 in
                  omega (arith, same.0, small) in
                  inl (short.1, within, ends_in_text n.0 bytes n.1 (ltb-true (length n.1) n.0 short.0) front)
              | inr good ↦ absurd (not_both (Ok (take n.0 n.1, drop n.0 n.1)) (take n.0 n.1, drop n.0 n.1) e refl good.1)
            ]
          ]
    ]

pub inside_text : (limit : ℕ) (bytes : List ℕ) → IsWithin limit bytes → EndsInside SpellsText bytes → text_of limit bytes ≡ Err Short
unfolding text_of
inside_text limit bytes within ends =
    elim (answered (number_of bytes)) [
      | inl read ↦
          let n = read.0 in
          let front = read_begins 8 n.0 bytes n.1 read.1 in
          let small : n.0 ≤ limit = within n.0 n.1 front in
          let whole : front.0 ++ (n.1 ++ ends.1 ∷ ends.2) ≡ ends.3.0 ++ ends.0 = sym (append_assoc front.0 n.1 (ends.1 ∷ ends.2)) ∙ ap (λ (xs : List ℕ). xs ++ ends.1 ∷ ends.2) (sym front.2) ∙ ends.3.2 in
          let same : (n.0 ≡ length ends.0) × (n.1 ++ ends.1 ∷ ends.2 ≡ ends.0) = same_reading front.0 ends.3.0 (n.1 ++ ends.1 ∷ ends.2) ends.0 n.0 (length ends.0) front.1 ends.3.1 whole in
          let lengths : length (n.1 ++ ends.1 ∷ ends.2) ≡ length ends.0 = ap length same.1 in
          let missing : length n.1 < n.0 = omega (arith, same.0, lengths, length-append n.1 (ends.1 ∷ ends.2)) in
          rw (read.1, le-ltb limit n.0 small, lt-ltb (length n.1) n.0 missing) refl
      | inr refused ↦
          let short : number_of bytes ≡ Err Short = refused.1 ∙ ap (λ (d : ReadError). Err d) (refused_inside 8 bytes refused.0 refused.1).0 in
          rw short refl
    ]

pub one_text : (s t a b c d : List ℕ) → SpellsText s a → SpellsText t b → a ++ c ≡ b ++ d → (a ≡ b) × (s ≡ t)
one_text s t a b c d p q e =
    let big : ℕ = length s + length t in
    let one : text_of big (a ++ c) ≡ Ok (s, c) = begins_text big s (a ++ c) c (omega arith) (a, p, refl) in
    let two : text_of big (b ++ d) ≡ Ok (t, d) = begins_text big t (b ++ d) d (omega arith) (b, q, refl) in
    let same : (s, c) ≡ (t, d) = ok_is (s, c) (t, d) (sym one ∙ ap (text_of big) e ∙ two) in
    let rest : c ≡ d = ap (λ (p : List ℕ × List ℕ). p.1) same in
    (append_cancel_right a b c (e ∙ ap (λ (xs : List ℕ). b ++ xs) (sym rest)), ap (λ (p : List ℕ × List ℕ). p.0) same)
