-- Chains, extension by extension: the number of turns that are left is at least that of the bytes that are left.
use Rattle.std.proofs.Common.{◌≡◌, ℕ, zero, suc, ◌<◌, ◌≤◌, List, [], ◌∷◌, ◌++◌, length, Ok, Err, Bool, true, false, cond, refl, sym, ap, subst, ◌∙◌, arith, append_assoc, inl, inr}
use Rattle.std.proofs.lemmas.Bool.{and_parts, and_from}
use Rattle.std.proofs.lemmas.List.{length-append, append_cancel_right}
use Rattle.zr_bytes.specs.declared.read_error.ReadError.{ReadError}
use Rattle.zr_bytes.specs.declared.read_error.ReadError.TheVariants.{Short}
use Rattle.zr_bytes.specs.Spelling.{Begins}
use Rattle.zr_bytes.specs.Reading.{Read, ◌>>=◌}
use Rattle.zr_bytes.proofs.Steps.{ok_is, bind_ok, bind_err, not_both, chosen}
use Rattle.zr_ext.specs.declared.ext.Ext.{Ext}
use Rattle.zr_ext.specs.declared.ext.Form.{Form}
use Rattle.zr_ext.specs.Chain.{SpellsExt, SpellsOpen, SpellsAll, SpellsChain, are_admitted, kept}
use Rattle.zr_ext.specs.Reading.{ext_of, exts_within, chain_of}
use Rattle.zr_ext.specs.Refusals.{StopsAt, IsRefused}
use Rattle.zr_ext.proofs.One.{admits, ext_found, ext_read, ext_refused, stops_refused}

-- the answer with the extensions that follow the first one
abbrev more_of : Ext → Read (List Ext) → Read (List Ext)
more_of ext said = said >>= λ others. Ok (ext ∷ others.0, others.1)

ext_length : (ext : Ext) (more : Bool) (front : List ℕ) → SpellsExt ext more front → 0 < length front
ext_length ext more [] spelled = absurd spelled
ext_length ext more (header ∷ front) spelled = omega arith

spells_more : (ext : Ext) (exts : List Ext) (front back : List ℕ) → SpellsExt ext true front → SpellsAll exts back → SpellsAll (ext ∷ exts) (front ++ back)
spells_more ext [] front back first others = absurd others
spells_more ext (next ∷ exts) front back first others = (front, back, refl, first, others)

-- what is read are extensions that are spelled here, and none is refused
pub record AreFound (known : List (ℕ × Form)) (exts : List Ext) (bytes rest : List ℕ) : Type 0 where
  pub front : List ℕ
  pub spelled : SpellsAll exts front
  pub whole : bytes ≡ front ++ rest
  pub admitted : are_admitted known exts ≡ true

pub exts_found : (n : ℕ) (known : List (ℕ × Form)) (exts : List Ext) (bytes rest : List ℕ) → exts_within n known bytes ≡ Ok (exts, rest) → AreFound known exts bytes rest
unfolding exts_within
exts_found zero known exts bytes rest e = absurd (not_both (Err Short) (exts, rest) Short e refl)
exts_found (suc n) known exts bytes rest e =
    let step = bind_ok (ext_of known bytes) (λ x. cond x.0.1 (more_of x.0.0 (exts_within n known x.1)) (Ok (x.0.0 ∷ [], x.1))) (exts, rest) e in
    let x = step.0.0 in
    let one = ext_found known x bytes step.0.1 step.1 in
    elim (chosen x.1 (more_of x.0 (exts_within n known step.0.1)) (Ok (x.0 ∷ [], step.0.1)) (Ok (exts, rest)) step.2) [
      | inl more ↦
          let others = bind_ok (exts_within n known step.0.1) (λ o. Ok (x.0 ∷ o.0, o.1)) (exts, rest) more.1 in
          let inner = exts_found n known others.0.0 step.0.1 others.0.1 others.1 in
          let same : (x.0 ∷ others.0.0, others.0.1) ≡ (exts, rest) = ok_is (x.0 ∷ others.0.0, others.0.1) (exts, rest) others.2 in
          let first : SpellsExt x.0 true one.front = subst (λ (b : Bool). SpellsExt x.0 b one.front) more.0 one.spelled in
          let found : AreFound known (x.0 ∷ others.0.0) bytes others.0.1 = record {
            front = one.front ++ inner.front;
            spelled = spells_more x.0 others.0.0 one.front inner.front first inner.spelled;
            whole = one.whole ∙ ap (λ (xs : List ℕ). one.front ++ xs) inner.whole ∙ sym (append_assoc one.front inner.front others.0.1);
            admitted = and_from (admits known x.0) (are_admitted known others.0.0) one.admitted inner.admitted;
          } in
          let P : List Ext × List ℕ → Type 0 = λ p. AreFound known p.0 bytes p.1 in
          subst P same found
      | inr last ↦
          let same : (x.0 ∷ [], step.0.1) ≡ (exts, rest) = ok_is (x.0 ∷ [], step.0.1) (exts, rest) last.1 in
          let found : AreFound known (x.0 ∷ []) bytes step.0.1 = record {
            front = one.front;
            spelled = subst (λ (b : Bool). SpellsExt x.0 b one.front) last.0 one.spelled;
            whole = one.whole;
            admitted = and_from (admits known x.0) true one.admitted refl;
          } in
          let P : List Ext × List ℕ → Type 0 = λ p. AreFound known p.0 bytes p.1 in
          subst P same found
    ]

pub exts_read : (n : ℕ) (known : List (ℕ × Form)) (exts : List Ext) (front rest : List ℕ) → SpellsAll exts front → are_admitted known exts ≡ true → length exts ≤ n
    → exts_within n known (front ++ rest) ≡ Ok (exts, rest)
unfolding exts_within
exts_read n known [] front rest spelled admitted le = absurd spelled
exts_read zero known (ext ∷ exts) front rest spelled admitted le = absurd (omega arith)
exts_read (suc n) known (ext ∷ []) front rest spelled admitted le =
    let read : ext_of known (front ++ rest) ≡ Ok ((ext, false), rest) =
    ext_read known (ext, false) (front ++ rest) rest (record { front = front; spelled = spelled; whole = refl; admitted = (and_parts (admits known ext) true admitted).0 }) in
    rw read refl
exts_read (suc n) known (ext ∷ next ∷ exts) front rest spelled admitted le =
    let whole : front ++ rest ≡ spelled.0 ++ (spelled.1 ++ rest) = ap (λ (xs : List ℕ). xs ++ rest) spelled.2 ∙ append_assoc spelled.0 spelled.1 rest in
    let read : ext_of known (front ++ rest) ≡ Ok ((ext, true), spelled.1 ++ rest) =
    ext_read known (ext, true) (front ++ rest) (spelled.1 ++ rest) (record { front = spelled.0; spelled = spelled.3; whole = whole; admitted = (and_parts (admits known ext) (are_admitted known (next ∷ exts)) admitted).0 }) in
    let others : exts_within n known (spelled.1 ++ rest) ≡ Ok (next ∷ exts, rest) =
    exts_read n known (next ∷ exts) spelled.1 rest spelled.4 ((and_parts (admits known ext) (are_admitted known (next ∷ exts)) admitted).1) (omega arith) in
    rw read (rw others refl)

pub exts_length : (exts : List Ext) (front : List ℕ) → SpellsAll exts front → length exts ≤ length front
exts_length [] front spelled = absurd spelled
exts_length (ext ∷ []) front spelled = omega (arith, ext_length ext false front spelled)
exts_length (ext ∷ next ∷ exts) front spelled =
    omega (arith, ext_length ext true spelled.0 spelled.3, exts_length (next ∷ exts) spelled.1 spelled.4, ap length spelled.2, length-append spelled.0 spelled.1)

none_left : (bytes : List ℕ) → length bytes ≤ 0 → bytes ≡ []
none_left [] le = refl
none_left (b ∷ bytes) le = absurd (omega arith)

pub exts_refused : (n : ℕ) (known : List (ℕ × Form)) (bytes : List ℕ) (e : ReadError) → length bytes ≤ n → exts_within n known bytes ≡ Err e → IsRefused known e bytes
unfolding exts_within
exts_refused zero known bytes e le h =
    record { before = []; front = []; back = bytes; whole = refl; spelled = refl; admitted = refl; stops = subst (λ (xs : List ℕ). StopsAt known e xs) (sym (none_left bytes le)) cc }
exts_refused (suc n) known bytes e le h =
    elim (bind_err (ext_of known bytes) (λ x. cond x.0.1 (more_of x.0.0 (exts_within n known x.1)) (Ok (x.0.0 ∷ [], x.1))) e h) [
      | inl first ↦ record { before = []; front = []; back = bytes; whole = refl; spelled = refl; admitted = refl; stops = ext_refused known bytes e first }
      | inr step ↦
          let x = step.0.0 in
          let one = ext_found known x bytes step.0.1 step.1 in
          elim (chosen x.1 (more_of x.0 (exts_within n known step.0.1)) (Ok (x.0 ∷ [], step.0.1)) (Err e) step.2) [
            | inl more ↦ elim (bind_err (exts_within n known step.0.1) (λ o. Ok (x.0 ∷ o.0, o.1)) e more.1) [
              | inl inner ↦
                  let shorter : length step.0.1 ≤ n = omega (arith, le, ext_length x.0 x.1 one.front one.spelled, ap length one.whole, length-append one.front step.0.1) in
                  let r = exts_refused n known step.0.1 e shorter inner in
                  record {
                    before = x.0 ∷ r.before;
                    front = one.front ++ r.front;
                    back = r.back;
                    whole = one.whole ∙ ap (λ (xs : List ℕ). one.front ++ xs) r.whole ∙ sym (append_assoc one.front r.front r.back);
                    spelled = (one.front, r.front, refl, subst (λ (b : Bool). SpellsExt x.0 b one.front) more.0 one.spelled, r.spelled);
                    admitted = and_from (admits known x.0) (are_admitted known r.before) one.admitted r.admitted;
                    stops = r.stops;
                  }
              | inr end ↦ absurd (not_both (Ok (x.0 ∷ end.0.0, end.0.1)) (x.0 ∷ end.0.0, end.0.1) e refl end.2)
            ]
            | inr last ↦ absurd (not_both (Ok (x.0 ∷ [], step.0.1)) (x.0 ∷ [], step.0.1) e refl last.1)
          ]
    ]

pub open_refused : (n : ℕ) (known : List (ℕ × Form)) (before : List Ext) (front back : List ℕ) (e : ReadError) → length (front ++ back) ≤ n
    → SpellsOpen before front → are_admitted known before ≡ true → StopsAt known e back → exts_within n known (front ++ back) ≡ Err e
unfolding exts_within
open_refused zero known [] front back e le spelled admitted stops =
    let none : back ≡ [] = none_left back (omega (arith, le, length-append front back)) in
    let P : List ℕ → Type 0 = λ xs. StopsAt known e xs in
    let short : e ≡ Short = subst P none stops in
    ap (λ (d : ReadError). Err d) (sym short)
open_refused (suc n) known [] front back e le spelled admitted stops =
    let refused : ext_of known (front ++ back) ≡ Err e = ap (λ (xs : List ℕ). ext_of known (xs ++ back)) spelled ∙ stops_refused known back e stops in
    rw refused refl
open_refused zero known (ext ∷ before) front back e le spelled admitted stops =
    absurd (omega (arith, le, length-append front back, ext_length ext true spelled.0 spelled.3, ap length spelled.2, length-append spelled.0 spelled.1))
open_refused (suc n) known (ext ∷ before) front back e le spelled admitted stops =
    let whole : front ++ back ≡ spelled.0 ++ (spelled.1 ++ back) = ap (λ (xs : List ℕ). xs ++ back) spelled.2 ∙ append_assoc spelled.0 spelled.1 back in
    let read : ext_of known (front ++ back) ≡ Ok ((ext, true), spelled.1 ++ back) =
    ext_read known (ext, true) (front ++ back) (spelled.1 ++ back) (record { front = spelled.0; spelled = spelled.3; whole = whole; admitted = (and_parts (admits known ext) (are_admitted known before) admitted).0 }) in
    let shorter : length (spelled.1 ++ back) ≤ n = omega (arith, le, ap length whole, length-append spelled.0 (spelled.1 ++ back), ext_length ext true spelled.0 spelled.3) in
    let inner : exts_within n known (spelled.1 ++ back) ≡ Err e = open_refused n known before spelled.1 back e shorter spelled.4 ((and_parts (admits known ext) (are_admitted known before) admitted).1) stops in
    rw read (rw inner refl)

-- ---- chains

pub chain_found : (known : List (ℕ × Form)) (bytes rest : List ℕ) (exts : List Ext) → chain_of known bytes ≡ Ok (exts, rest) → Begins (SpellsChain known) exts bytes rest
unfolding chain_of
chain_found known bytes rest exts e =
    let step = bind_ok (exts_within (length bytes) known bytes) (λ x. Ok (kept known x.0, x.1)) (exts, rest) e in
    let found = exts_found (length bytes) known step.0.0 bytes step.0.1 step.1 in
    let same : (kept known step.0.0, step.0.1) ≡ (exts, rest) = ok_is (kept known step.0.0, step.0.1) (exts, rest) step.2 in
    let P : List Ext × List ℕ → Type 0 = λ p. Begins (SpellsChain known) p.0 bytes p.1 in
    subst P same (found.front, (step.0.0, found.spelled, found.admitted, refl), found.whole)

pub chain_read : (known : List (ℕ × Form)) (bytes rest : List ℕ) (exts : List Ext) → Begins (SpellsChain known) exts bytes rest → chain_of known bytes ≡ Ok (exts, rest)
unfolding chain_of
chain_read known bytes rest exts b =
    let all = b.1.0 in
    let long : length all ≤ length bytes = omega (arith, exts_length all b.0 b.1.1, ap length b.2, length-append b.0 rest) in
    let read : exts_within (length bytes) known bytes ≡ Ok (all, rest) = ap (exts_within (length bytes) known) b.2 ∙ exts_read (length bytes) known all b.0 rest b.1.1 b.1.2 long in
    rw read (ap (λ (xs : List Ext). Ok (xs, rest)) (sym b.1.3))

pub chain_refused : (known : List (ℕ × Form)) (bytes : List ℕ) (e : ReadError) → chain_of known bytes ≡ Err e → IsRefused known e bytes
unfolding chain_of
chain_refused known bytes e h =
    elim (bind_err (exts_within (length bytes) known bytes) (λ x. Ok (kept known x.0, x.1)) e h) [
      | inl first ↦ exts_refused (length bytes) known bytes e (omega arith) first
      | inr step ↦ absurd (not_both (Ok (kept known step.0.0, step.0.1)) (kept known step.0.0, step.0.1) e refl step.2)
    ]

pub refused_chain : (known : List (ℕ × Form)) (bytes : List ℕ) (e : ReadError) → IsRefused known e bytes → chain_of known bytes ≡ Err e
unfolding chain_of
refused_chain known bytes e r =
    let inner : exts_within (length bytes) known bytes ≡ Err e = ap (exts_within (length bytes) known) r.whole
    ∙ open_refused (length bytes) known r.before r.front r.back e (omega (arith, ap length r.whole)) r.spelled r.admitted r.stops in
    rw inner refl

pub one_chain : (known : List (ℕ × Form)) (x y : List Ext) (a b c d : List ℕ) → SpellsChain known x a → SpellsChain known y b → a ++ c ≡ b ++ d → (a ≡ b) × (x ≡ y)
one_chain known x y a b c d p q e =
    let one : chain_of known (a ++ c) ≡ Ok (x, c) = chain_read known (a ++ c) c x (a, p, refl) in
    let two : chain_of known (b ++ d) ≡ Ok (y, d) = chain_read known (b ++ d) d y (b, q, refl) in
    let same : (x, c) ≡ (y, d) = ok_is (x, c) (y, d) (sym one ∙ ap (chain_of known) e ∙ two) in
    let rest : c ≡ d = ap (λ (p : List Ext × List ℕ). p.1) same in
    (append_cancel_right a b c (e ∙ ap (λ (xs : List ℕ). b ++ xs) (sym rest)), ap (λ (p : List Ext × List ℕ). p.0) same)
