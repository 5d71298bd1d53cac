-- The payload that was read with a body stands at the body's end, and is what `payload_of` says of the body alone.
use Rattle.std.proofs.Common.{◌≡◌, ℕ, ◌+◌, ◌-◌, ◌^◌, ◌<◌, ◌≤◌, List, [], ◌∷◌, ◌++◌, length, take, drop, Ok, Err, true, cond, refl, sym, ap, subst, ◌∙◌, arith, inl, inr, eqb, bit_and}
use Rattle.std.proofs.lemmas.Bool.{eqb-true}
use Rattle.std.proofs.lemmas.List.{length-append, drop_at, append-nil, length-take-le}
use Rattle.zr_bytes.specs.declared.read_error.ReadError.TheVariants.{Short, UnknownId}
use Rattle.zr_bytes.specs.Flag.{has_flag}
use Rattle.zr_bytes.specs.Number.{writes}
use Rattle.zr_bytes.specs.Text.{writes_text}
use Rattle.zr_bytes.specs.Reading.{Read, ◌>>=◌, byte_of}
use Rattle.zr_bytes.proofs.Steps.{bind_ok, not_both, chosen}
use Rattle.zr_bytes.proofs.Numbers.{written_spells}
use Rattle.zr_bytes.proofs.Texts.{begins_text}
use Rattle.zr_format_spec.proofs.Follows.{is_read}
use Rattle.zr_body.specs.declared.place.Place.{Place}
use Rattle.zr_body.specs.declared.place.Place.TheVariants.{Push, Request, Response}
use Rattle.zr_body.specs.Body.{body_format}
use Rattle.zr_body.specs.Reading.{passed_if, no_payload, skip_timestamp, skip_number, skip_text, skip_extensions, read_payload, read_put, read_del, read_query, read_sample, read_reply, read_err, read_behind, payload_in}
use Rattle.zr_body.specs.Payload.{put_body, del_body, value_read, payload_of, IsBodyTo}
use Rattle.zr_body.proofs.Bodies.{follows_body_format, front_is}
use Rattle.zr_body.proofs.Ends.{ends_body}

-- ---- what is read, by the id

none_read : (said : Read (Unit {0})) (x rest : List ℕ) → no_payload said ≡ Ok (x, rest) → [] ≡ x
none_read said x rest e =
    let step = bind_ok said (λ a. Ok ([], a.1)) (x, rest) e in
    (is_read [] x step.0.1 rest step.2).0

del_has_none : (h : ℕ) (bytes x rest : List ℕ) → read_del h bytes ≡ Ok (x, rest) → [] ≡ x
unfolding read_del
del_has_none h bytes x rest e =
    let a = bind_ok (passed_if (has_flag h 0x20) skip_timestamp bytes) (λ a. no_payload (passed_if (has_flag h 0x80) skip_extensions a.1)) (x, rest) e in
    none_read (passed_if (has_flag h 0x80) skip_extensions a.0.1) x rest a.2

query_has_none : (h : ℕ) (bytes x rest : List ℕ) → read_query h bytes ≡ Ok (x, rest) → [] ≡ x
unfolding read_query
query_has_none h bytes x rest e =
    let last : List ℕ → Read (List ℕ) = λ b. no_payload (passed_if (has_flag h 0x80) skip_extensions b) in
    let a = bind_ok (passed_if (has_flag h 0x20) skip_number bytes) (λ a. passed_if (has_flag h 0x40) (skip_text (2 ^ 16 - 1)) a.1 >>= λ b. last b.1) (x, rest) e in
    let b = bind_ok (passed_if (has_flag h 0x40) (skip_text (2 ^ 16 - 1)) a.0.1) (λ b. last b.1) (x, rest) a.2 in
    none_read (passed_if (has_flag h 0x80) skip_extensions b.0.1) x rest b.2

-- an id decides what the payload is
module _ (put reply err : Read (List ℕ)) where
  abbrev shown : ℕ → List ℕ
  shown id = cond (eqb id 1) (value_read put) (cond (eqb id 4) (value_read reply) (cond (eqb id 5) (value_read err) []))

  shown_none : (id i : ℕ) (x : List ℕ) → shown i ≡ [] → eqb id i ≡ true → [] ≡ x → shown id ≡ x
  shown_none id i x empty same e = ap shown (eqb-true id i same) ∙ empty ∙ e

  shown_sample : (id : ℕ) (del : Read (List ℕ)) (x rest : List ℕ) → (del ≡ Ok (x, rest) → [] ≡ x) → cond (eqb id 1) put (cond (eqb id 2) del (Err UnknownId)) ≡ Ok (x, rest) → shown id ≡ x
  shown_sample id del x rest empty e =
      elim (chosen (eqb id 1) put (cond (eqb id 2) del (Err UnknownId)) (Ok (x, rest)) e) [
        | inl one ↦ rw one.0 (ap value_read one.1)
        | inr other ↦ elim (chosen (eqb id 2) del (Err UnknownId) (Ok (x, rest)) other.1) [
          | inl two ↦ shown_none id 2 x refl two.0 (empty two.1)
          | inr none ↦ absurd (not_both (Ok (x, rest)) (x, rest) UnknownId refl (sym none.1))
        ]
      ]

  shown_query : (id : ℕ) (query : Read (List ℕ)) (x rest : List ℕ) → (query ≡ Ok (x, rest) → [] ≡ x) → cond (eqb id 3) query (Err UnknownId) ≡ Ok (x, rest) → shown id ≡ x
  shown_query id query x rest empty e =
      elim (chosen (eqb id 3) query (Err UnknownId) (Ok (x, rest)) e) [
        | inl three ↦ shown_none id 3 x refl three.0 (empty three.1)
        | inr none ↦ absurd (not_both (Ok (x, rest)) (x, rest) UnknownId refl (sym none.1))
      ]

  shown_answer : (id : ℕ) (x rest : List ℕ) → cond (eqb id 4) reply (cond (eqb id 5) err (Err UnknownId)) ≡ Ok (x, rest) → shown id ≡ x
  shown_answer id x rest e =
      elim (chosen (eqb id 4) reply (cond (eqb id 5) err (Err UnknownId)) (Ok (x, rest)) e) [
        | inl four ↦ ap shown (eqb-true id 4 four.0) ∙ ap value_read four.1
        | inr other ↦ elim (chosen (eqb id 5) err (Err UnknownId) (Ok (x, rest)) other.1) [
          | inl five ↦ ap shown (eqb-true id 5 five.0) ∙ ap value_read five.1
          | inr none ↦ absurd (not_both (Ok (x, rest)) (x, rest) UnknownId refl (sym none.1))
        ]
      ]

payload_is : (place : Place) (body x rest : List ℕ) → payload_in place body ≡ Ok (x, rest) → payload_of body ≡ x
unfolding payload_in byte_of read_behind read_sample
payload_is place [] x rest e = absurd (not_both (Ok (x, rest)) (x, rest) Short refl (sym e))
payload_is Push (h ∷ bytes) x rest e =
    shown_sample (read_put h bytes) (read_reply h bytes) (read_err h bytes) (bit_and h 0x1F) (read_del h bytes) x rest (del_has_none h bytes x rest) e
payload_is Request (h ∷ bytes) x rest e =
    shown_query (read_put h bytes) (read_reply h bytes) (read_err h bytes) (bit_and h 0x1F) (read_query h bytes) x rest (query_has_none h bytes x rest) e
payload_is Response (h ∷ bytes) x rest e =
    shown_answer (read_put h bytes) (read_reply h bytes) (read_err h bytes) (bit_and h 0x1F) x rest e

-- ---- whole bodies

pub is_body_to : (place : Place) (body x : List ℕ) → payload_in place body ≡ Ok (x, []) → IsBodyTo (length body - length x) body
is_body_to place body x e =
    let begins = ((follows_body_format place).found body [] x e).0 in
    let whole : begins.0 ≡ body = sym (begins.2 ∙ append-nil begins.0) in
    let cut = (ends_body place).ends x begins.0 begins.1 in
    let parted : body ≡ cut.0 ++ x = sym whole ∙ cut.1 in
    let total : length body ≡ length cut.0 + length x = ap length parted ∙ length-append cut.0 x in (
      (place, (x, subst ((body_format place).spelled x) whole begins.1)),
      omega (arith, total),
      ap (drop (length body - length x)) parted ∙ drop_at cut.0 x (length body - length x) (omega (arith, total)) ∙ sym (payload_is place body x [] e),
    )

-- what was read of some bytes is read of the body alone
body_alone : (place : Place) (bytes rest x : List ℕ) → payload_in place bytes ≡ Ok (x, rest) → payload_in place (take (length bytes - length rest) bytes) ≡ Ok (x, [])
body_alone place bytes rest x e =
    let begins = ((follows_body_format place).found bytes rest x e).0 in
    let front : take (length bytes - length rest) bytes ≡ begins.0 = ap (λ (xs : List ℕ). take (length xs - length rest) xs) begins.2 ∙ front_is begins.0 rest in
    ap (payload_in place) (front ∙ sym (append-nil begins.0)) ∙ (follows_body_format place).again begins.0 [] x begins.1 tt

pub payload_fits : (place : Place) (bytes rest x : List ℕ) → payload_in place bytes ≡ Ok (x, rest) → length x + length rest ≤ length bytes
payload_fits place bytes rest x e =
    let begins = ((follows_body_format place).found bytes rest x e).0 in
    let cut = (ends_body place).ends x begins.0 begins.1 in
    omega (arith, ap length begins.2, length-append begins.0 rest, ap length cut.1, length-append cut.0 x)

pub read_is_body : (place : Place) (bytes rest x : List ℕ) → payload_in place bytes ≡ Ok (x, rest) → IsBodyTo (length bytes - length rest - length x) (take (length bytes - length rest) bytes)
read_is_body place bytes rest x e =
    let body : List ℕ = take (length bytes - length rest) bytes in
    let total : length body ≡ length bytes - length rest = length-take-le (length bytes - length rest) bytes (omega arith) in
    subst (λ (n : ℕ). IsBodyTo (n - length x) body) total (is_body_to place body x (body_alone place bytes rest x e))

pub put_read : (payload : List ℕ) → length payload < 2 ^ 32 → payload_in Push (put_body payload) ≡ Ok (payload, [])
unfolding payload_in byte_of read_behind read_sample read_put read_payload
put_read payload small =
    begins_text (2 ^ 32 - 1) payload (writes_text payload) [] (omega (arith, small)) (writes_text payload, (writes (length payload), written_spells 8 (length payload), refl), sym (append-nil (writes_text payload)))

pub del_read : payload_in Push del_body ≡ Ok ([], [])
unfolding payload_in byte_of read_behind read_sample read_del
del_read = refl

-- the body that a script makes, with what follows the head of what it was made of
pub put_is_body : (payload : List ℕ) (start : ℕ) → length payload < 2 ^ 32 → start + length payload ≡ length (put_body payload) → IsBodyTo start (put_body payload)
put_is_body payload start small e =
    let at : start ≡ length (put_body payload) - length payload = omega (arith, e) in
    subst (λ (n : ℕ). IsBodyTo n (put_body payload)) (sym at) (is_body_to Push (put_body payload) payload (put_read payload small))

pub del_is_body : IsBodyTo 1 del_body
del_is_body = is_body_to Push del_body [] del_read
