-- The bodies that a script makes are read as they stand.
use Rattle.std.proofs.Common.{◌≡◌, ℕ, ◌-◌, ◌^◌, ◌<◌, ◌≤◌, ◌==◌, ◌&&◌, not, nat_lt, nat_le, true, List, [], ◌++◌, length, take, Ok, refl, sym, ap, ◌∙◌, arith, append_assoc}
use Rattle.std.specs.List.{list_all}
use Rattle.std.proofs.lemmas.Bool.{and_parts, leb-true, ltb-true, ne_eqb}
use Rattle.std.proofs.lemmas.List.{take_all, append-nil}
use Rattle.zr_id.specs.Zid.{is_zid}
use Rattle.zr_bytes.specs.Number.{writes}
use Rattle.zr_bytes.specs.Text.{writes_text}
use Rattle.zr_bytes.specs.Reading.{◌>>=◌, byte_of, number_within, number_of, text_of}
use Rattle.zr_bytes.proofs.Numbers.{begins_read, written_spells}
use Rattle.zr_bytes.proofs.Texts.{begins_text}
use Rattle.zr_body.specs.declared.place.Place.TheVariants.{Request, Response}
use Rattle.zr_body.specs.Reading.{read_behind, read_query, read_reply, read_sample, read_put, read_payload, skip_number, skip_timestamp, skip_some_text, payload_in, body_of}
use Rattle.zr_body.proofs.Payloads.{put_read}
use Rattle.zr_script_spec.specs.Command.{query_body, latest_body, reply_body, timed_body}

pub query_read : body_of Request query_body ≡ Ok (query_body, [])
unfolding body_of payload_in byte_of read_behind read_query
query_read = refl

pub latest_read : body_of Request latest_body ≡ Ok (latest_body, [])
unfolding body_of payload_in byte_of number_within read_behind read_query skip_number
latest_read = refl

reply_payload : (payload : List ℕ) → length payload < 2 ^ 32 → payload_in Response (reply_body payload) ≡ Ok (payload, [])
unfolding payload_in byte_of read_behind read_reply
reply_payload payload small = put_read payload small

-- a time and a clock are passed over, whatever follows
stamp_passed : (time : ℕ) (clock rest : List ℕ) → 0 < length clock → length clock ≤ 16 → skip_timestamp (writes time ++ writes_text clock ++ rest) ≡ Ok (tt, rest)
unfolding skip_timestamp skip_number skip_some_text
stamp_passed time clock rest some most =
    let number : number_of (writes time ++ writes_text clock ++ rest) ≡ Ok (time, writes_text clock ++ rest) =
    ap number_of (append_assoc (writes time) (writes_text clock) rest) ∙ begins_read 8 time (writes time) (writes_text clock ++ rest) (written_spells 8 time) in
    let text : text_of 16 (writes_text clock ++ rest) ≡ Ok (clock, rest) =
    begins_text 16 clock (writes_text clock ++ rest) rest most (writes_text clock, (writes (length clock), written_spells 8 (length clock), refl), refl) in
    rw (number, text, ne_eqb (length clock) 0 (λ e. absurd (omega (arith, e, some)))) refl

timed_payload : (time : ℕ) (clock payload : List ℕ) → 0 < length clock → length clock ≤ 16 → length payload < 2 ^ 32 →
    payload_in Response (timed_body time clock payload) ≡ Ok (payload, [])
unfolding payload_in byte_of read_behind read_reply read_sample read_put read_payload
timed_payload time clock payload some most small =
    rw (stamp_passed time clock (writes_text payload) some most)
    (begins_text (2 ^ 32 - 1) payload (writes_text payload) [] (omega (arith, small)) (writes_text payload, (writes (length payload), written_spells 8 (length payload), refl), sym (append-nil (writes_text payload))))

-- of a body of which no byte is left, all is kept
whole_read : (body payload : List ℕ) → payload_in Response body ≡ Ok (payload, []) → body_of Response body ≡ Ok (body, [])
unfolding body_of
whole_read body payload read =
    ap (λ said. said >>= λ x. Ok (take (length body - length x.1) body, x.1)) read ∙ ap (λ bytes. Ok (bytes, [])) (take_all (length body - 0) body (omega arith))

pub reply_read : (payload : List ℕ) → length payload < 2 ^ 32 → body_of Response (reply_body payload) ≡ Ok (reply_body payload, [])
reply_read payload small = whole_read (reply_body payload) payload (reply_payload payload small)

pub timed_read : (time : ℕ) (clock payload : List ℕ) → is_zid clock ≡ true → length payload < 2 ^ 32 →
    body_of Response (timed_body time clock payload) ≡ Ok (timed_body time clock payload, [])
timed_read time clock payload named small =
    let parts = and_parts (nat_lt 0 (length clock) && nat_le (length clock) 16) (not (list_all (λ b. b == 0) clock)) named in
    let sizes = and_parts (nat_lt 0 (length clock)) (nat_le (length clock) 16) parts.0 in
    whole_read (timed_body time clock payload) payload
    (timed_payload time clock payload (ltb-true 0 (length clock) sizes.0) (leb-true (length clock) 16 sizes.1) small)
