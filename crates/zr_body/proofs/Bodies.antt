-- The reader of bodies follows their format, put together part by part.
use Rattle.std.proofs.Common.{◌≡◌, ℕ, ◌-◌, ◌%◌, ◌^◌, List, [], ◌++◌, length, take, Ok, Err, Bool, cond, refl, sym, ap, subst, ◌∙◌, arith, inl, inr, eqb}
use Rattle.std.proofs.lemmas.List.{length-append, take_at}
use Rattle.zr_bytes.specs.declared.read_error.ReadError.{ReadError}
use Rattle.zr_bytes.specs.declared.read_error.ReadError.TheVariants.{UnknownId, BadText}
use Rattle.zr_bytes.specs.Flag.{has_id, has_flag}
use Rattle.zr_bytes.specs.Spelling.{Begins}
use Rattle.zr_bytes.specs.Reading.{◌>>=◌, byte_of, number_of, number_below, text_of}
use Rattle.zr_bytes.proofs.Steps.{ok_is, bind_ok, bind_err, not_both}
use Rattle.zr_ext.specs.Reading.{chain_of}
use Rattle.zr_format_spec.specs.Format.{Format, gives, fails, unknown, choose, ◌then◌, passed, byte, number, below, text, chain}
use Rattle.zr_format_spec.specs.Reading.{Reader}
use Rattle.zr_format_spec.specs.Laws.{anywhere}
use Rattle.zr_format_spec.proofs.Follows.{Follows, follows_gives, follows_fails, follows_unknown, follows_choose, follows_then, follows_passed, follows_byte, follows_number, follows_below, follows_text, follows_chain}
use Rattle.zr_body.specs.declared.place.Place.{Place}
use Rattle.zr_body.specs.declared.place.Place.TheVariants.{Push, Request, Response}
use Rattle.zr_body.specs.Body.{when, some_text, timestamp, encoding, payload, put, del, query, sample, reply, err, behind, body_format, body}
use Rattle.zr_body.specs.Reading.{passed_if, skip_number, skip_text, skip_some_text, skip_timestamp, skip_encoding, skip_extensions, read_payload, read_put, read_del, read_query, read_sample, read_reply, read_err, read_behind, payload_in, body_of}

-- ---- what is passed over

follows_when : (flag : Bool) (p : Format (Unit {0})) (r : Reader (Unit {0})) → Follows anywhere p r → Follows anywhere (when flag p) (passed_if flag r)
follows_when flag p r f = follows_choose anywhere flag p (gives tt) r (λ bytes. Ok (tt, bytes)) f (follows_gives anywhere tt (λ rest. tt))

skips_number : Follows anywhere (passed number) skip_number
unfolding skip_number
skips_number = follows_passed number number_of follows_number

skips_text : (limit : ℕ) → Follows anywhere (passed (text limit)) (skip_text limit)
unfolding skip_text
skips_text limit = follows_passed (text limit) (text_of limit) (follows_text limit)

skips_some_text : (limit : ℕ) → Follows anywhere (some_text limit) (skip_some_text limit)
unfolding skip_some_text
skips_some_text limit =
    follows_then anywhere (text limit) (λ t. choose (eqb (length t) 0) (fails BadText) (gives tt)) (text_of limit) (λ t bytes. cond (eqb (length t) 0) (Err BadText) (Ok (tt, bytes))) (follows_text limit)
    (λ t. follows_choose anywhere (eqb (length t) 0) (fails BadText) (gives tt) (λ bytes. Err BadText) (λ bytes. Ok (tt, bytes)) (follows_fails anywhere BadText) (follows_gives anywhere tt (λ rest. tt)))

skips_timestamp : Follows anywhere timestamp skip_timestamp
unfolding skip_timestamp
skips_timestamp = follows_then anywhere (passed number) (λ time. some_text 16) skip_number (λ time. skip_some_text 16) skips_number (λ time. skips_some_text 16)

skips_encoding : Follows anywhere encoding skip_encoding
unfolding skip_encoding
skips_encoding =
    follows_then anywhere (below (2 ^ 32)) (λ n. when (eqb (n % 2) 1) (passed (text 255))) (number_below (2 ^ 32)) (λ n. passed_if (eqb (n % 2) 1) (skip_text 255)) (follows_below (2 ^ 32))
    (λ n. follows_when (eqb (n % 2) 1) (passed (text 255)) (skip_text 255) (skips_text 255))

skips_extensions : Follows anywhere (passed (chain [])) skip_extensions
unfolding skip_extensions
skips_extensions = follows_passed (chain []) (chain_of []) (follows_chain [])

-- one part that is passed over where its flag is set, and what follows it
passes : (flag : Bool) (p : Format (Unit {0})) (q : Format (List ℕ)) (r : Reader (Unit {0})) (s : Reader (List ℕ)) → Follows anywhere p r → Follows anywhere q s
    → Follows anywhere (when flag p then λ x. q) (λ bytes. passed_if flag r bytes >>= λ x. s x.1)
passes flag p q r s first then_this = follows_then anywhere (when flag p) (λ x. q) (passed_if flag r) (λ x. s) (follows_when flag p r first) (λ x. then_this)

-- ---- bodies

follows_payload : Follows anywhere payload read_payload
unfolding read_payload
follows_payload = follows_text (2 ^ 32 - 1)

follows_none : Follows {X = List ℕ} anywhere (gives []) (λ bytes. Ok ([], bytes))
follows_none = follows_gives anywhere [] (λ rest. tt)

follows_put : (h : ℕ) → Follows anywhere (put h) (read_put h)
unfolding read_put
follows_put h =
    passes (has_flag h 0x20) timestamp _ skip_timestamp _ skips_timestamp
    (passes (has_flag h 0x40) encoding _ skip_encoding _ skips_encoding
    (passes (has_flag h 0x80) (passed (chain [])) payload skip_extensions read_payload skips_extensions follows_payload))

follows_del : (h : ℕ) → Follows anywhere (del h) (read_del h)
unfolding read_del
follows_del h =
    passes (has_flag h 0x20) timestamp _ skip_timestamp _ skips_timestamp
    (passes (has_flag h 0x80) (passed (chain [])) (gives []) skip_extensions (λ bytes. Ok ([], bytes)) skips_extensions follows_none)

follows_query : (h : ℕ) → Follows anywhere (query h) (read_query h)
unfolding read_query
follows_query h =
    passes (has_flag h 0x20) (passed number) _ skip_number _ skips_number
    (passes (has_flag h 0x40) (passed (text (2 ^ 16 - 1))) _ (skip_text (2 ^ 16 - 1)) _ (skips_text (2 ^ 16 - 1))
    (passes (has_flag h 0x80) (passed (chain [])) (gives []) skip_extensions (λ bytes. Ok ([], bytes)) skips_extensions follows_none))

follows_sample : (h : ℕ) → Follows anywhere (sample h) (read_sample h)
unfolding read_sample
follows_sample h =
    follows_choose anywhere (has_id h 1) (put h) _ (read_put h) _ (follows_put h)
    (follows_choose anywhere (has_id h 2) (del h) unknown (read_del h) (λ bytes. Err UnknownId) (follows_del h) (follows_unknown anywhere))

follows_reply : (h : ℕ) → Follows anywhere (reply h) (read_reply h)
unfolding read_reply
follows_reply h =
    passes (has_flag h 0x20) (passed number) _ skip_number _ skips_number
    (passes (has_flag h 0x80) (passed (chain [])) _ skip_extensions _ skips_extensions
    (follows_then anywhere byte sample byte_of read_sample follows_byte follows_sample))

follows_err : (h : ℕ) → Follows anywhere (err h) (read_err h)
unfolding read_err
follows_err h =
    passes (has_flag h 0x40) encoding _ skip_encoding _ skips_encoding
    (passes (has_flag h 0x80) (passed (chain [])) payload skip_extensions read_payload skips_extensions follows_payload)

follows_behind : (place : Place) (h : ℕ) → Follows anywhere (behind place h) (read_behind place h)
unfolding read_behind
follows_behind Push h = follows_sample h
follows_behind Request h = follows_choose anywhere (has_id h 3) (query h) unknown (read_query h) (λ bytes. Err UnknownId) (follows_query h) (follows_unknown anywhere)
follows_behind Response h =
    follows_choose anywhere (has_id h 4) (reply h) _ (read_reply h) _ (follows_reply h)
    (follows_choose anywhere (has_id h 5) (err h) unknown (read_err h) (λ bytes. Err UnknownId) (follows_err h) (follows_unknown anywhere))

pub follows_body_format : (place : Place) → Follows anywhere (body_format place) (payload_in place)
unfolding payload_in
follows_body_format place = follows_then anywhere byte (behind place) byte_of (read_behind place) follows_byte (follows_behind place)

-- ---- a body as its bytes

-- what stands before the rest
pub front_is : (front rest : List ℕ) → take (length (front ++ rest) - length rest) (front ++ rest) ≡ front
front_is front rest = take_at front rest (length (front ++ rest) - length rest) (omega (arith, length-append front rest))

body_found : (place : Place) (bytes rest b : List ℕ) → body_of place bytes ≡ Ok (b, rest) → Begins (body place).spelled b bytes rest
unfolding body_of
body_found place bytes rest b e =
    let step = bind_ok (payload_in place bytes) (λ x. Ok (take (length bytes - length x.1) bytes, x.1)) (b, rest) e in
    let begins = ((follows_body_format place).found bytes step.0.1 step.0.0 step.1).0 in
    let same : (take (length bytes - length step.0.1) bytes, step.0.1) ≡ (b, rest) = ok_is (take (length bytes - length step.0.1) bytes, step.0.1) (b, rest) step.2 in
    let front : take (length bytes - length step.0.1) bytes ≡ begins.0 = ap (λ (xs : List ℕ). take (length xs - length step.0.1) xs) begins.2 ∙ front_is begins.0 step.0.1 in
    let P : List ℕ × List ℕ → Type 0 = λ p. Begins (body place).spelled p.0 bytes p.1 in
    subst P same (begins.0, (front, (step.0.0, begins.1)), begins.2)

body_again : (place : Place) (front rest b : List ℕ) → (body place).spelled b front → body_of place (front ++ rest) ≡ Ok (b, rest)
unfolding body_of
body_again place front rest b s =
    let read : payload_in place (front ++ rest) ≡ Ok (s.1.0, rest) = (follows_body_format place).again front rest s.1.0 s.1.1 tt in
    rw read (ap (λ (xs : List ℕ). Ok (xs, rest)) (front_is front rest ∙ sym s.0))

body_refused : (place : Place) (bytes : List ℕ) (e : ReadError) → body_of place bytes ≡ Err e → (body_format place).refused e bytes
unfolding body_of
body_refused place bytes e h =
    elim (bind_err (payload_in place bytes) (λ x. Ok (take (length bytes - length x.1) bytes, x.1)) e h) [
      | inl first ↦ (follows_body_format place).refused bytes e first
      | inr step ↦ absurd (not_both (Ok (take (length bytes - length step.0.1) bytes, step.0.1)) (take (length bytes - length step.0.1) bytes, step.0.1) e refl step.2)
    ]

body_refuses : (place : Place) (bytes : List ℕ) (e : ReadError) → (body_format place).refused e bytes → body_of place bytes ≡ Err e
unfolding body_of
body_refuses place bytes e r = let skipped : payload_in place bytes ≡ Err e = (follows_body_format place).refuses bytes e r in rw skipped refl

pub follows_body : (place : Place) → Follows anywhere (body place) (body_of place)
follows_body place = record {
  found = λ bytes rest b e. (body_found place bytes rest b e, tt);
  again = λ front rest b s ends. body_again place front rest b s;
  refused = body_refused place;
  refuses = body_refuses place;
}
