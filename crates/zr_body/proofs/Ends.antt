-- A payload stands at the end of its body: one lemma for each way of putting formats together.
use Rattle.std.proofs.Common.{◌≡◌, ℕ, ◌^◌, ◌-◌, List, [], ◌++◌, Bool, true, false, sym, ap, ◌∙◌, append_assoc}
use Rattle.zr_bytes.specs.Flag.{has_id, has_flag}
use Rattle.zr_format_spec.specs.Format.{Format, gives, unknown, choose, ◌then◌, passed, byte, number, text}
use Rattle.zr_body.specs.declared.place.Place.{Place}
use Rattle.zr_body.specs.declared.place.Place.TheVariants.{Push, Request, Response}
use Rattle.zr_body.specs.Body.{when, timestamp, encoding, extensions_if, payload, put, del, query, sample, reply, err, behind, body_format}

-- what the format spells ends in its value
pub record EndsIn (p : Format (List ℕ)) : Type 0 where
  pub ends : (x bytes : List ℕ) → p.spelled x bytes → (front : List ℕ) × (bytes ≡ front ++ x)

ends_none : EndsIn (gives [])
ends_none = record { ends = λ x bytes s. ([], s.1 ∙ sym s.0) }

ends_payload : EndsIn payload
ends_payload = record { ends = λ x bytes s. (s.1.0, s.1.2) }

ends_unknown : EndsIn unknown
ends_unknown = record { ends = λ x bytes s. absurd s }

ends_choose : (b : Bool) (p q : Format (List ℕ)) → EndsIn p → EndsIn q → EndsIn (choose b p q)
ends_choose true p q f g = record { ends = f.ends }
ends_choose false p q f g = record { ends = g.ends }

ends_then : {X : Type 0} (p : Format X) (q : X → Format (List ℕ)) → ((x : X) → EndsIn (q x)) → EndsIn (p then q)
ends_then p q others = record {
  ends = λ x bytes s.
      let back = (others s.0).ends x s.2 s.5 in
      (s.1 ++ back.0, s.3 ∙ ap (λ (xs : List ℕ). s.1 ++ xs) back.1 ∙ sym (append_assoc s.1 back.0 x));
}

ends_past : (p : Format (Unit {0})) (q : Format (List ℕ)) → EndsIn q → EndsIn (p then λ x. q)
ends_past p q g = ends_then p (λ x. q) (λ x. g)

ends_put : (h : ℕ) → EndsIn (put h)
ends_put h =
    ends_past (when (has_flag h 0x20) timestamp) _
    (ends_past (when (has_flag h 0x40) encoding) _
    (ends_past (extensions_if h) payload ends_payload))

ends_del : (h : ℕ) → EndsIn (del h)
ends_del h = ends_past (when (has_flag h 0x20) timestamp) _ (ends_past (extensions_if h) (gives []) ends_none)

ends_query : (h : ℕ) → EndsIn (query h)
ends_query h =
    ends_past (when (has_flag h 0x20) (passed number)) _
    (ends_past (when (has_flag h 0x40) (passed (text (2 ^ 16 - 1)))) _
    (ends_past (extensions_if h) (gives []) ends_none))

ends_sample : (h : ℕ) → EndsIn (sample h)
ends_sample h = ends_choose (has_id h 1) (put h) _ (ends_put h) (ends_choose (has_id h 2) (del h) unknown (ends_del h) ends_unknown)

ends_reply : (h : ℕ) → EndsIn (reply h)
ends_reply h = ends_past (when (has_flag h 0x20) (passed number)) _ (ends_past (extensions_if h) _ (ends_then byte sample ends_sample))

ends_err : (h : ℕ) → EndsIn (err h)
ends_err h = ends_past (when (has_flag h 0x40) encoding) _ (ends_past (extensions_if h) payload ends_payload)

ends_behind : (place : Place) (h : ℕ) → EndsIn (behind place h)
ends_behind Push h = ends_sample h
ends_behind Request h = ends_choose (has_id h 3) (query h) unknown (ends_query h) ends_unknown
ends_behind Response h = ends_choose (has_id h 4) (reply h) _ (ends_reply h) (ends_choose (has_id h 5) (err h) unknown (ends_err h) ends_unknown)

pub ends_body : (place : Place) → EndsIn (body_format place)
ends_body place = ends_then byte (behind place) (ends_behind place)
