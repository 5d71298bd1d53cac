-- What a writer has done so far, turn by turn. Each lemma carries `Goes` over one answer of the taker, or ends it in `Writes`.
use Rattle.std.proofs.Common.{◌≡◌, ℕ, ◌+◌, ◌*◌, ◌≤◌, inl, inr, List, [], ◌∷◌, ◌++◌, Option, Some, refl, sym, ap, subst, ◌∙◌, append_assoc, arith}
use Rattle.std.proofs.lemmas.List.{append-nil}
use Rattle.zr_frame_batch.specs.Framing.{framed}
use Rattle.zr_outside.specs.Told.{Appends, AppendsPrefix}
use Rattle.zr_outside.proofs.Appending.{appends_nothing_more, prefix_more, prefix_none, prefix_whole}
use Rattle.zr_ring.specs.declared.parcel.Note.{Ghosts}
use Rattle.zr_ring.specs.declared.parcel.Parcel.{Parcel}
use Rattle.zr_ring.specs.declared.parcel.Ending.{Ending}
use Rattle.zr_ring.specs.declared.parcel.Item.{Item}
use Rattle.zr_ring.specs.declared.parcel.Item.TheVariants.{One, Last}
use Rattle.zr_ring.specs.Items.{end_of}
use Rattle.zr_ring.specs.Taker.{TakesEnd}
use Rattle.zr_ring.proofs.Items.{end_of_one}
use Rattle.zr_link_writer.specs.Parts.{Part, parcel, keep_alive, keep_alive_bytes, bytes_of_part, text_of, parcels_of, keep_alives, close_bytes, bodies}
use Rattle.zr_link_writer.specs.Writing.{keep_alive_ms, Carries, Rests, Fails, Writes, Goes}
use Rattle.zr_link_writer.proofs.Carrying.{carries_put, carries_then, carries_all, carries_prefix, carries_flushed, carries_sent, carries_joined, carries_on}

-- ---- one part more

text_last : (parts : List Part) (p : Part) → text_of (parts ++ p ∷ []) ≡ text_of parts ++ bytes_of_part p
text_last [] p = append-nil (bytes_of_part p)
text_last (q ∷ parts) p = ap (λ z. bytes_of_part q ++ z) (text_last parts p) ∙ sym (append_assoc (bytes_of_part q) (text_of parts) (bytes_of_part p))

parcels_last : (parts : List Part) (bytes : List ℕ) → parcels_of (parts ++ parcel bytes ∷ []) ≡ parcels_of parts ++ bytes ∷ []
parcels_last [] bytes = refl
parcels_last (parcel b ∷ parts) bytes = ap (λ z. b ∷ z) (parcels_last parts bytes)
parcels_last (keep_alive ∷ parts) bytes = parcels_last parts bytes

parcels_same : (parts : List Part) → parcels_of (parts ++ keep_alive ∷ []) ≡ parcels_of parts
parcels_same [] = refl
parcels_same (parcel b ∷ parts) = ap (λ z. b ∷ z) (parcels_same parts)
parcels_same (keep_alive ∷ parts) = parcels_same parts

alives_same : (parts : List Part) (bytes : List ℕ) → keep_alives (parts ++ parcel bytes ∷ []) ≡ keep_alives parts
alives_same [] bytes = refl
alives_same (parcel b ∷ parts) bytes = alives_same parts bytes
alives_same (keep_alive ∷ parts) bytes = ap (λ n. n + 1) (alives_same parts bytes)

alives_last : (parts : List Part) → keep_alives (parts ++ keep_alive ∷ []) ≡ keep_alives parts + 1
alives_last [] = refl
alives_last (parcel b ∷ parts) = alives_last parts
alives_last (keep_alive ∷ parts) = ap (λ n. n + 1) (alives_last parts)

-- what one KEEP_ALIVE more asks of the time
one_more : (start k n moment later : ℕ) → n ≡ k + 1 → start + k * keep_alive_ms ≤ moment → moment + keep_alive_ms ≤ later
    → start + n * keep_alive_ms ≤ later
one_more start k n moment later is fits more = omega (arith, is, fits, more)

no_later : (start k n moment later : ℕ) → n ≡ k → start + k * keep_alive_ms ≤ moment → moment ≤ later → start + n * keep_alive_ms ≤ later
no_later start k n moment later is fits more = omega (arith, is, fits, more)

module _ {N : Type 0} {g : Ghosts N} where
  bodies_last : (items : List (Item N g)) (p : Parcel N g) → bodies (items ++ One p ∷ []) ≡ bodies items ++ p.bytes ∷ []
  bodies_last [] p = refl
  bodies_last (One q ∷ items) p = ap (λ z. q.bytes ∷ z) (bodies_last items p)
  bodies_last (Last e ∷ items) p = bodies_last items p

  bodies_same : (items : List (Item N g)) (e : Ending N g) → bodies (items ++ Last e ∷ []) ≡ bodies items
  bodies_same [] e = refl
  bodies_same (One q ∷ items) e = ap (λ z. q.bytes ∷ z) (bodies_same items e)
  bodies_same (Last f ∷ items) e = bodies_same items e

  -- one item more was taken
  taken_last : (before after items after' : List (Item N g)) (x : Item N g) → after ≡ before ++ items → after' ≡ after ++ x ∷ []
      → after' ≡ before ++ (items ++ x ∷ [])
  taken_last before after items after' x was is = is ∙ (ap (λ z. z ++ x ∷ []) was ∙ append_assoc before items (x ∷ []))

  -- ---- in the midst of a call

  pub goes_first : (before : List (Item N g)) (start moment : ℕ) (held : Option (List ℕ)) → start ≤ moment
      → Goes before before start moment [] held held
  goes_first before start moment held le = record {
    items = [];
    parts = [];
    taken = sym (append-nil before);
    in_order = refl;
    seldom = omega (arith, le);
    carried = carries_joined [] held;
  }

  -- a parcel was joined
  pub goes_parcel : (before after after' : List (Item N g)) (start moment later : ℕ) (waiting waiting' : List ℕ) (held now now' : Option (List ℕ))
      (p : Parcel N g) → Goes before after start moment waiting held now → after' ≡ after ++ One p ∷ []
      → Carries now now' waiting' (waiting ++ framed p.bytes) → moment ≤ later → Goes before after' start later waiting' held now'
  goes_parcel before after after' start moment later waiting waiting' held now now' p h is more le = record {
    items = h.items ++ One p ∷ [];
    parts = h.parts ++ parcel p.bytes ∷ [];
    taken = taken_last before after h.items after' (One p) h.taken is;
    in_order = parcels_last h.parts p.bytes ∙ (ap (λ z. z ++ p.bytes ∷ []) h.in_order ∙ sym (bodies_last h.items p));
    seldom = no_later start (keep_alives h.parts) _ moment later (alives_same h.parts p.bytes) h.seldom le;
    carried = rw (text_last h.parts (parcel p.bytes))
        (carries_then held now now' waiting waiting' (text_of h.parts) (framed p.bytes) h.carried more);
  }

  -- nothing was to be had
  pub goes_rest : (before after after' : List (Item N g)) (start moment later : ℕ) (waiting : List ℕ) (held now now' : Option (List ℕ))
      → Goes before after start moment waiting held now → after' ≡ after → Rests waiting moment later now now' → moment ≤ later
      → Goes before after' start later [] held now'
  goes_rest before after after' start moment later waiting held now now' h is (inl wrote) le = record {
    items = h.items;
    parts = h.parts;
    taken = is ∙ h.taken;
    in_order = h.in_order;
    seldom = no_later start (keep_alives h.parts) _ moment later refl h.seldom le;
    carried = carries_flushed held now now' waiting (text_of h.parts) h.carried wrote;
  }
  goes_rest before after after' start moment later waiting held now now' h is (inr wrote) le = record {
    items = h.items;
    parts = h.parts ++ keep_alive ∷ [];
    taken = is ∙ h.taken;
    in_order = parcels_same h.parts ∙ h.in_order;
    seldom = one_more start (keep_alives h.parts) _ moment later (alives_last h.parts) h.seldom wrote.1;
    carried = rw (text_last h.parts keep_alive)
        (carries_sent held now now' (text_of h.parts) keep_alive_bytes (subst (λ w. Carries held now w (text_of h.parts)) wrote.0 h.carried) wrote.2);
  }

  -- what waited was written or waits, and nothing was taken
  pub goes_carried : (before after : List (Item N g)) (start moment : ℕ) (waiting waiting' : List ℕ) (held now now' : Option (List ℕ))
      → Goes before after start moment waiting held now → Carries now now' waiting' waiting → Goes before after start moment waiting' held now'
  goes_carried before after start moment waiting waiting' held now now' h more = record {
    items = h.items;
    parts = h.parts;
    taken = h.taken;
    in_order = h.in_order;
    seldom = h.seldom;
    carried = carries_on held now now' waiting waiting' (text_of h.parts) h.carried more;
  }

  -- ---- at the end of a call

  -- a write failed as a parcel was joined
  pub stops_parcel : (before after after' : List (Item N g)) (start moment later : ℕ) (waiting close : List ℕ) (held now now' : Option (List ℕ))
      (p : Parcel N g) → Goes before after start moment waiting held now → after' ≡ after ++ One p ∷ []
      → AppendsPrefix (waiting ++ framed p.bytes) now now' → moment ≤ later
      → Writes before after' start later close (λ text. AppendsPrefix text held now')
  stops_parcel before after after' start moment later waiting close held now now' p h is part le = record {
    items = h.items ++ One p ∷ [];
    parts = h.parts ++ parcel p.bytes ∷ [];
    taken = taken_last before after h.items after' (One p) h.taken is;
    in_order = parcels_last h.parts p.bytes ∙ (ap (λ z. z ++ p.bytes ∷ []) h.in_order ∙ sym (bodies_last h.items p));
    seldom = no_later start (keep_alives h.parts) _ moment later (alives_same h.parts p.bytes) h.seldom le;
    written = rw (text_last h.parts (parcel p.bytes)) (prefix_more (text_of h.parts ++ framed p.bytes) close held now'
        (carries_prefix held now now' waiting (text_of h.parts) (framed p.bytes) h.carried part));
  }

  -- a write failed where nothing was to be had
  pub stops_rest : (before after after' : List (Item N g)) (start moment later : ℕ) (waiting close : List ℕ) (held now now' : Option (List ℕ))
      → Goes before after start moment waiting held now → after' ≡ after → Fails waiting moment later now now' → moment ≤ later
      → Writes before after' start later close (λ text. AppendsPrefix text held now')
  stops_rest before after after' start moment later waiting close held now now' h is (inl part) le = record {
    items = h.items;
    parts = h.parts;
    taken = is ∙ h.taken;
    in_order = h.in_order;
    seldom = no_later start (keep_alives h.parts) _ moment later refl h.seldom le;
    written = carries_prefix held now now' waiting (text_of h.parts) close h.carried (prefix_more waiting close now now' part);
  }
  stops_rest before after after' start moment later waiting close held now now' h is (inr part) le = record {
    items = h.items;
    parts = h.parts ++ keep_alive ∷ [];
    taken = is ∙ h.taken;
    in_order = parcels_same h.parts ∙ h.in_order;
    seldom = one_more start (keep_alives h.parts) _ moment later (alives_last h.parts) h.seldom part.1;
    written = rw (text_last h.parts keep_alive) (prefix_more (text_of h.parts ++ keep_alive_bytes) close held now'
        (carries_prefix held now now' [] (text_of h.parts) keep_alive_bytes
        (subst (λ w. Carries held now w (text_of h.parts)) part.0 h.carried) part.2));
  }

  -- what was taken at an end, which was taken before or is taken now
  at_end : (before after after' items : List (Item N g)) (reason : Option ℕ) (given : ℕ) → after ≡ before ++ items
      → TakesEnd after after' reason given → (items' : List (Item N g)) × (after' ≡ before ++ items') × (bodies items' ≡ bodies items)
  at_end before after after' items reason given was (inl h) = (items, h.0 ∙ was, refl)
  at_end before after after' items reason given was (inr h) =
      (items ++ Last h.1 ∷ [], taken_last before after items after' (Last h.1) was h.2, bodies_same items h.1)

  -- the end was taken: what is said of the bytes of all parts and of the CLOSE behind them is so of the whole
  at_last : (before after after' : List (Item N g)) (start moment later given : ℕ) (waiting close : List ℕ) (held now : Option (List ℕ))
      (reason : Option ℕ) (IsWritten : List ℕ → Type 0) (h : Goes before after start moment waiting held now) → TakesEnd after after' reason given
      → IsWritten (text_of h.parts ++ close) → moment ≤ later → Writes before after' start later close IsWritten
  at_last before after after' start moment later given waiting close held now reason IsWritten h takes wrote le =
      let all = at_end before after after' h.items reason given h.taken takes in record {
        items = all.0;
        parts = h.parts;
        taken = all.1;
        in_order = h.in_order ∙ sym all.2;
        seldom = no_later start (keep_alives h.parts) _ moment later refl h.seldom le;
        written = wrote;
      }

  pub ends_whole : (before after after' : List (Item N g)) (start moment later given : ℕ) (waiting : List ℕ) (held now now' : Option (List ℕ))
      (reason : Option ℕ) → Goes before after start moment waiting held now → TakesEnd after after' reason given → end_of after' ≡ Some reason
      → Appends (waiting ++ close_bytes (Some reason)) now now' → moment ≤ later
      → Writes before after' start later (close_bytes (end_of after')) (λ text. Appends text held now')
  ends_whole before after after' start moment later given waiting held now now' reason h takes is wrote le =
      let all = subst (λ end. Appends (waiting ++ close_bytes end) now now') (sym is) wrote in
      at_last before after after' start moment later given waiting (close_bytes (end_of after')) held now reason (λ text. Appends text held now') h takes
      (carries_all held now now' waiting (text_of h.parts) (close_bytes (end_of after')) h.carried all) le

  pub ends_part : (before after after' : List (Item N g)) (start moment later given : ℕ) (waiting : List ℕ) (held now now' : Option (List ℕ))
      (reason : Option ℕ) → Goes before after start moment waiting held now → TakesEnd after after' reason given → end_of after' ≡ Some reason
      → AppendsPrefix (waiting ++ close_bytes (Some reason)) now now' → moment ≤ later
      → Writes before after' start later (close_bytes (end_of after')) (λ text. AppendsPrefix text held now')
  ends_part before after after' start moment later given waiting held now now' reason h takes is wrote le =
      let part = subst (λ end. AppendsPrefix (waiting ++ close_bytes end) now now') (sym is) wrote in
      at_last before after after' start moment later given waiting (close_bytes (end_of after')) held now reason (λ text. AppendsPrefix text held now') h
      takes (carries_prefix held now now' waiting (text_of h.parts) (close_bytes (end_of after')) h.carried part) le

  -- no turn is left
  at_turns : (before after : List (Item N g)) (start moment later : ℕ) (waiting close : List ℕ) (held now : Option (List ℕ))
      (IsWritten : List ℕ → Type 0) (h : Goes before after start moment waiting held now) → IsWritten (text_of h.parts ++ close) → moment ≤ later
      → Writes before after start later close IsWritten
  at_turns before after start moment later waiting close held now IsWritten h wrote le = record {
    items = h.items;
    parts = h.parts;
    taken = h.taken;
    in_order = h.in_order;
    seldom = no_later start (keep_alives h.parts) _ moment later refl h.seldom le;
    written = wrote;
  }

  pub turns_whole : (before after : List (Item N g)) (start moment later : ℕ) (waiting : List ℕ) (held now now' : Option (List ℕ))
      → Goes before after start moment waiting held now → Appends waiting now now' → moment ≤ later
      → Writes before after start later [] (λ text. Appends text held now')
  turns_whole before after start moment later waiting held now now' h wrote le =
      at_turns before after start moment later waiting [] held now (λ text. Appends text held now') h
      (carries_all held now now' waiting (text_of h.parts) [] h.carried (appends_nothing_more waiting now now' wrote)) le

  pub turns_part : (before after : List (Item N g)) (start moment later : ℕ) (waiting close : List ℕ) (held now now' : Option (List ℕ))
      → Goes before after start moment waiting held now → AppendsPrefix waiting now now' → moment ≤ later
      → Writes before after start later close (λ text. AppendsPrefix text held now')
  turns_part before after start moment later waiting close held now now' h wrote le =
      at_turns before after start moment later waiting close held now (λ text. AppendsPrefix text held now') h
      (carries_prefix held now now' waiting (text_of h.parts) close h.carried (prefix_more waiting close now now' wrote)) le

  -- ---- in steps of an outlet

  -- the whole is a prefix of itself
  pub writes_prefix : (before after : List (Item N g)) (start end : ℕ) (close : List ℕ) (held now : Option (List ℕ))
      → Writes before after start end close (λ text. Appends text held now) → Writes before after start end close (λ text. AppendsPrefix text held now)
  writes_prefix before after start end close held now w = record {
    items = w.items;
    parts = w.parts;
    taken = w.taken;
    in_order = w.in_order;
    seldom = w.seldom;
    written = prefix_whole (text_of w.parts ++ close) held now w.written;
  }

  -- the time has gone on since it ended
  pub writes_later : (before after : List (Item N g)) (start end later : ℕ) (close : List ℕ) (IsWritten : List ℕ → Type 0)
      → Writes before after start end close IsWritten → end ≤ later → Writes before after start later close IsWritten
  writes_later before after start end later close IsWritten w le = record {
    items = w.items;
    parts = w.parts;
    taken = w.taken;
    in_order = w.in_order;
    seldom = no_later start (keep_alives w.parts) _ end later refl w.seldom le;
    written = w.written;
  }

  -- the end was taken, and is left to the writer
  pub goes_end : (before after after' : List (Item N g)) (start moment given : ℕ) (waiting : List ℕ) (held now : Option (List ℕ)) (reason : Option ℕ)
      → Goes before after start moment waiting held now → TakesEnd after after' reason given → Goes before after' start moment waiting held now
  goes_end before after after' start moment given waiting held now reason h takes =
      let all = at_end before after after' h.items reason given h.taken takes in record {
        items = all.0;
        parts = h.parts;
        taken = all.1;
        in_order = h.in_order ∙ sym all.2;
        seldom = h.seldom;
        carried = h.carried;
      }

  -- a parcel was taken and waits, not joined, behind what waits
  pub goes_apart : (before after after' : List (Item N g)) (start moment : ℕ) (waiting waiting' : List ℕ) (held now now' : Option (List ℕ))
      (p : Parcel N g) → Goes before after start moment waiting held now → after' ≡ after ++ One p ∷ []
      → Carries now now' waiting' waiting → Goes before after' start moment (waiting' ++ framed p.bytes) held now'
  goes_apart before after after' start moment waiting waiting' held now now' p h is more =
      goes_parcel before after after' start moment moment waiting (waiting' ++ framed p.bytes) held now now' p h is
      (carries_put waiting waiting' (framed p.bytes) now now' more) (omega arith)

  -- a write failed behind some that was written, and a parcel may have been taken
  pub stops_apart : (before after after' : List (Item N g)) (start moment : ℕ) (waiting waiting' close : List ℕ) (held now now' : Option (List ℕ))
      (p : Parcel N g) → Goes before after start moment waiting held now → after' ≡ after ++ One p ∷ []
      → Carries now now' waiting' waiting → Writes before after' start moment close (λ text. AppendsPrefix text held now')
  stops_apart before after after' start moment waiting waiting' close held now now' p h is more =
      turns_part before after' start moment moment (waiting' ++ framed p.bytes) close held now' now'
      (goes_apart before after after' start moment waiting waiting' held now now' p h is more) (prefix_none (waiting' ++ framed p.bytes) now') (omega arith)

  pub stops_waiting : (before after after' : List (Item N g)) (start moment : ℕ) (waiting waiting' close : List ℕ) (held now now' : Option (List ℕ))
      → Goes before after start moment waiting held now → after' ≡ after
      → Carries now now' waiting' waiting → Writes before after' start moment close (λ text. AppendsPrefix text held now')
  stops_waiting before after after' start moment waiting waiting' close held now now' h is more =
      subst (λ z. Writes before z start moment close (λ text. AppendsPrefix text held now')) (sym is)
      (turns_part before after start moment moment waiting' close held now' now'
      (goes_carried before after start moment waiting waiting' held now now' h more) (prefix_none waiting' now') (omega arith))

  -- time goes on
  pub goes_later : (before after : List (Item N g)) (start moment later : ℕ) (waiting : List ℕ) (held now : Option (List ℕ))
      → Goes before after start moment waiting held now → moment ≤ later → Goes before after start later waiting held now
  goes_later before after start moment later waiting held now h le = record {
    items = h.items;
    parts = h.parts;
    taken = h.taken;
    in_order = h.in_order;
    seldom = no_later start (keep_alives h.parts) _ moment later refl h.seldom le;
    carried = h.carried;
  }
