-- One message more: what packs it does what the packing of all says.
use Rattle.std.proofs.Common.{◌≡◌, ◌∙◌, ap, refl, subst, ℕ, Bool, true, false, cond, List, ◌∷◌, ◌++◌, length, append_assoc, Option, Some, None, Result, Ok, Err, OnOk}
use Rattle.zr_frame.specs.Outbox.{OutboxState}
use Rattle.zr_frame.specs.Packing.{Parcels, before, fits, with_message, closed, fragments, packed}
use Rattle.zr_frame.specs.Packer.{PackerState, behind, on_the_way, Joins}

-- where the frame has no room for a message
abbrev pub otherwise : OutboxState → List ℕ → List (List ℕ) → Parcels
otherwise p w ws =
    cond (fits p (with_message p None w)) (packed p (Some (with_message p None w)) ws) (before (fragments (length w) p w) (λ q. packed q None ws))

pub packed_fits : (o : OutboxState) (frame : Option (List ℕ)) (w : List ℕ) (ws : List (List ℕ)) → true ≡ fits o (with_message o frame w) →
    packed o (Some (with_message o frame w)) ws ≡ packed o frame (w ∷ ws)
unfolding packed
packed_fits o frame w ws e = ap (λ (b : Bool). cond b (packed o (Some (with_message o frame w)) ws) (before (closed o frame) (λ p. otherwise p w ws))) e

pub packed_closes : (o : OutboxState) (frame : Option (List ℕ)) (w : List ℕ) (ws : List (List ℕ)) → false ≡ fits o (with_message o frame w) →
    before (closed o frame) (λ p. otherwise p w ws) ≡ packed o frame (w ∷ ws)
unfolding packed
packed_closes o frame w ws e = ap (λ (b : Bool). cond b (packed o (Some (with_message o frame w)) ws) (before (closed o frame) (λ p. otherwise p w ws))) e

abbrev state : OutboxState → Option (List ℕ) → List (List ℕ) → PackerState
state o frame batches = record { outbox = o; frame = frame; batches = batches }

-- what was packed stands before
abbrev joined : List (List ℕ) → Parcels → Parcels
joined batches p = record { batches = batches ++ p.batches; outbox = p.outbox }

-- the message fits
pub adds_first : (w : List ℕ) (old new : PackerState) → Joins true w old new → (ws : List (List ℕ)) → on_the_way new ws ≡ on_the_way old (w ∷ ws)
adds_first w old new h ws =
    ap (λ (o : OutboxState). on_the_way (state o new.frame new.batches) ws) h.1
    ∙ ap (λ (b : List (List ℕ)). on_the_way (state old.outbox new.frame b) ws) h.2
    ∙ ap (λ (f : Option (List ℕ)). on_the_way (state old.outbox f old.batches) ws) h.0.1
    ∙ ap (joined old.batches) (packed_fits old.outbox old.frame w ws h.0.0)

-- a refused message leaves all as it was
pub same_state : (w : List ℕ) (old new : PackerState) → Joins false w old new → new ≡ old
same_state w old new h i = record { outbox = h.1 i; frame = h.0.1 i; batches = h.2 i }

-- what goes on behind a frame that was closed
pub adds_behind : (w : List ℕ) (old : PackerState) (ws : List (List ℕ)) → false ≡ fits old.outbox (with_message old.outbox old.frame w) →
    joined (behind old (closed old.outbox old.frame)).batches (otherwise (closed old.outbox old.frame).outbox w ws) ≡ on_the_way old (w ∷ ws)
adds_behind w old ws e =
    ap (λ (b : List (List ℕ)). record { batches = b; outbox = (otherwise (closed old.outbox old.frame).outbox w ws).outbox })
    (append_assoc old.batches (closed old.outbox old.frame).batches (otherwise (closed old.outbox old.frame).outbox w ws).batches)
    ∙ ap (joined old.batches) (packed_closes old.outbox old.frame w ws e)

-- where no frame has begun, closing it changes nothing
pub own_frame : (p : OutboxState) (w : List ℕ) (ws : List (List ℕ)) → packed p None (w ∷ ws) ≡ otherwise p w ws
unfolding packed
own_frame p w ws = by (fits p (with_message p None w)) (packed p (Some (with_message p None w)) ws) (before (fragments (length w) p w) (λ q. packed q None ws))
  where
    by : (b : Bool) (x y : Parcels) → cond b x (before (closed p None) (λ q. cond b x y)) ≡ cond b x y
    by true x y = refl
    by false x y = refl

-- the message fits a frame of its own
pub adds_second : (w : List ℕ) (old mid new : PackerState) → false ≡ fits old.outbox (with_message old.outbox old.frame w) →
    mid ≡ behind old (closed old.outbox old.frame) → Joins true w mid new → (ws : List (List ℕ)) → on_the_way new ws ≡ on_the_way old (w ∷ ws)
adds_second w old mid new e m h ws =
    adds_first w mid new h ws
    ∙ ap (λ (x : PackerState). on_the_way x (w ∷ ws)) m
    ∙ ap (joined (behind old c).batches) (own_frame c.outbox w ws)
    ∙ adds_behind w old ws e
  where
    c : Parcels
    c = closed old.outbox old.frame

-- the message goes in fragments
pub adds_fragments : (w : List ℕ) (old mid new : PackerState) → false ≡ fits old.outbox (with_message old.outbox old.frame w) →
    mid ≡ behind old (closed old.outbox old.frame) → false ≡ fits mid.outbox (with_message mid.outbox mid.frame w) →
    new ≡ behind mid (fragments (length w) mid.outbox w) → (ws : List (List ℕ)) → on_the_way new ws ≡ on_the_way old (w ∷ ws)
adds_fragments w old mid new e m f n ws =
    ap (λ (x : PackerState). on_the_way x ws) (n ∙ ap (λ (x : PackerState). behind x (fragments (length w) x.outbox w)) m)
    ∙ ap (λ (b : List (List ℕ)). record { batches = b; outbox = rest.outbox }) (append_assoc (old.batches ++ c.batches) parts.batches rest.batches)
    ∙ ap (joined (old.batches ++ c.batches)) (ap (λ (b : Bool). cond b (packed c.outbox (Some (with_message c.outbox None w)) ws) (before parts (λ q. packed q None ws))) own)
    ∙ adds_behind w old ws e
  where
    c : Parcels
    c = closed old.outbox old.frame

    parts : Parcels
    parts = fragments (length w) c.outbox w

    rest : Parcels
    rest = packed parts.outbox None ws

    own : false ≡ fits c.outbox (with_message c.outbox None w)
    own = f ∙ ap (λ (x : PackerState). fits x.outbox (with_message x.outbox x.frame w)) m

-- ---- as the calls say it

said : (a b : Bool) (w : List ℕ) (old new : PackerState) → a ≡ b → Joins a w old new → Joins b w old new
said a b w old new e h = subst (λ (x : Bool). Joins x w old new) e h

closes : (w : List ℕ) (old first mid : PackerState) → Joins false w old first → mid ≡ behind first (closed first.outbox first.frame) →
    mid ≡ behind old (closed old.outbox old.frame)
closes w old first mid h m = m ∙ ap (λ (x : PackerState). behind x (closed x.outbox x.frame)) (same_state w old first h)

pub joins_begun : (a : Bool) (w : List ℕ) (old new : PackerState) → a ≡ true → Joins a w old new →
    (ws : List (List ℕ)) → on_the_way new ws ≡ on_the_way old (w ∷ ws)
joins_begun a w old new e h ws = adds_first w old new (said a true w old new e h) ws

pub joins_own : (a b : Bool) (w : List ℕ) (old first mid new : PackerState) → a ≡ false → Joins a w old first →
    mid ≡ behind first (closed first.outbox first.frame) → b ≡ true → Joins b w mid new →
    (ws : List (List ℕ)) → on_the_way new ws ≡ on_the_way old (w ∷ ws)
joins_own a b w old first mid new e h m f k ws =
    let refused = said a false w old first e h in
    adds_second w old mid new refused.0.0 (closes w old first mid refused m) (said b true w mid new f k) ws

pub goes_split : (a b : Bool) (w : List ℕ) (old first mid second new : PackerState) → a ≡ false → Joins a w old first →
    mid ≡ behind first (closed first.outbox first.frame) → b ≡ false → Joins b w mid second →
    new ≡ behind second (fragments (length w) second.outbox w) →
    (ws : List (List ℕ)) → on_the_way new ws ≡ on_the_way old (w ∷ ws)
goes_split a b w old first mid second new e h m f k n ws =
    let refused = said a false w old first e h in
    let too = said b false w mid second f k in
    adds_fragments w old mid new refused.0.0 (closes w old first mid refused m) too.0.0
    (n ∙ ap (λ (x : PackerState). behind x (fragments (length w) x.outbox w)) (same_state w mid second too)) ws

-- where a call succeeded, what follows from what it says
pub where_ok : {X E P Q : Type 0} (r : Result X E) → (P → Q) → OnOk r P → OnOk r Q
where_ok (Ok x) f h = f h
where_ok (Err e) f h = tt
