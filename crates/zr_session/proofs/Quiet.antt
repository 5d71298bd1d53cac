-- An established session answers nothing, and what it owes stays the same.
use Rattle.std.proofs.Common.{◌≡◌, ◌∙◌, ap, refl, sym, ℕ, zero, suc, Bool, true, false, ◌&&◌, List, [], ◌∷◌, ◌++◌, length, Option, Some, None, Result, Ok, Err, nat_lt}
use Rattle.zr_bytes.specs.Reading.{Read}
use Rattle.zr_trans.specs.declared.trans.Trans.{Trans}
use Rattle.zr_trans.specs.declared.trans.Trans.TheVariants as trans
use Rattle.zr_trans.specs.Reading.{trans_of}
use Rattle.zr_wirekey.specs.Scopes.{Texts, declared, bytes_of}
use Rattle.zr_msg.specs.declared.msg.Msg.{Msg}
use Rattle.zr_msg.specs.declared.peer.Role.{Role}
use Rattle.zr_msg.specs.declared.peer.Role.TheVariants.{Client, Router}
use Rattle.zr_decl.specs.declared.declared.Declared.TheVariants.{Told, Number, Unnumber, Ignored}
use Rattle.zr_frame.specs.declared.channel.ChannelError.{ChannelError}
use Rattle.zr_frame.specs.declared.channels.Channels.{Channels}
use Rattle.zr_wire.specs.Limits.{most_of}
use Rattle.zr_frame.specs.Channel.{frame, fragment}
use Rattle.zr_frame.specs.Channels.{one_of, on_one}
use Rattle.zr_open.specs.Opening.{OpeningState}
use Rattle.zr_session.specs.declared.carried.Carried.{Carried}
use Rattle.zr_session.specs.declared.carried.Carried.TheVariants.{BetweenRouters, Network}
use Rattle.zr_session.specs.declared.phase.Established as session
use Rattle.zr_session.specs.declared.phase.Phase.{Phase}
use Rattle.zr_session.specs.declared.phase.Phase.TheVariants.{Opening, Established}
use Rattle.zr_session.specs.declared.fate.End.{End}
use Rattle.zr_wire.specs.Roles.{admits}
use Rattle.zr_session.specs.Carried.{begins_network, carried_of}
use Rattle.zr_session.specs.Course.{Course, joined, and_then}
use Rattle.zr_session.specs.Step.{given, numbered, ignored, between_routers, on_carried, on_frame, on_whole, on_fragment, on_established, with_channels}
use Rattle.zr_session.specs.Stream.{item_of, trans_item, carried_item, items_within, on_batch, on_batches}

-- the phase is an established one that owes this
abbrev pub Owes : List ℕ → Phase → Type 0
Owes owed (Opening expected) = ⊥
Owes owed (Established s) = s.answer ≡ owed

abbrev pub Quiet : List ℕ → Course → Type 0
Quiet owed c = (c.bytes ≡ []) × Owes owed c.phase

quiet_given : (b : Bool) (s : session.Established) (m : Msg) → Quiet s.answer (given b s m)
quiet_given true s m = (refl, refl)
quiet_given false s m = (refl, refl)

quiet_numbered : (s : session.Established) (keys : Texts) → Quiet s.answer (numbered s keys)
quiet_numbered s keys = by (nat_lt 1048576 (bytes_of keys)) refl
  where
    by : (b : Bool) → nat_lt 1048576 (bytes_of keys) ≡ b → Quiet s.answer (numbered s keys)
    by true e = rw e (refl, refl)
    by false e = rw e (refl, refl)

quiet_ignored : (r : Role) (s : session.Established) → Quiet s.answer (ignored r s)
quiet_ignored Client s = (refl, refl)
quiet_ignored Router s = (refl, refl)

quiet_between : (r : Role) (s : session.Established) (m : Msg) → Quiet s.answer (between_routers r s m)
quiet_between Client s m = (refl, refl)
quiet_between Router s m = quiet_given (admits Router m) s m

quiet_carried : (s : session.Established) (m : Carried) → Quiet s.answer (on_carried s m)
quiet_carried s (Network (Told m)) = quiet_given (admits s.role m) s m
quiet_carried s (Network (Number n text)) = quiet_numbered s (declared s.keys n text)
quiet_carried s (Network (Unnumber n)) = (refl, refl)
quiet_carried s (Network Ignored) = quiet_ignored s.role s
quiet_carried s (BetweenRouters None) = (refl, refl)
quiet_carried s (BetweenRouters (Some m)) = quiet_between s.role s m

quiet_whole : (s : session.Established) (r : Read Carried) → Quiet s.answer (on_whole s r)
quiet_whole s (Ok (m, [])) = quiet_carried s m
quiet_whole s (Ok (m, b ∷ bytes)) = (refl, refl)
quiet_whole s (Err e) = (refl, refl)

quiet_frame : (s : session.Established) (r : Result (Unit {0} × Channels) ChannelError) → Quiet s.answer (on_frame s r)
quiet_frame s (Ok x) = (refl, refl)
quiet_frame s (Err e) = (refl, refl)

quiet_fragment : (s : session.Established) (r : Result (Option (List ℕ) × Channels) ChannelError) → Quiet s.answer (on_fragment s r)
quiet_fragment s (Ok (None, channels)) = (refl, refl)
quiet_fragment s (Ok (Some bytes, channels)) = quiet_whole (with_channels s channels) (carried_of s.role s.keys bytes)
quiet_fragment s (Err e) = (refl, refl)

quiet_established : (s : session.Established) (t : Trans) → Quiet s.answer (on_established s t)
quiet_established s (trans.Init _ _ _ _ _ _ _) = (refl, refl)
quiet_established s (trans.Open _ _ _ _ _) = (refl, refl)
quiet_established s (trans.Close _ reason) = (refl, refl)
quiet_established s trans.KeepAlive = (refl, refl)
quiet_established s (trans.Frame reliable n) = quiet_frame s (on_one s.channels reliable (frame (one_of s.channels reliable) n))
quiet_established s (trans.Fragment reliable more n piece) =
    quiet_fragment s (on_one s.channels reliable (fragment (most_of s.role) (one_of s.channels reliable) more n piece))

quiet_item : (o : OpeningState) (s : session.Established) (f : Bool) (bytes : List ℕ) → Quiet s.answer (item_of o (Established s) f bytes).course
quiet_item o s f bytes = by (f && begins_network bytes) refl
  where
    network : (r : Read Carried) → Quiet s.answer (carried_item s r).course
    network (Ok x) = quiet_carried s x.0
    network (Err e) = (refl, refl)

    transport : (r : Read Trans) → Quiet s.answer (trans_item o (Established s) r).course
    transport (Ok x) = quiet_established s x.0
    transport (Err e) = (refl, refl)

    by : (b : Bool) → (f && begins_network bytes) ≡ b → Quiet s.answer (item_of o (Established s) f bytes).course
    by true e = rw e (network (carried_of s.role s.keys bytes))
    by false e = rw e (transport (trans_of bytes))

-- what is quiet behind each phase that owes this is quiet behind a course
quiet_then : (owed : List ℕ) (c : Course) (f : Phase → Course) → Quiet owed c → ((p : Phase) → Owes owed p → Quiet owed (f p)) → Quiet owed (and_then c f)
quiet_then owed c f h k = by c.ends
  where
    by : (e : Option End) → Quiet owed (joined e c (f c.phase))
    by (Some how) = h
    by None = let next = k c.phase h.1 in (ap (λ z. z ++ (f c.phase).bytes) h.0 ∙ next.0, next.1)

quiet_items : (most : ℕ) (o : OpeningState) (owed : List ℕ) (f : Bool) (bytes : List ℕ) (p : Phase) → Owes owed p → Quiet owed (items_within most o f bytes p)
unfolding items_within
quiet_items most o owed f [] p h = (refl, h)
quiet_items zero o owed f (b ∷ bytes) p h = (refl, h)
quiet_items (suc most) o owed f (b ∷ bytes) (Opening expected) h = absurd h
quiet_items (suc most) o owed f (b ∷ bytes) (Established s) h =
    let item = item_of o (Established s) f (b ∷ bytes) in
    quiet_then owed item.course (λ q. items_within most o item.in_frame item.rest q) (rw (sym h) (quiet_item o s f (b ∷ bytes)))
    (λ q k. quiet_items most o owed item.in_frame item.rest q k)

pub quiet_batches : (o : OpeningState) (owed : List ℕ) (p : Phase) (batches : List (List ℕ)) → Owes owed p → Quiet owed (on_batches o p batches)
unfolding on_batches
quiet_batches o owed p [] h = (refl, h)
quiet_batches o owed p (batch ∷ batches) h =
    quiet_then owed (on_batch o p batch) (λ q. on_batches o q batches) (quiet_items (length batch) o owed false batch p h) (λ q k. quiet_batches o owed q batches k)
