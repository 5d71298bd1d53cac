-- A message comes onto a wire, or is received from it: what the carrier did, and what is kept.
use Rattle.std.proofs.Common.{◌≡◌, ℕ, true, false, not, drop, Option, Some, None, Result, Ok, Err, refl, sym, ap, ◌∙◌, subst}
use Rattle.std.specs.Option.{option_map}
use Rattle.zr_msg.specs.declared.msg.Msg.{Msg}
use Rattle.zr_script_spec.specs.declared.error.ScriptError.{ScriptError}
use Rattle.zr_script_spec.specs.declared.error.ScriptError.TheVariants.{NothingThere, NotLinked}
use Rattle.zr_carrier.specs.Wire.{Wire, Wires, Sets, emptied, oldest, with_message, without_oldest}
use Rattle.zr_world_spec.specs.World.{Tagged, EndState, End, Ends, end_of, changed, sent, with_wire}
use Rattle.zr_world_ends.specs.declared.kind.WireKind.{WireKind}
use Rattle.zr_world_ends.specs.Carried.{IsTaken, MayArrive, seen, seen_ends, AreCarried, neighbour_role}
use Rattle.zr_world_ends.specs.Kept.{KeptEnd, KeptEnds, announced, kind_of, lost, no_kinds, passed}
use Rattle.zr_world_ends.specs.Named.{at_end, change_at, change_found}
use Rattle.zr_world_ends.specs.Steps.{Brings, from_wire}
use Rattle.zr_world_ends.proofs.Carrying.{can_send, first_seen, lost_wire, none_seen, not_linked, not_up, nothing_there, passed_seen, passed_wire, sent_seen, sent_wire, some_sent, wire_gives}
use Rattle.zr_world_ends.proofs.Changing.{carried_changed, seen_changed}
use Rattle.zr_world_ends.proofs.Same.{change_twice, changed_by_look_up}
use Rattle.zr_world_ends.proofs.Seen.{seen_at, set_wire, sorted_seen}

module _ (ws : Wires) (ks : KeptEnds) (e : End) (h : AreCarried ws ks) where
  abbrev es : Ends
  es = seen_ends ws ks

  abbrev w : Option Wire
  w = ws e.1 e.0

  seen_there : (k : KeptEnd) → at_end ks e ≡ Some k → end_of es e ≡ Some (seen k w)
  seen_there k found = seen_at ws ks e ∙ ap (option_map (λ k. seen k w)) found

  none_there : at_end ks e ≡ None → end_of es e ≡ None
  none_there none = seen_at ws ks e ∙ ap (option_map (λ k. seen k w)) none

  -- ---- a message is sent

  -- to an end that isn't there
  pub sent_nowhere : (g : EndState → EndState) → at_end ks e ≡ None → (es ≡ change_found es e g (end_of es e)) × (es ≡ changed es e g)
  sent_nowhere g none =
      let same : change_found es e g (end_of es e) ≡ es = ap (λ o. change_found es e g o) (none_there none) in
      (sym same, sym same ∙ changed_by_look_up es e g (sorted_seen ws ks h.ordered))

  module _ (ws' : Wires) (msg : Msg) (tag : ℕ) (may : MayArrive es e msg) where
    on : (k : KeptEnd) → at_end ks e ≡ Some k → k.unbroken ≡ true
    on k found = (can_send ws ks e k msg h may found).0

    abbrev with_kind : WireKind → KeptEnd → KeptEnd
    with_kind kind k = announced k kind

    pub sent_changed : (kind : WireKind) → kind ≡ kind_of msg → (ks' : KeptEnds) → ks' ≡ change_at ks e (λ k. announced k kind) → Sets e.1 e.0 (option_map (λ v. with_message v msg tag) w) ws ws' →
        seen_ends ws' ks' ≡ changed es e (λ s. sent s msg tag)
    sent_changed kind is ks' was sets =
        ap (λ (z : KeptEnds). seen_ends ws' z) (was ∙ ap (λ (z : WireKind). change_at ks e (λ k. announced k z)) is)
        ∙ seen_changed ws ws' ks e (option_map (λ v. with_message v msg tag) w) (with_kind (kind_of msg)) h.ordered (set_wire e (option_map (λ v. with_message v msg tag) w) ws ws' sets) (λ s. sent s msg tag)
        (λ k found. sent_seen (neighbour_role ks e) k w (h.carried e.0 e.1 k found) msg tag (on k found))

    pub sent_found : (kind : WireKind) → kind ≡ kind_of msg → (ks' : KeptEnds) → ks' ≡ change_at ks e (λ k. announced k kind) → Sets e.1 e.0 (option_map (λ v. with_message v msg tag) w) ws ws' →
        seen_ends ws' ks' ≡ change_found es e (λ s. sent s msg tag) (end_of es e)
    sent_found kind is ks' was sets = sent_changed kind is ks' was sets ∙ sym (changed_by_look_up es e (λ s. sent s msg tag) (sorted_seen ws ks h.ordered))

    pub sent_carried : (kind : WireKind) → kind ≡ kind_of msg → (ks' : KeptEnds) → ks' ≡ change_at ks e (λ k. announced k kind) → Sets e.1 e.0 (option_map (λ v. with_message v msg tag) w) ws ws' →
        AreCarried ws' ks'
    sent_carried kind is ks' was sets =
        subst (λ (z : KeptEnds). AreCarried ws' z) (sym (was ∙ ap (λ (z : WireKind). change_at ks e (λ k. announced k z)) is))
        (carried_changed ws ws' ks e (option_map (λ v. with_message v msg tag) w) (with_kind (kind_of msg)) h.ordered (set_wire e (option_map (λ v. with_message v msg tag) w) ws ws' sets) (λ k. refl)
        (λ k found at. sent_wire (neighbour_role ks e) k w at msg tag (on k found)) h)

  -- where memory ran out all are lost
  pub lost_carried : (ws' : Wires) (ks' : KeptEnds) → ks' ≡ change_at ks e lost → Sets e.1 e.0 (option_map emptied w) ws ws' → AreCarried ws' ks'
  lost_carried ws' ks' was sets =
      subst (λ (z : KeptEnds). AreCarried ws' z) (sym was)
      (carried_changed ws ws' ks e (option_map emptied w) lost h.ordered (set_wire e (option_map emptied w) ws ws' sets) (λ k. refl) (λ k found at. lost_wire (neighbour_role ks e) k w at) h)

  pub lost_again : (ws' : Wires) (kind : WireKind) (mid ks' : KeptEnds) → mid ≡ change_at ks e (λ k. announced k kind) → ks' ≡ change_at mid e lost → Sets e.1 e.0 (option_map emptied w) ws ws' → AreCarried ws' ks'
  lost_again ws' kind mid ks' was again sets =
      lost_carried ws' ks' (again ∙ ap (λ (z : KeptEnds). change_at z e lost) was ∙ change_twice ks e (λ k. announced k kind) lost) sets

  -- ---- a message is received

  module _ (k : KeptEnd) (found : at_end ks e ≡ Some k) where
    pub down_there : k.up ≡ false → from_wire es e ≡ Err NotLinked
    down_there down = not_up es e (seen k w) (seen_there k found) down

    pub nothing_sent : k.up ≡ true → not (no_kinds k.kinds) ≡ false → from_wire es e ≡ Err NothingThere
    nothing_sent up none = nothing_there es e (seen k w) (seen_there k found) up (none_seen (neighbour_role ks e) k w (h.carried e.0 e.1 k found) none)

    pub something_sent : None ≡ oldest w → not (no_kinds k.kinds) ≡ true → ⊥
    something_sent none some = some_sent (neighbour_role ks e) k w (h.carried e.0 e.1 k found) none some

    pub received_is : (ws' : Wires) (ks' : KeptEnds) (x : Msg × ℕ) → k.up ≡ true → not (no_kinds k.kinds) ≡ true → Some x ≡ oldest w → ks' ≡ change_at ks e passed →
        Sets e.1 e.0 (option_map without_oldest w) ws ws' → from_wire es e ≡ Ok (record { msg = x.0; tag = x.1 }, seen_ends ws' ks')
    received_is ws' ks' x up some first was sets =
        let wire = first_seen (neighbour_role ks e) k w (h.carried e.0 e.1 k found) x first some in
        wire_gives es e (seen k w) (record { msg = x.0; tag = x.1 }) wire.0 (sorted_seen ws ks h.ordered) (seen_there k found) up wire.1
        ∙ ap (λ (z : Ends). Ok (record { msg = x.0; tag = x.1 }, z))
        (sym (ap (λ (z : KeptEnds). seen_ends ws' z) was
        ∙ seen_changed ws ws' ks e (option_map without_oldest w) passed h.ordered (set_wire e (option_map without_oldest w) ws ws' sets) (λ t. with_wire t (drop 1 t.wire))
        (λ j at. passed_seen (neighbour_role ks e) j w (h.carried e.0 e.1 j at))))

  pub not_there : at_end ks e ≡ None → from_wire es e ≡ Err NotLinked
  not_there none = not_linked es e (none_there none)

  pub received_carried : (ws' : Wires) (ks' : KeptEnds) → ks' ≡ change_at ks e passed → Sets e.1 e.0 (option_map without_oldest w) ws ws' → AreCarried ws' ks'
  received_carried ws' ks' was sets =
      subst (λ (z : KeptEnds). AreCarried ws' z) (sym was)
      (carried_changed ws ws' ks e (option_map without_oldest w) passed h.ordered (set_wire e (option_map without_oldest w) ws ws' sets) (λ k. refl) (λ k found at. passed_wire (neighbour_role ks e) k w at) h)

  module _ (k : KeptEnd) (found : at_end ks e ≡ Some k) (ws' : Wires) (ks' : KeptEnds) where
    -- what was received was there, since its kind is kept
    pub taken_is : (x : Option (Msg × ℕ)) (r : Result Tagged ScriptError) → k.up ≡ true → not (no_kinds k.kinds) ≡ true → x ≡ oldest w → IsTaken e x r ks ks' →
        Sets e.1 e.0 (option_map without_oldest w) ws ws' → Brings r (from_wire es e) es (seen_ends ws' ks')
    taken_is None r up some first taken sets = absurd (something_sent k found first some)
    taken_is (Some x) r up some first taken sets =
        subst (λ (z : Result Tagged ScriptError). Brings z (from_wire es e) es (seen_ends ws' ks')) (sym taken.0) (received_is k found ws' ks' x up some first taken.1 sets)

    pub taken_carried : (x : Option (Msg × ℕ)) (r : Result Tagged ScriptError) → not (no_kinds k.kinds) ≡ true → x ≡ oldest w → IsTaken e x r ks ks' →
        Sets e.1 e.0 (option_map without_oldest w) ws ws' → AreCarried ws' ks'
    taken_carried None r some first taken sets = absurd (something_sent k found first some)
    taken_carried (Some x) r some first taken sets = received_carried ws' ks' taken.1 sets
