-- Messages come onto a wire and leave it, and so do their kinds.
use Rattle.std.proofs.Common.{◌≡◌, ℕ, Bool, true, false, cond, not, List, [], ◌∷◌, ◌++◌, map, drop, Option, Some, None, Result, Ok, Err, refl, sym, ap, ◌∙◌, subst}
use Rattle.std.specs.Prelude.{is_some}
use Rattle.std.specs.List.Sorted.{IsStrictlySortedBy}
use Rattle.std.specs.Map.{keys_of}
use Rattle.std.specs.Option.{option_map}
use Rattle.std.proofs.lemmas.Bool.{true≢false, false≢true}
use Rattle.std.proofs.lemmas.List.{map-append}
use Rattle.zr_lists.proofs.Options.{there_changed}
use Rattle.zr_msg.specs.declared.msg.Msg.{Msg}
use Rattle.zr_msg.specs.declared.peer.Role.{Role}
use Rattle.zr_script_spec.specs.declared.error.ScriptError.{ScriptError}
use Rattle.zr_script_spec.specs.declared.error.ScriptError.TheVariants.{NothingThere, NotLinked}
use Rattle.zr_script_spec.specs.Step.{◌>>=◌}
use Rattle.zr_wire.specs.Sending.{MayBeSent}
use Rattle.zr_carrier.specs.Wire.{Wire, Wires, CanSend, emptied, oldest as oldest_on, with_message, without_oldest}
use Rattle.zr_world_spec.specs.World.{Tagged, EndState, End, Ends, end_cmp, is_end, end_of, turned, changed, sent, with_end, with_wire, with_queue}
use Rattle.zr_world_spec.specs.Acts.{end_at, up_at, unbroken_at, oldest, unless}
use Rattle.zr_world_spec.proofs.Ends.{same_end}
use Rattle.zr_world_ends.specs.declared.kind.WireKind.{WireKind}
use Rattle.zr_world_ends.specs.Carried.{ArePaired, MayArrive, messages, seen, seen_ends, IsWire, IsWireIf, IsAtWire, AreCarried, neighbour_role, role_if}
use Rattle.zr_world_ends.specs.Kept.{KeptEnd, KeptEnds, announced, kind_of, lost, no_kinds, passed, with_queue as kept_queue}
use Rattle.zr_world_ends.specs.Named.{at_end, set_at, change_at, change_found}
use Rattle.zr_world_ends.specs.Steps.{Gives, from_wire, from_queue, from_kept, kept_at}
use Rattle.zr_world_ends.proofs.Changing.{carried_changed, seen_changed}
use Rattle.zr_world_ends.proofs.Same.{changed_by_look_up}
use Rattle.zr_world_ends.proofs.Seen.{seen_at, sorted_seen}

-- ---- an end whose link is unbroken

at_wire : (role : Role) (k : KeptEnd) (w : Option Wire) → k.unbroken ≡ true → IsAtWire role k w → IsWire role k.kinds w
at_wire role k w on h = subst (IsWireIf role k.kinds w) on h

-- where something is on the wire, the link is unbroken
pub sent_unbroken : (role : Role) (k : KeptEnd) (w : Option Wire) → IsAtWire role k w → not (no_kinds k.kinds) ≡ true → k.unbroken ≡ true
sent_unbroken role k w h some = by k.unbroken refl h
  where
    by : (b : Bool) → k.unbroken ≡ b → IsWireIf role k.kinds w b → b ≡ true
    by true e g = refl
    by false e g = absurd (false≢true (sym (ap (λ z. not (no_kinds z)) g) ∙ some))

-- the neighbour that may send may do so on the wire
pub can_send : (ws : Wires) (ks : KeptEnds) (e : End) (k : KeptEnd) (msg : Msg) → AreCarried ws ks → MayArrive (seen_ends ws ks) e msg → at_end ks e ≡ Some k →
    (k.unbroken ≡ true) × CanSend (ws e.1 e.0) msg
can_send ws ks e k msg h may found =
    let m = may (seen k (ws e.1 e.0)) (seen_at ws ks e ∙ ap (option_map (λ k. seen k (ws e.1 e.0))) found) in
    (m.0, by (ws e.1 e.0) (at_wire (neighbour_role ks e) k (ws e.1 e.0) m.0 (h.carried e.0 e.1 k found)) (subst (λ (r : Role). MayBeSent r msg) role m.1))
  where
    role : neighbour_role (seen_ends ws ks) e ≡ neighbour_role ks e
    role = ap role_if (ap (λ o. is_some o) (seen_at ws ks (turned e)) ∙ there_changed (λ k. seen k (ws e.0 e.1)) (at_end ks (turned e)))

    by : (w : Option Wire) → IsWire (neighbour_role ks e) k.kinds w → MayBeSent (neighbour_role ks e) msg → CanSend w msg
    by None a b = a
    by (Some w) a b = subst (λ (r : Role). MayBeSent r msg) (sym a.0) b

-- ---- one end and its wire

abbrev tag_of : Msg × ℕ → Tagged
tag_of y = record { msg = y.0; tag = y.1 }

drop_map : {X Y : Type 0} (f : X → Y) (xs : List X) → drop 1 (map f xs) ≡ map f (drop 1 xs)
drop_map f [] = refl
drop_map f (x ∷ xs) = refl

module _ (role : Role) (k : KeptEnd) (w : Option Wire) (h : IsAtWire role k w) where
  -- a message more
  pub sent_seen : (msg : Msg) (tag : ℕ) → k.unbroken ≡ true → seen (announced k (kind_of msg)) (option_map (λ v. with_message v msg tag) w) ≡ sent (seen k w) msg tag
  sent_seen msg tag on = ap (λ (z : List Tagged). record { up = k.up; unbroken = k.unbroken; queue = k.queue; wire = z; weight = k.weight }) (by k.unbroken on w (at_wire role k w on h))
    where
      by : (b : Bool) → b ≡ true → (v : Option Wire) → IsWire role k.kinds v →
          cond b (messages (option_map (λ v. with_message v msg tag) v)) [] ≡ cond b (messages v) [] ++ record { msg = msg; tag = tag } ∷ []
      by true e None g = absurd g
      by true e (Some v) g = map-append (λ (x : Msg × ℕ). record { msg = x.0; tag = x.1 }) v.waiting ((msg, tag) ∷ [])
      by false e v g = absurd (false≢true e)

  pub sent_wire : (msg : Msg) (tag : ℕ) → k.unbroken ≡ true → IsAtWire role (announced k (kind_of msg)) (option_map (λ v. with_message v msg tag) w)
  sent_wire msg tag on = subst (IsWireIf role (k.kinds ++ kind_of msg ∷ []) (option_map (λ v. with_message v msg tag) w)) (sym on) (by w (at_wire role k w on h))
    where
      by : (v : Option Wire) → IsWire role k.kinds v → IsWire role (k.kinds ++ kind_of msg ∷ []) (option_map (λ v. with_message v msg tag) v)
      by None g = g
      by (Some v) g = (g.0, ap (λ z. z ++ kind_of msg ∷ []) g.1 ∙ sym (map-append (λ (x : Msg × ℕ). kind_of x.0) v.waiting ((msg, tag) ∷ [])))

  -- all are lost
  pub lost_wire : IsAtWire role (lost k) (option_map emptied w)
  lost_wire = by k.unbroken w h
    where
      by : (b : Bool) (v : Option Wire) → IsWireIf role k.kinds v b → IsWireIf role [] (option_map emptied v) b
      by true None g = g
      by true (Some v) g = (g.0, refl)
      by false v g = refl

  -- the oldest has left
  pub passed_wire : IsAtWire role (passed k) (option_map without_oldest w)
  passed_wire = by k.unbroken w h
    where
      by : (b : Bool) (v : Option Wire) → IsWireIf role k.kinds v b → IsWireIf role (drop 1 k.kinds) (option_map without_oldest v) b
      by true None g = g
      by true (Some v) g = (g.0, ap (λ z. drop 1 z) g.1 ∙ drop_map (λ (x : Msg × ℕ). kind_of x.0) v.waiting)
      by false v g = ap (λ z. drop 1 z) g

  pub passed_seen : seen (passed k) (option_map without_oldest w) ≡ with_wire (seen k w) (drop 1 (seen k w).wire)
  passed_seen = ap (λ (z : List Tagged). record { up = k.up; unbroken = k.unbroken; queue = k.queue; wire = z; weight = k.weight }) (by k.unbroken w)
    where
      by : (b : Bool) (v : Option Wire) → cond b (messages (option_map without_oldest v)) [] ≡ drop 1 (cond b (messages v) [])
      by true None = refl
      by true (Some v) = sym (drop_map (λ (x : Msg × ℕ). record { msg = x.0; tag = x.1 }) v.waiting)
      by false v = refl

  -- the oldest is the first that is seen
  pub first_seen : (x : Msg × ℕ) → Some x ≡ oldest_on w → not (no_kinds k.kinds) ≡ true → (more : List Tagged) × ((seen k w).wire ≡ record { msg = x.0; tag = x.1 } ∷ more)
  first_seen x first some = by k.unbroken (sent_unbroken role k w h some) w first
    where
      by : (b : Bool) → b ≡ true → (v : Option Wire) → Some x ≡ oldest_on v → (more : List Tagged) × (cond b (messages v) [] ≡ record { msg = x.0; tag = x.1 } ∷ more)
      by false e v g = absurd (false≢true e)
      by true e None g = absurd (cc)
      by true e (Some v) g = on v.waiting refl g
        where
          on : (l : List (Msg × ℕ)) → v.waiting ≡ l → Some x ≡ oldest_on (Some (record { role = v.role; waiting = l })) →
              (more : List Tagged) × (map tag_of v.waiting ≡ record { msg = x.0; tag = x.1 } ∷ more)
          on [] e g = absurd (cc)
          on (y ∷ l) e g =
              let is : x ≡ y = cc in (
                map tag_of l,
                ap (λ (z : List (Msg × ℕ)). map tag_of z) e ∙ ap (λ (z : Msg × ℕ). record { msg = z.0; tag = z.1 } ∷ map tag_of l) (sym is),
              )

  -- something is on the wire where the kind of something is kept
  pub some_sent : None ≡ oldest_on w → not (no_kinds k.kinds) ≡ true → ⊥
  some_sent none some = by w (at_wire role k w (sent_unbroken role k w h some) h) none
    where
      by : (v : Option Wire) → IsWire role k.kinds v → None ≡ oldest_on v → ⊥
      by None g n = g
      by (Some v) g n = on v.waiting refl n
        where
          on : (l : List (Msg × ℕ)) → v.waiting ≡ l → None ≡ oldest_on (Some (record { role = v.role; waiting = l })) → ⊥
          on [] e n = false≢true (sym (ap (λ z. not (no_kinds z)) (g.1 ∙ ap (λ (z : List (Msg × ℕ)). map (λ x. kind_of x.0) z) e)) ∙ some)
          on (y ∷ l) e n = let no : None ≡ Some y = n in cc

  -- and nothing where none is
  pub none_seen : not (no_kinds k.kinds) ≡ false → (seen k w).wire ≡ []
  none_seen none = by k.unbroken w h
    where
      by : (b : Bool) (v : Option Wire) → IsWireIf role k.kinds v b → cond b (messages v) [] ≡ []
      by false v g = refl
      by true None g = absurd g
      by true (Some v) g = on v.waiting refl
        where
          on : (l : List (Msg × ℕ)) → v.waiting ≡ l → map tag_of v.waiting ≡ []
          on [] e = ap (λ (z : List (Msg × ℕ)). map tag_of z) e
          on (y ∷ l) e = absurd (true≢false (sym (ap (λ z. not (no_kinds z)) (g.1 ∙ ap (λ (z : List (Msg × ℕ)). map (λ x. kind_of x.0) z) e)) ∙ none))

-- ---- what is said of the ends

pub wire_gives : (es : Ends) (e : End) (s : EndState) (x : Tagged) (xs : List Tagged) → IsStrictlySortedBy end_cmp (keys_of es) → end_of es e ≡ Some s → s.up ≡ true → s.wire ≡ x ∷ xs →
    from_wire es e ≡ Ok (x, changed es e (λ t. with_wire t (drop 1 t.wire)))
unfolding from_wire
wire_gives es e s x xs sorted found up wire =
    ap (λ o. end_at o >>= λ s. up_at s >>= λ a. oldest s.wire >>= λ x. Ok (x.0, with_end es e (with_wire s x.1))) found
    ∙ ap (λ b. unless (not b) NotLinked >>= λ a. oldest s.wire >>= λ x. Ok (x.0, with_end es e (with_wire s x.1))) up
    ∙ ap (λ w. oldest w >>= λ x. Ok (x.0, with_end es e (with_wire s x.1))) wire
    ∙ ap (λ (z : Ends). Ok (x, z))
    (ap (λ w. with_end es e (with_wire s (drop 1 w))) (sym wire) ∙ sym (ap (λ o. change_found es e (λ t. with_wire t (drop 1 t.wire)) o) found)
    ∙ changed_by_look_up es e (λ t. with_wire t (drop 1 t.wire)) sorted)

pub not_linked : (es : Ends) (e : End) → end_of es e ≡ None → from_wire es e ≡ Err NotLinked
unfolding from_wire
not_linked es e none = ap (λ o. end_at o >>= λ s. up_at s >>= λ a. oldest s.wire >>= λ x. Ok (x.0, with_end es e (with_wire s x.1))) none

pub not_up : (es : Ends) (e : End) (s : EndState) → end_of es e ≡ Some s → s.up ≡ false → from_wire es e ≡ Err NotLinked
unfolding from_wire
not_up es e s found down =
    ap (λ o. end_at o >>= λ s. up_at s >>= λ a. oldest s.wire >>= λ x. Ok (x.0, with_end es e (with_wire s x.1))) found
    ∙ ap (λ b. unless (not b) NotLinked >>= λ a. oldest s.wire >>= λ x. Ok (x.0, with_end es e (with_wire s x.1))) down

pub nothing_there : (es : Ends) (e : End) (s : EndState) → end_of es e ≡ Some s → s.up ≡ true → s.wire ≡ [] → from_wire es e ≡ Err NothingThere
unfolding from_wire
nothing_there es e s found up none =
    ap (λ o. end_at o >>= λ s. up_at s >>= λ a. oldest s.wire >>= λ x. Ok (x.0, with_end es e (with_wire s x.1))) found
    ∙ ap (λ b. unless (not b) NotLinked >>= λ a. oldest s.wire >>= λ x. Ok (x.0, with_end es e (with_wire s x.1))) up
    ∙ ap (λ w. oldest w >>= λ x. Ok (x.0, with_end es e (with_wire s x.1))) none

-- ---- where the carrier does nothing

pub same_wires : (ws : Wires) (e : End) (q : End) → ws q.1 q.0 ≡ cond (is_end e q) (ws e.1 e.0) (ws q.1 q.0)
same_wires ws e q = by (is_end e q) refl
  where
    by : (b : Bool) → is_end e q ≡ b → ws q.1 q.0 ≡ cond b (ws e.1 e.0) (ws q.1 q.0)
    by true n = ap (λ (z : End). ws z.1 z.0) (sym (same_end e q n))
    by false n = refl

module _ (ws : Wires) (ks : KeptEnds) (h : AreCarried ws ks) where
  -- a change that touches neither the link nor what is on the wire
  pub still_carried : (e : End) (f : KeptEnd → KeptEnd) → ((k : KeptEnd) → (f k).unbroken ≡ k.unbroken) → ((k : KeptEnd) → (f k).kinds ≡ k.kinds) → AreCarried ws (change_at ks e f)
  still_carried e f on same = carried_changed ws ws ks e (ws e.1 e.0) f h.ordered (same_wires ws e) on here h
    where
      here : (k : KeptEnd) → at_end ks e ≡ Some k → IsAtWire (neighbour_role ks e) k (ws e.1 e.0) → IsAtWire (neighbour_role ks e) (f k) (ws e.1 e.0)
      here k found g =
          subst (λ (b : Bool). IsWireIf (neighbour_role ks e) (f k).kinds (ws e.1 e.0) b) (sym (on k))
          (subst (λ (z : List WireKind). IsWireIf (neighbour_role ks e) z (ws e.1 e.0) k.unbroken) (sym (same k)) g)

  pub still_seen : (e : End) (f : KeptEnd → KeptEnd) (g : EndState → EndState) → ((k : KeptEnd) (w : Option Wire) → seen (f k) w ≡ g (seen k w)) →
      seen_ends ws (change_at ks e f) ≡ changed (seen_ends ws ks) e g
  still_seen e f g same = seen_changed ws ws ks e (ws e.1 e.0) f h.ordered (same_wires ws e) g (λ k found. same k (ws e.1 e.0))

  -- both ends of a link are seen unbroken, or none is
  pub paired_seen : ArePaired (seen_ends ws ks)
  paired_seen x y s t found found' = by (at_end ks (x, y)) refl (at_end ks (y, x)) refl (sym (seen_at ws ks (x, y)) ∙ found) (sym (seen_at ws ks (y, x)) ∙ found')
    where
      by : (o : Option KeptEnd) → at_end ks (x, y) ≡ o → (p : Option KeptEnd) → at_end ks (y, x) ≡ p → option_map (λ k. seen k (ws y x)) o ≡ Some s → option_map (λ k. seen k (ws x y)) p ≡ Some t →
          s.unbroken ≡ t.unbroken
      by None a p b f g = absurd (cc)
      by (Some k) a None b f g = absurd (cc)
      by (Some k) a (Some j) b f g =
          let one : seen k (ws y x) ≡ s = cc in
          let other : seen j (ws x y) ≡ t = cc in
          ap (λ (z : EndState). z.unbroken) (sym one) ∙ h.paired x y k j a b ∙ ap (λ (z : EndState). z.unbroken) other

  -- ---- a message is taken from a queue

  abbrev seen_result : Result (Tagged × KeptEnds) ScriptError → Result (Tagged × Ends) ScriptError
  seen_result (Ok x) = Ok (x.0, seen_ends ws x.1)
  seen_result (Err e) = Err e

  queue_change : (e : End) (k : KeptEnd) (xs : List Tagged) (x : Tagged) → at_end ks e ≡ Some k → k.queue ≡ x ∷ xs → set_at ks e (kept_queue k xs) ≡ change_at ks e (λ k. kept_queue k (drop 1 k.queue))
  queue_change e k xs x found queue =
      ap (λ z. set_at ks e (kept_queue k (drop 1 z))) (sym queue) ∙ sym (ap (λ o. change_found ks e (λ k. kept_queue k (drop 1 k.queue)) o) found)
      ∙ changed_by_look_up ks e (λ k. kept_queue k (drop 1 k.queue)) h.ordered

  module _ (e : End) where
    abbrev next_kept : KeptEnd → KeptEnd
    next_kept k = kept_queue k (drop 1 k.queue)

    abbrev next_seen : EndState → EndState
    next_seen s = with_queue s (drop 1 s.queue)

    abbrev es : Ends
    es = seen_ends ws ks

    abbrev w : Option Wire
    w = ws e.1 e.0

    abbrev took : KeptEnd → Tagged × List Tagged → Result (Tagged × KeptEnds) ScriptError
    took k x = Ok (x.0, set_at ks e (kept_queue k x.1))

    abbrev took_seen : EndState → Tagged × List Tagged → Result (Tagged × Ends) ScriptError
    took_seen s x = Ok (x.0, with_end es e (with_queue s x.1))

    abbrev kept_in : Result (Tagged × KeptEnds) ScriptError → KeptEnds
    kept_in (Ok x) = x.1
    kept_in (Err refusal) = ks

    one_taken : (k : KeptEnd) (x : Tagged) (xs : List Tagged) → at_end ks e ≡ Some k → k.queue ≡ x ∷ xs → with_end es e (with_queue (seen k w) xs) ≡ seen_ends ws (set_at ks e (kept_queue k xs))
    one_taken k x xs found queue =
        ap (λ z. with_end es e (with_queue (seen k w) (drop 1 z))) (sym queue) ∙ sym (ap (λ o. change_found es e next_seen o) (seen_at ws ks e ∙ ap (option_map (λ k. seen k w)) found))
        ∙ changed_by_look_up es e next_seen (sorted_seen ws ks h.ordered) ∙ sym (still_seen e next_kept next_seen (λ k w. refl))
        ∙ ap (λ z. seen_ends ws z) (sym (queue_change e k xs x found queue))

    same_result : from_queue es e ≡ seen_result (from_kept ks e)
    unfolding from_queue from_kept
    same_result =
        ap (λ o. end_at o >>= λ s. up_at s >>= λ a. unbroken_at s >>= λ b. oldest s.queue >>= took_seen s) (seen_at ws ks e)
        ∙ by (at_end ks e) refl
      where
        by : (o : Option KeptEnd) → at_end ks e ≡ o →
            (end_at (option_map (λ k. seen k w) o) >>= λ s. up_at s >>= λ a. unbroken_at s >>= λ b. oldest s.queue >>= took_seen s)
            ≡ seen_result (kept_at o >>= λ k. unless (not k.up) NotLinked >>= λ a. unless (not k.unbroken) NotLinked >>= λ b. oldest k.queue >>= took k)
        by None found = refl
        by (Some k) found = tests k.up k.unbroken k.queue refl
          where
            tests : (b c : Bool) (l : List Tagged) → k.queue ≡ l →
                (unless (not b) NotLinked >>= λ a. unless (not c) NotLinked >>= λ b. oldest l >>= took_seen (seen k w))
                ≡ seen_result (unless (not b) NotLinked >>= λ a. unless (not c) NotLinked >>= λ b. oldest l >>= took k)
            tests false c l queue = refl
            tests true false l queue = refl
            tests true true [] queue = refl
            tests true true (x ∷ xs) queue = ap (λ (z : Ends). Ok (x, z)) (one_taken k x xs found queue)

    kept_taken : (x : Tagged) (ks' : KeptEnds) → from_kept ks e ≡ Ok (x, ks') → ks' ≡ change_at ks e next_kept
    unfolding from_kept
    kept_taken x ks' taken = by (at_end ks e) refl taken
      where
        by : (o : Option KeptEnd) → at_end ks e ≡ o →
            (kept_at o >>= λ k. unless (not k.up) NotLinked >>= λ a. unless (not k.unbroken) NotLinked >>= λ b. oldest k.queue >>= took k) ≡ Ok (x, ks') →
            ks' ≡ change_at ks e next_kept
        by None found g = absurd (cc)
        by (Some k) found g = tests k.up k.unbroken k.queue refl g
          where
            tests : (b c : Bool) (l : List Tagged) → k.queue ≡ l →
                (unless (not b) NotLinked >>= λ a. unless (not c) NotLinked >>= λ b. oldest l >>= took k) ≡ Ok (x, ks') → ks' ≡ change_at ks e next_kept
            tests false c l queue g = absurd (cc)
            tests true false l queue g = absurd (cc)
            tests true true [] queue g = absurd (cc)
            tests true true (y ∷ ys) queue g = let is : set_at ks e (kept_queue k ys) ≡ ks' = ap kept_in g in sym is ∙ queue_change e k ys y found queue

    pub queue_seen : (r : Result Tagged ScriptError) (ks' : KeptEnds) → Gives r (from_kept ks e) ks ks' → Gives r (from_queue es e) es (seen_ends ws ks')
    queue_seen (Ok x) ks' g = same_result ∙ ap seen_result g
    queue_seen (Err refusal) ks' g = (same_result ∙ ap seen_result g.0, ap (λ z. seen_ends ws z) g.1)

    pub queue_carried : (r : Result Tagged ScriptError) (ks' : KeptEnds) → Gives r (from_kept ks e) ks ks' → AreCarried ws ks'
    queue_carried (Ok x) ks' g = subst (λ (z : KeptEnds). AreCarried ws z) (sym (kept_taken x ks' g)) (still_carried e next_kept (λ k. refl) (λ k. refl))
    queue_carried (Err refusal) ks' g = subst (λ (z : KeptEnds). AreCarried ws z) (sym g.1) h
