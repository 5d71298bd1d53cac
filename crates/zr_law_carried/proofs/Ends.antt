-- Ends at which all may be carried stay so: where an end is replaced or new, where it is changed, and where a router's messages come to its queues.
use Rattle.std.proofs.Common.{◌≡◌, ℕ, Bool, true, false, cond, List, [], ◌∷◌, map, Option, Some, None, refl, sym, ap, ◌∙◌, subst}
use Rattle.std.specs.Prelude.{is_some, IfSome}
use Rattle.std.specs.List.{AllByRecursion}
use Rattle.std.specs.Option.{option_map}
use Rattle.zr_id.specs.Zid.{is_named}
use Rattle.zr_lists.proofs.Each.{All-append}
use Rattle.zr_msg.specs.declared.msg.Msg.{Msg}
use Rattle.zr_msg.specs.declared.peer.Role.{Role}
use Rattle.zr_world_spec.specs.World.{Tagged, EndState, End, Ends, is_end, end_of, with_end, put_end, changed, queued}
use Rattle.zr_world_spec.specs.Acts.{waiting}
use Rattle.zr_world_spec.proofs.Ends.{same_end, with_end_is, put_end_is, changed_is, waiting_is}
use Rattle.zr_law_carried.specs.Carriable.{IsCarried, SentTo}

-- by who has each name
abbrev pub AreCarried : (List ℕ → Role) → Ends → Type 0
AreCarried role es = (e : End) → IfSome (end_of es e) (λ s. IsCarried (role e.1) s)

module _ (role : List ℕ → Role) (es : Ends) (e : End) where
  -- one end is this, and others are as they were
  one_carried : (s : EndState) → AreCarried role es → IsCarried (role e.1) s → (q : End) (b : Bool) → is_end e q ≡ b →
      IfSome (cond b (Some s) (end_of es q)) (λ s. IsCarried (role q.1) s)
  one_carried s h k q true same = subst (λ (z : End). IsCarried (role z.1) s) (same_end e q same) k
  one_carried s h k q false same = h q

  pub with_carried : (s : EndState) → is_some (end_of es e) ≡ true → AreCarried role es → IsCarried (role e.1) s → AreCarried role (with_end es e s)
  with_carried s there h k q =
      subst (λ (o : Option EndState). IfSome o (λ s. IsCarried (role q.1) s)) (sym (with_end_is es e s q there)) (one_carried s h k q (is_end e q) refl)

  pub put_carried : (s : EndState) → AreCarried role es → IsCarried (role e.1) s → AreCarried role (put_end es e s)
  put_carried s h k q = subst (λ (o : Option EndState). IfSome o (λ s. IsCarried (role q.1) s)) (sym (put_end_is es e s q)) (one_carried s h k q (is_end e q) refl)

  -- the end is changed, where it is there
  pub changed_carried : (change : EndState → EndState) → ((s : EndState) → end_of es e ≡ Some s → IsCarried (role e.1) s → IsCarried (role e.1) (change s)) → AreCarried role es →
      AreCarried role (changed es e change)
  changed_carried change keeps h q =
      subst (λ (o : Option EndState). IfSome o (λ s. IsCarried (role q.1) s)) (sym (changed_is es e change q)) (by (is_end e q) refl (end_of es q) refl (h q))
    where
      by : (b : Bool) → is_end e q ≡ b → (o : Option EndState) → end_of es q ≡ o → IfSome o (λ s. IsCarried (role q.1) s) → IfSome (cond b (option_map change o) o) (λ s. IsCarried (role q.1) s)
      by true same None there k = tt
      by true same (Some s) there k =
          let own : e ≡ q = same_end e q same in
          subst (λ (z : End). IsCarried (role z.1) (change s)) own (keeps s (ap (end_of es) own ∙ there) (subst (λ (z : End). IsCarried (role z.1) s) (sym own) k))
      by false same o there k = k

-- messages of a router come to its queues
tagged_sent : (role : Role) (tag : ℕ) (ms : List Msg) → AllByRecursion (λ m. SentTo role m) ms → AllByRecursion (λ (t : Tagged). SentTo role t.msg) (map (λ m. record { msg = m; tag = tag }) ms)
tagged_sent role tag [] h = tt
tagged_sent role tag (m ∷ ms) h = (h.0, tagged_sent role tag ms h.1)

queued_carried : (role : Role) (s : EndState) (ms : List Msg) (tag : ℕ) → IsCarried role s → AllByRecursion (λ m. SentTo role m) ms → IsCarried role (queued s ms tag)
queued_carried role s ms tag h k = record {
  wire = h.wire;
  queue = All-append (λ (t : Tagged). SentTo role t.msg) s.queue (map (λ m. record { msg = m; tag = tag }) ms) h.queue (tagged_sent role tag ms k);
}

pub waiting_carried : (role : List ℕ → Role) (es : Ends) (x : List ℕ) (msgs : List ℕ → List Msg) (tag : ℕ) → ((y : List ℕ) → AllByRecursion (λ m. SentTo (role y) m) (msgs y)) →
    AreCarried role es → AreCarried role (waiting es x msgs tag)
waiting_carried role es x msgs tag may h q =
    subst (λ (o : Option EndState). IfSome o (λ s. IsCarried (role q.1) s)) (sym (waiting_is es x msgs tag q)) (by (is_named x q.0) (end_of es q) (h q))
  where
    by : (b : Bool) (o : Option EndState) → IfSome o (λ s. IsCarried (role q.1) s) → IfSome (cond b (option_map (λ s. queued s (msgs q.1) tag) o) o) (λ s. IsCarried (role q.1) s)
    by true None k = tt
    by true (Some s) k = queued_carried (role q.1) s (msgs q.1) tag k (may q.1)
    by false o k = k
