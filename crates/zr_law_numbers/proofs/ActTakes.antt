-- A message that goes from a router's queue onto the wire to another router waits as before.
use Rattle.std.proofs.Common.{◌≡◌, ℕ, inl, Bool, true, false, cond, List, [], ◌∷◌, ◌++◌, Option, Some, None, is_some, refl, sym, ap, ◌∙◌, append_assoc}
use Rattle.std.specs.Option.{option_map}
use Rattle.std.proofs.lemmas.Bool.{false≢true}
use Rattle.zr_msg.specs.declared.msg.Msg.{Msg}
use Rattle.zr_world_spec.specs.World.{Tagged, EndState, End, Ends, WorldState, client_of, end_of, is_end, turned, is_unbroken, with_end, with_queue, sent}
use Rattle.zr_world_spec.specs.Acts.{received}
use Rattle.zr_world_spec.proofs.Ends.{same_end, read_with_end, keep_with_end, read_changed, keep_changed}
use Rattle.zr_world_spec.proofs.Cases.{w_take}
use Rattle.zr_law_settled.proofs.Orderly.{turned_end}
use Rattle.zr_law_settled.proofs.Moving.{unbroken_at}
use Rattle.zr_law_numbers.specs.Waiting.{wire_at, queue_at, waits}
use Rattle.zr_law_numbers.proofs.Waits.{wire_of, queue_of, keeps_same, back_same, link_same}
use Rattle.zr_law_numbers.proofs.Whole.{LinksStay, whole_same}

module _ (w : WorldState) (a to : List ℕ) (none : client_of w.clients to ≡ None) (its : is_some (end_of w.ends (to, a)) ≡ true) (msg : Msg) (tag : ℕ) (xs : List Tagged) (e : EndState)
    (at : end_of w.ends (a, to) ≡ Some e) (first : e.queue ≡ record { msg = msg; tag = tag } ∷ xs) where
  abbrev v : WorldState
  v = w_take w a to e msg tag xs

  abbrev es : Ends
  es = with_end w.ends (a, to) (with_queue e xs)

  same_client : (q : List ℕ) → client_of v.clients q ≡ client_of w.clients q
  same_client q = ap (λ o. client_of (received w.clients to msg o) q) none

  wire_is : (q : End) → wire_at v.ends q ≡ cond (is_end (to, a) q) (wire_at w.ends (to, a) ++ record { msg = msg; tag = tag } ∷ []) (wire_at w.ends q)
  wire_is q = read_changed es (to, a) (λ z. sent z msg tag) wire_of q ∙ by (is_end (to, a) q) refl
    where
      sent_wire : (o : Option EndState) → is_some o ≡ true → wire_of (option_map (λ z. sent z msg tag) o) ≡ wire_of o ++ record { msg = msg; tag = tag } ∷ []
      sent_wire None k = absurd (false≢true k)
      sent_wire (Some z) k = refl

      by : (b : Bool) → is_end (to, a) q ≡ b → cond b (wire_of (option_map (λ z. sent z msg tag) (end_of es q))) (wire_of (end_of es q)) ≡ cond b (wire_at w.ends (to, a) ++ record { msg = msg; tag = tag } ∷ []) (wire_at w.ends q)
      by false k = keep_with_end w.ends (a, to) (with_queue e xs) wire_of q e at refl
      by true k =
          sent_wire (end_of es q) (keep_with_end w.ends (a, to) (with_queue e xs) is_some q e at refl ∙ ap (λ z. is_some (end_of w.ends z)) (sym (same_end (to, a) q k)) ∙ its)
          ∙ ap (λ z. z ++ record { msg = msg; tag = tag } ∷ []) (keep_with_end w.ends (a, to) (with_queue e xs) wire_of q e at refl ∙ ap (λ z. wire_at w.ends z) (sym (same_end (to, a) q k)))

  queue_is : (q : End) → queue_at v.ends q ≡ cond (is_end (a, to) q) xs (queue_at w.ends q)
  queue_is q = keep_changed es (to, a) (λ z. sent z msg tag) queue_of q (λ z. refl) ∙ read_with_end w.ends (a, to) (with_queue e xs) queue_of q (ap is_some at)

  still_waits : (x y : List ℕ) → waits v x y ≡ waits w x y
  still_waits x y = (λ i. (wire_is (y, x) ∙ ap (λ b. cond b (wire_at w.ends (to, a) ++ record { msg = msg; tag = tag } ∷ []) (wire_at w.ends (y, x))) (turned_end (a, to) (y, x))) i ++ queue_is (x, y) i)
      ∙ by (is_end (a, to) (x, y)) refl
    where
      by : (b : Bool) → is_end (a, to) (x, y) ≡ b →
          cond b (wire_at w.ends (to, a) ++ record { msg = msg; tag = tag } ∷ []) (wire_at w.ends (y, x)) ++ cond b xs (queue_at w.ends (x, y)) ≡ wire_at w.ends (y, x) ++ queue_at w.ends (x, y)
      by false k = refl
      by true k =
          append_assoc (wire_at w.ends (to, a)) (record { msg = msg; tag = tag } ∷ []) xs ∙ ap (λ z. wire_at w.ends (to, a) ++ z) (sym (ap queue_of at ∙ first))
          ∙ ap (λ (q : End). wire_at w.ends (turned q) ++ queue_at w.ends q) (same_end (a, to) (x, y) k)

  pub take_links : LinksStay w v
  take_links x y whole = (
    inl (whole_same w v unbroken x y whole),
    link_same w v x y (still_waits x y) (still_waits y x) (keeps_same w v x y refl (same_client y)) (back_same w v x y refl (same_client x)),
  )
    where
      unbroken : (q : End) → is_unbroken v.ends q ≡ is_unbroken w.ends q
      unbroken q = keep_changed es (to, a) (λ z. sent z msg tag) unbroken_at q (λ z. refl) ∙ keep_with_end w.ends (a, to) (with_queue e xs) unbroken_at q e at refl
