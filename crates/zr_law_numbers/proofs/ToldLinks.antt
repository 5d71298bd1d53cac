-- What clients are told is of no request: each link is as it was (`link_told`), and so are the rows of routers and the numbers of clients.
use Rattle.std.proofs.Common.{◌≡◌, ℕ, true, List, [], ◌∷◌, ◌++◌, Option, Some, None, inl, refl, sym, ap, ◌∙◌, append-nil}
use Rattle.std.specs.Prelude.{◌||◌}
use Rattle.std.specs.List.{flat_map}
use Rattle.std.specs.Option.{option_or}
use Rattle.std.proofs.lemmas.Grind.{flat_map-append}
use Rattle.zr_msg.specs.declared.msg.Msg.{Msg}
use Rattle.zr_world_spec.specs.World.{Tagged, EndState, WorldState, client_of, end_of}
use Rattle.zr_world_spec.proofs.Telling.{is_told}
use Rattle.zr_law_settled.proofs.Told.{IsTold, AreTold, by_told, reads, end_reads, told_unbroken}
use Rattle.zr_law_settled.proofs.Worlds as worlds
use Rattle.zr_law_numbers.specs.Waiting.{wire_at, queue_at, waits, asks_in, answers_in, is_kept_by, back_at, link_of}
use Rattle.zr_law_numbers.proofs.Leading.{link_is}
use Rattle.zr_law_numbers.proofs.Waits.{wire_of, queue_of, router_holds, client_holds, router_awaits, client_awaits}
use Rattle.zr_law_numbers.proofs.Whole.{LinksStay, whole_same}

told_asks : (tag : ℕ) (msg : Msg) → is_told msg ≡ true → asks_in tag msg ≡ []
told_asks tag = by_told (λ msg. asks_in tag msg ≡ []) (λ id key interest. refl) (λ id key interest. refl) (λ id key complete interest. refl) (λ id. refl) (λ id. refl) (λ id. refl) (λ interest. refl)

told_answers : (tag : ℕ) (msg : Msg) → is_told msg ≡ true → answers_in tag msg ≡ []
told_answers tag = by_told (λ msg. answers_in tag msg ≡ []) (λ id key interest. refl) (λ id key interest. refl) (λ id key complete interest. refl) (λ id. refl) (λ id. refl) (λ id. refl) (λ interest. refl)

module _ (w v : WorldState) (t : IsTold w v) where
  -- what waits is the same but for what is told
  module _ {X : Type 0} (f : Tagged → List X) (silent : (m : Tagged) → is_told m.msg ≡ true → f m ≡ []) where
    nothing : (ms : List Tagged) → AreTold ms → flat_map f ms ≡ []
    nothing [] h = refl
    nothing (m ∷ ms) h = ap (λ z. z ++ flat_map f ms) (silent m h.0) ∙ nothing ms h.1

    pub among_told : (x y : List ℕ) → flat_map f (waits v x y) ≡ flat_map f (waits w x y)
    among_told x y =
        (λ i. flat_map f (end_reads w v t wire_of (λ s. refl) (y, x) i ++ queue i))
        ∙ flat_map-append f (wire_at w.ends (y, x)) (queue_at w.ends (x, y) ++ (t.ends (x, y)).more)
        ∙ ap (λ z. flat_map f (wire_at w.ends (y, x)) ++ z)
        (flat_map-append f (queue_at w.ends (x, y)) (t.ends (x, y)).more
        ∙ ap (λ z. flat_map f (queue_at w.ends (x, y)) ++ z) (nothing (t.ends (x, y)).more (t.ends (x, y)).told)
        ∙ append-nil (flat_map f (queue_at w.ends (x, y))))
        ∙ sym (flat_map-append f (wire_at w.ends (y, x)) (queue_at w.ends (x, y)))
      where
        same : (o : Option EndState) → queue_of o ≡ worlds.queue_at o
        same None = refl
        same (Some s) = refl

        queue : queue_at v.ends (x, y) ≡ queue_at w.ends (x, y) ++ (t.ends (x, y)).more
        queue = same (end_of v.ends (x, y)) ∙ (t.ends (x, y)).queue ∙ ap (λ z. z ++ (t.ends (x, y)).more) (sym (same (end_of w.ends (x, y))))

  pub keeps_told : (x y : List ℕ) (n : ℕ) → is_kept_by v x y n ≡ is_kept_by w x y n
  keeps_told x y n = λ i. reads w v t (router_holds x n) (λ r. refl) y i || client_holds x n (client_of (t.clients i) y)

  pub back_told : (x y : List ℕ) (n : ℕ) → back_at v x y n ≡ back_at w x y n
  back_told x y n = λ i. option_or (reads w v t (router_awaits y n) (λ r. refl) x i) (client_awaits x y n (client_of (t.clients i) x))

  pub link_told : (x y : List ℕ) → link_of w x y ≡ link_of v x y
  link_told x y = link_is (link_of w x y) (link_of v x y)
      (sym (among_told (λ m. asks_in m.tag m.msg) (λ m e. told_asks m.tag m.msg e) x y)) (sym (among_told (λ m. answers_in m.tag m.msg) (λ m e. told_answers m.tag m.msg e) y x))
      (λ n. sym (keeps_told x y n)) (λ n. sym (back_told x y n))

  pub links_told : LinksStay w v
  links_told x y whole = (inl (whole_same w v (told_unbroken w v t) x y whole), link_told x y)
