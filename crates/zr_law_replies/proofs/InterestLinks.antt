-- A client says something that neither asks nor answers anything, and of it only interests are others then: each link is as it was (`link_stays`). So it is
-- with an interest, and with its end.
use Rattle.std.proofs.Common.{◌≡◌, ℕ, List, [], ◌∷◌, ◌++◌, Some, refl, sym, ap, ◌∙◌, append-nil}
use Rattle.std.specs.Prelude.{◌||◌}
use Rattle.std.specs.Option.{option_or}
use Rattle.zr_msg.specs.declared.msg.Msg.{Msg}
use Rattle.zr_world_spec.specs.World.{RouterState, ClientState, EndState, End, Routers, Clients, WorldState, with_routers, with_clients, router_of, client_of, with_router, with_client, end_of, sent}
use Rattle.zr_world_spec.specs.Acts.{weighing}
use Rattle.zr_world_spec.proofs.Names.{read_kept}
use Rattle.zr_world_spec.proofs.Ends.{keep_with_end}
use Rattle.zr_world_spec.proofs.Cases.{w_sent}
use Rattle.zr_law_numbers.specs.Waiting.{asks_in, answers_in, asks, answers, wire_at, queue_at, link_of}
use Rattle.zr_law_numbers.proofs.Leading.{link_is}
use Rattle.zr_law_numbers.proofs.Waits.{wire_of, queue_of, asks_among, answers_among, asks_append, answers_append, router_holds, client_holds, router_awaits, client_awaits}

-- routers and clients of whom what concerns queries is as it was
pub record AreQuiet (w : WorldState) (routers : Routers) (clients : Clients) : Type 0 where
  pub holds : (a b : List ℕ) (k : ℕ) → router_holds a k (router_of routers b) ≡ router_holds a k (router_of w.routers b)
  pub awaits : (a b : List ℕ) (k : ℕ) → router_awaits b k (router_of routers a) ≡ router_awaits b k (router_of w.routers a)
  pub keeps : (a b : List ℕ) (k : ℕ) → client_holds a k (client_of clients b) ≡ client_holds a k (client_of w.clients b)
  pub asks : (a b : List ℕ) (k : ℕ) → client_awaits a b k (client_of clients a) ≡ client_awaits a b k (client_of w.clients a)

pub none_quiet : (w : WorldState) → AreQuiet w w.routers w.clients
none_quiet w = record { holds = λ a b k. refl; awaits = λ a b k. refl; keeps = λ a b k. refl; asks = λ a b k. refl }

-- other interests
pub interests_quiet : (w : WorldState) (name : List ℕ) (s s' : ClientState) → client_of w.clients name ≡ Some s → ((a b : List ℕ) (k : ℕ) → client_holds a k (Some s') ≡ client_holds a k (Some s)) →
    ((a b : List ℕ) (k : ℕ) → client_awaits a b k (Some s') ≡ client_awaits a b k (Some s)) → AreQuiet w w.routers (with_client w.clients name s')
interests_quiet w name s s' found holds awaits = record {
  holds = λ a b k. refl;
  awaits = λ a b k. refl;
  keeps = λ a b k. read_kept (client_holds a k) w.clients name b s s' found (holds a b k);
  asks = λ a b k. read_kept (client_awaits a b k) w.clients name a s s' found (awaits a b k);
}

-- and what weighs on a router
pub weighs_quiet : (w : WorldState) (clients : Clients) → AreQuiet w w.routers clients → (x : List ℕ) (r : RouterState) → router_of w.routers x ≡ Some r → (key : List ℕ) →
    AreQuiet w (with_router w.routers x (weighing r key)) clients
weighs_quiet w clients q x r found key = record {
  holds = λ a b k. read_kept (router_holds a k) w.routers x b r (weighing r key) found refl;
  awaits = λ a b k. read_kept (router_awaits b k) w.routers x a r (weighing r key) found refl;
  keeps = q.keeps;
  asks = q.asks;
}

module _ (w : WorldState) (name : List ℕ) (s : ClientState) (e : EndState) (ee : end_of w.ends (s.router, name) ≡ Some e) (n : ℕ) (msg : Msg) (no_ask : asks_in n msg ≡ []) (no_answer : answers_in n msg ≡ [])
    (routers : Routers) (clients : Clients) (quiet : AreQuiet w routers clients) where
  abbrev v : WorldState
  v = with_clients (with_routers (w_sent w n name s e msg) routers) clients

  queues : (q : End) → queue_at v.ends q ≡ queue_at w.ends q
  queues q = keep_with_end w.ends (s.router, name) (sent e msg n) queue_of q e ee refl

  wire_asks : (q : End) → asks_among (wire_at v.ends q) ≡ asks_among (wire_at w.ends q)
  wire_asks q = keep_with_end w.ends (s.router, name) (sent e msg n) (λ o. asks_among (wire_of o)) q e ee
      (asks_append e.wire (record { msg = msg; tag = n } ∷ []) ∙ ap (λ z. asks_among e.wire ++ z) (append-nil (asks_in n msg) ∙ no_ask) ∙ append-nil (asks_among e.wire))

  wire_answers : (q : End) → answers_among (wire_at v.ends q) ≡ answers_among (wire_at w.ends q)
  wire_answers q = keep_with_end w.ends (s.router, name) (sent e msg n) (λ o. answers_among (wire_of o)) q e ee
      (answers_append e.wire (record { msg = msg; tag = n } ∷ []) ∙ ap (λ z. answers_among e.wire ++ z) (append-nil (answers_in n msg) ∙ no_answer) ∙ append-nil (answers_among e.wire))

  asks_stay : (a b : List ℕ) → asks v a b ≡ asks w a b
  asks_stay a b = asks_append (wire_at v.ends (b, a)) (queue_at v.ends (a, b)) ∙ (λ i. wire_asks (b, a) i ++ asks_among (queues (a, b) i))
      ∙ sym (asks_append (wire_at w.ends (b, a)) (queue_at w.ends (a, b)))

  answers_stay : (a b : List ℕ) → answers v a b ≡ answers w a b
  answers_stay a b = answers_append (wire_at v.ends (a, b)) (queue_at v.ends (b, a)) ∙ (λ i. wire_answers (a, b) i ++ answers_among (queues (b, a) i))
      ∙ sym (answers_append (wire_at w.ends (a, b)) (queue_at w.ends (b, a)))

  pub link_stays : (a b : List ℕ) → link_of w a b ≡ link_of (with_clients (with_routers (w_sent w n name s e msg) routers) clients) a b
  link_stays a b = link_is (link_of w a b) (link_of v a b) (sym (asks_stay a b)) (sym (answers_stay a b))
      (λ k. sym (λ i. quiet.holds a b k i || quiet.keeps a b k i)) (λ k. sym (λ i. option_or (quiet.awaits a b k i) (quiet.asks a b k i)))
