-- A client says something: what becomes of the hops of its two links, and that those of other links stay (`says_up`, `says_down`, `says_same`).
use Rattle.std.proofs.Common.{◌≡◌, ℕ, ◌⊎◌, inl, inr, Bool, true, false, cond, List, [], ◌∷◌, ◌++◌, Some, None, is_some, refl, sym, ap, ◌∙◌, subst, append-nil}
use Rattle.std.specs.Prelude.{◌||◌}
use Rattle.std.specs.List.{AllByRecursion}
use Rattle.std.proofs.lemmas.Bool.{false≢true, and_right}
use Rattle.zr_id.specs.Zid.{is_named}
use Rattle.zr_graph.proofs.Names.{same_is, same_refl}
use Rattle.zr_msg.specs.declared.msg.Msg.{Msg}
use Rattle.zr_world_spec.specs.World.{ClientState, EndState, End, Clients, WorldState, with_clients, client_of, end_of, is_end, is_unbroken, sent}
use Rattle.zr_world_spec.proofs.Ends.{end_parts, read_with_end, keep_with_end}
use Rattle.zr_world_spec.proofs.Cases.{w_sent}
use Rattle.zr_law_settled.proofs.Goes.{Goes}
use Rattle.zr_law_settled.proofs.Moving.{unbroken_at}
use Rattle.zr_guarantee.specs.Queries.{Asked as Query}
use Rattle.zr_law_numbers.specs.Waiting.{wire_at, queue_at, waits, asks_in, answers_in, link_of, is_whole}
use Rattle.zr_law_numbers.specs.Deeds.{Deed}
use Rattle.zr_law_numbers.proofs.Waits.{wire_of, queue_of, asks_among, answers_among, asks_append, answers_append, keeps_same, back_same, link_same}
use Rattle.zr_law_numbers.proofs.Whole.{whole_apart, whole_end, whole_turned, no_own_end}
use Rattle.zr_law_numbers.proofs.Doing.{Above, Below}
use Rattle.zr_law_numbers.proofs.ActClients.{client_half, SaysDeeds, says_waits}
use Rattle.zr_law_replies.proofs.Links.{Lines, lines_on}
use Rattle.zr_law_replies.proofs.Standing.{keeps_is, back_is}
use Rattle.zr_law_replies.proofs.ShownHops.{plain}
use Rattle.zr_law_replies.proofs.StandSteps.{Hops}
use Rattle.zr_law_replies.proofs.StandStep.{request_of, PlainHops}
use Rattle.zr_law_replies.proofs.ActHops.{Any, above_hops, below_hops, upper_hop, lower_hop, still_hop}

all_any : (ds : List Deed) → AllByRecursion Any ds
all_any [] = tt
all_any (d ∷ ds) = (tt, all_any ds)

-- ---- the client

-- a client whose state stays
pub same_client : (clients : Clients) (name : List ℕ) (s : ClientState) → client_of clients name ≡ Some s → (d : List ℕ) → client_of clients d ≡ cond (is_named name d) (Some s) (client_of clients d)
same_client clients name s es d = by (is_named name d) refl
  where
    by : (z : Bool) → is_named name d ≡ z → client_of clients d ≡ cond z (Some s) (client_of clients d)
    by false ez = refl
    by true ez = ap (client_of clients) (sym (same_is name d ez)) ∙ es

-- a client's only link that is whole is the one to its router
pub only_home : (w : WorldState) (g : Goes w) (name : List ℕ) (s : ClientState) → client_of w.clients name ≡ Some s → (y : List ℕ) → is_whole w name y ≡ true → s.router ≡ y
only_home w g name s es y whole = by (whole_end w name y whole)
  where
    by : (is_some (end_of w.ends (name, y)) ≡ true) ⊎ (is_some (end_of w.ends (y, name)) ≡ true) → s.router ≡ y
    by (inl e) = absurd (false≢true (sym (no_own_end w g.sound g.orderly name y s es) ∙ e))
    by (inr e) = g.clients.homes y name s es e

module _ (w : WorldState) (g : Goes w) (name : List ℕ) (s : ClientState) (es : client_of w.clients name ≡ Some s) (e : EndState) (ee : end_of w.ends (s.router, name) ≡ Some e)
    (n : ℕ) (msg : Msg) (s' : ClientState) (home : s'.router ≡ s.router) (does : SaysDeeds name s s' n msg) (clients : Clients)
    (are : (d : List ℕ) → client_of clients d ≡ cond (is_named name d) (Some s') (client_of w.clients d)) where
  abbrev pub said_world : WorldState
  said_world = with_clients (w_sent w n name s e msg) clients

  -- ---- what waits

  wire_then : (q : End) → wire_at said_world.ends q ≡ cond (is_end (s.router, name) q) (e.wire ++ record { msg = msg; tag = n } ∷ []) (wire_at w.ends q)
  wire_then q = read_with_end w.ends (s.router, name) (sent e msg n) wire_of q (ap is_some ee)

  queue_then : (q : End) → queue_at said_world.ends q ≡ queue_at w.ends q
  queue_then q = keep_with_end w.ends (s.router, name) (sent e msg n) queue_of q e ee refl

  waits_apart : (x y : List ℕ) → is_named name x ≡ false → waits said_world x y ≡ waits w x y
  waits_apart x y other = (λ i. wire i ++ queue_then (x, y) i)
    where
      wire : wire_at said_world.ends (y, x) ≡ wire_at w.ends (y, x)
      wire = wire_then (y, x) ∙ ap (λ b. cond b (e.wire ++ record { msg = msg; tag = n } ∷ []) (wire_at w.ends (y, x)))
          (end_parts (s.router, name) (y, x) ∙ and_right (is_named s.router y) (is_named name x) other)

  client_apart : (d : List ℕ) → is_named name d ≡ false → client_of clients d ≡ client_of w.clients d
  client_apart d other = are d ∙ ap (λ b. cond b (Some s') (client_of w.clients d)) other

  client_then : client_of clients name ≡ Some s'
  client_then = are name ∙ ap (λ b. cond b (Some s') (client_of w.clients name)) (same_refl name)

  pub said_whole : (x y : List ℕ) → is_whole said_world x y ≡ is_whole w x y
  said_whole x y = λ i. unbroken (x, y) i || unbroken (y, x) i
    where
      unbroken : (q : End) → is_unbroken said_world.ends q ≡ is_unbroken w.ends q
      unbroken q = keep_with_end w.ends (s.router, name) (sent e msg n) unbroken_at q e ee refl

  module _ (g' : Goes said_world) (whole : is_whole w name s.router ≡ true) where
    apart : is_named name s.router ≡ false
    apart = whole_apart w g.sound name s.router whole

    more : waits said_world name s.router ≡ waits w name s.router ++ record { msg = msg; tag = n } ∷ []
    more = says_waits w g.sound g.orderly g.clients name s es said_world s' home are (λ a b k. refl) (λ a b k. refl) n msg e ee refl does

    less : waits said_world s.router name ≡ waits w s.router name
    less = waits_apart s.router name apart

    -- what it does as the upper end, and as the lower one
    abbrev up : Above Any (link_of w name s.router) (link_of said_world name s.router)
    up = record {
      came = None;
      half = client_half name s;
      own = does.own;
      owns = does.owns;
      fits = all_any does.own;
      may = does.may;
      asks = ap asks_among more ∙ asks_append (waits w name s.router) (record { msg = msg; tag = n } ∷ [])
          ∙ ap (λ z. asks_among (waits w name s.router) ++ z) (append-nil (asks_in n msg) ∙ does.asks);
      answers = ap answers_among (sym less);
      keeps = λ k. keeps_same w said_world name s.router refl (client_apart s.router apart) k;
      before = λ k. back_is w g.orderly name s es k;
      leaves = λ k. subst (λ z. (link_of said_world name z).back k ≡ (client_half name s').back k) home (back_is said_world g'.orderly name s' client_then k) ∙ does.leaves.back k;
    }

    abbrev down : Below Any (link_of w s.router name) (link_of said_world s.router name)
    down = record {
      came = None;
      half = client_half name s;
      own = does.own;
      owns = does.owns;
      fits = all_any does.own;
      may = does.may;
      asks = ap asks_among (sym less);
      answers = ap answers_among more ∙ answers_append (waits w name s.router) (record { msg = msg; tag = n } ∷ [])
          ∙ ap (λ z. answers_among (waits w name s.router) ++ z) (append-nil (answers_in n msg) ∙ does.answers);
      back = λ k. back_same w said_world s.router name refl (client_apart s.router apart) k;
      before = λ k. keeps_is w g.orderly name s es k;
      leaves = λ k. subst (λ z. (link_of said_world z name).keeps k ≡ (client_half name s').keeps k) home (keeps_is said_world g'.orderly name s' client_then k) ∙ does.leaves.keeps k;
    }

    -- ---- hops

    module _ (start : WorldState) (q : Query) (lines : Lines) (hop hop' : Hops) (p : PlainHops start q w lines hop) (p' : PlainHops start q said_world (lines_on said_world lines) hop') where
      pub says_up : (k : ℕ) → hop' name s.router k ≡ plain (request_of start q s.router) (above_hops k does.own (hop name s.router k))
      says_up k = upper_hop start q w lines hop p said_world hop' p' name s.router whole (said_whole name s.router ∙ whole) Any Any k up

      pub says_down : (k : ℕ) → hop' s.router name k ≡ plain (request_of start q name) (below_hops k does.own (hop s.router name k))
      says_down k = lower_hop start q w lines hop p said_world hop' p' s.router name turned (said_whole s.router name ∙ turned) Any Any k down
        where
          turned : is_whole w s.router name ≡ true
          turned = whole_turned w s.router name ∙ whole

      -- where its deeds do nothing under a number, the hop there stays, and so it is on links of others
      pub says_same : (a b : List ℕ) (k : ℕ) → is_whole w a b ≡ true → ((name ≡ a) → (s.router ≡ b) → above_hops k does.own (hop a b k) ≡ hop a b k) →
          ((s.router ≡ a) → (name ≡ b) → below_hops k does.own (hop a b k) ≡ hop a b k) → hop' a b k ≡ hop a b k
      says_same a b k there upper lower = by (is_named name a) refl (is_named name b) refl
        where
          by : (c : Bool) → is_named name a ≡ c → (d : Bool) → is_named name b ≡ d → hop' a b k ≡ hop a b k
          by true ec d ed =
              let one : name ≡ a = same_is name a ec in
              let far : s.router ≡ b = only_home w g name s es b (ap (λ z. is_whole w z b) one ∙ there) in
              ap (λ z. hop' z b k) (sym one) ∙ ap (λ z. hop' name z k) (sym far) ∙ says_up k
              ∙ ap (λ z. plain (request_of start q z) (above_hops k does.own (hop name z k))) far
              ∙ ap (λ z. plain (request_of start q b) (above_hops k does.own (hop z b k))) one
              ∙ ap (plain (request_of start q b)) (upper one far) ∙ p.taken a b k
          by false ec true ed =
              let one : name ≡ b = same_is name b ed in
              let far : s.router ≡ a = only_home w g name s es a (ap (λ z. is_whole w z a) one ∙ whole_turned w b a ∙ there) in
              ap (λ z. hop' a z k) (sym one) ∙ ap (λ z. hop' z name k) (sym far) ∙ says_down k
              ∙ ap (λ z. plain (request_of start q name) (below_hops k does.own (hop z name k))) far
              ∙ ap (λ z. plain (request_of start q z) (below_hops k does.own (hop a z k))) one
              ∙ ap (plain (request_of start q b)) (lower far one) ∙ p.taken a b k
          by false ec false ed =
              still_hop start q w lines hop p said_world hop' p' a b there (said_whole a b ∙ there) Any Any k
              (link_same w said_world a b (waits_apart a b ec) (waits_apart b a ed) (keeps_same w said_world a b refl (client_apart b ed)) (back_same w said_world a b refl (client_apart a ec)))
