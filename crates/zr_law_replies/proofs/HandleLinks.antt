-- What it does to links that a router handles a message: it takes the message from the front of its neighbour's wire, keeps other requests by its rows, and
-- sends what it sends. A message that has nothing of queries changes no link.
use Rattle.std.proofs.Common.{◌≡◌, ℕ, Bool, true, false, cond, List, [], ◌∷◌, ◌++◌, Option, Some, None, is_some, refl, sym, ap, ◌∙◌, append-nil}
use Rattle.std.specs.List.{flat_map}
use Rattle.std.specs.Option.{option_map_or}
use Rattle.zr_id.specs.Zid.{is_named}
use Rattle.zr_graph.proofs.Names.{same_is, same_refl}
use Rattle.zr_msg.specs.declared.msg.Msg.{Msg}
use Rattle.zr_msg.specs.declared.msg.Msg.TheVariants.{Sub, Unsub, Token, Untoken, Able, Unable, Interest, EndInterest, ToldSub, ToldAble, ToldUnsub, ToldToken, ToldUntoken, ToldUnable, ToldEnd, Push, Request, Response, Final, State, Step, Snap}
use Rattle.zr_msg.specs.declared.event.Event.{Event}
use Rattle.zr_msg.specs.declared.event.Event.TheVariants.{From}
use Rattle.zr_msg.specs.declared.peer.LinkPeer.{LinkPeer}
use Rattle.zr_id.specs.declared.link.LinkNo.{LinkNo}
use Rattle.zr_node_spec.specs.Tables.{link_to}
use Rattle.zr_node_spec.specs.State.{NodeState}
use Rattle.zr_node_spec.specs.Table.{sends, after}
use Rattle.zr_node_spec.proofs.LinksStay.{links_from}
use Rattle.zr_world_spec.specs.World.{Tagged, RouterState, EndState, End, Ends, WorldState, with_ends, router_of, client_of, end_of, with_end, with_wire}
use Rattle.zr_world_spec.specs.Acts.{sends_to, having_told, sending}
use Rattle.zr_world_spec.specs.Sound.{IsSound}
use Rattle.zr_world_spec.proofs.Ends.{read_with_end, keep_with_end}
use Rattle.zr_world_spec.proofs.Fits.{own_end, other_end}
use Rattle.zr_world_spec.proofs.Cases.{w_handle}
use Rattle.zr_law_settled.proofs.Told.{IsTold, telling_told}
use Rattle.zr_law_settled.proofs.Quiet.{passes_there}
use Rattle.zr_law_settled.proofs.Orderly.{Orderly}
use Rattle.zr_law_numbers.specs.Waiting as waiting
use Rattle.zr_law_numbers.specs.Waiting.{Said, wire_at, queue_at, waits, asks_in, answers_in, asks, answers, row_kept, is_kept_by, branch_back, back_at, link_of}
use Rattle.zr_law_numbers.specs.Deeds.{handles_msg}
use Rattle.zr_law_numbers.proofs.Leading.{link_is}
use Rattle.zr_law_numbers.proofs.DeedsDone.{asks_are, answers_are}
use Rattle.zr_law_numbers.proofs.SentOfQueries.{IsOfQueries, first_tells, from_silent}
use Rattle.zr_law_numbers.proofs.Waits.{wire_of, queue_of, tagged, asks_among, answers_among, asks_append, answers_append, asks_tagged, answers_tagged, router_keeps, router_back, keeps_same, back_same, waits_elsewhere, waits_heard, router_heard}
use Rattle.zr_law_numbers.proofs.Whole.{router_alone}
use Rattle.zr_law_queries.specs.Link.{Ask, Answer}
use Rattle.zr_law_replies.proofs.ToldLinks.{asks_told, answers_told}
use Rattle.zr_law_replies.proofs.ToldRouters.{router_then, router_apart}

-- ---- rows

-- what a router keeps of its links is the same where its links and its rows are
pub kept_same : (r r' : RouterState) → r'.node.links ≡ r.node.links → r'.node.pending ≡ r.node.pending → (y : List ℕ) (n : ℕ) → row_kept r' y n ≡ row_kept r y n
kept_same r r' links pending y n = λ i. row_kept (record { node = record { links = links i; base = r.node.base; rows = r.node.rows; clients = r.node.clients; known = r.node.known; pending = pending i; held = r.node.held; spent = r.node.spent }; told = r.told; weight = r.weight }) y n

pub awaited_same : (r r' : RouterState) → r'.node.links ≡ r.node.links → r'.node.pending ≡ r.node.pending → (y : List ℕ) (n : ℕ) → branch_back r' y n ≡ branch_back r y n
awaited_same r r' links pending y n = λ i. branch_back (record { node = record { links = links i; base = r.node.base; rows = r.node.rows; clients = r.node.clients; known = r.node.known; pending = pending i; held = r.node.held; spent = r.node.spent }; told = r.told; weight = r.weight }) y n

-- ---- what a message has of queries

-- a message that handles nothing of queries asks and answers nothing, and leaves the rows as they are
pub record IsQuiet (node : NodeState) (link : LinkNo) (msg : Msg) (tag : ℕ) : Type 0 where
  pub asks : asks_in tag msg ≡ []
  pub answers : answers_in tag msg ≡ []
  pub pending : (after node (From link msg)).pending ≡ node.pending

pub quiet_is : (node : NodeState) (link : LinkNo) (tag : ℕ) (msg : Msg) → handles_msg msg ≡ [] → IsQuiet node link msg tag
quiet_is node link tag (Sub id key) e = record { asks = refl; answers = refl; pending = refl }
quiet_is node link tag (Unsub id) e = record { asks = refl; answers = refl; pending = refl }
quiet_is node link tag (Token id key) e = record { asks = refl; answers = refl; pending = refl }
quiet_is node link tag (Untoken id) e = record { asks = refl; answers = refl; pending = refl }
quiet_is node link tag (Able id key complete) e = record { asks = refl; answers = refl; pending = refl }
quiet_is node link tag (Unable id) e = record { asks = refl; answers = refl; pending = refl }
quiet_is node link tag (Interest id current future kinds key aggregate) e = record { asks = refl; answers = refl; pending = refl }
quiet_is node link tag (EndInterest id) e = record { asks = refl; answers = refl; pending = refl }
quiet_is node link tag (ToldSub id key interest) e = record { asks = refl; answers = refl; pending = refl }
quiet_is node link tag (ToldToken id key interest) e = record { asks = refl; answers = refl; pending = refl }
quiet_is node link tag (ToldAble id key complete interest) e = record { asks = refl; answers = refl; pending = refl }
quiet_is node link tag (ToldUnsub id) e = record { asks = refl; answers = refl; pending = refl }
quiet_is node link tag (ToldUntoken id) e = record { asks = refl; answers = refl; pending = refl }
quiet_is node link tag (ToldUnable id) e = record { asks = refl; answers = refl; pending = refl }
quiet_is node link tag (ToldEnd interest) e = record { asks = refl; answers = refl; pending = refl }
quiet_is node link tag (Push tree content) e = record { asks = refl; answers = refl; pending = refl }
quiet_is node link tag (Request tree id target content) e = absurd (cc)
quiet_is node link tag (Response id content) e = absurd (cc)
quiet_is node link tag (Final id extras) e = absurd (cc)
quiet_is node link tag (State links) e = record { asks = refl; answers = refl; pending = refl }
quiet_is node link tag (Step source number added decl) e = record { asks = refl; answers = refl; pending = refl }
quiet_is node link tag (Snap source number decls) e = record { asks = refl; answers = refl; pending = refl }

-- what it sends on a link has nothing of queries either
pub quiet_sends : {X : Type 0} (tells : Msg → List X) → IsOfQueries tells → (node : NodeState) (link : LinkNo) (msg : Msg) → handles_msg msg ≡ [] → (y : List ℕ) →
    flat_map tells (sends_to node (From link msg) y) ≡ []
quiet_sends tells none node link msg e y = by (link_to (after node (From link msg)).links y)
  where
    by : (o : Option LinkPeer) → flat_map tells (option_map_or (λ l. sends node (From link msg) l.link) o []) ≡ []
    by None = refl
    by (Some l) = first_tells tells none node (From link msg) l.link ∙ from_silent tells none node link.0 msg l.link.0 e

-- ---- links

module _ (w : WorldState) (sound : IsSound w) (orderly : Orderly w) (x : List ℕ) (r : RouterState) (found : router_of w.routers x ≡ Some r) (from : List ℕ) (s : EndState)
    (at : end_of w.ends (x, from) ≡ Some s) (msg : Msg) (tag : ℕ) (xs : List Tagged) (first : s.wire ≡ record { msg = msg; tag = tag } ∷ xs) (k : LinkPeer) (linked : link_to r.node.links from ≡ Some k) where
  abbrev es : Ends
  es = with_end w.ends (x, from) (with_wire s xs)

  abbrev half : WorldState
  half = with_ends w es

  abbrev event : Event
  event = From k.link msg

  abbrev then : RouterState
  then = having_told r event

  -- what the router sends waits, and its clients were told nothing yet
  abbrev u : WorldState
  u = sending half x r event tag

  abbrev v : WorldState
  v = w_handle w x from r s k.link msg tag xs

  told : IsTold u v
  told = telling_told u x r event tag (router_heard half x r found event tag)

  none : client_of w.clients x ≡ None
  none = router_alone w orderly x r found

  pub from_apart : is_named x from ≡ false
  from_apart = sound.apart x from (ap is_some at)

  pub links_stay : then.node.links ≡ r.node.links
  links_stay = links_from r.node k.link msg

  pub router_now : router_of v.routers x ≡ Some then
  router_now = router_then w.routers x r found event

  pub router_other : (y : List ℕ) → is_named x y ≡ false → router_of v.routers y ≡ router_of w.routers y
  router_other y other = router_apart w.routers x r found event y other

  -- ---- what waits

  queues : (e : End) → queue_at es e ≡ queue_at w.ends e
  queues e = keep_with_end w.ends (x, from) (with_wire s xs) queue_of e s at refl

  wires : (a b : List ℕ) → is_named x a ≡ false → wire_at es (a, b) ≡ wire_at w.ends (a, b)
  wires a b other = read_with_end w.ends (x, from) (with_wire s xs) wire_of (a, b) (ap is_some at) ∙ ap (λ c. cond c xs (wire_at w.ends (a, b))) (other_end x from a b other)

  wire_own : (y : List ℕ) → wire_at es (x, y) ≡ cond (is_named from y) xs (wire_at w.ends (x, y))
  wire_own y = read_with_end w.ends (x, from) (with_wire s xs) wire_of (x, y) (ap is_some at) ∙ ap (λ c. cond c xs (wire_at w.ends (x, y))) (own_end x from y)

  there : (y : List ℕ) → is_some (link_to (after r.node event).links y) ≡ true → is_some (end_of es (x, y)) ≡ true
  there y e = keep_with_end w.ends (x, from) (with_wire s xs) is_some (x, y) s at refl
      ∙ passes_there (λ z. z.up) w.ends (x, y) (sym (sound.links x y r found) ∙ ap (λ ls. is_some (link_to ls y)) (sym links_stay) ∙ e)

  -- from the router to a neighbour
  pub waits_to : (y : List ℕ) → is_named x y ≡ false → waits u x y ≡ waits w x y ++ tagged tag (sends_to r.node event y)
  waits_to y other = waits_heard half x r found event tag y (there y) ∙ ap (λ z. z ++ tagged tag (sends_to r.node event y)) (λ i. wires y x other i ++ queues (x, y) i)

  -- from a neighbour to the router
  pub waits_front : waits w from x ≡ record { msg = msg; tag = tag } ∷ waits u from x
  waits_front =
      ap (λ z. z ++ queue_at w.ends (from, x)) (ap wire_of at ∙ first)
      ∙ ap (λ z. record { msg = msg; tag = tag } ∷ z) (sym (waits_elsewhere half x r found event tag from x from_apart
      ∙ (λ i. (wire_own from ∙ ap (λ c. cond c xs (wire_at w.ends (x, from))) (same_refl from)) i ++ queues (from, x) i)))

  pub waits_behind : (y : List ℕ) → is_named x y ≡ false → is_named from y ≡ false → waits u y x ≡ waits w y x
  waits_behind y other apart = waits_elsewhere half x r found event tag y x other ∙ (λ i. (wire_own y ∙ ap (λ c. cond c xs (wire_at w.ends (x, y))) apart) i ++ queues (y, x) i)

  waits_apart : (a b : List ℕ) → is_named x a ≡ false → is_named x b ≡ false → waits u a b ≡ waits w a b
  waits_apart a b ax bx = waits_elsewhere half x r found event tag a b ax ∙ (λ i. wires b a bx i ++ queues (a, b) i)

  -- ---- the links of others

  pub others_link : (a b : List ℕ) → is_named x a ≡ false → is_named x b ≡ false → link_of w a b ≡ link_of v a b
  others_link a b ax bx = link_is (link_of w a b) (link_of v a b) (sym (asks_told u v told a b ∙ ap asks_among (waits_apart a b ax bx))) (sym (answers_told u v told a b ∙ ap answers_among (waits_apart b a bx ax)))
      (λ n. sym (keeps_same w v a b (router_other b bx) refl n)) (λ n. sym (back_same w v a b (router_other a ax) refl n))

  -- ---- the router's own, to a neighbour y and from it

  module _ (y : List ℕ) (other : is_named x y ≡ false) where
    abbrev asks_sent : List (Ask waiting.Asked)
    asks_sent = flat_map (λ m. asks_in tag m) (sends_to r.node event y)

    abbrev answers_sent : List (Answer Said)
    answers_sent = flat_map (λ m. answers_in tag m) (sends_to r.node event y)

    pub asks_to : asks v x y ≡ asks w x y ++ asks_sent
    asks_to = asks_told u v told x y ∙ ap asks_among (waits_to y other) ∙ asks_append (waits w x y) (tagged tag (sends_to r.node event y)) ∙ ap (λ z. asks w x y ++ z) (asks_tagged tag (sends_to r.node event y))

    pub answers_to : answers v y x ≡ answers w y x ++ answers_sent
    answers_to = answers_told u v told y x ∙ ap answers_among (waits_to y other) ∙ answers_append (waits w x y) (tagged tag (sends_to r.node event y)) ∙ ap (λ z. answers w y x ++ z) (answers_tagged tag (sends_to r.node event y))

    -- what came is gone from the front
    pub asks_from : is_named from y ≡ true → asks w y x ≡ asks_in tag msg ++ asks v y x
    asks_from e = ap (λ z. asks w z x) (sym (same_is from y e)) ∙ ap asks_among waits_front ∙ ap (λ z. asks_in tag msg ++ z) (sym (asks_told u v told from x)) ∙ ap (λ z. asks_in tag msg ++ asks v z x) (same_is from y e)

    pub answers_from : is_named from y ≡ true → answers w x y ≡ answers_in tag msg ++ answers v x y
    answers_from e = ap (λ z. answers w x z) (sym (same_is from y e)) ∙ ap answers_among waits_front ∙ ap (λ z. answers_in tag msg ++ z) (sym (answers_told u v told x from)) ∙ ap (λ z. answers_in tag msg ++ answers v x z) (same_is from y e)

    pub asks_stay : is_named from y ≡ false → asks v y x ≡ asks w y x
    asks_stay e = asks_told u v told y x ∙ ap asks_among (waits_behind y other e)

    pub answers_stay : is_named from y ≡ false → answers v x y ≡ answers w x y
    answers_stay e = answers_told u v told x y ∙ ap answers_among (waits_behind y other e)

    -- what the router keeps, and what its neighbour does
    pub keeps_now : (n : ℕ) → is_kept_by v y x n ≡ row_kept then y n
    keeps_now n = router_keeps v y x then router_now none n

    pub keeps_was : (n : ℕ) → is_kept_by w y x n ≡ row_kept r y n
    keeps_was n = router_keeps w y x r found none n

    pub back_now : (n : ℕ) → back_at v x y n ≡ branch_back then y n
    back_now n = router_back v x y then router_now none n

    pub back_was : (n : ℕ) → back_at w x y n ≡ branch_back r y n
    back_was n = router_back w x y r found none n

    pub keeps_there : (n : ℕ) → is_kept_by v x y n ≡ is_kept_by w x y n
    keeps_there n = keeps_same w v x y (router_other y other) refl n

    pub back_there : (n : ℕ) → back_at v y x n ≡ back_at w y x n
    back_there n = back_same w v y x (router_other y other) refl n

    -- where what came neither asks nor answers anything
    pub asks_behind : asks_in tag msg ≡ [] → asks w y x ≡ asks v y x
    asks_behind e = by (is_named from y) refl
      where
        by : (b : Bool) → is_named from y ≡ b → asks w y x ≡ asks v y x
        by true f = asks_from f ∙ ap (λ z. z ++ asks v y x) e
        by false f = sym (asks_stay f)

    pub answers_behind : answers_in tag msg ≡ [] → answers w x y ≡ answers v x y
    answers_behind e = by (is_named from y) refl
      where
        by : (b : Bool) → is_named from y ≡ b → answers w x y ≡ answers v x y
        by true f = answers_from f ∙ ap (λ z. z ++ answers v x y) e
        by false f = sym (answers_stay f)

    module _ (quiet : handles_msg msg ≡ []) where
      is : IsQuiet r.node k.link msg tag
      is = quiet_is r.node k.link tag msg quiet

      quiet_to : link_of w x y ≡ link_of v x y
      quiet_to = link_is (link_of w x y) (link_of v x y)
          (sym (asks_to ∙ ap (λ z. asks w x y ++ z) (quiet_sends (λ m. asks_in tag m) (asks_are tag) r.node k.link msg quiet y) ∙ append-nil (asks w x y)))
          (answers_behind is.answers) (λ n. sym (keeps_there n)) (λ n. back_was n ∙ sym (back_now n ∙ awaited_same r then links_stay is.pending y n))

      quiet_from : link_of w y x ≡ link_of v y x
      quiet_from = link_is (link_of w y x) (link_of v y x) (asks_behind is.asks)
          (sym (answers_to ∙ ap (λ z. answers w y x ++ z) (quiet_sends (λ m. answers_in tag m) (answers_are tag) r.node k.link msg quiet y) ∙ append-nil (answers w y x)))
          (λ n. keeps_was n ∙ sym (keeps_now n ∙ kept_same r then links_stay is.pending y n)) (λ n. sym (back_there n))

  -- a message that has nothing of queries changes no link
  pub quiet_links : handles_msg msg ≡ [] → (a b : List ℕ) → is_named a b ≡ false → link_of w a b ≡ link_of v a b
  quiet_links quiet a b apart = by (is_named x a) refl (is_named x b) refl
    where
      by : (c : Bool) → is_named x a ≡ c → (d : Bool) → is_named x b ≡ d → link_of w a b ≡ link_of v a b
      by false ax false bx = others_link a b ax bx
      by true ax d bx = let one : x ≡ a = same_is x a ax in ap (λ z. link_of w z b) (sym one) ∙ quiet_to b (ap (λ z. is_named z b) one ∙ apart) quiet ∙ ap (λ z. link_of v z b) one
      by false ax true bx = let one : x ≡ b = same_is x b bx in ap (λ z. link_of w a z) (sym one) ∙ quiet_from a ax quiet ∙ ap (λ z. link_of v a z) one
