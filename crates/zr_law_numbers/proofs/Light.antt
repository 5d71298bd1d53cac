-- Where no request and no answer is under way, no step begins one (`light_goes`), and no router has more numbers pending behind it (`light_few`). What routers
-- send of other messages is of no request, and neither is what clients are told.
use Rattle.std.proofs.Common.{◌≡◌, ℕ, Bool, true, false, cond, List, [], ◌∷◌, ◌++◌, map, Option, Some, None, refl, sym, ap, ◌∙◌, subst}
use Rattle.std.specs.Prelude.{IfSome, is_some}
use Rattle.std.specs.List.{flat_map, list_all}
use Rattle.std.specs.Option.{option_map, option_map_or}
use Rattle.std.proofs.lemmas.Bool.{false≢true, and_parts}
use Rattle.std.proofs.lemmas.Grind.{flat_map-append}
use Rattle.zr_lists.proofs.Tests.{all_parts}
use Rattle.zr_lists.proofs.Elements.{none_both}
use Rattle.zr_id.specs.Zid.{is_named}
use Rattle.zr_id.specs.declared.link.LinkNo.{LinkNo}
use Rattle.zr_msg.specs.declared.event.Event.TheVariants.{From}
use Rattle.zr_msg.specs.declared.msg.Msg.{Msg}
use Rattle.zr_msg.specs.declared.msg.Msg.TheVariants.{Sub, Unsub, Token, Untoken, Able, Unable, Interest, EndInterest, ToldSub, ToldAble, ToldUnsub, ToldToken, ToldUntoken, ToldUnable, ToldEnd, Push, Request, Response, Final, State, Step, Snap}
use Rattle.zr_msg.specs.declared.peer.LinkPeer.{LinkPeer}
use Rattle.zr_script_spec.specs.declared.command.Act.{Act}
use Rattle.zr_script_spec.specs.declared.command.Act.TheVariants as a
use Rattle.zr_node_spec.specs.Tables.{link_to}
use Rattle.zr_node_spec.specs.State.{NodeState}
use Rattle.zr_node_spec.specs.Table.{sends, after}
use Rattle.zr_world_spec.specs.World.{Tagged, RouterState, EndState, End, Ends, WorldState, is_end, router_of, end_of, with_router, with_end, with_wire, with_queue, sent, queued}
use Rattle.zr_world_spec.specs.Acts.{sends_to, hearing, outcome}
use Rattle.zr_world_spec.specs.Fan.{is_sample, waiting_at, are_samples}
use Rattle.zr_world_spec.specs.Moments.{Moment, is_step, went}
use Rattle.zr_world_spec.proofs.Cases.{w_take, for_take}
use Rattle.zr_world_spec.proofs.Ends.{end_passes, read_with_end, read_changed, read_all_queued}
use Rattle.zr_world_spec.proofs.Names.{read_after}
use Rattle.zr_law_settled.proofs.Told.{IsTold, by_told, of_each, w_handle, for_handle}
use Rattle.zr_law_settled.proofs.Spreading.{Name}
use Rattle.zr_law_numbers.specs.Deeds.{Deed, handles_msg}
use Rattle.zr_law_numbers.specs.Rows.{AreFew}
use Rattle.zr_law_numbers.specs.Waiting.{wire_at, queue_at, waits}
use Rattle.zr_law_numbers.proofs.Few.{FewHold}
use Rattle.zr_law_numbers.proofs.SentOfQueries.{IsOfQueries, first_tells, from_silent}
use Rattle.zr_law_numbers.proofs.ToldLinks.{among_told}

-- ---- messages of no request

abbrev deals : Tagged → List Deed
deals m = handles_msg m.msg

deals_are : IsOfQueries handles_msg
deals_are = record { state = λ r. refl; push = λ tree content. refl; step = λ source number added decl. refl; snap = λ source number decls. refl }

-- what a router sends for one is none
sent_light : (n : NodeState) (from : LinkNo) (msg : Msg) → handles_msg msg ≡ [] → (to : LinkNo) → flat_map handles_msg (sends n (From from msg) to) ≡ []
sent_light n from msg light to = first_tells handles_msg deals_are n (From from msg) to ∙ from_silent handles_msg deals_are n from.0 msg to.0 light

sent_to_light : (n : NodeState) (from : LinkNo) (msg : Msg) → handles_msg msg ≡ [] → (name : List ℕ) → flat_map handles_msg (sends_to n (From from msg) name) ≡ []
sent_to_light n from msg light name = by (link_to (after n (From from msg)).links name)
  where
    by : (o : Option LinkPeer) → flat_map handles_msg (option_map_or (λ l. sends n (From from msg) l.link) o []) ≡ []
    by None = refl
    by (Some l) = sent_light n from msg light l.link

-- and its router has as many numbers pending as before
few_light : (k : ℕ) (n : NodeState) (from : LinkNo) (msg : Msg) → handles_msg msg ≡ [] → AreFew k n → AreFew k (after n (From from msg))
few_light k n from (Sub id key) light h = h
few_light k n from (Unsub id) light h = h
few_light k n from (Token id key) light h = h
few_light k n from (Untoken id) light h = h
few_light k n from (Able id key complete) light h = h
few_light k n from (Unable id) light h = h
few_light k n from (Interest id current future kinds key aggregate) light h = h
few_light k n from (EndInterest id) light h = h
few_light k n from (ToldSub id key interest) light h = h
few_light k n from (ToldAble id key complete interest) light h = h
few_light k n from (ToldUnsub id) light h = h
few_light k n from (ToldToken id key interest) light h = h
few_light k n from (ToldUntoken id) light h = h
few_light k n from (ToldUnable id) light h = h
few_light k n from (ToldEnd interest) light h = h
few_light k n from (Push tree content) light h = h
few_light k n from (Request tree id target content) light h = absurd (cc)
few_light k n from (Response id content) light h = absurd (cc)
few_light k n from (Final id extras) light h = absurd (cc)
few_light k n from (State links) light h = h
few_light k n from (Step source number added decl) light h = h
few_light k n from (Snap source number decls) light h = h

-- ---- worlds

-- nothing of a request waits from any name to any other
abbrev pub IsLight : WorldState → Type 0
IsLight w = (x y : List ℕ) → flat_map deals (waits w x y) ≡ []

both_none : {X : Type 0} (xs ys : List X) → xs ≡ [] → ys ≡ [] → xs ++ ys ≡ []
both_none xs ys a b = λ i. a i ++ b i

either : {X : Type 0} (b : Bool) (xs ys : List X) → xs ≡ [] → ys ≡ [] → cond b xs ys ≡ []
either true xs ys h k = h
either false xs ys h k = k

module _ (w : WorldState) (h : IsLight w) where
  wires : (e : End) → flat_map deals (wire_at w.ends e) ≡ []
  wires e = (none_both (flat_map deals (wire_at w.ends e)) (flat_map deals (queue_at w.ends (e.1, e.0))) (sym (flat_map-append deals (wire_at w.ends e) (queue_at w.ends (e.1, e.0))) ∙ h e.1 e.0)).0

  queues : (e : End) → flat_map deals (queue_at w.ends e) ≡ []
  queues e = (none_both (flat_map deals (wire_at w.ends (e.1, e.0))) (flat_map deals (queue_at w.ends e)) (sym (flat_map-append deals (wire_at w.ends (e.1, e.0)) (queue_at w.ends e)) ∙ h e.0 e.1)).1

-- a world by its wires and queues
of_ends : (w : WorldState) → ((e : End) → flat_map deals (wire_at w.ends e) ≡ []) → ((e : End) → flat_map deals (queue_at w.ends e) ≡ []) → IsLight w
of_ends w wire queue x y =
    flat_map-append deals (wire_at w.ends (y, x)) (queue_at w.ends (x, y)) ∙ both_none (flat_map deals (wire_at w.ends (y, x))) (flat_map deals (queue_at w.ends (x, y))) (wire (y, x)) (queue (x, y))

-- where only samples are under way
pub samples_light : (w : WorldState) → are_samples w ≡ true → IsLight w
samples_light w h = of_ends w (λ e. wire (end_of w.ends e) (found e)) (λ e. queue (end_of w.ends e) (found e))
  where
    found : (e : End) → (s : EndState) → end_of w.ends e ≡ Some s → list_all (λ m. is_sample m.msg) (waiting_at s) ≡ true
    found e s at = end_passes (λ x. list_all (λ m. is_sample m.msg) (waiting_at x.1)) w.ends e s h at

    sample_deals : (msg : Msg) → is_sample msg ≡ true → handles_msg msg ≡ []
    sample_deals (Push tree content) k = refl
    sample_deals other k = absurd (false≢true k)

    none_of : (ms : List Tagged) → list_all (λ m. is_sample m.msg) ms ≡ true → flat_map deals ms ≡ []
    none_of [] k = refl
    none_of (m ∷ ms) k =
        let parts = and_parts (is_sample m.msg) (list_all (λ m. is_sample m.msg) ms) k in
        ap (λ z. z ++ flat_map deals ms) (sample_deals m.msg parts.0) ∙ none_of ms parts.1

    wire : (o : Option EndState) → ((s : EndState) → o ≡ Some s → list_all (λ m. is_sample m.msg) (waiting_at s) ≡ true) → flat_map deals (option_map_or (λ s. s.wire) o []) ≡ []
    wire None k = refl
    wire (Some s) k = none_of s.wire (all_parts (λ m. is_sample m.msg) s.wire s.queue (k s refl)).0

    queue : (o : Option EndState) → ((s : EndState) → o ≡ Some s → list_all (λ m. is_sample m.msg) (waiting_at s) ≡ true) → flat_map deals (option_map_or (λ s. s.queue) o []) ≡ []
    queue None k = refl
    queue (Some s) k = none_of s.queue (all_parts (λ m. is_sample m.msg) s.wire s.queue (k s refl)).1

-- what clients are told is of no request
light_told : (w v : WorldState) → IsTold w v → IsLight w → IsLight v
light_told w v t h x y = among_told w v t deals (λ m e. by_told (λ msg. handles_msg msg ≡ []) (λ id key interest. refl) (λ id key interest. refl) (λ id key complete interest. refl) (λ id. refl) (λ id. refl) (λ id. refl) (λ interest. refl) m.msg e) x y ∙ h x y

-- ---- steps

abbrev wire_deals : Option EndState → List Deed
wire_deals o = flat_map deals (option_map_or (λ s. s.wire) o [])

abbrev queue_deals : Option EndState → List Deed
queue_deals o = flat_map deals (option_map_or (λ s. s.queue) o [])

-- the first of some messages, and the others
first_light : (m : Tagged) (ms : List Tagged) → flat_map deals (m ∷ ms) ≡ [] → (handles_msg m.msg ≡ []) × (flat_map deals ms ≡ [])
first_light m ms h = none_both (handles_msg m.msg) (flat_map deals ms) h

module _ (now : Moment) (h : IsLight now.world) where
  abbrev w : WorldState
  w = now.world

  module _ (x y : List ℕ) (r : RouterState) (s : EndState) (there : end_of w.ends (x, y) ≡ Some s) (msg : Msg) (tag : ℕ) (xs : List Tagged) (front : s.wire ≡ record { msg = msg; tag = tag } ∷ xs) (l : LinkNo) where
    waited : (handles_msg msg ≡ []) × (flat_map deals xs ≡ [])
    waited = first_light (record { msg = msg; tag = tag }) xs (ap (flat_map deals) (sym front) ∙ ap wire_deals (sym there) ∙ wires w h (x, y))

    abbrev half : Ends
    half = with_end w.ends (x, y) (with_wire s xs)

    half_wire : (q : End) → wire_deals (end_of half q) ≡ []
    half_wire q = read_with_end w.ends (x, y) (with_wire s xs) wire_deals q (ap is_some there) ∙ either (is_end (x, y) q) _ _ waited.1 (wires w h q)

    half_queue : (q : End) → queue_deals (end_of half q) ≡ []
    half_queue q = read_with_end w.ends (x, y) (with_wire s xs) queue_deals q (ap is_some there) ∙ either (is_end (x, y) q) _ _ (ap queue_deals (sym there) ∙ queues w h (x, y)) (queues w h q)

    tagged_light : (ms : List Msg) → flat_map handles_msg ms ≡ [] → flat_map deals (map (λ m. record { msg = m; tag = tag }) ms) ≡ []
    tagged_light [] k = refl
    tagged_light (m ∷ ms) k = let parts = none_both (handles_msg m) (flat_map handles_msg ms) k in both_none (handles_msg m) _ parts.0 (tagged_light ms parts.1)

    more_queue : (q : End) (o : Option EndState) → queue_deals o ≡ [] → queue_deals (option_map (λ z. queued z (sends_to r.node (From l msg) q.1) tag) o) ≡ []
    more_queue q None k = refl
    more_queue q (Some z) k =
        flat_map-append deals z.queue (map (λ m. record { msg = m; tag = tag }) (sends_to r.node (From l msg) q.1))
        ∙ both_none (flat_map deals z.queue) _ k (tagged_light (sends_to r.node (From l msg) q.1) (sent_to_light r.node l msg waited.0 q.1))

    more_wire : (q : End) (o : Option EndState) → wire_deals o ≡ [] → wire_deals (option_map (λ z. queued z (sends_to r.node (From l msg) q.1) tag) o) ≡ []
    more_wire q None k = refl
    more_wire q (Some z) k = k

    handled_light : IsLight (w_handle w x y r s l msg tag xs)
    handled_light = of_ends (w_handle w x y r s l msg tag xs)
        (λ q. read_all_queued half x r.node (From l msg) tag wire_deals q ∙ either (is_named x q.0) _ _ (more_wire q (end_of half q) (half_wire q)) (half_wire q))
        (λ q. read_all_queued half x r.node (From l msg) tag queue_deals q ∙ either (is_named x q.0) _ _ (more_queue q (end_of half q) (half_queue q)) (half_queue q))

  module _ (x y : List ℕ) (s : EndState) (there : end_of w.ends (x, y) ≡ Some s) (msg : Msg) (tag : ℕ) (xs : List Tagged) (front : s.queue ≡ record { msg = msg; tag = tag } ∷ xs) where
    left : (handles_msg msg ≡ []) × (flat_map deals xs ≡ [])
    left = first_light (record { msg = msg; tag = tag }) xs (ap (flat_map deals) (sym front) ∙ ap queue_deals (sym there) ∙ queues w h (x, y))

    abbrev rest : Ends
    rest = with_end w.ends (x, y) (with_queue s xs)

    rest_wire : (q : End) → wire_deals (end_of rest q) ≡ []
    rest_wire q = read_with_end w.ends (x, y) (with_queue s xs) wire_deals q (ap is_some there) ∙ either (is_end (x, y) q) _ _ (ap wire_deals (sym there) ∙ wires w h (x, y)) (wires w h q)

    rest_queue : (q : End) → queue_deals (end_of rest q) ≡ []
    rest_queue q = read_with_end w.ends (x, y) (with_queue s xs) queue_deals q (ap is_some there) ∙ either (is_end (x, y) q) _ _ left.1 (queues w h q)

    sent_wire : (o : Option EndState) → wire_deals o ≡ [] → wire_deals (option_map (λ z. sent z msg tag) o) ≡ []
    sent_wire None k = refl
    sent_wire (Some z) k = flat_map-append deals z.wire (record { msg = msg; tag = tag } ∷ []) ∙ both_none (flat_map deals z.wire) _ k (both_none (handles_msg msg) [] left.0 refl)

    sent_queue : (o : Option EndState) → queue_deals o ≡ [] → queue_deals (option_map (λ z. sent z msg tag) o) ≡ []
    sent_queue None k = refl
    sent_queue (Some z) k = k

    taken_light : IsLight (w_take w x y s msg tag xs)
    taken_light = of_ends (w_take w x y s msg tag xs)
        (λ q. read_changed rest (y, x) (λ z. sent z msg tag) wire_deals q ∙ either (is_end (y, x) q) _ _ (sent_wire (end_of rest q) (rest_wire q)) (rest_wire q))
        (λ q. read_changed rest (y, x) (λ z. sent z msg tag) queue_deals q ∙ either (is_end (y, x) q) _ _ (sent_queue (end_of rest q) (rest_queue q)) (rest_queue q))

  pub light_goes : (line : ℕ) (act : Act) → is_step act ≡ true → IfSome (went now (outcome now.world line act)) (λ next. IsLight next.world)
  unfolding outcome
  light_goes line (a.Handle x y) ok = for_handle now (λ next. IsLight next.world) (λ u v report t k. light_told u v t k) x y
      (λ r found known s there up msg tag xs front l number taken. handled_light x y r s there msg tag xs front l)
  light_goes line (a.Take x y) ok = for_take now (λ next. IsLight next.world) x y (λ r found known s there up unbroken msg tag xs front. taken_light x y s there msg tag xs front)
  light_goes line other ok = absurd (false≢true ok)

  module _ (k : ℕ) (few : FewHold k now.world.routers) where
    abbrev Few : Moment → Type 0
    Few next = FewHold k next.world.routers

    heard_few : (x : Name) (r : RouterState) → router_of w.routers x ≡ Some r → (l : LinkNo) (msg : Msg) → handles_msg msg ≡ [] → FewHold k (with_router w.routers x (hearing r (From l msg)))
    heard_few x r found l msg light y q there = by (is_named x y) (sym (read_after (λ o. o) w.routers x y r (hearing r (From l msg)) found) ∙ there)
      where
        by : (t : Bool) → cond t (Some (hearing r (From l msg))) (router_of w.routers y) ≡ Some q → AreFew k q.node
        by true e = let one : hearing r (From l msg) ≡ q = cc in subst (λ (z : RouterState). AreFew k z.node) one (few_light k r.node l msg light (few x r found))
        by false e = few y q e

    pub light_few : (line : ℕ) (act : Act) → is_step act ≡ true → IfSome (went now (outcome now.world line act)) Few
    unfolding outcome
    light_few line (a.Handle x y) ok = for_handle now Few (λ u v report t g. of_each u v t (λ z b. AreFew k b) g) x y
        (λ r found known s there up msg tag xs front l number taken. heard_few x r found l msg (waited x y r s there msg tag xs front l).0)
    light_few line (a.Take x y) ok = for_take now Few x y (λ r found known s there up unbroken msg tag xs front. few)
    light_few line other ok = absurd (false≢true ok)
