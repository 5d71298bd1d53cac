-- Each act that is not refused keeps what holds of a world (`acts_keep`), and nothing has been told before the first line; so it holds at
-- each moment that acts lead to (`moments_hold`).
use Rattle.std.proofs.Common.{◌≡◌, ℕ, Bool, true, false, cond, List, [], ◌∷◌, Option, Some, None, is_some, Ok, Err, refl, sym, ap, ◌∙◌, subst, arith}
use Rattle.std.specs.Prelude.{IfSome, IfOk, ◌&&◌, unwrap_or}
use Rattle.std.specs.Option.{option_map_or}
use Rattle.std.proofs.lemmas.Bool.{false_from_ne_true, true≢false, false≢true}
use Rattle.zr_id.specs.declared.link.LinkNo.{LinkNo}
use Rattle.zr_graph.specs.Base.{IsInOrder}
use Rattle.zr_lists.proofs.Finds.{In}
use Rattle.zr_lists.proofs.Options.{not_there}
use Rattle.zr_msg.specs.declared.msg.Msg.{Msg}
use Rattle.zr_msg.specs.declared.decl.Kind.{Kind}
use Rattle.zr_msg.specs.declared.decl.Kind.TheVariants as k
use Rattle.zr_msg.specs.declared.msg.Msg.TheVariants as m
use Rattle.zr_msg.specs.Extras.{no_extras}
use Rattle.zr_msg.specs.declared.event.Event.TheVariants.{Up, Down}
use Rattle.zr_msg.specs.Peer.{PeerState}
use Rattle.zr_msg.specs.declared.peer.Role.{Role}
use Rattle.zr_msg.specs.declared.peer.Role.TheVariants.{Client, Router}
use Rattle.zr_script_spec.specs.declared.command.Act.{Act}
use Rattle.zr_script_spec.specs.Mode.{is_current, is_future}
use Rattle.zr_script_spec.specs.declared.command.Act.TheVariants as a
use Rattle.zr_node_spec.specs.Tables.{link_at, link_to, is_router, free_link}
use Rattle.zr_node_spec.specs.State.{NodeState}
use Rattle.zr_msg.specs.declared.peer.LinkPeer.{LinkPeer}
use Rattle.zr_node_spec.specs.Table.{able_kind, sends, sends_up, sends_down, sends_parted, base_up, base_down, base_parted, after}
use Rattle.zr_world_spec.specs.World.{Tagged, RouterState, EndState, ClientState, Clients, WorldState, with_ends, with_clients, with_end, router_of, end_of, is_taken, empty_world, lifted}
use Rattle.zr_world_spec.specs.Acts.{Outcome, outcome, sends_to, sending, peer_of, up_event}
use Rattle.zr_world_spec.specs.Moments.{Numbered, Moment, went, reached}
use Rattle.zr_world_spec.specs.Sound.{IsSound}
use Rattle.zr_world_spec.proofs.Cases.{w_sent, w_declare, free_name, number_found, for_router, for_link, for_break, for_declare, for_undeclare, Says, publish_says, get_says, reply_says, end_says, for_take, for_mark, for_show, Weighs, interest_says, uninterest_says}
use Rattle.zr_world_spec.proofs.Telling.{is_told}
use Rattle.zr_world_spec.proofs.Sound.{act_keeps, empty_sound}
use Rattle.zr_law_settled.proofs.Told.{IsTold, by_told, if_sound, reads, told_there, told_some, told_up, told_weight, told_feeds, of_each, told_way, w_client, w_up, w_down, w_handle, for_client, for_up, for_down, for_handle}
use Rattle.zr_law_settled.proofs.Spreading.{Name, is_all}
use Rattle.zr_law_settled.proofs.Moments.{at_moments}
use Rattle.zr_law_settled.proofs.Links.{AreKnown, linked_to, is_at}
use Rattle.zr_law_settled.proofs.Records.{notes_in, told}
use Rattle.zr_law_settled.proofs.Silent.{first_tells, down_tells_first}
use Rattle.zr_law_settled.proofs.Worlds.{there_in, knows, table_of, way_of, Holds, there_heard}
use Rattle.zr_law_settled.proofs.Quiet.{quiet_kept, same_way, silent_kept, router_kept, no_end}
use Rattle.zr_law_settled.proofs.Moving.{moves_kept, sent_moves, lifted_moves, joined_moves, linked_moves, broken_moves}
use Rattle.zr_law_settled.proofs.Passing.{taken_moves, lowered_moves, weighed_kept}
use Rattle.zr_law_settled.proofs.Changes.{links_known, up_kept, down_kept}
use Rattle.zr_law_settled.proofs.Handling.{by_news, silent_handled, news_handled}

-- ---- clients' ends tell nothing of links

client_up_base : (n : NodeState) (link : LinkNo) (peer : PeerState) → peer.role ≡ Client → (after n (Up link peer)).base ≡ n.base
client_up_base n link peer role = ap (λ ρ. base_up n.base peer ρ) role

client_up_silent : (n : NodeState) (link : LinkNo) (peer : PeerState) → peer.role ≡ Client → (y : Name) → told (sends_to n (Up link peer) y) ≡ []
client_up_silent n link peer role y = by (link_to (after n (Up link peer)).links y)
  where
    by : (o : Option LinkPeer) → told (option_map_or (λ l. sends n (Up link peer) l.link) o []) ≡ []
    by None = refl
    by (Some l) = first_tells n (Up link peer) l.link ∙ ap (λ ρ. told (sends_up n link.0 peer ρ l.link.0)) role

pub client_down_base : (n : NodeState) (k : LinkPeer) → link_at n.links k.link.0 ≡ Some k → k.peer.role ≡ Client → (after n (Down k.link)).base ≡ n.base
client_down_base n k found role = ap (λ o. base_down n.base o) found ∙ ap (λ ρ. base_parted n.base k.peer ρ) role

client_down_silent : (n : NodeState) (k : LinkPeer) → link_at n.links k.link.0 ≡ Some k → k.peer.role ≡ Client → (y : Name) → told (sends_to n (Down k.link) y) ≡ []
client_down_silent n k found role y = by (link_to (after n (Down k.link)).links y)
  where
    by : (o : Option LinkPeer) → told (option_map_or (λ l. sends n (Down k.link) l.link) o []) ≡ []
    by None = refl
    by (Some l) = first_tells n (Down k.link) l.link ∙ down_tells_first n k.link l.link ∙ ap (λ o. told (sends_down n k.link.0 o l.link.0)) found ∙ ap (λ ρ. told (sends_parted n k.link.0 k.peer ρ l.link.0)) role

pub client_is : (role : Role) → is_router role ≡ false → role ≡ Client
client_is Client e = refl
client_is Router e = absurd (true≢false e)

-- ---- clients tell nothing

clients_kept : (w : WorldState) (clients : Clients) → Holds w → Holds (with_clients w clients)
clients_kept w clients h = record { made = h.made; spreads = h.spreads; lists = h.lists; weighs = h.weighs; in_order = h.in_order; twins = h.twins }

-- ---- clients are told

told_notes : (msg : Msg) → is_told msg ≡ true → notes_in msg ≡ []
told_notes = by_told (λ msg. notes_in msg ≡ []) (λ id key interest. refl) (λ id key interest. refl) (λ id key complete interest. refl) (λ id. refl) (λ id. refl) (λ id. refl) (λ interest. refl)

pub holds_told : (w v : WorldState) → IsTold w v → Holds w → Holds v
holds_told w v t h = quiet_kept w v h (record {
  tables = λ x z. reads w v t (λ o. knows o z) (λ r. refl) x;
  part = λ x y. is_all (way_of notes_in v.ends x y) (way_of notes_in w.ends x y) (sym (ways x y));
  dropped = λ x y z f. (sym (told_feeds w v t x y z) ∙ f, same_way z (table_of w y z).number (way_of notes_in v.ends x y) (way_of notes_in w.ends x y) (ways x y));
  lists = λ z y. (λ i. told_there w v t y i && told_up w v t (z, y) i);
  weighs = λ z y. (λ i. cond (told_there w v t y i) (told_weight w v t (z, y) i) 0);
  in_order = of_each w v t (λ x n. IsInOrder n.base) h.in_order;
  twins = λ x y some router. told_some w v t (y, x) ∙ h.twins x y (sym (told_some w v t (x, y)) ∙ some) (sym (told_there w v t y) ∙ router);
})
  where
    ways : (x y : Name) → way_of notes_in v.ends x y ≡ way_of notes_in w.ends x y
    ways = told_way w v t notes_in told_notes

-- ---- acts

module _ (now : Moment) (sound : IsSound now.world) (h : Holds now.world) where
  abbrev w : WorldState
  w = now.world

  -- what was known of a world holds of a moment that is sound
  abbrev pub Kept : Moment → Type 0
  Kept next = IsSound next.world → Holds next.world

  -- a client's message is on the wire
  on_wire : (n : ℕ) (name : List ℕ) (s : ClientState) (e : EndState) → end_of w.ends (s.router, name) ≡ Some e → (msg : Msg) → notes_in msg ≡ [] → Holds (w_sent w n name s e msg)
  on_wire n name s e found msg silent = moves_kept w _ h (sent_moves notes_in (table_of w) w h.twins s.router name e found msg n silent)

  -- it says something that tells nothing of links
  says : (n : ℕ) (name : List ℕ) (msg : Msg) → notes_in msg ≡ [] → Says now Kept n name msg
  says n name msg silent s found e at_end unbroken clients same sound' = clients_kept _ clients (on_wire n name s e at_end msg silent)

  -- what it says may weigh on its router
  weighs : (n : ℕ) (name key : List ℕ) (msg : Msg) → notes_in msg ≡ [] → Weighs now Kept n name key msg
  weighs n name key msg silent s found e at_end unbroken r there room clients same sound' =
      clients_kept _ clients (weighed_kept (w_sent w n name s e msg) (on_wire n name s e at_end msg silent) s.router r key there)

  client_declares : (n : ℕ) (name : List ℕ) (kind : Kind) (id : ℕ) (key : List ℕ) (msg : Msg) → notes_in msg ≡ [] → (s : ClientState) (e : EndState) → end_of w.ends (s.router, name) ≡ Some e →
      (r : RouterState) → router_of w.routers s.router ≡ Some r → Holds (w_declare w n name kind id key msg s e r)
  client_declares n name kind id key msg silent s e at_end r found =
      clients_kept _ _ (weighed_kept (w_sent w n name s e msg) (on_wire n name s e at_end msg silent) s.router r key found)

  client_comes : (n : ℕ) (id router : List ℕ) (r : RouterState) → router_of w.routers router ≡ Some r → is_taken w id ≡ false → Holds (w_client w n id router r)
  client_comes n id router r found free =
      let no_router = (free_name w id free).0 in
      let none = not_there (end_of w.ends (router, id)) (false_from_ne_true _ (no_end w sound id free router)) in
      clients_kept _ _ (silent_kept _ router r found (up_event r (record { id = id; role = Client; weight = 1 })) n (moves_kept w _ h (joined_moves notes_in (table_of w) w h.twins router id none no_router)) refl
      (client_up_silent r.node _ (record { id = id; role = Client; weight = 1 }) refl))

  end_comes_up : (n : ℕ) (router name : List ℕ) (r : RouterState) → router_of w.routers router ≡ Some r → (s : EndState) → end_of w.ends (router, name) ≡ Some s →
      IsSound (w_up w n router name r s) → Holds (w_up w n router name r s)
  end_comes_up n router name r found s at_end sound' = by (there_in w name) refl
    where
      link : LinkNo
      link = record { 0 = free_link r.node.links }

      by : (t : Bool) → there_in w name ≡ t → Holds (w_up w n router name r s)
      by true e = up_kept w h sound router r found link (peer_of w name s.weight) (ap (λ t. cond t Router Client) e) e s at_end refl n sound'
      by false e =
          let role : (peer_of w name s.weight).role ≡ Client = ap (λ t. cond t Router Client) e in
          silent_kept (with_ends w (with_end w.ends (router, name) (lifted s))) router r found (up_event r (peer_of w name s.weight)) n (moves_kept w _ h (lifted_moves notes_in (table_of w) w h.twins router name s at_end e)) (client_up_base r.node link (peer_of w name s.weight) role) (client_up_silent r.node link (peer_of w name s.weight) role)

  end_goes_down : (n : ℕ) (router name : List ℕ) (r : RouterState) → router_of w.routers router ≡ Some r → (k : LinkPeer) → link_to r.node.links name ≡ Some k →
      IsSound (w_down w n router name r k.link) → Holds (w_down w n router name r k.link)
  end_goes_down n router name r found k linked sound' = by (there_in w name) refl
    where
      it : In k r.node.links × (k.peer.id ≡ name)
      it = linked_to r.node.links name k linked

      known_links : AreKnown (there_in w) r.node.links
      known_links = links_known w sound router r found

      by : (t : Bool) → there_in w name ≡ t → Holds (w_down w n router name r k.link)
      by true e = down_kept w h sound router r found name e k linked n sound'
      by false e =
          let role : k.peer.role ≡ Client = client_is k.peer.role (known_links.roles k it.0 ∙ ap (there_in w) it.1 ∙ e) in
          let at = is_at (there_in w) r.node.links known_links k it.0 in
          let heard_of : Holds (sending w router r (Down k.link) n) = silent_kept w router r found (Down k.link) n h (client_down_base r.node k at role) (client_down_silent r.node k at role) in
          moves_kept (sending w router r (Down k.link) n) _ heard_of
          (lowered_moves notes_in (table_of (sending w router r (Down k.link) n)) (sending w router r (Down k.link) n) heard_of.twins router name (there_heard w router r found (Down k.link) n name ∙ e))

  message_handled : (router from : List ℕ) (r : RouterState) → router_of w.routers router ≡ Some r → (s : EndState) → end_of w.ends (router, from) ≡ Some s → (msg : Msg) (tag : ℕ) (xs : List Tagged) →
      s.wire ≡ record { msg = msg; tag = tag } ∷ xs → (k : LinkPeer) → link_to r.node.links from ≡ Some k → Holds (w_handle w router from r s k.link msg tag xs)
  message_handled router from r found s at_end msg tag xs front k linked =
      by_news r.node k.link msg (λ msg. s.wire ≡ record { msg = msg; tag = tag } ∷ xs → Holds (w_handle w router from r s k.link msg tag xs))
      (λ told leads newer front. news_handled w h sound router r found from k linked s at_end tag xs told front leads newer)
      (λ msg silent old front. silent_handled w h sound router r found from k linked s at_end tag xs msg front silent old)
      front

  pub acts_keep : (n : ℕ) (act : Act) → IfSome (went now (outcome w n act)) Kept
  unfolding outcome
  acts_keep n (a.Router id) = for_router now Kept id (λ free room sound'. router_kept w sound h id free)
  acts_keep n (a.Client id router) = for_client now Kept (if_sound Holds (λ w v t s. holds_told w v t)) n id router (λ r found free room taken sound'. client_comes n id router r found free)
  acts_keep n (a.Link one other weight) = for_link now Kept one other weight (λ apart r found q found' new room sound'. moves_kept w _ h (linked_moves notes_in (table_of w) w h.twins one other weight (ap is_some found) (ap is_some found') new))
  acts_keep n (a.Up router name) = for_up now Kept (if_sound Holds (λ w v t s. holds_told w v t)) n router name (λ r found there s at_end unbroken down taken sound'. end_comes_up n router name r found s at_end sound')
  acts_keep n (a.Break router name) = for_break now Kept router name (λ r found there s at_end unbroken sound'. moves_kept w _ h (broken_moves notes_in (table_of w) w h.twins router name))
  acts_keep n (a.Down router name) = for_down now Kept (if_sound Holds (λ w v t s. holds_told w v t)) n router name (λ r found there s at_end up cut l number taken.
      let k = number_found r name l number in
      subst (λ l. IsSound (w_down w n router name r l) → Holds (w_down w n router name r l)) k.2 (λ sound'. end_goes_down n router name r found k.0 k.1 sound'))
  acts_keep n (a.Sub client id key) = for_declare now Kept n client k.Sub id key (m.Sub id key) (λ s found fresh e at_end unbroken r there room sound'.
      client_declares n client k.Sub id key (m.Sub id key) refl s e at_end r there)
  acts_keep n (a.Unsub client id) = for_undeclare now Kept n client k.Sub id (m.Unsub id) (λ s found known e at_end unbroken sound'. clients_kept _ _ (on_wire n client s e at_end (m.Unsub id) refl))
  acts_keep n (a.Token client id key) = for_declare now Kept n client k.Token id key (m.Token id key) (λ s found fresh e at_end unbroken r there room sound'.
      client_declares n client k.Token id key (m.Token id key) refl s e at_end r there)
  acts_keep n (a.Untoken client id) = for_undeclare now Kept n client k.Token id (m.Untoken id) (λ s found known e at_end unbroken sound'. clients_kept _ _ (on_wire n client s e at_end (m.Untoken id) refl))
  acts_keep n (a.Able client id key complete) = for_declare now Kept n client (able_kind complete) id key (m.Able id key complete) (λ s found fresh e at_end unbroken r there room sound'.
      client_declares n client (able_kind complete) id key (m.Able id key complete) refl s e at_end r there)
  acts_keep n (a.Unable client id) = for_undeclare now Kept n client k.Able id (m.Unable id) (λ s found known e at_end unbroken sound'. clients_kept _ _ (on_wire n client s e at_end (m.Unable id) refl))
  acts_keep n (a.Interest client id mode kinds key aggregate) = interest_says now Kept n client id mode kinds key aggregate
      (says n client (m.Interest id (is_current mode) (is_future mode) kinds key aggregate) refl) (weighs n client (unwrap_or key []) (m.Interest id (is_current mode) (is_future mode) kinds key aggregate) refl)
  acts_keep n (a.Uninterest client id) = uninterest_says now Kept n client id (says n client (m.EndInterest id) refl)
  acts_keep n (a.Publish client content) = publish_says now Kept n client content (says n client (m.Push None content) refl)
  acts_keep n (a.Get client number target content) = get_says now Kept n client number target content (says n client (m.Request None number target content) refl)
  acts_keep n (a.Reply client number content) = reply_says now Kept n client number content (says n client (m.Response number content) refl)
  acts_keep n (a.End client number) = end_says now Kept n client number (says n client (m.Final number no_extras) refl)
  acts_keep n (a.Handle router from) = for_handle now Kept (if_sound Holds (λ w v t s. holds_told w v t)) router from (λ r found there s at_end up msg tag xs front l number taken sound'.
      let k = number_found r from l number in
      subst (λ l. Holds (w_handle w router from r s l msg tag xs)) k.2 (message_handled router from r found s at_end msg tag xs front k.0 k.1))
  acts_keep n (a.Take router to) = for_take now Kept router to (λ r found there s at_end up unbroken msg tag xs front sound'. clients_kept _ _ (moves_kept w _ h (taken_moves notes_in (table_of w) w h.twins router to s at_end msg tag xs front)))
  acts_keep n a.Mark = for_mark now Kept n (λ settled joined sound'. h)
  acts_keep n (a.Show router) = for_show now Kept router (λ r found sound'. h)

-- ---- moments

-- before the first line nothing was told
pub empty_holds : Holds empty_world
empty_holds = record {
  made = λ z n. [];
  spreads = record {
    fits = λ x z. (omega arith, refl);
    fits_way = λ x y. tt;
    way_le = λ x y z. omega arith;
    told = λ x y z f. absurd (false≢true f);
  };
  lists = λ z y. refl;
  weighs = λ z y. refl;
  in_order = λ x r found. absurd (cc);
  twins = λ x y some router. absurd (false≢true some);
}

-- a sound moment at which what is known of worlds holds
pub record Stands (m : Moment) : Type 0 where
  pub sound : IsSound m.world
  pub holds : Holds m.world

pub act_stands : (now : Moment) (n : ℕ) (act : Act) → Stands now → IfSome (went now (outcome now.world n act)) Stands
act_stands now n act s = by (outcome now.world n act) (act_keeps now.world n act s.sound) (acts_keep now s.sound s.holds n act)
  where
    by : (o : Outcome) → IfOk o (λ x. IsSound x.1) → IfSome (went now o) (λ next. IsSound next.world → Holds next.world) → IfSome (went now o) Stands
    by (Err e) sound kept = tt
    by (Ok x) sound kept = record { sound = sound; holds = kept sound }

pub moments_hold : (acts : List Numbered) → IfSome (reached acts) Stands
moments_hold acts = at_moments Stands act_stands (record { sound = empty_sound; holds = empty_holds }) acts
