-- What a router sends for a sample, message by message, is what the sample becomes.
use Rattle.std.proofs.Common.{◌≡◌, ℕ, ◌+◌, Bool, true, false, cond, List, [], ◌∷◌, Option, Some, None, refl, sym, ap, ◌∙◌, subst, arith}
use Rattle.std.specs.Prelude.{is_some}
use Rattle.std.specs.List.{flat_map}
use Rattle.std.specs.List.Sorted.{IsStrictlySortedBy}
use Rattle.std.specs.Map.{keys_of}
use Rattle.std.specs.Option.{option_map, option_map_or}
use Rattle.zr_id.specs.declared.link.LinkNo.{LinkNo}
use Rattle.zr_msg.specs.declared.content.Parts.{Parts}
use Rattle.zr_msg.specs.declared.event.Event.{Event}
use Rattle.zr_msg.specs.declared.event.Event.TheVariants.{From}
use Rattle.zr_msg.specs.declared.msg.Msg.{Msg}
use Rattle.zr_msg.specs.declared.msg.Msg.TheVariants.{Push}
use Rattle.zr_msg.specs.declared.peer.LinkPeer.{LinkPeer}
use Rattle.zr_node_spec.specs.Tables.{link_at, link_to}
use Rattle.zr_told_spec.specs.Hub.{HubSends}
use Rattle.zr_orders.specs.Bag.{weigh, AreSame}
use Rattle.zr_orders.proofs.Bag.{weigh-append}
use Rattle.zr_world_spec.specs.World.{RouterState, EndState, End, Ends, WorldState, end_cmp, is_end, router_of, end_of, changed, queued}
use Rattle.zr_world_spec.specs.Acts.{sends_to, told_to, all_queued, hub_of}
use Rattle.zr_world_spec.specs.Fan.{is_sample}
use Rattle.zr_world_spec.specs.Sound.{IsSound}
use Rattle.zr_world_spec.proofs.Ends.{changed_is}
use Rattle.zr_world_ends.specs.Spread.{queued_on, all_queued_on}
use Rattle.zr_world_ends.proofs.Queued.{keys_queued_on, spread_is}
use Rattle.zr_law_fan.specs.Samples.{Move, Handling, Taking, under_way, tagged, sent_at, sends_over, sends_by, next_moves, IsCalm}
use Rattle.zr_law_fan.proofs.Moving.{sample_case, none_sent}
use Rattle.zr_law_fan.proofs.Weights.{weigh_waiting, weigh_enqueued}

-- the messages of a list, each to be taken from the queue of the end to its link's peer, where that end is there
abbrev pub taking_over : List LinkPeer → (End → Bool) → List ℕ → ℕ → LinkNo × Msg → List Move
taking_over links there x tag m = option_map_or (λ l. cond (there (x, l.peer.id)) (Taking (x, l.peer.id) (tagged tag m.1) ∷ []) []) (link_at links m.0.0) []

abbrev pub there_in : WorldState → End → Bool
there_in w q = is_some (end_of w.ends q)

module _ (f : Move → ℕ) (links : List LinkPeer) (there : End → Bool) (x : List ℕ) (tag : ℕ) where
  there_queued : (es : Ends) (m : LinkNo × Msg) (q : End) → is_some (end_of (queued_on links es x m.0 m.1 tag) q) ≡ is_some (end_of es q)
  there_queued es m q = by (link_at links m.0.0)
    where
      at : (b : Bool) (o : Option EndState) → is_some (cond b (option_map (λ s. queued s (m.1 ∷ []) tag) o) o) ≡ is_some o
      at false o = refl
      at true None = refl
      at true (Some s) = refl

      by : (o : Option LinkPeer) → is_some (end_of (option_map_or (λ l. changed es (x, l.peer.id) (λ s. queued s (m.1 ∷ []) tag)) o es) q) ≡ is_some (end_of es q)
      by None = refl
      by (Some l) = ap is_some (changed_is es (x, l.peer.id) (λ s. queued s (m.1 ∷ []) tag) q) ∙ at (is_end (x, l.peer.id) q) (end_of es q)

  weigh_one : (es : Ends) (m : LinkNo × Msg) → ((q : End) → is_some (end_of es q) ≡ there q) → IsStrictlySortedBy end_cmp (keys_of es) →
      weigh f (under_way (queued_on links es x m.0 m.1 tag)) ≡ weigh f (under_way es) + weigh f (taking_over links there x tag m)
  weigh_one es m same sorted = by (link_at links m.0.0)
    where
      by : (o : Option LinkPeer) → weigh f (under_way (option_map_or (λ l. changed es (x, l.peer.id) (λ s. queued s (m.1 ∷ []) tag)) o es))
          ≡ weigh f (under_way es) + weigh f (option_map_or (λ l. cond (there (x, l.peer.id)) (Taking (x, l.peer.id) (tagged tag m.1) ∷ []) []) o [])
      by None = omega arith
      by (Some l) =
          let one = weigh_enqueued f es (x, l.peer.id) m.1 tag sorted in
          let is = ap (λ b. weigh f (cond b (Taking (x, l.peer.id) (tagged tag m.1) ∷ []) [])) (same (x, l.peer.id)) in
          omega (arith, one, is)

  pub weigh_all : (es : Ends) (out : List (LinkNo × Msg)) → ((q : End) → is_some (end_of es q) ≡ there q) → IsStrictlySortedBy end_cmp (keys_of es) →
      weigh f (under_way (all_queued_on links es x out tag)) ≡ weigh f (under_way es) + weigh f (flat_map (taking_over links there x tag) out)
  weigh_all es [] same sorted = omega arith
  weigh_all es (m ∷ ms) same sorted =
      let rest = weigh_all (queued_on links es x m.0 m.1 tag) ms (λ q. there_queued es m q ∙ same q) (subst (IsStrictlySortedBy end_cmp) (sym (keys_queued_on links x tag es m)) sorted) in
      let one = weigh_one es m same sorted in
      let split = weigh-append f (taking_over links there x tag m) (flat_map (taking_over links there x tag) ms) in
      omega (arith, rest, one, split)

-- ---- of a sample

module _ (w : WorldState) (sound : IsSound w) (calm : IsCalm w) (x y : List ℕ) (r : RouterState) (found : router_of w.routers x ≡ Some r) (k : LinkPeer) (linked : link_to r.node.links y ≡ Some k)
    (tag : ℕ) (out : List (LinkNo × Msg)) where
  abbrev Spreads : Msg → Type 0
  Spreads msg = HubSends (hub_of r) (From k.link msg) [] out → AreSame (flat_map (taking_over r.node.links (there_in w) x tag) out) (next_moves w (Handling (x, y) (tagged tag msg)))

  becomes : (msg : Msg) → next_moves w (Handling (x, y) (tagged tag msg)) ≡ sent_at (keys_of w.ends) x (sends_to r.node (From k.link msg)) tag
  becomes msg = ap (λ msgs. sent_at (keys_of w.ends) x msgs tag) (ap (λ o. sends_by o y msg) found ∙ ap (λ o. sends_over r o msg) linked)

  spreads : (tree : Option (List ℕ)) (content : Parts) → Spreads (Push tree content)
  spreads tree content sends f =
      let quiet = calm x r found k.link tree content in
      let all = weigh_all f r.node.links (there_in w) x tag w.ends out (λ q. refl) sound.in_order in
      let same = ap (λ es. weigh f (under_way es)) (spread_is w.ends x r event out tag sound.in_order (sound.unique x r found) sends) in
      let told = weigh_waiting f (all_queued w.ends x r.node event tag) x (told_to r event) tag in
      let none = ap (weigh f) (none_sent (keys_of (all_queued w.ends x r.node event tag)) x (told_to r event) tag quiet.silent) in
      let first = weigh_waiting f w.ends x (sends_to r.node event) tag in
      let is = ap (weigh f) (becomes (Push tree content)) in
      omega (arith, all, same, told, none, first, is)
    where
      event : Event
      event = From k.link (Push tree content)

  pub sends_are_takings : (msg : Msg) → is_sample msg ≡ true → Spreads msg
  sends_are_takings msg sample = sample_case Spreads spreads msg sample
