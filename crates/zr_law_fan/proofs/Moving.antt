-- Each step on a sample moves it.
use Rattle.std.proofs.Common.{◌≡◌, ℕ, Bool, true, false, cond, List, [], ◌∷◌, ◌++◌, map, Option, Some, None, Ok, refl, sym, ap, ◌∙◌, subst, arith}
use Rattle.std.specs.Prelude.{◌&&◌, is_some, IfSome}
use Rattle.std.specs.Option.{option_map_or}
use Rattle.std.specs.Map.{keys_of}
use Rattle.std.proofs.lemmas.Bool.{false≢true, and_from}
use Rattle.std.proofs.lemmas.Map.Steps.{set_value_same}
use Rattle.zr_id.specs.Zid.{is_named}
use Rattle.zr_id.specs.declared.link.LinkNo.{LinkNo}
use Rattle.std.specs.List.Sorted.{IsStrictlySortedBy}
use Rattle.zr_msg.specs.declared.content.Parts.{Parts}
use Rattle.zr_msg.specs.declared.event.Event.{Event}
use Rattle.zr_msg.specs.declared.event.Event.TheVariants.{From}
use Rattle.zr_msg.specs.declared.msg.Msg.{Msg}
use Rattle.zr_msg.specs.declared.msg.Msg.TheVariants.{Push}
use Rattle.zr_script_spec.specs.declared.command.Act.TheVariants as a
use Rattle.zr_orders.specs.Bag.{weigh, AreSame, Moves}
use Rattle.zr_orders.proofs.Bag.{weigh-append}
use Rattle.zr_world_spec.specs.World.{Tagged, ClientState, RouterState, EndState, End, Ends, WorldState, end_cmp, router_of, client_of, end_of, with_router, with_client, with_routers, with_ends, with_end, with_wire, with_queue, changed, sent}
use Rattle.zr_world_spec.specs.Acts.{sends_to, told_to, having_told, all_queued, all_told, received, receiving, number_to, outcome, handle_step, take_step}
use Rattle.zr_world_spec.specs.Moments.{Moment, went}
use Rattle.zr_world_spec.specs.Sound.{IsSound}
use Rattle.zr_world_spec.proofs.Ends.{keys_with_end, keep_with_end}
use Rattle.zr_world_spec.proofs.Telling.{heard_is}
use Rattle.zr_world_spec.proofs.Cases.{number_found, for_handle, for_take}
use Rattle.zr_law_fan.specs.Samples.{Handling, Taking, under_way, tagged, sent_at, sends_over, sends_by, next_moves, emptied, IsSameBut, IsCalm, IsCalmWith, HasMoved}
use Rattle.zr_world_spec.specs.Fan.{is_sample}
use Rattle.zr_law_fan.proofs.Weights.{weigh_waiting, weigh_set, weigh_sent, emptied_waiting, emptied_set, emptied_changed}

-- what holds of samples holds of a message that is one
pub sample_case : (P : Msg → Type 0) → ((tree : Option (List ℕ)) (content : Parts) → P (Push tree content)) → (m : Msg) → is_sample m ≡ true → P m
sample_case P h (Push tree content) e = h tree content
sample_case P h other e = absurd (false≢true e)

-- nothing is sent where there is nothing to send
pub none_sent : (qs : List End) (x : List ℕ) (msgs : List ℕ → List Msg) (tag : ℕ) → ((name : List ℕ) → msgs name ≡ []) → sent_at qs x msgs tag ≡ []
none_sent [] x msgs tag none = refl
none_sent (q ∷ qs) x msgs tag none = by (is_named x q.0) (none_sent qs x msgs tag none)
  where
    by : (b : Bool) → sent_at qs x msgs tag ≡ [] → cond b (map (λ z. Taking q (tagged tag z)) (msgs q.1)) [] ++ sent_at qs x msgs tag ≡ []
    by true ih = λ i. map (λ z. Taking q (tagged tag z)) (none q.1 i) ++ ih i
    by false ih = ih

module _ (now : Moment) (sound : IsSound now.world) (calm : IsCalm now.world) where
  abbrev w : WorldState
  w = now.world

  -- ---- a message is handled

  module _ (x y : List ℕ) (r : RouterState) (found : router_of w.routers x ≡ Some r) (s : EndState) (there : end_of w.ends (x, y) ≡ Some s) (msg : Msg) (tag : ℕ) (xs : List Tagged)
      (front : s.wire ≡ tagged tag msg ∷ xs) (l : LinkNo) (number : number_to r y ≡ Ok l) where
    abbrev event : Event
    event = From l msg

    abbrev half : Ends
    half = with_end w.ends (x, y) (with_wire s xs)

    abbrev sent_ends : Ends
    sent_ends = all_queued half x r.node event tag

    abbrev after_ends : Ends
    after_ends = all_told sent_ends x r event tag

    abbrev next_world : WorldState
    next_world = with_ends (with_routers w (with_router w.routers x (having_told r event))) after_ends

    -- what the message becomes is what the router sends
    sends_are : sends_by (router_of w.routers x) y msg ≡ sends_to r.node event
    sends_are =
        let k = number_found r y l number in
        ap (λ o. sends_by o y msg) found
        ∙ ap (λ o. sends_over r o msg) k.1
        ∙ ap (λ n. sends_to r.node (From n msg)) k.2

    keys_half : keys_of half ≡ keys_of w.ends
    keys_half = keys_with_end w.ends (x, y) (with_wire s xs)

    becomes : next_moves w (Handling (x, y) (tagged tag msg)) ≡ sent_at (keys_of half) x (sends_to r.node event) tag
    becomes = λ i. sent_at (sym keys_half i) x (sends_are i) tag

    handled_among : AreSame (under_way w.ends) (Handling (x, y) (tagged tag msg) ∷ under_way half)
    handled_among f =
        let one = weigh_set f w.ends (x, y) s (with_wire s xs) there in
        let old = ap (λ (ws : List Tagged). weigh f (map (λ m. Handling (x, y) m) ws ++ map (λ m. Taking (x, y) m) s.queue)) front in
        omega (arith, one, old)

    module _ (same : having_told r event ≡ r) (silent : (name : List ℕ) → told_to r event name ≡ []) where
      handled_moves : Moves (next_moves w) (under_way w.ends) (Handling (x, y) (tagged tag msg)) (under_way after_ends)
      handled_moves = (
        under_way half,
        handled_among,
        (λ f.
            let first = weigh_waiting f half x (sends_to r.node event) tag in
            let second = weigh_waiting f sent_ends x (told_to r event) tag in
            let none = ap (weigh f) (none_sent (keys_of sent_ends) x (told_to r event) tag silent) in
            let is = ap (weigh f) becomes in
            let both = weigh-append f (next_moves w (Handling (x, y) (tagged tag msg))) (under_way half) in
            omega (arith, first, second, none, is, both)),
      )

      handled_same : IsSameBut w next_world
      handled_same = record {
        routers = ap (with_router w.routers x) same ∙ set_value_same (is_named x) w.routers r found;
        clients = refl;
        booked = refl;
        ends = emptied_waiting sent_ends x (told_to r event) tag ∙ emptied_waiting half x (sends_to r.node event) tag ∙ emptied_set w.ends (x, y) s (with_wire s xs) there refl;
      }

  handles : (x y : List ℕ) → IfSome (went now (handle_step w x y)) (HasMoved now)
  handles x y = for_handle now (HasMoved now) x y (λ r found taken s there up msg tag xs front l number takes. record {
    moved = Handling (x, y) (tagged tag msg);
    can = ap (λ o. option_map_or (λ e. e.up) o false) there ∙ up;
    report = refl;
    among = (under_way (with_end w.ends (x, y) (with_wire s xs)), handled_among x y r found s there msg tag xs front l number);
    moves = λ sample.
        let quiet : IsCalmWith r l msg = sample_case (IsCalmWith r l) (λ tree content. calm x r found l tree content) msg sample in
        let is = heard_is (with_ends w (with_end w.ends (x, y) (with_wire s xs))) x r (From l msg) tag in
        subst (λ v. Moves (next_moves w) (under_way w.ends) (Handling (x, y) (tagged tag msg)) (under_way v.ends) × IsSameBut w v) (sym is)
        (handled_moves x y r found s there msg tag xs front l number quiet.stays quiet.silent, handled_same x y r found s there msg tag xs front l number quiet.stays quiet.silent);
  })

  -- ---- a message is taken

  module _ (x y : List ℕ) (s : EndState) (there : end_of w.ends (x, y) ≡ Some s) (msg : Msg) (tag : ℕ) (xs : List Tagged) (front : s.queue ≡ tagged tag msg ∷ xs) where
    abbrev rest : Ends
    rest = with_end w.ends (x, y) (with_queue s xs)

    abbrev taken_ends : Ends
    taken_ends = changed rest (y, x) (λ e. sent e msg tag)

    taken_among : AreSame (under_way w.ends) (Taking (x, y) (tagged tag msg) ∷ under_way rest)
    taken_among f =
        let one = weigh_set f w.ends (x, y) s (with_queue s xs) there in
        let old = ap (λ (ws : List Tagged). weigh f (map (λ m. Handling (x, y) m) s.wire ++ map (λ m. Taking (x, y) m) ws)) front in
        let two = weigh-append f (map (λ m. Handling (x, y) m) s.wire) (Taking (x, y) (tagged tag msg) ∷ map (λ m. Taking (x, y) m) xs) in
        let three = weigh-append f (map (λ m. Handling (x, y) m) s.wire) (map (λ m. Taking (x, y) m) xs) in
        omega (arith, one, old, two, three)

    taken_moves : Moves (next_moves w) (under_way w.ends) (Taking (x, y) (tagged tag msg)) (under_way taken_ends)
    taken_moves = (
      under_way rest,
      taken_among,
      (λ f.
          let sorted : IsStrictlySortedBy end_cmp (keys_of rest) = subst (IsStrictlySortedBy end_cmp) (sym (keys_with_end w.ends (x, y) (with_queue s xs))) sound.in_order in
          let first = weigh_sent f rest (y, x) msg tag sorted in
          let is = ap (λ b. weigh f (cond b (Handling (y, x) (tagged tag msg) ∷ []) [])) (keep_with_end w.ends (x, y) (with_queue s xs) is_some (y, x) s there refl) in
          let both = weigh-append f (next_moves w (Taking (x, y) (tagged tag msg))) (under_way rest) in
          omega (arith, first, is, both)),
    )

    same_clients : (o : Option ClientState) → client_of w.clients y ≡ o → is_sample msg ≡ true → received w.clients y msg o ≡ w.clients
    same_clients None e sample = refl
    same_clients (Some c) e sample =
        let stays : receiving c msg ≡ c = sample_case (λ m. receiving c m ≡ c) (λ tree content. refl) msg sample in
        ap (with_client w.clients y) stays ∙ set_value_same (is_named y) w.clients c e

    taken_ends_same : emptied taken_ends ≡ emptied w.ends
    taken_ends_same = emptied_changed rest (y, x) (λ e. sent e msg tag) (λ z. refl) ∙ emptied_set w.ends (x, y) s (with_queue s xs) there refl

  takes : (x y : List ℕ) → IfSome (went now (take_step w x y)) (HasMoved now)
  takes x y = for_take now (HasMoved now) x y (λ r found taken s there up unbroken msg tag xs front. record {
    moved = Taking (x, y) (tagged tag msg);
    can = ap (λ o. option_map_or (λ e. e.up && e.unbroken) o false) there ∙ and_from s.up s.unbroken up unbroken;
    report = refl;
    among = (under_way (with_end w.ends (x, y) (with_queue s xs)), taken_among x y s there msg tag xs front);
    moves = λ sample. (
      taken_moves x y s there msg tag xs front,
      record {
        routers = refl;
        clients = same_clients x y s there msg tag xs front (client_of w.clients y) refl sample;
        booked = refl;
        ends = taken_ends_same x y s there msg tag xs front;
      },
    );
  })

-- each step on a sample moves it
pub steps_move : (now : Moment) → IsSound now.world → IsCalm now.world → (line : ℕ) (x y : List ℕ) →
    IfSome (went now (outcome now.world line (a.Handle x y))) (HasMoved now) × IfSome (went now (outcome now.world line (a.Take x y))) (HasMoved now)
unfolding outcome
steps_move now sound calm line x y = (handles now sound calm x y, takes now sound calm x y)
