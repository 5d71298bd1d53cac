-- A link between two routers comes up at one end, after it was made where this is the first of its ends (`router_comes`).
use Rattle.std.proofs.Common.{◌≡◌, ℕ, Bool, true, false, cond, List, [], ◌++◌, length, Option, Some, None, Ok, refl, sym, ap, ◌∙◌, subst, append-nil}
use Rattle.std.specs.Prelude.{◌||◌, nat_le, is_some}
use Rattle.std.specs.Option.{option_map_or}
use Rattle.std.proofs.lemmas.Bool.{false≢true, or_left}
use Rattle.zr_id.specs.Zid.{is_named}
use Rattle.zr_msg.specs.declared.event.Event.{Event}
use Rattle.zr_msg.specs.declared.peer.Role.TheVariants as role
use Rattle.zr_node_spec.specs.Tables.{link_to}
use Rattle.zr_told_spec.specs.Hub.{hub_after, hub_refuses}
use Rattle.zr_script_spec.specs.declared.command.Act.{Act}
use Rattle.zr_script_spec.specs.declared.command.Act.TheVariants as a
use Rattle.zr_world_spec.specs.World.{RouterState, EndState, End, Ends, WorldState, is_end, is_taken, is_up, is_in_place, links_in_place, router_of, end_of, with_end, put_end, with_ends, new_end, lifted, most_links, wire_at}
use Rattle.zr_world_spec.specs.Acts.{outcome, peer_of, up_event, heard as heard_in}
use Rattle.zr_world_spec.specs.Moments.{Moment, then_at}
use Rattle.zr_world_spec.specs.Sound.{IsSound}
use Rattle.zr_world_spec.proofs.Cases.{w_link}
use Rattle.zr_world_spec.proofs.Ends.{same_end, with_end_is, read_with_end, put_end_is}
use Rattle.zr_world_spec.proofs.Sound.{act_keeps}
use Rattle.zr_law_running.specs.Runs.{LinkState, Several, new_link, queued_for, heard, with_link}
use Rattle.zr_law_running.specs.Allowed.{is_among, placed_links}
use Rattle.zr_law_running.proofs.Steps.{Span, did, next_number, link_goes, up_goes}
use Rattle.zr_law_running.proofs.Holding.{read, router_in, IsHome, Homes, unbroken_is, is_client, messages_to, Calm}
use Rattle.zr_law_running.proofs.Hearing.{at_true, no_own_end, homes_kept, hears}
use Rattle.zr_law_running.proofs.Draining.{sound_after, Standing}
use Rattle.zr_law_running.proofs.Counting.{under}
use Rattle.zr_law_running.proofs.Placing.{places_few}
use Rattle.zr_law_running.proofs.Coming.{finish, stand, same_report, not_up, reach_after}

-- an end that is whole is there
pub record WholeEnd (o : Option EndState) (l : LinkState) : Type 0 where
  pub end : EndState
  pub is : o ≡ Some end
  pub whole : end.unbroken ≡ true
  pub weight : end.weight ≡ l.weight

pub whole_end : (o : Option EndState) (l : LinkState) → read o ≡ l → l.whole ≡ true → WholeEnd o l
whole_end None l h whole = absurd (false≢true (ap (λ z. z.whole) h ∙ whole))
whole_end (Some e) l h whole = record { end = e; is = refl; whole = ap (λ z. z.whole) h ∙ whole; weight = ap (λ z. z.weight) h }

module _ (g : Span) (all : (act : Act) → g.test act ≡ true) (ids : List (List ℕ)) (s : Several) (m : Moment) (st : Standing g ids s m) (x : List ℕ) (known : is_among ids x ≡ true) (y : List ℕ) (other : is_among ids y ≡ true) where
  abbrev w : WorldState
  w = m.world

  abbrev r : RouterState
  r = router_in s x

  its_router : (q : List ℕ) → is_among ids q ≡ true → router_of w.routers q ≡ Some (router_in s q)
  its_router q i = st.holds.routers q ∙ at_true (is_among ids q) (Some (router_in s q)) None i

  taken_name : is_taken w y ≡ true
  taken_name = or_left (is_some (router_of w.routers y)) (is_client w y) (ap is_some (its_router y other))

  -- a router is no client
  no_client : (q : List ℕ) → is_among ids q ≡ true → is_client w q ≡ false
  no_client q i = by (is_client w q) refl
    where
      by : (b : Bool) → is_client w q ≡ b → b ≡ false
      by false e = refl
      by true e = absurd (false≢true (sym (st.holds.apart q e) ∙ i))

  -- ---- the second end

  module _ (weight : ℕ) (whole : (s.links (x, y)).whole ≡ true) (heavy : (s.links (x, y)).weight ≡ weight) (once : link_to (s.hub x).node.links y ≡ None) where
    abbrev event : Event
    event = up_event r (record { id = y; role = role.Router; weight = weight })

    at : WholeEnd (end_of w.ends (x, y)) (s.links (x, y))
    at = whole_end (end_of w.ends (x, y)) (s.links (x, y)) (st.holds.ends (x, y)) whole

    down : at.end.up ≡ false
    down = sym (ap (λ o. option_map_or (λ z. z.up) o false) at.is) ∙ sym (st.sound.links x y r (its_router x known)) ∙ ap is_some once

    abbrev v : WorldState
    v = with_ends w (with_end w.ends (x, y) (lifted at.end))

    there : is_some (end_of w.ends (x, y)) ≡ true
    there = ap is_some at.is

    -- what is read of an end that is not whether it is up is as before
    kept : {Y : Type 0} (f : Option EndState → Y) → f (Some (lifted at.end)) ≡ f (Some at.end) → (e : End) → f (end_of v.ends e) ≡ f (end_of w.ends e)
    kept f same e = read_with_end w.ends (x, y) (lifted at.end) f e there ∙ by (is_end (x, y) e) refl
      where
        by : (b : Bool) → is_end (x, y) e ≡ b → cond b (f (Some (lifted at.end))) (f (end_of w.ends e)) ≡ f (end_of w.ends e)
        by true n = same ∙ ap f (sym at.is ∙ ap (end_of w.ends) (same_end (x, y) e n))
        by false n = refl

    homes_then : Homes v
    homes_then z c k i = subst (IsHome k z) (sym (with_end_is w.ends (x, y) (lifted at.end) (z, c) there)) (by (is_end (x, y) (z, c)) refl)
      where
        by : (b : Bool) → is_end (x, y) (z, c) ≡ b → IsHome k z (cond b (Some (lifted at.end)) (end_of w.ends (z, c)))
        by true n =
            let same : y ≡ c = ap (λ (e : End). e.1) (same_end (x, y) (z, c) n) in
            absurd (false≢true (sym (no_client y other) ∙ ap (is_client w) same ∙ ap is_some i))
        by false n = st.homes z c k i

    calm_then : Calm ids s v m.report
    calm_then = record {
      routers = st.holds.routers;
      clients = st.holds.clients;
      apart = st.holds.apart;
      ends = λ e. kept read refl e ∙ st.holds.ends e;
      wires = λ e. kept wire_at refl e ∙ st.holds.wires e;
      rest = st.holds.rest;
      told = st.holds.told;
      came = st.holds.came;
    }

    event_is : up_event r (peer_of w y at.end.weight) ≡ event
    event_is = ap (λ b. up_event r (record { id = y; role = cond b role.Router role.Client; weight = at.end.weight })) (ap is_some (its_router y other))
        ∙ ap (λ n. up_event r (record { id = y; role = role.Router; weight = n })) (at.weight ∙ heavy)

    pub second_up : hub_refuses (s.hub x) event ≡ None → (then : Moment) × Standing g ids (heard s x event) then
    second_up taken =
        let n : ℕ = next_number g m st.came in
        let v' : WorldState = heard_in v x r event n in
        let goes : outcome w n (a.Up x y) ≡ Ok ([], v') =
        up_goes w n x y r at.end (its_router x known) taken_name at.is at.whole down (ap (hub_refuses (s.hub x)) event_is ∙ taken)
        ∙ ap (λ e. Ok ([], heard_in v x r e n)) event_is in
        let sound : IsSound v' = sound_after w (outcome w n (a.Up x y)) ([], v') goes (act_keeps w n (a.Up x y) st.sound) in
        let reach : (q : List ℕ) → end_of v.ends (x, q) ≡ None → link_to (hub_after (s.hub x) event).node.links q ≡ None =
        λ q none. reach_after v v' x r event n (its_router x known) sound refl q (not_up (end_of v'.ends (x, q)) (no_own_end v x r event n q none)) in
        finish g ids m st.came st.sound (a.Up x y) ([], v') (all (a.Up x y)) goes (heard s x event) x (queued_for (s.hub x) event) (append-nil (did g m st.came) ∙ st.deeds)
        (λ z c k i. homes_kept v x r event n homes_then v'.clients refl z c k i)
        (hears ids s v (m.report ++ []) x event n (same_report ids s v m.report (m.report ++ []) (λ q. ap (λ z. messages_to z q) (append-nil m.report)) calm_then) known reach)

  -- ---- the first end

  module _ (weight : ℕ) (apart : is_named x y ≡ false) (anew : (s.links (x, y)).whole ≡ false) (once : link_to (s.hub x).node.links y ≡ None) (gone : link_to (s.hub y).node.links x ≡ None)
      (room : nat_le most_links (length (placed_links ids s)) ≡ false) where
    abbrev u : WorldState
    u = w_link w x y weight

    abbrev made : Ends
    made = put_end w.ends (x, y) (new_end weight)

    abbrev linked : Several
    linked = with_link s x y weight

    not_in_place : is_in_place w.ends (x, y) ≡ false
    not_in_place =
        ap (λ b. b || is_up w.ends (x, y) || is_up w.ends (y, x)) (unbroken_is (end_of w.ends (x, y)) (s.links (x, y)) (st.holds.ends (x, y)) ∙ anew)
        ∙ ap (λ b. b || is_up w.ends (y, x)) (sym (st.sound.links x y r (its_router x known)) ∙ ap is_some once)
        ∙ sym (st.sound.links y x (router_in s y) (its_router y other)) ∙ ap is_some gone

    few : nat_le most_links (length (links_in_place w)) ≡ false
    few = under most_links (length (placed_links ids s)) (length (links_in_place w)) room (places_few ids s w m.report st.sound st.holds)

    end_made : (e : End) → end_of u.ends e ≡ cond (is_end (y, x) e) (Some (new_end weight)) (cond (is_end (x, y) e) (Some (new_end weight)) (end_of w.ends e))
    end_made e = put_end_is made (y, x) (new_end weight) e ∙ ap (cond (is_end (y, x) e) (Some (new_end weight))) (put_end_is w.ends (x, y) (new_end weight) e)

    homes_made : Homes u
    homes_made z c k i = subst (IsHome k z) (sym (end_made (z, c))) (by (is_end (y, x) (z, c)) (is_end (x, y) (z, c)) refl refl)
      where
        by : (b d : Bool) → is_end (y, x) (z, c) ≡ b → is_end (x, y) (z, c) ≡ d → IsHome k z (cond b (Some (new_end weight)) (cond d (Some (new_end weight)) (end_of w.ends (z, c))))
        by true d n n' =
            let same : x ≡ c = ap (λ (e : End). e.1) (same_end (y, x) (z, c) n) in
            absurd (false≢true (sym (no_client x known) ∙ ap (is_client w) same ∙ ap is_some i))
        by false true n n' =
            let same : y ≡ c = ap (λ (e : End). e.1) (same_end (x, y) (z, c) n') in
            absurd (false≢true (sym (no_client y other) ∙ ap (is_client w) same ∙ ap is_some i))
        by false false n n' = st.homes z c k i

    both_ends : {Y : Type 0} (f : Option EndState → Y) (b d : Bool) (o : Option EndState) → f (cond b (Some (new_end weight)) (cond d (Some (new_end weight)) o)) ≡ cond b (f (Some (new_end weight))) (cond d (f (Some (new_end weight))) (f o))
    both_ends f true d o = refl
    both_ends f false true o = refl
    both_ends f false false o = refl

    calm_made : Calm ids linked u m.report
    calm_made = record {
      routers = st.holds.routers;
      clients = st.holds.clients;
      apart = st.holds.apart;
      ends = λ e. ap read (end_made e) ∙ both_ends read (is_end (y, x) e) (is_end (x, y) e) (end_of w.ends e)
          ∙ ap (λ l. cond (is_end (y, x) e) (new_link weight) (cond (is_end (x, y) e) (new_link weight) l)) (st.holds.ends e);
      wires = λ e. ap wire_at (end_made e) ∙ none (is_end (y, x) e) (is_end (x, y) e) (end_of w.ends e) (st.holds.wires e);
      rest = λ z c i. quiet (is_end (y, x) (z, c)) (is_end (x, y) (z, c)) (s.links (z, c)) (st.holds.rest z c i);
      told = st.holds.told;
      came = st.holds.came;
    }
      where
        none : (b d : Bool) (o : Option EndState) → wire_at o ≡ [] → wire_at (cond b (Some (new_end weight)) (cond d (Some (new_end weight)) o)) ≡ []
        none true d o h = refl
        none false true o h = refl
        none false false o h = h

        quiet : (b d : Bool) (l : LinkState) → l.waits ≡ [] → (cond b (new_link weight) (cond d (new_link weight) l)).waits ≡ []
        quiet true d l h = refl
        quiet false true l h = refl
        quiet false false l h = h

    pub link_made : (then : Moment) × Standing g ids linked then
    link_made =
        let n : ℕ = next_number g m st.came in
        let goes : outcome w n (a.Link x y weight) ≡ Ok ([], u) =
        link_goes w n x y weight r (router_in s y) apart (its_router x known) (its_router y other) not_in_place few in (
          then_at m ([], u),
          stand g ids m st.came st.sound (a.Link x y weight) ([], u) (all (a.Link x y weight)) goes linked (append-nil (did g m st.came) ∙ st.deeds) homes_made
              (same_report ids linked u m.report (m.report ++ []) (λ q. ap (λ z. messages_to z q) (append-nil m.report)) calm_made),
        )
