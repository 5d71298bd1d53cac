-- What an accepted act by which a router hears of an event comes to (`finish`), and a client that comes to a router (`client_comes`).
use Rattle.std.proofs.Common.{◌≡◌, ℕ, Bool, true, false, cond, List, [], ◌++◌, length, Option, Some, None, Ok, refl, sym, ap, ◌∙◌, subst, arith, append-nil, ◌∷◌}
use Rattle.std.specs.Prelude.{◌||◌, nat_le, is_some}
use Rattle.std.specs.Ordering.{nat_cmp}
use Rattle.std.specs.Cmp.Lexicographic.{slice_cmp}
use Rattle.std.specs.BTreeMap.{insert_entry}
use Rattle.std.proofs.lemmas.Bool.{false≢true, and_parts}
use Rattle.std.specs.List.{cons_option}
use Rattle.zr_id.specs.Zid.{is_named}
use Rattle.zr_msg.specs.declared.event.Event.{Event}
use Rattle.zr_msg.specs.declared.msg.Msg.{Msg}
use Rattle.zr_msg.specs.declared.peer.Role.TheVariants as role
use Rattle.zr_node_spec.specs.Tables.{link_to}
use Rattle.zr_told_spec.specs.Hub.{hub_after, hub_refuses}
use Rattle.zr_script_spec.specs.declared.command.Act.{Act}
use Rattle.zr_script_spec.specs.declared.command.Act.TheVariants as a
use Rattle.zr_script_spec.specs.declared.report.ReportLine.{ReportLine}
use Rattle.zr_world_spec.specs.World.{Tagged, ClientState, RouterState, EndState, End, WorldState, is_end, is_taken, is_up, router_of, client_of, end_of, put_end, with_ends, with_clients, new_client, new_end, lifted, most_clients, wire_at}
use Rattle.zr_world_spec.specs.Acts.{outcome, having_told, up_event, heard as heard_in}
use Rattle.zr_world_spec.specs.Moments.{Moment, then_at}
use Rattle.zr_world_spec.specs.Sound.{IsSound}
use Rattle.zr_world_spec.proofs.Cases.{w_client}
use Rattle.zr_world_spec.proofs.Ends.{same_end, end_parts, put_end_is, read_put_end}
use Rattle.zr_world_spec.proofs.Fits.{up_of}
use Rattle.zr_world_spec.proofs.Names.{names, same_name, value_new}
use Rattle.zr_world_spec.proofs.Sound.{act_keeps}
use Rattle.zr_lists.proofs.Entries.{length_inserted}
use Rattle.zr_law_running.specs.Runs.{Arrival, Several, new_link, queued_for, heard, with_client}
use Rattle.zr_law_running.specs.Deeds.{deed_of}
use Rattle.zr_law_running.specs.Allowed.{is_among}
use Rattle.zr_law_running.proofs.Steps.{Span, Came, did, did_more, next_number, one_more, client_goes}
use Rattle.zr_law_running.proofs.Holding.{read, router_in, IsHome, Homes, is_client, messages_to, Calm, Pending}
use Rattle.zr_law_running.proofs.Hearing.{at_true, at_false, own_router_is, no_own_end, no_link_to, homes_kept, hears}
use Rattle.zr_law_running.proofs.Draining.{sound_after, Standing, drained}
use Rattle.zr_law_running.proofs.Counting.{under}

-- an act is accepted, and what it leaves for the clients of a router is taken
pub finish : (g : Span) (ids : List (List ℕ)) (m : Moment) (c : Came g m) → IsSound m.world → (act : Act) (x : List ReportLine × WorldState) → g.test act ≡ true → outcome m.world (next_number g m c) act ≡ Ok x →
    (s : Several) (router : List ℕ) (pend : List ℕ → List Msg) → did g m c ++ cons_option (deed_of act) [] ≡ s.deeds → Homes x.1 → Pending ids s router pend x.1 (m.report ++ x.0) → (then : Moment) × Standing g ids s then
finish g ids m c sound act x may goes s router pend done homes holds = drained g ids s router pend (then_at m x) (record {
  came = one_more g m c act x may goes;
  deeds = did_more g m c act x may goes ∙ done;
  sound = sound_after m.world (outcome m.world (next_number g m c) act) x goes (act_keeps m.world (next_number g m c) act sound);
  homes = homes;
  holds = holds;
})

-- an act is accepted after which nothing waits for clients
pub stand : (g : Span) (ids : List (List ℕ)) (m : Moment) (c : Came g m) → IsSound m.world → (act : Act) (x : List ReportLine × WorldState) → g.test act ≡ true → outcome m.world (next_number g m c) act ≡ Ok x →
    (s : Several) → did g m c ++ cons_option (deed_of act) [] ≡ s.deeds → Homes x.1 → Calm ids s x.1 (m.report ++ x.0) → Standing g ids s (then_at m x)
stand g ids m c sound act x may goes s done homes holds = record {
  came = one_more g m c act x may goes;
  deeds = did_more g m c act x may goes ∙ done;
  sound = sound_after m.world (outcome m.world (next_number g m c) act) x goes (act_keeps m.world (next_number g m c) act sound);
  homes = homes;
  holds = holds;
}

-- what holds with a report holds with one that says as much
pub same_report : (ids : List (List ℕ)) (s : Several) (w : WorldState) (report more : List ReportLine) → ((q : List ℕ) → messages_to more q ≡ messages_to report q) → Calm ids s w report → Calm ids s w more
same_report ids s w report more same h = record {
  routers = h.routers;
  clients = h.clients;
  apart = h.apart;
  ends = h.ends;
  wires = h.wires;
  rest = h.rest;
  told = λ c apart. same c ∙ h.told c apart;
  came = h.came;
}

-- an end that is not there is not up
pub not_up : (o : Option EndState) → o ≡ None → up_of o ≡ false
not_up o e = ap up_of e

-- whom a router that has heard of an event has no end to, it has no link to
pub reach_after : (v w : WorldState) (x : List ℕ) (r : RouterState) (event : Event) (tag : ℕ) → router_of v.routers x ≡ Some r → IsSound w → w.routers ≡ (heard_in v x r event tag).routers →
    (q : List ℕ) → is_up w.ends (x, q) ≡ false → link_to (having_told r event).node.links q ≡ None
reach_after v w x r event tag found sound same q down =
    no_link_to w sound x q (having_told r event) (ap (λ z. router_of z x) same ∙ own_router_is v x r event tag found) down

module _ (g : Span) (ids : List (List ℕ)) (s : Several) (m : Moment) (st : Standing g ids s m) (x : List ℕ) (known : is_among ids x ≡ true) where
  abbrev w : WorldState
  w = m.world

  abbrev r : RouterState
  r = router_in s x

  pub found : router_of w.routers x ≡ Some r
  found = st.holds.routers x ∙ at_true (is_among ids x) (Some (router_in s x)) None known

  -- ---- a client comes

  module _ (c : List ℕ) (fresh : s.clients c ≡ None) (apart : is_among ids c ≡ false) (room : nat_le most_clients s.came ≡ false) where
    abbrev event : Event
    event = up_event r (record { id = c; role = role.Client; weight = 1 })

    no_client : client_of w.clients c ≡ None
    no_client = st.holds.clients c ∙ fresh

    free : is_taken w c ≡ false
    free = ap (λ o. is_some o || is_client w c) (st.holds.routers c ∙ at_false (is_among ids c) (Some (router_in s c)) None apart) ∙ ap is_some no_client

    -- nobody has an end to it yet
    no_end : (y : List ℕ) → end_of w.ends (y, c) ≡ None
    no_end y = by (end_of w.ends (y, c)) refl
      where
        by : (o : Option EndState) → end_of w.ends (y, c) ≡ o → o ≡ None
        by None e = refl
        by (Some z) e = absurd (false≢true (sym free ∙ st.sound.neighbours y c (ap is_some e)))

    abbrev v : WorldState
    v = with_clients (with_ends w (put_end w.ends (x, c) (lifted (new_end 1)))) (insert_entry (slice_cmp nat_cmp) w.clients c (new_client x))

    abbrev with_it : Several
    with_it = with_client s x c

    client_then : (q : List ℕ) → client_of v.clients q ≡ cond (is_named c q) (Some (new_client x)) (client_of w.clients q)
    client_then q = value_new w.clients c q (new_client x) no_client ∙ ap (λ b. cond b (Some (new_client x)) (client_of w.clients q)) (names.symm q c)

    homes_then : Homes v
    homes_then y q k e = by (is_named c q) refl (sym (client_then q) ∙ e)
      where
        old : IsHome k y (end_of w.ends (y, q)) → (IsHome k y (end_of w.ends (y, q)) → is_end (x, c) (y, q) ≡ true → k.router ≡ y) → IsHome k y (end_of v.ends (y, q))
        old i at = subst (IsHome k y) (sym (put_end_is w.ends (x, c) (lifted (new_end 1)) (y, q))) (one (is_end (x, c) (y, q)) refl)
          where
            one : (b : Bool) → is_end (x, c) (y, q) ≡ b → IsHome k y (cond b (Some (lifted (new_end 1))) (end_of w.ends (y, q)))
            one true n = (at i n, λ up. refl)
            one false n = i

        by : (b : Bool) → is_named c q ≡ b → cond b (Some (new_client x)) (client_of w.clients q) ≡ Some k → IsHome k y (end_of v.ends (y, q))
        by true n i =
            let none : end_of w.ends (y, q) ≡ None = ap (λ z. end_of w.ends (y, z)) (sym (same_name c q n)) ∙ no_end y in
            let is : new_client x ≡ k = cc in
            old (subst (IsHome k y) (sym none) tt) (λ j e. sym (ap (λ (z : ClientState). z.router) is) ∙ ap (λ (z : End). z.0) (same_end (x, c) (y, q) e))
        by false n i = old (st.homes y q k i) (λ j e. absurd (false≢true (sym n ∙ (and_parts (is_named x y) (is_named c q) (sym (end_parts (x, c) (y, q)) ∙ e)).1)))

    ends_then : (e : End) → read (end_of v.ends e) ≡ with_it.links e
    ends_then e = read_put_end w.ends (x, c) (lifted (new_end 1)) read e ∙ ap (cond (is_end (x, c) e) (new_link 1)) (st.holds.ends e)

    rest_then : (y q : List ℕ) → is_client v q ≡ true → (with_it.links (y, q)).waits ≡ []
    rest_then y q i = by (is_end (x, c) (y, q)) (is_named c q) refl
      where
        by : (b d : Bool) → is_named c q ≡ d → (cond b (new_link 1) (s.links (y, q))).waits ≡ []
        by true d n = refl
        by false true n =
            let none : end_of w.ends (y, q) ≡ None = ap (λ z. end_of w.ends (y, z)) (sym (same_name c q n)) ∙ no_end y in
            ap (λ l. l.waits) (sym (st.holds.ends (y, q)) ∙ ap read none)
        by false false n = st.holds.rest y q (ap is_some (sym (client_then q ∙ at_false (is_named c q) (Some (new_client x)) (client_of w.clients q) n)) ∙ i)

    calm_then : Calm ids with_it v m.report
    calm_then = record {
      routers = st.holds.routers;
      clients = λ q. client_then q ∙ ap (cond (is_named c q) (Some (new_client x))) (st.holds.clients q);
      apart = apart_then;
      ends = ends_then;
      wires = λ e. read_put_end w.ends (x, c) (lifted (new_end 1)) wire_at e ∙ none (is_end (x, c) e) (wire_at (end_of w.ends e)) (st.holds.wires e);
      rest = rest_then;
      told = st.holds.told;
      came = omega (arith, length_inserted (slice_cmp nat_cmp) w.clients c (new_client x), st.holds.came);
    }
      where
        none : (b : Bool) (ts : List Tagged) → ts ≡ [] → cond b [] ts ≡ []
        none true ts i = refl
        none false ts i = i

        apart_then : (q : List ℕ) → is_client v q ≡ true → is_among ids q ≡ false
        apart_then q i = by (is_named c q) refl
          where
            by : (b : Bool) → is_named c q ≡ b → is_among ids q ≡ false
            by true n = ap (is_among ids) (sym (same_name c q n)) ∙ apart
            by false n = st.holds.apart q (ap is_some (sym (client_then q ∙ at_false (is_named c q) (Some (new_client x)) (client_of w.clients q) n)) ∙ i)

    pub client_comes : ((act : Act) → g.test act ≡ true) → hub_refuses (s.hub x) event ≡ None → (then : Moment) × Standing g ids (heard with_it x event) then
    client_comes all taken =
        let n : ℕ = next_number g m st.came in
        let goes : outcome w n (a.Client c x) ≡ Ok ([], w_client w n c x r) =
        client_goes w n c x r found free (under most_clients s.came (length w.clients) room st.holds.came) taken in
        let sound : IsSound (w_client w n c x r) = sound_after w (outcome w n (a.Client c x)) ([], w_client w n c x r) goes (act_keeps w n (a.Client c x) st.sound) in
        let reach : (q : List ℕ) → end_of v.ends (x, q) ≡ None → link_to (hub_after (s.hub x) event).node.links q ≡ None =
        λ q none. reach_after v (w_client w n c x r) x r event n found sound refl q (not_up (end_of (w_client w n c x r).ends (x, q)) (no_own_end v x r event n q none)) in
        finish g ids m st.came st.sound (a.Client c x) ([], w_client w n c x r) (all (a.Client c x)) goes (heard with_it x event) x (queued_for (s.hub x) event) (ap (λ z. z ++ Arrival c x ∷ []) st.deeds)
        (λ y q k i. homes_kept v x r event n homes_then (w_client w n c x r).clients refl y q k i)
        (hears ids with_it v (m.report ++ []) x event n (same_report ids with_it v m.report (m.report ++ []) (λ q. ap (λ z. messages_to z q) (append-nil m.report)) calm_then) known reach)
