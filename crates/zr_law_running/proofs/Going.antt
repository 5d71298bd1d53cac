-- A link goes down at one end, after it broke where this is the first of its ends (`goes_down`).
use Rattle.std.proofs.Common.{◌≡◌, ℕ, Bool, true, false, cond, List, [], ◌++◌, Option, Some, None, Ok, refl, sym, ap, ◌∙◌, subst, append-nil, eqb-true, ◌∷◌}
use Rattle.std.specs.Prelude.{◌&&◌, ◌||◌, is_some}
use Rattle.std.specs.Option.{option_map, option_map_or}
use Rattle.std.proofs.lemmas.Bool.{false≢true}
use Rattle.zr_id.specs.Zid.{is_named}
use Rattle.zr_id.specs.declared.link.LinkNo.{LinkNo}
use Rattle.zr_lists.proofs.Elements.{each_in}
use Rattle.zr_lists.proofs.Finds.{find_in}
use Rattle.zr_msg.specs.declared.event.Event.{Event}
use Rattle.zr_msg.specs.declared.event.Event.TheVariants.{Down}
use Rattle.zr_msg.specs.declared.msg.Msg.{Msg}
use Rattle.zr_msg.specs.declared.peer.LinkPeer.{LinkPeer}
use Rattle.zr_node_spec.specs.Tables.{is_link, link_at, link_to}
use Rattle.zr_told_spec.specs.Hub.{hub_after, hub_sends, hub_refuses}
use Rattle.zr_script_spec.specs.declared.command.Act.{Act}
use Rattle.zr_script_spec.specs.declared.command.Act.TheVariants as a
use Rattle.zr_script_spec.specs.declared.report.ReportLine.{ReportLine}
use Rattle.zr_world_spec.specs.World.{ClientState, RouterState, EndState, End, WorldState, is_end, router_of, client_of, end_of, changed, broken, lowered, wire_at}
use Rattle.zr_world_spec.specs.Acts.{outcome, sends_to, told_to, number_at, number_to, heard as heard_in}
use Rattle.zr_world_spec.specs.Moments.{Moment, then_at}
use Rattle.zr_world_spec.specs.Sound.{AreUnique, IsSound}
use Rattle.zr_world_spec.proofs.Cases.{w_break, w_down}
use Rattle.zr_world_spec.proofs.Ends.{ends, same_end, changed_is}
use Rattle.zr_world_spec.proofs.Sound.{act_keeps}
use Rattle.zr_law_running.specs.Runs.{Parting, LinkState, Several, with_waits, queued_for, heard, parted, without_link, parting, with_none}
use Rattle.zr_law_running.specs.Allowed.{is_among}
use Rattle.zr_law_running.proofs.Steps.{Span, did, did_more, Came, next_number, one_more, break_goes, down_goes}
use Rattle.zr_law_running.proofs.Holding.{read, router_in, IsHome, Homes, is_client, messages_to, Calm, Pending, home_queued}
use Rattle.zr_law_running.proofs.Hearing.{at_true, at_false, no_own_end, hears, end_kept}
use Rattle.zr_law_running.proofs.Draining.{sound_after, Standing}
use Rattle.zr_law_running.proofs.Coming.{finish, same_report, not_up, reach_after}

-- the link of a number leads to its neighbour
pub number_leads : (links : List LinkPeer) → AreUnique links → (number : LinkNo) (l : LinkPeer) → link_at links number.0 ≡ Some l → (link_to links l.peer.id ≡ Some l) × (l.link ≡ number)
number_leads links unique number l h =
    let i = find_in (λ k. is_link number.0 k) links l h in
    (each_in (λ k. link_to links k.peer.id ≡ Some k) links l unique.names i.0, ap (λ n. record { 0 = n }) (eqb-true l.link.0 number.0 i.1))

-- an end to which a router has a link is there and up
pub record UpEnd (o : Option EndState) : Type 0 where
  pub end : EndState
  pub is : o ≡ Some end
  pub up : end.up ≡ true

pub up_end : (o : Option EndState) → option_map_or (λ s. s.up) o false ≡ true → UpEnd o
up_end None h = absurd (false≢true h)
up_end (Some e) h = record { end = e; is = refl; up = h }

-- a world but for whether the link from x to y is whole, and how the run has it
module _ (ids : List (List ℕ)) (s : Several) (w : WorldState) (report : List ReportLine) (h : Calm ids s w report) (x y : List ℕ) where
  pub twice : (e : End) → end_of (w_break w x y).ends e
      ≡ cond (is_end (y, x) e) (option_map broken (cond (is_end (x, y) e) (option_map broken (end_of w.ends e)) (end_of w.ends e))) (cond (is_end (x, y) e) (option_map broken (end_of w.ends e)) (end_of w.ends e))
  twice e = changed_is (changed w.ends (x, y) broken) (y, x) broken e
      ∙ ap (λ o. cond (is_end (y, x) e) (option_map broken o) o) (changed_is w.ends (x, y) broken e)

  read_broken : (o : Option EndState) → read (option_map broken o) ≡ parted (read o)
  read_broken None = refl
  read_broken (Some e) = refl

  pub calm_broken : Calm ids (without_link s x y) (w_break w x y) report
  calm_broken = record {
    routers = h.routers;
    clients = h.clients;
    apart = h.apart;
    ends = λ e. ap read (twice e) ∙ reads (is_end (y, x) e) (is_end (x, y) e) (end_of w.ends e) (s.links e) (h.ends e);
    wires = λ e. ap wire_at (twice e) ∙ wires (is_end (y, x) e) (is_end (x, y) e) (end_of w.ends e) (h.wires e);
    rest = λ z c i. quiet (is_end (x, y) (z, c) || is_end (y, x) (z, c)) (s.links (z, c)) (h.rest z c i);
    told = h.told;
    came = h.came;
  }
    where
      reads : (b d : Bool) (o : Option EndState) (l : LinkState) → read o ≡ l →
          read (cond b (option_map broken (cond d (option_map broken o) o)) (cond d (option_map broken o) o)) ≡ cond (d || b) (parted l) l
      reads true true o l i = read_broken (option_map broken o) ∙ ap parted (read_broken o) ∙ ap parted i
      reads true false o l i = read_broken o ∙ ap parted i
      reads false true o l i = read_broken o ∙ ap parted i
      reads false false o l i = i

      no_wire : (o : Option EndState) → wire_at (option_map broken o) ≡ []
      no_wire None = refl
      no_wire (Some e) = refl

      wires : (b d : Bool) (o : Option EndState) → wire_at o ≡ [] → wire_at (cond b (option_map broken (cond d (option_map broken o) o)) (cond d (option_map broken o) o)) ≡ []
      wires true d o i = no_wire (cond d (option_map broken o) o)
      wires false true o i = no_wire o
      wires false false o i = i

      quiet : (b : Bool) (l : LinkState) → l.waits ≡ [] → (cond b (parted l) l).waits ≡ []
      quiet true l i = i
      quiet false l i = i

module _ (g : Span) (all : (act : Act) → g.test act ≡ true) (ids : List (List ℕ)) (s : Several) (m : Moment) (came : Came g m) (sound : IsSound m.world) (h : Calm ids s m.world m.report) (x : List ℕ) (known : is_among ids x ≡ true) (y : List ℕ) (l : LinkNo)
    (homes : (z c : List ℕ) (k : ClientState) → client_of m.world.clients c ≡ Some k → is_end (x, y) (z, c) ≡ false → IsHome k z (end_of m.world.ends (z, c)))
    (routers : (c : List ℕ) (k : ClientState) (e : EndState) → client_of m.world.clients c ≡ Some k → y ≡ c → k.router ≡ x)
    (e : EndState) (is : end_of m.world.ends (x, y) ≡ Some e) (up : e.up ≡ true) (parted_now : e.unbroken ≡ false) (number : number_to (router_in s x) y ≡ Ok l) (taken : hub_refuses (s.hub x) (Down l) ≡ None) (done : did g m came ≡ s.deeds) where
  abbrev w : WorldState
  w = m.world

  abbrev r : RouterState
  r = router_in s x

  abbrev event : Event
  event = Down l

  found : router_of w.routers x ≡ Some r
  found = h.routers x ∙ at_true (is_among ids x) (Some (router_in s x)) None known

  abbrev n : ℕ
  n = next_number g m came

  abbrev u : WorldState
  u = heard_in w x r event n

  abbrev d : WorldState
  d = w_down w n x y r l

  goes : outcome w n (a.Down x y) ≡ Ok ([], d)
  goes = down_goes w n x y r e l found (sound.neighbours x y (ap is_some is)) is up parted_now number taken

  sound_then : IsSound d
  sound_then = sound_after w (outcome w n (a.Down x y)) ([], d) goes (act_keeps w n (a.Down x y) sound)

  end_then : (q : End) → end_of d.ends q ≡ cond (is_end (x, y) q) (option_map lowered (end_of u.ends q)) (end_of u.ends q)
  end_then q = changed_is u.ends (x, y) lowered q

  down_there : (o : Option EndState) → option_map_or (λ (z : EndState). z.up) (option_map lowered o) false ≡ false
  down_there None = refl
  down_there (Some z) = refl

  -- no link leads to it any more, nor to whom there was no end
  no_link_now : link_to (hub_after (s.hub x) event).node.links y ≡ None
  no_link_now = reach_after w d x r event n found sound_then refl y
      (ap (λ o. option_map_or (λ (z : EndState). z.up) o false) (end_then (x, y) ∙ at_true (is_end (x, y) (x, y)) (option_map lowered (end_of u.ends (x, y))) (end_of u.ends (x, y)) ends_refl) ∙ down_there (end_of u.ends (x, y)))
    where
      ends_refl : is_end (x, y) (x, y) ≡ true
      ends_refl = ends.refl (x, y)

  reach : (q : List ℕ) → end_of w.ends (x, q) ≡ None → link_to (hub_after (s.hub x) event).node.links q ≡ None
  reach q none = reach_after w d x r event n found sound_then refl q (not_up (end_of d.ends (x, q)) (end_then (x, q) ∙ by (is_end (x, y) (x, q)) (end_of u.ends (x, q)) (no_own_end w x r event n q none)))
    where
      by : (b : Bool) (o : Option EndState) → o ≡ None → cond b (option_map lowered o) o ≡ None
      by true o i = ap (option_map lowered) i
      by false o i = i

  abbrev then : Several
  then = heard s x event

  abbrev more : List ℕ → List Msg
  more q = queued_for (s.hub x) event q

  pending : Pending ids then x more u (m.report ++ [])
  pending = hears ids s w (m.report ++ []) x event n (same_report ids s w m.report (m.report ++ []) (λ q. ap (λ z. messages_to z q) (append-nil m.report)) h) known reach

  none_now : more y ≡ []
  none_now = ap (λ o. option_map_or (λ k. hub_sends (s.hub x) event k.link) o []) no_link_now

  read_lowered : (o : Option EndState) → read (option_map lowered o) ≡ with_waits (read o) []
  read_lowered None = refl
  read_lowered (Some z) = refl

  wire_lowered : (o : Option EndState) → wire_at (option_map lowered o) ≡ wire_at o
  wire_lowered None = refl
  wire_lowered (Some z) = refl

  abbrev last : Several
  last = with_none then (x, y)

  ends_last : (q : End) → read (end_of d.ends q) ≡ cond (is_named x q.0 && is_client d q.1) (with_waits (last.links q) (more q.1)) (last.links q)
  ends_last q = ap read (end_then q) ∙ by (is_end (x, y) q) refl
    where
      by : (b : Bool) → is_end (x, y) q ≡ b → read (cond b (option_map lowered (end_of u.ends q)) (end_of u.ends q))
          ≡ cond (is_named x q.0 && is_client d q.1) (with_waits (cond b (with_waits (then.links (x, y)) []) (then.links q)) (more q.1)) (cond b (with_waits (then.links (x, y)) []) (then.links q))
      by true i =
          let same : (x, y) ≡ q = same_end (x, y) q i in
          let none : more q.1 ≡ [] = ap (λ (z : End). more z.1) (sym same) ∙ none_now in
          read_lowered (end_of u.ends q) ∙ ap (λ z. with_waits z []) (pending.ends q) ∙ at (is_named x q.0 && is_client d q.1) (more q.1) none (ap then.links (sym same))
        where
          at : (b : Bool) (ms : List Msg) → ms ≡ [] → then.links q ≡ then.links (x, y) →
              with_waits (cond b (with_waits (then.links q) ms) (then.links q)) [] ≡ cond b (with_waits (with_waits (then.links (x, y)) []) ms) (with_waits (then.links (x, y)) [])
          at true ms none j = ap (λ l. with_waits l []) j ∙ ap (with_waits (then.links (x, y))) (sym none)
          at false ms none j = ap (λ l. with_waits l []) j
      by false i = pending.ends q

  pending_last : Pending ids last x more d (m.report ++ [])
  pending_last = record {
    routers = pending.routers;
    known = known;
    clients = pending.clients;
    apart = pending.apart;
    ends = ends_last;
    wires = λ q. ap wire_at (end_then q) ∙ wires (is_end (x, y) q) (end_of u.ends q) (pending.wires q);
    rest = λ z c i. quiet (then.links (z, c)) (is_end (x, y) (z, c)) (pending.rest z c i);
    told = pending.told;
    only = pending.only;
    came = pending.came;
  }
    where
      wires : (b : Bool) (o : Option EndState) → wire_at o ≡ [] → wire_at (cond b (option_map lowered o) o) ≡ []
      wires true o i = wire_lowered o ∙ i
      wires false o i = i

      quiet : (k : LinkState) (b : Bool) → k.waits ≡ [] → (cond b (with_waits (then.links (x, y)) []) k).waits ≡ []
      quiet k true i = refl
      quiet k false i = i

  homes_last : Homes d
  homes_last z c k i = subst (IsHome k z) (sym (end_then (z, c))) (by (is_end (x, y) (z, c)) refl)
    where
      low : (o : Option EndState) → k.router ≡ z → IsHome k z (option_map lowered o)
      low None j = tt
      low (Some v) j = (j, λ no. absurd (false≢true no))

      by : (b : Bool) → is_end (x, y) (z, c) ≡ b → IsHome k z (cond b (option_map lowered (end_of u.ends (z, c))) (end_of u.ends (z, c)))
      by true j =
          let same : (x, y) ≡ (z, c) = same_end (x, y) (z, c) j in
          low (end_of u.ends (z, c)) (routers c k e i (ap (λ (q : End). q.1) same) ∙ ap (λ (q : End). q.0) same)
      by false j = end_kept w x r event n (λ q. IsHome k q.0) (λ q o. home_queued (sends_to r.node event q.1) (told_to r event q.1) n k q.0 o) (z, c) (homes z c k i j)

  pub last_down : (after : Moment) × Standing g ids last after
  last_down = finish g ids m came sound (a.Down x y) ([], d) (all (a.Down x y)) goes last x more (append-nil (did g m came) ∙ done) homes_last pending_last

-- a link that is up goes down
pub goes_down : (g : Span) → ((act : Act) → g.test act ≡ true) → (ids : List (List ℕ)) (s : Several) (m : Moment) → Standing g ids s m → (x : List ℕ) → is_among ids x ≡ true → (number : LinkNo) (l : LinkPeer) → link_at (s.hub x).node.links number.0 ≡ Some l →
    hub_refuses (s.hub x) (Down number) ≡ None → (after : Moment) × Standing g ids (with_none (heard (parting s x l.peer.id) x (Down number)) (x, l.peer.id)) after
goes_down g all ids s m st x known number l there taken = by (s.links (x, y)).whole refl
  where
    y : List ℕ
    y = l.peer.id

    r : RouterState
    r = router_in s x

    found : router_of m.world.routers x ≡ Some r
    found = st.holds.routers x ∙ at_true (is_among ids x) (Some (router_in s x)) None known

    leads : (link_to r.node.links y ≡ Some l) × (l.link ≡ number)
    leads = number_leads r.node.links (st.sound.unique x r found) number l there

    number_is : number_to r y ≡ Ok number
    number_is = ap number_at leads.0 ∙ ap Ok leads.1

    at : UpEnd (end_of m.world.ends (x, y))
    at = up_end (end_of m.world.ends (x, y)) (sym (st.sound.links x y r found) ∙ ap is_some leads.0)

    its_home : (c : List ℕ) (k : ClientState) → client_of m.world.clients c ≡ Some k → y ≡ c → k.router ≡ x
    its_home c k i same =
        let home : IsHome k x (Some at.end) = subst (IsHome k x) (ap (λ z. end_of m.world.ends (x, z)) (sym same) ∙ at.is) (st.homes x c k i) in
        home.0

    whole_is : at.end.unbroken ≡ (s.links (x, y)).whole
    whole_is = sym (ap (λ o. (read o).whole) at.is) ∙ ap (λ (z : LinkState). z.whole) (st.holds.ends (x, y))

    both : Bool → Bool → Option EndState → Option EndState
    both b d o = cond b (option_map broken (cond d (option_map broken o) o)) (cond d (option_map broken o) o)

    one_break : (b : Bool) (o : Option EndState) → both b true o ≡ option_map broken o
    one_break true None = refl
    one_break true (Some e) = refl
    one_break false o = refl

    elsewhere : (z c : List ℕ) (k : ClientState) → client_of m.world.clients c ≡ Some k → (b : Bool) → is_end (y, x) (z, c) ≡ b → b ≡ false
    elsewhere z c k i false e = refl
    elsewhere z c k i true e =
        let same : x ≡ c = ap (λ (q : End). q.1) (same_end (y, x) (z, c) e) in
        absurd (false≢true (sym (st.holds.apart c (ap is_some i)) ∙ ap (is_among ids) (sym same) ∙ known))

    by : (b : Bool) → (s.links (x, y)).whole ≡ b → (after : Moment) × Standing g ids (with_none (heard (cond b (without_link s x y) s) x (Down number)) (x, y)) after
    by true whole =
        let n : ℕ = next_number g m st.came in
        let u : WorldState = w_break m.world x y in
        let goes : outcome m.world n (a.Break x y) ≡ Ok ([], u) = break_goes m.world n x y r at.end found (st.sound.neighbours x y (ap is_some at.is)) at.is (whole_is ∙ whole) in
        let middle : Moment = then_at m ([], u) in
        let own : end_of u.ends (x, y) ≡ Some (broken at.end) =
        twice ids s m.world m.report st.holds x y (x, y)
        ∙ ap (λ b. both (is_end (y, x) (x, y)) b (end_of m.world.ends (x, y))) (ends.refl (x, y)) ∙ one_break (is_end (y, x) (x, y)) (end_of m.world.ends (x, y)) ∙ ap (option_map broken) at.is in
        last_down g all ids (without_link s x y) middle (one_more g m st.came (a.Break x y) ([], u) (all (a.Break x y)) goes)
        (sound_after m.world (outcome m.world n (a.Break x y)) ([], u) goes (act_keeps m.world n (a.Break x y) st.sound))
        (same_report ids (without_link s x y) u m.report (m.report ++ []) (λ q. ap (λ z. messages_to z q) (append-nil m.report)) (calm_broken ids s m.world m.report st.holds x y))
        x known y number (λ z c k i apart. subst (IsHome k z) (sym (twice ids s m.world m.report st.holds x y (z, c)
        ∙ ap (λ b. both (is_end (y, x) (z, c)) b (end_of m.world.ends (z, c))) apart ∙ at_false (is_end (y, x) (z, c)) (option_map broken (end_of m.world.ends (z, c))) (end_of m.world.ends (z, c)) (elsewhere z c k i (is_end (y, x) (z, c)) refl))) (st.homes z c k i)) (λ c k e i same. its_home c k i same) (broken at.end) own at.up refl number_is taken
        (did_more g m st.came (a.Break x y) ([], u) (all (a.Break x y)) goes ∙ ap (λ z. z ++ Parting x y ∷ []) st.deeds)
    by false parted_now =
        last_down g all ids s m st.came st.sound st.holds x known y number (λ z c k i apart. st.homes z c k i) (λ c k e i same. its_home c k i same) at.end at.is at.up (whole_is ∙ parted_now) number_is taken st.deeds
