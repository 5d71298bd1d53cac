-- A router hears of a message that another router has queued for it (`router_brings`).
use Rattle.std.proofs.Common.{◌≡◌, ℕ, ◌≤◌, Bool, true, false, cond, List, [], ◌∷◌, ◌++◌, length, Option, Some, None, Ok, refl, sym, ap, ◌∙◌, subst, append-nil}
use Rattle.std.specs.Prelude.{is_some}
use Rattle.std.specs.Option.{option_map, option_map_or}
use Rattle.std.proofs.lemmas.Bool.{false≢true, or_left}
use Rattle.zr_id.specs.Zid.{is_named}
use Rattle.zr_id.specs.declared.link.LinkNo.{LinkNo}
use Rattle.zr_msg.specs.declared.event.Event.TheVariants.{From}
use Rattle.zr_msg.specs.declared.msg.Msg.{Msg}
use Rattle.zr_node_spec.specs.Tables.{link_to}
use Rattle.zr_told_spec.specs.Hub.{hub_refuses}
use Rattle.zr_script_spec.specs.declared.command.Act.TheVariants as a
use Rattle.zr_script_spec.specs.declared.report.ReportLine.{ReportLine}
use Rattle.zr_script_spec.specs.declared.report.ReportLine.TheVariants.{Taken}
use Rattle.zr_world_spec.specs.World.{Tagged, ClientState, EndState, End, Ends, WorldState, is_end, router_of, client_of, end_of, with_end, with_ends, with_wire, with_queue, sent, wire_at}
use Rattle.zr_world_spec.specs.Acts.{outcome, number_to, received}
use Rattle.zr_world_spec.specs.Moments.{Moment, then_at}
use Rattle.zr_world_spec.proofs.Cases.{w_take}
use Rattle.zr_world_spec.proofs.Ends.{ends as ends_refl, same_end, end_turned, with_end_is, changed_is}
use Rattle.zr_world_spec.proofs.Names.{names, same_name}
use Rattle.zr_world_spec.proofs.Sound.{act_keeps}
use Rattle.zr_law_running.specs.Runs.{LinkState, Several, with_waits, heard, behind_first, taking}
use Rattle.zr_law_running.specs.Allowed.{is_among}
use Rattle.zr_law_running.proofs.Steps.{Span, did, did_more, next_number, one_more, take_goes}
use Rattle.zr_law_running.proofs.Holding.{read, router_in, IsHome, Homes, is_client, messages_to, Calm}
use Rattle.zr_law_running.proofs.Hearing.{at_true}
use Rattle.zr_law_running.proofs.Draining.{Front, front_of, sound_after, told_more, Standing}
use Rattle.zr_law_running.proofs.Going.{UpEnd, up_end}
use Rattle.zr_law_running.proofs.Handling.{handled}

-- ---- a message of another router is taken and handled

module _ (g : Span) (ids : List (List ℕ)) (s : Several) (m : Moment) (st : Standing g ids s m) (x y : List ℕ) (known : is_among ids x ≡ true) (other : is_among ids y ≡ true) (l : LinkNo) (msg : Msg) (rest : List Msg)
    (waits : (s.links (y, x)).waits ≡ msg ∷ rest) (whole : (s.links (y, x)).whole ≡ true) (up_there : is_some (link_to (s.hub y).node.links x) ≡ true) (up_here : is_some (link_to (s.hub x).node.links y) ≡ true)
    (number : number_to (router_in s x) y ≡ Ok l) (taken : hub_refuses (s.hub x) (From l msg) ≡ None) where
  abbrev w : WorldState
  w = m.world

  its_router : (q : List ℕ) → is_among ids q ≡ true → router_of w.routers q ≡ Some (router_in s q)
  its_router q i = st.holds.routers q ∙ at_true (is_among ids q) (Some (router_in s q)) None i

  no_client : (q : List ℕ) → is_among ids q ≡ true → (b : Bool) → is_client w q ≡ b → b ≡ false
  no_client q i false e = refl
  no_client q i true e = absurd (false≢true (sym (st.holds.apart q e) ∙ i))

  front : Front (end_of w.ends (y, x)) msg rest
  front = front_of (end_of w.ends (y, x)) msg rest (ap (λ l. l.waits) (st.holds.ends (y, x)) ∙ waits)

  there_up : front.end.up ≡ true
  there_up = sym (ap (λ o. option_map_or (λ (z : EndState). z.up) o false) front.is) ∙ sym (st.sound.links y x (router_in s y) (its_router y other)) ∙ up_there

  there_whole : front.end.unbroken ≡ true
  there_whole = sym (ap (λ o. (read o).whole) front.is) ∙ ap (λ (z : LinkState). z.whole) (st.holds.ends (y, x)) ∙ whole

  here : UpEnd (end_of w.ends (x, y))
  here = up_end (end_of w.ends (x, y)) (sym (st.sound.links x y (router_in s x) (its_router x known)) ∙ up_here)

  apart : is_named y x ≡ false
  apart = st.sound.apart y x (ap is_some front.is)

  abbrev t : Tagged
  t = front.first

  abbrev lines : List ReportLine
  lines = Taken y x t.msg t.tag ∷ []

  abbrev u : WorldState
  u = w_take w y x front.end t.msg t.tag front.others

  goes : outcome w (next_number g m st.came) (a.Take y x) ≡ Ok (lines, u)
  goes = take_goes w (next_number g m st.came) y x (router_in s y) front.end t front.others (its_router y other)
      (or_left (is_some (router_of w.routers x)) (is_client w x) (ap is_some (its_router x known))) front.is there_up there_whole front.queue

  abbrev middle : Moment
  middle = then_at m (lines, u)

  -- no client was sent it
  same_clients : u.clients ≡ w.clients
  same_clients = by (client_of w.clients x) refl
    where
      by : (o : Option ClientState) → client_of w.clients x ≡ o → received w.clients x t.msg o ≡ w.clients
      by None e = refl
      by (Some k) e = absurd (false≢true (sym (no_client x known (is_client w x) refl) ∙ ap is_some e))

  abbrev taken_off : Ends
  taken_off = with_end w.ends (y, x) (with_queue front.end front.others)

  end_then : (q : End) → end_of u.ends q
      ≡ cond (is_end (x, y) q) (option_map (λ e. sent e t.msg t.tag) (cond (is_end (y, x) q) (Some (with_queue front.end front.others)) (end_of w.ends q))) (cond (is_end (y, x) q) (Some (with_queue front.end front.others)) (end_of w.ends q))
  end_then q = changed_is taken_off (x, y) (λ e. sent e t.msg t.tag) q
      ∙ ap (λ o. cond (is_end (x, y) q) (option_map (λ e. sent e t.msg t.tag) o) o) (with_end_is w.ends (y, x) (with_queue front.end front.others) q (ap is_some front.is))

  abbrev mine : EndState
  mine = sent here.end t.msg t.tag

  own_then : end_of u.ends (x, y) ≡ Some mine
  own_then = end_then (x, y)
      ∙ ap (λ b. cond b (option_map (λ e. sent e t.msg t.tag) (cond (is_end (y, x) (x, y)) (Some (with_queue front.end front.others)) (end_of w.ends (x, y)))) (cond (is_end (y, x) (x, y)) (Some (with_queue front.end front.others)) (end_of w.ends (x, y)))) (ends_refl.refl (x, y))
      ∙ ap (λ b. option_map (λ e. sent e t.msg t.tag) (cond b (Some (with_queue front.end front.others)) (end_of w.ends (x, y)))) (end_turned y x apart)
      ∙ ap (option_map (λ e. sent e t.msg t.tag)) here.is

  wire_then : mine.wire ≡ t ∷ []
  wire_then = ap (λ z. z ++ t ∷ []) (ap wire_at (sym here.is) ∙ st.holds.wires (x, y))

  abbrev v : WorldState
  v = with_ends u (with_end u.ends (x, y) (with_wire mine []))

  -- the two ends then
  end_last : (q : End) → end_of v.ends q ≡ cond (is_end (x, y) q) (Some (with_wire mine [])) (cond (is_end (y, x) q) (Some (with_queue front.end front.others)) (end_of w.ends q))
  end_last q = with_end_is u.ends (x, y) (with_wire mine []) q (ap is_some own_then) ∙ ap (cond (is_end (x, y) q) (Some (with_wire mine []))) (end_then q) ∙ by (is_end (x, y) q)
    where
      by : (b : Bool) → cond b (Some (with_wire mine [])) (cond b (option_map (λ e. sent e t.msg t.tag) (cond (is_end (y, x) q) (Some (with_queue front.end front.others)) (end_of w.ends q))) (cond (is_end (y, x) q) (Some (with_queue front.end front.others)) (end_of w.ends q)))
          ≡ cond b (Some (with_wire mine [])) (cond (is_end (y, x) q) (Some (with_queue front.end front.others)) (end_of w.ends q))
      by true = refl
      by false = refl

  abbrev left : Several
  left = taking s (y, x)

  reads : (q : End) → read (end_of v.ends q) ≡ left.links q
  reads q = ap read (end_last q) ∙ by (is_end (x, y) q) (is_end (y, x) q) refl refl
    where
      own : read (Some (with_wire mine [])) ≡ s.links (x, y)
      own = ap read (sym here.is) ∙ st.holds.ends (x, y)

      theirs : read (Some (with_queue front.end front.others)) ≡ with_waits (s.links (y, x)) (behind_first (s.links (y, x)).waits)
      theirs = ap (with_waits (read (Some front.end))) front.more ∙ ap (λ l. with_waits l rest) (ap read (sym front.is) ∙ st.holds.ends (y, x)) ∙ ap (λ z. with_waits (s.links (y, x)) (behind_first z)) (sym waits)

      by : (b d : Bool) → is_end (x, y) q ≡ b → is_end (y, x) q ≡ d → read (cond b (Some (with_wire mine [])) (cond d (Some (with_queue front.end front.others)) (end_of w.ends q)))
          ≡ cond d (with_waits (s.links (y, x)) (behind_first (s.links (y, x)).waits)) (s.links q)
      by true true i j =
          let same : y ≡ x = ap (λ (z : End). z.0) (same_end (y, x) q j ∙ sym (same_end (x, y) q i)) in
          absurd (false≢true (sym apart ∙ ap (is_named y) (sym same) ∙ names.refl y))
      by true false i j = own ∙ ap s.links (same_end (x, y) q i)
      by false true i j = theirs
      by false false i j = st.holds.ends q

  quiet : (q : End) → wire_at (end_of v.ends q) ≡ []
  quiet q = ap wire_at (end_last q) ∙ by (is_end (x, y) q) (is_end (y, x) q)
    where
      by : (b d : Bool) → wire_at (cond b (Some (with_wire mine [])) (cond d (Some (with_queue front.end front.others)) (end_of w.ends q))) ≡ []
      by true d = refl
      by false true = ap wire_at (sym front.is) ∙ st.holds.wires (y, x)
      by false false = st.holds.wires q

  homes_last : Homes v
  homes_last z c k i = subst (IsHome k z) (sym (end_last (z, c))) (by (is_end (x, y) (z, c)) (is_end (y, x) (z, c)) refl refl)
    where
      old : client_of w.clients c ≡ Some k
      old = ap (λ cs. client_of cs c) (sym same_clients) ∙ i

      by : (b d : Bool) → is_end (x, y) (z, c) ≡ b → is_end (y, x) (z, c) ≡ d → IsHome k z (cond b (Some (with_wire mine [])) (cond d (Some (with_queue front.end front.others)) (end_of w.ends (z, c))))
      by true d e f =
          let same : y ≡ c = ap (λ (q : End). q.1) (same_end (x, y) (z, c) e) in
          absurd (false≢true (sym (no_client y other (is_client w y) refl) ∙ ap (is_client w) same ∙ ap is_some old))
      by false true e f =
          let same : x ≡ c = ap (λ (q : End). q.1) (same_end (y, x) (z, c) f) in
          absurd (false≢true (sym (no_client x known (is_client w x) refl) ∙ ap (is_client w) same ∙ ap is_some old))
      by false false e f = st.homes z c k old

  calm_last : Calm ids left v (m.report ++ lines)
  calm_last = record {
    routers = st.holds.routers;
    clients = λ c. ap (λ cs. client_of cs c) same_clients ∙ st.holds.clients c;
    apart = λ c i. st.holds.apart c (ap (λ cs. is_some (client_of cs c)) (sym same_clients) ∙ i);
    ends = reads;
    wires = quiet;
    rest = λ z c i. rest_of z c (ap (λ cs. is_some (client_of cs c)) (sym same_clients) ∙ i) (is_end (y, x) (z, c)) refl;
    told = λ c alone. told_more m.report y x t.msg t.tag c ∙ ap (λ b. messages_to m.report c ++ cond b (t.msg ∷ []) []) (not_x c alone (is_named c x) refl) ∙ append-nil (messages_to m.report c) ∙ st.holds.told c alone;
    came = subst (λ cs. length cs ≤ s.came) (sym same_clients) st.holds.came;
  }
    where
      not_x : (c : List ℕ) → is_among ids c ≡ false → (b : Bool) → is_named c x ≡ b → b ≡ false
      not_x c alone false e = refl
      not_x c alone true e = absurd (false≢true (sym alone ∙ ap (is_among ids) (same_name c x e) ∙ known))

      rest_of : (z c : List ℕ) → is_client w c ≡ true → (b : Bool) → is_end (y, x) (z, c) ≡ b → (cond b (with_waits (s.links (y, x)) (behind_first (s.links (y, x)).waits)) (s.links (z, c))).waits ≡ []
      rest_of z c i true e =
          let same : x ≡ c = ap (λ (q : End). q.1) (same_end (y, x) (z, c) e) in
          absurd (false≢true (sym (no_client x known (is_client w x) refl) ∙ ap (is_client w) same ∙ i))
      rest_of z c i false e = st.holds.rest z c i

  pub router_brings : (after : Moment) × Standing g ids (heard left x (From l msg)) after
  router_brings =
      let n : ℕ = next_number g m st.came in
      subst (λ z. (after : Moment) × Standing g ids (heard left x (From l z)) after) front.msg
      (handled g ids left middle (one_more g m st.came (a.Take y x) (lines, u) (g.steps (a.Take y x) refl) goes) (sound_after w (outcome w n (a.Take y x)) (lines, u) goes (act_keeps w n (a.Take y x) st.sound))
      x y known mine own_then here.up t wire_then homes_last calm_last l number (ap (λ z. hub_refuses (s.hub x) (From l z)) front.msg ∙ taken)
      (did_more g m st.came (a.Take y x) (lines, u) (g.steps (a.Take y x) refl) goes ∙ append-nil (did g m st.came) ∙ st.deeds))
