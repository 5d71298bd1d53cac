-- What a router has queued for its clients is taken, message by message and client by client, until nothing waits for them (`drained`).
use Rattle.std.proofs.Common.{◌≡◌, ℕ, ◌≤◌, Bool, true, false, cond, List, [], ◌∷◌, ◌++◌, map, length, Option, Some, None, Ok, refl, sym, ap, ◌∙◌, subst, append-nil, append_assoc, IfOk}
use Rattle.std.specs.Prelude.{◌&&◌, ◌||◌, is_some}
use Rattle.std.specs.List.{fold, cons_option, filter_map}
use Rattle.std.specs.Map.{lookup}
use Rattle.std.specs.Option.{option_map, option_map_or}
use Rattle.std.proofs.lemmas.Bool.{false≢true, or_right}
use Rattle.std.proofs.lemmas.List.{map-append}
use Rattle.std.proofs.lemmas.List.Elements.{filter_map-append}
use Rattle.std.proofs.lemmas.Map.{length-set_value}
use Rattle.zr_id.specs.Zid.{is_named}
use Rattle.zr_msg.specs.declared.msg.Msg.{Msg}
use Rattle.zr_msg.specs.declared.peer.LinkPeer.{LinkPeer}
use Rattle.zr_node_spec.specs.Tables.{link_to}
use Rattle.zr_script_spec.specs.declared.command.Act.TheVariants as a
use Rattle.zr_script_spec.specs.declared.report.ReportLine.{ReportLine}
use Rattle.zr_script_spec.specs.declared.report.ReportLine.TheVariants.{Taken}
use Rattle.zr_world_spec.specs.World.{Tagged, ClientState, RouterState, EndState, End, Ends, Clients, WorldState, is_end, is_taken, is_up, router_of, client_of, end_of, with_end, changed, with_queue, sent, wire_at}
use Rattle.zr_world_spec.specs.Acts.{Outcome, outcome, receiving, received}
use Rattle.zr_world_spec.specs.Moments.{Moment, then_at}
use Rattle.zr_world_spec.specs.Sound.{IsSound}
use Rattle.zr_world_spec.proofs.Cases.{w_take}
use Rattle.zr_world_spec.proofs.Clients.{idle_receiving}
use Rattle.zr_world_spec.proofs.Fits.{up_is_there}
use Rattle.zr_world_spec.proofs.Ends.{same_end, end_parts, end_turned, with_end_is, changed_is}
use Rattle.zr_world_spec.proofs.Keyed.{read_same}
use Rattle.zr_world_spec.proofs.Names.{names, same_name, value_after}
use Rattle.zr_world_spec.proofs.Sound.{Keeps, act_keeps}
use Rattle.zr_guarantee.specs.Sent.{Told, told_in, told_to}
use Rattle.zr_law_running.specs.Runs.{LinkState, Several, at_name, with_waits}
use Rattle.zr_law_running.specs.Allowed.{is_among}
use Rattle.zr_law_running.proofs.Steps.{Span, Came, did, did_more, next_number, one_more, take_goes}
use Rattle.zr_law_running.proofs.Holding.{read, router_in, IsHome, Homes, is_client, messages_to, Calm, Pending, calm}
use Rattle.zr_law_running.proofs.Hearing.{at_true, at_false}

-- ---- what is found

abbrev is_there : List Msg → Bool
is_there [] = false
is_there (x ∷ xs) = true

-- the oldest message that waits at an end
pub record Front (o : Option EndState) (m : Msg) (rest : List Msg) : Type 0 where
  pub end : EndState
  pub is : o ≡ Some end
  pub first : Tagged
  pub others : List Tagged
  pub queue : end.queue ≡ first ∷ others
  pub msg : first.msg ≡ m
  pub more : map (λ t. t.msg) others ≡ rest

pub front_of : (o : Option EndState) (m : Msg) (rest : List Msg) → (read o).waits ≡ m ∷ rest → Front o m rest
front_of None m rest h = absurd (no_front h)
  where
    no_front : [] ≡ m ∷ rest → ⊥
    no_front h = false≢true (ap is_there h)
front_of (Some e) m rest h = by e.queue refl h
  where
    by : (q : List Tagged) → e.queue ≡ q → map (λ (t : Tagged). t.msg) q ≡ m ∷ rest → Front (Some e) m rest
    by [] i h = absurd (false≢true (ap is_there h))
    by (t ∷ ts) i h = record { end = e; is = refl; first = t; others = ts; queue = i; msg = cc; more = cc }

-- a change of an end that is not there is none
pub nowhere : (es : Ends) (e : End) (f : EndState → EndState) → end_of es e ≡ None → (q : End) → end_of (changed es e f) q ≡ end_of es q
nowhere es e f none q = changed_is es e f q ∙ read_same (is_end e q) (option_map f (end_of es q)) (end_of es q)
    (λ n. let at : end_of es q ≡ None = ap (end_of es) (sym (same_end e q n)) ∙ none in ap (option_map f) at ∙ sym at)

-- what an accepted act leaves is sound
pub sound_after : (w : WorldState) (o : Outcome) (x : List ReportLine × WorldState) → o ≡ Ok x → Keeps o → IsSound x.1
sound_after w o x e h = subst (λ (z : Outcome). IfOk z (λ y. IsSound y.1)) e h

-- one message more that a report says was sent
pub told_more : (report : List ReportLine) (x c : List ℕ) (msg : Msg) (tag : ℕ) (q : List ℕ) →
    messages_to (report ++ Taken x c msg tag ∷ []) q ≡ messages_to report q ++ cond (is_named q c) (msg ∷ []) []
told_more report x c msg tag q =
    ap (map (λ (t : Told). t.msg)) (filter_map-append (told_in q) report (Taken x c msg tag ∷ []))
    ∙ map-append (λ (t : Told). t.msg) (told_to report q) (filter_map (told_in q) (Taken x c msg tag ∷ [])) ∙ ap (λ z. messages_to report q ++ z) (by (is_named q c))
  where
    by : (b : Bool) → map (λ (t : Told). t.msg) (cons_option (cond b (Some (record { msg = msg; tag = tag })) None) []) ≡ cond b (msg ∷ []) []
    by true = refl
    by false = refl

-- ---- one message is taken

module _ (ids : List (List ℕ)) (s : Several) (x : List ℕ) (pend : List ℕ → List Msg) (w : WorldState) (report : List ReportLine) (h : Pending ids s x pend w report) (homes : Homes w) (sound : IsSound w)
    (c : List ℕ) (k : ClientState) (ek : client_of w.clients c ≡ Some k) (m : Msg) (rest : List Msg) (ep : pend c ≡ m ∷ rest) where
  abbrev r : RouterState
  r = router_in s x

  abbrev left : List ℕ → List Msg
  left = at_name pend c rest

  found : router_of w.routers x ≡ Some r
  found = h.routers x ∙ at_true (is_among ids x) (Some (router_in s x)) None h.known

  apart_c : is_among ids c ≡ false
  apart_c = h.apart c (ap is_some ek)

  waiting_c : read (end_of w.ends (x, c)) ≡ with_waits (s.links (x, c)) (m ∷ rest)
  waiting_c = h.ends (x, c) ∙ ap (λ b. cond (b && is_client w c) (with_waits (s.links (x, c)) (pend c)) (s.links (x, c))) (names.refl x)
      ∙ ap (λ b. cond b (with_waits (s.links (x, c)) (pend c)) (s.links (x, c))) (ap is_some ek) ∙ ap (with_waits (s.links (x, c))) ep

  pub front : Front (end_of w.ends (x, c)) m rest
  front = front_of (end_of w.ends (x, c)) m rest (ap (λ l. l.waits) waiting_c)

  up : front.end.up ≡ true
  up = by (link_to r.node.links c) refl
    where
      by : (o : Option LinkPeer) → link_to r.node.links c ≡ o → front.end.up ≡ true
      by None e = absurd (false≢true (ap is_there (sym (h.only c e) ∙ ep)))
      by (Some l) e = sym (ap (λ o. option_map_or (λ z. z.up) o false) front.is) ∙ sym (sound.links x c r found) ∙ ap is_some e

  home : IsHome k x (Some front.end)
  home = subst (IsHome k x) front.is (homes x c k ek)

  no_router : router_of w.routers c ≡ None
  no_router = h.routers c ∙ at_false (is_among ids c) (Some (router_in s c)) None apart_c

  no_end : end_of w.ends (c, x) ≡ None
  no_end = by (end_of w.ends (c, x)) refl
    where
      by : (o : Option EndState) → end_of w.ends (c, x) ≡ o → o ≡ None
      by None e = refl
      by (Some z) e = absurd (false≢true (ap is_some (sym no_router) ∙ sound.routers c x (ap is_some e)))

  other : is_named x c ≡ false
  other = sound.apart x c (ap is_some front.is)

  abbrev v : WorldState
  v = w_take w x c front.end front.first.msg front.first.tag front.others

  pub goes : (n : ℕ) → outcome w n (a.Take x c) ≡ Ok (Taken x c front.first.msg front.first.tag ∷ [], v)
  goes n = take_goes w n x c r front.end front.first front.others found (or_right (is_some (router_of w.routers c)) (is_some (client_of w.clients c)) (ap is_some ek)) front.is up (home.1 up) front.queue

  client_then : (q : List ℕ) → client_of v.clients q ≡ cond (is_named c q) (Some (receiving k front.first.msg)) (client_of w.clients q)
  client_then q = ap (λ o. client_of (received w.clients c front.first.msg o) q) ek ∙ value_after w.clients c q (receiving k front.first.msg) (ap is_some ek)

  end_then : (q : End) → end_of v.ends q ≡ cond (is_end (x, c) q) (Some (with_queue front.end front.others)) (end_of w.ends q)
  end_then q =
      let there : is_some (end_of w.ends (x, c)) ≡ true = ap is_some front.is in
      let no : end_of (with_end w.ends (x, c) (with_queue front.end front.others)) (c, x) ≡ None =
      with_end_is w.ends (x, c) (with_queue front.end front.others) (c, x) there
      ∙ at_false (is_end (x, c) (c, x)) (Some (with_queue front.end front.others)) (end_of w.ends (c, x)) (end_turned x c other) ∙ no_end in
      nowhere (with_end w.ends (x, c) (with_queue front.end front.others)) (c, x) (λ e. sent e front.first.msg front.first.tag) no q
      ∙ with_end_is w.ends (x, c) (with_queue front.end front.others) q there

  pub client_same : (q : List ℕ) → is_client v q ≡ is_client w q
  client_same q = ap is_some (client_then q) ∙ by (is_named c q) refl
    where
      by : (b : Bool) → is_named c q ≡ b → is_some (cond b (Some (receiving k front.first.msg)) (client_of w.clients q)) ≡ is_client w q
      by true n = sym (ap (λ z. is_client w z) (sym (same_name c q n)) ∙ ap is_some ek)
      by false n = refl

  clients_then : (q : List ℕ) → option_map (λ z. fold receiving z (left q)) (client_of v.clients q) ≡ s.clients q
  clients_then q = ap (option_map (λ z. fold receiving z (left q))) (client_then q) ∙ by (is_named c q) refl
    where
      by : (b : Bool) → is_named c q ≡ b → option_map (λ z. fold receiving z (cond b rest (pend q))) (cond b (Some (receiving k front.first.msg)) (client_of w.clients q)) ≡ s.clients q
      by true n =
          ap (λ z. Some (fold receiving (receiving k z) rest)) front.msg
          ∙ sym (ap (option_map (λ z. fold receiving z (pend c))) ek ∙ ap (λ l. Some (fold receiving k l)) ep) ∙ h.clients c ∙ ap s.clients (same_name c q n)
      by false n = h.clients q

  -- the client was one before, with the same router
  client_was : (q : List ℕ) (z : ClientState) → client_of v.clients q ≡ Some z → (o : ClientState) × (client_of w.clients q ≡ Some o) × (o.router ≡ z.router)
  client_was q z e = by (is_named c q) refl (sym (client_then q) ∙ e)
    where
      by : (b : Bool) → is_named c q ≡ b → cond b (Some (receiving k front.first.msg)) (client_of w.clients q) ≡ Some z → (o : ClientState) × (client_of w.clients q ≡ Some o) × (o.router ≡ z.router)
      by true n i =
          let is : receiving k front.first.msg ≡ z = cc in
          (k, ap (client_of w.clients) (sym (same_name c q n)) ∙ ek, sym (ap (λ (y : ClientState). y.router) (idle_receiving k front.first.msg)) ∙ ap (λ (y : ClientState). y.router) is)
      by false n i = (z, i, refl)

  home_of : (o z : ClientState) → o.router ≡ z.router → (y : List ℕ) (e : Option EndState) → IsHome o y e → IsHome z y e
  home_of o z same y None i = i
  home_of o z same y (Some e) i = (sym same ∙ i.0, i.1)

  pub homes_then : (y q : List ℕ) (z : ClientState) → client_of v.clients q ≡ Some z → IsHome z y (end_of v.ends (y, q))
  homes_then y q z e =
      let was = client_was q z e in
      home_of was.0 z was.2 y (end_of v.ends (y, q)) (subst (IsHome was.0 y) (sym (end_then (y, q))) (by (is_end (x, c) (y, q)) refl was.0 (homes y q was.0 was.1)))
    where
      by : (b : Bool) → is_end (x, c) (y, q) ≡ b → (o : ClientState) → IsHome o y (end_of w.ends (y, q)) → IsHome o y (cond b (Some (with_queue front.end front.others)) (end_of w.ends (y, q)))
      by true n o i =
          let at : end_of w.ends (y, q) ≡ Some front.end = ap (end_of w.ends) (sym (same_end (x, c) (y, q) n)) ∙ front.is in
          subst (IsHome o y) at i
      by false n o i = i

  ends_then : (e : End) → read (end_of v.ends e) ≡ cond (is_named x e.0 && is_client v e.1) (with_waits (s.links e) (left e.1)) (s.links e)
  ends_then e = ap read (end_then e) ∙ by (is_end (x, c) e) refl ∙ ap (λ b. cond (is_named x e.0 && b) (with_waits (s.links e) (left e.1)) (s.links e)) (sym (client_same e.1))
    where
      goal : End → Type 0
      goal z = record_is ≡ cond (is_named x z.0 && is_client w z.1) (with_waits (s.links z) (left z.1)) (s.links z)
        where
          record_is : LinkState
          record_is = read (Some (with_queue front.end front.others))

      own : goal (x, c)
      own =
          ap (with_waits (read (Some front.end))) front.more
          ∙ ap (λ l. with_waits l rest) (ap read (sym front.is) ∙ waiting_c)
          ∙ ap (with_waits (s.links (x, c))) (sym (at_true (is_named c c) rest (pend c) (names.refl c)))
          ∙ ap (λ b. cond b (with_waits (s.links (x, c)) (left c)) (s.links (x, c))) (sym (ap (λ b. b && is_client w c) (names.refl x) ∙ ap is_some ek))

      by : (b : Bool) → is_end (x, c) e ≡ b → read (cond b (Some (with_queue front.end front.others)) (end_of w.ends e)) ≡ cond (is_named x e.0 && is_client w e.1) (with_waits (s.links e) (left e.1)) (s.links e)
      by true n = subst goal (same_end (x, c) e n) own
      by false n = h.ends e ∙ at (is_named x e.0) (is_named c e.1) refl (sym (end_parts (x, c) e) ∙ n)
        where
          at : (p q : Bool) → is_named c e.1 ≡ q → (p && q) ≡ false →
              cond (p && is_client w e.1) (with_waits (s.links e) (pend e.1)) (s.links e) ≡ cond (p && is_client w e.1) (with_waits (s.links e) (cond q rest (pend e.1))) (s.links e)
          at false q i apart = refl
          at true false i apart = refl
          at true true i apart = absurd (false≢true (sym apart))

  wires_then : (e : End) → wire_at (end_of v.ends e) ≡ []
  wires_then e = ap wire_at (end_then e) ∙ by (is_end (x, c) e)
    where
      by : (b : Bool) → wire_at (cond b (Some (with_queue front.end front.others)) (end_of w.ends e)) ≡ []
      by true = ap wire_at (sym front.is) ∙ h.wires (x, c)
      by false = h.wires e

  told_then : (q : List ℕ) → is_among ids q ≡ false → messages_to (report ++ Taken x c front.first.msg front.first.tag ∷ []) q ++ left q ≡ s.sent q
  told_then q apart = ap (λ z. z ++ left q) (told_more report x c front.first.msg front.first.tag q ∙ ap (λ b. messages_to report q ++ cond b (front.first.msg ∷ []) []) (names.symm q c)) ∙ by (is_named c q) refl
    where
      by : (b : Bool) → is_named c q ≡ b → (messages_to report q ++ cond b (front.first.msg ∷ []) []) ++ cond b rest (pend q) ≡ s.sent q
      by true n =
          append_assoc (messages_to report q) (front.first.msg ∷ []) rest ∙ ap (λ z. messages_to report q ++ z ∷ rest) front.msg
          ∙ ap (λ z. messages_to report q ++ z) (sym ep ∙ ap pend (same_name c q n)) ∙ h.told q apart
      by false n = ap (λ z. z ++ pend q) (append-nil (messages_to report q)) ∙ h.told q apart

  only_then : (q : List ℕ) → link_to (s.hub x).node.links q ≡ None → left q ≡ []
  only_then q none = by (is_named c q) refl
    where
      by : (b : Bool) → is_named c q ≡ b → cond b rest (pend q) ≡ []
      by true n = absurd (false≢true (ap is_there (sym (h.only c (ap (link_to (s.hub x).node.links) (same_name c q n) ∙ none)) ∙ ep)))
      by false n = h.only q none

  came_then : length v.clients ≡ length w.clients
  came_then = ap (λ o. length (received w.clients c front.first.msg o)) ek ∙ length-set_value (is_named c) w.clients (receiving k front.first.msg)

  pub taken : Pending ids s x left v (report ++ Taken x c front.first.msg front.first.tag ∷ [])
  taken = record {
    routers = h.routers;
    known = h.known;
    clients = clients_then;
    apart = λ q i. h.apart q (sym (client_same q) ∙ i);
    ends = ends_then;
    wires = wires_then;
    rest = λ y q i. h.rest y q (sym (client_same q) ∙ i);
    told = told_then;
    only = only_then;
    came = subst (λ z. z ≤ s.came) (sym came_then) h.came;
  }

-- ---- all that waits for a client, and for all of them

pub record Draining (g : Span) (ids : List (List ℕ)) (s : Several) (x : List ℕ) (pend : List ℕ → List Msg) (m : Moment) : Type 0 where
  pub came : Came g m
  pub deeds : did g m came ≡ s.deeds
  pub sound : IsSound m.world
  pub homes : Homes m.world
  pub holds : Pending ids s x pend m.world m.report

pub record Standing (g : Span) (ids : List (List ℕ)) (s : Several) (m : Moment) : Type 0 where
  pub came : Came g m
  pub deeds : did g m came ≡ s.deeds
  pub sound : IsSound m.world
  pub homes : Homes m.world
  pub holds : Calm ids s m.world m.report

-- nothing waits for the client c any more, and for others what waited before
record Emptied (g : Span) (ids : List (List ℕ)) (s : Several) (x c : List ℕ) (pend : List ℕ → List Msg) (m : Moment) : Type 0 where
  then : Moment
  left : List ℕ → List Msg
  state : Draining g ids s x left then
  none : left c ≡ []
  others : (q : List ℕ) → is_named c q ≡ false → left q ≡ pend q
  same : (q : List ℕ) → is_client then.world q ≡ is_client m.world q

module _ (g : Span) (ids : List (List ℕ)) (s : Several) (x : List ℕ) where
  one_taken : (pend : List ℕ → List Msg) (m : Moment) (d : Draining g ids s x pend m) (c : List ℕ) (k : ClientState) → client_of m.world.clients c ≡ Some k → (msg : Msg) (rest : List Msg) → pend c ≡ msg ∷ rest →
      (then : Moment) × (Draining g ids s x (at_name pend c rest) then) × ((q : List ℕ) → is_client then.world q ≡ is_client m.world q)
  one_taken pend m d c k ek msg rest ep =
      let f = front ids s x pend m.world m.report d.holds d.homes d.sound c k ek msg rest ep in
      let gone = goes ids s x pend m.world m.report d.holds d.homes d.sound c k ek msg rest ep (next_number g m d.came) in
      let v : WorldState = w_take m.world x c f.end f.first.msg f.first.tag f.others in (
        then_at m (Taken x c f.first.msg f.first.tag ∷ [], v),
        record {
          came = one_more g m d.came (a.Take x c) (Taken x c f.first.msg f.first.tag ∷ [], v) (g.steps (a.Take x c) refl) gone;
          deeds = did_more g m d.came (a.Take x c) (Taken x c f.first.msg f.first.tag ∷ [], v) (g.steps (a.Take x c) refl) gone ∙ append-nil (did g m d.came) ∙ d.deeds;
          sound = sound_after m.world (outcome m.world (next_number g m d.came) (a.Take x c)) (Taken x c f.first.msg f.first.tag ∷ [], v) gone (act_keeps m.world (next_number g m d.came) (a.Take x c) d.sound);
          homes = homes_then ids s x pend m.world m.report d.holds d.homes d.sound c k ek msg rest ep;
          holds = taken ids s x pend m.world m.report d.holds d.homes d.sound c k ek msg rest ep;
        },
        client_same ids s x pend m.world m.report d.holds d.homes d.sound c k ek msg rest ep,
      )

  one_emptied : (msgs : List Msg) (pend : List ℕ → List Msg) (m : Moment) → Draining g ids s x pend m → (c : List ℕ) → is_client m.world c ≡ true → pend c ≡ msgs → Emptied g ids s x c pend m
  one_emptied [] pend m d c client e = record { then = m; left = pend; state = d; none = e; others = λ q n. refl; same = λ q. refl }
  one_emptied (msg ∷ msgs) pend m d c client e = by (client_of m.world.clients c) refl (one_emptied msgs)
    where
      by : (o : Option ClientState) → client_of m.world.clients c ≡ o →
          ((pend : List ℕ → List Msg) (m : Moment) → Draining g ids s x pend m → (c : List ℕ) → is_client m.world c ≡ true → pend c ≡ msgs → Emptied g ids s x c pend m) → Emptied g ids s x c pend m
      by None i ih = absurd (false≢true (ap is_some (sym i) ∙ client))
      by (Some k) i ih =
          let t = one_taken pend m d c k i msg msgs e in
          let more = ih (at_name pend c msgs) t.0 t.1 c (t.2 c ∙ client) (at_true (is_named c c) msgs (pend c) (names.refl c)) in
          record {
            then = more.then;
            left = more.left;
            state = more.state;
            none = more.none;
            others = λ q n. more.others q n ∙ at_false (is_named c q) msgs (pend q) n;
            same = λ q. more.same q ∙ t.2 q;
          }

  -- nothing waits for one who is neither a router nor a client
  none_for_others : (pend : List ℕ → List Msg) (m : Moment) → Draining g ids s x pend m → (c : List ℕ) → is_among ids c ≡ false → is_client m.world c ≡ false → pend c ≡ []
  none_for_others pend m d c apart client = by (link_to (s.hub x).node.links c) refl
    where
      found : router_of m.world.routers x ≡ Some (router_in s x)
      found = d.holds.routers x ∙ at_true (is_among ids x) (Some (router_in s x)) None d.holds.known

      no_router : router_of m.world.routers c ≡ None
      no_router = d.holds.routers c ∙ at_false (is_among ids c) (Some (router_in s c)) None apart

      not_taken : is_taken m.world c ≡ false
      not_taken = ap (λ o. is_some o || is_client m.world c) no_router ∙ client

      by : (o : Option LinkPeer) → link_to (s.hub x).node.links c ≡ o → pend c ≡ []
      by None e = d.holds.only c e
      by (Some l) e =
          let up : is_up m.world.ends (x, c) ≡ true = sym (d.sound.links x c (router_in s x) found) ∙ ap is_some e in
          absurd (false≢true (sym not_taken ∙ d.sound.neighbours x c (up_is_there (end_of m.world.ends (x, c)) up)))

  all_emptied : (cs : Clients) (pend : List ℕ → List Msg) (m : Moment) → Draining g ids s x pend m →
      ((q : List ℕ) → is_client m.world q ≡ true → lookup (is_named q) cs ≡ None → pend q ≡ []) → (then : Moment) × Standing g ids s then
  all_emptied [] pend m d h = (m, record { came = d.came; deeds = d.deeds; sound = d.sound; homes = d.homes; holds = calm ids s x pend m.world m.report d.holds (λ c apart. by c apart (is_client m.world c) refl) })
    where
      by : (c : List ℕ) → is_among ids c ≡ false → (b : Bool) → is_client m.world c ≡ b → pend c ≡ []
      by c apart true i = h c i refl
      by c apart false i = none_for_others pend m d c apart i
  all_emptied (e ∷ cs) pend m d h = by (is_client m.world e.0) refl (all_emptied cs)
    where
      by : (b : Bool) → is_client m.world e.0 ≡ b →
          ((pend : List ℕ → List Msg) (m : Moment) → Draining g ids s x pend m → ((q : List ℕ) → is_client m.world q ≡ true → lookup (is_named q) cs ≡ None → pend q ≡ []) → (then : Moment) × Standing g ids s then) →
          (then : Moment) × Standing g ids s then
      by true i ih =
          let t = one_emptied (pend e.0) pend m d e.0 i refl in
          ih t.left t.then t.state (λ q client none. at t.left (is_client t.then.world q) q client none (is_named e.0 q) refl t.none (t.others q) (t.same q))
        where
          at : (left : List ℕ → List Msg) (now : Bool) (q : List ℕ) → now ≡ true → lookup (is_named q) cs ≡ None → (b : Bool) → is_named e.0 q ≡ b → left e.0 ≡ [] →
              (is_named e.0 q ≡ false → left q ≡ pend q) → now ≡ is_client m.world q → left q ≡ []
          at left now q client none true n empty others same = ap left (sym (same_name e.0 q n)) ∙ empty
          at left now q client none false n empty others same =
              others n ∙ h q (sym same ∙ client) (at_false (is_named q e.0) (Some e.1) (lookup (is_named q) cs) (names.symm q e.0 ∙ n) ∙ none)
      by false i ih = ih pend m d (λ q client none. at q client none (is_named e.0 q) refl)
        where
          at : (q : List ℕ) → is_client m.world q ≡ true → lookup (is_named q) cs ≡ None → (b : Bool) → is_named e.0 q ≡ b → pend q ≡ []
          at q client none true n = absurd (false≢true (sym (ap (λ z. is_client m.world z) (sym (same_name e.0 q n)) ∙ i) ∙ client))
          at q client none false n = h q client (at_false (is_named q e.0) (Some e.1) (lookup (is_named q) cs) (names.symm q e.0 ∙ n) ∙ none)

  pub drained : (pend : List ℕ → List Msg) (m : Moment) → Draining g ids s x pend m → (then : Moment) × Standing g ids s then
  drained pend m d = all_emptied m.world.clients pend m d (λ q client none. absurd (false≢true (ap is_some (sym none) ∙ client)))
