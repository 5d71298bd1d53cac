-- A query of a phase stands at each moment of it (`stands_at_end`): it begins at the mark, and each act keeps it. And what is known of it at the mark comes from
-- the line that asks it (`begins`).
use Rattle.std.proofs.Common.{◌≡◌, ◌≤◌, ◌<◌, ℕ, ◌==◌, ◌&&◌, Bool, true, false, List, [], ◌∷◌, ◌++◌, Option, Some, None, is_some, refl, sym, ap, ◌∙◌, subst, append_assoc, append-nil, arith, inr, inl}
use Rattle.std.specs.Prelude.{not, IfSome}
use Rattle.std.specs.List.{AllByRecursion, list_all, fold}
use Rattle.std.specs.Option.{option_map, option_map_or}
use Rattle.std.proofs.lemmas.Bool.{false≢true, and_parts, and_from, eqb-true, eq-eqb, lt-ltb, ltb-true}
use Rattle.std.proofs.lemmas.List.Sums.{fold-append}
use Rattle.std.proofs.lemmas.Option.{none-some}
use Rattle.zr_lists.proofs.Finds.{In, in_any, none_any}
use Rattle.zr_id.specs.Zid.{is_named}
use Rattle.zr_graph.proofs.Names.{same_refl}
use Rattle.zr_msg.specs.declared.content.Parts.{Parts}
use Rattle.zr_lists.proofs.Each.{All-append}
use Rattle.zr_lists.proofs.Elements.{passes_each, in_behind}
use Rattle.zr_script_spec.specs.declared.command.Act.{Act}
use Rattle.zr_script_spec.specs.declared.command.Act.TheVariants as c
use Rattle.zr_world_spec.specs.World.{EndState, ClientState, client_of, end_of, is_up, is_unbroken}
use Rattle.zr_world_spec.specs.Acts.{outcome}
use Rattle.zr_world_spec.specs.Moments.{Numbered, ascends, Moment, went, onward}
use Rattle.zr_world_spec.proofs.Clients.{same_clients}
use Rattle.zr_world_spec.proofs.Cases.{for_get}
use Rattle.zr_world_spec.proofs.Lines.{refused_stays, at_some, prefix_ascends}
use Rattle.zr_guarantee.specs.Phase.{stays, is_phase}
use Rattle.zr_guarantee.specs.Broker.{is_attached, Publication, is_publisher}
use Rattle.zr_guarantee.specs.Queries.{Asked, asked_in, queries, Saying, saying_in, sayings}
use Rattle.zr_law_declared.proofs.AtRest.{attached_is}
use Rattle.zr_law_samples.proofs.Numbers.{agrees_from}
use Rattle.zr_law_samples.proofs.Pair.{Pair, Flows, AllAgree}
use Rattle.zr_law_samples.proofs.Phases.{phase_keeps}
use Rattle.zr_law_samples.proofs.Silent.{IsMute, phase_mute}
use Rattle.zr_law_samples.proofs.Start.{Marked, ready, the_pair, the_routes, starts}
use Rattle.zr_law_numbers.proofs.Numbers.{AllGo, all_go}
use Rattle.zr_law_replies.specs.Trees.{home_of}
use Rattle.zr_law_replies.specs.Stands.{IsStill, is_said_by}
use Rattle.zr_law_replies.proofs.Grown.{Earlier, earlier, asked_of, asks_no_step}
use Rattle.zr_law_replies.proofs.Links.{lines_on}
use Rattle.zr_law_replies.proofs.RouterActs as acts
use Rattle.zr_law_replies.proofs.EachSaid.{AllHaveQueries}
use Rattle.zr_law_replies.proofs.Every.{Holds, shows_of, kept, leads_on, said_on}
use Rattle.zr_law_replies.proofs.Lists.{parted, from_map, into_map}
use Rattle.zr_law_replies.proofs.OneLine.{later_in, one_saying, one_query}
use Rattle.zr_law_replies.proofs.Asked.{asks_publishes}
use Rattle.zr_law_replies.proofs.TreeWays.{is_tree_of}
use Rattle.zr_law_replies.proofs.StandHops.{plain_hop, plain_hops}
use Rattle.zr_law_replies.proofs.StandStart.{here_first}
use Rattle.zr_law_replies.proofs.StandStill.{shape, SameEnds, phase_ends, is_still}
use Rattle.zr_law_replies.proofs.StandStep.{Begins, Here, Then}
use Rattle.zr_law_replies.proofs.StandActs.{Fits, act_stands}
use Rattle.zr_guarantee.specs.Latest.{asks_latest, RepliesFit}
use Rattle.zr_law_replies.proofs.SameActs.{fits_front}

-- ---- lists

-- what all pass, those in front pass
front_all : (p : Numbered → Bool) (xs ys : List Numbered) → list_all p (xs ++ ys) ≡ true → list_all p xs ≡ true
front_all p [] ys h = refl
front_all p (x ∷ xs) ys h = let parts = and_parts (p x) (list_all p (xs ++ ys)) h in and_from (p x) (list_all p xs) parts.0 (front_all p xs ys parts.1)

front_each : (P : Numbered → Type 0) (xs ys : List Numbered) → AllByRecursion P (xs ++ ys) → AllByRecursion P xs
front_each P [] ys h = tt
front_each P (x ∷ xs) ys h = (h.0, front_each P xs ys h.1)

-- a moment behind some acts is behind those in front
moment_before : (xs : List Numbered) (x : Numbered) (ys : List Numbered) (start m : Moment) → fold onward (Some start) (xs ++ x ∷ ys) ≡ Some m →
    (p : Moment) × (fold onward (Some start) xs ≡ Some p) × ((next : Moment) × (onward (Some p) x ≡ Some next))
moment_before xs x ys start m e = by (fold onward (Some start) xs) refl (sym (fold-append onward (Some start) xs (x ∷ ys)) ∙ e)
  where
    by : (o : Option Moment) → fold onward (Some start) xs ≡ o → fold onward (onward o x) ys ≡ Some m → (p : Moment) × (fold onward (Some start) xs ≡ Some p) × ((next : Moment) × (onward (Some p) x ≡ Some next))
    by None f k = absurd (none-some m (sym (refused_stays ys) ∙ k))
    by (Some p) f k = at (onward (Some p) x) refl k
      where
        at : (o : Option Moment) → onward (Some p) x ≡ o → fold onward o ys ≡ Some m → (p : Moment) × (fold onward (Some start) xs ≡ Some p) × ((next : Moment) × (onward (Some p) x ≡ Some next))
        at None g j = absurd (none-some m (sym (refused_stays ys) ∙ j))
        at (Some next) g j = (p, f, (next, g))

-- ---- the line that asks

-- where a client's line is accepted, its link is unbroken
record IsLinked (m : Moment) (name : List ℕ) : Type 0 where
  client : ClientState
  found : client_of m.world.clients name ≡ Some client
  end : EndState
  at : end_of m.world.ends (client.router, name) ≡ Some end
  unbroken : end.unbroken ≡ true

get_linked : (m : Moment) (n : ℕ) (act : Act) (q : Asked) → asked_in n act ≡ Some q → IfSome (went m (outcome m.world n act)) (λ next. IsLinked m q.client)
unfolding outcome
get_linked m n (c.Get client number target content) q e =
    for_get m (λ next. IsLinked m q.client) n client number target content (λ s es fresh z ez unbroken room.
    subst (λ name. IsLinked m name) (let one : record { line = n; client = client; number = number; target = target; content = content } ≡ q = cc in ap (λ (p : Asked). p.client) one)
    (record { client = s; found = es; end = z; at = ez; unbroken = unbroken }))
get_linked m n (c.Router id) q e = absurd (none-some q e)
get_linked m n (c.Client id router) q e = absurd (none-some q e)
get_linked m n (c.Link one other weight) q e = absurd (none-some q e)
get_linked m n (c.Up router neighbour) q e = absurd (none-some q e)
get_linked m n (c.Break router neighbour) q e = absurd (none-some q e)
get_linked m n (c.Down router neighbour) q e = absurd (none-some q e)
get_linked m n (c.Sub client id key) q e = absurd (none-some q e)
get_linked m n (c.Unsub client id) q e = absurd (none-some q e)
get_linked m n (c.Token client id key) q e = absurd (none-some q e)
get_linked m n (c.Untoken client id) q e = absurd (none-some q e)
get_linked m n (c.Able client id key complete) q e = absurd (none-some q e)
get_linked m n (c.Unable client id) q e = absurd (none-some q e)
get_linked m n (c.Interest client id mode kinds key aggregate) q e = absurd (none-some q e)
get_linked m n (c.Uninterest client id) q e = absurd (none-some q e)
get_linked m n (c.Publish client content) q e = absurd (none-some q e)
get_linked m n (c.Reply client number content) q e = absurd (none-some q e)
get_linked m n (c.End client number) q e = absurd (none-some q e)
get_linked m n (c.Handle router from) q e = absurd (none-some q e)
get_linked m n (c.Take router to) q e = absurd (none-some q e)
get_linked m n c.Mark q e = absurd (none-some q e)
get_linked m n (c.Show router) q e = absurd (none-some q e)

module _ (before : List Numbered) (mark : ℕ) (start : Moment) (marked : Marked before mark start) (phase : List Numbered) (later : ascends mark phase ≡ true) (stay : is_phase phase ≡ true)
    (m : Moment) (leads : fold onward (Some start) phase ≡ Some m) (q : Asked) (in_phase : In q (queries phase)) where
  asking : (x : Numbered) × In x phase × (asked_in x.0 x.1 ≡ Some q)
  asking = from_map (λ (x : Numbered). asked_in x.0 x.1) phase q in_phase

  -- ends are up and unbroken as at the mark
  ends_at : (done rest : List Numbered) → phase ≡ done ++ rest → (p : Moment) → fold onward (Some start) done ≡ Some p → SameEnds start.world.ends p.world.ends
  ends_at done rest cut p e =
      at_some (λ next. SameEnds start.world.ends next.world.ends) (fold onward (Some start) done) p e
      (phase_ends start.world.ends done (Some start) (λ z. refl) (front_all (λ (x : Numbered). stays x.1) done rest (ap (λ xs. list_all (λ (x : Numbered). stays x.1) xs) (sym cut) ∙ stay)))

  linked_there : (p : Moment) × SameEnds start.world.ends p.world.ends × IsLinked p q.client
  linked_there =
      let part = parted phase asking.0 asking.1 in
      let p = moment_before part.0 asking.0 part.1 start m (ap (fold onward (Some start)) (sym part.2) ∙ leads) in (
        p.0,
        ends_at part.0 (asking.0 ∷ part.1) part.2 p.0 p.1,
        at_some (λ next. IsLinked p.0 q.client) (went p.0 (outcome p.0.world asking.0.0 asking.0.1)) p.2.0 p.2.1 (get_linked p.0 asking.0.0 asking.0.1 q asking.2),
      )

  -- who asks is a client at the mark
  asker_found : (s : ClientState) × (client_of start.world.clients q.client ≡ Some s)
  asker_found = by (client_of start.world.clients q.client) refl
    where
      by : (o : Option ClientState) → client_of start.world.clients q.client ≡ o → (s : ClientState) × (client_of start.world.clients q.client ≡ Some s)
      by (Some s) e = (s, e)
      by None e =
          let mute : IsMute q.client start.world.clients e phase m =
          at_some (IsMute q.client start.world.clients e phase) (fold onward (Some start) phase) m leads (phase_mute q.client start.world.clients e phase (Some start) (same_clients start.world.clients) stay) in
          let silent : not (is_publisher q.client asking.0.1) ≡ true = passes_each (λ (x : Numbered). not (is_publisher q.client x.1)) phase asking.0 mute.silent asking.1 in
          let publishes : is_publisher q.client asking.0.1 ≡ true =
          ap (λ o. option_map_or (λ (p : Publication). is_named q.client p.client) o false) (asks_publishes asking.0.0 asking.0.1 q asking.2) ∙ same_refl q.client in
          absurd (false≢true (sym (ap not publishes) ∙ silent))

  -- and its link is unbroken there
  asker_linked : is_unbroken start.world.ends (asker_found.0.router, q.client) ≡ true
  asker_linked = ap (λ z. is_unbroken start.world.ends (z, q.client)) (sym home) ∙ by (end_of start.world.ends (there.client.router, q.client)) (sym (same (there.client.router, q.client)) ∙ ap (option_map shape) there.at)
    where
      same : SameEnds start.world.ends linked_there.0.world.ends
      same = linked_there.1

      there : IsLinked linked_there.0 q.client
      there = linked_there.2

      by : (o : Option EndState) → option_map shape o ≡ Some (shape there.end) → option_map_or (λ (z : EndState). z.unbroken) o false ≡ true
      by None e = absurd (none-some (shape there.end) e)
      by (Some z) e = let one : shape z ≡ shape there.end = cc in ap (λ (v : Bool × Bool). v.1) one ∙ there.unbroken

      some_end : (o : Option EndState) → option_map shape o ≡ Some (shape there.end) → is_some o ≡ true
      some_end None e = absurd (none-some (shape there.end) e)
      some_end (Some z) e = refl

      home : there.client.router ≡ asker_found.0.router
      home = (ready before mark start marked).homes q.client there.client.router asker_found.0 asker_found.1
          (some_end (end_of start.world.ends (there.client.router, q.client)) (sym (same (there.client.router, q.client)) ∙ ap (option_map shape) there.at))

  pub asker_attached : is_attached before q.client ≡ true
  asker_attached = sym (attached_is before start marked.always.declared q.client asker_found.0 asker_found.1) ∙ asker_linked

  pub begins : Begins before mark start q
  begins = record {
    marked = marked;
    client = asker_found.0;
    found = asker_found.1;
    up = up;
    tree = is_tree_of before mark start marked q asker_found.0 asker_found.1 up;
    later = lt-ltb mark q.line (subst (λ k. mark < k) (sym (asked_of asking.0.0 asking.0.1 q asking.2)) (later_in mark phase later asking.0 asking.1 (asks_no_step asking.0.0 asking.0.1 q asking.2)));
  }
    where
      up : is_up start.world.ends (home_of start.world q.client, q.client) ≡ true
      up = ap (λ o. is_up start.world.ends (option_map_or (λ (s : ClientState). s.router) o [], q.client)) asker_found.1
          ∙ (ready before mark start marked).linked q.client asker_found.0 asker_found.1 asker_attached

  -- ---- each act

  module _ (all_later : ascends 0 (before ++ (mark, c.Mark) ∷ phase) ≡ true) (holds : Holds (before ++ (mark, c.Mark) ∷ []) start)
      (fit : asks_latest q ≡ true → RepliesFit (before ++ (mark, c.Mark) ∷ phase)) where
    abbrev all : List Numbered
    all = before ++ (mark, c.Mark) ∷ phase

    -- the acts up to a moment of the phase
    abbrev upto : List Numbered → List Numbered
    upto done = (before ++ (mark, c.Mark) ∷ []) ++ done

    all_is : (done rest : List Numbered) → phase ≡ done ++ rest → upto done ++ rest ≡ all
    all_is done rest cut = append_assoc (before ++ (mark, c.Mark) ∷ []) done rest ∙ ap (λ xs. (before ++ (mark, c.Mark) ∷ []) ++ xs) (sym cut) ∙ append_assoc before ((mark, c.Mark) ∷ []) phase

    fits_upto : (done rest : List Numbered) → done ++ rest ≡ all → asks_latest q ≡ true → RepliesFit done
    fits_upto done rest e latest = fits_front done rest (subst (λ xs. RepliesFit xs) (sym e) (fit latest))

    asked_of_all : In q (queries all)
    asked_of_all = into_map (λ (x : Numbered). asked_in x.0 x.1) all asking.0 q (in_behind before ((mark, c.Mark) ∷ phase) asking.0 (inr asking.1)) asking.2

    -- the pair of the client that asks with itself, of which is known what stays in the phase
    abbrev pair : Pair
    pair = the_pair before mark start marked phase later q.client q.client asker_found.0 asker_found.0 asker_found.1 asker_found.1 asker_attached

    still_at : (done rest : List Numbered) → phase ≡ done ++ rest → (p : Moment) → fold onward (Some start) done ≡ Some p → IsStill start.world p.world
    still_at done rest cut p e = is_still pair done p flows (ends_at done rest cut p e)
      where
        stay_done : is_phase done ≡ true
        stay_done = front_all (λ (x : Numbered). stays x.1) done rest (ap (λ xs. list_all (λ (x : Numbered). stays x.1) xs) (sym cut) ∙ stay)

        agree : AllAgree pair done
        agree = front_each _ done rest (subst (λ xs. AllAgree pair xs) cut (agrees_from pair phase [] mark (λ t. refl) refl later))

        flows : Flows pair done p
        flows = at_some (Flows pair done) (fold onward (Some start) done) p e
            (phase_keeps pair (the_routes before mark start marked phase later q.client q.client asker_found.0 asker_found.0 asker_found.1 asker_found.1 asker_attached) done (Some start)
            (starts before mark start marked phase later q.client q.client asker_found.0 asker_found.0 asker_found.1 asker_found.1 asker_attached) stay_done agree)

    -- whose query and whose reply an act is
    fits : (x : Numbered) → In x all → Fits all q x
    fits x i = record {
      own = λ p e line.
          let there : In p (queries all) = into_map (λ (y : Numbered). asked_in y.0 y.1) all x p i e in
          e ∙ ap (λ z. Some z) (one_query 0 all all_later p q there asked_of_all (asked_of x.0 x.1 p e ∙ eqb-true x.0 q.line line));
      said = λ client number content e d. said client number content d (into_map (λ (y : Numbered). saying_in y.0 y.1) all x (record { line = x.0; client = client; number = number; reply = Some content }) i (ap (saying_in x.0) e));
    }
      where
        said : (client : List ℕ) (number : ℕ) (content : Parts) (d : List ℕ) → In (record { line = x.0; client = client; number = number; reply = Some content }) (sayings all) →
            is_said_by all d (record { line = x.0; content = content }) ≡ is_named d client
        said client number content d there = by (is_named d client) refl
          where
            s : Saying
            s = record { line = x.0; client = client; number = number; reply = Some content }

            by : (b : Bool) → is_named d client ≡ b → is_said_by all d (record { line = x.0; content = content }) ≡ b
            by true e = in_any (λ (z : Saying). z.line == x.0 && (is_some z.reply && is_named d z.client)) (sayings all) s there (and_from (x.0 == x.0) (is_named d client) (eq-eqb x.0 x.0 refl) e)
            by false e = none_any (λ (z : Saying). z.line == x.0 && (is_some z.reply && is_named d z.client)) (sayings all) (λ z k. other z k (z.line == x.0) refl)
              where
                other : (z : Saying) → In z (sayings all) → (b : Bool) → (z.line == x.0) ≡ b → (b && (is_some z.reply && is_named d z.client)) ≡ false
                other z k false f = refl
                other z k true f = ap (λ (v : Saying). is_some v.reply && is_named d v.client) (one_saying 0 all all_later z s k there (eqb-true z.line x.0 f)) ∙ e

    record On (done : List Numbered) (p : Moment) : Type 0 where
      here : Here start.world all q (upto done) p
      led : fold onward (Some start) done ≡ Some p

    step : (done : List Numbered) (x : Numbered) (rest : List Numbered) → phase ≡ done ++ x ∷ rest → (p : Moment) → On done p → IfSome (onward (Some p) x) (On (done ++ x ∷ []))
    step done x rest cut p on =
        by (went p (outcome p.world x.0 x.1)) refl (all_go p x.0 x.1 on.here.holds.go) (kept (upto done) p on.here.holds x.0 x.1 come) (said_on (upto done) p on.here.holds x come)
        (act_stands before mark start q begins all (upto done) p on.here (fits_upto (upto done) (x ∷ rest) (all_is done (x ∷ rest) cut)) x come (passes_each (λ (y : Numbered). stays y.1) phase x stay (subst (λ xs. In x xs) (sym cut) (in_behind done (x ∷ rest) x (inl refl))))
        (fits x (subst (λ xs. In x xs) (all_is done (x ∷ rest) cut) (in_behind (upto done) (x ∷ rest) x (inl refl)))))
      where
        come : Earlier (upto done) x
        come = (earlier 0 (upto done) x rest (ap (ascends 0) (all_is done (x ∷ rest) cut) ∙ all_later)).0

        acts_are : upto done ++ x ∷ [] ≡ upto (done ++ x ∷ [])
        acts_are = append_assoc (before ++ (mark, c.Mark) ∷ []) done (x ∷ [])

        by : (o : Option Moment) → went p (outcome p.world x.0 x.1) ≡ o → IfSome o AllGo → IfSome o (acts.IsKept (upto done) p x come on.here.holds.lines on.here.holds.go.0 (shows_of p on.here.holds.go) on.here.holds.stands) →
            IfSome o (λ next. AllHaveQueries (upto done ++ x ∷ []) next.report) → IfSome o (Then start.world all q (upto done) p on.here x) → IfSome o (On (done ++ x ∷ []))
        by None e go held said then = tt
        by (Some next) e go held said then = record { here = subst (λ zs. Here start.world all q zs next) acts_are here_then; led = led_then }
          where
            led_then : fold onward (Some start) (done ++ x ∷ []) ≡ Some next
            led_then = fold-append onward (Some start) done (x ∷ []) ∙ ap (λ o. onward o x) on.led ∙ e

            still : IsStill start.world next.world
            still = still_at (done ++ x ∷ []) rest (cut ∙ sym (append_assoc done (x ∷ []) rest)) next led_then

            holds_then : Holds (upto done ++ x ∷ []) next
            holds_then = record {
              led = leads_on (upto done) p on.here.holds x ∙ e;
              later = prefix_ascends 0 (upto done ++ x ∷ []) rest (ap (ascends 0) (append_assoc (upto done) (x ∷ []) rest ∙ all_is done (x ∷ rest) cut) ∙ all_later);
              go = go;
              lines = lines_on next.world on.here.holds.lines;
              stands = held go.0 (shows_of next go);
              said = said;
            }

            here_then : Here start.world all q (upto done ++ x ∷ []) next
            here_then = record {
              holds = holds_then;
              hop = plain_hop start.world q (upto done ++ x ∷ []) next holds_then;
              plain = plain_hops start.world q (upto done ++ x ∷ []) next holds_then;
              stands = then go still (plain_hop start.world q (upto done ++ x ∷ []) next holds_then) (plain_hops start.world q (upto done ++ x ∷ []) next holds_then);
            }

    over : (rest done : List Numbered) → phase ≡ done ++ rest → (p : Moment) → On done p → IfSome (fold onward (Some p) rest) (On (done ++ rest))
    over [] done cut p on = subst (λ zs. On zs p) (sym (append-nil done)) on
    over (x ∷ rest) done cut p on = by (onward (Some p) x) (step done x rest cut p on) (λ next h. over rest (done ++ x ∷ []) (cut ∙ sym (append_assoc done (x ∷ []) rest)) next h)
      where
        by : (o : Option Moment) → IfSome o (On (done ++ x ∷ [])) → ((next : Moment) → On (done ++ x ∷ []) next → IfSome (fold onward (Some next) rest) (On ((done ++ x ∷ []) ++ rest))) →
            IfSome (fold onward o rest) (On (done ++ x ∷ rest))
        by None h ih = subst (λ o. IfSome o (On (done ++ x ∷ rest))) (sym (refused_stays rest)) tt
        by (Some next) h ih = subst (λ zs. IfSome (fold onward (Some next) rest) (On zs)) (append_assoc done (x ∷ []) rest) (ih next h)

    old_lines : AllByRecursion (λ (x : Numbered). x.0 ≤ mark) (before ++ (mark, c.Mark) ∷ [])
    old_lines = All-append (λ (x : Numbered). x.0 ≤ mark) before ((mark, c.Mark) ∷ []) (earlier 0 before (mark, c.Mark) phase all_later).0.most ((let e : mark ≤ mark = omega arith in e), tt)

    -- at the phase's last moment it stands
    pub stands_at_end : Here start.world all q all m
    stands_at_end = subst (λ zs. Here start.world all q zs m) (sym (append-nil (upto phase)) ∙ all_is phase [] (sym (append-nil phase)))
        (at_some (On phase) (fold onward (Some start) phase) m leads (over phase [] refl start (record { here = first; led = refl }))).here
      where
        first : Here start.world all q (upto []) start
        first = subst (λ zs. Here start.world all q zs start) (sym (append-nil (before ++ (mark, c.Mark) ∷ []))) (here_first before mark start marked holds old_lines all q (ltb-true mark q.line begins.later))
