-- A client is sent a request while a query stands. If it is the query's, then it begins at the client, which passes on nothing; a request of another query
-- leaves it as it was. What clients have replied stays: each saying is to a query that its client was sent before (`request_stands`).
use Rattle.std.proofs.Common.{◌≡◌, ℕ, ◌-◌, ◌==◌, ◌&&◌, ◌⊎◌, inl, inr, Bool, true, false, cond, List, [], ◌∷◌, ◌++◌, Option, Some, is_some, refl, sym, ap, ◌∙◌}
use Rattle.std.proofs.lemmas.Bool.{false≢true, false_from_ne_true, eqb-true, eq-eqb}
use Rattle.zr_id.specs.Zid.{is_named}
use Rattle.zr_msg.specs.declared.content.Parts.{Parts}
use Rattle.zr_msg.specs.declared.msg.Msg.{Msg}
use Rattle.zr_msg.specs.declared.msg.Msg.TheVariants.{Request}
use Rattle.zr_msg.specs.declared.msg.Target.{Target}
use Rattle.zr_script_spec.specs.declared.command.Act.TheVariants as c
use Rattle.zr_script_spec.specs.declared.report.ReportLine.{ReportLine}
use Rattle.zr_script_spec.specs.declared.report.ReportLine.TheVariants as line
use Rattle.zr_world_spec.specs.World.{ClientState, WorldState, router_of}
use Rattle.zr_world_spec.specs.Moments.{Numbered, Moment}
use Rattle.zr_world_spec.proofs.Names.{names, same_name}
use Rattle.zr_world_spec.proofs.Cases.{w_take, on_take}
use Rattle.zr_guarantee.specs.Queries.{Asked as Query, turn}
use Rattle.zr_guarantee.specs.Sent.{Told, told_to}
use Rattle.zr_law_queries.specs.Link.{Asked as AskedHop, Open, hop_taken}
use Rattle.zr_law_queries.specs.Numbers.{IsNewAsk}
use Rattle.zr_law_queries.specs.Query.{Tree, IsTree, Stage, OnTheWay, Here as At, has, is_child, is_not_yet, is_empty, goes_nowhere, Move, Begin, after}
use Rattle.zr_law_queries.proofs.Hops.{front_ask}
use Rattle.zr_law_numbers.specs.Waiting.{Asked, Said, waits, link_of, is_whole}
use Rattle.zr_law_numbers.proofs.Whole.{client_alone}
use Rattle.zr_law_numbers.proofs.Waits.{asks_among}
use Rattle.zr_law_replies.specs.Trees.{has_router, passes_at, tree_at}
use Rattle.zr_law_replies.specs.Stands.{is_of, is_open, asked_at, Marks, request_to, answers_at, said_in, numbered, Stands, held_by, place}
use Rattle.zr_law_replies.proofs.ToldMore.{others_add_none}
use Rattle.zr_law_replies.proofs.MarkChanges.{is_hop}
use Rattle.zr_law_replies.proofs.MarkMoves.{begin_marks}
use Rattle.zr_law_replies.proofs.StandOwn.{RowsShow, IsOnTheWay, own_asked}
use Rattle.zr_law_replies.proofs.StandRowMoves.{begin_rows}
use Rattle.zr_law_replies.proofs.StandSteps.{stands_moved}
use Rattle.zr_law_replies.proofs.ShownHops.{plain}
use Rattle.zr_law_replies.proofs.StandStep.{request_of, Begins, Here}
use Rattle.zr_law_replies.proofs.StandHere.{kids, rows_now, rows_read, row_at, still_whole}
use Rattle.zr_law_replies.proofs.SentHops as hops
use Rattle.zr_law_replies.proofs.SentHops.{Take}
use Rattle.zr_law_replies.proofs.SentAny as taken
use Rattle.zr_law_replies.proofs.StandHolds.{begin_opens}
use Rattle.std.proofs.lemmas.Option.{none-some}

module _ (before : List Numbered) (mark : ℕ) (start : Moment) (q : Query) (b : Begins before mark start q) (phase acts : List Numbered) (m : Moment) (here : Here start.world phase q acts m)
    (n : ℕ) (to : List ℕ) (s : ClientState) (named : Option (List ℕ)) (id : ℕ) (target : Target) (content : Parts) (tag : ℕ)
    (k : Take start.world phase q acts m here to s (Request named id target content) tag) where
  abbrev w₀ : WorldState
  w₀ = start.world

  abbrev w : WorldState
  w = m.world

  abbrev msg : Msg
  msg = Request named id target content

  abbrev v : WorldState
  v = w_take m.world s.router to k.e (Request named id target content) tag k.xs

  abbrev t : Told
  t = record { msg = Request named id target content; tag = tag }

  abbrev acts' : List Numbered
  acts' = acts ++ (n, c.Take s.router to) ∷ []

  abbrev rl : List ReportLine
  rl = line.Taken s.router to (Request named id target content) tag ∷ []

  abbrev report' : List ReportLine
  report' = m.report ++ line.Taken s.router to (Request named id target content) tag ∷ []

  abbrev next : Moment
  next = on_take m s.router to k.e (Request named id target content) tag k.xs

  abbrev tree : Tree (List ℕ)
  tree = tree_at start.world q

  abbrev is : IsTree (tree_at start.world q)
  is = b.tree.is_tree

  abbrev st : Stands start.world phase q acts m here.hop
  st = here.stands

  abbrev request : Asked
  request = record { line = tag; tree = named; target = target; content = content }

  -- ---- the hop

  there : is_whole w s.router to ≡ true
  there = hops.below start.world q phase acts m here to s msg tag k

  there₀ : is_whole w₀ s.router to ≡ true
  there₀ = sym (still_whole w₀ w st.still s.router to) ∙ there

  front : IsNewAsk (link_of w s.router to) (here.hop s.router to) id request (asks_among (waits v s.router to))
  front = front_ask (link_of w s.router to) (here.hop s.router to) (here.plain.shows s.router to there) id request (asks_among (waits v s.router to))
      (ap asks_among (hops.came start.world q phase acts m here to s msg tag k))

  hop_was : here.hop s.router to id ≡ AskedHop request front.hop.0
  hop_was = front.hop.1

  lower_then : (j : ℕ) → k.hop s.router to j ≡ plain (request_of w₀ q to) (cond (id == j) (hop_taken (here.hop s.router to j)) (here.hop s.router to j))
  lower_then j = hops.lower_then start.world q phase acts m here to s msg tag k j

  hop_is : k.hop s.router to id ≡ Open (request_of w₀ q to tag) front.hop.0 [] false
  hop_is = lower_then id ∙ ap (λ c. plain (request_of w₀ q to) (cond c (hop_taken (here.hop s.router to id)) (here.hop s.router to id))) (eq-eqb id id refl)
      ∙ ap (λ h. plain (request_of w₀ q to) (hop_taken h)) hop_was

  -- no other changes
  same : (x y : List ℕ) (j : ℕ) → is_whole w₀ x y ≡ true → is_hop s.router to id x y j ≡ false → k.hop x y j ≡ here.hop x y j
  same x y j = λ whole. hops.by_links start.world q phase acts m here to s msg tag k (λ a d. is_hop s.router to id a d j ≡ false → k.hop a d j ≡ here.hop a d j)
      (λ e. hops.upper_then start.world q phase acts m here to s msg tag k j ∙ here.plain.taken to s.router j) (λ e. down (sym (λ i. names.refl s.router i && (names.refl to i && id == j)) ∙ e)) (λ a d still e. still j) x y whole
    where
      down : (id == j) ≡ false → k.hop s.router to j ≡ here.hop s.router to j
      down e = lower_then j ∙ ap (λ c. plain (request_of w₀ q to) (cond c (hop_taken (here.hop s.router to j)) (here.hop s.router to j))) e ∙ here.plain.taken s.router to j

  -- ---- another query's

  others : (tag == q.line) ≡ false → Stands w₀ phase q acts' next k.hop
  others other =
      taken.stands_on before mark start q b phase acts m here n to s msg tag k
      (taken.others_marks before mark start q b phase acts m here n to s msg tag k s.router to id (λ x y j whole e. same x y j whole e) (ap (is_of q.line) hop_was ∙ other) (ap (is_of q.line) hop_is ∙ other))
      (λ e o. refl) (λ e asked. others_add_none q.number (turn acts q - 1) (told_to m.report q.client) t refl)

  -- ---- the query's own

  module _ (own : (tag == q.line) ≡ true) where
    on : IsOnTheWay tree (request_to w₀ q) q.line (is_whole w₀) st.num st.stage here.hop st.marks s.router to id there₀ request front.hop.0
    on = own_asked tree (request_to w₀ q) q.line (is_whole w₀) st.num st.stage here.hop st.marks s.router to id there₀ request front.hop.0 hop_was own

    not_root : q.client ≡ to → ⊥
    not_root e = false≢true (sym (is.top s.router) ∙ ap (is_child tree s.router) e ∙ on.child)

    root_apart : is_named q.client to ≡ false
    root_apart = false_from_ne_true (is_named q.client to) (λ e. not_root (same_name q.client to e))

    leaf : passes_at w₀ q.client to ≡ false
    leaf = taken.passes_is before mark start q b phase acts m here n to s msg tag k ∙ root_apart

    parent : tree.parent to ≡ s.router
    parent = is.parent s.router to on.child

    abbrev move : Move (tree_at start.world q) st.stage
    move = Begin to (inl on.stage_is)

    abbrev num' : List ℕ → ℕ
    num' = numbered tree st.num (tree.children to) st.num

    abbrev stage' : List ℕ → Stage Said
    stage' = after tree st.stage move

    no_child : (y : List ℕ) → is_child tree to y ≡ false
    no_child y = ap (λ ys. has tree ys y) (is.leaf to leaf)

    marks_then : Marks tree (request_to w₀ q) q.line (is_whole w₀) num' stage' k.hop
    marks_then =
        begin_marks tree is (request_to w₀ q) q.line (λ y. refl) (is_whole w₀) (kids before mark start q b) st.num st.stage here.hop k.hop st.marks st.sound to (inl on.stage_is)
        (inr (ap (λ z. is_child tree z to) parent ∙ on.child)) st.num (λ a d j whole reached e. same_at a d j whole reached) above (λ y kid. absurd (false≢true (sym (no_child y) ∙ kid)))
      where
        same_at : (a d : List ℕ) (j : ℕ) → is_whole w₀ a d ≡ true → (to ≡ q.client) ⊎ (is_hop (tree.parent to) to (st.num to) a d j ≡ false) → k.hop a d j ≡ here.hop a d j
        same_at a d j whole (inl root) = absurd (not_root (sym root))
        same_at a d j whole (inr e) = same a d j whole (ap (λ z. is_hop z to id a d j) (sym parent) ∙ ap (λ z. is_hop (tree.parent to) to z a d j) on.number ∙ e)

        above : is_child tree (tree.parent to) to ≡ true → k.hop (tree.parent to) to (st.num to) ≡ Open (request_to w₀ q to) (Some (asked_at tree st.num (tree.parent to))) [] (goes_nowhere tree to)
        above kid =
            ap (λ z. k.hop z to (st.num to)) parent ∙ ap (k.hop s.router to) (sym on.number) ∙ hop_is
            ∙ ap (λ z. Open (request_of w₀ q to z) front.hop.0 [] false) (eqb-true tag q.line own)
            ∙ ap (λ z. Open (request_to w₀ q to) z [] false) (on.by_is ∙ ap (λ z. Some (asked_at tree st.num z)) (sym parent))
            ∙ ap (λ c. Open (request_to w₀ q to) (Some (asked_at tree st.num (tree.parent to))) [] (c && is_empty (tree.children to))) (sym leaf)

    rows_then : RowsShow tree num' stage' (has_router w) (row_at w)
    rows_then =
        begin_rows tree is st.num st.stage st.sound to (inl on.stage_is) st.num (has_router w) (row_at w)
        (row_at w) (rows_now before mark start q b phase acts m here)
        (λ routes nowhere. absurd (false≢true (sym (ap is_some (client_alone w here.holds.go.0.orderly to s k.found)) ∙ routes))) (λ z routes o other. refl)

    -- the client that asks stays as it is
    root_same : stage' q.client ≡ st.stage q.client
    root_same = ap (λ c. cond c (At [] (goes_nowhere tree to)) (cond (is_child tree to q.client) OnTheWay (st.stage q.client))) (names.symm to q.client ∙ root_apart)
        ∙ ap (λ c. cond c OnTheWay (st.stage q.client)) (no_child q.client)

    own_stands : Stands w₀ phase q acts' next k.hop
    own_stands =
        stands_moved w₀ phase q acts acts' m next here.hop k.hop st k.still is move num' marks_then
        (record {
          rows = λ y r e o. rows_read w tree num' stage' rows_then y r e o;
          holds = λ y r e o.
              let other = false_from_ne_true (tree.same to y) (λ same. none-some r (sym (client_alone w here.holds.go.0.orderly to s k.found) ∙ ap (router_of w.routers) (is.decides to y same) ∙ e)) in
              let open_ = begin_opens tree is st.stage st.sound to (inl on.stage_is) y other o in
              ap (λ c. held_by r (place (tree.parent y) (cond c (st.num y) (st.num y)))) open_.0 ∙ st.holds y r e open_.1;
          number = number_same (has tree (tree.children to) q.client) ∙ st.number;
          asked = taken.asked_then before mark start q b phase acts m here n to s msg tag k stage' (ap is_not_yet root_same);
          waits = λ z found o. taken.waits_then before mark start q b phase acts m here n to s msg tag k stage' (λ p. ap is_open (sym root_same) ∙ p) (λ e p. refl) z found o;
          told = λ asked. taken.told_others before mark start q b phase acts m here n to s msg tag k root_apart ∙ st.told (ap is_not_yet (sym root_same) ∙ asked) ∙ ap (answers_at q.number) (sym root_same);
        })
        (λ d ys ends. tt) (λ d ends. ap said_in (taken.replies_still before mark start q b phase acts m here n to s msg tag k d)) (λ d ends. taken.ended_still before mark start q b phase acts m here n to s msg tag k d)
      where
        number_same : (c : Bool) → cond c (st.num q.client) (st.num q.client) ≡ st.num q.client
        number_same true = refl
        number_same false = refl

  pub request_stands : Stands w₀ phase q acts' next k.hop
  request_stands = by (tag == q.line) refl
    where
      by : (c : Bool) → (tag == q.line) ≡ c → Stands w₀ phase q acts' next k.hop
      by true e = own_stands e
      by false e = others e
