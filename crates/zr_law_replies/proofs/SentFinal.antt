-- A client is sent a final while a query stands. If it is the query's, then the client is the one that asks, and the query is over there; a final of another
-- query comes in another turn, or under another number, or to another client, and leaves the query as it was (`final_stands`).
use Rattle.std.proofs.Common.{◌≡◌, ℕ, ◌-◌, ◌==◌, ◌&&◌, inl, Bool, true, false, cond, List, [], ◌∷◌, ◌++◌, None, is_some, refl, sym, ap, ◌∙◌, append-nil, subst}
use Rattle.std.proofs.lemmas.Bool.{false≢true, true≢false, eqb-true, eq-eqb}
use Rattle.zr_id.specs.Zid.{is_named}
use Rattle.zr_msg.specs.declared.extras.Extras.{Extras}
use Rattle.zr_msg.specs.declared.msg.Msg.{Msg}
use Rattle.zr_msg.specs.declared.msg.Msg.TheVariants.{Final}
use Rattle.zr_script_spec.specs.declared.command.Act.TheVariants as c
use Rattle.zr_script_spec.specs.declared.report.ReportLine.{ReportLine}
use Rattle.zr_script_spec.specs.declared.report.ReportLine.TheVariants as line
use Rattle.zr_world_spec.specs.World.{ClientState, WorldState, router_of}
use Rattle.zr_world_spec.specs.Moments.{Numbered, Moment}
use Rattle.zr_world_spec.proofs.Names.{names, same_name}
use Rattle.zr_world_spec.proofs.Cases.{w_take, on_take}
use Rattle.zr_guarantee.specs.Queries.{Asked as Query, turn}
use Rattle.zr_guarantee.specs.Sent.{Told, told_to}
use Rattle.zr_law_queries.specs.Link.{final, Free, Open}
use Rattle.zr_law_queries.specs.Numbers.{IsLastFinal}
use Rattle.zr_law_queries.specs.Query.{Tree, IsTree, Stage, Here as At, Over, is_child, is_not_yet, is_over, replies_at, all_over, with_one, Move, Close, after, closes, ReleasesIf}
use Rattle.zr_law_queries.proofs.Hops.{front_final}
use Rattle.zr_law_queries.proofs.Moves.{is_not_yet_is}
use Rattle.zr_law_numbers.specs.Waiting.{Said, waits, link_of, is_whole}
use Rattle.zr_law_numbers.proofs.Whole.{client_alone}
use Rattle.zr_law_numbers.proofs.Waits.{answers_among}
use Rattle.zr_law_replies.specs.Answers.{told_in_turn}
use Rattle.zr_law_replies.specs.Trees.{has_router, tree_at}
use Rattle.zr_law_replies.specs.Stands.{is_of, is_open, Marks, request_to, answers_told, answers_at, said_in, Stands, latest_release}
use Rattle.zr_law_replies.proofs.ToldMore.{told_now, answers_more, with_end}
use Rattle.zr_law_replies.proofs.MarkChanges.{is_hop}
use Rattle.zr_law_replies.proofs.MarkMoves.{close_marks}
use Rattle.zr_law_replies.proofs.StandOwn.{RowsShow}
use Rattle.zr_law_replies.proofs.StandRowMoves.{close_rows}
use Rattle.zr_law_replies.proofs.StandSteps.{stands_moved}
use Rattle.zr_law_replies.proofs.ShownHops.{plain}
use Rattle.zr_law_replies.proofs.StandStep.{request_of, Begins, Here}
use Rattle.zr_law_replies.proofs.StandHere.{kids, rows_now, rows_read, row_at}
use Rattle.zr_law_replies.proofs.SentHops as hops
use Rattle.zr_law_replies.proofs.SentHops.{Take}
use Rattle.zr_law_replies.proofs.SentAny as taken
use Rattle.zr_law_replies.proofs.SentOwner as open_
use Rattle.zr_law_replies.proofs.StandHolds.{opens, root_plain}

module _ (before : List Numbered) (mark : ℕ) (start : Moment) (q : Query) (b : Begins before mark start q) (phase acts : List Numbered) (m : Moment) (here : Here start.world phase q acts m)
    (n : ℕ) (to : List ℕ) (s : ClientState) (id : ℕ) (extras : Extras) (tag : ℕ) (k : Take start.world phase q acts m here to s (Final id extras) tag) where
  abbrev w₀ : WorldState
  w₀ = start.world

  abbrev w : WorldState
  w = m.world

  abbrev msg : Msg
  msg = Final id extras

  abbrev v : WorldState
  v = w_take m.world s.router to k.e (Final id extras) tag k.xs

  abbrev t : Told
  t = record { msg = Final id extras; tag = tag }

  abbrev acts' : List Numbered
  acts' = acts ++ (n, c.Take s.router to) ∷ []

  abbrev report' : List ReportLine
  report' = m.report ++ line.Taken s.router to (Final id extras) tag ∷ []

  abbrev next : Moment
  next = on_take m s.router to k.e (Final id extras) tag k.xs

  abbrev tree : Tree (List ℕ)
  tree = tree_at start.world q

  abbrev is : IsTree (tree_at start.world q)
  is = b.tree.is_tree

  abbrev st : Stands start.world phase q acts m here.hop
  st = here.stands

  -- ---- the hop

  there : is_whole w to s.router ≡ true
  there = hops.above start.world q phase acts m here to s msg tag k

  front : IsLastFinal (link_of w to s.router) (here.hop to s.router) id (answers_among (waits v s.router to))
  front = front_final (link_of w to s.router) (here.hop to s.router) (here.plain.shows to s.router there) id (answers_among (waits v s.router to))
      (ap answers_among (hops.came start.world q phase acts m here to s msg tag k))

  hop_was : here.hop to s.router id ≡ Open front.request front.by [] true
  hop_was = front.hop

  upper_then : (j : ℕ) → k.hop to s.router j ≡ plain (request_of w₀ q s.router) (cond (id == j) Free (here.hop to s.router j))
  upper_then j = hops.upper_then start.world q phase acts m here to s msg tag k j

  hop_is : k.hop to s.router id ≡ Free
  hop_is = upper_then id ∙ ap (λ c. plain (request_of w₀ q s.router) (cond c Free (here.hop to s.router id))) (eq-eqb id id refl)

  -- no other changes
  same : (x y : List ℕ) (j : ℕ) → is_whole w₀ x y ≡ true → is_hop to s.router id x y j ≡ false → k.hop x y j ≡ here.hop x y j
  same x y j = λ whole. hops.by_links start.world q phase acts m here to s msg tag k (λ a d. is_hop to s.router id a d j ≡ false → k.hop a d j ≡ here.hop a d j)
      (λ e. up (sym (λ i. names.refl to i && (names.refl s.router i && id == j)) ∙ e)) (λ e. hops.lower_then start.world q phase acts m here to s msg tag k j ∙ here.plain.taken s.router to j) (λ a d still e. still j) x y whole
    where
      up : (id == j) ≡ false → k.hop to s.router j ≡ here.hop to s.router j
      up e = upper_then j ∙ ap (λ c. plain (request_of w₀ q s.router) (cond c Free (here.hop to s.router j))) e ∙ here.plain.taken to s.router j

  -- ---- another query's

  others : (front.request.line == q.line) ≡ false → Stands w₀ phase q acts' next k.hop
  others other =
      taken.stands_on before mark start q b phase acts m here n to s msg tag k
      (taken.others_marks before mark start q b phase acts m here n to s msg tag k to s.router id (λ x y j whole e. same x y j whole e) (ap (is_of q.line) hop_was ∙ other) (ap (is_of q.line) hop_is))
      (λ e o. no_final (sym (same_name to q.client e)) o (id == q.number) refl) (λ e begun. open_.told_same before mark start q b phase acts m here n to s msg tag k id front.request front.by [] true hop_was other (λ e. ap (λ c. cond c (final {R = Said} id ∷ []) []) e) (same_name q.client to e) begun)
    where
      open_begun : (u : Stage Said) → is_open u ≡ true → is_not_yet u ≡ false
      open_begun u o = at (is_not_yet u) refl
        where
          at : (c : Bool) → is_not_yet u ≡ c → c ≡ false
          at false e = refl
          at true e = absurd (false≢true (sym (ap is_open (is_not_yet_is u e)) ∙ o))

      no_final : q.client ≡ to → is_open (st.stage q.client) ≡ true → (c : Bool) → (id == q.number) ≡ c → c ≡ false
      no_final asks_it o false e = refl
      no_final asks_it o true e = absurd (true≢false (sym o ∙ open_.is_done before mark start q b phase acts m here n to s msg tag k id front.request front.by [] true hop_was asks_it (eqb-true id q.number e) other (open_begun (st.stage q.client) o)))

  -- ---- the query's own

  module _ (own : (front.request.line == q.line) ≡ true) where
    mine : open_.IsOwn before mark start q b phase acts m here n to s msg tag k id front.request front.by [] true hop_was
    mine = open_.own_is before mark start q b phase acts m here n to s msg tag k id front.request front.by [] true hop_was own

    abbrev move : Move (tree_at start.world q) st.stage
    move = Close q.client s.router [] mine.child mine.stage_is

    abbrev stage' : List ℕ → Stage Said
    stage' = after tree st.stage move

    -- the client's router is its only child
    all_done : all_over (with_one tree st.stage s.router Over) (tree.children q.client) ≡ true
    all_done = ap (all_over (with_one tree st.stage s.router Over)) (open_.only_child before mark start q b phase acts m here n to s msg tag k mine.asks_it)
        ∙ ap (λ c. is_over (cond c Over (st.stage s.router)) && true) (names.refl s.router)

    client_apart : router_of w.routers q.client ≡ None
    client_apart = ap (router_of w.routers) mine.asks_it ∙ client_alone w here.holds.go.0.orderly to s k.found

    marks_then : Marks tree (request_to w₀ q) q.line (is_whole w₀) st.num stage' k.hop
    marks_then =
        close_marks tree is (request_to w₀ q) q.line (λ y. refl) (is_whole w₀) (kids before mark start q b) st.num st.stage here.hop k.hop st.marks q.client s.router mine.child (inl refl)
        (λ x y j whole e o. same x y j whole (ap (λ z. is_hop z s.router id x y j) (sym mine.asks_it) ∙ ap (λ z. is_hop q.client s.router z x y j) mine.place_is ∙ e)) [] mine.stage_is
        (ap (λ z. is_of q.line (k.hop z s.router (st.num s.router))) mine.asks_it ∙ ap (λ z. is_of q.line (k.hop to s.router z)) (sym mine.place_is) ∙ ap (is_of q.line) hop_is)
        (λ up. absurd (false≢true (sym (is.top (tree.parent q.client)) ∙ up)))

    rows_then : RowsShow tree st.num stage' (has_router w) (row_at w)
    rows_then =
        close_rows tree is st.num st.stage st.sound q.client s.router mine.child (has_router w) (row_at w)
        (row_at w) (rows_now before mark start q b phase acts m here) [] mine.stage_is
        (λ routes. absurd (false≢true (sym (ap is_some client_apart) ∙ routes))) (λ z routes o other. refl)

    root_then : stage' q.client ≡ At (replies_at (st.stage q.client)) true
    root_then =
        ap (λ c. cond c (At (replies_at (st.stage q.client) ++ []) (closes tree st.stage q.client s.router))
        (cond (is_child tree q.client q.client) (with_one tree st.stage s.router Over q.client) (st.stage q.client))) (names.refl q.client)
        ∙ ap (λ z. At z (closes tree st.stage q.client s.router)) (append-nil (replies_at (st.stage q.client))) ∙ ap (At (replies_at (st.stage q.client))) all_done

    begun : is_not_yet (st.stage q.client) ≡ false
    begun = ap is_not_yet mine.root_open

    told_own : answers_told q.number (told_in_turn q.number (turn acts' q - 1) (told_to report' q.client)) ≡ answers_at q.number (stage' q.client)
    told_own =
        taken.told_own before mark start q b phase acts m here n to s msg tag k (ap (is_named q.client) (sym mine.asks_it) ∙ names.refl q.client)
        ∙ ap (answers_told q.number) (told_now q.number (turn acts q - 1) (told_to m.report q.client) t
        (open_.is_now before mark start q b phase acts m here n to s msg tag k id front.request front.by [] true hop_was mine.asks_it mine.number (replies_at (st.stage q.client)) mine.root_open))
        ∙ answers_more q.number (told_in_turn q.number (turn acts q - 1) (told_to m.report q.client)) t
        ∙ (λ i. (st.told begun ∙ ap (answers_at q.number) mine.root_open) i ++ cond (eq-eqb id q.number mine.number i) (final {R = Said} (mine.number i) ∷ []) [])
        ∙ sym (with_end q.number (replies_at (st.stage q.client))) ∙ ap (answers_at q.number) (sym root_then)

    own_stands : Stands w₀ phase q acts' next k.hop
    own_stands =
        stands_moved w₀ phase q acts acts' m next here.hop k.hop st k.still is move st.num marks_then
        (record {
          rows = λ y r e o. rows_read w tree st.num stage' rows_then y r e o;
          holds = λ y r e o. st.holds y r e (opens tree is st.stage st.sound move tt y o);
          number = st.number;
          asked = taken.asked_then before mark start q b phase acts m here n to s msg tag k stage' (ap is_not_yet root_then ∙ sym begun);
          waits = λ z found o. absurd (false≢true (sym (ap is_open root_then) ∙ o));
          told = λ asked. told_own;
        })
        (λ d ys ends. subst (λ c. ReleasesIf (c && closes tree st.stage q.client s.router) latest_release st.got []) (sym (root_plain w₀ q is)) refl) (λ d ends. ap said_in (taken.replies_still before mark start q b phase acts m here n to s msg tag k d)) (λ d ends. taken.ended_still before mark start q b phase acts m here n to s msg tag k d)

  pub final_stands : Stands w₀ phase q acts' next k.hop
  final_stands = by (front.request.line == q.line) refl
    where
      by : (c : Bool) → (front.request.line == q.line) ≡ c → Stands w₀ phase q acts' next k.hop
      by true e = own_stands e
      by false e = others e
