-- A client is sent a reply while a query stands. If it is the query's, then the client is the one that asks and has one reply more; a reply of another query
-- comes in another turn, or under another number, or to another client, and leaves the query as it was (`reply_stands`).
use Rattle.std.proofs.Common.{◌≡◌, ℕ, ◌-◌, ◌==◌, ◌&&◌, inl, Bool, true, false, cond, List, [], ◌∷◌, ◌++◌, Some, refl, sym, ap, ◌∙◌}
use Rattle.std.proofs.lemmas.Bool.{false≢true, eq-eqb}
use Rattle.zr_id.specs.Zid.{is_named}
use Rattle.zr_msg.specs.declared.content.Parts.{Parts}
use Rattle.zr_msg.specs.declared.msg.Msg.{Msg}
use Rattle.zr_msg.specs.declared.msg.Msg.TheVariants.{Response}
use Rattle.zr_script_spec.specs.declared.command.Act.TheVariants as c
use Rattle.zr_script_spec.specs.declared.report.ReportLine.{ReportLine}
use Rattle.zr_script_spec.specs.declared.report.ReportLine.TheVariants as line
use Rattle.zr_world_spec.specs.World.{ClientState, WorldState}
use Rattle.zr_world_spec.specs.Moments.{Numbered, Moment}
use Rattle.zr_world_spec.proofs.Names.{names, same_name}
use Rattle.zr_world_spec.proofs.Cases.{w_take, on_take}
use Rattle.zr_guarantee.specs.Queries.{Asked as Query, turn}
use Rattle.zr_guarantee.specs.Sent.{Told, told_to}
use Rattle.zr_law_queries.specs.Link.{reply, Open, hop_heard}
use Rattle.zr_law_queries.specs.Numbers.{IsFirstReply}
use Rattle.zr_law_queries.specs.Query.{Tree, IsTree, Stage, Here as At, is_child, is_not_yet, replies_at, with_one, Move, Pass, after, passed_on}
use Rattle.zr_law_queries.proofs.Hops.{front_reply}
use Rattle.zr_law_numbers.specs.Waiting.{Asked, Said, waits, link_of, is_whole}
use Rattle.zr_law_numbers.proofs.Waits.{answers_among}
use Rattle.zr_law_replies.specs.Answers.{told_in_turn}
use Rattle.zr_law_replies.specs.Trees.{has_router, tree_at}
use Rattle.zr_law_replies.specs.Stands.{is_of, is_open, asked_at, Marks, request_to, answers_told, answers_at, said_in, Stands, held_if}
use Rattle.zr_law_replies.proofs.ToldMore.{told_now, answers_more, with_reply}
use Rattle.zr_law_replies.proofs.MarkChanges.{is_hop}
use Rattle.zr_law_replies.proofs.MarkMoves.{pass_marks}
use Rattle.zr_law_replies.proofs.StandOwn.{RowsShow}
use Rattle.zr_law_replies.proofs.StandRowMoves.{pass_rows}
use Rattle.zr_law_replies.proofs.StandSteps.{stands_moved}
use Rattle.zr_law_replies.proofs.ShownHops.{plain}
use Rattle.zr_law_replies.proofs.StandStep.{request_of, Begins, Here}
use Rattle.zr_law_replies.proofs.StandHere.{kids, rows_now, rows_read, row_at}
use Rattle.zr_law_replies.proofs.SentHops as hops
use Rattle.zr_law_replies.proofs.SentHops.{Take}
use Rattle.zr_law_replies.proofs.SentAny as taken
use Rattle.zr_law_replies.proofs.SentOwner as open_
use Rattle.zr_law_replies.proofs.StandHolds.{opens, root_plain}

module _ (before : List Numbered) (mark : ℕ) (start : Moment) (q : Query) (b : Begins before mark start q) (phase acts : List Numbered) (m : Moment) (here : Here start.world phase q acts m)
    (n : ℕ) (to : List ℕ) (s : ClientState) (id : ℕ) (content : Parts) (tag : ℕ) (k : Take start.world phase q acts m here to s (Response id content) tag) where
  abbrev w₀ : WorldState
  w₀ = start.world

  abbrev w : WorldState
  w = m.world

  abbrev msg : Msg
  msg = Response id content

  abbrev v : WorldState
  v = w_take m.world s.router to k.e (Response id content) tag k.xs

  abbrev t : Told
  t = record { msg = Response id content; tag = tag }

  abbrev said : Said
  said = record { line = tag; content = content }

  abbrev acts' : List Numbered
  acts' = acts ++ (n, c.Take s.router to) ∷ []

  abbrev report' : List ReportLine
  report' = m.report ++ line.Taken s.router to (Response id content) tag ∷ []

  abbrev next : Moment
  next = on_take m s.router to k.e (Response id content) tag k.xs

  abbrev tree : Tree (List ℕ)
  tree = tree_at start.world q

  abbrev is : IsTree (tree_at start.world q)
  is = b.tree.is_tree

  abbrev st : Stands start.world phase q acts m here.hop
  st = here.stands

  -- ---- the hop

  there : is_whole w to s.router ≡ true
  there = hops.above start.world q phase acts m here to s msg tag k

  front : IsFirstReply (link_of w to s.router) (here.hop to s.router) id said (answers_among (waits v s.router to))
  front = front_reply (link_of w to s.router) (here.hop to s.router) (here.plain.shows to s.router there) id said (answers_among (waits v s.router to))
      (ap answers_among (hops.came start.world q phase acts m here to s msg tag k))

  hop_was : here.hop to s.router id ≡ Open front.request front.by (said ∷ front.replies) front.done
  hop_was = front.hop

  upper_then : (j : ℕ) → k.hop to s.router j ≡ plain (request_of w₀ q s.router) (cond (id == j) (hop_heard (here.hop to s.router j)) (here.hop to s.router j))
  upper_then j = hops.upper_then start.world q phase acts m here to s msg tag k j

  hop_is : k.hop to s.router id ≡ Open (request_of w₀ q s.router front.request.line) front.by front.replies front.done
  hop_is = upper_then id ∙ ap (λ c. plain (request_of w₀ q s.router) (cond c (hop_heard (here.hop to s.router id)) (here.hop to s.router id))) (eq-eqb id id refl)
      ∙ ap (λ h. plain (request_of w₀ q s.router) (hop_heard h)) hop_was

  -- no other changes
  same : (x y : List ℕ) (j : ℕ) → is_whole w₀ x y ≡ true → is_hop to s.router id x y j ≡ false → k.hop x y j ≡ here.hop x y j
  same x y j = λ whole. hops.by_links start.world q phase acts m here to s msg tag k (λ a d. is_hop to s.router id a d j ≡ false → k.hop a d j ≡ here.hop a d j)
      (λ e. up (sym (λ i. names.refl to i && (names.refl s.router i && id == j)) ∙ e)) (λ e. hops.lower_then start.world q phase acts m here to s msg tag k j ∙ here.plain.taken s.router to j) (λ a d still e. still j) x y whole
    where
      up : (id == j) ≡ false → k.hop to s.router j ≡ here.hop to s.router j
      up e = upper_then j ∙ ap (λ c. plain (request_of w₀ q s.router) (cond c (hop_heard (here.hop to s.router j)) (here.hop to s.router j))) e ∙ here.plain.taken to s.router j

  -- ---- another query's

  others : (front.request.line == q.line) ≡ false → Stands w₀ phase q acts' next k.hop
  others other =
      taken.stands_on before mark start q b phase acts m here n to s msg tag k
      (taken.others_marks before mark start q b phase acts m here n to s msg tag k to s.router id (λ x y j whole e. same x y j whole e) (ap (is_of q.line) hop_was ∙ other) (ap (is_of q.line) hop_is ∙ other))
      (λ e o. refl) (λ e begun. open_.told_same before mark start q b phase acts m here n to s msg tag k id front.request front.by (said ∷ front.replies) front.done hop_was other (λ e. ap (λ c. cond c (reply {R = Said} id said ∷ []) []) e) (same_name q.client to e) begun)

  -- ---- the query's own

  module _ (own : (front.request.line == q.line) ≡ true) where
    mine : open_.IsOwn before mark start q b phase acts m here n to s msg tag k id front.request front.by (said ∷ front.replies) front.done hop_was
    mine = open_.own_is before mark start q b phase acts m here n to s msg tag k id front.request front.by (said ∷ front.replies) front.done hop_was own

    abbrev move : Move (tree_at start.world q) st.stage
    move = Pass q.client s.router said front.replies front.done mine.child mine.stage_is

    abbrev stage' : List ℕ → Stage Said
    stage' = after tree st.stage move

    marks_then : Marks tree (request_to w₀ q) q.line (is_whole w₀) st.num stage' k.hop
    marks_then =
        pass_marks tree is (request_to w₀ q) q.line (λ y. refl) (is_whole w₀) (kids before mark start q b) st.num st.stage here.hop k.hop st.marks q.client s.router mine.child (inl refl)
        (λ x y j whole e o. same x y j whole (ap (λ z. is_hop z s.router id x y j) (sym mine.asks_it) ∙ ap (λ z. is_hop q.client s.router z x y j) mine.place_is ∙ e)) said front.replies front.done mine.stage_is shows
        (λ up. absurd (false≢true (sym (is.top (tree.parent q.client)) ∙ up)))
      where
        shows : k.hop q.client s.router (st.num s.router) ≡ Open (request_to w₀ q s.router) (Some (asked_at tree st.num q.client)) front.replies front.done
        shows =
            ap (λ z. k.hop z s.router (st.num s.router)) mine.asks_it ∙ ap (k.hop to s.router) (sym mine.place_is) ∙ hop_is
            ∙ ap (λ (z : Asked). Open (request_of w₀ q s.router z.line) front.by front.replies front.done) mine.request_is ∙ ap (λ z. Open (request_to w₀ q s.router) z front.replies front.done) mine.by_is

    rows_then : RowsShow tree st.num stage' (has_router w) (row_at w)
    rows_then =
        pass_rows tree is st.num st.stage st.sound q.client s.router mine.child (has_router w) (row_at w)
        (row_at w) (rows_now before mark start q b phase acts m here) said front.replies front.done mine.stage_is (λ z routes o. refl)

    plain_root : tree.gathers q.client ≡ false
    plain_root = root_plain w₀ q is

    root_then : stage' q.client ≡ At (replies_at (st.stage q.client) ++ said ∷ []) false
    root_then = ap (λ c. cond c (At (replies_at (st.stage q.client) ++ passed_on tree q.client said) false) (cond (is_child tree q.client q.client) (with_one tree st.stage s.router (At front.replies front.done) q.client) (st.stage q.client)))
        (names.refl q.client)
        ∙ ap (λ c. At (replies_at (st.stage q.client) ++ cond c [] (said ∷ [])) false) plain_root

    begun : is_not_yet (st.stage q.client) ≡ false
    begun = ap is_not_yet mine.root_open

    told_own : answers_told q.number (told_in_turn q.number (turn acts' q - 1) (told_to report' q.client)) ≡ answers_at q.number (stage' q.client)
    told_own =
        taken.told_own before mark start q b phase acts m here n to s msg tag k (ap (is_named q.client) (sym mine.asks_it) ∙ names.refl q.client)
        ∙ ap (answers_told q.number) (told_now q.number (turn acts q - 1) (told_to m.report q.client) t
        (open_.is_now before mark start q b phase acts m here n to s msg tag k id front.request front.by (said ∷ front.replies) front.done hop_was mine.asks_it mine.number (replies_at (st.stage q.client)) mine.root_open))
        ∙ answers_more q.number (told_in_turn q.number (turn acts q - 1) (told_to m.report q.client)) t
        ∙ (λ i. (st.told begun ∙ ap (answers_at q.number) mine.root_open) i ++ cond (eq-eqb id q.number mine.number i) (reply {R = Said} (mine.number i) said ∷ []) [])
        ∙ sym (with_reply q.number (replies_at (st.stage q.client)) said) ∙ ap (answers_at q.number) (sym root_then)

    own_stands : Stands w₀ phase q acts' next k.hop
    own_stands =
        stands_moved w₀ phase q acts acts' m next here.hop k.hop st k.still is move st.num marks_then
        (record {
          rows = λ y r e o. rows_read w tree st.num stage' rows_then y r e o;
          holds = λ y r e o. st.holds y r e (opens tree is st.stage st.sound move tt y o) ∙ ap (λ c. held_if (tree.gathers y) (cond c (st.got ++ said ∷ []) st.got)) (sym plain_root);
          number = st.number;
          asked = taken.asked_then before mark start q b phase acts m here n to s msg tag k stage' (ap is_not_yet root_then ∙ sym begun);
          waits = λ z found o. taken.waits_then before mark start q b phase acts m here n to s msg tag k stage' (λ p. ap is_open mine.root_open) (λ e p. refl) z found o;
          told = λ asked. told_own;
        })
        (λ d ys ends. tt) (λ d ends. ap said_in (taken.replies_still before mark start q b phase acts m here n to s msg tag k d)) (λ d ends. taken.ended_still before mark start q b phase acts m here n to s msg tag k d)

  pub reply_stands : Stands w₀ phase q acts' next k.hop
  reply_stands = by (front.request.line == q.line) refl
    where
      by : (c : Bool) → (front.request.line == q.line) ≡ c → Stands w₀ phase q acts' next k.hop
      by true e = own_stands e
      by false e = others e
