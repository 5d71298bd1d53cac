-- A client asks: if it asks the query, that begins at its client; and if it asks another one, the query stands as before (`get_stands`).
use Rattle.std.proofs.Common.{◌≡◌, ◌≤◌, ◌<◌, ℕ, suc, ◌-◌, ◌==◌, ◌&&◌, ◌||◌, Bool, true, false, cond, List, [], ◌∷◌, ◌++◌, Some, None, inl, inr, refl, sym, ap, ◌∙◌, arith}
use Rattle.std.specs.Prelude.{not, IfSome, if◌then◌else◌, is_some}
use Rattle.std.specs.List.{AllByRecursion, list_any}
use Rattle.std.proofs.lemmas.Bool.{false≢true, true≢false, eqb-true, eq-eqb, and_right, and_from, or_left, or_right, false_from_ne_true}
use Rattle.std.proofs.lemmas.List.Folds.{list_any-append}
use Rattle.zr_id.specs.Zid.{is_named}
use Rattle.zr_msg.specs.declared.content.Parts.{Parts}
use Rattle.zr_msg.specs.declared.msg.Msg.TheVariants as msgs
use Rattle.zr_msg.specs.declared.msg.Target.{Target}
use Rattle.zr_script_spec.specs.declared.command.Act.TheVariants as c
use Rattle.zr_world_spec.specs.World.{ClientState, EndState, Clients, WorldState, with_client, client_of, end_of, router_of}
use Rattle.zr_world_spec.specs.Acts.{has_number, asking, get_step}
use Rattle.zr_world_spec.specs.Moments.{Numbered, Moment, went}
use Rattle.zr_world_spec.proofs.Names.{names}
use Rattle.zr_world_spec.proofs.Cases.{on_said, for_get}
use Rattle.zr_guarantee.specs.Queries.{Asked, asked_in, queries, times_asked, turn}
use Rattle.zr_guarantee.specs.Sent.{told_to}
use Rattle.zr_law_samples.proofs.Start.{ready}
use Rattle.zr_law_queries.specs.Link.{Asked as AskedHop}
use Rattle.zr_law_queries.specs.Query.{Tree, Stage, NotYet, OnTheWay, Here as At, has, is_child, is_not_yet, is_empty, goes_nowhere, MayBegin, Begin, after}
use Rattle.zr_law_queries.proofs.Moves.{is_not_yet_is}
use Rattle.zr_law_numbers.specs.Waiting.{Said, is_whole}
use Rattle.zr_law_numbers.proofs.Numbers.{AllGo}
use Rattle.zr_law_numbers.proofs.ActClients.{number_more}
use Rattle.zr_law_replies.specs.Answers.{told_in_turn}
use Rattle.zr_law_replies.specs.Trees.{has_router, home_of, named_at, tree_at}
use Rattle.zr_law_replies.specs.Stands.{IsStill, asked_at, Marks, request_to, answers_told, answers_at, numbered, said_in, Stands, held_by, place}
use Rattle.zr_law_replies.proofs.Grown.{Earlier, queries_lines}
use Rattle.zr_law_replies.proofs.Links.{lines_on}
use Rattle.zr_law_replies.proofs.Trees.{asks_client, home_child, client_child}
use Rattle.zr_law_replies.proofs.MarkChanges.{is_hop, hop_is}
use Rattle.zr_law_replies.proofs.MarkMoves.{begin_marks}
use Rattle.zr_law_replies.proofs.StandOwn.{RowsShow}
use Rattle.zr_law_replies.proofs.StandRowMoves.{begin_rows}
use Rattle.zr_law_replies.proofs.StandSteps.{Hops, stands_moved}
use Rattle.zr_law_replies.proofs.StandStep.{PlainHops, Begins, Here, Then}
use Rattle.zr_law_replies.proofs.StandHere.{still_home, still_router, kids, asker_apart, answers_now, row_at, rows_read, rows_now}
use Rattle.zr_law_replies.proofs.QueryTurns.{turn_new, turn_is_new}
use Rattle.zr_law_replies.proofs.AskHops.{queries_then, below, are, asks_now, elsewhere, same_report, same_replies, same_ends, other_stands}
use Rattle.zr_law_replies.proofs.StandHolds.{begin_opens}

module _ (before : List Numbered) (mark : ℕ) (start : Moment) (q : Asked) (b : Begins before mark start q) (phase acts : List Numbered) (m : Moment) (here : Here start.world phase q acts m)
    (n : ℕ) (name : List ℕ) (number : ℕ) (target : Target) (content : Parts) (earlier : Earlier acts (n, c.Get name number target content)) where
  abbrev x : Numbered
  x = (n, c.Get name number target content)

  abbrev asked : Asked
  asked = record { line = n; client = name; number = number; target = target; content = content }

  abbrev w : WorldState
  w = start.world

  abbrev acts' : List Numbered
  acts' = acts ++ x ∷ []

  module _ (s : ClientState) (es : client_of m.world.clients name ≡ Some s) (free : has_number s.queries number ≡ false) (e : EndState) (ee : end_of m.world.ends (s.router, name) ≡ Some e) (unbroken : e.unbroken ≡ true) where
    abbrev s' : ClientState
    s' = asking s number

    abbrev clients : Clients
    clients = with_client m.world.clients name s'

    abbrev next : Moment
    next = on_said m n name (msgs.Request None number target content) s e clients

    module _ (go : AllGo next) (still : IsStill w next.world) (hop' : Hops) (p' : PlainHops w q next.world (lines_on next.world here.holds.lines) hop') where
      abbrev hop : Hops
      hop = here.hop

      abbrev st : Stands w phase q acts m hop
      st = here.stands

      -- ---- it is the query

      module _ (same : asked ≡ q) where
        abbrev t : Tree (List ℕ)
        t = tree_at w q

        client_is : name ≡ q.client
        client_is = ap (λ (z : Asked). z.client) same

        number_is : number ≡ q.number
        number_is = ap (λ (z : Asked). z.number) same

        line_is : n ≡ q.line
        line_is = ap (λ (z : Asked). z.line) same

        found_here : client_of m.world.clients q.client ≡ Some s
        found_here = ap (client_of m.world.clients) (sym client_is) ∙ es

        far : s.router ≡ home_of w q.client
        far = sym (still_home w m.world st.still q.client s found_here)

        child : is_child t q.client (home_of w q.client) ≡ true
        child = home_child before w (ready before mark start b.marked) q b.client b.found

        -- it was not asked before
        not_yet : st.stage q.client ≡ NotYet
        not_yet = is_not_yet_is (st.stage q.client) (st.asked ∙ ap not (none (queries acts) (below before mark start q b phase acts m here n name number target content earlier)))
          where
            none : (qs : List Asked) → AllByRecursion (λ (p : Asked). p.line < n) qs → list_any (λ p. p.line == q.line) qs ≡ false
            none [] h = refl
            none (p ∷ qs) h = by (p.line == q.line) refl (none qs h.1)
              where
                by : (z : Bool) → (p.line == q.line) ≡ z → list_any (λ p. p.line == q.line) qs ≡ false → (z || list_any (λ p. p.line == q.line) qs) ≡ false
                by true ez rest =
                    let one : p.line ≡ n = eqb-true p.line q.line ez ∙ sym line_is in
                    let lt : p.line < n = h.0 in
                    absurd (omega arith)
                by false ez rest = rest

        may : MayBegin t st.stage q.client
        may = inr (refl, not_yet)

        abbrev more : List ℕ → ℕ
        more y = q.number

        -- its request goes to its router
        asks : (y : List ℕ) → is_child t q.client y ≡ true → hop' q.client y (more y) ≡ AskedHop (request_to w q y) (Some (asked_at t st.num q.client))
        asks y kid =
            (λ i. hop' (sym client_is i) ((y_is ∙ sym far) i) (sym number_is i)) ∙ asks_now before mark start q b phase acts m here n name number target content earlier s es free e ee unbroken go still hop' p'
            ∙ (λ i. AskedHop (record { line = line_is i; tree = no_tree i; target = (same i).target; content = (same i).content }) (Some (record { name = asker i; number = (number_is ∙ sym st.number) i })))
          where
            y_is : y ≡ home_of w q.client
            y_is = client_child before w (ready before mark start b.marked) q b.client b.found y kid

            asker : name ≡ t.parent q.client
            asker = client_is ∙ sym (asks_client before w (ready before mark start b.marked) q b.client b.found)

            no_tree : None ≡ (if has_router w y then named_at w q.client y else None)
            no_tree = sym (by (has_router w y))
              where
                by : (z : Bool) → cond z (named_at w q.client y) None ≡ None
                by true = ap (λ z. cond z None (Some (home_of w q.client))) (ap (is_named (home_of w q.client)) y_is ∙ names.refl (home_of w q.client))
                by false = refl

        others : (x y : List ℕ) (k : ℕ) → is_whole w x y ≡ true → (is_named q.client x && (is_child t q.client y && q.number == k)) ≡ false → hop' x y k ≡ hop x y k
        others x y k there out = by (is_hop name s.router number x y k) refl
          where
            by : (z : Bool) → is_hop name s.router number x y k ≡ z → hop' x y k ≡ hop x y k
            by false ez = elsewhere before mark start q b phase acts m here n name number target content earlier s es free e ee unbroken go still hop' p' x y k there ez
            by true ez =
                let one = hop_is name s.router number x y k ez in
                absurd (false≢true (sym out ∙ and_from (is_named q.client x) (is_child t q.client y && q.number == k) (ap (is_named q.client) (sym one.0 ∙ client_is) ∙ names.refl q.client)
                (and_from (is_child t q.client y) (q.number == k) (ap (is_child t q.client) (sym one.1 ∙ far) ∙ child) (eq-eqb q.number k (sym number_is ∙ one.2)))))

        abbrev num' : List ℕ → ℕ
        num' = numbered t st.num (t.children q.client) more

        abbrev stage' : List ℕ → Stage Said
        stage' = after t st.stage (Begin q.client may)

        marks : Marks t (request_to w q) q.line (is_whole w) num' stage' hop'
        marks =
            begin_marks t b.tree.is_tree (request_to w q) q.line (λ y. refl) (is_whole w) (kids before mark start q b) st.num st.stage hop hop' st.marks st.sound q.client may (inl refl) more
            (λ x y k there root out. others x y k there out) (λ k. absurd (true≢false (sym k ∙ b.tree.is_tree.top (t.parent q.client)))) asks

        -- its rows are those of before
        rows_are : RowsShow t num' stage' (has_router m.world) (row_at m.world)
        rows_are = begin_rows t b.tree.is_tree st.num st.stage st.sound q.client may more (has_router m.world) (row_at m.world) (row_at m.world) (rows_now before mark start q b phase acts m here)
            (λ router nowhere. absurd (false≢true (sym (asker_apart before mark start q b phase acts m here) ∙ sym (still_router w m.world st.still q.client) ∙ router))) (λ z router o other. refl)

        -- it has its request, and nothing was told in its turn
        here_now : stage' q.client ≡ At [] (goes_nowhere t q.client)
        here_now = ap (λ z. cond z (At [] (goes_nowhere t q.client)) (cond (is_child t q.client q.client) OnTheWay (st.stage q.client))) (names.refl q.client)

        somewhere : goes_nowhere t q.client ≡ false
        somewhere = and_right (t.passes q.client) (is_empty (t.children q.client)) (some (t.children q.client) child)
          where
            some : (ys : List (List ℕ)) → has t ys (home_of w q.client) ≡ true → is_empty ys ≡ false
            some [] k = absurd (false≢true k)
            some (y ∷ ys) k = refl

        in_now : list_any (λ p. p.line == q.line) (queries acts') ≡ true
        in_now = ap (list_any (λ p. p.line == q.line)) (queries_then before mark start q b phase acts m here n name number target content earlier) ∙ list_any-append (λ (p : Asked). p.line == q.line) (queries acts) (asked ∷ [])
            ∙ or_right (list_any (λ p. p.line == q.line) (queries acts)) ((n == q.line) || false) (or_left (n == q.line) false (eq-eqb n q.line line_is))

        own_number : num' q.client ≡ q.number
        own_number = by (has t (t.children q.client) q.client)
          where
            by : (z : Bool) → cond z q.number (st.num q.client) ≡ q.number
            by true = refl
            by false = st.number

        waiting_now : (k : ClientState) → client_of clients q.client ≡ Some k → has_number k.queries q.number ≡ true
        waiting_now k found =
            let both : Some s' ≡ Some k =
            sym (are before mark start q b phase acts m here n name number target content earlier s es free e ee unbroken q.client ∙ ap (λ z. cond z (Some s') (client_of m.world.clients q.client)) (ap (is_named name) (sym client_is) ∙ names.refl name)) ∙ found in
            let one : s' ≡ k = cc in
            ap (λ (z : ClientState). has_number z.queries q.number) (sym one) ∙ number_more s.queries number q.number
            ∙ ap (λ z. cond z true (has_number s.queries q.number)) (eq-eqb number q.number number_is)

        turn_now : turn acts' q - 1 ≡ times_asked acts q.client q.number
        turn_now =
            ap (λ k. k - 1) (turn_new acts x q (queries_lines (λ k. k ≤ q.line) acts (most acts (earlier.below refl))) (ap (λ z. z ∷ []) same)
            (and_from (is_named q.client q.client) (q.number == q.number) (names.refl q.client) (eq-eqb q.number q.number refl)))
            ∙ less (times_asked acts q.client q.number)
          where
            less : (k : ℕ) → suc k - 1 ≡ k
            less k = omega arith

            most : (xs : List Numbered) → AllByRecursion (λ y. y.0 < n) xs → AllByRecursion (λ y. y.0 ≤ q.line) xs
            most [] h = tt
            most (y ∷ xs) h =
                let lt : y.0 < n = h.0 in
                let at : n ≡ q.line = line_is in
                (omega arith, most xs h.1)

        nothing_told : answers_told q.number (told_in_turn q.number (turn acts' q - 1) (told_to next.report q.client)) ≡ answers_at q.number (stage' q.client)
        nothing_told =
            (λ i. answers_told q.number (told_in_turn q.number (turn_now i) (same_report before mark start q b phase acts m here n name number target content earlier s es free e ee unbroken go still hop' p' i q.client)))
            ∙ turn_is_new acts m (answers_now before mark start q b phase acts m here).0 (answers_now before mark start q b phase acts m here).1 q.client s q.number found_here (ap (has_number s.queries) (sym number_is) ∙ free)
            ∙ sym (ap (answers_at q.number) (here_now ∙ ap (At []) somewhere))

        own_stands : Stands w phase q acts' next hop'
        own_stands = stands_moved w phase q acts acts' m next hop hop' st still b.tree.is_tree (Begin q.client may) num' marks (record {
          rows = rows_read m.world t num' stage' rows_are;
          holds = λ y r e o.
              let other = false_from_ne_true (t.same q.client y) (λ z. false≢true (sym (asker_apart before mark start q b phase acts m here) ∙ sym (still_router w m.world st.still q.client)
              ∙ ap (λ v. is_some (router_of m.world.routers v)) (b.tree.is_tree.decides q.client y z) ∙ ap is_some e)) in
              let open_ = begin_opens t b.tree.is_tree st.stage st.sound q.client may y other o in
              ap (λ z. held_by r (place (t.parent y) (cond z (more y) (st.num y)))) open_.0 ∙ st.holds y r e open_.1;
          number = own_number;
          asked = ap is_not_yet here_now ∙ ap not (sym in_now);
          waits = λ k found o. waiting_now k found;
          told = λ k. nothing_told;
        }) (λ d ys ends. tt) (λ d ends. ap said_in (same_replies before mark start q b phase acts m here n name number target content earlier s es free e ee unbroken go still hop' p' d)) (λ d ends. same_ends before mark start q b phase acts m here n name number target content earlier s es free e ee unbroken go still hop' p' d)

  -- the query stands behind a query that is asked; if that has its line, it is the query
  pub get_stands : ((n == q.line) ≡ true → asked_in n (c.Get name number target content) ≡ Some q) →
      IfSome (went m (get_step m.world n name number target content)) (Then start.world phase q acts m here (n, c.Get name number target content))
  get_stands own = for_get m (Then start.world phase q acts m here x) n name number target content (λ s es free e ee unbroken room go still hop' p'. by s es free e ee unbroken go still hop' p' (n == q.line) refl)
    where
      one : Some asked ≡ Some q → asked ≡ q
      one k = cc

      by : (s : ClientState) (es : client_of m.world.clients name ≡ Some s) (free : has_number s.queries number ≡ false) (e : EndState) (ee : end_of m.world.ends (s.router, name) ≡ Some e) (unbroken : e.unbroken ≡ true)
          (go : AllGo (next s es free e ee unbroken)) (still : IsStill w (next s es free e ee unbroken).world) (hop' : Hops) (p' : PlainHops w q (next s es free e ee unbroken).world (lines_on (next s es free e ee unbroken).world here.holds.lines) hop') →
          (z : Bool) → (n == q.line) ≡ z → Stands w phase q acts' (next s es free e ee unbroken) hop'
      by s es free e ee unbroken go still hop' p' true ez = own_stands s es free e ee unbroken go still hop' p' (one (own ez))
      by s es free e ee unbroken go still hop' p' false ez = other_stands before mark start q b phase acts m here n name number target content earlier s es free e ee unbroken go still hop' p' ez
