-- A client is sent an answer while a query stands: whose it is. It is the query's just where the client is the one that asks, under its number, in the turn that
-- is open. An answer to another query of the number comes only once the query's turn is over (`own_is`, `told_same`, `is_now`).
use Rattle.std.proofs.Common.{◌≡◌, ◌≤◌, ◌<◌, ℕ, suc, ◌+◌, ◌-◌, ◌==◌, ◌&&◌, ◌||◌, Bool, true, false, cond, List, [], ◌∷◌, length, filter, Option, Some, None, refl, sym, ap, ◌∙◌, subst, arith, ◌++◌}
use Rattle.std.specs.Prelude.{not, nat_le, filter}
use Rattle.std.proofs.lemmas.Bool.{false≢true, true≢false, leb-true, leb-false, eqb-true, cond-true}
use Rattle.std.proofs.lemmas.List.Sums.{length-filter}
use Rattle.std.proofs.lemmas.Option.{none-some}
use Rattle.zr_id.specs.Zid.{is_named}
use Rattle.zr_msg.specs.declared.msg.Msg.{Msg}
use Rattle.zr_world_spec.specs.World.{ClientState, WorldState, client_of}
use Rattle.zr_world_spec.specs.Acts.{has_number}
use Rattle.zr_world_spec.specs.Moments.{Numbered, Moment}
use Rattle.zr_world_spec.proofs.Names.{names, same_name}
use Rattle.zr_guarantee.specs.Queries.{Asked as Query, queries, is_under, times_asked, turn}
use Rattle.zr_guarantee.specs.Sent.{told_to, finals_in, Told}
use Rattle.zr_law_queries.specs.Link.{Open, asked_by, answers_number}
use Rattle.zr_law_queries.specs.Query.{Tree, IsTree, Stage, NotYet, OnTheWay, Here as At, Over, has, is_child, is_not_yet, is_over as stage_over, fits, all_over, replies_at}
use Rattle.zr_law_queries.proofs.Moves.{open_is}
use Rattle.zr_law_numbers.specs.Waiting.{Asked, Place, Said, back_at, is_whole, answers_in}
use Rattle.zr_law_numbers.proofs.ActClients.{for_itself}
use Rattle.zr_law_replies.specs.Answers.{HopState, told_in_turn}
use Rattle.zr_law_replies.specs.Trees.{home_of, passes_at, tree_at}
use Rattle.zr_law_replies.specs.Stands.{is_of, is_live, is_open, is_asked_or_not, place, asked_at, Shown, request_to, answers_at, Stands, answers_told}
use Rattle.zr_law_replies.proofs.Standing.{back_is}
use Rattle.zr_law_replies.proofs.ToldAnswers.{has_end, told_final, stage_end}
use Rattle.zr_law_replies.proofs.TurnReplies.{final_told}
use Rattle.zr_law_replies.proofs.ToldMore.{told_before, others_add_none}
use Rattle.zr_law_replies.proofs.QueryTurns.{turn_most}
use Rattle.zr_law_replies.proofs.MarkChanges.{live_is}
use Rattle.zr_law_replies.proofs.StandOwn.{live_of, IsHere, own_open}
use Rattle.zr_law_replies.proofs.StandStep.{Begins, Here}
use Rattle.zr_law_replies.proofs.StandHere.{still_whole, still_home, kids}
use Rattle.zr_law_replies.proofs.SentHops as hops
use Rattle.zr_law_replies.proofs.SentHops.{Take}
use Rattle.zr_law_replies.proofs.SentAny as taken

shown_by : (request : Asked) (from : Place) (u : Stage Said) (h : HopState) → is_live u ≡ true → Shown request from u h → asked_by h ≡ Some (Some from)
shown_by request from NotYet h live shown = absurd (false≢true live)
shown_by request from OnTheWay h live shown = ap asked_by shown
shown_by request from (At rs done) h live shown = ap asked_by shown
shown_by request from Over h live shown = absurd (false≢true live)

abbrev number_or : Option (Option Place) → ℕ
number_or None = 0
number_or (Some None) = 0
number_or (Some (Some p)) = p.number

module _ (before : List Numbered) (mark : ℕ) (start : Moment) (q : Query) (b : Begins before mark start q) (phase acts : List Numbered) (m : Moment) (here : Here start.world phase q acts m)
    (n : ℕ) (to : List ℕ) (s : ClientState) (msg : Msg) (tag : ℕ) (k : Take start.world phase q acts m here to s msg tag) where
  abbrev w₀ : WorldState
  w₀ = start.world

  abbrev w : WorldState
  w = m.world

  abbrev tree : Tree (List ℕ)
  tree = tree_at start.world q

  abbrev is : IsTree (tree_at start.world q)
  is = b.tree.is_tree

  abbrev st : Stands start.world phase q acts m here.hop
  st = here.stands

  there : is_whole w to s.router ≡ true
  there = hops.above start.world q phase acts m here to s msg tag k

  there₀ : is_whole w₀ to s.router ≡ true
  there₀ = sym (still_whole w₀ w st.still to s.router) ∙ there

  -- ---- the client that asks: while it waits, its request to its router is the query's, under its number

  module _ (asks_it : q.client ≡ to) where
    pub only_child : tree.children q.client ≡ s.router ∷ []
    only_child = cond-true (is_named q.client q.client) (home_of w₀ q.client ∷ []) _ (names.refl q.client) ∙ ap (λ z. z ∷ []) (ap (home_of w₀) asks_it ∙ still_home w₀ w st.still to s k.found)

    home_child : is_child tree q.client s.router ≡ true
    home_child = ap (λ ys. has tree ys s.router) only_child ∙ ap (λ c. c || false) (names.refl s.router)

    open_own : (rs : List Said) → st.stage q.client ≡ At rs false → is_of q.line (here.hop q.client s.router q.number) ≡ true
    open_own rs e = ap (λ j. is_of q.line (here.hop q.client s.router j)) (sym number) ∙ own
      where
        reached : is_not_yet (st.stage s.router) ≡ false
        reached = at (is_not_yet (st.stage s.router)) (ap (λ u. fits u (st.stage s.router)) (sym e) ∙ st.sound.fit q.client s.router home_child)
          where
            at : (c : Bool) → not c ≡ true → c ≡ false
            at true f = absurd (false≢true f)
            at false f = refl

        waiting : stage_over (st.stage s.router) ≡ false
        waiting = at (stage_over (st.stage s.router)) (st.sound.row q.client is.asks rs false e ∙ ap (all_over st.stage) only_child)
          where
            at : (c : Bool) → false ≡ (c && true) → c ≡ false
            at true f = absurd (false≢true f)
            at false f = refl

        live : is_live (st.stage s.router) ≡ true
        live = live_of tree is st.num st.stage st.sound (st.stage s.router) reached waiting

        shown : Shown (request_to w₀ q s.router) (asked_at tree st.num q.client) (st.stage s.router) (here.hop q.client s.router (st.num s.router))
        shown = st.marks.shown q.client s.router home_child

        own : is_of q.line (here.hop q.client s.router (st.num s.router)) ≡ true
        own = live_is tree is (request_to w₀ q) q.line (λ y. refl) (is_whole w₀) (kids before mark start q b) st.num st.stage here.hop s.router (asked_at tree st.num q.client) (st.stage s.router)
            (here.hop q.client s.router (st.num s.router)) live shown

        back : back_at w q.client s.router (st.num s.router) ≡ Some (Some (asked_at tree st.num q.client))
        back = (here.plain.shows q.client s.router (ap (λ z. is_whole w z s.router) asks_it ∙ there) (st.num s.router)).back
            ∙ shown_by (request_to w₀ q s.router) (asked_at tree st.num q.client) (st.stage s.router) (here.hop q.client s.router (st.num s.router)) live shown

        number : st.num s.router ≡ q.number
        number = at (has_number s.queries (st.num s.router))
            (sym (back_is w here.holds.go.0.orderly q.client s (ap (client_of w.clients) asks_it ∙ k.found) (st.num s.router)) ∙ back) ∙ st.number
          where
            at : (c : Bool) → cond c (for_itself q.client (st.num s.router)) None ≡ Some (Some (asked_at tree st.num q.client)) → st.num s.router ≡ st.num q.client
            at true f = ap number_or f
            at false f = absurd (none-some (Some (asked_at tree st.num q.client)) f)

  -- ---- an answer that is taken: its client has the number pending

  module _ (id : ℕ) (r : Asked) (by : Option Place) (replies : List Said) (done : Bool) (was : here.hop to s.router id ≡ Open r by replies done) where
    pending_is : (has_number s.queries id ≡ true) × (by ≡ Some (place to id))
    pending_is = at (has_number s.queries id) refl (sym (back_is w here.holds.go.0.orderly to s k.found id) ∙ (here.plain.shows to s.router there id).back ∙ ap asked_by was)
      where
        at : (c : Bool) → has_number s.queries id ≡ c → cond c (for_itself to id) None ≡ Some by → (has_number s.queries id ≡ true) × (by ≡ Some (place to id))
        at true e f = let one : Some (place to id) ≡ by = cc in (e, sym one)
        at false e f = absurd (none-some by f)

    -- ---- at the client that asks, under its number

    module _ (asks_it : q.client ≡ to) (number : id ≡ q.number) where
      abbrev finals : ℕ
      finals = finals_in q.number (told_to m.report q.client)

      -- the turn has its final exactly where its client has
      turn_ended : (rs : List Said) (c : Bool) → st.stage q.client ≡ At rs c → nat_le (suc (turn acts q - 1)) finals ≡ c
      turn_ended rs c e = sym (final_told q.number (turn acts q - 1) (told_to m.report q.client)) ∙ sym (told_final q.number (told_in_turn q.number (turn acts q - 1) (told_to m.report q.client)))
          ∙ ap has_end (st.told (ap is_not_yet e) ∙ ap (answers_at q.number) e) ∙ stage_end q.number rs c

      -- an answer to another query: the client has the final of this one, if it has asked it
      ended : (r.line == q.line) ≡ false → is_not_yet (st.stage q.client) ≡ false → (rs : List Said) × (st.stage q.client ≡ At rs true)
      ended other begun = at (st.stage q.client) refl begun st.root
        where
          foreign : is_of q.line (here.hop q.client s.router q.number) ≡ false
          foreign = (λ i. is_of q.line (here.hop (asks_it i) s.router (sym number i))) ∙ ap (is_of q.line) was ∙ other

          at : (u : Stage Said) → st.stage q.client ≡ u → is_not_yet u ≡ false → is_asked_or_not u ≡ true → (rs : List Said) × (st.stage q.client ≡ At rs true)
          at NotYet e f g = absurd (true≢false f)
          at OnTheWay e f g = absurd (false≢true g)
          at (At rs true) e f g = (rs, e)
          at (At rs false) e f g = absurd (true≢false (sym (open_own asks_it rs e) ∙ foreign))
          at Over e f g = absurd (false≢true g)

      pub is_over : (r.line == q.line) ≡ false → is_not_yet (st.stage q.client) ≡ false → turn acts q - 1 < finals
      is_over other begun = let e = ended other begun in leb-true (suc (turn acts q - 1)) finals (turn_ended e.0 true e.1)

      pub is_done : (r.line == q.line) ≡ false → is_not_yet (st.stage q.client) ≡ false → is_open (st.stage q.client) ≡ false
      is_done other begun = ap is_open (ended other begun).1

      -- the turn of a query that is open is the one that comes next
      pub is_now : (rs : List Said) → st.stage q.client ≡ At rs false → finals ≡ turn acts q - 1
      is_now rs open_ =
          let most : turn acts q ≤ times_asked acts q.client q.number = turn_most acts q in
          let many : finals + 1 ≡ times_asked acts q.client q.number = count ∙ length-filter (λ z. is_under q.client q.number z) (queries acts) in
          let least : finals < suc (turn acts q - 1) = leb-false (suc (turn acts q - 1)) finals (turn_ended rs false open_) in
          omega arith
        where
          Counts : List ℕ → ℕ → Bool → Type 0
          Counts c j t = finals_in j (told_to m.report c) + cond t 1 0 ≡ length (filter (λ z. is_under c j z) (queries acts))

          count : finals_in q.number (told_to m.report q.client) + 1 ≡ length (filter (λ z. is_under q.client q.number z) (queries acts))
          count = subst (λ j. Counts q.client j true) number (subst (λ c. Counts c id true) (sym asks_it) (subst (λ t. Counts to id t) pending_is.0 (here.holds.stands.books to s id k.found).open_.count))

    -- an answer of another query adds nothing to the query's turn
    pub told_same : (r.line == q.line) ≡ false → ((id == q.number) ≡ false → filter (answers_number q.number) (answers_in tag msg) ≡ []) → q.client ≡ to → is_not_yet (st.stage q.client) ≡ false →
        answers_told q.number (told_in_turn q.number (turn acts q - 1) (told_to m.report q.client ++ record { msg = msg; tag = tag } ∷ [])) ≡ answers_told q.number (told_in_turn q.number (turn acts q - 1) (told_to m.report q.client))
    told_same other none asks_it begun = at (id == q.number) refl
      where
        t : Told
        t = record { msg = msg; tag = tag }

        at : (c : Bool) → (id == q.number) ≡ c →
            answers_told q.number (told_in_turn q.number (turn acts q - 1) (told_to m.report q.client ++ t ∷ [])) ≡ answers_told q.number (told_in_turn q.number (turn acts q - 1) (told_to m.report q.client))
        at true e = ap (answers_told q.number) (told_before q.number (turn acts q - 1) (told_to m.report q.client) t (is_over asks_it (eqb-true id q.number e) other begun))
        at false e = others_add_none q.number (turn acts q - 1) (told_to m.report q.client) t (none e)

    -- ---- an answer of the query

    -- its client is the one that asks, under its number, and has it open; the hop is that of the client's router
    pub record IsOwn : Type 0 where
      pub asks_it : q.client ≡ to
      pub child : is_child tree q.client s.router ≡ true
      pub number : id ≡ q.number
      pub place_is : id ≡ st.num s.router
      pub stage_is : st.stage s.router ≡ At replies done
      pub request_is : r ≡ request_to w₀ q s.router
      pub by_is : by ≡ Some (asked_at tree st.num q.client)
      pub root_open : st.stage q.client ≡ At (replies_at (st.stage q.client)) false

    pub own_is : (r.line == q.line) ≡ true → IsOwn
    own_is own = record {
      asks_it = asks_it;
      child = child;
      number = ap (λ o. number_or (Some o)) (sym pending_is.1 ∙ on.by_is) ∙ ap st.num (sym asks_it) ∙ st.number;
      place_is = on.number;
      stage_is = on.stage_is;
      request_is = on.request_is;
      by_is = on.by_is ∙ ap (λ z. Some (asked_at tree st.num z)) (sym asks_it);
      root_open = open_is tree is st.stage st.sound q.client s.router replies done child on.stage_is;
    }
      where
        on : IsHere tree (request_to w₀ q) q.line (is_whole w₀) st.num st.stage here.hop st.marks to s.router id there₀ r by replies done
        on = own_open tree (request_to w₀ q) q.line (is_whole w₀) st.num st.stage here.hop st.marks to s.router id there₀ r by replies done was own

        at : (c : Bool) → passes_at w₀ q.client to ≡ c → is_named q.client to ≡ true
        at true e = sym (taken.passes_is before mark start q b phase acts m here n to s msg tag k) ∙ e
        at false e = absurd (false≢true (sym (ap (λ ys. has tree ys s.router) (is.leaf to e)) ∙ on.child))

        asks_it : q.client ≡ to
        asks_it = same_name q.client to (at (passes_at w₀ q.client to) refl)

        child : is_child tree q.client s.router ≡ true
        child = ap (λ z. is_child tree z s.router) asks_it ∙ on.child
