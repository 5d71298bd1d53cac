-- A client is sent a message while a query stands: what is known then, whichever message it is. Its two links to its router change by that message alone, and
-- of what clients were sent and what is waited for only its own (`stands_on`).
use Rattle.std.proofs.Common.{◌≡◌, ℕ, ◌-◌, ◌==◌, ◌&&◌, ◌||◌, Bool, true, false, cond, List, [], ◌∷◌, ◌++◌, Option, Some, None, is_some, refl, sym, ap, ◌∙◌, append-nil}
use Rattle.std.specs.Prelude.{not, nat_lt}
use Rattle.std.specs.List.{AllByRecursion, cons_option, count_by, list_any, slice_get}
use Rattle.std.proofs.Math.Bool.{or-false}
use Rattle.std.proofs.lemmas.Bool.{false≢true}
use Rattle.zr_id.specs.Zid.{is_named}
use Rattle.zr_lists.proofs.Finds.{slice_get_kept}
use Rattle.zr_lists.proofs.Elements.{each_in, in_each}
use Rattle.zr_msg.specs.declared.msg.Msg.{Msg}
use Rattle.zr_script_spec.specs.declared.command.Act.TheVariants as c
use Rattle.zr_script_spec.specs.declared.report.ReportLine.{ReportLine}
use Rattle.zr_script_spec.specs.declared.report.ReportLine.TheVariants as line
use Rattle.zr_world_spec.specs.World.{ClientState, WorldState, client_of}
use Rattle.zr_world_spec.specs.Acts.{has_number, receiving}
use Rattle.zr_world_spec.specs.Moments.{Numbered, Moment}
use Rattle.zr_world_spec.proofs.Names.{same_name}
use Rattle.zr_world_spec.proofs.Cases.{w_take, on_take}
use Rattle.zr_guarantee.specs.Queries.{Asked as Query, queries, turn, Saying, sayings, is_end, ended_before, query_of, replies, has_ended}
use Rattle.zr_guarantee.specs.Sent.{Told, told_to, requests_to, is_final}
use Rattle.zr_law_queries.specs.Query.{Tree, IsTree, Stage, is_not_yet}
use Rattle.zr_law_numbers.specs.Waiting.{Said, is_whole}
use Rattle.zr_law_replies.specs.Answers.{told_in_turn}
use Rattle.zr_law_replies.specs.Trees.{passes_at, tree_at}
use Rattle.zr_law_replies.specs.Stands.{is_of, is_open, Marks, request_to, answers_told, Stands}
use Rattle.zr_law_replies.proofs.Grown.{queries_same, sayings_same, told_more, requests_more, turn_told_same}
use Rattle.zr_law_replies.proofs.TakeActs.{receiving_queries}
use Rattle.zr_law_replies.proofs.EachSaid.{HasQuery}
use Rattle.zr_law_replies.proofs.StandHere.{kids, still_apart}
use Rattle.zr_law_replies.proofs.MarkChanges.{is_hop, hop_is, foreign_marks}
use Rattle.zr_law_replies.proofs.StandSteps.{Hops, stands_same}
use Rattle.zr_law_replies.proofs.Replies.{IsSame, replies_same, ended_same}
use Rattle.zr_law_replies.proofs.StandStep.{Begins, Here}
use Rattle.zr_law_replies.proofs.SentHops as hops
use Rattle.zr_law_replies.proofs.SentHops.{Take}

module _ (before : List Numbered) (mark : ℕ) (start : Moment) (q : Query) (b : Begins before mark start q) (phase acts : List Numbered) (m : Moment) (here : Here start.world phase q acts m)
    (n : ℕ) (to : List ℕ) (s : ClientState) (msg : Msg) (tag : ℕ) (k : Take start.world phase q acts m here to s msg tag) where
  abbrev w₀ : WorldState
  w₀ = start.world

  abbrev w : WorldState
  w = m.world

  abbrev v : WorldState
  v = w_take m.world s.router to k.e msg tag k.xs

  abbrev s' : ClientState
  s' = receiving s msg

  abbrev t : Told
  t = record { msg = msg; tag = tag }

  abbrev x : Numbered
  x = (n, c.Take s.router to)

  abbrev acts' : List Numbered
  acts' = acts ++ (n, c.Take s.router to) ∷ []

  abbrev rl : List ReportLine
  rl = line.Taken s.router to msg tag ∷ []

  abbrev report' : List ReportLine
  report' = m.report ++ line.Taken s.router to msg tag ∷ []

  abbrev next : Moment
  next = on_take m s.router to k.e msg tag k.xs

  abbrev tree : Tree (List ℕ)
  tree = tree_at start.world q

  abbrev is : IsTree (tree_at start.world q)
  is = b.tree.is_tree

  -- ---- what is said and asked

  same_queries : queries acts' ≡ queries acts
  same_queries = queries_same acts x refl

  same_sayings : sayings acts' ≡ sayings acts
  same_sayings = sayings_same acts x refl

  pub told_then : (d : List ℕ) → told_to report' d ≡ told_to m.report d ++ cond (is_named d to) (t ∷ []) []
  told_then d = told_more m.report rl d ∙ ap (λ z. told_to m.report d ++ z) (by (is_named d to))
    where
      by : (c : Bool) → cons_option (cond c (Some t) None) [] ≡ cond c (t ∷ []) []
      by true = refl
      by false = refl

  -- each saying is to the query of before
  sayings_stay : (d : List ℕ) → AllByRecursion (IsSame acts acts' m.report report' q d) (sayings acts)
  sayings_stay d = in_each (IsSame acts acts' m.report report' q d) (sayings acts) (λ z i e. one z (query_of acts m.report z) refl (each_in (λ y. HasQuery acts m.report y) (sayings acts) z here.holds.said i))
    where
      ended_among : Saying → List Saying → ℕ
      ended_among z ss = count_by (λ y. is_end z.client z.number y && nat_lt y.line z.line) ss

      one : (z : Saying) (o : Option ℕ) → query_of acts m.report z ≡ o → is_some o ≡ true → query_of acts' report' z ≡ query_of acts m.report z
      one z None e some = absurd (false≢true some)
      one z (Some l) e some =
          (λ i. slice_get (requests_more m.report rl z.client z.number i) (ended_among z (same_sayings i)))
          ∙ slice_get_kept (requests_to m.report z.client z.number) (requests_to rl z.client z.number) (ended_before acts z.client z.number z.line) l e ∙ sym e

  -- so what clients have replied stays, and who has ended
  pub replies_still : (d : List ℕ) → replies acts' report' q d ≡ replies acts m.report q d
  replies_still d = replies_same acts acts' m.report report' q d same_sayings (sayings_stay d)

  pub ended_still : (d : List ℕ) → has_ended acts' report' q d ≡ has_ended acts m.report q d
  ended_still d = ended_same acts acts' m.report report' q d same_sayings (sayings_stay d)

  -- ---- the query of others

  abbrev st : Stands start.world phase q acts m here.hop
  st = here.stands

  -- where one hop changes, which is another query's before and then, the query's marks stay
  pub others_marks : (a d : List ℕ) (j : ℕ) → ((x y : List ℕ) (i : ℕ) → is_whole w₀ x y ≡ true → is_hop a d j x y i ≡ false → k.hop x y i ≡ here.hop x y i) →
      is_of q.line (here.hop a d j) ≡ false → is_of q.line (k.hop a d j) ≡ false → Marks tree (request_to w₀ q) q.line (is_whole w₀) st.num st.stage k.hop
  others_marks a d j same was now =
      foreign_marks tree is (request_to w₀ q) q.line (λ y. refl) (is_whole w₀) (kids before mark start q b) st.num st.stage here.hop k.hop st.marks (λ x y i there o. own x y i there o (is_hop a d j x y i) refl)
      (λ x y i there o. other x y i there o (is_hop a d j x y i) refl)
    where
      one : (h : Hops) (x y : List ℕ) (i : ℕ) → is_hop a d j x y i ≡ true → h a d j ≡ h x y i
      one h x y i e = let p = hop_is a d j x y i e in (λ l. h (p.0 l) (p.1 l) (p.2 l))

      own : (x y : List ℕ) (i : ℕ) → is_whole w₀ x y ≡ true → is_of q.line (here.hop x y i) ≡ true → (c : Bool) → is_hop a d j x y i ≡ c → k.hop x y i ≡ here.hop x y i
      own x y i there o true e = absurd (false≢true (sym was ∙ ap (is_of q.line) (one here.hop x y i e) ∙ o))
      own x y i there o false e = same x y i there e

      other : (x y : List ℕ) (i : ℕ) → is_whole w₀ x y ≡ true → is_of q.line (here.hop x y i) ≡ false → (c : Bool) → is_hop a d j x y i ≡ c → is_of q.line (k.hop x y i) ≡ false
      other x y i there o true e = ap (is_of q.line) (sym (one k.hop x y i e)) ∙ now
      other x y i there o false e = ap (is_of q.line) (same x y i there e) ∙ o

  -- its client waits as before unless this is its final
  pub waits_then : (stage : List ℕ → Stage Said) → (is_open (stage q.client) ≡ true → is_open (st.stage q.client) ≡ true) →
      (is_named to q.client ≡ true → is_open (stage q.client) ≡ true → is_final q.number msg ≡ false) →
      (z : ClientState) → client_of v.clients q.client ≡ Some z → is_open (stage q.client) ≡ true → has_number z.queries q.number ≡ true
  waits_then stage opens no_final z found o = by (is_named to q.client) refl (sym (hops.are w₀ q phase acts m here to s msg tag k q.client) ∙ found)
    where
      by : (c : Bool) → is_named to q.client ≡ c → cond c (Some s') (client_of w.clients q.client) ≡ Some z → has_number z.queries q.number ≡ true
      by true e f =
          let one : s' ≡ z = cc in
          ap (λ (y : ClientState). has_number y.queries q.number) (sym one) ∙ receiving_queries s q.number msg ∙ ap (λ c. cond c false (has_number s.queries q.number)) (no_final e o)
          ∙ st.waits s (ap (client_of w.clients) (sym (same_name to q.client e)) ∙ k.found) (opens o)
      by false e f = st.waits z f (opens o)

  pub asked_then : (stage : List ℕ → Stage Said) → is_not_yet (stage q.client) ≡ is_not_yet (st.stage q.client) → is_not_yet (stage q.client) ≡ not (list_any (λ p. p.line == q.line) (queries acts'))
  asked_then stage same = same ∙ st.asked ∙ ap (λ qs. not (list_any (λ (p : Query). p.line == q.line) qs)) (sym same_queries)

  -- what is told in its turn, if that is not the client that asks
  pub told_others : is_named q.client to ≡ false →
      answers_told q.number (told_in_turn q.number (turn acts' q - 1) (told_to report' q.client)) ≡ answers_told q.number (told_in_turn q.number (turn acts q - 1) (told_to m.report q.client))
  told_others other = turn_told_same acts acts' q (told_to m.report q.client) (told_to report' q.client) same_queries
      (told_then q.client ∙ ap (λ c. told_to m.report q.client ++ cond c (t ∷ []) []) other ∙ append-nil (told_to m.report q.client))

  pub told_own : is_named q.client to ≡ true →
      answers_told q.number (told_in_turn q.number (turn acts' q - 1) (told_to report' q.client)) ≡ answers_told q.number (told_in_turn q.number (turn acts q - 1) (told_to m.report q.client ++ t ∷ []))
  told_own same = turn_told_same acts acts' q (told_to m.report q.client ++ t ∷ []) (told_to report' q.client) same_queries
      (told_then q.client ∙ ap (λ c. told_to m.report q.client ++ cond c (t ∷ []) []) same)

  -- ---- it stands as before

  pub stands_on : Marks tree (request_to w₀ q) q.line (is_whole w₀) st.num st.stage k.hop → (is_named to q.client ≡ true → is_open (st.stage q.client) ≡ true → is_final q.number msg ≡ false) →
      (is_named q.client to ≡ true → is_not_yet (st.stage q.client) ≡ false →
      answers_told q.number (told_in_turn q.number (turn acts q - 1) (told_to m.report q.client ++ t ∷ [])) ≡ answers_told q.number (told_in_turn q.number (turn acts q - 1) (told_to m.report q.client))) →
      Stands w₀ phase q acts' next k.hop
  stands_on marks no_final told =
      stands_same w₀ phase q acts acts' m next here.hop k.hop st k.still marks
      (record {
        rows = st.rows;
        holds = st.holds;
        number = st.number;
        asked = asked_then st.stage refl;
        waits = λ z found o. waits_then st.stage (λ p. p) no_final z found o;
        told = λ there. told_at there (is_named q.client to) refl ∙ st.told there;
      })
      (λ d ends. replies_still d) (λ d ends. ended_still d)
    where
      told_at : is_not_yet (st.stage q.client) ≡ false → (c : Bool) → is_named q.client to ≡ c →
          answers_told q.number (told_in_turn q.number (turn acts' q - 1) (told_to report' q.client)) ≡ answers_told q.number (told_in_turn q.number (turn acts q - 1) (told_to m.report q.client))
      told_at there true e = told_own e ∙ told e there
      told_at there false e = told_others e

  -- the client passes on nothing unless it is the one that asks
  pub passes_is : passes_at w₀ q.client to ≡ is_named q.client to
  passes_is = ap (λ c. is_named q.client to || c) (still_apart w₀ w st.still here.holds.go.0.orderly to s k.found) ∙ or-false (is_named q.client to)
