-- Acts that do nothing to a query: a sample is published, a mark, tables are shown, a message is taken to a router. And what is so before the query is asked.
use Rattle.std.proofs.Common.{◌≡◌, ℕ, ◌==◌, Bool, true, false, cond, List, [], ◌∷◌, ◌++◌, Some, None, refl, sym, ap, ◌∙◌}
use Rattle.std.specs.Prelude.{Option, not, map, filter, unwrap_or, IfSome}
use Rattle.std.specs.List.{cons_option, list_any}
use Rattle.std.proofs.lemmas.Bool.{false≢true, or_parts}
use Rattle.zr_id.specs.Zid.{is_named}
use Rattle.zr_id.specs.Record.{RecordState}
use Rattle.zr_graph.specs.Record.{ids}
use Rattle.zr_graph.specs.Base.{BaseState}
use Rattle.zr_log.specs.declared.log.Log.{Log}
use Rattle.zr_msg.specs.declared.content.Parts.{Parts}
use Rattle.zr_msg.specs.declared.msg.Kinds.{Kinds}
use Rattle.zr_msg.specs.declared.msg.Msg.{Msg}
use Rattle.zr_msg.specs.declared.msg.Msg.TheVariants as m
use Rattle.zr_script_spec.specs.declared.command.Act.TheVariants as c
use Rattle.zr_script_spec.specs.declared.command.Mode.{Mode}
use Rattle.zr_script_spec.specs.Mode.{is_current, is_future}
use Rattle.zr_script_spec.specs.declared.report.ReportLine.{ReportLine}
use Rattle.zr_script_spec.specs.declared.report.ReportLine.TheVariants as line
use Rattle.zr_node_spec.specs.State.{NodeState}
use Rattle.zr_world_spec.specs.World.{RouterState, ClientState, WorldState, with_router, with_client, router_of, client_of}
use Rattle.zr_world_spec.specs.Acts.{parent_line, source_line, shown_base, shown, has_number, weighing, wanting, unwanting, received, interest_step, uninterest_step, publish_step, take_step, mark_step, show_step}
use Rattle.zr_world_spec.specs.Moments.{Numbered, Moment, went}
use Rattle.zr_world_spec.proofs.Names.{same_name, read_after}
use Rattle.zr_world_spec.proofs.Cases.{on_publish, on_said, on_weighed, on_take, on_mark, on_show, for_interest, for_uninterest, for_publish, for_take, for_mark, for_show}
use Rattle.zr_guarantee.specs.Queries.{Asked, asked_in, queries, saying_in, sayings}
use Rattle.zr_guarantee.specs.Sent.{Told, told_to, requests_to}
use Rattle.zr_law_replies.specs.Trees.{has_router, passes_at, tree_at}
use Rattle.zr_law_replies.specs.Stands.{IsStill, is_open, asked_at, row_places, Stands, held_by}
use Rattle.zr_law_replies.proofs.StandSteps.{Hops, stands_same, has_same, SameFor}
use Rattle.zr_law_replies.proofs.Grown.{queries_same, sayings_same, told_more, told_same, requests_same, turn_told_same}
use Rattle.zr_law_replies.proofs.Replies.{replies_kept, ended_kept}

-- ---- report lines that tell nobody anything

module _ (d : List ℕ) where
  base_tells_nothing : (b : BaseState) → told_to (shown_base b) d ≡ []
  base_tells_nothing b = told_more (map (λ r. line.Record r) b.records) (map (λ root. parent_line b root) (filter (λ id. not (is_named id b.me)) (ids b.records))) d
      ∙ rw (records b.records, parents (filter (λ id. not (is_named id b.me)) (ids b.records))) refl
    where
      records : (rs : List RecordState) → told_to (map (λ r. line.Record r) rs) d ≡ []
      records [] = refl
      records (r ∷ rs) = records rs

      parents : (xs : List (List ℕ)) → told_to (map (λ root. parent_line b root) xs) d ≡ []
      parents [] = refl
      parents (x ∷ xs) = parents xs

  tables_tell_nothing : (node : NodeState) → told_to (shown node) d ≡ []
  tables_tell_nothing node = told_more (shown_base node.base) (map source_line node.known.logs) d ∙ rw (base_tells_nothing node.base) (sources node.known.logs)
    where
      sources : (logs : List Log) → told_to (map source_line logs) d ≡ []
      sources [] = refl
      sources (x ∷ xs) = sources xs

-- ---- steps

module _ (w : WorldState) (phase : List Numbered) (q : Asked) (apart : has_router w q.client ≡ false) (acts : List Numbered) (now : Moment) (hop : Hops) (s : Stands w phase q acts now hop) where
  -- an act by which nobody asks or says anything, what routers and clients have of the query stays, and no client is told anything
  calm_step : (x : Numbered) (next : Moment) (lines : List ReportLine) → asked_in x.0 x.1 ≡ None → saying_in x.0 x.1 ≡ None → next.report ≡ now.report ++ lines →
      ((d : List ℕ) → has_router w d ≡ false → told_to lines d ≡ []) →
      ((y : List ℕ) (r' : RouterState) → router_of next.world.routers y ≡ Some r' → (r : RouterState) × (router_of now.world.routers y ≡ Some r) ×
      (is_open (s.stage y) ≡ true → SameFor (asked_at (tree_at w q) s.num y) r' r)) →
      ((c' : ClientState) → client_of next.world.clients q.client ≡ Some c' → (c : ClientState) × (client_of now.world.clients q.client ≡ Some c) × (has_number c.queries q.number ≡ true → has_number c'.queries q.number ≡ true)) →
      IsStill w next.world → Stands w phase q (acts ++ x ∷ []) next hop
  calm_step x next lines no_query no_saying report silent routers clients still =
      stands_same w phase q acts (acts ++ x ∷ []) now next hop hop s still s.marks
      (has_same w phase q acts (acts ++ x ∷ []) now next hop hop s still routers clients (ap (list_any (λ p. p.line == q.line)) same_queries)
      (λ k. turn_told_same acts (acts ++ x ∷ []) q (told_to now.report q.client) (told_to next.report q.client) same_queries (same_told q.client apart)))
      (λ d ends. replies_kept acts (acts ++ x ∷ []) now.report next.report q d same_sayings (requests_stay d ends))
      (λ d ends. ended_kept acts (acts ++ x ∷ []) now.report next.report q d same_sayings (requests_stay d ends))
    where
      same_queries : queries (acts ++ x ∷ []) ≡ queries acts
      same_queries = queries_same acts x (ap (λ o. cons_option o []) no_query)

      same_sayings : sayings (acts ++ x ∷ []) ≡ sayings acts
      same_sayings = sayings_same acts x (ap (λ o. cons_option o []) no_saying)

      same_told : (d : List ℕ) → has_router w d ≡ false → told_to next.report d ≡ told_to now.report d
      same_told d none = ap (λ z. told_to z d) report ∙ told_same now.report lines d (silent d none)

      requests_stay : (d : List ℕ) → passes_at w q.client d ≡ false → (n : ℕ) → requests_to next.report d n ≡ requests_to now.report d n
      requests_stay d ends n = requests_same now.report next.report d n (same_told d (or_parts (is_named q.client d) (has_router w d) ends).1)

  -- and routers and clients stay
  quiet_step : (x : Numbered) (next : Moment) (lines : List ReportLine) → asked_in x.0 x.1 ≡ None → saying_in x.0 x.1 ≡ None → next.report ≡ now.report ++ lines →
      ((d : List ℕ) → has_router w d ≡ false → told_to lines d ≡ []) → next.world.routers ≡ now.world.routers → next.world.clients ≡ now.world.clients → IsStill w next.world →
      Stands w phase q (acts ++ x ∷ []) next hop
  quiet_step x next lines no_query no_saying report silent routers clients still = calm_step x next lines no_query no_saying report silent
      (λ y r' er. (r', ap (λ z. router_of z y) (sym routers) ∙ er, λ o. (refl, refl))) (λ c' ec. (c', ap (λ z. client_of z q.client) (sym clients) ∙ ec, λ k. k)) still

  -- a router on which one more declaration or interest weighs has its rows as before
  weighed_rows : (x : List ℕ) (r : RouterState) → router_of now.world.routers x ≡ Some r → (key : List ℕ) (y : List ℕ) (r' : RouterState) → router_of (with_router now.world.routers x (weighing r key)) y ≡ Some r' →
      (z : RouterState) × (router_of now.world.routers y ≡ Some z) × (is_open (s.stage y) ≡ true → SameFor (asked_at (tree_at w q) s.num y) r' z)
  weighed_rows x r found key y r' er = by (is_named x y) refl (sym (read_after (λ o. o) now.world.routers x y r (weighing r key) found) ∙ er)
    where
      by : (b : Bool) → is_named x y ≡ b → cond b (Some (weighing r key)) (router_of now.world.routers y) ≡ Some r' →
          (z : RouterState) × (router_of now.world.routers y ≡ Some z) × (is_open (s.stage y) ≡ true → SameFor (asked_at (tree_at w q) s.num y) r' z)
      by true e k =
          let one : weighing r key ≡ r' = cc in
          (r, ap (router_of now.world.routers) (sym (same_name x y e)) ∙ found, λ o. (ap (λ z. row_places z (asked_at (tree_at w q) s.num y)) (sym one), ap (λ z. held_by z (asked_at (tree_at w q) s.num y)) (sym one)))
      by false e k = (r', k, λ o. (refl, refl))

  -- a client with other interests has asked what it had
  wanted_same : (name : List ℕ) (t t' : ClientState) → client_of now.world.clients name ≡ Some t → t'.queries ≡ t.queries → (c' : ClientState) → client_of (with_client now.world.clients name t') q.client ≡ Some c' →
      (c : ClientState) × (client_of now.world.clients q.client ≡ Some c) × (has_number c.queries q.number ≡ true → has_number c'.queries q.number ≡ true)
  wanted_same name t t' found same c' ec = by (is_named name q.client) refl (sym (read_after (λ o. o) now.world.clients name q.client t t' found) ∙ ec)
    where
      by : (b : Bool) → is_named name q.client ≡ b → cond b (Some t') (client_of now.world.clients q.client) ≡ Some c' →
          (c : ClientState) × (client_of now.world.clients q.client ≡ Some c) × (has_number c.queries q.number ≡ true → has_number c'.queries q.number ≡ true)
      by true e k =
          let one : t' ≡ c' = cc in
          (t, ap (client_of now.world.clients) (sym (same_name name q.client e)) ∙ found, λ o. ap (λ (z : ClientState). has_number z.queries q.number) (sym one) ∙ ap (λ ns. has_number ns q.number) same ∙ o)
      by false e k = (c', k, λ o. o)

  -- the query stands as before, once what stays is known to
  abbrev pub Goes : Numbered → Moment → Type 0
  Goes x next = IsStill w next.world → Stands w phase q (acts ++ x ∷ []) next hop

  pub publish_stands : (n : ℕ) (client : List ℕ) (content : Parts) → IfSome (went now (publish_step now.world n client content)) (Goes (n, c.Publish client content))
  publish_stands n client content = for_publish now (Goes (n, c.Publish client content)) n client content
      (λ t found e at unbroken still. quiet_step (n, c.Publish client content) (on_publish now n client content t e) [] refl refl refl (λ d none. refl) refl refl still)

  pub interest_stands : (n : ℕ) (client : List ℕ) (id : ℕ) (mode : Mode) (kinds : Kinds) (key : Option (List ℕ)) (aggregate : Bool) →
      IfSome (went now (interest_step now.world n client id mode kinds key aggregate)) (Goes (n, c.Interest client id mode kinds key aggregate))
  interest_stands n client id mode kinds key aggregate =
      let x : Numbered = (n, c.Interest client id mode kinds key aggregate) in
      let msg : Msg = m.Interest id (is_current mode) (is_future mode) kinds key aggregate in
      for_interest now (Goes x) n client id mode kinds key aggregate
      (λ t found fresh e at unbroken once still. quiet_step x (on_said now n client msg t e now.world.clients) [] refl refl refl (λ d none. refl) refl refl still)
      (λ t found fresh e at unbroken lasts r er room still.
      calm_step x (on_weighed now n client (unwrap_or key []) msg t e r (with_client now.world.clients client (wanting t id))) [] refl refl refl (λ d none. refl)
      (weighed_rows t.router r er (unwrap_or key [])) (wanted_same client t (wanting t id) found refl) still)

  pub uninterest_stands : (n : ℕ) (client : List ℕ) (id : ℕ) → IfSome (went now (uninterest_step now.world n client id)) (Goes (n, c.Uninterest client id))
  uninterest_stands n client id = for_uninterest now (Goes (n, c.Uninterest client id)) n client id
      (λ t found known e at unbroken still.
      calm_step (n, c.Uninterest client id) (on_said now n client (m.EndInterest id) t e (with_client now.world.clients client (unwanting t id))) [] refl refl refl (λ d none. refl)
      (λ y r' er. (r', er, λ o. (refl, refl))) (wanted_same client t (unwanting t id) found refl) still)

  pub mark_stands : (n : ℕ) → IfSome (went now (mark_step now.world n)) (Goes (n, c.Mark))
  mark_stands n = for_mark now (Goes (n, c.Mark)) n (λ settled joined still. quiet_step (n, c.Mark) (on_mark now n) (line.Mark n ∷ []) refl refl refl (λ d none. refl) refl refl still)

  pub show_stands : (n : ℕ) (router : List ℕ) → IfSome (went now (show_step now.world router)) (Goes (n, c.Show router))
  show_stands n router = for_show now (Goes (n, c.Show router)) router
      (λ r er still. quiet_step (n, c.Show router) (on_show now router r) (line.Show router ∷ shown r.node) refl refl refl (λ d none. tables_tell_nothing d r.node) refl refl still)

  -- a message goes from a queue to the wire of another router
  pub take_stands : (n : ℕ) (router to : List ℕ) → has_router w to ≡ true → client_of now.world.clients to ≡ None → IfSome (went now (take_step now.world router to)) (Goes (n, c.Take router to))
  take_stands n router to there none = for_take now (Goes (n, c.Take router to)) router to
      (λ r er taken e at up unbroken msg tag xs front still. quiet_step (n, c.Take router to) (on_take now router to e msg tag xs) (line.Taken router to msg tag ∷ []) refl refl refl (λ d other. silent msg tag d other) refl
      (ap (received now.world.clients to msg) none) still)
    where
      silent : (msg : Msg) (tag : ℕ) (d : List ℕ) → has_router w d ≡ false → told_to (line.Taken router to msg tag ∷ []) d ≡ []
      silent msg tag d other = by (is_named d to) refl
        where
          told : Told
          told = record { msg = msg; tag = tag }

          by : (b : Bool) → is_named d to ≡ b → cons_option (cond b (Some told) None) [] ≡ []
          by false e = refl
          by true e = absurd (false≢true (sym other ∙ ap (has_router w) (same_name d to e) ∙ there))
