-- What follows for the one broker, without any tree: each reply that a client was sent was said to its query of that turn (`no_other_reply`), and under each number
-- it was sent one request at a time (`one_at_a_time`) and no more finals than it asked queries (`no_other_final`).
use Rattle.std.proofs.Common.{◌≡◌, ◌≤◌, ◌<◌, ℕ, ◌+◌, ◌==◌, nat_lt, Bool, true, false, cond, List, [], ◌∷◌, ◌++◌, filter, map, length, suc, Option, Some, None, is_some, refl, sym, ap, ◌∙◌, subst, arith, ◌⊎◌, inl, inr}
use Rattle.std.specs.Prelude.{◌&&◌, ◌||◌}
use Rattle.std.specs.List.{AllByRecursion, list_any, count_by, slice_get}
use Rattle.std.proofs.lemmas.Bool.{false≢true, and_parts, and_from, eq-eqb, eqb-true}
use Rattle.std.proofs.lemmas.List.Elements.{filter_map-append}
use Rattle.std.proofs.lemmas.List.Folds.{list_any-append}
use Rattle.std.proofs.lemmas.List.Sums.{length-filter, sum_by-append}
use Rattle.zr_lists.proofs.Finds.{in_any, in_filter, In, any_in}
use Rattle.zr_script_spec.specs.declared.command.Act.{Act}
use Rattle.zr_script_spec.specs.declared.command.Act.TheVariants as c
use Rattle.zr_script_spec.specs.declared.report.ReportLine.{ReportLine}
use Rattle.zr_world_spec.specs.World.{ClientState, router_of, client_of, is_taken}
use Rattle.zr_world_spec.specs.Acts.{has_number}
use Rattle.zr_world_spec.specs.Moments.{Numbered, Moment, ascends, reached}
use Rattle.zr_guarantee.specs.Phase.{stays, is_phase}
use Rattle.zr_guarantee.specs.Names.{brings_router, is_router}
use Rattle.zr_guarantee.specs.Item.{Reply}
use Rattle.zr_guarantee.specs.Queries.{Asked, asked_in, queries, is_under, times_asked, saying_in, sayings, is_said_to, is_end, times_ended}
use Rattle.zr_guarantee.specs.Sent.{Told, told_to, is_request, requests_to, finals_in, reply_in, is_final}
use Rattle.zr_law_replies.specs.Answers.{IsAnswer, is_latest_of, is_other_line}
use Rattle.zr_law_replies.proofs.Turns.{Says, Turned}
use Rattle.zr_law_replies.proofs.Lists.{get_in}
use Rattle.zr_law_replies.proofs.Grown.{earlier}
use Rattle.zr_law_replies.proofs.Every.{Holds, stands_at}
use Rattle.zr_guarantee.specs.Latest.{asks_latest, has_content, is_what_is_said, may_come, all_may_come}
use Rattle.zr_law_replies.proofs.OneLine.{one_query}
use Rattle.zr_msg.specs.declared.content.Parts.{Parts}
use Rattle.zr_graph.proofs.Names.{same_refl}
use Rattle.zr_id.specs.Zid.{is_named}
use Rattle.std.specs.Option.{option_map_or}

-- ---- by acts that ask and say the same

-- whether a reply may come is told by what acts ask and say
may_come_same : (acts acts' : List Numbered) (report : List ReportLine) (client : List ℕ) (turns : ℕ) (r : Reply) → queries acts' ≡ queries acts → sayings acts' ≡ sayings acts →
    may_come acts' report client turns r ≡ may_come acts report client turns r
may_come_same acts acts' report client turns r asked said = λ i.
    option_map_or
    (λ q. list_any (λ s. option_map_or (λ l. l == q.line) (slice_get (requests_to report s.client s.number) (count_by (λ z. is_end s.client s.number z && nat_lt z.line s.line) (said i))) false && is_what_is_said q r s) (said i))
    (slice_get (filter (λ q. is_under client r.number q) (asked i)) turns) false

-- ---- acts of a phase

-- they bring no router
phase_brings : (name : List ℕ) (act : Act) → stays act ≡ true → brings_router name act ≡ false
phase_brings name (c.Router id) e = absurd (false≢true e)
phase_brings name (c.Client id router) e = refl
phase_brings name (c.Link one other weight) e = refl
phase_brings name (c.Up router neighbour) e = refl
phase_brings name (c.Break router neighbour) e = refl
phase_brings name (c.Down router neighbour) e = refl
phase_brings name (c.Sub client id key) e = refl
phase_brings name (c.Unsub client id) e = refl
phase_brings name (c.Token client id key) e = refl
phase_brings name (c.Untoken client id) e = refl
phase_brings name (c.Able client id key complete) e = refl
phase_brings name (c.Unable client id) e = refl
phase_brings name (c.Interest client id mode kinds key aggregate) e = refl
phase_brings name (c.Uninterest client id) e = refl
phase_brings name (c.Publish client content) e = refl
phase_brings name (c.Get client number target content) e = refl
phase_brings name (c.Reply client number content) e = refl
phase_brings name (c.End client number) e = refl
phase_brings name (c.Handle router from) e = refl
phase_brings name (c.Take router to) e = refl
phase_brings name c.Mark e = refl
phase_brings name (c.Show router) e = refl

phase_routers : (name : List ℕ) (phase : List Numbered) → is_phase phase ≡ true → is_router phase name ≡ false
phase_routers name [] e = refl
phase_routers name (x ∷ phase) e =
    let parts = and_parts (stays x.1) (is_phase phase) e in
    (λ i. phase_brings name x.1 parts.0 i || phase_routers name phase parts.1 i)

module _ (before phase : List Numbered) (mark : ℕ) (m : Moment) (later : ascends 0 (before ++ (mark, c.Mark) ∷ phase) ≡ true) (phased : is_phase phase ≡ true)
    (is : reached (before ++ (mark, c.Mark) ∷ phase) ≡ Some m)
    (named : (x : List ℕ) → is_some (router_of m.world.routers x) ≡ true → is_router (before ++ (mark, c.Mark) ∷ phase) x ≡ true) where
  abbrev acts : List Numbered
  acts = before ++ (mark, c.Mark) ∷ phase

  holds : Holds acts m
  holds = stands_at acts m later is

  -- the mark asks and says nothing
  queries_are : queries acts ≡ queries before ++ queries phase
  queries_are = filter_map-append (λ (x : Numbered). asked_in x.0 x.1) before ((mark, c.Mark) ∷ phase)

  queries_without : queries (before ++ phase) ≡ queries acts
  queries_without = filter_map-append (λ (x : Numbered). asked_in x.0 x.1) before phase ∙ sym queries_are

  sayings_are : sayings acts ≡ sayings before ++ sayings phase
  sayings_are = filter_map-append (λ (x : Numbered). saying_in x.0 x.1) before ((mark, c.Mark) ∷ phase)

  sayings_without : sayings (before ++ phase) ≡ sayings acts
  sayings_without = filter_map-append (λ (x : Numbered). saying_in x.0 x.1) before phase ∙ sym sayings_are

  below : AllByRecursion (λ (y : Numbered). y.0 < mark) before
  below = (earlier 0 before (mark, c.Mark) phase later).0.below refl

  -- who is no router is a client, or nobody, who was sent nothing
  module _ (receiver : List ℕ) (other : is_router before receiver ≡ false) where
    unnamed : is_router acts receiver ≡ false
    unnamed = list_any-append (λ (y : Numbered). brings_router receiver y.1) before ((mark, c.Mark) ∷ phase) ∙ (λ i. other i || phase_routers receiver phase phased i)

    untold : client_of m.world.clients receiver ≡ None → told_to m.report receiver ≡ []
    untold none = holds.stands.untold receiver (by (is_some (router_of m.world.routers receiver)) refl)
      where
        by : (b : Bool) → is_some (router_of m.world.routers receiver) ≡ b → is_taken m.world receiver ≡ false
        by true e = absurd (false≢true (sym unnamed ∙ named receiver e))
        by false e = (λ i. e i || is_some (none i))

    pub no_other_final : (number : ℕ) → finals_in number (told_to m.report receiver) ≤ times_asked (before ++ phase) receiver number
    no_other_final number = by (client_of m.world.clients receiver) refl
      where
        most : (a b k : ℕ) → a + k ≡ b → a ≤ b
        most a b k e = omega arith

        by : (o : Option ClientState) → client_of m.world.clients receiver ≡ o → finals_in number (told_to m.report receiver) ≤ times_asked (before ++ phase) receiver number
        by None none = subst (λ ts. finals_in number ts ≤ times_asked (before ++ phase) receiver number) (sym (untold none)) (least (times_asked (before ++ phase) receiver number))
          where
            least : (k : ℕ) → 0 ≤ k
            least k = omega arith
        by (Some s) found = most (finals_in number (told_to m.report receiver)) (times_asked (before ++ phase) receiver number) (cond (has_number s.queries number) 1 0)
            ((holds.stands.books receiver s number found).open_.count ∙ length-filter (λ q. is_under receiver number q) (queries acts)
            ∙ ap (count_by (λ q. is_under receiver number q)) (sym queries_without))

    -- who keeps a request under a number has ended all before it
    pub one_at_a_time : (number : ℕ) → length (requests_to m.report receiver number) ≤ suc (times_ended (before ++ phase) receiver number)
    one_at_a_time number = by (client_of m.world.clients receiver) refl
      where
        most : (a b : ℕ) (keeps : Bool) → a ≡ b + cond keeps 1 0 → a ≤ suc b
        most a b true e = omega arith
        most a b false e = omega arith

        by : (o : Option ClientState) → client_of m.world.clients receiver ≡ o → length (requests_to m.report receiver number) ≤ suc (times_ended (before ++ phase) receiver number)
        by None none = subst (λ ts. length (map (λ (t : Told). t.tag) (filter (λ (t : Told). is_request number t.msg) ts)) ≤ suc (times_ended (before ++ phase) receiver number)) (sym (untold none))
            (least (suc (times_ended (before ++ phase) receiver number)))
          where
            least : (k : ℕ) → 0 ≤ k
            least k = omega arith
        by (Some s) found = most (length (requests_to m.report receiver number)) (times_ended (before ++ phase) receiver number) (has_number s.requests number)
            ((holds.stands.books receiver s number found).kept.count ∙ ap (λ ss. count_by (λ z. is_end receiver number z) ss + cond (has_number s.requests number) 1 0) (sym sayings_without))

    -- ---- a reply in its turn

    -- it has the content of what is said
    same_content : (c : Parts) → has_content c (Some c) ≡ true
    same_content c = and_from (is_named c.key c.key) (is_named c.body c.body) (same_refl c.key) (same_refl c.body)

    reply_comes : (r : Reply) (turns : ℕ) → IsAnswer acts m.report receiver r.number turns r → may_come acts m.report receiver turns r ≡ true
    reply_comes r turns a =
        ap (λ o. option_map_or (λ q. list_any (λ s. is_said_to acts m.report q.line s && is_what_is_said q r s) (sayings acts)) o false) a.asked
        ∙ in_any (λ s. is_said_to acts m.report a.query.line s && is_what_is_said a.query r s) (sayings acts) a.said.saying (get_in (sayings acts) a.said.place a.said.saying a.said.stands)
        (and_from (is_said_to acts m.report a.query.line a.said.saying) (is_what_is_said a.query r a.said.saying)
        (ap (λ o. option_map_or (λ l. l == a.query.line) o false) a.said.query ∙ eq-eqb a.query.line a.query.line refl) (by (asks_latest a.query) refl))
      where
        there : In a.query (queries acts)
        there = (in_filter (λ z. is_under receiver r.number z) (queries acts) a.query (get_in (filter (λ z. is_under receiver r.number z) (queries acts)) turns a.query a.asked)).0

        -- with another line it comes to a query for the latest alone
        latest : is_latest_of acts receiver a.query.line ≡ true → asks_latest a.query ≡ true
        latest e =
            let p = any_in (λ (z : Asked). is_named receiver z.client && (z.line == a.query.line && asks_latest z)) (queries acts) e in
            let parts = and_parts (p.0.line == a.query.line) (asks_latest p.0) (and_parts (is_named receiver p.0.client) (p.0.line == a.query.line && asks_latest p.0) p.2).1 in
            ap asks_latest (sym (one_query 0 acts later p.0 a.query p.1 there (eqb-true p.0.line a.query.line parts.0))) ∙ parts.1

        line : asks_latest a.query ≡ false → (a.said.saying.line ≡ r.line) ⊎ ((is_latest_of acts receiver a.query.line ≡ true) × (is_other_line acts r.line ≡ true)) → (a.said.saying.line == r.line) ≡ true
        line e (inl same) = eq-eqb a.said.saying.line r.line same
        line e (inr other) = absurd (false≢true (sym e ∙ latest other.0))

        by : (b : Bool) → asks_latest a.query ≡ b → cond b (has_content r.content a.said.saying.reply) (a.said.saying.line == r.line && is_some a.said.saying.reply) ≡ true
        by true e = ap (has_content r.content) a.said.reply_is ∙ same_content r.content
        by false e = and_from (a.said.saying.line == r.line) (is_some a.said.saying.reply) (line e a.said.line_is) (ap is_some a.said.reply_is)

    -- each reply among what it was sent, behind so many finals of each number
    all_come : (behind told : List Told) → ((k : ℕ) → Turned (λ turns r. IsAnswer acts m.report receiver k turns r) k (finals_in k behind) told) → all_may_come (before ++ phase) m.report receiver behind told ≡ true
    all_come behind [] h = refl
    all_come behind (x ∷ told) h = and_from _ _ (first (reply_in x.tag x.msg) (λ k. (h k).0)) (all_come (behind ++ x ∷ []) told (λ k. subst (λ j. Turned (λ turns r. IsAnswer acts m.report receiver k turns r) k j told) (more k) (h k).1))
      where
        first : (o : Option Reply) → ((k : ℕ) → Says (λ turns r. IsAnswer acts m.report receiver k turns r) k (finals_in k behind) o) → option_map_or (λ r. may_come (before ++ phase) m.report receiver (finals_in r.number behind) r) o true ≡ true
        first None says = refl
        first (Some r) says = may_come_same acts (before ++ phase) m.report receiver (finals_in r.number behind) r queries_without sayings_without
            ∙ reply_comes r (finals_in r.number behind) (says r.number (eq-eqb r.number r.number refl))

        more : (k : ℕ) → cond (is_final k x.msg) (suc (finals_in k behind)) (finals_in k behind) ≡ finals_in k (behind ++ x ∷ [])
        more k = by (is_final k x.msg) ∙ sym (sum_by-append (λ (y : Told). cond (is_final k y.msg) 1 0) behind (x ∷ []))
          where
            by : (b : Bool) → cond b (suc (finals_in k behind)) (finals_in k behind) ≡ finals_in k behind + (0 + cond b 1 0)
            by true = omega arith
            by false = omega arith

    pub no_other_reply : all_may_come (before ++ phase) m.report receiver [] (told_to m.report receiver) ≡ true
    no_other_reply = by (client_of m.world.clients receiver) refl
      where
        by : (o : Option ClientState) → client_of m.world.clients receiver ≡ o → all_may_come (before ++ phase) m.report receiver [] (told_to m.report receiver) ≡ true
        by None none = ap (λ ts. all_may_come (before ++ phase) m.report receiver [] ts) (untold none)
        by (Some s) found = all_come [] (told_to m.report receiver) (λ k. (holds.stands.books receiver s k found).told)
