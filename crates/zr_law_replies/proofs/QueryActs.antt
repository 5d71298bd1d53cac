-- A client asks, replies, or ends a request: that keeps what stands. A query is of its own line, and a reply is said to the query that its client keeps.
-- The results are `get_kept`, `reply_kept`, `end_kept`.
use Rattle.std.proofs.Common.{◌≡◌, ℕ, ◌+◌, ◌==◌, Bool, true, false, cond, List, [], ◌∷◌, ◌++◌, filter, Some, None, is_some, refl, sym, ap, ◌∙◌, subst, append-nil}
use Rattle.std.specs.Prelude.{◌&&◌, IfSome}
use Rattle.std.specs.List.{AllByRecursion, list_any}
use Rattle.std.proofs.lemmas.Bool.{false≢true, or_left, or_right, and_right, eq-eqb, eqb-true}
use Rattle.std.proofs.lemmas.List.Elements.{filter-append}
use Rattle.std.proofs.lemmas.List.Folds.{list_any-append}
use Rattle.zr_lists.proofs.Each.{All-back}
use Rattle.zr_id.specs.Zid.{is_named}
use Rattle.zr_graph.proofs.Names.{same_refl}
use Rattle.zr_msg.specs.declared.content.Parts.{Parts}
use Rattle.zr_msg.specs.declared.msg.Msg.TheVariants.{Request, Response, Final}
use Rattle.zr_msg.specs.declared.msg.Target.{Target}
use Rattle.zr_msg.specs.Extras.{no_extras}
use Rattle.zr_script_spec.specs.declared.command.Act.TheVariants as c
use Rattle.zr_script_spec.specs.declared.report.ReportLine.{ReportLine}
use Rattle.zr_world_spec.specs.World.{ClientState, EndState, WorldState, with_clients, with_client, client_of, end_of, is_unbroken}
use Rattle.zr_world_spec.specs.Acts.{has_number, asking, ending, get_step, reply_step, end_step}
use Rattle.zr_world_spec.specs.Moments.{Numbered, Moment, went}
use Rattle.zr_world_spec.proofs.Names.{names, value_after}
use Rattle.zr_world_spec.proofs.Cases.{w_sent, for_get, for_reply, for_end}
use Rattle.zr_law_settled.proofs.Goes.{Goes}
use Rattle.zr_law_settled.proofs.Moving.{unbroken_at}
use Rattle.zr_law_queries.specs.Link.{Ask, ask, has_number as asks_number}
use Rattle.zr_law_numbers.specs.Waiting.{Asked, Place, is_whole, waits}
use Rattle.zr_law_numbers.proofs.Waits.{asks_among, asks_append}
use Rattle.zr_law_numbers.proofs.Whole.{LinksGo, whole_apart}
use Rattle.zr_law_numbers.proofs.ActClients.{number_more, number_less, for_itself, get_deeds, reply_deeds, end_deeds, said_links, says_waits}
use Rattle.zr_guarantee.specs.Queries.{Asked as Query, queries, is_under, times_ended}
use Rattle.zr_guarantee.specs.Sent.{told_to, requests_to, finals_in}
use Rattle.zr_law_replies.specs.Answers.{IsSaidTo}
use Rattle.zr_law_replies.proofs.Grown.{Earlier, times_ended_more, under_more, queries_more, new_reply}
use Rattle.zr_law_replies.proofs.Books.{Requests, Asks, request_ended, query_asked}
use Rattle.zr_law_replies.proofs.Links.{Lines, lines_on, AsksFine, FineAsk, FineSay}
use Rattle.zr_law_replies.proofs.Lines.{AllShow}
use Rattle.zr_law_replies.proofs.Standing.{NoBook, Stands, held_then, back_is, requests_stay, asks_stay, told_stays, book_stays}
use Rattle.zr_law_replies.proofs.ClientActs.{IsKept, said, same_client}

module _ (acts : List Numbered) (m : Moment) (lines : Lines) (g : Goes m.world) (shows : AllShow m.world) (h : Stands acts m lines) (n : ℕ) (name : List ℕ) (number : ℕ) where
  abbrev w : WorldState
  w = m.world

  abbrev report' : List ReportLine
  report' = m.report ++ []

  module _ (s : ClientState) (es : client_of w.clients name ≡ Some s) (e : EndState) (ee : end_of w.ends (s.router, name) ≡ Some e) (unbroken : e.unbroken ≡ true) where
    whole : is_whole w s.router name ≡ true
    whole = or_left (is_unbroken w.ends (s.router, name)) (is_unbroken w.ends (name, s.router)) (ap unbroken_at ee ∙ unbroken)

    -- ---- it asks

    module _ (target : Target) (content : Parts) (before : Earlier acts (n, c.Get name number target content)) (free : has_number s.queries number ≡ false) where
      abbrev x : Numbered
      x = (n, c.Get name number target content)

      abbrev q : Query
      q = record { line = n; client = name; number = number; target = target; content = content }

      abbrev request : Asked
      request = record { line = n; tree = None; target = target; content = content }

      abbrev s' : ClientState
      s' = asking s number

      abbrev v : WorldState
      v = with_clients (w_sent w n name s e (Request None number target content)) (with_client w.clients name s')

      are : (d : List ℕ) → client_of v.clients d ≡ cond (is_named name d) (Some s') (client_of w.clients d)
      are d = value_after w.clients name d s' (ap is_some es)

      module _ (g' : Goes v) (shows' : AllShow v) where
        asks_well : AsksFine (acts ++ x ∷ []) w v lines name s.router number request (Some (record { name = name; number = number }))
        asks_well = record {
          asked = ap (list_any (λ p. p.line == n)) (queries_more acts x) ∙ list_any-append (λ (p : Query). p.line == n) (queries acts) (queries (x ∷ []))
              ∙ or_right (list_any (λ p. p.line == n) (queries acts)) (list_any (λ p. p.line == n) (queries (x ∷ []))) (or_left (n == n) false (eq-eqb n n refl));
          free = back_is w g.orderly name s es number ∙ ap (λ b. cond b (for_itself name number) None) free;
          asker = λ p f there.
              let one : record { name = name; number = number } ≡ p = some_is p f in
              absurd (false≢true (sym (whole_apart v g'.sound p.name name there) ∙ ap (λ (z : Place). is_named z.name name) (sym one) ∙ same_refl name));
        }
          where
            some_is : (p : Place) → Some (record { name = name; number = number }) ≡ Some p → record { name = name; number = number } ≡ p
            some_is p f = cc

        goes : LinksGo (FineAsk (acts ++ x ∷ []) w v lines) (FineSay (acts ++ x ∷ []) report' v lines) w v
        goes = said_links w g.sound g.orderly g.clients name s es v s' refl are (λ a b k. refl) (λ a b k. refl) n (Request None number target content) e ee refl
            (get_deeds name s n number target content free) (FineAsk (acts ++ x ∷ []) w v lines) (FineSay (acts ++ x ∷ []) report' v lines) (asks_well, tt) (tt, tt)

        -- the number is of the new line
        new_line : is_whole v name s.router ≡ true → lines_on v lines name s.router number ≡ n
        new_line there =
            let says : waits v name s.router ≡ waits w name s.router ++ record { msg = Request None number target content; tag = n } ∷ [] =
            says_waits w g.sound g.orderly g.clients name s es v s' refl are (λ a b k. refl) (λ a b k. refl) n (Request None number target content) e ee refl (get_deeds name s n number target content free) in
            let asks : filter (asks_number number) (asks_among (waits v name s.router)) ≡ filter (asks_number number) (asks_among (waits w name s.router)) ++ ask number request ∷ [] =
            ap (λ ts. filter (asks_number number) (asks_among ts)) says
            ∙ ap (filter (asks_number number)) (asks_append (waits w name s.router) (record { msg = Request None number target content; tag = n } ∷ []))
            ∙ filter-append (asks_number number) (asks_among (waits w name s.router)) (ask number request ∷ [])
            ∙ ap (λ b. filter (asks_number number) (asks_among (waits w name s.router)) ++ cond b (ask number request ∷ []) []) (eq-eqb number number refl) in
            sym (All-back (λ (a : Ask Asked). a.request.line ≡ lines_on v lines name s.router number) (filter (asks_number number) (asks_among (waits w name s.router))) (ask number request ∷ [])
            (subst (λ zs. AllByRecursion (λ (a : Ask Asked). a.request.line ≡ lines_on v lines name s.router number) zs) asks
            ((held_then acts m x before lines g shows h [] v g' shows' goes).is name s.router number there).asks)).0

        asks_then : (k : ℕ) (b : Bool) → (number == k) ≡ b →
            Asks (filter (λ z. is_under name k z) (queries (acts ++ x ∷ []))) (finals_in k (told_to report' name)) (has_number s'.queries k) (is_whole v name s.router) (lines_on v lines name s.router k)
        asks_then k true same =
            let one : number ≡ k = eqb-true number k same in
            let was : Asks (filter (λ z. is_under name k z) (queries acts)) (finals_in k (told_to m.report name)) false (is_whole w name s.router) (lines name s.router k) =
            subst (λ b. Asks (filter (λ z. is_under name k z) (queries acts)) (finals_in k (told_to m.report name)) b (is_whole w name s.router) (lines name s.router k))
            (ap (has_number s.queries) (sym one) ∙ free) (h.books name s k es).open_ in
            let more : filter (λ z. is_under name k z) (queries (acts ++ x ∷ [])) ≡ filter (λ z. is_under name k z) (queries acts) ++ q ∷ [] =
            under_more acts x name k ∙ (λ i. filter (λ z. is_under name k z) (queries acts) ++ cond (same_refl name i && same i) (q ∷ []) []) in
            subst (λ b. Asks (filter (λ z. is_under name k z) (queries (acts ++ x ∷ []))) (finals_in k (told_to report' name)) b (is_whole v name s.router) (lines_on v lines name s.router k))
            (sym (number_more s.queries number k ∙ ap (λ b. cond b true (has_number s.queries k)) same))
            (subst (λ r. Asks (filter (λ z. is_under name k z) (queries (acts ++ x ∷ []))) (finals_in k (told_to r name)) true (is_whole v name s.router) (lines_on v lines name s.router k)) (sym (append-nil m.report))
            (query_asked (filter (λ z. is_under name k z) (queries acts)) (filter (λ z. is_under name k z) (queries (acts ++ x ∷ []))) (finals_in k (told_to m.report name)) (is_whole w name s.router)
            (is_whole v name s.router) (lines name s.router k) (lines_on v lines name s.router k) q more (λ there. ap (lines_on v lines name s.router) (sym one) ∙ new_line there) was))
        asks_then k false other =
            subst (λ b. Asks (filter (λ z. is_under name k z) (queries (acts ++ x ∷ []))) (finals_in k (told_to report' name)) b (is_whole v name s.router) (lines_on v lines name s.router k))
            (sym (number_more s.queries number k ∙ ap (λ b. cond b true (has_number s.queries k)) other))
            (asks_stay acts m x before lines g shows h [] v g' shows' goes name s es k (ap (λ b. cond b (q ∷ []) []) (and_right (is_named name name) (number == k) other)) refl)

        asked : Stands (acts ++ x ∷ []) (record { world = v; report = report' }) (lines_on v lines)
        asked = said acts m x before lines g shows h name s es e ee n (Request None number target content) v g' shows' goes s' (λ z. refl) are
            (λ k. record {
              kept = requests_stay acts m x before lines g shows h [] v g' shows' goes name s es k refl refl;
              open_ = asks_then k (number == k) refl;
              told = told_stays acts m x before lines g shows h [] v g' shows' goes name s es k refl;
            })
            (λ d k other. record { ended = refl; asked = ap (λ b. cond (b && number == k) (q ∷ []) []) (names.symm d name ∙ other) })

    -- ---- it replies

    module _ (content : Parts) (before : Earlier acts (n, c.Reply name number content)) (keeps : has_number s.requests number ≡ true) where
      abbrev y : Numbered
      y = (n, c.Reply name number content)

      abbrev v_replied : WorldState
      v_replied = w_sent w n name s e (Response number content)

      replied : (g' : Goes v_replied) (shows' : AllShow v_replied) → Stands (acts ++ y ∷ []) (record { world = v_replied; report = report' }) (lines_on v_replied lines)
      replied g' shows' =
          said acts m y before lines g shows h name s es e ee n (Response number content) v_replied g' shows' on s (λ z. refl) (λ d. same d (is_named name d) refl)
          (λ k. book_stays acts m y before lines g shows h [] v_replied g' shows' on name s es k (nothing name k) refl) (λ d k other. nothing d k)
        where
          nothing : (d : List ℕ) (k : ℕ) → NoBook (y ∷ []) d k
          nothing d k = record { ended = ap (λ b. 0 + cond b 1 0) (and_right (is_named d name) ((number == k) && false) (and_right (number == k) false refl)); asked = refl }

          same : (d : List ℕ) (b : Bool) → is_named name d ≡ b → client_of w.clients d ≡ cond b (Some s) (client_of w.clients d)
          same d b f = same_client acts m y before lines g shows h name s es e ee n (Response number content) d b f

          reply_said : IsSaidTo (acts ++ y ∷ []) report' s.router (lines s.router name number) (record { line = n; content = content })
          reply_said = subst (λ r. IsSaidTo (acts ++ y ∷ []) r s.router (lines s.router name number) (record { line = n; content = content })) (sym (append-nil m.report))
              (new_reply acts m.report n name number content s.router (lines s.router name number) before ((h.books name s number es).kept.last whole keeps))

          on : LinksGo (FineAsk (acts ++ y ∷ []) w v_replied lines) (FineSay (acts ++ y ∷ []) report' v_replied lines) w v_replied
          on = said_links w g.sound g.orderly g.clients name s es v_replied s refl (λ d. same d (is_named name d) refl) (λ a b k. refl) (λ a b k. refl) n (Response number content) e ee refl
              (reply_deeds name s n number content keeps) (FineAsk (acts ++ y ∷ []) w v_replied lines) (FineSay (acts ++ y ∷ []) report' v_replied lines) (tt, tt) ((λ there. reply_said), tt)

    -- ---- it ends a request

    module _ (before : Earlier acts (n, c.End name number)) (keeps : has_number s.requests number ≡ true) where
      abbrev z : Numbered
      z = (n, c.End name number)

      abbrev s_ended : ClientState
      s_ended = ending s number

      abbrev v_ended : WorldState
      v_ended = with_clients (w_sent w n name s e (Final number no_extras)) (with_client w.clients name s_ended)

      are_ended : (d : List ℕ) → client_of v_ended.clients d ≡ cond (is_named name d) (Some s_ended) (client_of w.clients d)
      are_ended d = value_after w.clients name d s_ended (ap is_some es)

      module _ (g' : Goes v_ended) (shows' : AllShow v_ended) where
        on_ended : LinksGo (FineAsk (acts ++ z ∷ []) w v_ended lines) (FineSay (acts ++ z ∷ []) report' v_ended lines) w v_ended
        on_ended = said_links w g.sound g.orderly g.clients name s es v_ended s_ended refl are_ended (λ a b k. refl) (λ a b k. refl) n (Final number no_extras) e ee refl
            (end_deeds name s n number keeps) (FineAsk (acts ++ z ∷ []) w v_ended lines) (FineSay (acts ++ z ∷ []) report' v_ended lines) (tt, tt) (tt, tt)

        requests_then : (k : ℕ) (b : Bool) → (number == k) ≡ b →
            Requests (requests_to report' name k) (times_ended (acts ++ z ∷ []) name k) (has_number s_ended.requests k) (is_whole v_ended s.router name) (lines_on v_ended lines s.router name k)
        requests_then k true same =
            let was : Requests (requests_to m.report name k) (times_ended acts name k) true (is_whole w s.router name) (lines s.router name k) =
            subst (λ b. Requests (requests_to m.report name k) (times_ended acts name k) b (is_whole w s.router name) (lines s.router name k))
            (ap (has_number s.requests) (sym (eqb-true number k same)) ∙ keeps) (h.books name s k es).kept in
            subst (λ b. Requests (requests_to report' name k) (times_ended (acts ++ z ∷ []) name k) b (is_whole v_ended s.router name) (lines_on v_ended lines s.router name k))
            (sym (number_less s.requests number k ∙ ap (λ b. cond b false (has_number s.requests k)) same))
            (subst (λ r. Requests (requests_to r name k) (times_ended (acts ++ z ∷ []) name k) false (is_whole v_ended s.router name) (lines_on v_ended lines s.router name k)) (sym (append-nil m.report))
            (request_ended (requests_to m.report name k) (times_ended acts name k) (times_ended (acts ++ z ∷ []) name k) (is_whole w s.router name) (is_whole v_ended s.router name)
            (lines s.router name k) (lines_on v_ended lines s.router name k)
            (times_ended_more acts z name k ∙ ap (λ j. times_ended acts name k + j) (λ i. 0 + cond (same_refl name i && (same i && true)) 1 0)) was))
        requests_then k false other =
            subst (λ b. Requests (requests_to report' name k) (times_ended (acts ++ z ∷ []) name k) b (is_whole v_ended s.router name) (lines_on v_ended lines s.router name k))
            (sym (number_less s.requests number k ∙ ap (λ b. cond b false (has_number s.requests k)) other))
            (requests_stay acts m z before lines g shows h [] v_ended g' shows' on_ended name s es k
            (ap (λ b. 0 + cond b 1 0) (and_right (is_named name name) ((number == k) && true) (ap (λ b. b && true) other))) refl)

        ended : Stands (acts ++ z ∷ []) (record { world = v_ended; report = report' }) (lines_on v_ended lines)
        ended = said acts m z before lines g shows h name s es e ee n (Final number no_extras) v_ended g' shows' on_ended s_ended (λ j. refl) are_ended
            (λ k. record {
              kept = requests_then k (number == k) refl;
              open_ = asks_stay acts m z before lines g shows h [] v_ended g' shows' on_ended name s es k refl refl;
              told = told_stays acts m z before lines g shows h [] v_ended g' shows' on_ended name s es k refl;
            })
            (λ d k other. record { ended = ap (λ b. 0 + cond (b && ((number == k) && true)) 1 0) (names.symm d name ∙ other); asked = refl })

  pub get_kept : (target : Target) (content : Parts) (before : Earlier acts (n, c.Get name number target content)) →
      IfSome (went m (get_step w n name number target content)) (IsKept acts m (n, c.Get name number target content) before lines g shows h)
  get_kept target content before = for_get m (IsKept acts m (n, c.Get name number target content) before lines g shows h) n name number target content
      (λ s es free e ee unbroken room g' shows'. asked s es e ee unbroken target content before free g' shows')

  pub reply_kept : (content : Parts) (before : Earlier acts (n, c.Reply name number content)) →
      IfSome (went m (reply_step w n name number content)) (IsKept acts m (n, c.Reply name number content) before lines g shows h)
  reply_kept content before = for_reply m (IsKept acts m (n, c.Reply name number content) before lines g shows h) n name number content
      (λ s es e ee unbroken keeps g' shows'. replied s es e ee unbroken content before keeps g' shows')

  pub end_kept : (before : Earlier acts (n, c.End name number)) → IfSome (went m (end_step w n name number)) (IsKept acts m (n, c.End name number) before lines g shows h)
  end_kept before = for_end m (IsKept acts m (n, c.End name number) before lines g shows h) n name number
      (λ s es e ee unbroken keeps g' shows'. ended s es e ee unbroken before keeps g' shows')
