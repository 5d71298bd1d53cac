-- A message is taken from a router's queue: a router's waits as before, and a client is sent it. A request is of the query of its number, a reply was said to
-- the query that is open under its number, and a final closes that: so what stands is kept (`take_kept`).
use Rattle.std.proofs.Common.{◌≡◌, inl, ℕ, ◌+◌, ◌==◌, Bool, true, false, cond, List, [], ◌∷◌, ◌++◌, map, filter, Option, Some, None, is_some, refl, sym, ap, ◌∙◌, subst, arith, append-nil}
use Rattle.std.specs.Prelude.{◌||◌, IfSome}
use Rattle.std.specs.List.{AllByRecursion, cons_option}
use Rattle.std.specs.Option.{option_map}
use Rattle.std.proofs.lemmas.Bool.{false≢true, true≢false, or_left, false_from_ne_true, eq-eqb, eqb-true}
use Rattle.std.proofs.lemmas.List.Sums.{sum_by-append}
use Rattle.std.proofs.lemmas.Option.{none-some}
use Rattle.zr_id.specs.Zid.{is_named}
use Rattle.zr_graph.proofs.Names.{same_is, same_refl}
use Rattle.zr_msg.specs.declared.msg.Msg.{Msg}
use Rattle.zr_msg.specs.declared.msg.Msg.TheVariants.{Sub, Unsub, Token, Untoken, Able, Unable, Interest, EndInterest, ToldSub, ToldAble, ToldUnsub, ToldToken, ToldUntoken, ToldUnable, ToldEnd, Push, Request, Response, Final, State, Step, Snap}
use Rattle.zr_script_spec.specs.declared.report.ReportLine.{ReportLine}
use Rattle.zr_script_spec.specs.declared.report.ReportLine.TheVariants as line
use Rattle.zr_world_spec.specs.World.{Tagged, RouterState, ClientState, EndState, WorldState, with_end, with_queue, sent, changed, router_of, client_of, end_of, is_taken, is_unbroken}
use Rattle.zr_world_spec.specs.Acts.{has_number, receiving, received, take_step}
use Rattle.zr_world_spec.specs.Moments.{Numbered, Moment, went}
use Rattle.zr_world_spec.proofs.Names.{names, value_after}
use Rattle.zr_world_spec.proofs.Clients.{idle_receiving}
use Rattle.zr_world_spec.proofs.Cases.{w_take, for_take}
use Rattle.zr_law_settled.proofs.Goes.{Goes}
use Rattle.zr_law_settled.proofs.Moving.{unbroken_at}
use Rattle.zr_law_queries.specs.Link.{Ask, Answer, ask, reply, final, has_number as asks_number, answers_number, asked_by}
use Rattle.zr_law_queries.proofs.Hops.{front_ask, front_reply, front_final}
use Rattle.zr_law_numbers.specs.Waiting.{Asked, Said, Place, asks_in, answers_in, waits, back_at, is_whole, link_of}
use Rattle.zr_law_numbers.proofs.Waits.{asks_among, answers_among}
use Rattle.zr_law_numbers.proofs.Whole.{LinksGo, links_stay, whole_turned}
use Rattle.zr_law_numbers.proofs.ActTakes.{take_links}
use Rattle.zr_law_numbers.proofs.ActClients.{number_more, number_less, for_itself, receives, taken_links, taken_first}
use Rattle.zr_guarantee.specs.Item.{Reply}
use Rattle.zr_guarantee.specs.Queries.{Asked as Query, queries, is_under, times_ended}
use Rattle.zr_guarantee.specs.Sent.{Told, told_to, is_request, requests_to, reply_in, is_final, finals_in}
use Rattle.zr_law_replies.specs.Answers.{IsSaidTo, query_at, IsAnswer}
use Rattle.zr_law_replies.proofs.Turns.{Says, Turned, turned_more}
use Rattle.zr_law_replies.proofs.Grown.{Earlier, times_ended_more, under_more, told_more, requests_more, said_kept, query_at_kept}
use Rattle.zr_law_replies.proofs.Books.{Requests, Asks, request_sent, final_sent}
use Rattle.zr_law_replies.proofs.Links.{Lines, SaysTo, lines_on, FineAsk, FineSay}
use Rattle.zr_law_replies.proofs.Lines.{AllShow, pending_same}
use Rattle.zr_law_replies.proofs.Standing.{Book, BookOf, NoBook, Stands, grows, back_is, keeps_is, requests_stay, asks_stay, told_before, book_stays, steady}

-- ---- messages

receiving_requests : (s : ClientState) (k : ℕ) (msg : Msg) → has_number (receiving s msg).requests k ≡ cond (is_request k msg) true (has_number s.requests k)
receiving_requests s k (Sub id key) = refl
receiving_requests s k (Unsub id) = refl
receiving_requests s k (Token id key) = refl
receiving_requests s k (Untoken id) = refl
receiving_requests s k (Able id key complete) = refl
receiving_requests s k (Unable id) = refl
receiving_requests s k (Interest id current future kinds key aggregate) = refl
receiving_requests s k (EndInterest id) = refl
receiving_requests s k (ToldSub id key interest) = refl
receiving_requests s k (ToldToken id key interest) = refl
receiving_requests s k (ToldAble id key complete interest) = refl
receiving_requests s k (ToldUnsub id) = refl
receiving_requests s k (ToldUntoken id) = refl
receiving_requests s k (ToldUnable id) = refl
receiving_requests s k (ToldEnd interest) = refl
receiving_requests s k (Push tree content) = refl
receiving_requests s k (Request tree id target content) = number_more s.requests id k
receiving_requests s k (Response id content) = refl
receiving_requests s k (Final id extras) = refl
receiving_requests s k (State links) = refl
receiving_requests s k (Step source number added decl) = refl
receiving_requests s k (Snap source number decls) = refl

pub receiving_queries : (s : ClientState) (k : ℕ) (msg : Msg) → has_number (receiving s msg).queries k ≡ cond (is_final k msg) false (has_number s.queries k)
receiving_queries s k (Sub id key) = refl
receiving_queries s k (Unsub id) = refl
receiving_queries s k (Token id key) = refl
receiving_queries s k (Untoken id) = refl
receiving_queries s k (Able id key complete) = refl
receiving_queries s k (Unable id) = refl
receiving_queries s k (Interest id current future kinds key aggregate) = refl
receiving_queries s k (EndInterest id) = refl
receiving_queries s k (ToldSub id key interest) = refl
receiving_queries s k (ToldToken id key interest) = refl
receiving_queries s k (ToldAble id key complete interest) = refl
receiving_queries s k (ToldUnsub id) = refl
receiving_queries s k (ToldUntoken id) = refl
receiving_queries s k (ToldUnable id) = refl
receiving_queries s k (ToldEnd interest) = refl
receiving_queries s k (Push tree content) = refl
receiving_queries s k (Request tree id target content) = refl
receiving_queries s k (Response id content) = refl
receiving_queries s k (Final id extras) = number_less s.queries id k
receiving_queries s k (State links) = refl
receiving_queries s k (Step source number added decl) = refl
receiving_queries s k (Snap source number decls) = refl

pub record IsAsk (k tag : ℕ) (msg : Msg) : Type 0 where
  pub request : Asked
  pub is : asks_in tag msg ≡ ask k request ∷ []
  pub line : request.line ≡ tag

ask_of : (k tag : ℕ) (msg : Msg) → is_request k msg ≡ true → IsAsk k tag msg
ask_of k tag (Sub id key) e = absurd (false≢true e)
ask_of k tag (Unsub id) e = absurd (false≢true e)
ask_of k tag (Token id key) e = absurd (false≢true e)
ask_of k tag (Untoken id) e = absurd (false≢true e)
ask_of k tag (Able id key complete) e = absurd (false≢true e)
ask_of k tag (Unable id) e = absurd (false≢true e)
ask_of k tag (Interest id current future kinds key aggregate) e = absurd (false≢true e)
ask_of k tag (EndInterest id) e = absurd (false≢true e)
ask_of k tag (ToldSub id key interest) e = absurd (false≢true e)
ask_of k tag (ToldToken id key interest) e = absurd (false≢true e)
ask_of k tag (ToldAble id key complete interest) e = absurd (false≢true e)
ask_of k tag (ToldUnsub id) e = absurd (false≢true e)
ask_of k tag (ToldUntoken id) e = absurd (false≢true e)
ask_of k tag (ToldUnable id) e = absurd (false≢true e)
ask_of k tag (ToldEnd interest) e = absurd (false≢true e)
ask_of k tag (Push tree content) e = absurd (false≢true e)
ask_of k tag (Request tree id target content) e = record { request = record { line = tag; tree = tree; target = target; content = content }; is = ap (λ j. ask j (record { line = tag; tree = tree; target = target; content = content }) ∷ []) (eqb-true id k e); line = refl }
ask_of k tag (Response id content) e = absurd (false≢true e)
ask_of k tag (Final id extras) e = absurd (false≢true e)
ask_of k tag (State links) e = absurd (false≢true e)
ask_of k tag (Step source number added decl) e = absurd (false≢true e)
ask_of k tag (Snap source number decls) e = absurd (false≢true e)

final_of : (k tag : ℕ) (msg : Msg) → is_final k msg ≡ true → answers_in tag msg ≡ final k ∷ []
final_of k tag (Sub id key) e = absurd (false≢true e)
final_of k tag (Unsub id) e = absurd (false≢true e)
final_of k tag (Token id key) e = absurd (false≢true e)
final_of k tag (Untoken id) e = absurd (false≢true e)
final_of k tag (Able id key complete) e = absurd (false≢true e)
final_of k tag (Unable id) e = absurd (false≢true e)
final_of k tag (Interest id current future kinds key aggregate) e = absurd (false≢true e)
final_of k tag (EndInterest id) e = absurd (false≢true e)
final_of k tag (ToldSub id key interest) e = absurd (false≢true e)
final_of k tag (ToldToken id key interest) e = absurd (false≢true e)
final_of k tag (ToldAble id key complete interest) e = absurd (false≢true e)
final_of k tag (ToldUnsub id) e = absurd (false≢true e)
final_of k tag (ToldUntoken id) e = absurd (false≢true e)
final_of k tag (ToldUnable id) e = absurd (false≢true e)
final_of k tag (ToldEnd interest) e = absurd (false≢true e)
final_of k tag (Push tree content) e = absurd (false≢true e)
final_of k tag (Request tree id target content) e = absurd (false≢true e)
final_of k tag (Response id content) e = absurd (false≢true e)
final_of k tag (Final id extras) e = ap (λ j. final j ∷ []) (eqb-true id k e)
final_of k tag (State links) e = absurd (false≢true e)
final_of k tag (Step source number added decl) e = absurd (false≢true e)
final_of k tag (Snap source number decls) e = absurd (false≢true e)

-- what a reply is as an answer that waits
abbrev as_answer : Reply → Answer Said
as_answer r = reply {R = Said} r.number (record { line = r.line; content = r.content })

reply_is : (o r : Reply) → Some o ≡ Some r → as_answer o ∷ [] ≡ as_answer r ∷ []
reply_is o r e = let one : o ≡ r = cc in ap (λ (z : Reply). as_answer z ∷ []) one

reply_of : (tag : ℕ) (msg : Msg) (r : Reply) → reply_in tag msg ≡ Some r → answers_in tag msg ≡ as_answer r ∷ []
reply_of tag (Sub id key) r e = absurd (none-some r e)
reply_of tag (Unsub id) r e = absurd (none-some r e)
reply_of tag (Token id key) r e = absurd (none-some r e)
reply_of tag (Untoken id) r e = absurd (none-some r e)
reply_of tag (Able id key complete) r e = absurd (none-some r e)
reply_of tag (Unable id) r e = absurd (none-some r e)
reply_of tag (Interest id current future kinds key aggregate) r e = absurd (none-some r e)
reply_of tag (EndInterest id) r e = absurd (none-some r e)
reply_of tag (ToldSub id key interest) r e = absurd (none-some r e)
reply_of tag (ToldToken id key interest) r e = absurd (none-some r e)
reply_of tag (ToldAble id key complete interest) r e = absurd (none-some r e)
reply_of tag (ToldUnsub id) r e = absurd (none-some r e)
reply_of tag (ToldUntoken id) r e = absurd (none-some r e)
reply_of tag (ToldUnable id) r e = absurd (none-some r e)
reply_of tag (ToldEnd interest) r e = absurd (none-some r e)
reply_of tag (Push tree content) r e = absurd (none-some r e)
reply_of tag (Request tree id target content) r e = absurd (none-some r e)
reply_of tag (Response id content) r e = reply_is (record { line = tag; number = id; content = content }) r e
reply_of tag (Final id extras) r e = absurd (none-some r e)
reply_of tag (State links) r e = absurd (none-some r e)
reply_of tag (Step source number added decl) r e = absurd (none-some r e)
reply_of tag (Snap source number decls) r e = absurd (none-some r e)

-- ---- the act

module _ (acts : List Numbered) (m : Moment) (x : Numbered) (before : Earlier acts x) (lines : Lines) (g : Goes m.world) (shows : AllShow m.world) (h : Stands acts m lines)
    (quiet : (d : List ℕ) (k : ℕ) → NoBook (x ∷ []) d k) (router to : List ℕ) where
  abbrev w : WorldState
  w = m.world

  abbrev acts' : List Numbered
  acts' = acts ++ x ∷ []

  abbrev IsKept : Moment → Type 0
  IsKept next = Goes next.world → AllShow next.world → Stands (acts ++ x ∷ []) next (lines_on next.world lines)

  module _ (e : EndState) (ee : end_of w.ends (router, to) ≡ Some e) (unbroken : e.unbroken ≡ true) (there : is_taken w to ≡ true) (msg : Msg) (tag : ℕ) (xs : List Tagged)
      (first : e.queue ≡ record { msg = msg; tag = tag } ∷ xs) where
    abbrev v : WorldState
    v = w_take w router to e msg tag xs

    abbrev rl : List ReportLine
    rl = line.Taken router to msg tag ∷ []

    abbrev report' : List ReportLine
    report' = m.report ++ rl

    abbrev t : Told
    t = record { msg = msg; tag = tag }

    silent : (d : List ℕ) → is_named d to ≡ false → told_to rl d ≡ []
    silent d other = ap (λ b. cons_option (cond b (Some t) None) []) other

    silent_free : (d : List ℕ) → is_taken w d ≡ false → told_to rl d ≡ []
    silent_free d free = silent d (false_from_ne_true (is_named d to) (λ k. true≢false (sym there ∙ ap (is_taken w) (sym (same_is d to k)) ∙ free)))

    -- a router's
    by_router : client_of w.clients to ≡ None → is_some (end_of w.ends (to, router)) ≡ true → (g' : Goes v) (shows' : AllShow v) → Stands acts' (record { world = v; report = report' }) (lines_on v lines)
    by_router none its g' shows' =
        steady acts m x before lines g shows h rl v g' shows' goes (λ q. refl) (λ d. ap is_some (same d)) (λ d k free. quiet d k) silent_free
        (λ d s k found. book_stays acts m x before lines g shows h rl v g' shows' goes d s (sym (same d) ∙ found) k (quiet d k)
        (silent d (false_from_ne_true (is_named d to) (λ b. none-some s (sym none ∙ ap (client_of w.clients) (sym (same_is d to b)) ∙ sym (same d) ∙ found)))))
        (λ a y k hs whole e. inl e)
      where
        same : (d : List ℕ) → client_of v.clients d ≡ client_of w.clients d
        same d = ap (λ o. client_of (received w.clients to msg o) d) none

        goes : LinksGo (FineAsk acts' w v lines) (FineSay acts' report' v lines) w v
        goes = links_stay (FineAsk acts' w v lines) (FineSay acts' report' v lines) w v (take_links w router to none its msg tag xs e ee first)

    -- a client's
    module _ (s : ClientState) (es : client_of w.clients to ≡ Some s) (home : s.router ≡ router) (g' : Goes v) (shows' : AllShow v) where
      abbrev s' : ClientState
      s' = receiving s msg

      ids : s'.router ≡ s.router
      ids = ap (λ (z : ClientState). z.router) (idle_receiving s msg)

      are : (q : List ℕ) → client_of v.clients q ≡ cond (is_named to q) (Some s') (client_of w.clients q)
      are q = ap (λ o. client_of (received w.clients to msg o) q) es ∙ value_after w.clients to q s' (ap is_some es)

      at : end_of w.ends (s.router, to) ≡ Some e
      at = ap (λ z. end_of w.ends (z, to)) home ∙ ee

      ends_are : v.ends ≡ changed (with_end w.ends (s.router, to) (with_queue e xs)) (to, s.router) (λ z. sent z msg tag)
      ends_are = ap (λ z. changed (with_end w.ends (z, to) (with_queue e xs)) (to, z) (λ q. sent q msg tag)) (sym home)

      goes : LinksGo (FineAsk acts' w v lines) (FineSay acts' report' v lines) w v
      goes = taken_links w g.sound g.orderly g.clients to s es v s' ids are (λ a b k. refl) (λ a b k. refl) msg tag xs e at first ends_are (receives to s msg)
          (FineAsk acts' w v lines) (FineSay acts' report' v lines)

      came : waits w s.router to ≡ record { msg = msg; tag = tag } ∷ waits v s.router to
      came = taken_first w g.sound g.orderly g.clients to s es v s' ids are (λ a b k. refl) (λ a b k. refl) msg tag xs e at first ends_are (receives to s msg)

      below : is_whole w s.router to ≡ true
      below = or_left (is_unbroken w.ends (s.router, to)) (is_unbroken w.ends (to, s.router)) (ap unbroken_at at ∙ unbroken)

      above : is_whole w to s.router ≡ true
      above = whole_turned w to s.router ∙ below

      told_is : told_to rl to ≡ t ∷ []
      told_is = ap (λ b. cons_option (cond b (Some t) None) []) (same_refl to)

      -- ---- a request

      requests_none : (k : ℕ) → is_request k msg ≡ false → requests_to rl to k ≡ []
      requests_none k differs = ap (λ ts. map (λ (z : Told). z.tag) (filter (λ z. is_request k z.msg) ts)) told_is ∙ ap (λ b. map (λ (z : Told). z.tag) (cond b (t ∷ []) [])) differs

      requests_one : (k : ℕ) → is_request k msg ≡ true → requests_to rl to k ≡ tag ∷ []
      requests_one k matches = ap (λ ts. map (λ (z : Told). z.tag) (filter (λ z. is_request k z.msg) ts)) told_is ∙ ap (λ b. map (λ (z : Told). z.tag) (cond b (t ∷ []) [])) matches

      abbrev Kept : ℕ → Bool → Type 0
      Kept k keeps = Requests (requests_to report' to k) (times_ended acts' to k) keeps (is_whole v s.router to) (lines_on v lines s.router to k)

      request_taken : (k : ℕ) → is_request k msg ≡ true → Kept k true
      request_taken k matches =
          let hops = shows.links s.router to below in
          let got = ask_of k tag msg matches in
          let asks : (link_of w s.router to).asks ≡ ask k got.request ∷ asks_among (waits v s.router to) = ap asks_among came ∙ ap (λ z. z ++ asks_among (waits v s.router to)) got.is in
          let front = front_ask (link_of w s.router to) hops.0 hops.1 k got.request (asks_among (waits v s.router to)) asks in
          let keeps : has_number s.requests k ≡ false = sym (keeps_is w g.orderly to s es k) ∙ front.untaken in
          let here : filter (asks_number k) (link_of w s.router to).asks ≡ ask k got.request ∷ filter (asks_number k) (asks_among (waits v s.router to)) =
          ap (filter (asks_number k)) asks
          ∙ ap (λ b. cond b (ask k got.request ∷ filter (asks_number k) (asks_among (waits v s.router to))) (filter (asks_number k) (asks_among (waits v s.router to)))) (eq-eqb k k refl) in
          let is : got.request.line ≡ lines s.router to k =
          (subst (λ zs. AllByRecursion (λ (a : Ask Asked). a.request.line ≡ lines s.router to k) zs) here (h.held.is s.router to k below).asks).0 in
          let old : Requests (requests_to m.report to k) (times_ended acts to k) false (is_whole w s.router to) (lines s.router to k) =
          subst (λ b. Requests (requests_to m.report to k) (times_ended acts to k) b (is_whole w s.router to) (lines s.router to k)) keeps (h.books to s k es).kept in
          subst (λ zs. Requests zs (times_ended acts' to k) true (is_whole v s.router to) (lines_on v lines s.router to k))
          (sym (requests_more m.report rl to k ∙ ap (λ z. requests_to m.report to k ++ z) (requests_one k matches)))
          (subst (λ j. Requests (requests_to m.report to k ++ tag ∷ []) j true (is_whole v s.router to) (lines_on v lines s.router to k))
          (sym (times_ended_more acts x to k ∙ ap (λ j. times_ended acts to k + j) (quiet to k).ended ∙ (let f : times_ended acts to k + 0 ≡ times_ended acts to k = omega arith in f)))
          (request_sent (requests_to m.report to k) (times_ended acts to k) (is_whole w s.router to) (is_whole v s.router to) (lines s.router to k) tag (lines_on v lines s.router to k)
          (λ still. pending_same acts m.report acts' report' (grows acts m x before lines g shows h rl v g' shows') w v lines g.sound g'.sound g.orderly shows shows' h.held goes s.router to still k
          front.hop.0 ((hops.1 k).back ∙ ap asked_by front.hop.1) ∙ sym is ∙ got.line) old))

      kept_then : (k : ℕ) (b : Bool) → is_request k msg ≡ b → Kept k (cond b true (has_number s.requests k))
      kept_then k true matches = request_taken k matches
      kept_then k false differs = requests_stay acts m x before lines g shows h rl v g' shows' goes to s es k (quiet to k).ended (requests_none k differs)

      -- ---- a final

      finals_are : (k : ℕ) → finals_in k (told_to report' to) ≡ finals_in k (told_to m.report to) + (0 + cond (is_final k msg) 1 0)
      finals_are k = ap (finals_in k) (told_more m.report rl to ∙ ap (λ z. told_to m.report to ++ z) told_is) ∙ sum_by-append (λ (z : Told). cond (is_final k z.msg) 1 0) (told_to m.report to) (t ∷ [])

      abbrev Open : ℕ → Bool → Type 0
      Open k waits_ = Asks (filter (λ q. is_under to k q) (queries acts')) (finals_in k (told_to report' to)) waits_ (is_whole v to s.router) (lines_on v lines to s.router k)

      under_same : (k : ℕ) → filter (λ q. is_under to k q) (queries acts') ≡ filter (λ q. is_under to k q) (queries acts)
      under_same k = under_more acts x to k ∙ ap (λ z. filter (λ q. is_under to k q) (queries acts) ++ z) (quiet to k).asked ∙ append-nil (filter (λ q. is_under to k q) (queries acts))

      -- a number that is pending is that of an open query
      open_query : (k : ℕ) (by : Option Place) → back_at w to s.router k ≡ Some by → has_number s.queries k ≡ true
      open_query k by pending = at_bool (has_number s.queries k) (sym (back_is w g.orderly to s es k) ∙ pending)
        where
          at_bool : (b : Bool) → cond b (for_itself to k) None ≡ Some by → b ≡ true
          at_bool true f = refl
          at_bool false f = absurd (none-some by f)

      final_taken : (k : ℕ) → is_final k msg ≡ true → Open k false
      final_taken k matches =
          let hops = shows.links to s.router above in
          let answers : (link_of w to s.router).answers ≡ final k ∷ answers_among (waits v s.router to) =
          ap answers_among came ∙ ap (λ z. z ++ answers_among (waits v s.router to)) (final_of k tag msg matches) in
          let front = front_final (link_of w to s.router) hops.0 hops.1 k (answers_among (waits v s.router to)) answers in
          let old : Asks (filter (λ q. is_under to k q) (queries acts)) (finals_in k (told_to m.report to)) true (is_whole w to s.router) (lines to s.router k) =
          subst (λ b. Asks (filter (λ q. is_under to k q) (queries acts)) (finals_in k (told_to m.report to)) b (is_whole w to s.router) (lines to s.router k))
          (open_query k front.by front.pending) (h.books to s k es).open_ in
          subst (λ qs. Asks qs (finals_in k (told_to report' to)) false (is_whole v to s.router) (lines_on v lines to s.router k)) (sym (under_same k))
          (final_sent (filter (λ q. is_under to k q) (queries acts)) (finals_in k (told_to m.report to)) (finals_in k (told_to report' to)) (is_whole w to s.router) (is_whole v to s.router)
          (lines to s.router k) (lines_on v lines to s.router k) (finals_are k ∙ ap (λ b. finals_in k (told_to m.report to) + (0 + cond b 1 0)) matches) old)

      open_then : (k : ℕ) (b : Bool) → is_final k msg ≡ b → Open k (cond b false (has_number s.queries k))
      open_then k true matches = final_taken k matches
      open_then k false differs = asks_stay acts m x before lines g shows h rl v g' shows' goes to s es k (quiet to k).asked (ap (finals_in k) told_is ∙ ap (λ b. 0 + cond b 1 0) differs)

      -- ---- a reply

      reply_taken : (k : ℕ) (r : Reply) → reply_in tag msg ≡ Some r → (r.number == k) ≡ true → IsAnswer acts' report' to k (finals_in k (told_to m.report to)) r
      reply_taken k r is same =
          let number : r.number ≡ k = eqb-true r.number k same in
          let said : Said = record { line = r.line; content = r.content } in
          let hops = shows.links to s.router above in
          let answers : (link_of w to s.router).answers ≡ reply k said ∷ answers_among (waits v s.router to) =
          ap answers_among came ∙ ap (λ z. z ++ answers_among (waits v s.router to)) (reply_of tag msg r is ∙ ap (λ j. reply {R = Said} j said ∷ []) number) in
          let front = front_reply (link_of w to s.router) hops.0 hops.1 k said (answers_among (waits v s.router to)) answers in
          let here : filter (answers_number k) (link_of w to s.router).answers ≡ reply k said ∷ filter (answers_number k) (answers_among (waits v s.router to)) =
          ap (filter (answers_number k)) answers
          ∙ ap (λ b. cond b (reply k said ∷ filter (answers_number k) (answers_among (waits v s.router to))) (filter (answers_number k) (answers_among (waits v s.router to)))) (eq-eqb k k refl) in
          let told : IsSaidTo acts m.report to (lines to s.router k) said =
          (subst (λ zs. AllByRecursion (λ (a : Answer Said). SaysTo acts m.report to (lines to s.router k) a.body) zs) here (h.held.is to s.router k above).said).0 in
          answer (found_query (query_at acts to k (finals_in k (told_to m.report to))) refl ((h.books to s k es).open_.last above (open_query k front.by front.pending))) told
        where
          answer : (q : Query) × (query_at acts to k (finals_in k (told_to m.report to)) ≡ Some q) × (q.line ≡ lines to s.router k) → IsSaidTo acts m.report to (lines to s.router k) (record { line = r.line; content = r.content }) →
              IsAnswer acts' report' to k (finals_in k (told_to m.report to)) r
          answer found told = record {
            query = found.0;
            asked = query_at_kept acts x to k (finals_in k (told_to m.report to)) found.0 found.1;
            said = said_kept acts x before m.report rl to found.0.line (record { line = r.line; content = r.content })
                (subst (λ j. IsSaidTo acts m.report to j (record { line = r.line; content = r.content })) (sym found.2) told);
          }

          found_query : (o : Option Query) → query_at acts to k (finals_in k (told_to m.report to)) ≡ o → option_map (λ q. q.line) o ≡ Some (lines to s.router k) →
              (q : Query) × (query_at acts to k (finals_in k (told_to m.report to)) ≡ Some q) × (q.line ≡ lines to s.router k)
          found_query None f l = absurd (none-some (lines to s.router k) l)
          found_query (Some q) f l = (q, f, (let one : q.line ≡ lines to s.router k = cc in one))

      told_then : (k : ℕ) → Turned (λ turns r. IsAnswer acts' report' to k turns r) k 0 (told_to report' to)
      told_then k =
          subst (λ ts. Turned (λ turns r. IsAnswer acts' report' to k turns r) k 0 ts) (sym (told_more m.report rl to ∙ ap (λ z. told_to m.report to ++ z) told_is))
          (turned_more (λ turns r. IsAnswer acts' report' to k turns r) k 0 (told_to m.report to) t (told_before acts m x before lines g shows h rl v g' shows' goes to s es k)
          (by (reply_in tag msg) refl))
        where
          by : (o : Option Reply) → reply_in tag msg ≡ o → Says (λ turns r. IsAnswer acts' report' to k turns r) k (0 + finals_in k (told_to m.report to)) o
          by None f = tt
          by (Some r) f = λ same. subst (λ j. IsAnswer acts' report' to k j r) (behind (finals_in k (told_to m.report to))) (reply_taken k r f same)
            where
              behind : (j : ℕ) → j ≡ 0 + j
              behind j = omega arith

      own : (k : ℕ) → BookOf acts' report' v (lines_on v lines) to s' k
      own k = subst (λ z. Book acts' report' v (lines_on v lines) to z s'.requests s'.queries k) (sym ids) (record {
        kept = subst (λ b. Kept k b) (sym (receiving_requests s k msg)) (kept_then k (is_request k msg) refl);
        open_ = subst (λ b. Open k b) (sym (receiving_queries s k msg)) (open_then k (is_final k msg) refl);
        told = told_then k;
      })

      books : (d : List ℕ) (z : ClientState) (k : ℕ) → client_of v.clients d ≡ Some z → BookOf acts' report' v (lines_on v lines) d z k
      books d z k found = by (is_named to d) refl (sym (are d) ∙ found)
        where
          by : (b : Bool) → is_named to d ≡ b → cond b (Some s') (client_of w.clients d) ≡ Some z → BookOf acts' report' v (lines_on v lines) d z k
          by true same f =
              let one : s' ≡ z = cc in
              subst (λ j. BookOf acts' report' v (lines_on v lines) d j k) one (subst (λ j. BookOf acts' report' v (lines_on v lines) j s' k) (same_is to d same) (own k))
          by false other f = book_stays acts m x before lines g shows h rl v g' shows' goes d z f k (quiet d k) (silent d (names.symm d to ∙ other))

      by_client : Stands acts' (record { world = v; report = report' }) (lines_on v lines)
      by_client = steady acts m x before lines g shows h rl v g' shows' goes (λ q. refl) (λ d. ap is_some (are d) ∙ same d (is_named to d) refl) (λ d k free. quiet d k) silent_free books (λ a y k hs whole e. inl e)
        where
          same : (d : List ℕ) (b : Bool) → is_named to d ≡ b → is_some (cond b (Some s') (client_of w.clients d)) ≡ is_some (client_of w.clients d)
          same d true f = sym (ap is_some (ap (client_of w.clients) (sym (same_is to d f)) ∙ es))
          same d false f = refl

  pub take_kept : IfSome (went m (take_step w router to)) IsKept
  take_kept = for_take m IsKept router to (λ r er there e ee up unbroken msg tag xs first g' shows'. by r e ee unbroken there msg tag xs first g' shows' (client_of w.clients to) refl)
    where
      by : (r : RouterState) (e : EndState) (ee : end_of w.ends (router, to) ≡ Some e) (unbroken : e.unbroken ≡ true) (there : is_taken w to ≡ true) (msg : Msg) (tag : ℕ) (xs : List Tagged)
          (first : e.queue ≡ record { msg = msg; tag = tag } ∷ xs) (g' : Goes (w_take w router to e msg tag xs)) (shows' : AllShow (w_take w router to e msg tag xs)) (o : Option ClientState) →
          client_of w.clients to ≡ o → Stands acts' (record { world = w_take w router to e msg tag xs; report = m.report ++ line.Taken router to msg tag ∷ [] }) (lines_on (w_take w router to e msg tag xs) lines)
      by r e ee unbroken there msg tag xs first g' shows' None none =
          by_router e ee unbroken there msg tag xs first none (g.holds.twins router to (ap is_some ee) (named (is_some (router_of w.routers to)) refl there)) g' shows'
        where
          named : (b : Bool) → is_some (router_of w.routers to) ≡ b → is_taken w to ≡ true → b ≡ true
          named true k j = refl
          named false k j = absurd (false≢true (sym (λ i. k i || is_some (none i)) ∙ j))
      by r e ee unbroken there msg tag xs first g' shows' (Some s) es =
          by_client e ee unbroken there msg tag xs first s es (g.clients.homes router to s es (ap is_some ee)) g' shows'
