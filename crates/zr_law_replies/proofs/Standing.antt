-- What stands at a moment (`Stands`): the query of each number of each link, and all that clients were sent and asked under each number. What stands then is
-- what an act leaves as it is, number by number, and what it changes.
use Rattle.std.proofs.Common.{◌≡◌, ℕ, ◌+◌, ◌⊎◌, inl, inr, Option, true, false, cond, List, [], ◌∷◌, ◌++◌, map, filter, Some, None, is_some, refl, sym, ap, ◌∙◌, subst, arith, append-nil}
use Rattle.std.specs.Prelude.{◌&&◌, ◌||◌}
use Rattle.std.proofs.lemmas.List.Sums.{sum_by-append}
use Rattle.zr_lists.proofs.Options.{not_there}
use Rattle.zr_graph.proofs.Names.{same_refl}
use Rattle.zr_script_spec.specs.declared.report.ReportLine.{ReportLine}
use Rattle.zr_world_spec.specs.World.{ClientState, WorldState, router_of, client_of, is_taken}
use Rattle.zr_world_spec.specs.Acts.{has_number}
use Rattle.zr_world_spec.specs.Moments.{Numbered, Moment}
use Rattle.zr_law_settled.proofs.Goes.{Goes}
use Rattle.zr_law_settled.proofs.Orderly.{Orderly}
use Rattle.zr_msg.specs.declared.content.Parts.{Parts}
use Rattle.zr_law_numbers.specs.Waiting.{Place, is_kept_by, back_at, is_whole}
use Rattle.zr_law_numbers.proofs.Waits.{client_keeps, client_back}
use Rattle.zr_law_numbers.proofs.Whole.{LinksGo, client_alone}
use Rattle.zr_law_numbers.proofs.ActClients.{for_itself}
use Rattle.zr_guarantee.specs.Queries.{queries, is_under, times_ended}
use Rattle.zr_guarantee.specs.Sent.{Told, told_to, is_request, requests_to, finals_in, is_final}
use Rattle.zr_law_replies.specs.Answers.{IsAnswer}
use Rattle.zr_law_replies.proofs.Turns.{Turned, turned_each}
use Rattle.zr_law_replies.proofs.Grown.{Earlier, times_ended_more, under_more, asked_kept, latest_kept, other_kept, told_more, requests_more, said_kept, answer_kept}
use Rattle.zr_law_replies.proofs.Gathered.{gathered_at, IsGathered, GathersHold, gathered_kept, gathered_grows}
use Rattle.zr_law_replies.proofs.Books.{Requests, Asks, requests_same, asks_same}
use Rattle.zr_law_replies.proofs.Links.{Lines, lines_on, FineAsk, FineSay, Grows}
use Rattle.zr_law_replies.proofs.Lines.{LinesHold, AllShow, lines_go, pending_same, kept_same, pending_whole, kept_whole}

-- a client of a router, with these requests and queries, under one number
pub record Book (acts : List Numbered) (report : List ReportLine) (w : WorldState) (lines : Lines) (c home : List ℕ) (requests queries_ : List ℕ) (n : ℕ) : Type 0 where
  pub kept : Requests (requests_to report c n) (times_ended acts c n) (has_number requests n) (is_whole w home c) (lines home c n)
  pub open_ : Asks (filter (λ q. is_under c n q) (queries acts)) (finals_in n (told_to report c)) (has_number queries_ n) (is_whole w c home) (lines c home n)
  pub told : Turned (λ turns r. IsAnswer acts report c n turns r) n 0 (told_to report c)

abbrev pub BookOf : List Numbered → List ReportLine → WorldState → Lines → List ℕ → ClientState → ℕ → Type 0
BookOf acts report w lines c s n = Book acts report w lines c s.router s.requests s.queries n

-- acts in which a name neither asks nor ends anything under a number
pub record NoBook (acts : List Numbered) (c : List ℕ) (n : ℕ) : Type 0 where
  pub ended : times_ended acts c n ≡ 0
  pub asked : filter (λ q. is_under c n q) (queries acts) ≡ []

pub record Stands (acts : List Numbered) (m : Moment) (lines : Lines) : Type 0 where
  pub held : LinesHold acts m.report m.world lines
  pub books : (c : List ℕ) (s : ClientState) (n : ℕ) → client_of m.world.clients c ≡ Some s → BookOf acts m.report m.world lines c s n
  pub others : (c : List ℕ) (n : ℕ) → client_of m.world.clients c ≡ None → NoBook acts c n
  pub untold : (c : List ℕ) → is_taken m.world c ≡ false → told_to m.report c ≡ []
  -- what routers hold was said to the queries of who asked
  pub gathers : GathersHold acts m.report m.world lines

-- ---- a client's own part of its links

module _ (w : WorldState) (orderly : Orderly w) (c : List ℕ) (s : ClientState) (found : client_of w.clients c ≡ Some s) (n : ℕ) where
  pub keeps_is : is_kept_by w s.router c n ≡ has_number s.requests n
  keeps_is = client_keeps w s.router c s (client_alone w orderly c s found) found n ∙ ap (λ b. b && has_number s.requests n) (same_refl s.router)

  pub back_is : back_at w c s.router n ≡ cond (has_number s.queries n) (for_itself c n) None
  back_is = client_back w c s.router s (client_alone w orderly c s found) found n ∙ ap (λ b. cond (b && has_number s.queries n) (for_itself c n) None) (same_refl s.router)

-- ---- one act more

module _ (acts : List Numbered) (m : Moment) (x : Numbered) (before : Earlier acts x) (lines : Lines) (g : Goes m.world) (shows : AllShow m.world) (h : Stands acts m lines) (rl : List ReportLine)
    (v : WorldState) (g' : Goes v) (shows' : AllShow v) where
  abbrev w : WorldState
  w = m.world

  abbrev acts' : List Numbered
  acts' = acts ++ x ∷ []

  abbrev report' : List ReportLine
  report' = m.report ++ rl

  abbrev pub then : Moment
  then = record { world = v; report = m.report ++ rl }

  abbrev lines' : Lines
  lines' = lines_on v lines

  pub grows : Grows acts m.report acts' report'
  grows = record {
    asked = λ line i. asked_kept acts x line i;
    said = λ name line said i. said_kept acts x before m.report rl name line said i;
    latest = λ name line i. latest_kept acts x name line i;
    other = λ line i. other_kept acts x before line i;
  }

  -- what each act does on links is fine
  abbrev pub Well : Type 0
  Well = LinksGo (FineAsk acts' w v lines) (FineSay acts' report' v lines) w v

  pub no_book_then : (c : List ℕ) (n : ℕ) → NoBook acts c n → NoBook (x ∷ []) c n → NoBook acts' c n
  no_book_then c n was now = record { ended = times_ended_more acts x c n ∙ (λ i. was.ended i + now.ended i); asked = under_more acts x c n ∙ (λ i. was.asked i ++ now.asked i) }

  pub others_then : ((c : List ℕ) → client_of v.clients c ≡ None → client_of w.clients c ≡ None) → ((c : List ℕ) (n : ℕ) → client_of v.clients c ≡ None → NoBook (x ∷ []) c n) →
      (c : List ℕ) (n : ℕ) → client_of v.clients c ≡ None → NoBook acts' c n
  others_then gone quiet c n none = no_book_then c n (h.others c n (gone c none)) (quiet c n none)

  pub told_none : (c : List ℕ) → told_to rl c ≡ [] → told_to report' c ≡ told_to m.report c
  told_none c e = told_more m.report rl c ∙ ap (λ z. told_to m.report c ++ z) e ∙ append-nil (told_to m.report c)

  module _ (goes : Well) where
    pub held_then : LinesHold acts' report' v lines'
    held_then = lines_go acts m.report acts' report' grows w v lines g.sound g'.sound g.orderly shows shows' h.held goes

    -- what routers hold then they held before, or it was said to the query of a number that was pending
    abbrev pub GathersBy : Type 0
    GathersBy = (a y : List ℕ) (n : ℕ) (hs : List Parts) → is_whole v y a ≡ true → gathered_at v a y n ≡ Some hs →
        (gathered_at w a y n ≡ Some hs) ⊎ (IsGathered acts' report' y (lines y a n) hs × (by : Option Place) × (back_at w y a n ≡ Some by))

    pub gathers_then : GathersBy → GathersHold acts' report' v lines'
    gathers_then each a y n hs whole e = by (each a y n hs whole e)
      where
        on : (by : Option Place) → back_at w y a n ≡ Some by → IsGathered acts' report' y (lines y a n) hs → IsGathered acts' report' y (lines' y a n) hs
        on by pending was = subst (λ k. IsGathered acts' report' y k hs)
            (sym (pending_same acts m.report acts' report' grows w v lines g.sound g'.sound g.orderly shows shows' h.held goes y a whole n by pending)) was

        by : (gathered_at w a y n ≡ Some hs) ⊎ (IsGathered acts' report' y (lines y a n) hs × (by : Option Place) × (back_at w y a n ≡ Some by)) → IsGathered acts' report' y (lines' y a n) hs
        by (inl old) =
            let kept : is_kept_by w y a n ≡ true = gathered_kept w shows.tables a y n hs old in
            let there : is_whole w y a ≡ true = kept_whole acts m.report acts' report' grows w v lines g.sound g'.sound g.orderly shows shows' h.held goes y a whole n kept in
            subst (λ k. IsGathered acts' report' y k hs) (sym (kept_same acts m.report acts' report' grows w v lines g.sound g'.sound g.orderly shows shows' h.held goes y a whole n kept))
            (gathered_grows acts x before m.report rl y (lines y a n) hs (h.gathers a y n hs there old))
        by (inr new) = on new.1 new.2 new.0

    -- ---- a client, number by number

    module _ (c : List ℕ) (s : ClientState) (found : client_of w.clients c ≡ Some s) (n : ℕ) where
      pub requests_stay : times_ended (x ∷ []) c n ≡ 0 → requests_to rl c n ≡ [] →
          Requests (requests_to report' c n) (times_ended acts' c n) (has_number s.requests n) (is_whole v s.router c) (lines' s.router c n)
      requests_stay quiet none = requests_same (requests_to m.report c n) (requests_to report' c n) (times_ended acts c n) (times_ended acts' c n) (has_number s.requests n) (has_number s.requests n)
          (is_whole w s.router c) (is_whole v s.router c) (lines s.router c n) (lines' s.router c n)
          (requests_more m.report rl c n ∙ ap (λ z. requests_to m.report c n ++ z) none ∙ append-nil (requests_to m.report c n))
          (times_ended_more acts x c n ∙ ap (λ k. times_ended acts c n + k) quiet ∙ (let e : times_ended acts c n + 0 ≡ times_ended acts c n = omega arith in e))
          refl
          (λ whole keeps. (
            kept_whole acts m.report acts' report' grows w v lines g.sound g'.sound g.orderly shows shows' h.held goes s.router c whole n (keeps_is w g.orderly c s found n ∙ keeps),
            kept_same acts m.report acts' report' grows w v lines g.sound g'.sound g.orderly shows shows' h.held goes s.router c whole n (keeps_is w g.orderly c s found n ∙ keeps),
          ))
          (h.books c s n found).kept

      abbrev Waits : Type 0
      Waits = has_number s.queries n ≡ true

      waiting : Waits → back_at w c s.router n ≡ for_itself c n
      waiting k = back_is w g.orderly c s found n ∙ ap (λ b. cond b (for_itself c n) None) k

      pub asks_stay : filter (λ q. is_under c n q) (queries (x ∷ [])) ≡ [] → finals_in n (told_to rl c) ≡ 0 →
          Asks (filter (λ q. is_under c n q) (queries acts')) (finals_in n (told_to report' c)) (has_number s.queries n) (is_whole v c s.router) (lines' c s.router n)
      asks_stay quiet none = asks_same (filter (λ q. is_under c n q) (queries acts)) (filter (λ q. is_under c n q) (queries acts')) (finals_in n (told_to m.report c)) (finals_in n (told_to report' c))
          (has_number s.queries n) (has_number s.queries n) (is_whole w c s.router) (is_whole v c s.router) (lines c s.router n) (lines' c s.router n)
          (under_more acts x c n ∙ ap (λ z. filter (λ q. is_under c n q) (queries acts) ++ z) quiet ∙ append-nil (filter (λ q. is_under c n q) (queries acts)))
          (ap (finals_in n) (told_more m.report rl c) ∙ sum_by-append (λ (t : Told). cond (is_final n t.msg) 1 0) (told_to m.report c) (told_to rl c)
          ∙ ap (λ k. finals_in n (told_to m.report c) + k) none ∙ (let e : finals_in n (told_to m.report c) + 0 ≡ finals_in n (told_to m.report c) = omega arith in e))
          refl
          (λ whole keeps. (
            pending_whole acts m.report acts' report' grows w v lines g.sound g'.sound g.orderly shows shows' h.held goes c s.router whole n (Some (record { name = c; number = n })) (waiting keeps),
            pending_same acts m.report acts' report' grows w v lines g.sound g'.sound g.orderly shows shows' h.held goes c s.router whole n (Some (record { name = c; number = n })) (waiting keeps),
          ))
          (h.books c s n found).open_

      -- all that it was sent before
      pub told_before : Turned (λ turns r. IsAnswer acts' report' c n turns r) n 0 (told_to m.report c)
      told_before = turned_each (λ turns r. IsAnswer acts m.report c n turns r) (λ turns r. IsAnswer acts' report' c n turns r) n (λ turns r i. answer_kept acts x before m.report rl c n turns r i) 0
          (told_to m.report c) (h.books c s n found).told

      pub told_stays : told_to rl c ≡ [] → Turned (λ turns r. IsAnswer acts' report' c n turns r) n 0 (told_to report' c)
      told_stays e = subst (λ told. Turned (λ turns r. IsAnswer acts' report' c n turns r) n 0 told) (sym (told_none c e)) told_before

      pub book_stays : NoBook (x ∷ []) c n → told_to rl c ≡ [] → BookOf acts' report' v lines' c s n
      book_stays quiet none = record {
        kept = requests_stay quiet.ended (none_requested none);
        open_ = asks_stay quiet.asked (ap (finals_in n) none);
        told = told_stays none;
      }
        where
          none_requested : told_to rl c ≡ [] → requests_to rl c n ≡ []
          none_requested e = ap (λ ts. requests_of ts) e
            where
              requests_of : List Told → List ℕ
              requests_of ts = map (λ t. t.tag) (filter (λ t. is_request n t.msg) ts)

    -- ---- all names

    -- an act that brings no router and no client
    pub steady : ((q : List ℕ) → is_some (router_of v.routers q) ≡ is_some (router_of w.routers q)) → ((c : List ℕ) → is_some (client_of v.clients c) ≡ is_some (client_of w.clients c)) →
        ((c : List ℕ) (n : ℕ) → client_of w.clients c ≡ None → NoBook (x ∷ []) c n) → ((c : List ℕ) → is_taken w c ≡ false → told_to rl c ≡ []) →
        ((c : List ℕ) (s : ClientState) (n : ℕ) → client_of v.clients c ≡ Some s → BookOf acts' report' v lines' c s n) → GathersBy → Stands acts' then lines'
    steady routers clients quiet silent books gathers = record {
      held = held_then;
      books = books;
      others = others_then (λ c none. gone c none) (λ c n none. quiet c n (gone c none));
      untold = λ c free. told_none c (silent c (was_free c free)) ∙ h.untold c (was_free c free);
      gathers = gathers_then gathers;
    }
      where
        gone : (c : List ℕ) → client_of v.clients c ≡ None → client_of w.clients c ≡ None
        gone c none = not_there (client_of w.clients c) (sym (clients c) ∙ ap is_some none)

        was_free : (c : List ℕ) → is_taken v c ≡ false → is_taken w c ≡ false
        was_free c free = (λ i. sym (routers c) i || sym (clients c) i) ∙ free

    -- a client with other ids alone
    pub book_same : (c : List ℕ) (s s' : ClientState) (n : ℕ) → s'.router ≡ s.router → s'.requests ≡ s.requests → s'.queries ≡ s.queries → BookOf acts' report' v lines' c s n → BookOf acts' report' v lines' c s' n
    book_same c s s' n home requests asks b =
        subst (λ z. Book acts' report' v lines' c z s'.requests s'.queries n) (sym home)
        (subst (λ z. Book acts' report' v lines' c s.router z s'.queries n) (sym requests)
        (subst (λ z. Book acts' report' v lines' c s.router s.requests z n) (sym asks) b))
