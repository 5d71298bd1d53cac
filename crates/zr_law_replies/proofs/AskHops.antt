-- A client asks: its request goes to its router under a number that was free, and no other hop changes. So if it asks another query, the query stands as
-- before (`asks_now`, `elsewhere`).
use Rattle.std.proofs.Common.{◌≡◌, ◌<◌, ℕ, ◌-◌, ◌==◌, ◌||◌, Bool, true, false, cond, List, [], ◌∷◌, ◌++◌, Some, None, is_some, refl, sym, ap, ◌∙◌, subst, append-nil}
use Rattle.std.specs.Prelude.{not}
use Rattle.std.specs.List.{AllByRecursion, list_any}
use Rattle.std.proofs.lemmas.Bool.{false≢true, true≢false, eqb-true, eq-eqb, or_right}
use Rattle.std.proofs.lemmas.List.Folds.{list_any-append}
use Rattle.zr_id.specs.Zid.{is_named}
use Rattle.zr_msg.specs.declared.content.Parts.{Parts}
use Rattle.zr_msg.specs.declared.msg.Msg.TheVariants as msgs
use Rattle.zr_msg.specs.declared.msg.Target.{Target}
use Rattle.zr_script_spec.specs.declared.command.Act.TheVariants as c
use Rattle.zr_world_spec.specs.World.{ClientState, EndState, Clients, WorldState, with_client, client_of, end_of, is_unbroken}
use Rattle.zr_world_spec.specs.Acts.{has_number, asking}
use Rattle.zr_world_spec.specs.Moments.{Numbered, Moment}
use Rattle.zr_world_spec.proofs.Names.{same_name, value_after}
use Rattle.zr_world_spec.proofs.Cases.{on_said}
use Rattle.zr_law_settled.proofs.Moving.{unbroken_at}
use Rattle.zr_guarantee.specs.Queries.{Asked, queries, turn, replies, has_ended}
use Rattle.zr_guarantee.specs.Sent.{told_to, requests_to}
use Rattle.zr_law_queries.specs.Link.{Asked as AskedHop, Free}
use Rattle.zr_law_queries.specs.Query.{is_not_yet}
use Rattle.zr_law_numbers.specs.Waiting as waiting
use Rattle.zr_law_numbers.specs.Waiting.{is_whole}
use Rattle.zr_law_numbers.proofs.Numbers.{AllGo}
use Rattle.zr_law_numbers.proofs.ActClients.{SaysDeeds, number_more, for_itself, get_deeds}
use Rattle.zr_law_replies.specs.Answers.{told_in_turn}
use Rattle.zr_law_replies.specs.Trees.{tree_at}
use Rattle.zr_law_replies.specs.Stands.{IsStill, is_of, place, request_to, answers_told, Stands}
use Rattle.zr_law_replies.proofs.Grown.{Earlier, queries_more, queries_lines}
use Rattle.zr_law_replies.proofs.Links.{lines_on}
use Rattle.zr_law_replies.proofs.Standing.{back_is}
use Rattle.zr_law_replies.proofs.ShownHops.{plain}
use Rattle.zr_law_replies.proofs.MarkChanges.{is_hop, hop_is, is_hop_of, foreign_marks}
use Rattle.zr_law_replies.proofs.StandSteps.{Hops, stands_same, has_same}
use Rattle.zr_law_replies.proofs.StandStep.{request_of, PlainHops, Begins, Here}
use Rattle.zr_law_replies.proofs.StandSameHops.{free_there}
use Rattle.zr_law_replies.proofs.StandHere.{kids, whole_now}
use Rattle.zr_law_replies.proofs.SayHops.{says_up, says_same}
use Rattle.zr_law_replies.proofs.Replies.{replies_stay, ended_stays}
use Rattle.zr_law_replies.proofs.QueryTurns.{turn_stays}

module _ (before : List Numbered) (mark : ℕ) (start : Moment) (q : Asked) (b : Begins before mark start q) (phase acts : List Numbered) (m : Moment) (here : Here start.world phase q acts m)
    (n : ℕ) (name : List ℕ) (number : ℕ) (target : Target) (content : Parts) (earlier : Earlier acts (n, c.Get name number target content)) where
  abbrev x : Numbered
  x = (n, c.Get name number target content)

  abbrev asked : Asked
  asked = record { line = n; client = name; number = number; target = target; content = content }

  abbrev request : waiting.Asked
  request = record { line = n; tree = None; target = target; content = content }

  abbrev w : WorldState
  w = start.world

  abbrev acts' : List Numbered
  acts' = acts ++ x ∷ []

  pub queries_then : queries acts' ≡ queries acts ++ asked ∷ []
  queries_then = queries_more acts x

  pub below : AllByRecursion (λ (p : Asked). p.line < n) (queries acts)
  below = queries_lines (λ k. k < n) acts (earlier.below refl)

  module _ (s : ClientState) (es : client_of m.world.clients name ≡ Some s) (free : has_number s.queries number ≡ false) (e : EndState) (ee : end_of m.world.ends (s.router, name) ≡ Some e) (unbroken : e.unbroken ≡ true) where
    abbrev s' : ClientState
    s' = asking s number

    abbrev clients : Clients
    clients = with_client m.world.clients name s'

    pub are : (d : List ℕ) → client_of clients d ≡ cond (is_named name d) (Some s') (client_of m.world.clients d)
    are d = value_after m.world.clients name d s' (ap is_some es)

    abbrev does : SaysDeeds name s s' n (msgs.Request None number target content)
    does = get_deeds name s n number target content free

    abbrev next : Moment
    next = on_said m n name (msgs.Request None number target content) s e clients

    whole : is_whole m.world name s.router ≡ true
    whole = or_right (is_unbroken m.world.ends (name, s.router)) (is_unbroken m.world.ends (s.router, name)) (ap unbroken_at ee ∙ unbroken)

    module _ (go : AllGo next) (still : IsStill w next.world) (hop' : Hops) (p' : PlainHops w q next.world (lines_on next.world here.holds.lines) hop') where
      abbrev hop : Hops
      hop = here.hop

      abbrev st : Stands w phase q acts m hop
      st = here.stands

      -- ---- hops

      -- the number was free, and has the request then
      was_free : hop name s.router number ≡ Free
      was_free = free_there w q m.world here.holds.lines hop here.plain name s.router whole number (back_is m.world here.holds.go.0.orderly name s es number ∙ ap (λ z. cond z (for_itself name number) None) free)

      pub asks_now : hop' name s.router number ≡ AskedHop request (Some (place name number))
      asks_now =
          says_up m.world here.holds.go.0 name s es e ee n (msgs.Request None number target content) s' refl does clients are go.0 whole w q here.holds.lines hop hop' here.plain p' number
          ∙ ap (λ z. plain (request_of w q s.router) (cond z (AskedHop request (Some (place name number))) (hop name s.router number))) (eq-eqb number number refl)

      pub elsewhere : (x y : List ℕ) (k : ℕ) → is_whole w x y ≡ true → is_hop name s.router number x y k ≡ false → hop' x y k ≡ hop x y k
      elsewhere x y k there other =
          says_same m.world here.holds.go.0 name s es e ee n (msgs.Request None number target content) s' refl does clients are go.0 whole w q here.holds.lines hop hop' here.plain p' x y k
          (whole_now before mark start q b phase acts m here x y there) (λ ex ey. by (number == k) refl ex ey) (λ ex ey. refl)
        where
          by : (z : Bool) → (number == k) ≡ z → name ≡ x → s.router ≡ y → cond z (AskedHop request (Some (place name number))) (hop x y k) ≡ hop x y k
          by true en ex ey = absurd (false≢true (sym other ∙ is_hop_of name s.router number x y k ex ey (eqb-true number k en)))
          by false en ex ey = refl

      -- ---- what was said and told

      pub same_report : told_to next.report ≡ told_to m.report
      same_report = ap told_to (append-nil m.report)

      pub same_replies : (d : List ℕ) → replies acts' next.report q d ≡ replies acts m.report q d
      same_replies d = replies_stay acts x earlier m.report next.report q d (λ k. ap (λ z. requests_to z d k) (append-nil m.report)) refl

      pub same_ends : (d : List ℕ) → has_ended acts' next.report q d ≡ has_ended acts m.report q d
      same_ends d = ended_stays acts x earlier m.report next.report q d (λ k. ap (λ z. requests_to z d k) (append-nil m.report)) refl

      -- ---- it is another query

      module _ (other : (n == q.line) ≡ false) where
        own : (x y : List ℕ) (k : ℕ) → is_whole w x y ≡ true → is_of q.line (hop x y k) ≡ true → hop' x y k ≡ hop x y k
        own x y k there is = by (is_hop name s.router number x y k) refl
          where
            by : (z : Bool) → is_hop name s.router number x y k ≡ z → hop' x y k ≡ hop x y k
            by false ez = elsewhere x y k there ez
            by true ez =
                let one = hop_is name s.router number x y k ez in
                absurd (false≢true ((λ i. is_of q.line (sym was_free i)) ∙ (λ i. is_of q.line (hop (one.0 i) (one.1 i) (one.2 i))) ∙ is))

        foreign : (x y : List ℕ) (k : ℕ) → is_whole w x y ≡ true → is_of q.line (hop x y k) ≡ false → is_of q.line (hop' x y k) ≡ false
        foreign x y k there is = by (is_hop name s.router number x y k) refl
          where
            by : (z : Bool) → is_hop name s.router number x y k ≡ z → is_of q.line (hop' x y k) ≡ false
            by false ez = ap (is_of q.line) (elsewhere x y k there ez) ∙ is
            by true ez =
                let one = hop_is name s.router number x y k ez in
                (λ i. is_of q.line (hop' (sym one.0 i) (sym one.1 i) (sym one.2 i))) ∙ ap (is_of q.line) asks_now ∙ other

        -- a query that was asked was asked before
        same_turn : is_not_yet (st.stage q.client) ≡ false → turn acts' q ≡ turn acts q
        same_turn asked_before = turn_stays acts x q (later, tt)
          where
            there : (z : Bool) → not z ≡ false → z ≡ true
            there true k = refl
            there false k = absurd (true≢false k)

            line_of_one : (qs : List Asked) → AllByRecursion (λ (p : Asked). p.line < n) qs → list_any (λ p. p.line == q.line) qs ≡ true → q.line < n
            line_of_one [] h k = absurd (false≢true k)
            line_of_one (p ∷ qs) h k = by (p.line == q.line) refl k (λ f. line_of_one qs h.1 f)
              where
                by : (z : Bool) → (p.line == q.line) ≡ z → (z || list_any (λ p. p.line == q.line) qs) ≡ true → (list_any (λ p. p.line == q.line) qs ≡ true → q.line < n) → q.line < n
                by true ez f rest = subst (λ j. j < n) (eqb-true p.line q.line ez) h.0
                by false ez f rest = rest f

            later : q.line < n
            later = line_of_one (queries acts) below (there (list_any (λ p. p.line == q.line) (queries acts)) (sym st.asked ∙ asked_before))

        same_asked : list_any (λ p. p.line == q.line) (queries acts') ≡ list_any (λ p. p.line == q.line) (queries acts)
        same_asked =
            ap (list_any (λ p. p.line == q.line)) queries_then ∙ list_any-append (λ (p : Asked). p.line == q.line) (queries acts) (asked ∷ [])
            ∙ ap (λ z. list_any (λ p. p.line == q.line) (queries acts) || (z || false)) other ∙ by (list_any (λ p. p.line == q.line) (queries acts))
          where
            by : (z : Bool) → (z || false) ≡ z
            by true = refl
            by false = refl

        keeps_waiting : (c' : ClientState) → client_of clients q.client ≡ Some c' →
            (k : ClientState) × (client_of m.world.clients q.client ≡ Some k) × (has_number k.queries q.number ≡ true → has_number c'.queries q.number ≡ true)
        keeps_waiting c' found = by (is_named name q.client) refl (sym (are q.client) ∙ found)
          where
            more : (z y : Bool) → y ≡ true → cond z true y ≡ true
            more true y k = refl
            more false y k = k

            by : (z : Bool) → is_named name q.client ≡ z → cond z (Some s') (client_of m.world.clients q.client) ≡ Some c' →
                (k : ClientState) × (client_of m.world.clients q.client ≡ Some k) × (has_number k.queries q.number ≡ true → has_number c'.queries q.number ≡ true)
            by false ez f = (c', f, λ k. k)
            by true ez f =
                let one : s' ≡ c' = cc in (
                  s,
                  ap (client_of m.world.clients) (sym (same_name name q.client ez)) ∙ es,
                  λ k. ap (λ (z : ClientState). has_number z.queries q.number) (sym one) ∙ number_more s.queries number q.number ∙ more (number == q.number) (has_number s.queries q.number) k,
                )

        pub other_stands : Stands w phase q acts' next hop'
        other_stands =
            stands_same w phase q acts acts' m next hop hop' st still
            (foreign_marks (tree_at w q) b.tree.is_tree (request_to w q) q.line (λ y. refl) (is_whole w) (kids before mark start q b) st.num st.stage hop hop' st.marks own foreign)
            (has_same w phase q acts acts' m next hop hop' st still (λ y r er. (r, er, λ o. (refl, refl))) keeps_waiting same_asked
            (λ k. λ i. answers_told q.number (told_in_turn q.number (same_turn k i - 1) (same_report i q.client)))) (λ d ends. same_replies d) (λ d ends. same_ends d)
