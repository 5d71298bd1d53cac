-- A client says something to a request that it keeps: the hop of that request changes, and no other. If the request is another query's, the query stands as
-- before; and if it is the query's, the client is one that is asked, with the replies that wait above it (`said_now`, `other_stands`, `is_here`).
use Rattle.std.proofs.Common.{◌≡◌, ℕ, ◌-◌, ◌==◌, ◌||◌, Bool, true, false, cond, List, [], ◌∷◌, ◌++◌, Option, Some, refl, sym, ap, ◌∙◌}
use Rattle.std.specs.Prelude.{not}
use Rattle.std.specs.List.{list_any}
use Rattle.std.proofs.lemmas.Bool.{false≢true, true≢false, eqb-true, eq-eqb, or_left, false_from_ne_true}
use Rattle.zr_id.specs.Zid.{is_named}
use Rattle.zr_msg.specs.declared.msg.Msg.{Msg}
use Rattle.zr_world_spec.specs.World.{ClientState, EndState, Clients, WorldState, client_of, end_of, is_unbroken}
use Rattle.zr_world_spec.specs.Acts.{has_number}
use Rattle.zr_world_spec.specs.Moments.{Numbered, Moment}
use Rattle.zr_world_spec.proofs.Names.{names, same_name}
use Rattle.zr_world_spec.proofs.Cases.{on_said}
use Rattle.zr_law_settled.proofs.Moving.{unbroken_at}
use Rattle.zr_guarantee.specs.Queries.{Asked, queries, turn, replies, has_ended}
use Rattle.zr_guarantee.specs.Sent.{told_to}
use Rattle.zr_law_queries.specs.Link.{Open, asked_by}
use Rattle.zr_law_queries.specs.Query.{Tree, Stage, is_child, is_not_yet, moved}
use Rattle.zr_law_queries.proofs.Hops.{kept_is}
use Rattle.zr_law_numbers.specs.Waiting as waiting
use Rattle.zr_law_numbers.specs.Waiting.{Place, Said, link_of, is_whole}
use Rattle.zr_law_numbers.proofs.Numbers.{AllGo}
use Rattle.zr_law_numbers.proofs.Whole.{whole_turned}
use Rattle.zr_law_numbers.proofs.ActClients.{SaysDeeds}
use Rattle.zr_law_replies.specs.Answers.{HopState, line_of, told_in_turn}
use Rattle.zr_law_replies.specs.Trees.{has_router, passes_at, tree_at}
use Rattle.zr_law_replies.specs.Stands.{IsStill, is_of, is_open, asked_at, request_to, answers_told, answers_at, Stands}
use Rattle.zr_law_replies.proofs.Grown.{told_same, turn_told_same}
use Rattle.zr_law_replies.proofs.Links.{lines_on}
use Rattle.zr_law_replies.proofs.Standing.{keeps_is}
use Rattle.zr_law_replies.proofs.ShownHops.{plain}
use Rattle.zr_law_replies.proofs.MarkChanges.{is_hop, hop_is, is_hop_of, foreign_marks}
use Rattle.zr_law_replies.proofs.StandOwn.{IsHere, own_open, RowsShow}
use Rattle.zr_law_replies.proofs.StandSteps.{Hops, Has, stands_same, has_same}
use Rattle.zr_law_replies.proofs.StandStep.{request_of, PlainHops, Begins, Here}
use Rattle.zr_law_replies.proofs.ActHops.{above_hops, below_hops}
use Rattle.zr_law_replies.proofs.StandHere.{still_whole, still_apart, kids, whole_now, row_at, rows_read}
use Rattle.zr_law_replies.proofs.SayHops.{says_down, says_same}

-- a client that says something to a request that it keeps: what it says and what becomes of it, and what it makes of the request's hop
pub record Speaks (acts : List Numbered) (m : Moment) (name : List ℕ) (number : ℕ) : Type 0 where
  pub act : Numbered
  pub line : ℕ
  pub msg : Msg
  pub s : ClientState
  pub es : client_of m.world.clients name ≡ Some s
  pub e : EndState
  pub ee : end_of m.world.ends (s.router, name) ≡ Some e
  pub unbroken : e.unbroken ≡ true
  pub keeps : has_number s.requests number ≡ true
  pub then : ClientState
  pub home : then.router ≡ s.router
  pub asks_same : then.queries ≡ s.queries
  pub does : SaysDeeds name s then line msg
  pub clients : Clients
  pub are : (d : List ℕ) → client_of clients d ≡ cond (is_named name d) (Some then) (client_of m.world.clients d)
  pub f : HopState → HopState
  pub up_none : (k : ℕ) (h : HopState) → above_hops k does.own h ≡ h
  pub down_is : (k : ℕ) (h : HopState) → below_hops k does.own h ≡ cond (number == k) (f h) h
  pub same_queries : queries (acts ++ act ∷ []) ≡ queries acts

module _ (before : List Numbered) (mark : ℕ) (start : Moment) (q : Asked) (b : Begins before mark start q) (phase acts : List Numbered) (m : Moment) (here : Here start.world phase q acts m)
    (name : List ℕ) (number : ℕ) (a : Speaks acts m name number) where
  abbrev w : WorldState
  w = start.world

  abbrev t : Tree (List ℕ)
  t = tree_at start.world q

  abbrev hop : Hops
  hop = here.hop

  abbrev st : Stands start.world phase q acts m here.hop
  st = here.stands

  abbrev next : Moment
  next = on_said m a.line name a.msg a.s a.e a.clients

  pub kept_whole : is_whole m.world a.s.router name ≡ true
  kept_whole = or_left (is_unbroken m.world.ends (a.s.router, name)) (is_unbroken m.world.ends (name, a.s.router)) (ap unbroken_at a.ee ∙ a.unbroken)

  turned : is_whole m.world name a.s.router ≡ true
  turned = whole_turned m.world name a.s.router ∙ kept_whole

  -- ---- the request that it keeps

  pub record Keeps : Type 0 where
    pub request : waiting.Asked
    pub by : Option Place
    pub replies : List Said
    pub hop_is : here.hop a.s.router name number ≡ Open request by replies false
    pub line_is : request.line ≡ here.holds.lines a.s.router name number

  pub kept : Keeps
  kept =
      let got = kept_is (link_of m.world a.s.router name) (hop a.s.router name) (here.plain.shows a.s.router name kept_whole) number (keeps_is m.world here.holds.go.0.orderly name a.s a.es number ∙ a.keeps) in
      record {
        request = got.0;
        by = got.1;
        replies = got.2;
        hop_is = got.3;
        line_is = one got.0.line (here.holds.lines a.s.router name number)
            (sym (ap line_of got.3) ∙ here.plain.line a.s.router name number got.1 kept_whole ((here.plain.shows a.s.router name kept_whole number).back ∙ ap asked_by got.3));
      }
    where
      one : (a b : ℕ) → Some a ≡ Some b → a ≡ b
      one a b k = cc

  module _ (go : AllGo next) (still : IsStill start.world next.world) (hop' : Hops) (p' : PlainHops start.world q next.world (lines_on next.world here.holds.lines) hop') where
    -- ---- hops

    pub said_now : hop' a.s.router name number ≡ plain (request_of start.world q name) (a.f (Open kept.request kept.by kept.replies false))
    said_now =
        says_down m.world here.holds.go.0 name a.s a.es a.e a.ee a.line a.msg a.then a.home a.does a.clients a.are go.0 turned w q here.holds.lines hop hop' here.plain p' number
        ∙ ap (plain (request_of w q name)) (a.down_is number (hop a.s.router name number) ∙ ap (λ z. cond z (a.f (hop a.s.router name number)) (hop a.s.router name number)) (eq-eqb number number refl) ∙ ap a.f kept.hop_is)

    pub elsewhere : (x y : List ℕ) (k : ℕ) → is_whole start.world x y ≡ true → is_hop a.s.router name number x y k ≡ false → hop' x y k ≡ hop x y k
    elsewhere x y k there other =
        says_same m.world here.holds.go.0 name a.s a.es a.e a.ee a.line a.msg a.then a.home a.does a.clients a.are go.0 turned w q here.holds.lines hop hop' here.plain p' x y k
        (whole_now before mark start q b phase acts m here x y there) (λ ex ey. a.up_none k (hop x y k)) (λ ex ey. a.down_is k (hop x y k) ∙ by (number == k) refl ex ey)
      where
        by : (z : Bool) → (number == k) ≡ z → a.s.router ≡ x → name ≡ y → cond z (a.f (hop x y k)) (hop x y k) ≡ hop x y k
        by true en ex ey = absurd (false≢true (sym other ∙ is_hop_of a.s.router name number x y k ex ey (eqb-true number k en)))
        by false en ex ey = refl

    -- ---- what the moment has for the query's client

    waits_then : (k : ClientState) → client_of a.clients q.client ≡ Some k → (z : ClientState) × (client_of m.world.clients q.client ≡ Some z) × (has_number z.queries q.number ≡ true → has_number k.queries q.number ≡ true)
    waits_then k found = by (is_named name q.client) refl (sym (a.are q.client) ∙ found)
      where
        by : (c : Bool) → is_named name q.client ≡ c → cond c (Some a.then) (client_of m.world.clients q.client) ≡ Some k →
            (z : ClientState) × (client_of m.world.clients q.client ≡ Some z) × (has_number z.queries q.number ≡ true → has_number k.queries q.number ≡ true)
        by false ec g = (k, g, λ h. h)
        by true ec g =
            let one : a.then ≡ k = cc in
            (a.s, ap (client_of m.world.clients) (sym (same_name name q.client ec)) ∙ a.es, λ h. ap (λ (z : ClientState). has_number z.queries q.number) (sym one) ∙ ap (λ ns. has_number ns q.number) a.asks_same ∙ h)

    told_then : answers_told q.number (told_in_turn q.number (turn (acts ++ a.act ∷ []) q - 1) (told_to next.report q.client)) ≡ answers_told q.number (told_in_turn q.number (turn acts q - 1) (told_to m.report q.client))
    told_then = turn_told_same acts (acts ++ a.act ∷ []) q (told_to m.report q.client) (told_to next.report q.client) a.same_queries (told_same m.report [] q.client refl)

    -- at other stages, but for its client's
    pub has_then : (stage' : List ℕ → Stage Said) → stage' q.client ≡ st.stage q.client → RowsShow (tree_at start.world q) st.num stage' (has_router m.world) (row_at m.world) →
        ((x : List ℕ) → is_open (stage' x) ≡ true → is_open (st.stage x) ≡ true) → Has start.world phase q (acts ++ a.act ∷ []) next st.num stage' st.got
    has_then stage' same rows opens = record {
      rows = rows_read m.world t st.num stage' rows;
      holds = λ x r er o. st.holds x r er (opens x o);
      number = st.number;
      asked = ap is_not_yet same ∙ st.asked ∙ ap (λ qs. not (list_any (λ (p : Asked). p.line == q.line) qs)) (sym a.same_queries);
      waits = λ k found o. let was = waits_then k found in was.2 (st.waits was.0 was.1 (sym (ap is_open same) ∙ o));
      told = λ k. told_then ∙ st.told (sym (ap is_not_yet same) ∙ k) ∙ ap (answers_at q.number) (sym same);
    }

    -- ---- of another query

    pub other_stands : (kept.request.line == q.line) ≡ false → is_of q.line (plain (request_of start.world q name) (a.f (Open kept.request kept.by kept.replies false))) ≡ false →
        ((d : List ℕ) → replies (acts ++ a.act ∷ []) next.report q d ≡ replies acts m.report q d) →
        ((d : List ℕ) → has_ended (acts ++ a.act ∷ []) next.report q d ≡ has_ended acts m.report q d) → Stands start.world phase q (acts ++ a.act ∷ []) next hop'
    other_stands other other' same_replies same_ends =
        stands_same w phase q acts (acts ++ a.act ∷ []) m next hop hop' st still
        (foreign_marks t b.tree.is_tree (request_to w q) q.line (λ y. refl) (is_whole w) (kids before mark start q b) st.num st.stage hop hop' st.marks own foreign)
        (has_same w phase q acts (acts ++ a.act ∷ []) m next hop hop' st still (λ y r er. (r, er, λ o. (refl, refl))) waits_then (ap (list_any (λ p. p.line == q.line)) a.same_queries) (λ k. told_then)) (λ d ends. same_replies d) (λ d ends. same_ends d)
      where
        own : (x y : List ℕ) (k : ℕ) → is_whole w x y ≡ true → is_of q.line (hop x y k) ≡ true → hop' x y k ≡ hop x y k
        own x y k there is = by (is_hop a.s.router name number x y k) refl
          where
            by : (z : Bool) → is_hop a.s.router name number x y k ≡ z → hop' x y k ≡ hop x y k
            by false ez = elsewhere x y k there ez
            by true ez =
                let one = hop_is a.s.router name number x y k ez in
                absurd (false≢true (sym (ap (is_of q.line) kept.hop_is ∙ other) ∙ (λ i. is_of q.line (hop (one.0 i) (one.1 i) (one.2 i))) ∙ is))

        foreign : (x y : List ℕ) (k : ℕ) → is_whole w x y ≡ true → is_of q.line (hop x y k) ≡ false → is_of q.line (hop' x y k) ≡ false
        foreign x y k there is = by (is_hop a.s.router name number x y k) refl
          where
            by : (z : Bool) → is_hop a.s.router name number x y k ≡ z → is_of q.line (hop' x y k) ≡ false
            by false ez = ap (is_of q.line) (elsewhere x y k there ez) ∙ is
            by true ez =
                let one = hop_is a.s.router name number x y k ez in
                (λ i. is_of q.line (hop' (sym one.0 i) (sym one.1 i) (sym one.2 i))) ∙ ap (is_of q.line) said_now ∙ other'

    -- ---- of the query

    module _ (own : (kept.request.line == q.line) ≡ true) where
      pub is_here : IsHere t (request_to start.world q) q.line (is_whole start.world) st.num st.stage hop st.marks a.s.router name number
          (sym (still_whole start.world m.world st.still a.s.router name) ∙ kept_whole) kept.request kept.by kept.replies false
      is_here = own_open t (request_to w q) q.line (is_whole w) st.num st.stage hop st.marks a.s.router name number (sym (still_whole w m.world st.still a.s.router name) ∙ kept_whole) kept.request kept.by kept.replies false kept.hop_is own

      differs : is_named name q.client ≡ false
      differs = false_from_ne_true (is_named name q.client) (λ k. true≢false (sym is_here.child ∙ ap (is_child t a.s.router) (same_name name q.client k) ∙ b.tree.is_tree.top a.s.router))

      -- it is one that is asked
      pub leaf : passes_at start.world q.client name ≡ false
      leaf = λ i. (names.symm q.client name ∙ differs) i || still_apart w m.world st.still here.holds.go.0.orderly name a.s a.es i

      pub parent_is : t.parent name ≡ a.s.router
      parent_is = b.tree.is_tree.parent a.s.router name is_here.child

      pub below : is_child t (t.parent name) name ≡ true
      below = ap (λ z. is_child t z name) parent_is ∙ is_here.child

      pub apart : (x y : List ℕ) (k : ℕ) → is_whole start.world x y ≡ true → is_hop (t.parent name) name (st.num name) x y k ≡ false → hop' x y k ≡ hop x y k
      apart x y k there out = elsewhere x y k there ((λ i. is_hop (sym parent_is i) name (is_here.number i) x y k) ∙ out)

      -- what is said stands above it
      pub shows : (replies : List Said) (done : Bool) → plain (request_of start.world q name) (a.f (Open kept.request kept.by kept.replies false)) ≡ Open (request_of start.world q name kept.request.line) kept.by replies done →
          hop' (t.parent name) name (st.num name) ≡ Open (request_to start.world q name) (Some (asked_at t st.num (t.parent name))) replies done
      shows replies done k =
          (λ i. hop' (parent_is i) name (sym is_here.number i)) ∙ said_now ∙ k
          ∙ (λ i. Open (request_of w q name (eqb-true kept.request.line q.line own i)) ((is_here.by_is ∙ ap (λ z. Some (asked_at t st.num z)) (sym parent_is)) i) replies done)

      -- and the client that asks is as it was
      pub asker_stays : (v : Stage Said) → moved t st.stage name v st.stage q.client ≡ st.stage q.client
      asker_stays v = λ i. cond (differs i) v (cond (b.tree.is_tree.top name i) (st.stage q.client) (st.stage q.client))
