-- Which query a number of a link is of (`IsOf`), act by act: what an end does there keeps it (`moves_keep`), as long as what it asks is of a query that was
-- asked and what it replies is said to the number's query. And for whom a number is pending then (`moves_back`).
use Rattle.std.proofs.Common.{◌≡◌, ℕ, ◌==◌, ◌⊎◌, inl, inr, Bool, true, false, cond, List, [], ◌∷◌, ◌++◌, filter, Option, Some, None, refl, sym, ap, ◌∙◌, subst, append-nil, append_assoc}
use Rattle.std.specs.List.{AllByRecursion, flat_map}
use Rattle.std.proofs.lemmas.Bool.{eqb-true}
use Rattle.std.proofs.lemmas.Grind.{flat_map-append}
use Rattle.std.proofs.lemmas.List.Elements.{filter-append}
use Rattle.std.proofs.lemmas.Option.{none-some}
use Rattle.zr_lists.proofs.Each.{All-append, All-back, All-each}
use Rattle.zr_msg.specs.declared.msg.Msg.{Msg}
use Rattle.zr_msg.specs.declared.msg.Msg.TheVariants.{Sub, Unsub, Token, Untoken, Able, Unable, Interest, EndInterest, ToldSub, ToldAble, ToldUnsub, ToldToken, ToldUntoken, ToldUnable, ToldEnd, Push, Request, Response, Final, State, Step, Snap}
use Rattle.zr_script_spec.specs.declared.report.ReportLine.{ReportLine}
use Rattle.zr_world_spec.specs.World.{Tagged, WorldState}
use Rattle.zr_world_spec.specs.Moments.{Numbered}
use Rattle.zr_law_queries.specs.Link.{Ask, Answer, Body, Replied, Ended, ask, final, has_number, answers_number, Hop, Free, Asked as AskedHop, Open, asks_of, answers_of, Shows}
use Rattle.zr_law_queries.proofs.Hops.{is_free}
use Rattle.zr_law_numbers.specs.Waiting.{Asked, Said, Place, back_at, link_of, is_whole}
use Rattle.zr_law_numbers.specs.Deeds.{Half, Deed, Asks, Hears, Closes, Leaves, Takes, Replies, Ends, with_deed, with_deeds, MayDoAll, asked_by_deed, answered_by_deed, handles_msg}
use Rattle.zr_law_numbers.proofs.Leading.{Wire, handled, answered, requested, handling_is_silent}
use Rattle.zr_law_numbers.proofs.DeedLists.{with-append}
use Rattle.zr_law_numbers.proofs.Doing.{Above, Below, Moves, Same, Upper, Lower}
use Rattle.zr_law_replies.specs.Answers.{IsAsked, is_latest_of, is_other_line, IsSaidTo}

-- ---- the query of a number

-- a line for each number of each link
abbrev pub Lines : Type 0
Lines = List ℕ → List ℕ → ℕ → ℕ

-- an answer that waits is said to the query, and comes to a name
abbrev pub SaysTo : List Numbered → List ReportLine → List ℕ → ℕ → Body Said → Type 0
SaysTo acts report name line (Replied said) = IsSaidTo acts report name line said
SaysTo acts report name line Ended = Unit {0}

-- what waits under a number of a name's link is of the query of a line, which was asked if the number is pending
pub record IsOf (acts : List Numbered) (report : List ReportLine) (name : List ℕ) (l : Wire) (k line : ℕ) : Type 0 where
  pub asks : AllByRecursion (λ (a : Ask Asked). a.request.line ≡ line) (filter (has_number k) l.asks)
  pub said : AllByRecursion (λ (a : Answer Said). SaysTo acts report name line a.body) (filter (answers_number k) l.answers)
  pub asked : (by : Option Place) → l.back k ≡ Some by → IsAsked acts line

abbrev pub first_line : List (Ask Asked) → ℕ → ℕ
first_line [] line = line
first_line (a ∷ qs) line = a.request.line

-- the line that a request under the number names where one waits, and else the one of before
abbrev pub line_on : Wire → ℕ → ℕ → ℕ
line_on l k line = first_line (filter (has_number k) l.asks) line

abbrev pub lines_on : WorldState → Lines → Lines
lines_on v lines x y k = line_on (link_of v x y) k (lines x y k)

-- ---- deeds

-- a request is asked under a free number, for a query that was asked, and who asked has it pending under a number of the same query
pub record AsksFine (acts : List Numbered) (w v : WorldState) (lines : Lines) (x y : List ℕ) (number : ℕ) (request : Asked) (by : Option Place) : Type 0 where
  pub asked : IsAsked acts request.line
  pub free : (link_of w x y).back number ≡ None
  pub asker : (p : Place) → by ≡ Some p → is_whole v p.name x ≡ true → (lines p.name x p.number ≡ request.line) × (o : Option Place) × (back_at w p.name x p.number ≡ Some o)

abbrev pub FineAsk : List Numbered → WorldState → WorldState → Lines → List ℕ → List ℕ → Deed → Type 0
FineAsk acts w v lines x y (Asks number request by) = AsksFine acts w v lines x y number request by
FineAsk acts w v lines x y (Hears number) = Unit {0}
FineAsk acts w v lines x y (Closes number) = Unit {0}
FineAsk acts w v lines x y (Leaves number) = Unit {0}
FineAsk acts w v lines x y (Takes number) = Unit {0}
FineAsk acts w v lines x y (Replies number said) = Unit {0}
FineAsk acts w v lines x y (Ends number) = Unit {0}

-- a reply is said to the query of its number
abbrev pub FineSay : List Numbered → List ReportLine → WorldState → Lines → List ℕ → List ℕ → Deed → Type 0
FineSay acts report v lines x y (Asks number request by) = Unit {0}
FineSay acts report v lines x y (Hears number) = Unit {0}
FineSay acts report v lines x y (Closes number) = Unit {0}
FineSay acts report v lines x y (Leaves number) = Unit {0}
FineSay acts report v lines x y (Takes number) = Unit {0}
FineSay acts report v lines x y (Replies number said) = is_whole v x y ≡ true → IsSaidTo acts report x (lines x y number) said
FineSay acts report v lines x y (Ends number) = Unit {0}

-- ---- lists

pub first_same : (qs : List (Ask Asked)) (line : ℕ) → AllByRecursion (λ (a : Ask Asked). a.request.line ≡ line) qs → first_line qs line ≡ line
first_same [] line h = refl
first_same (a ∷ qs) line h = h.0

nothing_behind : {X : Type 0} (xs ys : List X) → xs ++ ys ≡ [] → ys ≡ []
nothing_behind [] ys e = e
nothing_behind (x ∷ xs) ys e = cc

some_any : {X : Type 0} (x : X) (xs : List X) → x ∷ xs ≡ [] → ⊥
some_any x xs e = absurd (cc)

abbrev pub behind_first : {X : Type 0} → List X → List X
behind_first [] = []
behind_first (x ∷ xs) = xs

-- a link has one request under a number
alone : (k : ℕ) (s : Hop Asked Place Said) (a : Ask Asked) (qs : List (Ask Asked)) → a ∷ qs ≡ asks_of k s → qs ≡ []
alone k Free a qs e = absurd (cc)
alone k (AskedHop q b) a qs e = ap (λ z. behind_first z) e
alone k (Open q b rs d) a qs e = absurd (cc)

only_one : (k line : ℕ) (s : Hop Asked Place Said) (xs : List (Ask Asked)) (q : Asked) (ys : List (Ask Asked)) → xs ++ ask k q ∷ ys ≡ asks_of k s → first_line (xs ++ ask k q ∷ ys) line ≡ q.line
only_one k line s [] q ys e = refl
only_one k line s (x ∷ xs) q ys e = absurd (within xs (alone k s x (xs ++ ask k q ∷ ys) e))
  where
    within : (zs : List (Ask Asked)) → zs ++ ask k q ∷ ys ≡ [] → ⊥
    within [] f = some_any (ask k q) ys f
    within (z ∷ zs) f = some_any z (zs ++ ask k q ∷ ys) f

-- ---- what handles a message

-- makes no number pending for anybody
handled_some : (h : Half) (o : Option Tagged) (k : ℕ) (by : Option Place) → (with_deeds h (handled o)).back k ≡ Some by → h.back k ≡ Some by
handled_some h None k by e = e
handled_some h (Some t) k by e = at t.msg e
  where
    at : (msg : Msg) → (with_deeds h (handles_msg msg)).back k ≡ Some by → h.back k ≡ Some by
    at (Sub id key) f = f
    at (Unsub id) f = f
    at (Token id key) f = f
    at (Untoken id) f = f
    at (Able id key complete) f = f
    at (Unable id) f = f
    at (Interest id current future kinds key aggregate) f = f
    at (EndInterest id) f = f
    at (ToldSub id key interest) f = f
    at (ToldToken id key interest) f = f
    at (ToldAble id key complete interest) f = f
    at (ToldUnsub id) f = f
    at (ToldUntoken id) f = f
    at (ToldUnable id) f = f
    at (ToldEnd interest) f = f
    at (Push tree content) f = f
    at (Request tree id target content) f = f
    at (Response id content) f = f
    at (Final id extras) f = closes (id == k) f
      where
        closes : (b : Bool) → cond b None (h.back k) ≡ Some by → h.back k ≡ Some by
        closes true g = absurd (none-some by g)
        closes false g = g
    at (State links) f = f
    at (Step source number added decl) f = f
    at (Snap source number decls) f = f

asks_none : (o : Option Tagged) (ds : List Deed) → flat_map asked_by_deed (handled o ++ ds) ≡ flat_map asked_by_deed ds
asks_none None ds = refl
asks_none (Some t) ds = flat_map-append asked_by_deed (handles_msg t.msg) ds ∙ ap (λ z. z ++ flat_map asked_by_deed ds) (handling_is_silent t.msg).0

-- a number is pending where it was, or where it is asked now
still_pending : (k : ℕ) (h : Half) (ds : List Deed) (by : Option Place) → MayDoAll h ds → (with_deeds h ds).back k ≡ Some by → filter (has_number k) (flat_map asked_by_deed ds) ≡ [] →
    (o : Option Place) × (h.back k ≡ Some o)
still_pending k h [] by may e none = (by, e)
still_pending k h (Asks n q b ∷ ds) by may e none = at (n == k) none (λ f. still_pending k (with_deed h (Asks n q b)) ds by may.1 e f)
  where
    at : (t : Bool) → cond t (ask n q ∷ filter (has_number k) (flat_map asked_by_deed ds)) (filter (has_number k) (flat_map asked_by_deed ds)) ≡ [] →
        (filter (has_number k) (flat_map asked_by_deed ds) ≡ [] → (o : Option Place) × (cond t (Some b) (h.back k) ≡ Some o)) → (o : Option Place) × (h.back k ≡ Some o)
    at true f ih = absurd (some_any (ask n q) (filter (has_number k) (flat_map asked_by_deed ds)) f)
    at false f ih = ih f
still_pending k h (Hears n ∷ ds) by may e none = still_pending k h ds by may.1 e none
still_pending k h (Closes n ∷ ds) by may e none = let was = still_pending k (with_deed h (Closes n)) ds by may.1 e none in at (n == k) was.0 was.1
  where
    at : (t : Bool) (o : Option Place) → cond t None (h.back k) ≡ Some o → (o : Option Place) × (h.back k ≡ Some o)
    at true o f = absurd (none-some o f)
    at false o f = (o, f)
still_pending k h (Leaves n ∷ ds) by may e none = let was = still_pending k (with_deed h (Leaves n)) ds by may.1 e none in at (n == k) refl was.0 was.1
  where
    at : (t : Bool) → (n == k) ≡ t → (o : Option Place) → cond t (Some None) (h.back k) ≡ Some o → (o : Option Place) × (h.back k ≡ Some o)
    at true f o g = (may.0.0, ap h.back (sym (eqb-true n k f)) ∙ may.0.1)
    at false f o g = (o, g)
still_pending k h (Takes n ∷ ds) by may e none = still_pending k (with_deed h (Takes n)) ds by may.1 e none
still_pending k h (Replies n said ∷ ds) by may e none = still_pending k h ds by may.1 e none
still_pending k h (Ends n ∷ ds) by may e none = still_pending k (with_deed h (Ends n)) ds by may.1 e none

-- ---- one link

-- what was asked and said stays so
pub record Grows (acts : List Numbered) (report : List ReportLine) (acts' : List Numbered) (report' : List ReportLine) : Type 0 where
  pub asked : (line : ℕ) → IsAsked acts line → IsAsked acts' line
  pub said : (name : List ℕ) (line : ℕ) (said : Said) → IsSaidTo acts report name line said → IsSaidTo acts' report' name line said
  pub latest : (name : List ℕ) (line : ℕ) → is_latest_of acts name line ≡ true → is_latest_of acts' name line ≡ true
  pub other : (line : ℕ) → is_other_line acts line ≡ true → is_other_line acts' line ≡ true

module _ (acts : List Numbered) (report : List ReportLine) (acts' : List Numbered) (report' : List ReportLine) (grows : Grows acts report acts' report') (w v : WorldState) (lines : Lines) (x y : List ℕ) (whole : is_whole v x y ≡ true) (k : ℕ) where
  abbrev l : Wire
  l = link_of w x y

  abbrev m : Wire
  m = link_of v x y

  abbrev line : ℕ
  line = lines x y k

  abbrev above : Deed → Type 0
  above = FineAsk acts' w v lines x y

  abbrev below : Deed → Type 0
  below = FineSay acts' report' v lines x y

  -- the number stays of its query, and of the same one where it was pending
  pub record Keeps : Type 0 where
    pub is : IsOf acts' report' x m k (line_on m k line)
    pub same : (by : Option Place) → l.back k ≡ Some by → line_on m k line ≡ line

  said_still : (qs : List (Answer Said)) → AllByRecursion (λ (a : Answer Said). SaysTo acts report x line a.body) qs → AllByRecursion (λ (a : Answer Said). SaysTo acts' report' x line a.body) qs
  said_still qs h = All-each (λ (a : Answer Said). SaysTo acts report x line a.body) (λ (a : Answer Said). SaysTo acts' report' x line a.body) qs (λ a s. at a.body s) h
    where
      at : (b : Body Said) → SaysTo acts report x line b → SaysTo acts' report' x line b
      at (Replied said) s = grows.said x line said s
      at Ended s = tt

  own_said : (ds : List Deed) → AllByRecursion below ds → AllByRecursion (λ (a : Answer Said). SaysTo acts' report' x line a.body) (filter (answers_number k) (flat_map answered_by_deed ds))
  own_said [] h = tt
  own_said (Asks n q b ∷ ds) h = own_said ds h.1
  own_said (Hears n ∷ ds) h = own_said ds h.1
  own_said (Closes n ∷ ds) h = own_said ds h.1
  own_said (Leaves n ∷ ds) h = own_said ds h.1
  own_said (Takes n ∷ ds) h = own_said ds h.1
  own_said (Replies n said ∷ ds) h = at (n == k) refl (own_said ds h.1)
    where
      more : List (Answer Said)
      more = filter (answers_number k) (flat_map answered_by_deed ds)

      at : (t : Bool) → (n == k) ≡ t → AllByRecursion (λ (a : Answer Said). SaysTo acts' report' x line a.body) more →
          AllByRecursion (λ (a : Answer Said). SaysTo acts' report' x line a.body) (cond t (record { number = n; body = Replied said } ∷ more) more)
      at true e rest = (subst (λ j. IsSaidTo acts' report' x (lines x y j) said) (eqb-true n k e) (h.0 whole), rest)
      at false e rest = rest
  own_said (Ends n ∷ ds) h = at (n == k) (own_said ds h.1)
    where
      more : List (Answer Said)
      more = filter (answers_number k) (flat_map answered_by_deed ds)

      at : (t : Bool) → AllByRecursion (λ (a : Answer Said). SaysTo acts' report' x line a.body) more → AllByRecursion (λ (a : Answer Said). SaysTo acts' report' x line a.body) (cond t (final n ∷ more) more)
      at true rest = (tt, rest)
      at false rest = rest

  module _ (is : IsOf acts report x l k line) where
    by_same : l ≡ m → Keeps
    by_same e =
        let one : line_on m k line ≡ line = ap (λ z. line_on z k line) (sym e) ∙ first_same (filter (has_number k) l.asks) line is.asks in
        let now : IsOf acts' report' x l k line = record { asks = is.asks; said = said_still (filter (answers_number k) l.answers) is.said; asked = λ by b. grows.asked line (is.asked by b) } in
        record { is = subst (λ n. IsOf acts' report' x m k n) (sym one) (subst (λ z. IsOf acts' report' x z k line) e now); same = λ by b. one }

    by_lower : Below below l m → Keeps
    by_lower d =
        let asks : AllByRecursion (λ (a : Ask Asked). a.request.line ≡ line) (filter (has_number k) m.asks) =
        All-back (λ (a : Ask Asked). a.request.line ≡ line) (filter (has_number k) (requested d.came)) (filter (has_number k) m.asks)
        (subst (λ qs. AllByRecursion (λ (a : Ask Asked). a.request.line ≡ line) qs) (ap (filter (has_number k)) d.asks ∙ filter-append (has_number k) (requested d.came) m.asks) is.asks) in
        let one : line_on m k line ≡ line = first_same (filter (has_number k) m.asks) line asks in
        let now : IsOf acts' report' x m k line = record {
          asks = asks;
          said = subst (λ qs. AllByRecursion (λ (a : Answer Said). SaysTo acts' report' x line a.body) qs)
              (sym (ap (filter (answers_number k)) d.answers ∙ filter-append (answers_number k) l.answers (flat_map answered_by_deed d.own)))
              (All-append (λ (a : Answer Said). SaysTo acts' report' x line a.body) (filter (answers_number k) l.answers) (filter (answers_number k) (flat_map answered_by_deed d.own))
              (said_still (filter (answers_number k) l.answers) is.said) (own_said d.own d.fits));
          asked = λ by b. grows.asked line (is.asked by (sym (d.back k) ∙ b));
        } in
        record { is = subst (λ n. IsOf acts' report' x m k n) (sym one) now; same = λ by b. one }

    -- what is asked under a number is under a free one
    new_asked : (ds : List Deed) (a : Ask Asked) (qs : List (Ask Asked)) → AllByRecursion above ds → filter (has_number k) (flat_map asked_by_deed ds) ≡ a ∷ qs → (l.back k ≡ None) × IsAsked acts' a.request.line
    new_asked [] a qs h e = absurd (some_any a qs (sym e))
    new_asked (Asks n q b ∷ ds) a qs h e = at (n == k) refl e (λ f. new_asked ds a qs h.1 f)
      where
        more : List (Ask Asked)
        more = filter (has_number k) (flat_map asked_by_deed ds)

        at : (t : Bool) → (n == k) ≡ t → cond t (ask n q ∷ more) more ≡ a ∷ qs → (more ≡ a ∷ qs → (l.back k ≡ None) × IsAsked acts' a.request.line) → (l.back k ≡ None) × IsAsked acts' a.request.line
        at true t f ih = (ap l.back (sym (eqb-true n k t)) ∙ h.0.free, subst (λ z. IsAsked acts' z) (ap (λ zs. first_line zs 0) f) h.0.asked)
        at false t f ih = ih f
    new_asked (Hears n ∷ ds) a qs h e = new_asked ds a qs h.1 e
    new_asked (Closes n ∷ ds) a qs h e = new_asked ds a qs h.1 e
    new_asked (Leaves n ∷ ds) a qs h e = new_asked ds a qs h.1 e
    new_asked (Takes n ∷ ds) a qs h e = new_asked ds a qs h.1 e
    new_asked (Replies n said ∷ ds) a qs h e = new_asked ds a qs h.1 e
    new_asked (Ends n ∷ ds) a qs h e = new_asked ds a qs h.1 e

    module _ (hops hops' : ℕ → Hop Asked Place Said) (shows : Shows l hops) (shows' : Shows m hops') (u : Above above l m) where
      abbrev new : List (Ask Asked)
      new = filter (has_number k) (flat_map asked_by_deed u.own)

      asks_then : filter (has_number k) m.asks ≡ filter (has_number k) l.asks ++ new
      asks_then = ap (filter (has_number k)) u.asks ∙ filter-append (has_number k) l.asks (flat_map asked_by_deed u.own)

      answers_then : filter (answers_number k) l.answers ≡ filter (answers_number k) (answered u.came) ++ filter (answers_number k) m.answers
      answers_then = ap (filter (answers_number k)) u.answers ∙ filter-append (answers_number k) (answered u.came) m.answers

      none_new : new ≡ [] → Keeps
      none_new e =
          let still : filter (has_number k) m.asks ≡ filter (has_number k) l.asks = asks_then ∙ ap (λ z. filter (has_number k) l.asks ++ z) e ∙ append-nil (filter (has_number k) l.asks) in
          let one : line_on m k line ≡ line = ap (λ z. first_line z line) still ∙ first_same (filter (has_number k) l.asks) line is.asks in
          let now : IsOf acts' report' x m k line = record {
            asks = subst (λ qs. AllByRecursion (λ (a : Ask Asked). a.request.line ≡ line) qs) (sym still) is.asks;
            said = All-back (λ (a : Answer Said). SaysTo acts' report' x line a.body) (filter (answers_number k) (answered u.came)) (filter (answers_number k) m.answers)
                (subst (λ qs. AllByRecursion (λ (a : Answer Said). SaysTo acts' report' x line a.body) qs) answers_then (said_still (filter (answers_number k) l.answers) is.said));
            asked = λ by b.
                let was = still_pending k u.half (handled u.came ++ u.own) by u.may (sym (u.leaves k) ∙ b) (ap (filter (has_number k)) (asks_none u.came u.own) ∙ e) in
                grows.asked line (is.asked was.0 (u.before k ∙ was.1));
          } in
          record { is = subst (λ n. IsOf acts' report' x m k n) (sym one) now; same = λ by b. one }

      one_new : (a : Ask Asked) (qs : List (Ask Asked)) → new ≡ a ∷ qs → Keeps
      one_new a qs e =
          let got = new_asked u.own a qs u.fits e in
          let none : hops k ≡ Free = is_free (hops k) (sym got.0 ∙ (shows k).back) in
          let asks : filter (has_number k) m.asks ≡ a ∷ qs = asks_then ∙ (λ i. ((shows k).asks ∙ ap (asks_of k) none) i ++ e i) in
          let only : qs ≡ [] = alone k (hops' k) a qs (sym asks ∙ (shows' k).asks) in
          let one : line_on m k line ≡ a.request.line = ap (λ z. first_line z line) asks in
          let quiet : filter (answers_number k) m.answers ≡ [] =
          nothing_behind (filter (answers_number k) (answered u.came)) (filter (answers_number k) m.answers) (sym answers_then ∙ (shows k).answers ∙ ap (answers_of k) none) in
          let now : IsOf acts' report' x m k a.request.line = record {
            asks = subst (λ zs. AllByRecursion (λ (z : Ask Asked). z.request.line ≡ a.request.line) zs) (sym (asks ∙ ap (λ z. a ∷ z) only)) (refl, tt);
            said = subst (λ zs. AllByRecursion (λ (z : Answer Said). SaysTo acts' report' x a.request.line z.body) zs) (sym quiet) tt;
            asked = λ by b. got.1;
          } in
          record { is = subst (λ n. IsOf acts' report' x m k n) (sym one) now; same = λ by b. absurd (none-some by (sym got.0 ∙ b)) }

      by_upper : Keeps
      by_upper = at new refl
        where
          at : (qs : List (Ask Asked)) → new ≡ qs → Keeps
          at [] e = none_new e
          at (a ∷ qs) e = one_new a qs e

    pub moves_keep : (hops hops' : ℕ → Hop Asked Place Said) → Shows l hops → Shows m hops' → Moves above below l m → Keeps
    moves_keep hops hops' shows shows' (Same e) = by_same e
    moves_keep hops hops' shows shows' (Upper u) = by_upper hops hops' shows shows' u
    moves_keep hops hops' shows shows' (Lower d) = by_lower d

  -- ---- for whom a number is pending

  module _ (p : Place) where
    -- a request that is asked for a place
    pub record IsNew (asks : List (Ask Asked)) : Type 0 where
      pub front : List (Ask Asked)
      pub request : Asked
      pub rest : List (Ask Asked)
      pub stands : filter (has_number k) asks ≡ front ++ ask k request ∷ rest
      pub asker : is_whole v p.name x ≡ true → (lines p.name x p.number ≡ request.line) × (o : Option Place) × (back_at w p.name x p.number ≡ Some o)

    own_back : (h : Half) (ds : List Deed) → AllByRecursion above ds → (with_deeds h ds).back k ≡ Some (Some p) → (h.back k ≡ Some (Some p)) ⊎ IsNew (flat_map asked_by_deed ds)
    own_back h [] f e = inl e
    own_back h (Asks n q b ∷ ds) f e = at (n == k) refl (own_back (with_deed h (Asks n q b)) ds f.1 e)
      where
        more : List (Ask Asked)
        more = flat_map asked_by_deed ds

        asks_first : (n == k) ≡ true → ask n q ≡ ask k q
        asks_first t = ap (λ j. ask j q) (eqb-true n k t)

        at : (t : Bool) → (n == k) ≡ t → (cond (n == k) (Some b) (h.back k) ≡ Some (Some p)) ⊎ IsNew more → (h.back k ≡ Some (Some p)) ⊎ IsNew (ask n q ∷ more)
        at true t (inl g) = inr (record {
          front = [];
          request = q;
          rest = filter (has_number k) more;
          stands = ap (λ c. cond c (ask n q ∷ filter (has_number k) more) (filter (has_number k) more)) t ∙ ap (λ z. z ∷ filter (has_number k) more) (asks_first t);
          asker = λ there. f.0.asker p (some_is b (ap (λ c. cond c (Some b) (h.back k)) (sym t) ∙ g)) there;
        })
          where
            some_is : (o : Option Place) → Some o ≡ Some (Some p) → o ≡ Some p
            some_is o z = cc
        at true t (inr g) = inr (record {
          front = ask n q ∷ g.front;
          request = g.request;
          rest = g.rest;
          stands = ap (λ c. cond c (ask n q ∷ filter (has_number k) more) (filter (has_number k) more)) t ∙ ap (λ z. ask n q ∷ z) g.stands;
          asker = g.asker;
        })
        at false t (inl g) = inl (ap (λ c. cond c (Some b) (h.back k)) (sym t) ∙ g)
        at false t (inr g) = inr (record {
          front = g.front;
          request = g.request;
          rest = g.rest;
          stands = ap (λ c. cond c (ask n q ∷ filter (has_number k) more) (filter (has_number k) more)) t ∙ g.stands;
          asker = g.asker;
        })
    own_back h (Hears n ∷ ds) f e = own_back h ds f.1 e
    own_back h (Closes n ∷ ds) f e = at (n == k) (own_back (with_deed h (Closes n)) ds f.1 e)
      where
        at : (t : Bool) → (cond t None (h.back k) ≡ Some (Some p)) ⊎ IsNew (flat_map asked_by_deed ds) → (h.back k ≡ Some (Some p)) ⊎ IsNew (flat_map asked_by_deed ds)
        at true (inl g) = absurd (none-some (Some p) g)
        at false (inl g) = inl g
        at t (inr g) = inr g
    own_back h (Leaves n ∷ ds) f e = at (n == k) (own_back (with_deed h (Leaves n)) ds f.1 e)
      where
        at : (t : Bool) → (cond t (Some None) (h.back k) ≡ Some (Some p)) ⊎ IsNew (flat_map asked_by_deed ds) → (h.back k ≡ Some (Some p)) ⊎ IsNew (flat_map asked_by_deed ds)
        at true (inl g) = absurd (cc)
        at false (inl g) = inl g
        at t (inr g) = inr g
    own_back h (Takes n ∷ ds) f e = own_back (with_deed h (Takes n)) ds f.1 e
    own_back h (Replies n said ∷ ds) f e = own_back h ds f.1 e
    own_back h (Ends n ∷ ds) f e = own_back (with_deed h (Ends n)) ds f.1 e

    pub moves_back : (hops' : ℕ → Hop Asked Place Said) → Shows m hops' → Moves above below l m → m.back k ≡ Some (Some p) →
        (l.back k ≡ Some (Some p)) ⊎ (is_whole v p.name x ≡ true → (line_on m k line ≡ lines p.name x p.number) × (o : Option Place) × (back_at w p.name x p.number ≡ Some o))
    moves_back hops' shows' (Same same) e = inl (ap (λ z. z.back k) same ∙ e)
    moves_back hops' shows' (Lower d) e = inl (sym (d.back k) ∙ e)
    moves_back hops' shows' (Upper u) e =
        at (own_back (with_deeds u.half (handled u.came)) u.own u.fits (ap (λ (z : Half). z.back k) (sym (with-append u.half (handled u.came) u.own)) ∙ sym (u.leaves k) ∙ e))
      where
        at : ((with_deeds u.half (handled u.came)).back k ≡ Some (Some p)) ⊎ IsNew (flat_map asked_by_deed u.own) →
            (l.back k ≡ Some (Some p)) ⊎ (is_whole v p.name x ≡ true → (line_on m k line ≡ lines p.name x p.number) × (o : Option Place) × (back_at w p.name x p.number ≡ Some o))
        at (inl g) = inl (u.before k ∙ handled_some u.half u.came k (Some p) g)
        at (inr g) = inr (λ there.
            let asks : filter (has_number k) m.asks ≡ (filter (has_number k) l.asks ++ g.front) ++ ask k g.request ∷ g.rest =
            ap (filter (has_number k)) u.asks ∙ filter-append (has_number k) l.asks (flat_map asked_by_deed u.own) ∙ ap (λ z. filter (has_number k) l.asks ++ z) g.stands
            ∙ sym (append_assoc (filter (has_number k) l.asks) g.front (ask k g.request ∷ g.rest)) in
            let asker = g.asker there in (
              ap (λ z. first_line z line) asks
                  ∙ only_one k line (hops' k) (filter (has_number k) l.asks ++ g.front) g.request g.rest (sym asks ∙ (shows' k).asks)
                  ∙ sym asker.0,
              asker.1,
              asker.2,
            ))
