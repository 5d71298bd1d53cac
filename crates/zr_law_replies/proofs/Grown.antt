-- What one act more makes of what is read from acts and report: what was asked stays asked, and what was said is said to the same query.
use Rattle.std.proofs.Common.{◌≡◌, ◌≤◌, ◌<◌, ℕ, ◌+◌, ◌-◌, ◌==◌, nat_lt, nat_le, ◌⊎◌, inl, inr, true, false, cond, List, [], ◌∷◌, ◌++◌, length, map, filter, Option, Some, None, refl, sym, ap, ◌∙◌, subst, arith, append-nil}
use Rattle.std.specs.Prelude.{◌&&◌, ◌||◌, not, is_some, IfSome}
use Rattle.std.specs.List.{AllByRecursion, cons_option, count_by, list_any, slice_get}
use Rattle.std.proofs.lemmas.Bool.{false≢true, and_parts, and_right, and_from, or_left, or_right, or_cases, lt-ltb, ltb-true, leb-true, eqb-true, eq-eqb, not-true, false_from_ne_true}
use Rattle.std.proofs.lemmas.List.{map-append}
use Rattle.std.proofs.lemmas.List.Elements.{filter_map-append, filter-append}
use Rattle.std.proofs.lemmas.List.Folds.{list_any-append}
use Rattle.std.proofs.lemmas.List.Sums.{sum_by-append}
use Rattle.zr_lists.proofs.Each.{All-each}
use Rattle.zr_lists.proofs.Finds.{In, any_in, none_any, slice_get_kept, slice_get_pushed}
use Rattle.zr_lists.proofs.Elements.{each_in, in_each}
use Rattle.zr_id.specs.Zid.{is_named}
use Rattle.zr_msg.specs.declared.content.Parts.{Parts}
use Rattle.zr_script_spec.specs.declared.command.Act.{Act}
use Rattle.zr_script_spec.specs.declared.command.Act.TheVariants as a
use Rattle.zr_script_spec.specs.declared.report.ReportLine.{ReportLine}
use Rattle.zr_world_spec.specs.Moments.{Numbered, is_step, is_later, ascends}
use Rattle.zr_law_numbers.specs.Waiting.{Said}
use Rattle.zr_guarantee.specs.Item.{Reply}
use Rattle.zr_guarantee.specs.Latest.{asks_latest}
use Rattle.zr_guarantee.specs.Queries.{Asked, asked_in, queries, is_under, turn, Saying, saying_in, sayings, is_end, ended_before, query_of, times_ended}
use Rattle.zr_guarantee.specs.Sent.{Told, told_in, told_to, is_request, requests_to}
use Rattle.zr_law_replies.specs.Answers.{IsAsked, is_latest_of, is_other_line, IsSaidTo, told_in_turn, query_at, IsAnswer}
use Rattle.zr_law_replies.specs.Stands.{answers_told}
use Rattle.zr_law_replies.proofs.Lists.{all_at, from_map, count_all}

-- ---- lines that come before

-- the acts' lines come before an act: none is a later one, and of acts that are no steps none is the same one
pub record Earlier (acts : List Numbered) (x : Numbered) : Type 0 where
  pub most : AllByRecursion (λ y. y.0 ≤ x.0) acts
  pub below : is_step x.1 ≡ false → AllByRecursion (λ y. y.0 < x.0) acts

later_most : (last : ℕ) (x : Numbered) → is_later last x ≡ true → last ≤ x.0
later_most last x h = by (or_cases (nat_lt last x.0) (is_step x.1 && nat_le last x.0) h)
  where
    by : (nat_lt last x.0 ≡ true) ⊎ ((is_step x.1 && nat_le last x.0) ≡ true) → last ≤ x.0
    by (inl e) = let lt : last < x.0 = ltb-true last x.0 e in omega arith
    by (inr e) = leb-true last x.0 (and_parts (is_step x.1) (nat_le last x.0) e).1

later_below : (last : ℕ) (x : Numbered) → is_later last x ≡ true → is_step x.1 ≡ false → last < x.0
later_below last x h step = ltb-true last x.0 (by (or_cases (nat_lt last x.0) (is_step x.1 && nat_le last x.0) h))
  where
    by : (nat_lt last x.0 ≡ true) ⊎ ((is_step x.1 && nat_le last x.0) ≡ true) → nat_lt last x.0 ≡ true
    by (inl e) = e
    by (inr e) = absurd (false≢true (sym step ∙ (and_parts (is_step x.1) (nat_le last x.0) e).0))

pub earlier : (last : ℕ) (acts : List Numbered) (x : Numbered) (rest : List Numbered) → ascends last (acts ++ x ∷ rest) ≡ true → Earlier acts x × (last ≤ x.0) × (is_step x.1 ≡ false → last < x.0)
earlier last [] x rest h =
    let parts = and_parts (is_later last x) (ascends x.0 rest) h in
    (record { most = tt; below = λ step. tt }, later_most last x parts.0, λ step. later_below last x parts.0 step)
earlier last (y ∷ acts) x rest h =
    let parts = and_parts (is_later last y) (ascends y.0 (acts ++ x ∷ rest)) h in
    let more = earlier y.0 acts x rest parts.1 in
    let first : last ≤ y.0 = later_most last y parts.0 in
    let mid : y.0 ≤ x.0 = more.1 in
    (record { most = (more.1, more.0.most); below = λ step. (more.2 step, more.0.below step) }, omega arith, λ step. let lt : y.0 < x.0 = more.2 step in omega arith)

-- ---- what an act asks and says

-- a query is one of its line, and the act that asks is no step
asked_line : (line : ℕ) (act : Act) → IfSome (asked_in line act) (λ q. (q.line ≡ line) × (is_step act ≡ false))
asked_line line (a.Router id) = tt
asked_line line (a.Client id router) = tt
asked_line line (a.Link one other weight) = tt
asked_line line (a.Up router neighbour) = tt
asked_line line (a.Break router neighbour) = tt
asked_line line (a.Down router neighbour) = tt
asked_line line (a.Sub client id key) = tt
asked_line line (a.Unsub client id) = tt
asked_line line (a.Token client id key) = tt
asked_line line (a.Untoken client id) = tt
asked_line line (a.Able client id key complete) = tt
asked_line line (a.Unable client id) = tt
asked_line line (a.Interest client id mode kinds key aggregate) = tt
asked_line line (a.Uninterest client id) = tt
asked_line line (a.Publish client content) = tt
asked_line line (a.Get client number target content) = (refl, refl)
asked_line line (a.Reply client number content) = tt
asked_line line (a.End client number) = tt
asked_line line (a.Handle router from) = tt
asked_line line (a.Take router to) = tt
asked_line line a.Mark = tt
asked_line line (a.Show router) = tt

-- so with what a client says
saying_line : (line : ℕ) (act : Act) → IfSome (saying_in line act) (λ s. (s.line ≡ line) × (is_step act ≡ false))
saying_line line (a.Router id) = tt
saying_line line (a.Client id router) = tt
saying_line line (a.Link one other weight) = tt
saying_line line (a.Up router neighbour) = tt
saying_line line (a.Break router neighbour) = tt
saying_line line (a.Down router neighbour) = tt
saying_line line (a.Sub client id key) = tt
saying_line line (a.Unsub client id) = tt
saying_line line (a.Token client id key) = tt
saying_line line (a.Untoken client id) = tt
saying_line line (a.Able client id key complete) = tt
saying_line line (a.Unable client id) = tt
saying_line line (a.Interest client id mode kinds key aggregate) = tt
saying_line line (a.Uninterest client id) = tt
saying_line line (a.Publish client content) = tt
saying_line line (a.Get client number target content) = tt
saying_line line (a.Reply client number content) = (refl, refl)
saying_line line (a.End client number) = (refl, refl)
saying_line line (a.Handle router from) = tt
saying_line line (a.Take router to) = tt
saying_line line a.Mark = tt
saying_line line (a.Show router) = tt

module _ (line : ℕ) (act : Act) where
  pub asked_of : (q : Asked) → asked_in line act ≡ Some q → q.line ≡ line
  asked_of q e = (subst (λ o. IfSome o (λ (z : Asked). (z.line ≡ line) × (is_step act ≡ false))) e (asked_line line act)).0

  pub asks_no_step : (q : Asked) → asked_in line act ≡ Some q → is_step act ≡ false
  asks_no_step q e = (subst (λ o. IfSome o (λ (z : Asked). (z.line ≡ line) × (is_step act ≡ false))) e (asked_line line act)).1

  pub saying_of : (s : Saying) → saying_in line act ≡ Some s → s.line ≡ line
  saying_of s e = (subst (λ o. IfSome o (λ (z : Saying). (z.line ≡ line) × (is_step act ≡ false))) e (saying_line line act)).0

  pub says_no_step : (s : Saying) → saying_in line act ≡ Some s → is_step act ≡ false
  says_no_step s e = (subst (λ o. IfSome o (λ (z : Saying). (z.line ≡ line) × (is_step act ≡ false))) e (saying_line line act)).1

-- what holds of all lines holds of those of sayings and of queries
pub sayings_lines : (P : ℕ → Type 0) (acts : List Numbered) → AllByRecursion (λ y. P y.0) acts → AllByRecursion (λ (s : Saying). P s.line) (sayings acts)
sayings_lines P acts h = in_each (λ (s : Saying). P s.line) (sayings acts) (λ s i.
    let x = from_map (λ (y : Numbered). saying_in y.0 y.1) acts s i in
    subst P (sym (saying_of x.0.0 x.0.1 s x.2)) (each_in (λ (y : Numbered). P y.0) acts x.0 h x.1))

pub queries_lines : (P : ℕ → Type 0) (acts : List Numbered) → AllByRecursion (λ y. P y.0) acts → AllByRecursion (λ (q : Asked). P q.line) (queries acts)
queries_lines P acts h = in_each (λ (q : Asked). P q.line) (queries acts) (λ q i.
    let x = from_map (λ (y : Numbered). asked_in y.0 y.1) acts q i in
    subst P (sym (asked_of x.0.0 x.0.1 q x.2)) (each_in (λ (y : Numbered). P y.0) acts x.0 h x.1))

-- ---- ends

-- where all sayings' lines are below a number, all ends are
pub ends_below : (c : List ℕ) (n l : ℕ) (ss : List Saying) → AllByRecursion (λ (s : Saying). s.line < l) ss →
    count_by (λ s. is_end c n s && nat_lt s.line l) ss ≡ count_by (λ s. is_end c n s) ss
ends_below c n l ss h = count_all (λ s. is_end c n s) (λ s. nat_lt s.line l) ss (All-each (λ (s : Saying). s.line < l) (λ s. nat_lt s.line l ≡ true) ss (λ s lt. lt-ltb s.line l lt) h)

module _ (acts : List Numbered) (x : Numbered) where
  abbrev pub more : List Numbered
  more = acts ++ x ∷ []

  pub sayings_more : sayings more ≡ sayings acts ++ sayings (x ∷ [])
  sayings_more = filter_map-append (λ (y : Numbered). saying_in y.0 y.1) acts (x ∷ [])

  pub queries_more : queries more ≡ queries acts ++ queries (x ∷ [])
  queries_more = filter_map-append (λ (y : Numbered). asked_in y.0 y.1) acts (x ∷ [])

  -- an act by which nobody asks, or says, anything
  pub queries_same : queries (x ∷ []) ≡ [] → queries more ≡ queries acts
  queries_same none = queries_more ∙ ap (λ z. queries acts ++ z) none ∙ append-nil (queries acts)

  pub sayings_same : sayings (x ∷ []) ≡ [] → sayings more ≡ sayings acts
  sayings_same none = sayings_more ∙ ap (λ z. sayings acts ++ z) none ∙ append-nil (sayings acts)

  pub times_ended_more : (c : List ℕ) (n : ℕ) → times_ended more c n ≡ times_ended acts c n + times_ended (x ∷ []) c n
  times_ended_more c n = ap (count_by (λ s. is_end c n s)) sayings_more ∙ sum_by-append (λ (s : Saying). cond (is_end c n s) 1 0) (sayings acts) (sayings (x ∷ []))

  pub under_more : (c : List ℕ) (n : ℕ) → filter (λ q. is_under c n q) (queries more) ≡ filter (λ q. is_under c n q) (queries acts) ++ filter (λ q. is_under c n q) (queries (x ∷ []))
  under_more c n = ap (filter (λ q. is_under c n q)) queries_more ∙ filter-append (λ q. is_under c n q) (queries acts) (queries (x ∷ []))

  -- an end of the new line doesn't come before one that isn't later
  pub ended_before_more : (c : List ℕ) (n l : ℕ) → l ≤ x.0 → ended_before more c n l ≡ ended_before acts c n l
  ended_before_more c n l le =
      ap (count_by (λ s. is_end c n s && nat_lt s.line l)) sayings_more
      ∙ sum_by-append (λ (s : Saying). cond (is_end c n s && nat_lt s.line l) 1 0) (sayings acts) (sayings (x ∷ []))
      ∙ ap (λ k. ended_before acts c n l + k) (by (saying_in x.0 x.1) refl)
      ∙ (let e : ended_before acts c n l + 0 ≡ ended_before acts c n l = omega arith in e)
    where
      by : (o : Option Saying) → saying_in x.0 x.1 ≡ o → count_by (λ s. is_end c n s && nat_lt s.line l) (cons_option o []) ≡ 0
      by None e = refl
      by (Some s) e = ap (λ b. 0 + cond b 1 0) (and_right (is_end c n s) (nat_lt s.line l) (false_from_ne_true (nat_lt s.line l) (λ t.
          let lt : s.line < l = ltb-true s.line l t in
          let at : s.line ≡ x.0 = saying_of x.0 x.1 s e in
          absurd (omega arith))))

  pub asked_kept : (line : ℕ) → IsAsked acts line → IsAsked more line
  asked_kept line h =
      ap (list_any (λ p. p.line == line)) queries_more ∙ list_any-append (λ (p : Asked). p.line == line) (queries acts) (queries (x ∷ []))
      ∙ or_left (list_any (λ p. p.line == line) (queries acts)) (list_any (λ p. p.line == line) (queries (x ∷ []))) h

  pub query_at_kept : (c : List ℕ) (n turns : ℕ) (q : Asked) → query_at acts c n turns ≡ Some q → query_at more c n turns ≡ Some q
  query_at_kept c n turns q e =
      ap (λ qs. slice_get qs turns) (under_more c n)
      ∙ slice_get_kept (filter (λ z. is_under c n z) (queries acts)) (filter (λ z. is_under c n z) (queries (x ∷ []))) turns q e

  pub latest_kept : (name : List ℕ) (line : ℕ) → is_latest_of acts name line ≡ true → is_latest_of more name line ≡ true
  latest_kept name line h =
      ap (list_any (λ (p : Asked). is_named name p.client && (p.line == line && asks_latest p))) queries_more ∙ list_any-append (λ (p : Asked). is_named name p.client && (p.line == line && asks_latest p)) (queries acts) (queries (x ∷ []))
      ∙ or_left (list_any (λ (p : Asked). is_named name p.client && (p.line == line && asks_latest p)) (queries acts)) (list_any (λ (p : Asked). is_named name p.client && (p.line == line && asks_latest p)) (queries (x ∷ []))) h

  -- a reply more is of a later line
  pub other_kept : Earlier acts x → (line : ℕ) → is_other_line acts line ≡ true → is_other_line more line ≡ true
  other_kept before line h =
      let parts = and_parts (list_any (λ (y : Numbered). y.0 == line) acts) (not (list_any (λ s. s.line == line && is_some s.reply) (sayings acts))) h in
      and_from (list_any (λ (y : Numbered). y.0 == line) more) (not (list_any (λ s. s.line == line && is_some s.reply) (sayings more)))
      (list_any-append (λ (y : Numbered). y.0 == line) acts (x ∷ []) ∙ or_left (list_any (λ (y : Numbered). y.0 == line) acts) (list_any (λ (y : Numbered). y.0 == line) (x ∷ [])) parts.0)
      (ap not (ap (list_any (λ s. s.line == line && is_some s.reply)) sayings_more ∙ list_any-append (λ (s : Saying). s.line == line && is_some s.reply) (sayings acts) (sayings (x ∷ []))
      ∙ (λ i. not-true (list_any (λ s. s.line == line && is_some s.reply) (sayings acts)) parts.1 i || none (saying_in x.0 x.1) refl (any_in (λ (y : Numbered). y.0 == line) acts parts.0) i)))
    where
      none : (o : Option Saying) → saying_in x.0 x.1 ≡ o → (y : Numbered) × In y acts × ((y.0 == line) ≡ true) → list_any (λ s. s.line == line && is_some s.reply) (cons_option o []) ≡ false
      none None e y = refl
      none (Some s) e y = ap (λ b. (b && is_some s.reply) || false) (false_from_ne_true (s.line == line) (λ t.
          let lt : y.0.0 < x.0 = each_in (λ (z : Numbered). z.0 < x.0) acts y.0 (before.below (says_no_step x.0 x.1 s e)) y.1 in
          let one : y.0.0 ≡ line = eqb-true y.0.0 line y.2 in
          let two : s.line ≡ line = eqb-true s.line line t in
          let three : s.line ≡ x.0 = saying_of x.0 x.1 s e in
          absurd (omega arith)))

  -- the line of an act that is no step and no reply
  pub new_other : Earlier acts x → is_step x.1 ≡ false → ((s : Saying) → saying_in x.0 x.1 ≡ Some s → is_some s.reply ≡ false) → is_other_line more x.0 ≡ true
  new_other before step quiet =
      and_from (list_any (λ (y : Numbered). y.0 == x.0) more) (not (list_any (λ s. s.line == x.0 && is_some s.reply) (sayings more)))
      (list_any-append (λ (y : Numbered). y.0 == x.0) acts (x ∷ []) ∙ or_right (list_any (λ (y : Numbered). y.0 == x.0) acts) (list_any (λ (y : Numbered). y.0 == x.0) (x ∷ [])) (or_left (x.0 == x.0) false (eq-eqb x.0 x.0 refl)))
      (ap not (ap (list_any (λ s. s.line == x.0 && is_some s.reply)) sayings_more ∙ list_any-append (λ (s : Saying). s.line == x.0 && is_some s.reply) (sayings acts) (sayings (x ∷ []))
      ∙ (λ i. none_any (λ (s : Saying). s.line == x.0 && is_some s.reply) (sayings acts) old i || none (saying_in x.0 x.1) refl i)))
    where
      old : (s : Saying) → In s (sayings acts) → (s.line == x.0 && is_some s.reply) ≡ false
      old s i = ap (λ b. b && is_some s.reply) (false_from_ne_true (s.line == x.0) (λ t.
          let lt : s.line < x.0 = each_in (λ (z : Saying). z.line < x.0) (sayings acts) s (sayings_lines (λ k. k < x.0) acts (before.below step)) i in
          let one : s.line ≡ x.0 = eqb-true s.line x.0 t in
          absurd (omega arith)))

      none : (o : Option Saying) → saying_in x.0 x.1 ≡ o → list_any (λ s. s.line == x.0 && is_some s.reply) (cons_option o []) ≡ false
      none None e = refl
      none (Some s) e = ap (λ b. (s.line == x.0 && b) || false) (quiet s e) ∙ (λ i. and_right (s.line == x.0) false refl i || false)

-- ---- one report behind another

pub told_more : (xs ys : List ReportLine) (c : List ℕ) → told_to (xs ++ ys) c ≡ told_to xs c ++ told_to ys c
told_more xs ys c = filter_map-append (told_in c) xs ys

pub requests_more : (xs ys : List ReportLine) (c : List ℕ) (n : ℕ) → requests_to (xs ++ ys) c n ≡ requests_to xs c n ++ requests_to ys c n
requests_more xs ys c n =
    ap (λ ts. map (λ (t : Told). t.tag) (filter (λ t. is_request n t.msg) ts)) (told_more xs ys c)
    ∙ ap (map (λ (t : Told). t.tag)) (filter-append (λ (t : Told). is_request n t.msg) (told_to xs c) (told_to ys c))
    ∙ map-append (λ (t : Told). t.tag) (filter (λ t. is_request n t.msg) (told_to xs c)) (filter (λ t. is_request n t.msg) (told_to ys c))

pub told_same : (xs ys : List ReportLine) (c : List ℕ) → told_to ys c ≡ [] → told_to (xs ++ ys) c ≡ told_to xs c
told_same xs ys c none = told_more xs ys c ∙ ap (λ z. told_to xs c ++ z) none ∙ append-nil (told_to xs c)

pub requests_same : (xs ys : List ReportLine) (c : List ℕ) (n : ℕ) → told_to ys c ≡ told_to xs c → requests_to ys c n ≡ requests_to xs c n
requests_same xs ys c n same = ap (λ ts. map (λ (t : Told). t.tag) (filter (λ (t : Told). is_request n t.msg) ts)) same

-- ---- the turn of a query, where the same queries were asked

pub turn_same : (acts acts' : List Numbered) (q : Asked) → queries acts' ≡ queries acts → turn acts' q ≡ turn acts q
turn_same acts acts' q same = ap (count_by (λ (p : Asked). is_under q.client q.number p && nat_le p.line q.line)) same

pub turn_told_same : (acts acts' : List Numbered) (q : Asked) (told told' : List Told) → queries acts' ≡ queries acts → told' ≡ told →
    answers_told q.number (told_in_turn q.number (turn acts' q - 1) told') ≡ answers_told q.number (told_in_turn q.number (turn acts q - 1) told)
turn_told_same acts acts' q told told' asked same = λ i. answers_told q.number (told_in_turn q.number (turn_same acts acts' q asked i - 1) (same i))

-- ---- what is said stays said

module _ (acts : List Numbered) (x : Numbered) (report lines : List ReportLine) where
  -- to the query that it was said to
  pub query_kept : (s : Saying) (line : ℕ) → s.line ≤ x.0 → query_of acts report s ≡ Some line → query_of (acts ++ x ∷ []) (report ++ lines) s ≡ Some line
  query_kept s line le e =
      (λ i. slice_get (requests_more report lines s.client s.number i) (ended_before_more acts x s.client s.number s.line le i))
      ∙ slice_get_kept (requests_to report s.client s.number) (requests_to lines s.client s.number) (ended_before acts s.client s.number s.line) line e

module _ (acts : List Numbered) (x : Numbered) (before : Earlier acts x) (report lines : List ReportLine) where
  pub said_kept : (name : List ℕ) (line : ℕ) (said : Said) → IsSaidTo acts report name line said → IsSaidTo (acts ++ x ∷ []) (report ++ lines) name line said
  said_kept name line said h = record {
    place = h.place;
    saying = h.saying;
    stands = ap (λ ss. slice_get ss h.place) (sayings_more acts x) ∙ slice_get_kept (sayings acts) (sayings (x ∷ [])) h.place h.saying h.stands;
    line_is = by h.line_is;
    reply_is = h.reply_is;
    query = query_kept acts x report lines h.saying line (all_at (λ (s : Saying). s.line ≤ x.0) (sayings acts) h.place h.saying (sayings_lines (λ k. k ≤ x.0) acts before.most) h.stands) h.query;
  }
    where
      by : (h.saying.line ≡ said.line) ⊎ ((is_latest_of acts name line ≡ true) × (is_other_line acts said.line ≡ true)) →
          (h.saying.line ≡ said.line) ⊎ ((is_latest_of (acts ++ x ∷ []) name line ≡ true) × (is_other_line (acts ++ x ∷ []) said.line ≡ true))
      by (inl e) = inl e
      by (inr e) = inr (latest_kept acts x name line e.0, other_kept acts x before said.line e.1)

  pub answer_kept : (c : List ℕ) (n turns : ℕ) (r : Reply) → IsAnswer acts report c n turns r → IsAnswer (acts ++ x ∷ []) (report ++ lines) c n turns r
  answer_kept c n turns r h = record { query = h.query; asked = query_at_kept acts x c n turns h.query h.asked; said = said_kept c h.query.line (record { line = r.line; content = r.content }) h.said }

-- a reply is said to the last request that its client was sent under the number
pub new_reply : (acts : List Numbered) (report : List ReportLine) (n : ℕ) (d : List ℕ) (number : ℕ) (content : Parts) (name : List ℕ) (line : ℕ) → Earlier acts (n, a.Reply d number content) →
    slice_get (requests_to report d number) (times_ended acts d number) ≡ Some line →
    IsSaidTo (acts ++ (n, a.Reply d number content) ∷ []) report name line (record { line = n; content = content })
new_reply acts report n d number content name line before e = record {
  place = length (sayings acts);
  saying = s;
  stands = ap (λ ss. slice_get ss (length (sayings acts))) (sayings_more acts x) ∙ slice_get_pushed (sayings acts) (length (sayings acts)) s refl;
  line_is = inl refl;
  reply_is = refl;
  query = ap (slice_get (requests_to report d number)) (ended_before_more acts x d number n (omega arith) ∙ ends_below d number n (sayings acts) (sayings_lines (λ k. k < n) acts (before.below refl))) ∙ e;
}
  where
    x : Numbered
    x = (n, a.Reply d number content)

    s : Saying
    s = record { line = n; client = d; number = number; reply = Some content }
