-- The replies that were said to a query, and who has ended its request. They are the same where each saying is of the same query (`replies_same`, `ended_same`).
-- By one act more those of before stay, and one that is said now comes behind them (`replies_more`, `ended_more`).
use Rattle.std.proofs.Common.{◌≡◌, ◌≤◌, ◌<◌, ℕ, ◌==◌, ◌&&◌, Bool, true, false, cond, List, [], ◌∷◌, ◌++◌, Option, Some, None, refl, ap, ◌∙◌, subst, append-nil, arith}
use Rattle.std.specs.Prelude.{◌||◌, nat_lt, filter_map, is_none}
use Rattle.std.specs.List.{AllByRecursion, cons_option, count_by, list_any, slice_get}
use Rattle.std.specs.Option.{option_map_or}
use Rattle.std.proofs.lemmas.List.Elements.{filter_map-append}
use Rattle.std.proofs.lemmas.List.Folds.{list_any-append}
use Rattle.zr_id.specs.Zid.{is_named}
use Rattle.zr_msg.specs.declared.content.Parts.{Parts}
use Rattle.zr_script_spec.specs.declared.command.Act.{Act}
use Rattle.zr_script_spec.specs.declared.command.Act.TheVariants as c
use Rattle.zr_script_spec.specs.declared.report.ReportLine.{ReportLine}
use Rattle.zr_lists.proofs.Each.{All-each}
use Rattle.zr_lists.proofs.Elements.{in_each}
use Rattle.zr_world_spec.specs.Moments.{Numbered, is_step}
use Rattle.zr_world_spec.proofs.Names.{same_name}
use Rattle.zr_guarantee.specs.Item.{Reply}
use Rattle.zr_guarantee.specs.Queries.{Asked, Saying, sayings, is_end, query_of, is_said_to, reply_of, replies, has_ended, times_ended}
use Rattle.zr_guarantee.specs.Sent.{requests_to}
use Rattle.zr_law_replies.proofs.Grown.{Earlier, sayings_lines, ends_below, sayings_more, ended_before_more}

-- ---- by other acts and another report

module _ (acts acts' : List Numbered) (report report' : List ReportLine) (q : Asked) (d : List ℕ) where
  -- what a client said is of the same query
  abbrev pub IsSame : Saying → Type 0
  IsSame s = is_named d s.client ≡ true → query_of acts' report' s ≡ query_of acts report s

  to_same : (s : Saying) → IsSame s → (is_named d s.client && is_said_to acts' report' q.line s) ≡ (is_named d s.client && is_said_to acts report q.line s)
  to_same s same = by (is_named d s.client) refl
    where
      by : (b : Bool) → is_named d s.client ≡ b → (b && is_said_to acts' report' q.line s) ≡ (b && is_said_to acts report q.line s)
      by false e = refl
      by true e = ap (λ o. option_map_or (λ l. l == q.line) o false) (same e)

  reply_same : (s : Saying) (o : Option Parts) → IsSame s → reply_of acts' report' q d s o ≡ reply_of acts report q d s o
  reply_same s None same = refl
  reply_same s (Some content) same = ap (λ b. cond b (Some (record { line = s.line; number = q.number; content = content })) None) (to_same s same)

  pub replies_among : (ss : List Saying) → AllByRecursion IsSame ss → filter_map (λ s. reply_of acts' report' q d s s.reply) ss ≡ filter_map (λ s. reply_of acts report q d s s.reply) ss
  replies_among [] h = refl
  replies_among (s ∷ ss) h = λ i. cons_option (reply_same s s.reply h.0 i) (replies_among ss h.1 i)

  end_same : (s : Saying) → IsSame s → (is_named d s.client && (is_none s.reply && is_said_to acts' report' q.line s)) ≡ (is_named d s.client && (is_none s.reply && is_said_to acts report q.line s))
  end_same s same = by (is_named d s.client) refl
    where
      by : (b : Bool) → is_named d s.client ≡ b → (b && (is_none s.reply && is_said_to acts' report' q.line s)) ≡ (b && (is_none s.reply && is_said_to acts report q.line s))
      by false e = refl
      by true e = ap (λ o. is_none s.reply && option_map_or (λ l. l == q.line) o false) (same e)

  pub ended_among : (ss : List Saying) → AllByRecursion IsSame ss →
      list_any (λ s. is_named d s.client && (is_none s.reply && is_said_to acts' report' q.line s)) ss ≡ list_any (λ s. is_named d s.client && (is_none s.reply && is_said_to acts report q.line s)) ss
  ended_among [] h = refl
  ended_among (s ∷ ss) h = λ i. end_same s h.0 i || ended_among ss h.1 i

  -- where clients have said the same
  module _ (said : sayings acts' ≡ sayings acts) where
    pub replies_same : AllByRecursion IsSame (sayings acts) → replies acts' report' q d ≡ replies acts report q d
    replies_same same = ap (filter_map (λ s. reply_of acts' report' q d s s.reply)) said ∙ replies_among (sayings acts) same

    pub ended_same : AllByRecursion IsSame (sayings acts) → has_ended acts' report' q d ≡ has_ended acts report q d
    ended_same same = ap (list_any (λ s. is_named d s.client && (is_none s.reply && is_said_to acts' report' q.line s))) said ∙ ended_among (sayings acts) same

    -- and the client was sent the same requests
    module _ (sent : (n : ℕ) → requests_to report' d n ≡ requests_to report d n) where
      all_same : AllByRecursion IsSame (sayings acts)
      all_same = in_each IsSame (sayings acts) (λ s i e. λ j. slice_get (requests_are s e j) (count_by (λ y. is_end s.client s.number y && nat_lt y.line s.line) (said j)))
        where
          requests_are : (s : Saying) → is_named d s.client ≡ true → requests_to report' s.client s.number ≡ requests_to report s.client s.number
          requests_are s e = subst (λ z. requests_to report' z s.number ≡ requests_to report z s.number) (same_name d s.client e) (sent s.number)

      pub replies_kept : replies acts' report' q d ≡ replies acts report q d
      replies_kept = replies_same all_same

      pub ended_kept : has_ended acts' report' q d ≡ has_ended acts report q d
      ended_kept = ended_same all_same

-- ---- by one act more

module _ (acts : List Numbered) (x : Numbered) (before : Earlier acts x) (report report' : List ReportLine) (q : Asked) (d : List ℕ) (sent : (n : ℕ) → requests_to report' d n ≡ requests_to report d n) where
  abbrev then : List Numbered
  then = acts ++ x ∷ []

  -- of what is said now
  abbrev pub new_replies : List Reply
  new_replies = filter_map (λ s. reply_of (acts ++ x ∷ []) report' q d s s.reply) (sayings (x ∷ []))

  -- what was said stays said to its query
  said_stays : (s : Saying) → is_named d s.client ≡ true → s.line ≤ x.0 → query_of then report' s ≡ query_of acts report s
  said_stays s e le = λ i. slice_get (requests_are i) (ended_before_more acts x s.client s.number s.line le i)
    where
      requests_are : requests_to report' s.client s.number ≡ requests_to report s.client s.number
      requests_are = subst (λ z. requests_to report' z s.number ≡ requests_to report z s.number) (same_name d s.client e) (sent s.number)

  all_stay : AllByRecursion (IsSame acts then report report' q d) (sayings acts)
  all_stay = All-each (λ (s : Saying). s.line ≤ x.0) (IsSame acts then report report' q d) (sayings acts) (λ s le e. said_stays s e le) (sayings_lines (λ k. k ≤ x.0) acts before.most)

  pub replies_more : replies (acts ++ x ∷ []) report' q d ≡ replies acts report q d ++ new_replies
  replies_more =
      ap (filter_map (λ s. reply_of then report' q d s s.reply)) (sayings_more acts x)
      ∙ filter_map-append (λ (s : Saying). reply_of then report' q d s s.reply) (sayings acts) (sayings (x ∷ []))
      ∙ ap (λ z. z ++ new_replies) (replies_among acts then report report' q d (sayings acts) all_stay)

  -- where nothing is said, they are all
  pub replies_stay : new_replies ≡ [] → replies (acts ++ x ∷ []) report' q d ≡ replies acts report q d
  replies_stay none = replies_more ∙ ap (λ z. replies acts report q d ++ z) none ∙ append-nil (replies acts report q d)

  -- ---- who has ended its request

  -- by what is said now
  abbrev pub new_end : Bool
  new_end = list_any (λ s. is_named d s.client && (is_none s.reply && is_said_to (acts ++ x ∷ []) report' q.line s)) (sayings (x ∷ []))

  pub ended_more : has_ended (acts ++ x ∷ []) report' q d ≡ (has_ended acts report q d || new_end)
  ended_more =
      ap (list_any (λ s. is_named d s.client && (is_none s.reply && is_said_to then report' q.line s))) (sayings_more acts x)
      ∙ list_any-append (λ (s : Saying). is_named d s.client && (is_none s.reply && is_said_to then report' q.line s)) (sayings acts) (sayings (x ∷ []))
      ∙ ap (λ z. z || new_end) (ended_among acts then report report' q d (sayings acts) all_stay)

  pub ended_stays : new_end ≡ false → has_ended (acts ++ x ∷ []) report' q d ≡ has_ended acts report q d
  ended_stays none = ended_more ∙ ap (λ z. has_ended acts report q d || z) none ∙ by (has_ended acts report q d)
    where
      by : (b : Bool) → (b || false) ≡ b
      by true = refl
      by false = refl

-- ---- a reply, and an end

module _ (acts : List Numbered) (n : ℕ) (name : List ℕ) (number : ℕ) (report report' : List ReportLine) (q : Asked) (line : ℕ) (sent : (d : List ℕ) (k : ℕ) → requests_to report' d k ≡ requests_to report d k)
    (last : slice_get (requests_to report name number) (times_ended acts name number) ≡ Some line) where
  -- it is said to the last request that its client was sent under the number
  said_to : (act : Act) → Earlier acts (n, act) → is_step act ≡ false → (reply : Option Parts) → query_of (acts ++ (n, act) ∷ []) report' (record { line = n; client = name; number = number; reply = reply }) ≡ Some line
  said_to act before step reply =
      (λ i. slice_get (sent name number i) ((ended_before_more acts (n, act) name number n (let e : n ≤ n = omega arith in e)
      ∙ ends_below name number n (sayings acts) (sayings_lines (λ k. k < n) acts (before.below step))) i))
      ∙ last

  -- so a reply is one of its client to the query of that request
  pub reply_new : (content : Parts) (before : Earlier acts (n, c.Reply name number content)) (d : List ℕ) →
      new_replies acts (n, c.Reply name number content) before report report' q d (sent d) ≡ cond (is_named d name && line == q.line) (record { line = n; number = q.number; content = content } ∷ []) []
  reply_new content before d =
      ap (λ o. cons_option (cond (is_named d name && option_map_or (λ l. l == q.line) o false) (Some reply) None) []) (said_to (c.Reply name number content) before refl (Some content)) ∙ by (is_named d name && line == q.line)
    where
      reply : Reply
      reply = record { line = n; number = q.number; content = content }

      by : (b : Bool) → cons_option (cond b (Some reply) None) [] ≡ cond b (reply ∷ []) []
      by true = refl
      by false = refl

  -- and an end is one of its client's request of that query
  pub end_new : (before : Earlier acts (n, c.End name number)) (d : List ℕ) → new_end acts (n, c.End name number) before report report' q d (sent d) ≡ (is_named d name && line == q.line)
  end_new before d = ap (λ o. (is_named d name && option_map_or (λ l. l == q.line) o false) || false) (said_to (c.End name number) before refl None) ∙ by (is_named d name && line == q.line)
    where
      by : (b : Bool) → (b || false) ≡ b
      by true = refl
      by false = refl
