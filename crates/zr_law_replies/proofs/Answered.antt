-- A query that stands is answered as one broker answers it (`answered`): field by field of `IsAnswered`.
use Rattle.std.proofs.Common.{◌≡◌, ℕ, suc, ◌-◌, ◌==◌, ◌&&◌, ◌||◌, Bool, true, false, cond, List, [], ◌∷◌, ◌++◌, filter, map, Option, Some, None, refl, sym, ap, ◌∙◌, subst, arith, append-nil, ◌⊎◌, inl, inr, is_some}
use Rattle.std.specs.Prelude.{not, nat_le}
use Rattle.std.specs.List.{list_any, slice_get, AllByRecursion}
use Rattle.std.specs.Option.{option_map, option_map_or}
use Rattle.std.proofs.lemmas.Bool.{false≢true, true≢false, and_parts, and_from, eqb-true, eq-eqb, not-true, and_right, false_from_ne_true}
use Rattle.std.proofs.lemmas.List.{map-append}
use Rattle.std.proofs.lemmas.List.Elements.{filter_map-append}
use Rattle.std.proofs.lemmas.Option.{none-some}
use Rattle.zr_lists.proofs.Finds.{In, any_in, in_any, none_any, in_filter, any_none, in_map, map_in}
use Rattle.zr_id.specs.Zid.{is_named}
use Rattle.zr_graph.proofs.Names.{same_is}
use Rattle.zr_msg.specs.declared.content.Parts.{Parts}
use Rattle.zr_script_spec.specs.declared.command.Act.TheVariants as c
use Rattle.zr_script_spec.specs.declared.report.ReportLine.{ReportLine}
use Rattle.zr_lists.specs.Prefix.{IsPrefixOf}
use Rattle.zr_lists.proofs.Elements.{each_in, passes_each, in_behind, in_either}
use Rattle.zr_lists.proofs.Tests.{all_true}
use Rattle.zr_world_spec.specs.World.{ClientState, client_of, is_quiet}
use Rattle.zr_world_spec.specs.Moments.{Numbered, Moment, ascends, reached}
use Rattle.zr_guarantee.specs.Names.{clients}
use Rattle.zr_guarantee.specs.Item.{Query, Reply}
use Rattle.zr_guarantee.specs.Broker.{is_attached, takes}
use Rattle.zr_guarantee.specs.Queries.{Asked, asked_in, queries, turn, asks, is_under, Saying, sayings, query_of, is_said_to, reply_of, replies, has_ended, is_finished}
use Rattle.zr_guarantee.specs.Refines.{Delivers, sent_of_query, has_final, IsAnswered}
use Rattle.zr_guarantee.specs.Sent.{Told, told_to, replies_in, finals_in, behind_finals}
use Rattle.zr_law_queries.specs.Query as query
use Rattle.zr_law_queries.specs.Query.{Stage, NotYet, OnTheWay, Here as AtNode, Over, is_not_yet, is_done, replies_at, IsQuiet, IsFinished, Tree, is_child}
use Rattle.zr_law_queries.specs.Courses as courses
use Rattle.zr_law_queries.proofs.Ends.{final_comes}
use Rattle.zr_law_numbers.specs.Waiting.{Said, is_whole}
use Rattle.zr_law_replies.specs.Answers.{IsSaidTo, query_at, IsAnswer, told_in_turn, is_latest_of, is_other_line, line_of}
use Rattle.zr_law_replies.specs.Trees.{tree_at, home_of}
use Rattle.zr_law_replies.specs.Stands.{answers_told, answers_at, is_asked_or_not, said_in, is_said_by, latest_release, Shown, request_to, asked_at}
use Rattle.zr_law_replies.proofs.Turns.{turned_in_turn}
use Rattle.zr_law_replies.proofs.TurnReplies.{Only, only_by, in_turn, behind_turn, final_told}
use Rattle.zr_law_replies.proofs.ToldAnswers.{to_said, to_reply, replies_of, has_end, told_replies, told_final, stage_replies, stage_end, replies_again, passing_replies}
use Rattle.zr_law_replies.proofs.Lists.{get_in, from_map, into_map}
use Rattle.zr_law_replies.proofs.OneLine.{one_saying, one_query}
use Rattle.zr_law_replies.proofs.TurnPlaces.{turn_is, its_place, its_turn}
use Rattle.zr_law_replies.proofs.Asked.{attached_came, unasked_say_nothing}
use Rattle.zr_law_replies.proofs.StandAnswered.{answered_by, gathered_by}
use Rattle.zr_law_replies.proofs.StandStep.{Begins, Here}
use Rattle.zr_law_replies.proofs.StandAtRest.{quiet_at_rest}
use Rattle.zr_guarantee.specs.Latest.{asks_latest, said_if, all_replies, best, sent_in_turn, IsAnsweredLatest}
use Rattle.zr_pend_spec.specs.Held.{gathered}
use Rattle.zr_pend_spec.specs.Best.{key_body}
use Rattle.zr_pend_spec.proofs.Best.{law as best_law}
use Rattle.zr_world_spec.proofs.Names.{names}
use Rattle.zr_law_queries.specs.Link.{Answer, answers_of, answers_with, asked_by}
use Rattle.zr_law_replies.proofs.Links.{SaysTo}
use Rattle.zr_law_replies.proofs.StandHere.{whole_now, kids}
use Rattle.zr_law_replies.proofs.StandHolds.{root_child}
use Rattle.zr_law_replies.proofs.Trees.{home_there}
use Rattle.zr_law_samples.proofs.Start.{ready}

-- what a reply of a replier to a query is
record IsReplyOf (acts : List Numbered) (report : List ReportLine) (q : Asked) (d : List ℕ) (r : Reply) : Type 0 where
  saying : Saying
  there : In saying (sayings acts)
  line : r.line ≡ saying.line
  number : r.number ≡ q.number
  replied : is_some saying.reply ≡ true
  client : is_named d saying.client ≡ true
  to_query : query_of acts report saying ≡ Some q.line

its_query : (line : ℕ) (o : Option ℕ) → option_map_or (λ l. l == line) o false ≡ true → o ≡ Some line
its_query line None e = absurd (false≢true e)
its_query line (Some l) e = ap (λ z. Some z) (eqb-true l line e)

reply_is : (acts : List Numbered) (report : List ReportLine) (q : Asked) (d : List ℕ) (r : Reply) → In r (replies acts report q d) → IsReplyOf acts report q d r
reply_is acts report q d r i = let s = from_map (λ (s : Saying). reply_of acts report q d s s.reply) (sayings acts) r i in by s.0 s.1 s.0.reply refl s.2
  where
    by : (s : Saying) → In s (sayings acts) → (o : Option Parts) → s.reply ≡ o → reply_of acts report q d s o ≡ Some r → IsReplyOf acts report q d r
    by s there None has e = absurd (none-some r e)
    by s there (Some content) has e = at (is_named d s.client && is_said_to acts report q.line s) refl e
      where
        at : (b : Bool) → (is_named d s.client && is_said_to acts report q.line s) ≡ b → cond b (Some (record { line = s.line; number = q.number; content = content })) None ≡ Some r → IsReplyOf acts report q d r
        at false f k = absurd (none-some r k)
        at true f k =
            let one : record { line = s.line; number = q.number; content = content } ≡ r = cc in
            let parts = and_parts (is_named d s.client) (is_said_to acts report q.line s) f in
            record {
              saying = s;
              there = there;
              line = sym (ap (λ (z : Reply). z.line) one);
              number = sym (ap (λ (z : Reply). z.number) one);
              replied = ap is_some has;
              client = parts.0;
              to_query = its_query q.line (query_of acts report s) parts.1;
            }

pub done_ended : (u : Stage Said) → is_done u ≡ true → query.has_ended u ≡ true
done_ended NotYet e = refl
done_ended OnTheWay e = refl
done_ended (AtNode rs done) e = e
done_ended Over e = refl

no_filter : (xs : List Reply) → filter (λ (r : Reply). false) xs ≡ []
no_filter [] = refl
no_filter (x ∷ xs) = no_filter xs

nothing_in : {X : Type 0} (xs : List X) → ((x : X) → In x xs → ⊥) → xs ≡ []
nothing_in [] none = refl
nothing_in (x ∷ xs) none = absurd (none x (inl refl))

module _ (before : List Numbered) (mark : ℕ) (start : Moment) (q : Asked) (b : Begins before mark start q) (phase : List Numbered) (m : Moment) (later : ascends 0 (before ++ (mark, c.Mark) ∷ phase) ≡ true)
    (after_mark : ascends mark phase ≡ true) (is : reached (before ++ (mark, c.Mark) ∷ phase) ≡ Some m) (in_phase : In q (queries phase)) (delivers : Delivers before mark phase m)
    (here : Here start.world (before ++ (mark, c.Mark) ∷ phase) q (before ++ (mark, c.Mark) ∷ phase) m) where
  abbrev acts : List Numbered
  acts = before ++ (mark, c.Mark) ∷ phase

  abbrev n : ℕ
  n = q.number

  abbrev report : List ReportLine
  report = m.report

  abbrev told : List Told
  told = told_to m.report q.client

  abbrev t : ℕ
  t = turn acts q - 1

  abbrev R : List ℕ → List Reply
  R d = replies acts report q d

  abbrev passes : List ℕ → Reply → Bool
  passes d r = list_any (λ (x : Reply). x.line == r.line) (R d)

  abbrev root : Stage Said
  root = here.stands.stage q.client

  asked_here : In q (queries acts)
  asked_here = subst (λ qs. In q qs) (sym (filter_map-append (λ (x : Numbered). asked_in x.0 x.1) before ((mark, c.Mark) ∷ phase))) (in_behind (queries before) (queries phase) q in_phase)

  -- ---- its turn

  turn_place : turn acts q ≡ suc (its_place acts later q asked_here).0
  turn_place = its_turn acts later q asked_here

  turn_next : turn acts q ≡ suc t
  turn_next = let e : turn acts q ≡ suc (its_place acts later q asked_here).0 = turn_place in omega arith

  at_turn : query_at acts q.client n t ≡ Some q
  at_turn = ap (slice_get (filter (λ p. is_under q.client n p) (queries acts)))
      (let e : turn acts q ≡ suc (its_place acts later q asked_here).0 = turn_place in let f : t ≡ (its_place acts later q asked_here).0 = omega arith in f) ∙ (its_place acts later q asked_here).1

  -- ---- its client

  client_there : (s : ClientState) × (client_of m.world.clients q.client ≡ Some s)
  client_there = by (client_of m.world.clients q.client) refl (here.stands.still.homes q.client ∙ ap (option_map (λ (s : ClientState). s.router)) b.found)
    where
      by : (o : Option ClientState) → client_of m.world.clients q.client ≡ o → option_map (λ s. s.router) o ≡ Some b.client.router → (s : ClientState) × (client_of m.world.clients q.client ≡ Some s)
      by None e k = absurd (none-some b.client.router k)
      by (Some s) e k = (s, e)

  -- no client replies on a line that is no reply's
  no_reply_on : (k : ℕ) → is_other_line acts k ≡ true → (z : Saying) → In z (sayings acts) → (z.line == k && is_some z.reply) ≡ false
  no_reply_on k e z i = any_none (λ (s : Saying). s.line == k && is_some s.reply) (sayings acts) z
      (not-true (list_any (λ (s : Saying). s.line == k && is_some s.reply) (sayings acts))
      (and_parts (list_any (λ (y : Numbered). y.0 == k) acts) (not (list_any (λ (s : Saying). s.line == k && is_some s.reply) (sayings acts))) e).1) i

  -- a reply that came in a turn, said to the query of that turn: if it is one of the query's, the turn is the query's
  of_turn : (d : List ℕ) (j k : ℕ) (r : Reply) → IsAnswer acts report q.client j k r → r.number ≡ j → passes d r ≡ true → (j ≡ n) × (k ≡ t)
  of_turn d j k r answer number p =
      let y = any_in (λ (x : Reply). x.line == r.line) (R d) p in
      let mine = reply_is acts report q d y.0 y.1 in
      let line_is : answer.said.saying.line ≡ r.line = by mine.saying mine.replied (sym mine.line ∙ eqb-true y.0.line r.line y.2) mine.there answer.said.line_is in
      let same : mine.saying ≡ answer.said.saying = one_saying 0 acts later mine.saying answer.said.saying mine.there (get_in (sayings acts) answer.said.place answer.said.saying answer.said.stands)
      (sym mine.line ∙ eqb-true y.0.line r.line y.2 ∙ sym line_is) in
      let lines : Some q.line ≡ Some answer.query.line = sym mine.to_query ∙ ap (query_of acts report) same ∙ answer.said.query in
      let line : answer.query.line ≡ q.line = cc in
      let kept = in_filter (λ p. is_under q.client j p) (queries acts) answer.query (get_in (filter (λ p. is_under q.client j p) (queries acts)) k answer.query answer.asked) in
      let one : answer.query ≡ q = one_query 0 acts later answer.query q kept.0 asked_here line in
      let its_number : q.number ≡ j = eqb-true q.number j (and_parts (is_named q.client q.client) (q.number == j) (ap (is_under q.client j) (sym one) ∙ kept.1)).1 in
      let place : turn acts q ≡ suc k = turn_is 0 acts later q k (subst (λ i. slice_get (filter (λ p. is_under q.client i p) (queries acts)) k ≡ Some q) (sym its_number) (answer.asked ∙ ap (λ z. Some z) one)) in
      (sym its_number, (let f : k ≡ t = omega arith in f))
    where
      -- a reply's line is no final's
      by : (mine : Saying) → is_some mine.reply ≡ true → mine.line ≡ r.line → In mine (sayings acts) → (answer.said.saying.line ≡ r.line) ⊎ ((is_latest_of acts q.client answer.query.line ≡ true) × (is_other_line acts r.line ≡ true)) →
          answer.said.saying.line ≡ r.line
      by mine some line there (inl e) = e
      by mine some line there (inr e) = absurd (false≢true (sym (no_reply_on r.line e.1 mine there) ∙ and_from (mine.line == r.line) (is_some mine.reply) (eq-eqb mine.line r.line line) some))

  only : (d : List ℕ) → Only (passes d) n t 0 told
  only d = only_by (passes d) n t (λ j k r. IsAnswer acts report q.client j k r) (of_turn d) told (λ j. (0, (here.holds.stands.books q.client client_there.0 j client_there.1).told))

  -- ---- what it was told in its turn

  abbrev Q : List Reply
  Q = filter (λ r. r.number == n) (replies_in (told_in_turn n t told))

  asked_yet : is_not_yet root ≡ false
  asked_yet = here.stands.asked ∙ ap not (in_any (λ (p : Asked). p.line == q.line) (queries acts) q asked_here (eq-eqb q.line q.line refl))

  told_is : answers_told n (told_in_turn n t told) ≡ answers_at n root
  told_is = here.stands.told asked_yet

  replies_are : map to_said Q ≡ replies_at root
  replies_are = sym (told_replies n (told_in_turn n t told)) ∙ ap replies_of told_is ∙ stage_replies n root

  -- the final was sent exactly where the stage is done
  final_is : has_final acts report q ≡ is_done root
  final_is = ap (λ k. nat_le k (finals_in n told)) turn_next ∙ sym (final_told n t told) ∙ sym (told_final n (told_in_turn n t told)) ∙ ap has_end told_is ∙ by root asked_yet here.stands.root
    where
      by : (u : Stage Said) → is_not_yet u ≡ false → is_asked_or_not u ≡ true → has_end (answers_at n u) ≡ is_done u
      by NotYet e k = absurd (true≢false e)
      by OnTheWay e k = absurd (false≢true k)
      by (AtNode rs done) e k = stage_end n rs done
      by Over e k = absurd (false≢true k)

  -- ---- whose reply it is

  own_is : (d : List ℕ) (s : Said) → IsSaidTo acts report q.client q.line s → list_any (λ (x : Reply). x.line == s.line) (R d) ≡ is_said_by acts d s
  own_is d s said = by_line said.line_is
    where
      there : In said.saying (sayings acts)
      there = get_in (sayings acts) said.place said.saying said.stands

      by : (e : Bool) → said.saying.line ≡ s.line → is_named d said.saying.client ≡ e → list_any (λ (x : Reply). x.line == s.line) (R d) ≡ is_said_by acts d s
      by true its e =
          let r : Reply = record { line = said.saying.line; number = q.number; content = s.content } in
          let is : reply_of acts report q d said.saying said.saying.reply ≡ Some r =
          ap (reply_of acts report q d said.saying) said.reply_is
          ∙ (λ i. cond (e i && option_map_or (λ l. l == q.line) (said.query i) false) (Some r) None) ∙ ap (λ z. cond z (Some r) None) (eq-eqb q.line q.line refl) in
          in_any (λ (x : Reply). x.line == s.line) (R d) r (into_map (λ (z : Saying). reply_of acts report q d z z.reply) (sayings acts) said.saying r there is) (eq-eqb said.saying.line s.line its)
          ∙ sym (in_any (λ (z : Saying). z.line == s.line && (is_some z.reply && is_named d z.client)) (sayings acts) said.saying there
          (and_from (said.saying.line == s.line) (is_some said.saying.reply && is_named d said.saying.client) (eq-eqb said.saying.line s.line its)
          (and_from (is_some said.saying.reply) (is_named d said.saying.client) (ap is_some said.reply_is) e)))
      by false its e =
          none_any (λ (x : Reply). x.line == s.line) (R d) (λ x i. no_reply x i)
          ∙ sym (none_any (λ (z : Saying). z.line == s.line && (is_some z.reply && is_named d z.client)) (sayings acts) (λ z i. no_saying z i))
        where
          other : (z : Saying) → In z (sayings acts) → z.line ≡ s.line → is_named d z.client ≡ false
          other z i l = ap (λ (v : Saying). is_named d v.client) (one_saying 0 acts later z said.saying i there (l ∙ sym its)) ∙ e

          no_reply : (x : Reply) → In x (R d) → (x.line == s.line) ≡ false
          no_reply x i = at (x.line == s.line) refl
            where
              at : (k : Bool) → (x.line == s.line) ≡ k → k ≡ false
              at false f = refl
              at true f =
                  let y = reply_is acts report q d x i in
                  absurd (false≢true (sym (other y.saying y.there (sym y.line ∙ eqb-true x.line s.line f)) ∙ y.client))

          no_saying : (z : Saying) → In z (sayings acts) → (z.line == s.line && (is_some z.reply && is_named d z.client)) ≡ false
          no_saying z i = at (z.line == s.line) refl
            where
              at : (k : Bool) → (z.line == s.line) ≡ k → (k && (is_some z.reply && is_named d z.client)) ≡ false
              at false f = refl
              at true f = ap (λ v. is_some z.reply && v) (other z i (eqb-true z.line s.line f)) ∙ and_right (is_some z.reply) false refl

      -- on a line that is no reply's nobody has replied
      by_line : (said.saying.line ≡ s.line) ⊎ ((is_latest_of acts q.client q.line ≡ true) × (is_other_line acts s.line ≡ true)) → list_any (λ (x : Reply). x.line == s.line) (R d) ≡ is_said_by acts d s
      by_line (inl its) = by (is_named d said.saying.client) its refl
      by_line (inr other) =
          none_any (λ (x : Reply). x.line == s.line) (R d) (λ x i. no_reply x i)
          ∙ sym (none_any (λ (z : Saying). z.line == s.line && (is_some z.reply && is_named d z.client)) (sayings acts) (λ z i. no_saying z i (z.line == s.line) refl))
        where
          no_reply : (x : Reply) → In x (R d) → (x.line == s.line) ≡ false
          no_reply x i = false_from_ne_true (x.line == s.line) (λ f.
              let y = reply_is acts report q d x i in
              false≢true (sym (no_reply_on s.line other.1 y.saying y.there) ∙ and_from (y.saying.line == s.line) (is_some y.saying.reply) (eq-eqb y.saying.line s.line (sym y.line ∙ eqb-true x.line s.line f)) y.replied))

          no_saying : (z : Saying) → In z (sayings acts) → (k : Bool) → (z.line == s.line) ≡ k → (k && (is_some z.reply && is_named d z.client)) ≡ false
          no_saying z i false f = refl
          no_saying z i true f = ap (λ v. v && is_named d z.client) (ap (λ v. v && is_some z.reply) (sym f) ∙ no_reply_on s.line other.1 z i)

  -- what came in its turn was said to it
  said_of : (r : Reply) → In r Q → IsSaidTo acts report q.client q.line (to_said r)
  said_of r i =
      let answer : IsAnswer acts report q.client n t r = each_in (λ z. IsAnswer acts report q.client n t z) Q r
      (turned_in_turn (λ k z. IsAnswer acts report q.client n k z) n t told (here.holds.stands.books q.client client_there.0 n client_there.1).told) i in
      let both : Some answer.query ≡ Some q = sym answer.asked ∙ at_turn in
      let one : answer.query ≡ q = cc in
      subst (λ (z : Asked). IsSaidTo acts report q.client z.line (to_said r)) one answer.said

  -- what was sent of a replier's is what the stage has of it
  each_is : (d : List ℕ) (r : Reply) → In r Q → (r.number ≡ n) × (passes d r ≡ is_said_by acts d (to_said r))
  each_is d r i =
      let number = in_filter (λ (z : Reply). z.number == n) (replies_in (told_in_turn n t told)) r i in
      (eqb-true r.number n number.1, own_is d (to_said r) (said_of r i))

  abbrev own : List ℕ → List Said
  own d = filter (is_said_by acts d) (replies_at root)

  sent_is : (d : List ℕ) → sent_of_query acts report q d told ≡ map (to_reply n) (own d)
  sent_is d = in_turn (passes d) n t told (only d) ∙ passing_replies n (passes d) (is_said_by acts d) Q (each_is d) ∙ ap (λ z. map (to_reply n) (filter (is_said_by acts d) z)) replies_are

  due_is : (d : List ℕ) → R d ≡ map (to_reply n) (said_in (R d))
  due_is d = replies_again n (R d) (λ r i. (reply_is acts report q d r i).number)

  -- who is not asked says nothing, and nothing of it was sent
  nothing_due : (d : List ℕ) → asks before q d ≡ false → R d ≡ []
  nothing_due d unasked = unasked_say_nothing before mark phase m after_mark is here.holds.go.0.orderly delivers q in_phase d unasked

  nothing_sent : (d : List ℕ) → asks before q d ≡ false → (xs : List Told) → sent_of_query acts report q d xs ≡ []
  nothing_sent d unasked xs = ap (λ rs. filter (λ (r : Reply). list_any (λ (x : Reply). x.line == r.line) rs) (replies_in xs)) (nothing_due d unasked) ∙ no_filter (replies_in xs)

  at_rest : is_quiet m.world ≡ true → IsQuiet (tree_at start.world q) here.stands.stage
  at_rest quiet = quiet_at_rest before mark start q b acts acts m here quiet

  all_ended : is_finished before acts report q ≡ true → IsFinished (tree_at start.world q) here.stands.stage
  all_ended finished x y kid ends = done_ended (here.stands.stage y) (sym (here.stands.ended y ends) ∙ by (any_in (λ z. is_named y z) (clients before) (attached_came y before attached)))
    where
      asked : asks before q y ≡ true
      asked = b.tree.asked x y kid ends

      attached : is_attached before y ≡ true
      attached = (and_parts (is_attached before y) (takes before y (Query q.target q.content)) (and_parts (not (is_named q.client y)) (is_attached before y && takes before y (Query q.target q.content)) asked).1).0

      by : (z : List ℕ) × In z (clients before) × (is_named y z ≡ true) → has_ended acts report q y ≡ true
      by (z, there, same) =
          let one : y ≡ z = same_is y z same in
          let passed : (not (asks before q y) || has_ended acts report q y) ≡ true =
          ap (λ v. not (asks before q v) || has_ended acts report q v) one ∙ passes_each (λ v. not (asks before q v) || has_ended acts report q v) (clients before) z finished there in
          sym (ap (λ e. not e || has_ended acts report q y) asked) ∙ passed

  -- who is asked came before the mark
  came_as : (d : List ℕ) → asks before q d ≡ true → (z : List ℕ) × In z (clients before) × (d ≡ z)
  came_as d asked =
      let z = any_in (λ z. is_named d z) (clients before) (attached_came d before (and_parts (is_attached before d) (takes before d (Query q.target q.content))
      (and_parts (not (is_named q.client d)) (is_attached before d && takes before d (Query q.target q.content)) asked).1).0) in
      (z.0, z.1, same_is d z.0 z.2)

  final : is_quiet m.world ≡ true → is_finished before acts report q ≡ true → is_done root ≡ true
  final quiet finished = by root refl asked_yet here.stands.root
    where
      by : (u : Stage Said) → root ≡ u → is_not_yet u ≡ false → is_asked_or_not u ≡ true → is_done u ≡ true
      by NotYet e k j = absurd (true≢false k)
      by OnTheWay e k j = absurd (false≢true j)
      by (AtNode rs done) e k j = final_comes (tree_at start.world q) b.tree.is_tree here.stands.stage here.stands.sound rs done e (at_rest quiet) (all_ended finished)
      by Over e k j = absurd (false≢true j)

  -- ---- a query that doesn't ask for the latest

  module _ (plain : asks_latest q ≡ false) where
    answered_of : (d : List ℕ) (asked : asks before q d ≡ true) → courses.IsAnswered (tree_at start.world q) (courses.way_of (tree_at start.world q) (b.tree.way d asked).0 d (is_said_by acts d)) here.stands.stage (said_in (R d))
    answered_of d asked = answered_by before start.world q b.tree acts acts m here.hop here.stands d asked plain

    prefix : (d : List ℕ) (e : Bool) → asks before q d ≡ e → IsPrefixOf (sent_of_query acts report q d told) (R d)
    prefix d false unasked = ([], nothing_due d unasked ∙ sym (append-nil (sent_of_query acts report q d told) ∙ nothing_sent d unasked told))
    prefix d true asked =
        let p = (answered_of d asked).prefix in
        (map (to_reply n) p.0, due_is d ∙ ap (map (to_reply n)) (sym p.1) ∙ map-append (to_reply n) (own d) p.0 ∙ ap (λ z. z ++ map (to_reply n) p.0) (sym (sent_is d)))

    whole_by : (d : List ℕ) (e : Bool) → asks before q d ≡ e → (asks before q d ≡ true → own d ≡ said_in (R d)) → sent_of_query acts report q d told ≡ R d
    whole_by d false unasked k = nothing_sent d unasked told ∙ sym (nothing_due d unasked)
    whole_by d true asked k = sent_is d ∙ ap (map (to_reply n)) (k asked) ∙ sym (due_is d)

    finished : is_done root ≡ true → is_finished before acts report q ≡ true
    finished done = all_true (λ d. not (asks before q d) || has_ended acts report q d) (λ d. by d (asks before q d) refl) (clients before)
      where
        by : (d : List ℕ) (e : Bool) → asks before q d ≡ e → (not e || has_ended acts report q d) ≡ true
        by d false unasked = refl
        by d true asked = here.stands.ended d (b.tree.passes d asked) ∙ (answered_of d asked).ended done

    pub answered : IsAnswered before acts m q
    answered = record {
      prefix = λ d. prefix d (asks before q d) refl;
      finished = λ f. finished (sym final_is ∙ f);
      complete = λ f d. whole_by d (asks before q d) refl (λ asked. (answered_of d asked).whole (sym final_is ∙ f));
      last = λ d. ap (λ k. sent_of_query acts report q d (behind_finals n k told)) turn_next ∙ behind_turn (passes d) n t told (only d);
      whole = λ quiet d. whole_by d (asks before q d) refl (λ asked. (answered_of d asked).quiet (at_rest quiet));
      final = λ quiet f. final_is ∙ final quiet f;
    }

  -- ---- a query for the latest

  module _ (latest : asks_latest q ≡ true) where
    abbrev tree : Tree (List ℕ)
    tree = tree_at start.world q

    abbrev home : List ℕ
    home = home_of start.world q.client

    abbrev got : List Said
    got = here.stands.got

    abbrev all : List Parts
    all = all_replies acts report q

    abbrev contents : List Said → List Parts
    contents xs = map (λ s. s.content) xs

    gathered_from : (d : List ℕ) (asked : asks before q d ≡ true) → courses.IsGathered latest_release tree home (courses.way_of tree (b.tree.way d asked).0 d (is_said_by acts d)) here.stands.stage got (said_in (R d))
    gathered_from d asked = gathered_by before start.world q b.tree acts acts m here.hop here.stands d asked latest (home_there before start.world (ready before mark start b.marked) q b.client b.found)

    -- ---- who said what

    -- what is said to it is among all replies
    in_all : (s : Said) → IsSaidTo acts report q.client q.line s → In s.content all
    in_all s said = into_map (λ (z : Saying). said_if (is_said_to acts report q.line z) z.reply) (sayings acts) said.saying s.content (get_in (sayings acts) said.place said.saying said.stands)
        (ap (λ o. said_if (option_map_or (λ l. l == q.line) o false) said.saying.reply) said.query ∙ ap (λ e. said_if e said.saying.reply) (eq-eqb q.line q.line refl) ∙ said.reply_is)

    -- each of them a client said that is asked, as one of its replies
    record IsOf (c : Parts) : Type 0 where
      client : List ℕ
      asked : asks before q client ≡ true
      line : ℕ
      there : In (record { line = line; content = c }) (said_in (R client))

    of_client : (c : Parts) → In c all → IsOf c
    of_client c i = let s = from_map (λ (z : Saying). said_if (is_said_to acts report q.line z) z.reply) (sayings acts) c i in by s.0 s.1 (is_said_to acts report q.line s.0) refl s.2
      where
        by : (s : Saying) → In s (sayings acts) → (e : Bool) → is_said_to acts report q.line s ≡ e → said_if e s.reply ≡ Some c → IsOf c
        by s there false e k = absurd (none-some c k)
        by s there true e k = record { client = s.client; asked = asked (asks before q s.client) refl; line = s.line; there = map_in (λ (z : Reply). record { line = z.line; content = z.content }) (R s.client) r among }
          where
            r : Reply
            r = record { line = s.line; number = q.number; content = c }

            among : In r (R s.client)
            among = into_map (λ (z : Saying). reply_of acts report q s.client z z.reply) (sayings acts) s r there
                (ap (reply_of acts report q s.client s) k ∙ (λ i. cond (names.refl s.client i && e i) (Some r) None))

            asked : (v : Bool) → asks before q s.client ≡ v → v ≡ true
            asked true f = refl
            asked false f = absurd (subst (λ rs. In r rs) (nothing_due s.client f) among)

    -- ---- the replies that are released

    abbrev released : List Said
    released = replies_at root ++ replies_at (here.stands.stage home)

    home_child : is_child tree q.client home ≡ true
    home_child = root_child start.world q

    -- those on the link of the client were said to it
    waiting_said : (s : Said) → In s (replies_at (here.stands.stage home)) → IsSaidTo acts report q.client q.line s
    waiting_said s i = by (here.stands.stage home) (here.stands.marks.shown q.client home home_child) i
      where
        whole : is_whole m.world q.client home ≡ true
        whole = whole_now before mark start q b acts acts m here q.client home (kids before mark start q b q.client home home_child)

        k : ℕ
        k = here.stands.num home

        each : (rs : List Said) (done : Bool) (line : ℕ) → AllByRecursion (λ (a : Answer Said). SaysTo acts report q.client line a.body) (answers_with k rs done) → In s rs → IsSaidTo acts report q.client line s
        each [] done line h j = absurd j
        each (r ∷ rs) done line h (inl e) = subst (λ z. IsSaidTo acts report q.client line z) (sym e) h.0
        each (r ∷ rs) done line h (inr j) = each rs done line h.1 j

        by : (u : Stage Said) → Shown (request_to start.world q home) (asked_at tree here.stands.num q.client) u (here.hop q.client home k) → In s (replies_at u) → IsSaidTo acts report q.client q.line s
        by NotYet shown j = absurd j
        by OnTheWay shown j = absurd j
        by Over shown j = absurd j
        by (AtNode rs done) shown j =
            let shows = here.plain.shows q.client home whole k in
            let line : Some q.line ≡ Some (here.holds.lines q.client home k) =
            sym (ap line_of shown) ∙ here.plain.line q.client home k (Some (asked_at tree here.stands.num q.client)) whole (shows.back ∙ ap asked_by shown) in
            let one : q.line ≡ here.holds.lines q.client home k = cc in
            subst (λ z. IsSaidTo acts report q.client z s) (sym one)
            (each rs done (here.holds.lines q.client home k)
            (subst (λ zs. AllByRecursion (λ (a : Answer Said). SaysTo acts report q.client (here.holds.lines q.client home k) a.body) zs) (shows.answers ∙ ap (answers_of k) shown)
            (here.holds.stands.held.is q.client home k whole).said) j)

    sent_said : (s : Said) → In s (replies_at root) → IsSaidTo acts report q.client q.line s
    sent_said s i =
        let r = in_map to_said Q s (subst (λ zs. In s zs) (sym replies_are) i) in
        subst (λ z. IsSaidTo acts report q.client q.line z) r.2 (said_of r.0 r.1)

    released_all : (c : Parts) → In c (contents released) → In c all
    released_all c i =
        let s = in_map (λ (z : Said). z.content) released c i in
        subst (λ z. In z all) s.2 (in_all s.0 (by s.0 (in_either (replies_at root) (replies_at (here.stands.stage home)) s.0 s.1)))
      where
        by : (s : Said) → In s (replies_at root) ⊎ In s (replies_at (here.stands.stage home)) → IsSaidTo acts report q.client q.line s
        by s (inl j) = sent_said s j
        by s (inr j) = waiting_said s j

    -- ---- what was sent, and the best

    sent_are : sent_in_turn acts report q ≡ map key_body (contents (replies_at root))
    sent_are = shown Q ∙ ap (λ z. map key_body (contents z)) replies_are
      where
        shown : (rs : List Reply) → map (λ (r : Reply). key_body r.content) rs ≡ map key_body (contents (map to_said rs))
        shown [] = refl
        shown (r ∷ rs) = ap (λ z. key_body r.content ∷ z) (shown rs)

    -- where nobody is asked nothing is sent
    module _ (none : list_any (λ d. asks before q d) (clients before) ≡ false) where
      nobody : (d : List ℕ) → asks before q d ≡ true → ⊥
      nobody d asked = false≢true (sym (any_none (λ z. asks before q z) (clients before) (came_as d asked).0 none (came_as d asked).1) ∙ ap (asks before q) (sym (came_as d asked).2) ∙ asked)

      all_none : all ≡ []
      all_none = nothing_in all (λ c i. let o = of_client c i in nobody o.client o.asked)

      sent_none : sent_in_turn acts report q ≡ []
      sent_none = sent_are ∙ ap (λ z. map key_body (contents z)) (nothing_in (replies_at root) (λ s i. subst (λ z. In s.content z) all_none (in_all s (sent_said s i))))

      nothing_best : best acts report q ≡ []
      nothing_best = ap (λ z. map key_body (gathered z)) all_none

      all_finished : is_finished before acts report q ≡ true
      all_finished = all_true (λ d. not (asks before q d) || has_ended acts report q d) (λ d. ap (λ e. not e || has_ended acts report q d) (false_from_ne_true (asks before q d) (λ e. absurd (nobody d e)))) (clients before)

      answered_none : IsAnsweredLatest before acts m q
      answered_none = record {
        prefix = ([], nothing_best ∙ ap (λ z. z ++ []) (sym sent_none));
        early = λ e. sent_none;
        finished = λ f. all_finished;
        complete = λ f. sent_none ∙ sym nothing_best;
        whole = λ quiet f. sent_none ∙ sym nothing_best;
        final = λ quiet f. final_is ∙ final quiet f;
      }

    -- where one is asked
    module _ (d0 : List ℕ) (asked0 : asks before q d0 ≡ true) where
      first : courses.IsGathered latest_release tree home (courses.way_of tree (b.tree.way d0 asked0).0 d0 (is_said_by acts d0)) here.stands.stage got (said_in (R d0))
      first = gathered_from d0 asked0

      home_done : Bool
      home_done = is_done (here.stands.stage home)

      all_ended_then : is_done (here.stands.stage home) ≡ true → is_finished before acts report q ≡ true
      all_ended_then done = all_true (λ d. not (asks before q d) || has_ended acts report q d) (λ d. by d (asks before q d) refl) (clients before)
        where
          by : (d : List ℕ) (e : Bool) → asks before q d ≡ e → (not e || has_ended acts report q d) ≡ true
          by d false unasked = refl
          by d true asked = here.stands.ended d (b.tree.passes d asked) ∙ (gathered_from d asked).ended done

      -- the router has handled all replies
      all_got : is_done (here.stands.stage home) ≡ true → (c : Parts) → In c all → In c (contents got)
      all_got done c i =
          let o = of_client c i in
          let s : Said = record { line = o.line; content = c } in
          map_in (λ (z : Said). z.content) got s (in_filter (is_said_by acts o.client) got s (subst (λ z. In s z) (sym ((gathered_from o.client o.asked).whole done)) o.there)).0

      -- so what it holds is the best
      released_best : is_done (here.stands.stage home) ≡ true → map key_body (contents released) ≡ best acts report q
      released_best done =
          ap (map key_body) (first.released done)
          ∙ best_law.one all all (gathered (contents got)) (gathered all) (record {
            ascending = (best_law.best (contents got)).ascending;
            among = λ c i. released_all c (subst (λ z. In c z) (sym (first.released done)) i);
            each = λ c i. (best_law.best (contents got)).each c (all_got done c i);
          }) (best_law.best all) (record { forth = λ c i. (c, i, refl, refl); back = λ c i. (c, i, refl, refl) })

      none_early : is_done (here.stands.stage home) ≡ false → sent_in_turn acts report q ≡ []
      none_early e = sent_are ∙ ap (λ z. map key_body (contents z)) (front (replies_at root) (replies_at (here.stands.stage home)) (first.early e))
        where
          front : (xs ys : List Said) → xs ++ ys ≡ [] → xs ≡ []
          front [] ys k = refl
          front (x ∷ xs) ys k = absurd (cc)

      complete_then : is_done root ≡ true → sent_in_turn acts report q ≡ best acts report q
      complete_then done =
          let over = first.all done in
          sent_are ∙ ap (λ z. map key_body (contents z)) (sym (append-nil (replies_at root)) ∙ ap (λ z. replies_at root ++ z) (sym over.1)) ∙ released_best over.0

      prefix_by : (e : Bool) → is_done (here.stands.stage home) ≡ e → IsPrefixOf (sent_in_turn acts report q) (best acts report q)
      prefix_by false e = (best acts report q, ap (λ z. z ++ best acts report q) (sym (none_early e)))
      prefix_by true e = (
        map key_body (contents (replies_at (here.stands.stage home))),
        sym (released_best e) ∙ ap (map key_body) (map-append (λ (s : Said). s.content) (replies_at root) (replies_at (here.stands.stage home)))
            ∙ map-append key_body (contents (replies_at root)) (contents (replies_at (here.stands.stage home)))
            ∙ ap (λ z. z ++ map key_body (contents (replies_at (here.stands.stage home)))) (sym sent_are),
      )

      early_by : (e : Bool) → is_done (here.stands.stage home) ≡ e → is_finished before acts report q ≡ false → sent_in_turn acts report q ≡ []
      early_by false e f = none_early e
      early_by true e f = absurd (false≢true (sym f ∙ all_ended_then e))

      answered_some : IsAnsweredLatest before acts m q
      answered_some = record {
        prefix = prefix_by (is_done (here.stands.stage home)) refl;
        early = λ e. early_by (is_done (here.stands.stage home)) refl e;
        finished = λ f. all_ended_then (first.all (sym final_is ∙ f)).0;
        complete = λ f. complete_then (sym final_is ∙ f);
        whole = λ quiet f. complete_then (final quiet f);
        final = λ quiet f. final_is ∙ final quiet f;
      }

    pub answered_latest : IsAnsweredLatest before acts m q
    answered_latest = by (list_any (λ d. asks before q d) (clients before)) refl
      where
        by : (e : Bool) → list_any (λ d. asks before q d) (clients before) ≡ e → IsAnsweredLatest before acts m q
        by false e = answered_none e
        by true e = let d = any_in (λ z. asks before q z) (clients before) e in answered_some d.0 d.2
