-- At an accepted mark a query of its phase stands: nothing of it is anywhere, since its line is a later one (`here_first`).
use Rattle.std.proofs.Common.{◌≡◌, ◌≤◌, ◌<◌, ℕ, ◌==◌, ◌&&◌, Bool, true, false, cond, List, [], ◌∷◌, ◌++◌, Option, Some, None, refl, ap, ◌∙◌, arith}
use Rattle.std.specs.Prelude.{nat_lt, IfSome, is_none}
use Rattle.std.specs.List.{AllByRecursion}
use Rattle.std.specs.Option.{option_map_or}
use Rattle.std.proofs.lemmas.Bool.{and_right, eqb-true, ltb-true}
use Rattle.zr_lists.proofs.Finds.{In, any_in, none_any}
use Rattle.zr_lists.proofs.Elements.{passes_each, each_in}
use Rattle.zr_id.specs.Zid.{is_named}
use Rattle.zr_msg.specs.declared.content.Parts.{Parts}
use Rattle.zr_script_spec.specs.declared.command.Act.TheVariants as c
use Rattle.zr_world_spec.specs.Moments.{Numbered, Moment}
use Rattle.zr_guarantee.specs.Item.{Item}
use Rattle.zr_guarantee.specs.Queries.{Asked, queries, Saying, sayings, query_of, is_said_to, reply_of, replies, has_ended}
use Rattle.zr_guarantee.specs.Sent.{sent_to, requests_to}
use Rattle.zr_law_samples.proofs.Start.{Marked}
use Rattle.zr_law_numbers.specs.Waiting.{is_whole}
use Rattle.zr_law_replies.specs.Answers.{line_of, IsAsked}
use Rattle.zr_law_replies.specs.Stands.{is_of}
use Rattle.zr_law_replies.proofs.Grown.{queries_lines}
use Rattle.zr_law_replies.proofs.Every.{Holds, hop, answers_hold}
use Rattle.zr_law_replies.proofs.Lists.{get_in, none_mapped}
use Rattle.zr_law_replies.proofs.Asked.{request_sent}
use Rattle.zr_law_replies.proofs.StandHops.{line_plain, plain_hop, plain_hops}
use Rattle.zr_law_replies.proofs.StandSteps.{stands_first}
use Rattle.zr_law_replies.proofs.StandStep.{Here}

module _ (before : List Numbered) (mark : ℕ) (start : Moment) (marked : Marked before mark start) (holds : Holds (before ++ (mark, c.Mark) ∷ []) start)
    (below : AllByRecursion (λ (x : Numbered). x.0 ≤ mark) (before ++ (mark, c.Mark) ∷ [])) (phase : List Numbered) (q : Asked) (later : mark < q.line) where
  abbrev acts : List Numbered
  acts = before ++ (mark, c.Mark) ∷ []

  old_query : (p : Asked) → In p (queries acts) → p.line ≤ mark
  old_query p i = each_in (λ (z : Asked). z.line ≤ mark) (queries acts) p (queries_lines (λ k. k ≤ mark) acts below) i

  not_old : (p : Asked) → In p (queries acts) → (p.line == q.line) ≡ false
  not_old p i = by (p.line == q.line) refl
    where
      by : (b : Bool) → (p.line == q.line) ≡ b → b ≡ false
      by false e = refl
      by true e = let le : p.line ≤ mark = old_query p i in let same : p.line ≡ q.line = eqb-true p.line q.line e in absurd (omega arith)

  no_hop : (x y : List ℕ) (n : ℕ) → is_whole start.world x y ≡ true → is_of q.line (plain_hop start.world q acts start holds x y n) ≡ false
  no_hop x y n whole = by (line_of (plain_hop start.world q acts start holds x y n)) (line_plain start.world q y (hop acts start holds x y n)) ((answers_hold acts start holds).asked x y n whole)
    where
      asked : (o : Option ℕ) → IfSome o (IsAsked acts) → option_map_or (λ l. l == q.line) o false ≡ false
      asked None h = refl
      asked (Some l) h = at (l == q.line) refl
        where
          at : (b : Bool) → (l == q.line) ≡ b → b ≡ false
          at false e = refl
          at true e =
              let p = any_in (λ (z : Asked). z.line == l) (queries acts) h in
              let le : p.0.line ≤ mark = old_query p.0 p.1 in
              let one : p.0.line ≡ l = eqb-true p.0.line l p.2 in
              let two : l ≡ q.line = eqb-true l q.line e in
              absurd (omega arith)

      by : (o : Option ℕ) → o ≡ line_of (hop acts start holds x y n) → IfSome (line_of (hop acts start holds x y n)) (IsAsked acts) → option_map_or (λ l. l == q.line) o false ≡ false
      by o e h = ap (λ z. option_map_or (λ l. l == q.line) z false) e ∙ asked (line_of (hop acts start holds x y n)) h

  -- no request of it was sent
  not_to : (s : Saying) → is_said_to acts start.report q.line s ≡ false
  not_to s = by (query_of acts start.report s) refl
    where
      by : (o : Option ℕ) → query_of acts start.report s ≡ o → option_map_or (λ l. l == q.line) o false ≡ false
      by None e = refl
      by (Some l) e = at (l == q.line) refl
        where
          at : (b : Bool) → (l == q.line) ≡ b → b ≡ false
          at false f = refl
          at true f =
              let i = request_sent start.report s.client s.number l (get_in (requests_to start.report s.client s.number) _ l e) in
              let old : i.0.line < mark = ltb-true i.0.line mark (passes_each (λ (z : Item). nat_lt z.line mark) (sent_to start.report s.client) i.0 (marked.tags.sends_only s.client) i.1) in
              let one : i.0.line ≡ l = i.2 in
              let two : l ≡ q.line = eqb-true l q.line f in
              absurd (omega arith)

  no_reply : (d : List ℕ) → replies acts start.report q d ≡ []
  no_reply d = none_mapped (λ (s : Saying). reply_of acts start.report q d s s.reply) (sayings acts) (λ s i. by s s.reply)
    where
      by : (s : Saying) (o : Option Parts) → reply_of acts start.report q d s o ≡ None
      by s None = refl
      by s (Some content) = ap (λ b. cond (is_named d s.client && b) (Some (record { line = s.line; number = q.number; content = content })) None) (not_to s)
          ∙ ap (λ b. cond b (Some (record { line = s.line; number = q.number; content = content })) None) (and_right (is_named d s.client) false refl)

  no_end : (d : List ℕ) → has_ended acts start.report q d ≡ false
  no_end d = none_any (λ (s : Saying). is_named d s.client && (is_none s.reply && is_said_to acts start.report q.line s)) (sayings acts)
      (λ s i. ap (λ b. is_named d s.client && (is_none s.reply && b)) (not_to s) ∙ ap (λ b. is_named d s.client && b) (and_right (is_none s.reply) false refl) ∙ and_right (is_named d s.client) false refl)

  pub here_first : Here start.world phase q acts start
  here_first = record {
    holds = holds;
    hop = plain_hop start.world q acts start holds;
    plain = plain_hops start.world q acts start holds;
    stands = stands_first start.world phase q acts start (plain_hop start.world q acts start holds) (record { tables = λ x. refl; homes = λ x. refl; ups = λ e. refl; unbroken = λ e. refl }) no_hop
        (none_any (λ (p : Asked). p.line == q.line) (queries acts) not_old) (λ d ends. no_reply d) (λ d ends. no_end d);
  }
