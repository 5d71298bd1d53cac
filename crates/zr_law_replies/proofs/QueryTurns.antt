-- A query's turn: how many queries of its client were asked under its number, it among them. And a turn that has not begun: of its number the client was
-- told nothing in it yet (`turn_new`, `turn_is_new`).
use Rattle.std.proofs.Common.{◌≡◌, ◌≤◌, ◌<◌, ℕ, suc, ◌+◌, ◌==◌, nat_le, true, false, cond, List, [], ◌∷◌, ◌++◌, length, filter, Some, refl, sym, ap, ◌∙◌, arith}
use Rattle.std.specs.Prelude.{◌&&◌}
use Rattle.std.specs.List.{AllByRecursion, count_by}
use Rattle.std.proofs.lemmas.Bool.{le-leb, leb-true, false_from_ne_true}
use Rattle.std.proofs.lemmas.List.Sums.{sum_by-append, length-filter}
use Rattle.std.proofs.lemmas.Option.{slice_get_within}
use Rattle.zr_lists.proofs.Each.{All-each}
use Rattle.zr_world_spec.specs.World.{ClientState, client_of}
use Rattle.zr_world_spec.specs.Acts.{has_number}
use Rattle.zr_world_spec.specs.Moments.{Numbered, Moment}
use Rattle.zr_guarantee.specs.Item.{Reply}
use Rattle.zr_guarantee.specs.Queries.{Asked, queries, is_under, times_asked, turn}
use Rattle.zr_guarantee.specs.Sent.{Told, told_to, replies_in, finals_in}
use Rattle.zr_law_replies.specs.Answers.{HopState, told_in_turn, query_at, IsAnswer, AnswersHold}
use Rattle.zr_law_replies.specs.Stands.{answers_told}
use Rattle.zr_law_replies.proofs.Lists.{count_all, count_none, count_fewer}
use Rattle.zr_law_replies.proofs.Grown.{queries_more}
use Rattle.zr_law_replies.proofs.ToldAnswers.{none_told}

-- ---- turns

module _ (acts : List Numbered) (x : Numbered) where
  pub turn_more : (q : Asked) → turn (acts ++ x ∷ []) q ≡ turn acts q + turn (x ∷ []) q
  turn_more q =
      ap (count_by (λ p. is_under q.client q.number p && nat_le p.line q.line)) (queries_more acts x)
      ∙ sum_by-append (λ (p : Asked). cond (is_under q.client q.number p && nat_le p.line q.line) 1 0) (queries acts) (queries (x ∷ []))

  -- a query that is asked behind all others has the turn behind them
  pub turn_new : (q : Asked) → AllByRecursion (λ (p : Asked). p.line ≤ q.line) (queries acts) → queries (x ∷ []) ≡ q ∷ [] → is_under q.client q.number q ≡ true →
      turn (acts ++ x ∷ []) q ≡ suc (times_asked acts q.client q.number)
  turn_new q before asked under =
      turn_more q ∙ (λ i. all i + one i)
      ∙ (let e : times_asked acts q.client q.number + 1 ≡ suc (times_asked acts q.client q.number) = omega arith in e)
    where
      all : turn acts q ≡ times_asked acts q.client q.number
      all = count_all (λ p. is_under q.client q.number p) (λ p. nat_le p.line q.line) (queries acts) (All-each (λ (p : Asked). p.line ≤ q.line) (λ p. nat_le p.line q.line ≡ true) (queries acts) (λ p le. le-leb p.line q.line le) before)

      one : turn (x ∷ []) q ≡ 1
      one = ap (count_by (λ p. is_under q.client q.number p && nat_le p.line q.line)) asked
          ∙ (λ i. 0 + cond (under i && le-leb q.line q.line (let e : q.line ≤ q.line = omega arith in e) i) 1 0)

  -- and another one leaves a query's turn as it is, where it is asked behind it
  pub turn_stays : (q : Asked) → AllByRecursion (λ (p : Asked). q.line < p.line) (queries (x ∷ [])) → turn (acts ++ x ∷ []) q ≡ turn acts q
  turn_stays q later = turn_more q ∙ ap (λ k. turn acts q + k) (none (queries (x ∷ [])) later) ∙ (let e : turn acts q + 0 ≡ turn acts q = omega arith in e)
    where
      none : (ps : List Asked) → AllByRecursion (λ (p : Asked). q.line < p.line) ps → count_by (λ p. is_under q.client q.number p && nat_le p.line q.line) ps ≡ 0
      none ps h = count_none (λ p. is_under q.client q.number p) (λ p. nat_le p.line q.line) ps (All-each (λ (p : Asked). q.line < p.line) (λ p. nat_le p.line q.line ≡ false) ps (λ p lt. early p lt) h)
        where
          early : (p : Asked) → q.line < p.line → nat_le p.line q.line ≡ false
          early p lt = false_from_ne_true (nat_le p.line q.line) (λ t. let le : p.line ≤ q.line = leb-true p.line q.line t in absurd (omega arith))

-- a query's turn is one of those in which its client has asked under its number
pub turn_most : (acts : List Numbered) (q : Asked) → turn acts q ≤ times_asked acts q.client q.number
turn_most acts q = count_fewer (λ z. is_under q.client q.number z) (λ z. nat_le z.line q.line) (queries acts)

-- ---- nothing in a turn

-- where a client has no query open under a number, it was told no answer in the turn behind all that it has asked
pub turn_is_new : (acts : List Numbered) (m : Moment) (hop : List ℕ → List ℕ → ℕ → HopState) → AnswersHold acts m hop → (c : List ℕ) (s : ClientState) (n : ℕ) → client_of m.world.clients c ≡ Some s →
    has_number s.queries n ≡ false → answers_told n (told_in_turn n (times_asked acts c n) (told_to m.report c)) ≡ []
turn_is_new acts m hop h c s n found free =
    none_told n turns told finals (no_reply (filter (λ r. r.number == n) (replies_in (told_in_turn n turns told))) (h.told c s n turns found))
  where
    told : List Told
    told = told_to m.report c

    turns : ℕ
    turns = times_asked acts c n

    finals : finals_in n told ≡ turns
    finals = (let e : finals_in n told ≡ finals_in n told + 0 = omega arith in e) ∙ ap (λ b. finals_in n told + cond b 1 0) (sym free) ∙ h.finals c s n found

    under : List Asked
    under = filter (λ q. is_under c n q) (queries acts)

    no_query : (q : Asked) → query_at acts c n turns ≡ Some q → ⊥
    no_query q e =
        let within : turns < length under = slice_get_within under turns q e in
        let many : length under ≡ turns = length-filter (λ q. is_under c n q) (queries acts) in
        absurd (omega arith)

    no_reply : (rs : List Reply) → AllByRecursion (λ r. IsAnswer acts m.report c n turns r) rs → rs ≡ []
    no_reply [] all = refl
    no_reply (r ∷ rs) all = absurd (no_query all.0.query all.0.asked)
