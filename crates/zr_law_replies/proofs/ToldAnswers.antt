-- What a client was sent under a number, as answers of a link: their replies are the replies that it was sent, and their final is the final (`told_replies`, `told_final`).
use Rattle.std.proofs.Common.{◌≡◌, ◌≤◌, ℕ, suc, ◌==◌, inl, inr, Bool, true, false, cond, List, [], ◌∷◌, ◌++◌, filter, map, Option, Some, None, refl, ap, ◌∙◌, arith}
use Rattle.std.specs.Prelude.{◌||◌, nat_le}
use Rattle.std.specs.List.{cons_option, filter_map, flat_map, list_any}
use Rattle.std.proofs.lemmas.Bool.{true≢false, leb-true, false_from_ne_true}
use Rattle.zr_lists.proofs.Finds.{In}
use Rattle.zr_msg.specs.declared.msg.Msg.{Msg}
use Rattle.zr_msg.specs.declared.msg.Msg.TheVariants.{Sub, Unsub, Token, Untoken, Able, Unable, Interest, EndInterest, ToldSub, ToldAble, ToldUnsub, ToldToken, ToldUntoken, ToldUnable, ToldEnd, Push, Request, Response, Final, State, Step, Snap}
use Rattle.zr_guarantee.specs.Item.{Reply}
use Rattle.zr_guarantee.specs.Sent.{Told, reply_in, replies_in, is_final, finals_in}
use Rattle.zr_law_queries.specs.Link.{Answer, Body, Replied, Ended, reply, final, answers_number, answers_with}
use Rattle.zr_law_queries.specs.Query.{Stage, NotYet, OnTheWay, Here, Over, replies_at}
use Rattle.zr_law_numbers.specs.Waiting.{Said, answers_in}
use Rattle.zr_law_replies.specs.Answers.{told_in_turn}
use Rattle.zr_law_replies.specs.Stands.{answers_told, answers_at}
use Rattle.zr_law_replies.proofs.TurnReplies.{any_final, final_told}

abbrev pub to_said : Reply → Said
to_said r = record { line = r.line; content = r.content }

abbrev pub to_reply : ℕ → Said → Reply
to_reply number s = record { line = s.line; number = number; content = s.content }

-- the reply that an answer is, if it is one, and whether it is the final
abbrev pub replied : Body Said → Option Said
replied (Replied s) = Some s
replied Ended = None

abbrev pub is_ended : Body Said → Bool
is_ended (Replied s) = false
is_ended Ended = true

abbrev pub replies_of : List (Answer Said) → List Said
replies_of answers = filter_map (λ a. replied a.body) answers

abbrev pub has_end : List (Answer Said) → Bool
has_end answers = list_any (λ a. is_ended a.body) answers

-- ---- what was told

module _ (n : ℕ) where
  abbrev waiting : List Told → List (Answer Said)
  waiting told = flat_map (λ x. answers_in x.tag x.msg) told

  pub told_replies : (told : List Told) → replies_of (answers_told n told) ≡ map to_said (filter (λ r. r.number == n) (replies_in told))
  told_replies [] = refl
  told_replies (x ∷ told) = by x.msg (told_replies told)
    where
      by : (msg : Msg) → replies_of (answers_told n told) ≡ map to_said (filter (λ r. r.number == n) (replies_in told)) →
          replies_of (filter (answers_number n) (answers_in x.tag msg ++ waiting told)) ≡ map to_said (filter (λ r. r.number == n) (cons_option (reply_in x.tag msg) (replies_in told)))
      by (Response id content) ih = at (id == n)
        where
          s : Said
          s = record { line = x.tag; content = content }

          at : (b : Bool) → replies_of (cond b (reply id s ∷ answers_told n told) (answers_told n told)) ≡
              map to_said (cond b (to_reply id s ∷ filter (λ r. r.number == n) (replies_in told)) (filter (λ r. r.number == n) (replies_in told)))
          at true = ap (λ z. s ∷ z) ih
          at false = ih
      by (Final id extras) ih = at (id == n)
        where
          at : (b : Bool) → replies_of (cond b (final id ∷ answers_told n told) (answers_told n told)) ≡ map to_said (filter (λ r. r.number == n) (replies_in told))
          at true = ih
          at false = ih
      by (Sub id key) ih = ih
      by (Unsub id) ih = ih
      by (Token id key) ih = ih
      by (Untoken id) ih = ih
      by (Able id key complete) ih = ih
      by (Unable id) ih = ih
      by (Interest id current future kinds key aggregate) ih = ih
      by (EndInterest id) ih = ih
      by (ToldSub id key interest) ih = ih
      by (ToldToken id key interest) ih = ih
      by (ToldAble id key complete interest) ih = ih
      by (ToldUnsub id) ih = ih
      by (ToldUntoken id) ih = ih
      by (ToldUnable id) ih = ih
      by (ToldEnd interest) ih = ih
      by (Push tree content) ih = ih
      by (Request tree id target content) ih = ih
      by (State links) ih = ih
      by (Step source number added decl) ih = ih
      by (Snap source number decls) ih = ih

  pub told_final : (told : List Told) → has_end (answers_told n told) ≡ any_final n told
  told_final [] = refl
  told_final (x ∷ told) = by x.msg (told_final told)
    where
      by : (msg : Msg) → has_end (answers_told n told) ≡ any_final n told → has_end (filter (answers_number n) (answers_in x.tag msg ++ waiting told)) ≡ (is_final n msg || any_final n told)
      by (Response id content) ih = at (id == n)
        where
          at : (b : Bool) → has_end (cond b (reply id (record { line = x.tag; content = content }) ∷ answers_told n told) (answers_told n told)) ≡ any_final n told
          at true = ih
          at false = ih
      by (Final id extras) ih = at (id == n)
        where
          at : (b : Bool) → has_end (cond b (final id ∷ answers_told n told) (answers_told n told)) ≡ (b || any_final n told)
          at true = refl
          at false = ih
      by (Sub id key) ih = ih
      by (Unsub id) ih = ih
      by (Token id key) ih = ih
      by (Untoken id) ih = ih
      by (Able id key complete) ih = ih
      by (Unable id) ih = ih
      by (Interest id current future kinds key aggregate) ih = ih
      by (EndInterest id) ih = ih
      by (ToldSub id key interest) ih = ih
      by (ToldToken id key interest) ih = ih
      by (ToldAble id key complete interest) ih = ih
      by (ToldUnsub id) ih = ih
      by (ToldUntoken id) ih = ih
      by (ToldUnable id) ih = ih
      by (ToldEnd interest) ih = ih
      by (Push tree content) ih = ih
      by (Request tree id target content) ih = ih
      by (State links) ih = ih
      by (Step source number added decl) ih = ih
      by (Snap source number decls) ih = ih

  -- where a turn has no replies, and no final yet, nothing was said in it
  pub none_told : (turns : ℕ) (told : List Told) → finals_in n told ≡ turns → filter (λ r. r.number == n) (replies_in (told_in_turn n turns told)) ≡ [] → answers_told n (told_in_turn n turns told) ≡ []
  none_told turns told finals none = by (answers_told n (told_in_turn n turns told)) (told_replies (told_in_turn n turns told) ∙ ap (map to_said) none) (told_final (told_in_turn n turns told) ∙ final_told n turns told ∙ no_more)
    where
      no_more : nat_le (suc turns) (finals_in n told) ≡ false
      no_more = false_from_ne_true (nat_le (suc turns) (finals_in n told)) (λ t. let le : suc turns ≤ finals_in n told = leb-true (suc turns) (finals_in n told) t in absurd (omega arith))

      by : (xs : List (Answer Said)) → replies_of xs ≡ [] → has_end xs ≡ false → xs ≡ []
      by [] r e = refl
      by (a ∷ xs) r e = one a.body r e
        where
          one : (b : Body Said) → cons_option (replied b) (replies_of xs) ≡ [] → (is_ended b || has_end xs) ≡ false → a ∷ xs ≡ []
          one (Replied s) r e = absurd (cc)
          one Ended r e = absurd (true≢false e)

  -- ---- what a stage says

  with_replies : (rs : List Said) (done : Bool) → replies_of (answers_with n rs done) ≡ rs
  with_replies [] true = refl
  with_replies [] false = refl
  with_replies (r ∷ rs) done = ap (λ z. r ∷ z) (with_replies rs done)

  pub ended_with : (rs : List Said) (done : Bool) → has_end (answers_with n rs done) ≡ done
  ended_with [] true = refl
  ended_with [] false = refl
  ended_with (r ∷ rs) done = ended_with rs done

  pub stage_replies : (u : Stage Said) → replies_of (answers_at n u) ≡ replies_at u
  stage_replies NotYet = refl
  stage_replies OnTheWay = refl
  stage_replies (Here rs done) = with_replies rs done
  stage_replies Over = refl

  pub stage_end : (rs : List Said) (done : Bool) → has_end (answers_at n (Here rs done)) ≡ done
  stage_end rs done = ended_with rs done

  -- ---- replies of one number

  pub replies_again : (rs : List Reply) → ((r : Reply) → In r rs → r.number ≡ n) → rs ≡ map (to_reply n) (map to_said rs)
  replies_again [] h = refl
  replies_again (r ∷ rs) h = (λ i. record { line = r.line; number = h r (inl refl) i; content = r.content } ∷ replies_again rs (λ z k. h z (inr k)) i)

  pub passing_replies : (passes : Reply → Bool) (own : Said → Bool) (rs : List Reply) → ((r : Reply) → In r rs → (r.number ≡ n) × (passes r ≡ own (to_said r))) →
      filter passes rs ≡ map (to_reply n) (filter own (map to_said rs))
  passing_replies passes own [] h = refl
  passing_replies passes own (r ∷ rs) h = by (passing_replies passes own rs (λ z k. h z (inr k)))
    where
      at : (b : Bool) → cond b (to_reply n (to_said r) ∷ map (to_reply n) (filter own (map to_said rs))) (map (to_reply n) (filter own (map to_said rs)))
          ≡ map (to_reply n) (cond b (to_said r ∷ filter own (map to_said rs)) (filter own (map to_said rs)))
      at true = refl
      at false = refl

      by : filter passes rs ≡ map (to_reply n) (filter own (map to_said rs)) → filter passes (r ∷ rs) ≡ map (to_reply n) (filter own (map to_said (r ∷ rs)))
      by ih =
          ap (λ b. cond b (r ∷ filter passes rs) (filter passes rs)) (h r (inl refl)).1
          ∙ (λ i. cond (own (to_said r)) (record { line = r.line; number = (h r (inl refl)).0 i; content = r.content } ∷ ih i) (ih i)) ∙ at (own (to_said r))
