-- What a client was sent, turn by turn: of each reply under a number it is said how many finals of the number stand before it (`Turned`). One message
-- more adds one thing to show (`turned_more`), and each turn's replies are among them (`turned_in_turn`), as all replies are (`turned_all`).
use Rattle.std.proofs.Common.{◌≡◌, ℕ, zero, suc, ◌+◌, ◌==◌, Bool, true, false, cond, List, [], ◌∷◌, ◌++◌, filter, Option, Some, None, refl, sym, ap, ◌∙◌, subst, arith}
use Rattle.std.specs.Prelude.{IfSome}
use Rattle.std.specs.List.{AllByRecursion, cons_option}
use Rattle.std.proofs.lemmas.Bool.{false≢true, eq-eqb}
use Rattle.std.proofs.lemmas.List.Sums.{sum_by-cons}
use Rattle.zr_msg.specs.declared.msg.Msg.{Msg}
use Rattle.zr_msg.specs.declared.msg.Msg.TheVariants.{Sub, Unsub, Token, Untoken, Able, Unable, Interest, EndInterest, ToldSub, ToldAble, ToldUnsub, ToldToken, ToldUntoken, ToldUnable, ToldEnd, Push, Request, Response, Final, State, Step, Snap}
use Rattle.zr_guarantee.specs.Item.{Reply}
use Rattle.zr_guarantee.specs.Sent.{Told, reply_in, replies_in, is_final, finals_in, behind_finals}
use Rattle.zr_law_replies.specs.Answers.{up_to_final, told_in_turn}

-- ---- one message

-- a final is no reply
pub final_is_none : (n tag : ℕ) (msg : Msg) → is_final n msg ≡ true → reply_in tag msg ≡ None
final_is_none n tag (Sub id key) e = refl
final_is_none n tag (Unsub id) e = refl
final_is_none n tag (Token id key) e = refl
final_is_none n tag (Untoken id) e = refl
final_is_none n tag (Able id key complete) e = refl
final_is_none n tag (Unable id) e = refl
final_is_none n tag (Interest id current future kinds key aggregate) e = refl
final_is_none n tag (EndInterest id) e = refl
final_is_none n tag (ToldSub id key interest) e = refl
final_is_none n tag (ToldToken id key interest) e = refl
final_is_none n tag (ToldAble id key complete interest) e = refl
final_is_none n tag (ToldUnsub id) e = refl
final_is_none n tag (ToldUntoken id) e = refl
final_is_none n tag (ToldUnable id) e = refl
final_is_none n tag (ToldEnd interest) e = refl
final_is_none n tag (Push tree content) e = refl
final_is_none n tag (Request tree id target content) e = refl
final_is_none n tag (Response id content) e = absurd (false≢true e)
final_is_none n tag (Final id extras) e = refl
final_is_none n tag (State links) e = refl
final_is_none n tag (Step source number added decl) e = refl
final_is_none n tag (Snap source number decls) e = refl

module _ (P : ℕ → Reply → Type 0) (n : ℕ) where
  -- where a reply under the number is, what is said of it after so many finals
  abbrev pub Says : ℕ → Option Reply → Type 0
  Says turns o = IfSome o (λ r. (r.number == n) ≡ true → P turns r)

  -- so it is said of all replies among some messages, where so many finals stand before them
  abbrev pub Turned : ℕ → List Told → Type 0
  Turned turns [] = Unit {0}
  Turned turns (x ∷ told) = Says turns (reply_in x.tag x.msg) × Turned (cond (is_final n x.msg) (suc turns) turns) told

  pub turned_more : (turns : ℕ) (told : List Told) (x : Told) → Turned turns told → Says (turns + finals_in n told) (reply_in x.tag x.msg) → Turned turns (told ++ x ∷ [])
  turned_more turns [] x h more = (subst (λ k. Says k (reply_in x.tag x.msg)) (let e : turns + 0 ≡ turns = omega arith in e) more, tt)
  turned_more turns (y ∷ told) x h more =
      (h.0, turned_more (cond (is_final n y.msg) (suc turns) turns) told x h.1 (subst (λ k. Says k (reply_in x.tag x.msg)) (ap (λ k. turns + k) (sum_by-cons (λ (z : Told). cond (is_final n z.msg) 1 0) y told) ∙ by (is_final n y.msg)) more))
    where
      by : (b : Bool) → turns + (cond b 1 0 + finals_in n told) ≡ cond b (suc turns) turns + finals_in n told
      by true = omega arith
      by false = omega arith

  -- ---- one turn

  abbrev Each : ℕ → List Reply → Type 0
  Each turns replies = AllByRecursion (λ r. P turns r) (filter (λ r. r.number == n) replies)

  -- a message more before them
  each_first : (turns : ℕ) (o : Option Reply) (replies : List Reply) → Says turns o → Each turns replies → Each turns (cons_option o replies)
  each_first turns None replies says h = h
  each_first turns (Some r) replies says h = by (r.number == n) says
    where
      by : (b : Bool) → (b ≡ true → P turns r) → AllByRecursion (λ z. P turns z) (cond b (r ∷ filter (λ z. z.number == n) replies) (filter (λ z. z.number == n) replies))
      by true k = (k refl, h)
      by false k = h

  up_to : (turns : ℕ) (told : List Told) → Turned turns told → Each turns (replies_in (up_to_final n told))
  up_to turns [] h = tt
  up_to turns (x ∷ told) h = by (is_final n x.msg) refl h.1 (λ rest. up_to turns told rest)
    where
      by : (b : Bool) → is_final n x.msg ≡ b → Turned (cond b (suc turns) turns) told → (Turned turns told → Each turns (replies_in (up_to_final n told))) →
          Each turns (replies_in (cond b (x ∷ []) (x ∷ up_to_final n told)))
      by true e rest ih = subst (λ (o : Option Reply). Each turns (cons_option o [])) (sym (final_is_none n x.tag x.msg e)) tt
      by false e rest ih = each_first turns (reply_in x.tag x.msg) (replies_in (up_to_final n told)) h.0 (ih rest)

  turned_behind : (turns k : ℕ) (told : List Told) → Turned turns told → Turned (turns + k) (behind_finals n k told)
  turned_behind turns zero told h = subst (λ j. Turned j told) (let e : turns ≡ turns + 0 = omega arith in e) h
  turned_behind turns (suc k) [] h = tt
  turned_behind turns (suc k) (x ∷ told) h = by (is_final n x.msg) h.1 (λ rest. turned_behind (suc turns) k told rest) (λ rest. turned_behind turns (suc k) told rest)
    where
      by : (b : Bool) → Turned (cond b (suc turns) turns) told → (Turned (suc turns) told → Turned (suc turns + k) (behind_finals n k told)) →
          (Turned turns told → Turned (turns + suc k) (behind_finals n (suc k) told)) → Turned (turns + suc k) (cond b (behind_finals n k told) (behind_finals n (suc k) told))
      by true rest over on = subst (λ j. Turned j (behind_finals n k told)) (let e : suc turns + k ≡ turns + suc k = omega arith in e) (over rest)
      by false rest over on = on rest

  pub turned_in_turn : (turns : ℕ) (told : List Told) → Turned 0 told → Each turns (replies_in (told_in_turn n turns told))
  turned_in_turn turns told h = up_to turns (behind_finals n turns told) (subst (λ k. Turned k (behind_finals n turns told)) (let e : 0 + turns ≡ turns = omega arith in e) (turned_behind 0 turns told h))

-- what follows from what is said
pub turned_each : (P Q : ℕ → Reply → Type 0) (n : ℕ) → ((turns : ℕ) (r : Reply) → P turns r → Q turns r) → (turns : ℕ) (told : List Told) → Turned P n turns told → Turned Q n turns told
turned_each P Q n each turns [] h = tt
turned_each P Q n each turns (x ∷ told) h = (by (reply_in x.tag x.msg) h.0, turned_each P Q n each (cond (is_final n x.msg) (suc turns) turns) told h.1)
  where
    by : (o : Option Reply) → Says P n turns o → Says Q n turns o
    by None says = tt
    by (Some r) says = λ e. each turns r (says e)

-- ---- all of them

-- what is said of each reply, under whichever number
pub turned_all : (P : ℕ → ℕ → Reply → Type 0) (told : List Told) → ((n : ℕ) → (turns : ℕ) × Turned (P n) n turns told) → AllByRecursion (λ r. (turns : ℕ) × P r.number turns r) (replies_in told)
turned_all P [] h = tt
turned_all P (x ∷ told) h = by (reply_in x.tag x.msg) (λ n. (h n).1.0) (turned_all P told (λ n. (cond (is_final n x.msg) (suc (h n).0) (h n).0, (h n).1.1)))
  where
    by : (o : Option Reply) → ((n : ℕ) → Says (P n) n (h n).0 o) → AllByRecursion (λ r. (turns : ℕ) × P r.number turns r) (replies_in told) →
        AllByRecursion (λ r. (turns : ℕ) × P r.number turns r) (cons_option o (replies_in told))
    by None says more = more
    by (Some r) says more = (((h r.number).0, says r.number (eq-eqb r.number r.number refl)), more)
