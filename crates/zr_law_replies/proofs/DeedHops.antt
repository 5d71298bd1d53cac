-- What deeds make of a hop: those of the upper end of a link, which asks and hears, and those of the lower end, which takes, replies and ends. A link that
-- showed some hops shows what the deeds make of them (`upper_shows`, `lower_shows`).
use Rattle.std.proofs.Common.{◌≡◌, ℕ, ◌==◌, Bool, true, false, cond, List, [], ◌∷◌, ◌++◌, Option, Some, None, refl, sym, ap, ◌∙◌, subst, append-nil, append_assoc}
use Rattle.std.specs.List.{flat_map, list_all}
use Rattle.std.proofs.lemmas.Bool.{false≢true, eqb-true}
use Rattle.zr_msg.specs.declared.msg.Msg.{Msg}
use Rattle.zr_msg.specs.declared.msg.Msg.TheVariants.{Sub, Unsub, Token, Untoken, Able, Unable, Interest, EndInterest, ToldSub, ToldAble, ToldUnsub, ToldToken, ToldUntoken, ToldUnable, ToldEnd, Push, Request, Response, Final, State, Step, Snap}
use Rattle.zr_world_spec.specs.World.{Tagged}
use Rattle.zr_law_queries.specs.Link.{Ask, Answer, ask, reply, final, Free, Asked as AskedHop, Shows, ShowsAt, Event, Asking, Taking, Replying, Ending, Hearing, Closing, Leaving, asked, left, replied, ended, put, link_after, hop_taken, hop_replied, hop_ended, hop_heard, hop_left}
use Rattle.zr_law_queries.proofs.Hops.{event_shows}
use Rattle.zr_law_numbers.specs.Waiting.{Asked, Said, asks_in, answers_in}
use Rattle.zr_law_numbers.specs.Deeds.{Half, Deed, Asks, Hears, Closes, Leaves, Takes, Replies, Ends, with_deed, with_deeds, MayDoAll, asked_by_deed, answered_by_deed, handles_msg, is_own}
use Rattle.zr_law_numbers.proofs.Leading.{Wire, link_is, handled, answered, requested, may_append}
use Rattle.zr_law_numbers.proofs.DeedLists.{with-append}
use Rattle.zr_law_numbers.proofs.Doing.{Above, Below}
use Rattle.zr_law_replies.specs.Answers.{HopState}

-- ---- hops

-- a deed of the upper end, and of the lower end, under a number
abbrev pub above_hop : ℕ → Deed → HopState → HopState
above_hop n (Asks number request by) h = cond (number == n) (AskedHop request by) h
above_hop n (Hears number) h = cond (number == n) (hop_heard h) h
above_hop n (Closes number) h = cond (number == n) Free h
above_hop n (Leaves number) h = cond (number == n) (hop_left h) h
above_hop n (Takes number) h = h
above_hop n (Replies number said) h = h
above_hop n (Ends number) h = h

abbrev pub below_hop : ℕ → Deed → HopState → HopState
below_hop n (Asks number request by) h = h
below_hop n (Hears number) h = h
below_hop n (Closes number) h = h
below_hop n (Leaves number) h = h
below_hop n (Takes number) h = cond (number == n) (hop_taken h) h
below_hop n (Replies number said) h = cond (number == n) (hop_replied said h) h
below_hop n (Ends number) h = cond (number == n) (hop_ended h) h

abbrev pub above_hops : ℕ → List Deed → HopState → HopState
above_hops n [] h = h
above_hops n (d ∷ ds) h = above_hops n ds (above_hop n d h)

abbrev pub below_hops : ℕ → List Deed → HopState → HopState
below_hops n [] h = h
below_hops n (d ∷ ds) h = below_hops n ds (below_hop n d h)

pub above_append : (n : ℕ) (ds es : List Deed) (h : HopState) → above_hops n (ds ++ es) h ≡ above_hops n es (above_hops n ds h)
above_append n [] es h = refl
above_append n (d ∷ ds) es h = above_append n ds es (above_hop n d h)

pub below_append : (n : ℕ) (ds es : List Deed) (h : HopState) → below_hops n (ds ++ es) h ≡ below_hops n es (below_hops n ds h)
below_append n [] es h = refl
below_append n (d ∷ ds) es h = below_append n ds es (below_hop n d h)

-- ---- links show them

-- one number's hop changes
each_shows : (l : Wire) (f : HopState → HopState) (hops : ℕ → HopState) (number : ℕ) → Shows l (put hops number (f (hops number))) → Shows l (λ n. cond (number == n) (f (hops n)) (hops n))
each_shows l f hops number s n = subst (ShowsAt l n) (by (number == n) refl) (s n)
  where
    by : (b : Bool) → (number == n) ≡ b → cond b (f (hops number)) (hops n) ≡ cond b (f (hops n)) (hops n)
    by true e = ap (λ k. f (hops k)) (eqb-true number n e)
    by false e = refl

-- the upper end does what is its own
above_own : (l : Wire) (h : Half) (ds : List Deed) → ((n : ℕ) → l.back n ≡ h.back n) → list_all is_own ds ≡ true → MayDoAll h ds → (hops : ℕ → HopState) → Shows l hops →
    Shows (record { asks = l.asks ++ flat_map asked_by_deed ds; answers = l.answers; keeps = l.keeps; back = (with_deeds h ds).back }) (λ n. above_hops n ds (hops n))
above_own l h [] same own may hops s = subst (λ z. Shows z hops) (link_is l _ (sym (append-nil l.asks)) refl (λ n. refl) same) s
above_own l h (Asks number request by ∷ ds) same own may hops s =
    subst (λ z. Shows (record { asks = z; answers = l.answers; keeps = l.keeps; back = (with_deeds (with_deed h (Asks number request by)) ds).back })
    (λ n. above_hops n ds (cond (number == n) (AskedHop request by) (hops n))))
    (append_assoc l.asks (ask number request ∷ []) (flat_map asked_by_deed ds))
    (above_own (asked l number request by) (with_deed h (Asks number request by)) ds (λ n. ap (λ z. cond (number == n) (Some by) z) (same n)) own may.1
    (λ n. cond (number == n) (AskedHop request by) (hops n)) (event_shows l hops s (Asking number request by (same number ∙ may.0))))
above_own l h (Hears number ∷ ds) same own may hops s = absurd (false≢true own)
above_own l h (Closes number ∷ ds) same own may hops s = absurd (false≢true own)
above_own l h (Leaves number ∷ ds) same own may hops s =
    above_own (left l number) (with_deed h (Leaves number)) ds (λ n. ap (λ z. cond (number == n) (Some None) z) (same n)) own may.1
    (λ n. cond (number == n) (hop_left (hops n)) (hops n)) (each_shows (left l number) hop_left hops number (event_shows l hops s (Leaving number may.0.0 (same number ∙ may.0.1))))
above_own l h (Takes number ∷ ds) same own may hops s = absurd (false≢true own)
above_own l h (Replies number said ∷ ds) same own may hops s = above_own l (with_deed h (Replies number said)) ds same own may.1 hops s
above_own l h (Ends number ∷ ds) same own may hops s = above_own l (with_deed h (Ends number)) ds same own may.1 hops s

-- and so does the lower end
below_own : (l : Wire) (h : Half) (ds : List Deed) → ((n : ℕ) → l.keeps n ≡ h.keeps n) → list_all is_own ds ≡ true → MayDoAll h ds → (hops : ℕ → HopState) → Shows l hops →
    Shows (record { asks = l.asks; answers = l.answers ++ flat_map answered_by_deed ds; keeps = (with_deeds h ds).keeps; back = l.back }) (λ n. below_hops n ds (hops n))
below_own l h [] same own may hops s = subst (λ z. Shows z hops) (link_is l _ refl (sym (append-nil l.answers)) same (λ n. refl)) s
below_own l h (Asks number request by ∷ ds) same own may hops s = below_own l (with_deed h (Asks number request by)) ds same own may.1 hops s
below_own l h (Hears number ∷ ds) same own may hops s = absurd (false≢true own)
below_own l h (Closes number ∷ ds) same own may hops s = absurd (false≢true own)
below_own l h (Leaves number ∷ ds) same own may hops s = below_own l (with_deed h (Leaves number)) ds same own may.1 hops s
below_own l h (Takes number ∷ ds) same own may hops s = absurd (false≢true own)
below_own l h (Replies number said ∷ ds) same own may hops s =
    subst (λ z. Shows (record { asks = l.asks; answers = z; keeps = (with_deeds (with_deed h (Replies number said)) ds).keeps; back = l.back })
    (λ n. below_hops n ds (cond (number == n) (hop_replied said (hops n)) (hops n))))
    (append_assoc l.answers (reply number said ∷ []) (flat_map answered_by_deed ds))
    (below_own (replied l number said) (with_deed h (Replies number said)) ds same own may.1 (λ n. cond (number == n) (hop_replied said (hops n)) (hops n))
    (each_shows (replied l number said) (hop_replied said) hops number (event_shows l hops s (Replying number said (same number ∙ may.0)))))
below_own l h (Ends number ∷ ds) same own may hops s =
    subst (λ z. Shows (record { asks = l.asks; answers = z; keeps = (with_deeds (with_deed h (Ends number)) ds).keeps; back = l.back })
    (λ n. below_hops n ds (cond (number == n) (hop_ended (hops n)) (hops n))))
    (append_assoc l.answers (final number ∷ []) (flat_map answered_by_deed ds))
    (below_own (ended l number) (with_deed h (Ends number)) ds (λ n. ap (λ z. cond (number == n) false z) (same n)) own may.1 (λ n. cond (number == n) (hop_ended (hops n)) (hops n))
    (each_shows (ended l number) hop_ended hops number (event_shows l hops s (Ending number (same number ∙ may.0)))))

-- ---- the oldest message

module _ (l : Wire) (tag : ℕ) (h : Half) (hops : ℕ → HopState) (s : Shows l hops) where
  abbrev above : Msg → List (Answer Said) → Wire
  above msg rest = record { asks = l.asks; answers = rest; keeps = l.keeps; back = (with_deeds h (handles_msg msg)).back }

  no_answer : (msg : Msg) (rest : List (Answer Said)) → l.answers ≡ rest → ((n : ℕ) → l.back n ≡ (with_deeds h (handles_msg msg)).back n) → Shows (above msg rest) hops
  no_answer msg rest first same = subst (λ z. Shows z hops) (link_is l (above msg rest) refl first (λ n. refl) same) s

  -- the upper end handles it
  above_front : (msg : Msg) (rest : List (Answer Said)) → l.answers ≡ answers_in tag msg ++ rest → ((n : ℕ) → l.back n ≡ h.back n) → Shows (above msg rest) (λ n. above_hops n (handles_msg msg) (hops n))
  above_front (Sub id key) rest first same = no_answer (Sub id key) rest first same
  above_front (Unsub id) rest first same = no_answer (Unsub id) rest first same
  above_front (Token id key) rest first same = no_answer (Token id key) rest first same
  above_front (Untoken id) rest first same = no_answer (Untoken id) rest first same
  above_front (Able id key complete) rest first same = no_answer (Able id key complete) rest first same
  above_front (Unable id) rest first same = no_answer (Unable id) rest first same
  above_front (Interest id current future kinds key aggregate) rest first same = no_answer (Interest id current future kinds key aggregate) rest first same
  above_front (EndInterest id) rest first same = no_answer (EndInterest id) rest first same
  above_front (ToldSub id key interest) rest first same = no_answer (ToldSub id key interest) rest first same
  above_front (ToldToken id key interest) rest first same = no_answer (ToldToken id key interest) rest first same
  above_front (ToldAble id key complete interest) rest first same = no_answer (ToldAble id key complete interest) rest first same
  above_front (ToldUnsub id) rest first same = no_answer (ToldUnsub id) rest first same
  above_front (ToldUntoken id) rest first same = no_answer (ToldUntoken id) rest first same
  above_front (ToldUnable id) rest first same = no_answer (ToldUnable id) rest first same
  above_front (ToldEnd interest) rest first same = no_answer (ToldEnd interest) rest first same
  above_front (Push tree content) rest first same = no_answer (Push tree content) rest first same
  above_front (Request tree id target content) rest first same = no_answer (Request tree id target content) rest first same
  above_front (Response id content) rest first same =
      let e : Event l = Hearing id (record { line = tag; content = content }) rest first in
      subst (λ z. Shows z (λ n. cond (id == n) (hop_heard (hops n)) (hops n))) (link_is (link_after l e) (above (Response id content) rest) refl refl (λ n. refl) same)
      (each_shows (link_after l e) hop_heard hops id (event_shows l hops s e))
  above_front (Final id extras) rest first same =
      let e : Event l = Closing id rest first in
      subst (λ z. Shows z (λ n. cond (id == n) Free (hops n)))
      (link_is (link_after l e) (above (Final id extras) rest) refl refl (λ n. refl) (λ n. ap (λ z. cond (id == n) None z) (same n))) (event_shows l hops s e)
  above_front (State links) rest first same = no_answer (State links) rest first same
  above_front (Step source number added decl) rest first same = no_answer (Step source number added decl) rest first same
  above_front (Snap source number decls) rest first same = no_answer (Snap source number decls) rest first same

  abbrev below : Msg → List (Ask Asked) → Wire
  below msg rest = record { asks = rest; answers = l.answers; keeps = (with_deeds h (handles_msg msg)).keeps; back = l.back }

  no_ask : (msg : Msg) (rest : List (Ask Asked)) → l.asks ≡ rest → ((n : ℕ) → l.keeps n ≡ (with_deeds h (handles_msg msg)).keeps n) → Shows (below msg rest) hops
  no_ask msg rest first same = subst (λ z. Shows z hops) (link_is l (below msg rest) first refl same (λ n. refl)) s

  -- the lower end takes it
  below_front : (msg : Msg) (rest : List (Ask Asked)) → l.asks ≡ asks_in tag msg ++ rest → ((n : ℕ) → l.keeps n ≡ h.keeps n) → Shows (below msg rest) (λ n. below_hops n (handles_msg msg) (hops n))
  below_front (Sub id key) rest first same = no_ask (Sub id key) rest first same
  below_front (Unsub id) rest first same = no_ask (Unsub id) rest first same
  below_front (Token id key) rest first same = no_ask (Token id key) rest first same
  below_front (Untoken id) rest first same = no_ask (Untoken id) rest first same
  below_front (Able id key complete) rest first same = no_ask (Able id key complete) rest first same
  below_front (Unable id) rest first same = no_ask (Unable id) rest first same
  below_front (Interest id current future kinds key aggregate) rest first same = no_ask (Interest id current future kinds key aggregate) rest first same
  below_front (EndInterest id) rest first same = no_ask (EndInterest id) rest first same
  below_front (ToldSub id key interest) rest first same = no_ask (ToldSub id key interest) rest first same
  below_front (ToldToken id key interest) rest first same = no_ask (ToldToken id key interest) rest first same
  below_front (ToldAble id key complete interest) rest first same = no_ask (ToldAble id key complete interest) rest first same
  below_front (ToldUnsub id) rest first same = no_ask (ToldUnsub id) rest first same
  below_front (ToldUntoken id) rest first same = no_ask (ToldUntoken id) rest first same
  below_front (ToldUnable id) rest first same = no_ask (ToldUnable id) rest first same
  below_front (ToldEnd interest) rest first same = no_ask (ToldEnd interest) rest first same
  below_front (Push tree content) rest first same = no_ask (Push tree content) rest first same
  below_front (Request tree id target content) rest first same =
      let e : Event l = Taking id (record { line = tag; tree = tree; target = target; content = content }) rest first in
      subst (λ z. Shows z (λ n. cond (id == n) (hop_taken (hops n)) (hops n)))
      (link_is (link_after l e) (below (Request tree id target content) rest) refl refl (λ n. ap (λ z. cond (id == n) true z) (same n)) (λ n. refl))
      (each_shows (link_after l e) hop_taken hops id (event_shows l hops s e))
  below_front (Response id content) rest first same = no_ask (Response id content) rest first same
  below_front (Final id extras) rest first same = no_ask (Final id extras) rest first same
  below_front (State links) rest first same = no_ask (State links) rest first same
  below_front (Step source number added decl) rest first same = no_ask (Step source number added decl) rest first same
  below_front (Snap source number decls) rest first same = no_ask (Snap source number decls) rest first same

-- ---- all that an end does

module _ (l : Wire) (h : Half) (own : List Deed) (owns : list_all is_own own ≡ true) (hops : ℕ → HopState) (s : Shows l hops) where
  above_all : (o : Option Tagged) (rest : List (Answer Said)) → l.answers ≡ answered o ++ rest → ((n : ℕ) → l.back n ≡ h.back n) → MayDoAll h (handled o ++ own) →
      Shows (record { asks = l.asks ++ flat_map asked_by_deed own; answers = rest; keeps = l.keeps; back = (with_deeds h (handled o ++ own)).back }) (λ n. above_hops n (handled o ++ own) (hops n))
  above_all None rest first same may n =
      subst (λ z. Shows (record { asks = l.asks ++ flat_map asked_by_deed own; answers = z; keeps = l.keeps; back = (with_deeds h own).back }) (λ n. above_hops n own (hops n))) first
      (above_own l h own same owns may hops s) n
  above_all (Some t) rest first same may n =
      subst (λ z. ShowsAt (record { asks = l.asks ++ flat_map asked_by_deed own; answers = rest; keeps = l.keeps; back = z.back }) n (above_hops n (handles_msg t.msg ++ own) (hops n)))
      (sym (with-append h (handles_msg t.msg) own))
      (subst (ShowsAt (record { asks = l.asks ++ flat_map asked_by_deed own; answers = rest; keeps = l.keeps; back = (with_deeds (with_deeds h (handles_msg t.msg)) own).back }) n)
      (sym (above_append n (handles_msg t.msg) own (hops n)))
      (above_own (record { asks = l.asks; answers = rest; keeps = l.keeps; back = (with_deeds h (handles_msg t.msg)).back }) (with_deeds h (handles_msg t.msg)) own (λ k. refl) owns
      (may_append h (handles_msg t.msg) own may) (λ k. above_hops k (handles_msg t.msg) (hops k)) (above_front l t.tag h hops s t.msg rest first same) n))

  below_all : (o : Option Tagged) (rest : List (Ask Asked)) → l.asks ≡ requested o ++ rest → ((n : ℕ) → l.keeps n ≡ h.keeps n) → MayDoAll h (handled o ++ own) →
      Shows (record { asks = rest; answers = l.answers ++ flat_map answered_by_deed own; keeps = (with_deeds h (handled o ++ own)).keeps; back = l.back }) (λ n. below_hops n (handled o ++ own) (hops n))
  below_all None rest first same may n =
      subst (λ z. Shows (record { asks = z; answers = l.answers ++ flat_map answered_by_deed own; keeps = (with_deeds h own).keeps; back = l.back }) (λ n. below_hops n own (hops n))) first
      (below_own l h own same owns may hops s) n
  below_all (Some t) rest first same may n =
      subst (λ z. ShowsAt (record { asks = rest; answers = l.answers ++ flat_map answered_by_deed own; keeps = z.keeps; back = l.back }) n (below_hops n (handles_msg t.msg ++ own) (hops n)))
      (sym (with-append h (handles_msg t.msg) own))
      (subst (ShowsAt (record { asks = rest; answers = l.answers ++ flat_map answered_by_deed own; keeps = (with_deeds (with_deeds h (handles_msg t.msg)) own).keeps; back = l.back }) n)
      (sym (below_append n (handles_msg t.msg) own (hops n)))
      (below_own (record { asks = rest; answers = l.answers; keeps = (with_deeds h (handles_msg t.msg)).keeps; back = l.back }) (with_deeds h (handles_msg t.msg)) own (λ k. refl) owns
      (may_append h (handles_msg t.msg) own may) (λ k. below_hops k (handles_msg t.msg) (hops k)) (below_front l t.tag h hops s t.msg rest first same) n))

module _ (fine : Deed → Type 0) (l m : Wire) (hops : ℕ → HopState) (s : Shows l hops) where
  pub upper_shows : (u : Above fine l m) → Shows m (λ n. above_hops n (handled u.came ++ u.own) (hops n))
  upper_shows u = subst (λ z. Shows z (λ n. above_hops n (handled u.came ++ u.own) (hops n)))
      (link_is (record { asks = l.asks ++ flat_map asked_by_deed u.own; answers = m.answers; keeps = l.keeps; back = (with_deeds u.half (handled u.came ++ u.own)).back }) m
      (sym u.asks) refl (λ n. sym (u.keeps n)) (λ n. sym (u.leaves n)))
      (above_all l u.half u.own u.owns hops s u.came m.answers u.answers u.before u.may)

  pub lower_shows : (d : Below fine l m) → Shows m (λ n. below_hops n (handled d.came ++ d.own) (hops n))
  lower_shows d = subst (λ z. Shows z (λ n. below_hops n (handled d.came ++ d.own) (hops n)))
      (link_is (record { asks = m.asks; answers = l.answers ++ flat_map answered_by_deed d.own; keeps = (with_deeds d.half (handled d.came ++ d.own)).keeps; back = l.back }) m
      refl (sym d.answers) (λ n. sym (d.leaves n)) (λ n. sym (d.back n)))
      (below_all l d.half d.own d.owns hops s d.came m.asks d.asks d.before d.may)
