-- What leads from one state of a link to another: events on it, in order. A link that shows its hops shows some after each. And what the deeds of one of
-- its ends, or the oldest message on it, lead to.
use Rattle.std.proofs.Common.{◌≡◌, ℕ, ◌==◌, true, false, cond, List, [], ◌∷◌, ◌++◌, Option, Some, None, refl, sym, ap, ◌∙◌, subst, append_assoc, append-nil}
use Rattle.std.specs.List.{flat_map, list_all}
use Rattle.std.specs.Option.{option_map_or}
use Rattle.std.proofs.lemmas.Bool.{false≢true}
use Rattle.zr_msg.specs.declared.msg.Msg.{Msg}
use Rattle.zr_msg.specs.declared.msg.Msg.TheVariants.{Sub, Unsub, Token, Untoken, Able, Unable, Interest, EndInterest, ToldSub, ToldAble, ToldUnsub, ToldToken, ToldUntoken, ToldUnable, ToldEnd, Push, Request, Response, Final, State, Step, Snap}
use Rattle.zr_world_spec.specs.World.{Tagged}
use Rattle.zr_law_queries.specs.Link.{Ask, Answer, Link, Hop, Shows, Event, Asking, Taking, Replying, Ending, Hearing, Closing, Leaving, ask, reply, final, asked, left, replied, ended, link_after, hops_after}
use Rattle.zr_law_queries.proofs.Hops.{event_shows}
use Rattle.zr_law_numbers.specs.Waiting.{Asked, Said, Place, asks_in, answers_in}
use Rattle.zr_law_numbers.specs.Deeds.{Half, Deed, Asks, Hears, Closes, Leaves, Takes, Replies, Ends, with_deed, with_deeds, MayDoAll, asked_by_deed, answered_by_deed, handles_msg, is_own}

-- ---- links

-- links with the same parts are one
pub link_is : {Q P R : Type 0} (l m : Link Q P R) → l.asks ≡ m.asks → l.answers ≡ m.answers → ((n : ℕ) → l.keeps n ≡ m.keeps n) → ((n : ℕ) → l.back n ≡ m.back n) → l ≡ m
link_is l m asks answers keeps back = λ i. record { asks = asks i; answers = answers i; keeps = λ n. keeps n i; back = λ n. back n i }

pub data Leads {Q P R : Type 0} (l : Link Q P R) : Link Q P R → Type 0 where
  Stays : Leads l l
  Then : (m : Link Q P R) → Leads l m → (event : Event m) → Leads l (link_after m event)

pub led : {Q P R : Type 0} (l m n : Link Q P R) → Leads l m → m ≡ n → Leads l n
led l m n c e = subst (λ z. Leads l z) e c

-- a link that shows some hops shows some then
pub shows_on : {Q P R : Type 0} (l m : Link Q P R) → Leads l m → (hops : ℕ → Hop Q P R) → Shows l hops → (more : ℕ → Hop Q P R) × Shows m more
shows_on l m Stays hops h = (hops, h)
shows_on l m (Then k c e) hops h = let was = shows_on l k c hops h in (hops_after k e was.0, event_shows k was.0 was.1 e)

abbrev pub Wire : Type 0
Wire = Link Asked Place Said

-- ---- what one end does

-- the deeds of an upper end that are its own
pub own_upper : (start l : Wire) (h : Half) (ds : List Deed) → ((n : ℕ) → l.back n ≡ h.back n) → list_all is_own ds ≡ true → MayDoAll h ds → Leads start l →
    Leads start (record { asks = l.asks ++ flat_map asked_by_deed ds; answers = l.answers; keeps = l.keeps; back = (with_deeds h ds).back })
own_upper start l h [] same own may c = led start l _ c (link_is l _ (sym (append-nil l.asks)) refl (λ n. refl) same)
own_upper start l h (Asks number request by ∷ ds) same own may c =
    subst (λ z. Leads start (record { asks = z; answers = l.answers; keeps = l.keeps; back = (with_deeds (with_deed h (Asks number request by)) ds).back }))
    (append_assoc l.asks (ask number request ∷ []) (flat_map asked_by_deed ds))
    (own_upper start (asked l number request by) (with_deed h (Asks number request by)) ds (λ n. ap (λ z. cond (number == n) (Some by) z) (same n)) own may.1
    (Then l c (Asking number request by (same number ∙ may.0))))
own_upper start l h (Hears number ∷ ds) same own may c = absurd (false≢true own)
own_upper start l h (Closes number ∷ ds) same own may c = absurd (false≢true own)
own_upper start l h (Leaves number ∷ ds) same own may c =
    own_upper start (left l number) (with_deed h (Leaves number)) ds (λ n. ap (λ z. cond (number == n) (Some None) z) (same n)) own may.1
    (Then l c (Leaving number may.0.0 (same number ∙ may.0.1)))
own_upper start l h (Takes number ∷ ds) same own may c = absurd (false≢true own)
own_upper start l h (Replies number said ∷ ds) same own may c = own_upper start l (with_deed h (Replies number said)) ds same own may.1 c
own_upper start l h (Ends number ∷ ds) same own may c = own_upper start l (with_deed h (Ends number)) ds same own may.1 c

-- and those of a lower end
pub own_lower : (start l : Wire) (h : Half) (ds : List Deed) → ((n : ℕ) → l.keeps n ≡ h.keeps n) → list_all is_own ds ≡ true → MayDoAll h ds → Leads start l →
    Leads start (record { asks = l.asks; answers = l.answers ++ flat_map answered_by_deed ds; keeps = (with_deeds h ds).keeps; back = l.back })
own_lower start l h [] same own may c = led start l _ c (link_is l _ refl (sym (append-nil l.answers)) same (λ n. refl))
own_lower start l h (Asks number request by ∷ ds) same own may c = own_lower start l (with_deed h (Asks number request by)) ds same own may.1 c
own_lower start l h (Hears number ∷ ds) same own may c = absurd (false≢true own)
own_lower start l h (Closes number ∷ ds) same own may c = absurd (false≢true own)
own_lower start l h (Leaves number ∷ ds) same own may c = own_lower start l (with_deed h (Leaves number)) ds same own may.1 c
own_lower start l h (Takes number ∷ ds) same own may c = absurd (false≢true own)
own_lower start l h (Replies number said ∷ ds) same own may c =
    subst (λ z. Leads start (record { asks = l.asks; answers = z; keeps = (with_deeds (with_deed h (Replies number said)) ds).keeps; back = l.back }))
    (append_assoc l.answers (reply number said ∷ []) (flat_map answered_by_deed ds))
    (own_lower start (replied l number said) (with_deed h (Replies number said)) ds same own may.1 (Then l c (Replying number said (same number ∙ may.0))))
own_lower start l h (Ends number ∷ ds) same own may c =
    subst (λ z. Leads start (record { asks = l.asks; answers = z; keeps = (with_deeds (with_deed h (Ends number)) ds).keeps; back = l.back }))
    (append_assoc l.answers (final number ∷ []) (flat_map answered_by_deed ds))
    (own_lower start (ended l number) (with_deed h (Ends number)) ds (λ n. ap (λ z. cond (number == n) false z) (same n)) own may.1 (Then l c (Ending number (same number ∙ may.0))))

-- ---- the oldest message

module _ (start l : Wire) (tag : ℕ) (h : Half) (c : Leads start l) where
  -- an upper end handles an answer
  abbrev above : Msg → List (Answer Said) → Wire
  above msg rest = record { asks = l.asks; answers = rest; keeps = l.keeps; back = (with_deeds h (handles_msg msg)).back }

  no_answer : (msg : Msg) (rest : List (Answer Said)) → l.answers ≡ rest → ((n : ℕ) → l.back n ≡ (with_deeds h (handles_msg msg)).back n) → Leads start (above msg rest)
  no_answer msg rest first same = led start l (above msg rest) c (link_is l (above msg rest) refl first (λ n. refl) same)

  pub front_upper : (msg : Msg) (rest : List (Answer Said)) → l.answers ≡ answers_in tag msg ++ rest → ((n : ℕ) → l.back n ≡ h.back n) → Leads start (above msg rest)
  front_upper (Sub id key) rest first same = no_answer (Sub id key) rest first same
  front_upper (Unsub id) rest first same = no_answer (Unsub id) rest first same
  front_upper (Token id key) rest first same = no_answer (Token id key) rest first same
  front_upper (Untoken id) rest first same = no_answer (Untoken id) rest first same
  front_upper (Able id key complete) rest first same = no_answer (Able id key complete) rest first same
  front_upper (Unable id) rest first same = no_answer (Unable id) rest first same
  front_upper (Interest id current future kinds key aggregate) rest first same = no_answer (Interest id current future kinds key aggregate) rest first same
  front_upper (EndInterest id) rest first same = no_answer (EndInterest id) rest first same
  front_upper (ToldSub id key interest) rest first same = no_answer (ToldSub id key interest) rest first same
  front_upper (ToldToken id key interest) rest first same = no_answer (ToldToken id key interest) rest first same
  front_upper (ToldAble id key complete interest) rest first same = no_answer (ToldAble id key complete interest) rest first same
  front_upper (ToldUnsub id) rest first same = no_answer (ToldUnsub id) rest first same
  front_upper (ToldUntoken id) rest first same = no_answer (ToldUntoken id) rest first same
  front_upper (ToldUnable id) rest first same = no_answer (ToldUnable id) rest first same
  front_upper (ToldEnd interest) rest first same = no_answer (ToldEnd interest) rest first same
  front_upper (Push tree content) rest first same = no_answer (Push tree content) rest first same
  front_upper (Request tree id target content) rest first same = no_answer (Request tree id target content) rest first same
  front_upper (Response id content) rest first same =
      let e : Event l = Hearing id (record { line = tag; content = content }) rest first in
      led start (link_after l e) (above (Response id content) rest) (Then l c e) (link_is (link_after l e) (above (Response id content) rest) refl refl (λ n. refl) same)
  front_upper (Final id extras) rest first same =
      let e : Event l = Closing id rest first in
      led start (link_after l e) (above (Final id extras) rest) (Then l c e)
      (link_is (link_after l e) (above (Final id extras) rest) refl refl (λ n. refl) (λ n. ap (λ z. cond (id == n) None z) (same n)))
  front_upper (State links) rest first same = no_answer (State links) rest first same
  front_upper (Step source number added decl) rest first same = no_answer (Step source number added decl) rest first same
  front_upper (Snap source number decls) rest first same = no_answer (Snap source number decls) rest first same

  -- a lower end takes a request
  abbrev below : Msg → List (Ask Asked) → Wire
  below msg rest = record { asks = rest; answers = l.answers; keeps = (with_deeds h (handles_msg msg)).keeps; back = l.back }

  no_ask : (msg : Msg) (rest : List (Ask Asked)) → l.asks ≡ rest → ((n : ℕ) → l.keeps n ≡ (with_deeds h (handles_msg msg)).keeps n) → Leads start (below msg rest)
  no_ask msg rest first same = led start l (below msg rest) c (link_is l (below msg rest) first refl same (λ n. refl))

  pub front_lower : (msg : Msg) (rest : List (Ask Asked)) → l.asks ≡ asks_in tag msg ++ rest → ((n : ℕ) → l.keeps n ≡ h.keeps n) → Leads start (below msg rest)
  front_lower (Sub id key) rest first same = no_ask (Sub id key) rest first same
  front_lower (Unsub id) rest first same = no_ask (Unsub id) rest first same
  front_lower (Token id key) rest first same = no_ask (Token id key) rest first same
  front_lower (Untoken id) rest first same = no_ask (Untoken id) rest first same
  front_lower (Able id key complete) rest first same = no_ask (Able id key complete) rest first same
  front_lower (Unable id) rest first same = no_ask (Unable id) rest first same
  front_lower (Interest id current future kinds key aggregate) rest first same = no_ask (Interest id current future kinds key aggregate) rest first same
  front_lower (EndInterest id) rest first same = no_ask (EndInterest id) rest first same
  front_lower (ToldSub id key interest) rest first same = no_ask (ToldSub id key interest) rest first same
  front_lower (ToldToken id key interest) rest first same = no_ask (ToldToken id key interest) rest first same
  front_lower (ToldAble id key complete interest) rest first same = no_ask (ToldAble id key complete interest) rest first same
  front_lower (ToldUnsub id) rest first same = no_ask (ToldUnsub id) rest first same
  front_lower (ToldUntoken id) rest first same = no_ask (ToldUntoken id) rest first same
  front_lower (ToldUnable id) rest first same = no_ask (ToldUnable id) rest first same
  front_lower (ToldEnd interest) rest first same = no_ask (ToldEnd interest) rest first same
  front_lower (Push tree content) rest first same = no_ask (Push tree content) rest first same
  front_lower (Request tree id target content) rest first same =
      let e : Event l = Taking id (record { line = tag; tree = tree; target = target; content = content }) rest first in
      led start (link_after l e) (below (Request tree id target content) rest) (Then l c e)
      (link_is (link_after l e) (below (Request tree id target content) rest) refl refl (λ n. ap (λ z. cond (id == n) true z) (same n)) (λ n. refl))
  front_lower (Response id content) rest first same = no_ask (Response id content) rest first same
  front_lower (Final id extras) rest first same = no_ask (Final id extras) rest first same
  front_lower (State links) rest first same = no_ask (State links) rest first same
  front_lower (Step source number added decl) rest first same = no_ask (Step source number added decl) rest first same
  front_lower (Snap source number decls) rest first same = no_ask (Snap source number decls) rest first same

-- ---- a message that is handled, and then deeds of one's own

-- the deed by which the oldest message is handled, if one is
abbrev pub handled : Option Tagged → List Deed
handled o = option_map_or (λ t. handles_msg t.msg) o []

abbrev pub answered : Option Tagged → List (Answer Said)
answered o = option_map_or (λ t. answers_in t.tag t.msg) o []

abbrev pub requested : Option Tagged → List (Ask Asked)
requested o = option_map_or (λ t. asks_in t.tag t.msg) o []

deeds_append : (h : Half) (ds es : List Deed) → with_deeds h (ds ++ es) ≡ with_deeds (with_deeds h ds) es
deeds_append h [] es = refl
deeds_append h (d ∷ ds) es = deeds_append (with_deed h d) ds es

pub may_append : (h : Half) (ds es : List Deed) → MayDoAll h (ds ++ es) → MayDoAll (with_deeds h ds) es
may_append h [] es may = may
may_append h (d ∷ ds) es may = may_append (with_deed h d) ds es may.1

-- what handles a message sends nothing on its link
pub handling_is_silent : (msg : Msg) → (flat_map asked_by_deed (handles_msg msg) ≡ []) × (flat_map answered_by_deed (handles_msg msg) ≡ [])
handling_is_silent (Sub id key) = (refl, refl)
handling_is_silent (Unsub id) = (refl, refl)
handling_is_silent (Token id key) = (refl, refl)
handling_is_silent (Untoken id) = (refl, refl)
handling_is_silent (Able id key complete) = (refl, refl)
handling_is_silent (Unable id) = (refl, refl)
handling_is_silent (Interest id current future kinds key aggregate) = (refl, refl)
handling_is_silent (EndInterest id) = (refl, refl)
handling_is_silent (ToldSub id key interest) = (refl, refl)
handling_is_silent (ToldToken id key interest) = (refl, refl)
handling_is_silent (ToldAble id key complete interest) = (refl, refl)
handling_is_silent (ToldUnsub id) = (refl, refl)
handling_is_silent (ToldUntoken id) = (refl, refl)
handling_is_silent (ToldUnable id) = (refl, refl)
handling_is_silent (ToldEnd interest) = (refl, refl)
handling_is_silent (Push tree content) = (refl, refl)
handling_is_silent (Request tree id target content) = (refl, refl)
handling_is_silent (Response id content) = (refl, refl)
handling_is_silent (Final id extras) = (refl, refl)
handling_is_silent (State links) = (refl, refl)
handling_is_silent (Step source number added decl) = (refl, refl)
handling_is_silent (Snap source number decls) = (refl, refl)

module _ (start l : Wire) (h : Half) (own : List Deed) (owns : list_all is_own own ≡ true) (c : Leads start l) where
  pub deeds_upper : (o : Option Tagged) (rest : List (Answer Said)) → l.answers ≡ answered o ++ rest → ((n : ℕ) → l.back n ≡ h.back n) → MayDoAll h (handled o ++ own) →
      Leads start (record { asks = l.asks ++ flat_map asked_by_deed own; answers = rest; keeps = l.keeps; back = (with_deeds h (handled o ++ own)).back })
  deeds_upper None rest first same may =
      subst (λ z. Leads start (record { asks = l.asks ++ flat_map asked_by_deed own; answers = z; keeps = l.keeps; back = (with_deeds h own).back })) first (own_upper start l h own same owns may c)
  deeds_upper (Some t) rest first same may =
      subst (λ z. Leads start (record { asks = l.asks ++ flat_map asked_by_deed own; answers = rest; keeps = l.keeps; back = z.back })) (sym (deeds_append h (handles_msg t.msg) own))
      (own_upper start (record { asks = l.asks; answers = rest; keeps = l.keeps; back = (with_deeds h (handles_msg t.msg)).back }) (with_deeds h (handles_msg t.msg)) own (λ n. refl) owns
      (may_append h (handles_msg t.msg) own may) (front_upper start l t.tag h c t.msg rest first same))

  pub deeds_lower : (o : Option Tagged) (rest : List (Ask Asked)) → l.asks ≡ requested o ++ rest → ((n : ℕ) → l.keeps n ≡ h.keeps n) → MayDoAll h (handled o ++ own) →
      Leads start (record { asks = rest; answers = l.answers ++ flat_map answered_by_deed own; keeps = (with_deeds h (handled o ++ own)).keeps; back = l.back })
  deeds_lower None rest first same may =
      subst (λ z. Leads start (record { asks = z; answers = l.answers ++ flat_map answered_by_deed own; keeps = (with_deeds h own).keeps; back = l.back })) first (own_lower start l h own same owns may c)
  deeds_lower (Some t) rest first same may =
      subst (λ z. Leads start (record { asks = rest; answers = l.answers ++ flat_map answered_by_deed own; keeps = z.keeps; back = l.back })) (sym (deeds_append h (handles_msg t.msg) own))
      (own_lower start (record { asks = rest; answers = l.answers; keeps = (with_deeds h (handles_msg t.msg)).keeps; back = l.back }) (with_deeds h (handles_msg t.msg)) own (λ n. refl) owns
      (may_append h (handles_msg t.msg) own may) (front_lower start l t.tag h c t.msg rest first same))
