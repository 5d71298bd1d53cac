-- What the clients of a router are told of an event: all of them, one of them, or none.
use Rattle.std.proofs.Common.{◌≡◌, Result, Ok, Err, OnOk, OnErr, ℕ, ◌==◌, ◌&&◌, ◌||◌, not, Bool, true, false, cond, List, [], ◌∷◌, ◌++◌, Option, Some, None, map, refl, sym, ap, subst, ◌∙◌}
use Rattle.std.specs.List.{list_any}
use Rattle.std.specs.Option.{option_map_or}
use Rattle.std.proofs.lemmas.Bool.{true≢false, false≢true, eqb-true, eq-eqb}
use Rattle.std.proofs.lemmas.List.{append-nil}
use Rattle.zr_id.specs.declared.link.LinkNo.{LinkNo}
use Rattle.zr_lists.specs.Ascending.{at_key}
use Rattle.std.specs.Ordering.{is_eq, nat_cmp}
use Rattle.zr_local.specs.Clients.{AreByLink, client_link, interests_on}
use Rattle.zr_local.specs.declared.interest.ClientInterests.{ClientInterests}
use Rattle.zr_local.specs.declared.interest.Interest.{Interest as LiveInterest}
use Rattle.zr_msg.specs.declared.decl.Decl.{Decl}
use Rattle.zr_msg.specs.declared.event.Event.{Event}
use Rattle.zr_msg.specs.declared.event.Event.TheVariants.{Up, Down, From}
use Rattle.zr_msg.specs.declared.msg.Kinds.{Kinds}
use Rattle.zr_msg.specs.declared.msg.Msg.{Msg}
use Rattle.zr_msg.specs.declared.msg.Msg.TheVariants.{Sub, Unsub, Token, Untoken, Able, Unable, Interest, EndInterest, ToldSub, ToldAble, ToldUnsub, ToldToken, ToldUntoken, ToldUnable, ToldEnd, Push, Request, Response, Final, State, Step, Snap}
use Rattle.zr_node_spec.specs.Tables.{TableState, leads_to_client}
use Rattle.zr_node_spec.specs.Event.{on_link, TellsPrefix}
use Rattle.zr_lists.specs.Prefix.{IsPrefixBehind}
use Rattle.zr_lists.proofs.Numbers.{nat_eq_is}
use Rattle.zr_node_spec.proofs.Told.{tells_list, tells_prefix}
use Rattle.zr_told_spec.specs.Hub.{Asking, asking_of, asking_on, tells_with, told_with, sends_told, told_after}
use Rattle.zr_told_spec.specs.Rows.{Maps, map_on, sent_on, others, touches, tells_all, told_on, tells_changes, told_changes, AreListed, IsAsWanted, IsNoted, lacks_ids, one_lacks_ids}
use Rattle.zr_told_spec.specs.Told.{ToldMap}
use Rattle.zr_told_spec.specs.declared.place.Place.{Place}
use Rattle.zr_told_spec.proofs.Events.{nothing_is_told}
use Rattle.zr_told_spec.proofs.Hubs.{tells_each, sent_there}
use Rattle.zr_told_spec.proofs.Touching.{none_touch}
use Rattle.zr_router_core.specs.Done.{IsToldAll, IsToldOf}
use Rattle.zr_router_core.specs.Ready.{is_own_msg, is_own, is_own_on, still_told, IsButAt, IsReady, IsToTell, is_nowhere, is_none, is_silent}

-- ---- an event that is no new interest

unasked_msg : (msg : Msg) → is_own_msg msg ≡ false → asking_of msg ≡ None
unasked_msg (Sub id key) h = refl
unasked_msg (Unsub id) h = refl
unasked_msg (Token id key) h = refl
unasked_msg (Untoken id) h = refl
unasked_msg (Able id key complete) h = refl
unasked_msg (Unable id) h = refl
unasked_msg (Interest id current future kinds key aggregate) h = absurd (true≢false h)
unasked_msg (EndInterest id) h = refl
unasked_msg (ToldSub id key interest) h = refl
unasked_msg (ToldToken id key interest) h = refl
unasked_msg (ToldAble id key complete interest) h = refl
unasked_msg (ToldUnsub id) h = refl
unasked_msg (ToldUntoken id) h = refl
unasked_msg (ToldUnable id) h = refl
unasked_msg (ToldEnd interest) h = refl
unasked_msg (Push tree content) h = refl
unasked_msg (Request tree id target content) h = refl
unasked_msg (Response id content) h = refl
unasked_msg (Final id extras) h = refl
unasked_msg (State links) h = refl
unasked_msg (Step source number added decl) h = refl
unasked_msg (Snap source number decls) h = refl

cond_none : {X : Type 0} (b : Bool) (o : Option X) → o ≡ None → cond b o None ≡ None
cond_none true o e = e
cond_none false o e = refl

pub unasked : (event : Event) (k : ℕ) → is_own event ≡ false → asking_on event k ≡ None
unasked (Up link peer) k h = refl
unasked (Down link) k h = refl
unasked (From link msg) k h = cond_none (link.0 == k) (asking_of msg) (unasked_msg msg h)

not_own_on : (event : Event) (k : ℕ) → is_own event ≡ false → is_own_on event k ≡ false
not_own_on (Up link peer) k h = refl
not_own_on (Down link) k h = refl
not_own_on (From link msg) k h = ap (λ z. link.0 == k && z) h ∙ by (link.0 == k)
  where
    by : (b : Bool) → (b && false) ≡ false
    by true = refl
    by false = refl

-- ---- who was told of what is wanted

wanted_none : (ds : List Decl) (is : List LiveInterest) (m : ToldMap) → is ≡ [] → m ≡ [] → IsAsWanted ds is m
wanted_none ds is m e f = subst (λ (z : List LiveInterest). IsAsWanted ds z m) (sym e) (subst (λ (z : ToldMap). IsAsWanted ds [] z) (sym f) (λ p. refl))

-- who has no interests, wherever the event changed something
none_wants : (places : Option (List Place)) (ds : List Decl) (is : List LiveInterest) (m : ToldMap) → is ≡ [] → IsButAt places ds is m → IsAsWanted ds is m
none_wants None ds is m e h = wanted_none ds is m e (h e)
none_wants (Some qs) ds is m e h = λ p. h p (ap (λ (z : List LiveInterest). list_any (λ q. touches z q p) qs) e ∙ none_touch qs p)

-- and who has some, where it changed nothing
nowhere_wants : (places : Option (List Place)) (ds : List Decl) (is : List LiveInterest) (m : ToldMap) → is_nowhere places ≡ true → IsButAt places ds is m → IsAsWanted ds is m
nowhere_wants None ds is m e h = absurd (false≢true e)
nowhere_wants (Some []) ds is m e h = λ p. h p refl
nowhere_wants (Some (q ∷ qs)) ds is m e h = absurd (false≢true e)

-- ---- nobody is told anything

module _ (t : TableState) (event : Event) (told : Maps) where
  -- what the client of a link is told and was told, if it is told of nothing new
  abbrev pub IsCalm : ℕ → Type 0
  IsCalm k = (sends_told t (map_on told k) event k ≡ []) × (told_after t (λ j. map_on told j) event k ≡ map_on told k)

  calm_away : (k : ℕ) → leads_to_client t.links k ≡ false → map_on told k ≡ [] → IsCalm k
  calm_away k away e = (ap (λ b. cond b (tells_with t (map_on told k) k (asking_on event k)) []) away, ap (λ b. cond b (told_with t (map_on told k) k (asking_on event k)) []) away ∙ sym e)

  calm_there : (k : ℕ) → asking_on event k ≡ None → IsAsWanted (others t k) (interests_on t.clients k) (map_on told k) → leads_to_client t.links k ≡ true → IsCalm k
  calm_there k none w leads =
      let q = nothing_is_told (others t k) (interests_on t.clients k) (map_on told k) w in
      ((λ i. cond (leads i) (tells_with t (map_on told k) k (none i)) []) ∙ q.0, (λ i. cond (leads i) (told_with t (map_on told k) k (none i)) []) ∙ q.1)

  pub calm_on : (k : ℕ) → asking_on event k ≡ None → IsAsWanted (others t k) (interests_on t.clients k) (map_on told k) → (leads_to_client t.links k ≡ false → map_on told k ≡ []) → IsCalm k
  calm_on k none w away = by (leads_to_client t.links k) refl
    where
      by : (b : Bool) → leads_to_client t.links k ≡ b → IsCalm k
      by true e = calm_there k none w e
      by false e = calm_away k e (away e)

  pub none_told : (said : List (LinkNo × Msg)) → ((k : ℕ) → IsCalm k) → IsToldAll t event told told said said
  none_told said h = record {
    map = λ k. sym (h k).1;
    sends = record { sent = []; appended = sym (append-nil said); each = λ to. sym (h to.0).0 };
  }

  module _ (places : Option (List Place)) (r : IsReady t event places (λ k. map_on told k)) where
    away_none : (k : ℕ) → leads_to_client t.links k ≡ false → map_on told k ≡ []
    away_none k away = (r.away k away).1

    -- nobody has interests, or nothing changed
    pub silent_told : (said : List (LinkNo × Msg)) → is_silent t.clients event places ≡ true → IsToldAll t event told told said said
    silent_told said h = by (is_own event) refl h
      where
        wanted : is_own event ≡ false → (k : ℕ) → (is_none t.clients || is_nowhere places) ≡ true → IsAsWanted (others t k) (interests_on t.clients k) (map_on told k)
        wanted own k s = two t.clients refl s
          where
            but : IsButAt places (others t k) (interests_on t.clients k) (map_on told k)
            but = r.others k (not_own_on event k own)

            two : (cs : List ClientInterests) → t.clients ≡ cs → (is_none cs || is_nowhere places) ≡ true → IsAsWanted (others t k) (interests_on t.clients k) (map_on told k)
            two [] e s = none_wants places (others t k) (interests_on t.clients k) (map_on told k) (ap (λ cs. interests_on cs k) e) but
            two (c ∷ cs) e s = nowhere_wants places (others t k) (interests_on t.clients k) (map_on told k) s but

        by : (b : Bool) → is_own event ≡ b → (not b && (is_none t.clients || is_nowhere places)) ≡ true → IsToldAll t event told told said said
        by true own s = absurd (false≢true s)
        by false own s = none_told said (λ k. calm_on k (unasked event k own) (wanted own k s) (away_none k))

    -- ---- each is told what changed

    pub listed : is_own event ≡ false → AreListed t.clients told
    listed own k e = two places (r.others k (not_own_on event k own))
      where
        none : interests_on t.clients k ≡ []
        none = ap (λ (o : Option ClientInterests). option_map_or (λ c. c.interests) o []) e

        two : (ps : Option (List Place)) → IsButAt ps (others t k) (interests_on t.clients k) (map_on told k) → map_on told k ≡ []
        two ps b = Rattle.zr_told_spec.proofs.Events.nothing_told (others t k) (map_on told k) (subst (λ (is : List LiveInterest). IsAsWanted (others t k) is (map_on told k)) none (none_wants ps (others t k) (interests_on t.clients k) (map_on told k) none b))

    changes_sent : is_own event ≡ false → (k : ℕ) → tells_changes (others t k) (interests_on t.clients k) (map_on told k) ≡ sends_told t (map_on told k) event k
    changes_sent own k = by (leads_to_client t.links k) refl
      where
        by : (b : Bool) → leads_to_client t.links k ≡ b → tells_changes (others t k) (interests_on t.clients k) (map_on told k) ≡ cond b (tells_with t (map_on told k) k (asking_on event k)) []
        by true e = λ i. tells_with t (map_on told k) k (sym (unasked event k own) i)
        by false e = λ i. tells_changes (others t k) ((r.away k e).0 i) ((r.away k e).1 i)

    changes_told : is_own event ≡ false → (k : ℕ) → told_on t t.clients told k ≡ told_after t (λ j. map_on told j) event k
    changes_told own k = by (leads_to_client t.links k) refl
      where
        by : (b : Bool) → leads_to_client t.links k ≡ b → told_changes (others t k) (interests_on t.clients k) (map_on told k) ≡ cond b (told_with t (map_on told k) k (asking_on event k)) []
        by true e = λ i. told_with t (map_on told k) k (sym (unasked event k own) i)
        by false e = λ i. told_changes (others t k) ((r.away k e).0 i) ((r.away k e).1 i)

    module _ (own : is_own event ≡ false) (up : AreByLink t.clients) where
      all_sent : (to : LinkNo) → on_link to (tells_all t t.clients told) ≡ sends_told t (map_on told to.0) event to.0
      all_sent to = tells_each t t.clients told up (listed own) to ∙ changes_sent own to.0

      pub all_told : (now : Maps) (said all : List (LinkNo × Msg)) → ((k : ℕ) → map_on now k ≡ told_on t t.clients told k) → all ≡ said ++ tells_all t t.clients told → IsToldAll t event told now said all
      all_told now said all m e = record {
        map = λ k. m k ∙ changes_told own k;
        sends = tells_list (λ k. sends_told t (map_on told k) event k) said (tells_all t t.clients told) all all_sent e;
      }

      pub all_prefix : (said all : List (LinkNo × Msg)) → IsPrefixBehind said (tells_all t t.clients told) all → TellsPrefix (λ k. sends_told t (map_on told k) event k) said all
      all_prefix said all h = tells_prefix (λ k. sends_told t (map_on told k) event k) said (tells_all t t.clients told) all all_sent h

-- ---- one client has a new interest, or one less

module _ (t : TableState) (link : LinkNo) (msg : Msg) (own : is_own_msg msg ≡ true) (told : Maps) (r : IsReady t (From link msg) (Some []) (λ k. map_on told k)) where
  calm_else : (k : ℕ) → (link.0 == k) ≡ false → IsCalm t (From link msg) told k
  calm_else k e =
      calm_on t (From link msg) told k (ap (λ b. cond b (asking_of msg) None) e)
      (λ p. r.others k (ap (λ b. b && is_own_msg msg) e) p refl)
      (λ away. (r.away k away).1)

  -- it comes from a router, and is nothing to it
  pub none_asked : (said : List (LinkNo × Msg)) → leads_to_client t.links link.0 ≡ false → IsToldAll t (From link msg) told told said said
  none_asked said away = none_told t (From link msg) told said (λ k. by k (link.0 == k) refl)
    where
      by : (k : ℕ) (b : Bool) → (link.0 == k) ≡ b → IsCalm t (From link msg) told k
      by k true e = subst (λ (z : ℕ). IsCalm t (From link msg) told z) (eqb-true link.0 k e) (calm_away t (From link msg) told link.0 away (r.away link.0 away).1)
      by k false e = calm_else k e

  module _ (leads : leads_to_client t.links link.0 ≡ true) where
    abbrev said_here : List Msg
    said_here = tells_with t (map_on told link.0) link.0 (asking_of msg)

    abbrev told_here : ToldMap
    told_here = told_with t (map_on told link.0) link.0 (asking_of msg)

    one_sent : (to : LinkNo) → on_link to (sent_on link said_here) ≡ sends_told t (map_on told to.0) (From link msg) to.0
    one_sent to = sent_there link to said_here ∙ by (link.0 == to.0) refl
      where
        here : (k : ℕ) → link.0 ≡ k → said_here ≡ cond (leads_to_client t.links k) (tells_with t (map_on told k) k (asking_of msg)) []
        here k e = subst (λ (z : ℕ). said_here ≡ cond (leads_to_client t.links z) (tells_with t (map_on told z) z (asking_of msg)) []) e (ap (λ b. cond b said_here []) (sym leads))

        by : (b : Bool) → (link.0 == to.0) ≡ b → cond b said_here [] ≡ sends_told t (map_on told to.0) (From link msg) to.0
        by true e = here to.0 (eqb-true link.0 to.0 e) ∙ ap (λ b. cond (leads_to_client t.links to.0) (tells_with t (map_on told to.0) to.0 (cond b (asking_of msg) None)) []) (sym e)
        by false e = sym (calm_else to.0 e).0

    one_map : (k : ℕ) → cond (link.0 == k) told_here (map_on told k) ≡ told_after t (λ j. map_on told j) (From link msg) k
    one_map k = by (link.0 == k) refl
      where
        here : (k : ℕ) → link.0 ≡ k → told_here ≡ cond (leads_to_client t.links k) (told_with t (map_on told k) k (asking_of msg)) []
        here k e = subst (λ (z : ℕ). told_here ≡ cond (leads_to_client t.links z) (told_with t (map_on told z) z (asking_of msg)) []) e (ap (λ b. cond b told_here []) (sym leads))

        by : (b : Bool) → (link.0 == k) ≡ b → cond b told_here (map_on told k) ≡ told_after t (λ j. map_on told j) (From link msg) k
        by true e = here k (eqb-true link.0 k e) ∙ ap (λ b. cond (leads_to_client t.links k) (told_with t (map_on told k) k (cond b (asking_of msg) None)) []) (sym e)
        by false e = sym (calm_else k e).1

    pub one_told : (now : Maps) (said all : List (LinkNo × Msg)) → ((k : ℕ) → map_on now k ≡ cond (link.0 == k) told_here (map_on told k)) → all ≡ said ++ sent_on link said_here → IsToldAll t (From link msg) told now said all
    one_told now said all m e = record {
      map = λ k. m k ∙ one_map k;
      sends = tells_list (λ k. sends_told t (map_on told k) (From link msg) k) said (sent_on link said_here) all one_sent e;
    }

    pub one_prefix : (said all : List (LinkNo × Msg)) → IsPrefixBehind said (sent_on link said_here) all → TellsPrefix (λ k. sends_told t (map_on told k) (From link msg) k) said all
    one_prefix said all h = tells_prefix (λ k. sends_told t (map_on told k) (From link msg) k) said (sent_on link said_here) all one_sent h

-- ---- what was told on a link that goes down was forgotten first

module _ (t : TableState) (event : Event) (places : Option (List Place)) (told kept : Maps) (h : IsToTell t event places (λ k. map_on told k)) (e : (k : ℕ) → map_on kept k ≡ still_told event (λ j. map_on told j) k) where
  same_where : (k : ℕ) → leads_to_client t.links k ≡ true → map_on kept k ≡ map_on told k
  same_where k leads = e k ∙ ap (λ b. cond b [] (map_on told k)) (h.gone k leads)

  same_sent : (k : ℕ) → sends_told t (map_on kept k) event k ≡ sends_told t (map_on told k) event k
  same_sent k = by (leads_to_client t.links k) (same_where k)
    where
      by : (b : Bool) → (b ≡ true → map_on kept k ≡ map_on told k) → cond b (tells_with t (map_on kept k) k (asking_on event k)) [] ≡ cond b (tells_with t (map_on told k) k (asking_on event k)) []
      by true s = ap (λ m. tells_with t m k (asking_on event k)) (s refl)
      by false s = refl

  same_told : (k : ℕ) → told_after t (λ j. map_on kept j) event k ≡ told_after t (λ j. map_on told j) event k
  same_told k = by (leads_to_client t.links k) (same_where k)
    where
      by : (b : Bool) → (b ≡ true → map_on kept k ≡ map_on told k) → cond b (told_with t (map_on kept k) k (asking_on event k)) [] ≡ cond b (told_with t (map_on told k) k (asking_on event k)) []
      by true s = ap (λ m. told_with t m k (asking_on event k)) (s refl)
      by false s = refl

  pub ready_kept : IsReady t event places (λ k. map_on kept k)
  ready_kept = subst (λ (m : ℕ → ToldMap). IsReady t event places m) (λ i k. sym (e k) i) h.ready

  pub told_again : (now : Maps) (said all : List (LinkNo × Msg)) → IsToldAll t event kept now said all → IsToldAll t event told now said all
  told_again now said all a = record {
    map = λ k. a.map k ∙ same_told k;
    sends = record { sent = a.sends.sent; appended = a.sends.appended; each = λ to. a.sends.each to ∙ same_sent to.0 };
  }

  pub prefix_again : (said all : List (LinkNo × Msg)) → TellsPrefix (λ k. sends_told t (map_on kept k) event k) said all → TellsPrefix (λ k. sends_told t (map_on told k) event k) said all
  prefix_again said all p = record { sent = p.sent; appended = p.appended; each = λ to. subst (λ (ms : List Msg). Rattle.zr_lists.specs.Prefix.IsPrefixOf (on_link to p.sent) ms) (same_sent to.0) (p.each to) }

-- ---- what the calls answer

module _ {E : Type 0} (t : TableState) (event : Event) (told : Maps) (places : Option (List Place)) (r : IsReady t event places (λ k. map_on told k)) (own : is_own event ≡ false) (up : AreByLink t.clients) where
  pub all_of : (res : Result (Unit {0}) E) (now : Maps) (said all : List (LinkNo × Msg)) → OnOk res ((k : ℕ) → map_on now k ≡ told_on t t.clients told k) → OnOk res (all ≡ said ++ tells_all t t.clients told)
      → OnErr res (IsPrefixBehind said (tells_all t t.clients told) all) → IsToldOf t event res told now said all
  all_of (Ok x) now said all m s p = all_told t event told places r own up now said all m s
  all_of (Err e) now said all m s p = all_prefix t event told places r own up said all p

module _ {E : Type 0} (t : TableState) (link : LinkNo) (msg : Msg) (own : is_own_msg msg ≡ true) (told : Maps) (r : IsReady t (From link msg) (Some []) (λ k. map_on told k)) (leads : leads_to_client t.links link.0 ≡ true) where
  pub one_of : (o : Option Asking) (res : Result (Unit {0}) E) (now : Maps) (said all : List (LinkNo × Msg)) → asking_of msg ≡ o
      → OnOk res ((k : ℕ) → map_on now k ≡ cond (link.0 == k) (told_with t (map_on told link.0) link.0 o) (map_on told k)) → OnOk res (all ≡ said ++ sent_on link (tells_with t (map_on told link.0) link.0 o))
      → OnErr res (IsPrefixBehind said (sent_on link (tells_with t (map_on told link.0) link.0 o)) all) → IsToldOf t (From link msg) res told now said all
  one_of o res now said all e =
      subst
      (λ (o : Option Asking). OnOk res ((k : ℕ) → map_on now k ≡ cond (link.0 == k) (told_with t (map_on told link.0) link.0 o) (map_on told k)) → OnOk res (all ≡ said ++ sent_on link (tells_with t (map_on told link.0) link.0 o))
      → OnErr res (IsPrefixBehind said (sent_on link (tells_with t (map_on told link.0) link.0 o)) all) → IsToldOf t (From link msg) res told now said all)
      e (by res)
    where
      by : (res : Result (Unit {0}) E) → OnOk res ((k : ℕ) → map_on now k ≡ cond (link.0 == k) (told_with t (map_on told link.0) link.0 (asking_of msg)) (map_on told k)) → OnOk res (all ≡ said ++ sent_on link (tells_with t (map_on told link.0) link.0 (asking_of msg)))
          → OnErr res (IsPrefixBehind said (sent_on link (tells_with t (map_on told link.0) link.0 (asking_of msg))) all) → IsToldOf t (From link msg) res told now said all
      by (Ok x) m s p = one_told t link msg own told r leads now said all m s
      by (Err e) m s p = one_prefix t link msg own told r leads said all p

-- a new interest has been noted
pub noted_here : (t : TableState) (link : LinkNo) (msg : Msg) (told : ℕ → ToldMap) → IsReady t (From link msg) (Some []) told → leads_to_client t.links link.0 ≡ true → (a : Asking) → asking_of msg ≡ Some a →
    IsNoted a.future a.interest (interests_on t.clients link.0)
noted_here t link msg told r leads a e = r.noted link.0 a (ap (λ b. cond b (asking_of msg) None) (eq-eqb link.0 link.0 refl) ∙ e) leads

-- an own message that is no new interest is the end of one
pub ended_is : (msg : Msg) → is_own_msg msg ≡ true → ((id : ℕ) (current future : Bool) (kinds : Kinds) (key : Option (List ℕ)) (aggregate : Bool) → msg ≡ Interest id current future kinds key aggregate → ⊥) → asking_of msg ≡ None
ended_is (Sub id key) h n = refl
ended_is (Unsub id) h n = refl
ended_is (Token id key) h n = refl
ended_is (Untoken id) h n = refl
ended_is (Able id key complete) h n = refl
ended_is (Unable id) h n = refl
ended_is (Interest id current future kinds key aggregate) h n = absurd (n id current future kinds key aggregate refl)
ended_is (EndInterest id) h n = refl
ended_is (ToldSub id key interest) h n = refl
ended_is (ToldToken id key interest) h n = refl
ended_is (ToldAble id key complete interest) h n = refl
ended_is (ToldUnsub id) h n = refl
ended_is (ToldUntoken id) h n = refl
ended_is (ToldUnable id) h n = refl
ended_is (ToldEnd interest) h n = refl
ended_is (Push tree content) h n = refl
ended_is (Request tree id target content) h n = refl
ended_is (Response id content) h n = refl
ended_is (Final id extras) h n = refl
ended_is (State links) h n = refl
ended_is (Step source number added decl) h n = refl
ended_is (Snap source number decls) h n = refl

-- ids last for each client where they last for all
pub lasts_on : (t : TableState) (k : ℕ) (cs : List ClientInterests) → one_lacks_ids t cs ≡ false → lacks_ids (others t k) (interests_on cs k) ≡ false
lasts_on t k [] h = refl
lasts_on t k (c ∷ cs) h = by (is_eq (nat_cmp (client_link c) k)) refl (lacks_ids (others t c.link.0) c.interests) refl h (lasts_on t k cs)
  where
    by : (b : Bool) → is_eq (nat_cmp (client_link c) k) ≡ b → (s : Bool) → lacks_ids (others t c.link.0) c.interests ≡ s → (s || one_lacks_ids t cs) ≡ false →
        (one_lacks_ids t cs ≡ false → lacks_ids (others t k) (interests_on cs k) ≡ false) → lacks_ids (others t k) (option_map_or (λ x. x.interests) (cond b (Some c) (at_key nat_cmp client_link cs k)) []) ≡ false
    by b e true f g ih = absurd (true≢false g)
    by true e false f g ih = ap (λ z. lacks_ids (others t z) c.interests) (sym (eqb-true c.link.0 k (sym (nat_eq_is c.link.0 k) ∙ e))) ∙ f
    by false e false f g ih = ih g

-- what was told on a link that goes down was forgotten, and then the clients were told
pub again_of : {E : Type 0} (t : TableState) (event : Event) (places : Option (List Place)) (told kept : Maps) (h : IsToTell t event places (λ k. map_on told k)) (e : (k : ℕ) → map_on kept k ≡ still_told event (λ j. map_on told j) k)
    (res : Result (Unit {0}) E) (now : Maps) (said all : List (LinkNo × Msg)) → IsToldOf t event res kept now said all → IsToldOf t event res told now said all
again_of t event places told kept h e (Ok x) now said all a = told_again t event places told kept h e now said all a
again_of t event places told kept h e (Err x) now said all a = prefix_again t event places told kept h e said all a
