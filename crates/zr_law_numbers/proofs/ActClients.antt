-- What acts of clients lead to on all links: a client says something, and a client is sent something. Each changes the two directed links between the
-- client and its router alone.
use Rattle.std.proofs.Common.{◌≡◌, ℕ, ◌==◌, ◌⊎◌, inl, inr, Bool, true, false, cond, not, List, [], ◌∷◌, ◌++◌, Option, Some, None, is_some, refl, sym, ap, ◌∙◌, subst, append-nil}
use Rattle.std.specs.Prelude.{◌&&◌, ◌||◌}
use Rattle.std.specs.List.{AllByRecursion, flat_map, list_all}
use Rattle.std.specs.Option.{option_map, option_or}
use Rattle.std.proofs.lemmas.Bool.{false≢true, eqb-true, eq-eqb, false_from_ne_true, and_right}
use Rattle.std.proofs.lemmas.List.Folds.{list_any-append}
use Rattle.std.proofs.lemmas.Map.Views.{any-filter_same}
use Rattle.zr_lists.proofs.Options.{not_there}
use Rattle.zr_id.specs.Zid.{is_named}
use Rattle.zr_graph.proofs.Names.{same_is, same_refl}
use Rattle.zr_msg.specs.declared.content.Parts.{Parts}
use Rattle.zr_msg.specs.declared.msg.Msg.{Msg}
use Rattle.zr_msg.specs.declared.msg.Msg.TheVariants.{Sub, Unsub, Token, Untoken, Able, Unable, Interest, EndInterest, ToldSub, ToldAble, ToldUnsub, ToldToken, ToldUntoken, ToldUnable, ToldEnd, Push, Request, Response, Final, State, Step, Snap}
use Rattle.zr_msg.specs.declared.msg.Target.{Target}
use Rattle.zr_msg.specs.Extras.{no_extras}
use Rattle.zr_world_spec.specs.World.{Tagged, ClientState, EndState, End, Ends, WorldState, router_of, client_of, end_of, is_end, is_unbroken, with_end, with_queue, sent, changed}
use Rattle.zr_world_spec.specs.Acts.{has_number, without_number, asking, ending, receiving}
use Rattle.zr_world_spec.specs.Sound.{IsSound}
use Rattle.zr_world_spec.proofs.Ends.{ends, end_parts, same_end, read_with_end, keep_with_end, read_changed}
use Rattle.zr_law_settled.proofs.Orderly.{Orderly}
use Rattle.zr_law_settled.proofs.Moving.{unbroken_at}
use Rattle.zr_law_settled.proofs.ClientRows.{ClientsHold}
use Rattle.zr_law_numbers.specs.Waiting.{Place, wire_at, queue_at, waits, asks_in, answers_in, is_kept_by, back_at, link_of, is_whole}
use Rattle.zr_law_numbers.specs.Deeds.{Half, Deed, Asks, Replies as Says, Ends as Finishes, with_deeds, MayDoAll, asked_by_deed, answered_by_deed, handles_msg, is_own, IsHalf}
use Rattle.zr_law_numbers.proofs.Doing.{Moves, Same, Upper, Lower, may_handle}
use Rattle.zr_law_numbers.proofs.Waits.{wire_of, queue_of, asks_among, answers_among, asks_append, answers_append, router_holds, client_holds, router_awaits, client_awaits, link_same}
use Rattle.zr_law_numbers.proofs.Whole.{LinksGo, whole_end, whole_same, client_alone, no_own_end}

-- ---- what a client keeps

-- a client itself has asked
abbrev pub for_itself : List ℕ → ℕ → Option (Option Place)
for_itself c n = Some (Some (record { name = c; number = n }))

-- what a client keeps of the links between it and its router
abbrev pub client_half : List ℕ → ClientState → Half
client_half c s = record { keeps = λ n. has_number s.requests n; back = λ n. cond (has_number s.queries n) (for_itself c n) None }

-- one number more, and one less
pub number_more : (ns : List ℕ) (k n : ℕ) → has_number (ns ++ k ∷ []) n ≡ cond (k == n) true (has_number ns n)
number_more ns k n = list_any-append (λ (m : ℕ). m == n) ns (k ∷ []) ∙ by (has_number ns n) (k == n)
  where
    by : (b c : Bool) → (b || (c || false)) ≡ cond c true b
    by true true = refl
    by true false = refl
    by false true = refl
    by false false = refl

turned_eq : (k n : ℕ) → (n == k) ≡ (k == n)
turned_eq k n = by (n == k) refl (k == n) refl
  where
    by : (b : Bool) → (n == k) ≡ b → (c : Bool) → (k == n) ≡ c → b ≡ c
    by true e true f = refl
    by false e false f = refl
    by true e false f = absurd (false≢true (sym f ∙ eq-eqb k n (sym (eqb-true n k e))))
    by false e true f = absurd (false≢true (sym e ∙ eq-eqb n k (sym (eqb-true k n f))))

pub number_less : (ns : List ℕ) (k n : ℕ) → has_number (without_number ns k) n ≡ cond (k == n) false (has_number ns n)
number_less ns k n =
    any-filter_same (λ (m : ℕ). m == n) (λ (m : ℕ). not (m == k)) (not (k == n)) (λ m e. ap (λ z. not (z == k)) (eqb-true m n e) ∙ ap not (turned_eq k n)) ns
    ∙ by (k == n) (has_number ns n)
  where
    by : (b c : Bool) → (not b && c) ≡ cond b false c
    by true c = refl
    by false c = refl

-- a query more is one that its client waits for, and one less is none
pub asked_more : (c : List ℕ) (ns : List ℕ) (k n : ℕ) →
    cond (has_number (ns ++ k ∷ []) n) (for_itself c n) None
    ≡ cond (k == n) (for_itself c k) (cond (has_number ns n) (for_itself c n) None)
asked_more c ns k n = ap (λ b. cond b (for_itself c n) None) (number_more ns k n) ∙ by (k == n) refl
  where
    by : (b : Bool) → (k == n) ≡ b → cond (cond b true (has_number ns n)) (for_itself c n) None
        ≡ cond b (for_itself c k) (cond (has_number ns n) (for_itself c n) None)
    by true e = ap (for_itself c) (sym (eqb-true k n e))
    by false e = refl

asked_less : (c : List ℕ) (ns : List ℕ) (k n : ℕ) →
    cond (has_number (without_number ns k) n) (for_itself c n) None ≡ cond (k == n) None (cond (has_number ns n) (for_itself c n) None)
asked_less c ns k n = ap (λ b. cond b (for_itself c n) None) (number_less ns k n) ∙ by (k == n)
  where
    by : (b : Bool) → cond (cond b false (has_number ns n)) (for_itself c n) None ≡ cond b None (cond (has_number ns n) (for_itself c n) None)
    by true = refl
    by false = refl

-- what a client says is what its deeds send, and what it keeps then is what they leave
pub record SaysDeeds (c : List ℕ) (s s' : ClientState) (n : ℕ) (msg : Msg) : Type 0 where
  pub own : List Deed
  pub owns : list_all is_own own ≡ true
  pub asks : asks_in n msg ≡ flat_map asked_by_deed own
  pub answers : answers_in n msg ≡ flat_map answered_by_deed own
  pub leaves : IsHalf (client_half c s') (with_deeds (client_half c s) own)
  pub may : MayDoAll (client_half c s) own

-- a client declares something, takes it back or publishes
abbrev pub quiet_deeds : (c : List ℕ) (s s' : ClientState) (n : ℕ) (msg : Msg) → asks_in n msg ≡ [] → answers_in n msg ≡ [] → s'.queries ≡ s.queries → s'.requests ≡ s.requests → SaysDeeds c s s' n msg
quiet_deeds c s s' n msg asks answers queries requests = record {
  own = [];
  owns = refl;
  asks = asks;
  answers = answers;
  leaves = record { keeps = λ m. ap (λ ns. has_number ns m) requests; back = λ m. ap (λ ns. cond (has_number ns m) (for_itself c m) None) queries };
  may = tt;
}

-- it asks, replies, or ends
abbrev pub get_deeds : (c : List ℕ) (s : ClientState) (n number : ℕ) (target : Target) (content : Parts) → has_number s.queries number ≡ false →
    SaysDeeds c s (asking s number) n (Request None number target content)
get_deeds c s n number target content free = record {
  own = Asks number (record { line = n; tree = None; target = target; content = content }) (Some (record { name = c; number = number })) ∷ [];
  owns = refl;
  asks = refl;
  answers = refl;
  leaves = record { keeps = λ m. refl; back = λ m. asked_more c s.queries number m };
  may = (ap (λ b. cond b (for_itself c number) None) free, tt);
}

abbrev pub reply_deeds : (c : List ℕ) (s : ClientState) (n number : ℕ) (content : Parts) → has_number s.requests number ≡ true → SaysDeeds c s s n (Response number content)
reply_deeds c s n number content kept = record {
  own = Says number (record { line = n; content = content }) ∷ [];
  owns = refl;
  asks = refl;
  answers = refl;
  leaves = record { keeps = λ m. refl; back = λ m. refl };
  may = (kept, tt);
}

abbrev pub end_deeds : (c : List ℕ) (s : ClientState) (n number : ℕ) → has_number s.requests number ≡ true → SaysDeeds c s (ending s number) n (Final number no_extras)
end_deeds c s n number kept = record {
  own = Finishes number ∷ [];
  owns = refl;
  asks = refl;
  answers = refl;
  leaves = record { keeps = λ m. number_less s.requests number m; back = λ m. refl };
  may = (kept, tt);
}

-- what a client is sent, it handles
pub receives : (c : List ℕ) (s : ClientState) (msg : Msg) → IsHalf (client_half c (receiving s msg)) (with_deeds (client_half c s) (handles_msg msg))
receives c s (Sub id key) = record { keeps = λ m. refl; back = λ m. refl }
receives c s (Unsub id) = record { keeps = λ m. refl; back = λ m. refl }
receives c s (Token id key) = record { keeps = λ m. refl; back = λ m. refl }
receives c s (Untoken id) = record { keeps = λ m. refl; back = λ m. refl }
receives c s (Able id key complete) = record { keeps = λ m. refl; back = λ m. refl }
receives c s (Unable id) = record { keeps = λ m. refl; back = λ m. refl }
receives c s (Interest id current future kinds key aggregate) = record { keeps = λ m. refl; back = λ m. refl }
receives c s (EndInterest id) = record { keeps = λ m. refl; back = λ m. refl }
receives c s (ToldSub id key interest) = record { keeps = λ m. refl; back = λ m. refl }
receives c s (ToldToken id key interest) = record { keeps = λ m. refl; back = λ m. refl }
receives c s (ToldAble id key complete interest) = record { keeps = λ m. refl; back = λ m. refl }
receives c s (ToldUnsub id) = record { keeps = λ m. refl; back = λ m. refl }
receives c s (ToldUntoken id) = record { keeps = λ m. refl; back = λ m. refl }
receives c s (ToldUnable id) = record { keeps = λ m. refl; back = λ m. refl }
receives c s (ToldEnd interest) = record { keeps = λ m. refl; back = λ m. refl }
receives c s (Push tree content) = record { keeps = λ m. refl; back = λ m. refl }
receives c s (Request tree id target content) = record { keeps = λ m. number_more s.requests id m; back = λ m. refl }
receives c s (Response id content) = record { keeps = λ m. refl; back = λ m. refl }
receives c s (Final id extras) = record { keeps = λ m. refl; back = λ m. asked_less c s.queries id m }
receives c s (State links) = record { keeps = λ m. refl; back = λ m. refl }
receives c s (Step source number added decl) = record { keeps = λ m. refl; back = λ m. refl }
receives c s (Snap source number decls) = record { keeps = λ m. refl; back = λ m. refl }

-- ---- a client's links are the only ones to change

module _ (w : WorldState) (sound : IsSound w) (orderly : Orderly w) (holds : ClientsHold w) (c : List ℕ) (s : ClientState) (found : client_of w.clients c ≡ Some s) (v : WorldState) (s' : ClientState)
    (home : s'.router ≡ s.router) (clients_are : (q : List ℕ) → client_of v.clients q ≡ cond (is_named c q) (Some s') (client_of w.clients q))
    (same_holds : (x y : List ℕ) (n : ℕ) → router_holds x n (router_of v.routers y) ≡ router_holds x n (router_of w.routers y))
    (same_awaits : (x y : List ℕ) (n : ℕ) → router_awaits y n (router_of v.routers x) ≡ router_awaits y n (router_of w.routers x)) where
  no_router : router_of w.routers c ≡ None
  no_router = client_alone w orderly c s found

  is_home : (t : ClientState) → t.router ≡ s.router → is_named t.router s.router ≡ true
  is_home t e = ap (λ z. is_named z s.router) e ∙ same_refl s.router

  pub keeps_before : (n : ℕ) → is_kept_by w s.router c n ≡ has_number s.requests n
  keeps_before n = (λ i. router_holds s.router n (no_router i) || client_holds s.router n (found i)) ∙ ap (λ b. b && has_number s.requests n) (is_home s refl)

  keeps_then : (n : ℕ) → is_kept_by v s.router c n ≡ has_number s'.requests n
  keeps_then n = (λ i. same_holds s.router c n i || client_holds s.router n (clients_are c i))
      ∙ (λ i. router_holds s.router n (no_router i) || client_holds s.router n (cond (same_refl c i) (Some s') (client_of w.clients c)))
      ∙ ap (λ b. b && has_number s'.requests n) (is_home s' home)

  back_before : (n : ℕ) → back_at w c s.router n ≡ (client_half c s).back n
  back_before n = (λ i. option_or (router_awaits s.router n (no_router i)) (client_awaits c s.router n (found i)))
      ∙ ap (λ b. cond (b && has_number s.queries n) (for_itself c n) None) (is_home s refl)

  back_then : (n : ℕ) → back_at v c s.router n ≡ (client_half c s').back n
  back_then n = (λ i. option_or (same_awaits c s.router n i) (client_awaits c s.router n (clients_are c i)))
      ∙ (λ i. option_or (router_awaits s.router n (no_router i)) (client_awaits c s.router n (cond (same_refl c i) (Some s') (client_of w.clients c))))
      ∙ ap (λ b. cond (b && has_number s'.queries n) (for_itself c n) None) (is_home s' home)

  keeps_elsewhere : (x y : List ℕ) → is_named c y ≡ false → (n : ℕ) → is_kept_by v x y n ≡ is_kept_by w x y n
  keeps_elsewhere x y other n = (λ i. same_holds x y n i || client_holds x n (clients_are y i)) ∙ ap (λ b. router_holds x n (router_of w.routers y) || client_holds x n (cond b (Some s') (client_of w.clients y))) other

  back_elsewhere : (x y : List ℕ) → is_named c x ≡ false → (n : ℕ) → back_at v x y n ≡ back_at w x y n
  back_elsewhere x y other n = (λ i. option_or (same_awaits x y n i) (client_awaits x y n (clients_are x i)))
      ∙ ap (λ b. option_or (router_awaits y n (router_of w.routers x)) (client_awaits x y n (cond b (Some s') (client_of w.clients x)))) other

  -- the client is none of its router's name
  home_apart : is_named c s.router ≡ false
  home_apart = false_from_ne_true (is_named c s.router) (λ e.
      false≢true (sym (ap is_some no_router) ∙ ap (λ z. is_some (router_of w.routers z)) (same_is c s.router e) ∙ sound.routers s.router c (sound.clients c s found)))

  -- an unbroken link of the client is that to its router
  only_home : (y : List ℕ) → is_whole w c y ≡ true → s.router ≡ y
  only_home y whole = by (whole_end w c y whole)
    where
      by : (is_some (end_of w.ends (c, y)) ≡ true) ⊎ (is_some (end_of w.ends (y, c)) ≡ true) → s.router ≡ y
      by (inl e) = absurd (false≢true (sym (no_own_end w sound orderly c y s found) ∙ e))
      by (inr e) = holds.homes y c s found e

  module _ (unbroken : (q : End) → is_unbroken v.ends q ≡ is_unbroken w.ends q) (same_waits : (x y : List ℕ) → is_named c x ≡ false → is_named c y ≡ false → waits v x y ≡ waits w x y)
      (above below : List ℕ → List ℕ → Deed → Type 0) (upper : Moves (above c s.router) (below c s.router) (link_of w c s.router) (link_of v c s.router))
      (lower : Moves (above s.router c) (below s.router c) (link_of w s.router c) (link_of v s.router c)) where
    client_goes : LinksGo above below w v
    client_goes x y whole = (inl was, by (is_named c x) refl (is_named c y) refl)
      where
        was : is_whole w x y ≡ true
        was = whole_same w v unbroken x y whole

        by : (b : Bool) → is_named c x ≡ b → (d : Bool) → is_named c y ≡ d → Moves (above x y) (below x y) (link_of w x y) (link_of v x y)
        by true e d f =
            let one : c ≡ x = same_is c x e in
            let far : s.router ≡ y = only_home y (ap (λ z. is_whole w z y) one ∙ was) in
            subst (λ z. Moves (above z y) (below z y) (link_of w z y) (link_of v z y)) one (subst (λ z. Moves (above c z) (below c z) (link_of w c z) (link_of v c z)) far upper)
        by false e true f =
            let one : c ≡ y = same_is c y f in
            let far : s.router ≡ x = only_home x ((λ i. is_unbroken w.ends (one i, x) || is_unbroken w.ends (x, one i)) ∙ swap (is_unbroken w.ends (x, y)) (is_unbroken w.ends (y, x)) was) in
            subst (λ z. Moves (above x z) (below x z) (link_of w x z) (link_of v x z)) one (subst (λ z. Moves (above z c) (below z c) (link_of w z c) (link_of v z c)) far lower)
          where
            swap : (b d : Bool) → (b || d) ≡ true → (d || b) ≡ true
            swap true true k = refl
            swap true false k = refl
            swap false true k = refl
            swap false false k = k
        by false e false f = Same (link_same w v x y (same_waits x y e f) (same_waits y x f e) (keeps_elsewhere x y f) (back_elsewhere x y e))

  module _ (n : ℕ) (msg : Msg) (e : EndState) (at : end_of w.ends (s.router, c) ≡ Some e) (ends_are : v.ends ≡ with_end w.ends (s.router, c) (sent e msg n)) (does : SaysDeeds c s s' n msg) where
    wire_then : (q : End) → wire_at v.ends q ≡ cond (is_end (s.router, c) q) (e.wire ++ record { msg = msg; tag = n } ∷ []) (wire_at w.ends q)
    wire_then q = ap (λ z. wire_at z q) ends_are ∙ read_with_end w.ends (s.router, c) (sent e msg n) wire_of q (ap is_some at)

    queue_then : (q : End) → queue_at v.ends q ≡ queue_at w.ends q
    queue_then q = ap (λ z. queue_at z q) ends_are ∙ keep_with_end w.ends (s.router, c) (sent e msg n) queue_of q e at refl

    no_queue : queue_at w.ends (c, s.router) ≡ []
    no_queue = ap queue_of (not_there (end_of w.ends (c, s.router)) (no_own_end w sound orderly c s.router s found))

    pub says_waits : waits v c s.router ≡ waits w c s.router ++ record { msg = msg; tag = n } ∷ []
    says_waits =
        (λ i. wire_then (s.router, c) i ++ (queue_then (c, s.router) ∙ no_queue) i)
        ∙ append-nil (cond (is_end (s.router, c) (s.router, c)) (e.wire ++ record { msg = msg; tag = n } ∷ []) (wire_at w.ends (s.router, c)))
        ∙ ap (λ b. cond b (e.wire ++ record { msg = msg; tag = n } ∷ []) (wire_at w.ends (s.router, c))) (ends.refl (s.router, c))
        ∙ ap (λ z. z ++ record { msg = msg; tag = n } ∷ []) (sym ((λ i. wire_of (at i) ++ no_queue i) ∙ append-nil e.wire))

    waits_apart : (x y : List ℕ) → is_named c x ≡ false → waits v x y ≡ waits w x y
    waits_apart x y other = (λ i. wire i ++ queue_then (x, y) i)
      where
        wire : wire_at v.ends (y, x) ≡ wire_at w.ends (y, x)
        wire = wire_then (y, x) ∙ ap (λ b. cond b (e.wire ++ record { msg = msg; tag = n } ∷ []) (wire_at w.ends (y, x)))
            (end_parts (s.router, c) (y, x) ∙ and_right (is_named s.router y) (is_named c x) other)

    pub said_links : (above below : List ℕ → List ℕ → Deed → Type 0) → AllByRecursion (above c s.router) does.own → AllByRecursion (below s.router c) does.own → LinksGo above below w v
    said_links above below up low =
        client_goes (λ q. ap (λ z. is_unbroken z q) ends_are ∙ keep_with_end w.ends (s.router, c) (sent e msg n) unbroken_at q e at refl) (λ x y a b. waits_apart x y a) above below
        (Upper (record {
          came = None;
          half = client_half c s;
          own = does.own;
          owns = does.owns;
          fits = up;
          may = does.may;
          asks = ap asks_among says_waits ∙ asks_append (waits w c s.router) (record { msg = msg; tag = n } ∷ [])
              ∙ ap (λ z. asks_among (waits w c s.router) ++ z) (append-nil (asks_in n msg) ∙ does.asks);
          answers = ap answers_among (sym (waits_apart s.router c home_apart));
          keeps = λ m. keeps_elsewhere c s.router home_apart m;
          before = back_before;
          leaves = λ m. back_then m ∙ does.leaves.back m;
        }))
        (Lower (record {
          came = None;
          half = client_half c s;
          own = does.own;
          owns = does.owns;
          fits = low;
          may = does.may;
          asks = ap asks_among (sym (waits_apart s.router c home_apart));
          answers = ap answers_among says_waits ∙ answers_append (waits w c s.router) (record { msg = msg; tag = n } ∷ [])
              ∙ ap (λ z. answers_among (waits w c s.router) ++ z) (append-nil (answers_in n msg) ∙ does.answers);
          back = λ m. back_elsewhere s.router c home_apart m;
          before = keeps_before;
          leaves = λ m. keeps_then m ∙ does.leaves.keeps m;
        }))

  -- ---- the client is sent something

  module _ (msg : Msg) (tag : ℕ) (xs : List Tagged) (e : EndState) (at : end_of w.ends (s.router, c) ≡ Some e) (first : e.queue ≡ record { msg = msg; tag = tag } ∷ xs)
      (ends_are : v.ends ≡ changed (with_end w.ends (s.router, c) (with_queue e xs)) (c, s.router) (λ z. sent z msg tag)) (leaves : IsHalf (client_half c s') (with_deeds (client_half c s) (handles_msg msg))) where
    abbrev es_taken : Ends
    es_taken = with_end w.ends (s.router, c) (with_queue e xs)

    -- a client has no end of its own
    no_other : (q : End) → is_end (c, s.router) q ≡ true → end_of es_taken q ≡ None
    no_other q k = not_there (end_of es_taken q) (keep_with_end w.ends (s.router, c) (with_queue e xs) is_some q e at refl
        ∙ ap (λ z. is_some (end_of w.ends z)) (sym (same_end (c, s.router) q k)) ∙ no_own_end w sound orderly c s.router s found)

    reads : {Y : Type 0} (f : Option EndState → Y) (q : End) → f (end_of v.ends q) ≡ f (end_of es_taken q)
    reads f q = ap (λ z. f (end_of z q)) ends_are ∙ read_changed es_taken (c, s.router) (λ z. sent z msg tag) f q ∙ by (is_end (c, s.router) q) refl
      where
        by : (b : Bool) → is_end (c, s.router) q ≡ b → cond b (f (option_map (λ z. sent z msg tag) (end_of es_taken q))) (f (end_of es_taken q)) ≡ f (end_of es_taken q)
        by true k = ap (λ o. f (option_map (λ z. sent z msg tag) o)) (no_other q k) ∙ sym (ap f (no_other q k))
        by false k = refl

    wire_still : (q : End) → wire_at v.ends q ≡ wire_at w.ends q
    wire_still q = reads wire_of q ∙ keep_with_end w.ends (s.router, c) (with_queue e xs) wire_of q e at refl

    queue_less : (q : End) → queue_at v.ends q ≡ cond (is_end (s.router, c) q) xs (queue_at w.ends q)
    queue_less q = reads queue_of q ∙ read_with_end w.ends (s.router, c) (with_queue e xs) queue_of q (ap is_some at)

    no_wire : wire_at w.ends (c, s.router) ≡ []
    no_wire = ap wire_of (not_there (end_of w.ends (c, s.router)) (no_own_end w sound orderly c s.router s found))

    pub taken_first : waits w s.router c ≡ record { msg = msg; tag = tag } ∷ waits v s.router c
    taken_first = (λ i. no_wire i ++ (ap queue_of at ∙ first) i)
        ∙ sym (ap (λ z. record { msg = msg; tag = tag } ∷ z) (λ i. (wire_still (c, s.router) ∙ no_wire) i
        ++ (queue_less (s.router, c) ∙ ap (λ b. cond b xs (queue_at w.ends (s.router, c))) (ends.refl (s.router, c))) i))

    pub waits_other : (x y : List ℕ) → is_named c y ≡ false → waits v x y ≡ waits w x y
    waits_other x y other = (λ i. wire_still (y, x) i ++ (queue_less (x, y)
        ∙ ap (λ b. cond b xs (queue_at w.ends (x, y))) (end_parts (s.router, c) (x, y) ∙ and_right (is_named s.router x) (is_named c y) other)) i)

    pub taken_links : (above below : List ℕ → List ℕ → Deed → Type 0) → LinksGo above below w v
    taken_links above below =
        client_goes (λ q. reads unbroken_at q ∙ keep_with_end w.ends (s.router, c) (with_queue e xs) unbroken_at q e at refl) (λ x y a b. waits_other x y b) above below
        (Upper (record {
          came = Some (record { msg = msg; tag = tag });
          half = client_half c s;
          own = [];
          owns = refl;
          fits = tt;
          may = may_handle (client_half c s) msg;
          asks = ap asks_among (waits_other c s.router home_apart) ∙ sym (append-nil (asks_among (waits w c s.router)));
          answers = ap answers_among taken_first;
          keeps = λ m. keeps_elsewhere c s.router home_apart m;
          before = back_before;
          leaves = λ m. back_then m ∙ leaves.back m ∙ ap (λ ds. (with_deeds (client_half c s) ds).back m) (sym (append-nil (handles_msg msg)));
        }))
        (Lower (record {
          came = Some (record { msg = msg; tag = tag });
          half = client_half c s;
          own = [];
          owns = refl;
          fits = tt;
          may = may_handle (client_half c s) msg;
          asks = ap asks_among taken_first;
          answers = ap answers_among (waits_other c s.router home_apart) ∙ sym (append-nil (answers_among (waits w c s.router)));
          back = λ m. back_elsewhere s.router c home_apart m;
          before = keeps_before;
          leaves = λ m. keeps_then m ∙ leaves.keeps m ∙ ap (λ ds. (with_deeds (client_half c s) ds).keeps m) (sym (append-nil (handles_msg msg)));
        }))
