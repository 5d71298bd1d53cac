-- A client has no more open queries than it may (`act_open`): a query is asked where there is room, and what else happens opens none.
use Rattle.std.proofs.Common.{◌≡◌, ◌≤◌, ◌<◌, ℕ, ◌==◌, suc, Bool, true, false, cond, not, List, [], ◌∷◌, ◌++◌, length, Option, Some, None, refl, sym, ◌∙◌, subst, arith}
use Rattle.std.specs.Prelude.{IfSome}
use Rattle.std.specs.BTreeMap.{insert_entry}
use Rattle.std.specs.Ordering.{nat_cmp}
use Rattle.std.specs.Cmp.Lexicographic.{slice_cmp}
use Rattle.std.proofs.lemmas.Bool.{leb-false}
use Rattle.std.proofs.lemmas.List.{length-append}
use Rattle.zr_lists.proofs.Options.{not_there}
use Rattle.zr_id.specs.Zid.{is_named}
use Rattle.zr_msg.specs.declared.decl.Kind.{Kind}
use Rattle.zr_msg.specs.declared.decl.Kind.TheVariants as k
use Rattle.zr_msg.specs.declared.msg.Msg.{Msg}
use Rattle.zr_msg.specs.declared.msg.Msg.TheVariants.{Sub, Unsub, Token, Untoken, Able, Unable, Interest, EndInterest, ToldSub, ToldAble, ToldUnsub, ToldToken, ToldUntoken, ToldUnable, ToldEnd, Push, Request, Response, Final, State, Step, Snap}
use Rattle.zr_script_spec.specs.declared.command.Act.{Act}
use Rattle.zr_script_spec.specs.declared.command.Act.TheVariants as a
use Rattle.zr_node_spec.specs.Table.{able_kind}
use Rattle.zr_world_spec.specs.World.{ClientState, Clients, WorldState, client_of, with_client, new_client, most_queries}
use Rattle.zr_world_spec.specs.Acts.{outcome, with_ids, ids_of, wanting, unwanting, asking, ending, without_number, receiving, received}
use Rattle.zr_world_spec.specs.Moments.{Moment, went}
use Rattle.zr_world_spec.proofs.Names.{value_new, read_after}
use Rattle.zr_world_spec.proofs.Cases.{free_name, for_router, for_client, for_link, for_up, for_break, for_down, for_declare, for_undeclare, for_interest, for_uninterest, for_publish, for_get, for_reply, for_end, for_handle, for_take, for_mark, for_show}
use Rattle.zr_law_settled.proofs.Spreading.{Name}

-- each client has room for its queries
abbrev pub AreOpen : Clients → Type 0
AreOpen clients = (c : Name) (s : ClientState) → client_of clients c ≡ Some s → length s.queries ≤ most_queries

pub open_first : AreOpen []
open_first c s found = absurd (cc)

-- what is left of some numbers is no longer than they are
fewer_left : (number : ℕ) (ns : List ℕ) → length (without_number ns number) ≤ length ns
fewer_left number [] = omega arith
fewer_left number (n ∷ ns) = by (n == number) (fewer_left number ns)
  where
    by : (t : Bool) → length (without_number ns number) ≤ length ns → length (cond (not t) (n ∷ without_number ns number) (without_number ns number)) ≤ suc (length ns)
    by true ih = omega (arith, ih)
    by false ih = omega (arith, ih)

queries_with : (s : ClientState) (kind : Kind) (ids : List ℕ) → (with_ids s kind ids).queries ≡ s.queries
queries_with s k.Sub ids = refl
queries_with s k.Able ids = refl
queries_with s k.Full ids = refl
queries_with s k.Token ids = refl

-- what a client is sent opens no query
fewer_received : (s : ClientState) (msg : Msg) → length (receiving s msg).queries ≤ length s.queries
fewer_received s (Sub id key) = omega arith
fewer_received s (Unsub id) = omega arith
fewer_received s (Token id key) = omega arith
fewer_received s (Untoken id) = omega arith
fewer_received s (Able id key complete) = omega arith
fewer_received s (Unable id) = omega arith
fewer_received s (Interest id current future kinds key aggregate) = omega arith
fewer_received s (EndInterest id) = omega arith
fewer_received s (ToldSub id key interest) = omega arith
fewer_received s (ToldToken id key interest) = omega arith
fewer_received s (ToldAble id key complete interest) = omega arith
fewer_received s (ToldUnsub id) = omega arith
fewer_received s (ToldUntoken id) = omega arith
fewer_received s (ToldUnable id) = omega arith
fewer_received s (ToldEnd interest) = omega arith
fewer_received s (Push tree content) = omega arith
fewer_received s (Request tree id target content) = omega arith
fewer_received s (Response id content) = omega arith
fewer_received s (Final id extras) = fewer_left id s.queries
fewer_received s (State links) = omega arith
fewer_received s (Step source number added decl) = omega arith
fewer_received s (Snap source number decls) = omega arith

-- one client has another state
open_set : (clients : Clients) (c : Name) (s s' : ClientState) → client_of clients c ≡ Some s → AreOpen clients → length s'.queries ≤ most_queries → AreOpen (with_client clients c s')
open_set clients c s s' found h new d q there = by (is_named c d) (sym (read_after (λ o. o) clients c d s s' found) ∙ there)
  where
    by : (t : Bool) → cond t (Some s') (client_of clients d) ≡ Some q → length q.queries ≤ most_queries
    by true e = let one : s' ≡ q = cc in subst (λ (z : ClientState). length z.queries ≤ most_queries) one new
    by false e = h d q e

module _ (now : Moment) (h : AreOpen now.world.clients) where
  abbrev w : WorldState
  w = now.world

  abbrev Open : Moment → Type 0
  Open next = AreOpen next.world.clients

  comes : (id router : Name) → client_of w.clients id ≡ None → AreOpen (insert_entry (slice_cmp nat_cmp) w.clients id (new_client router))
  comes id router free d q there = by (is_named d id) (sym (value_new w.clients id d (new_client router) free) ∙ there)
    where
      by : (t : Bool) → cond t (Some (new_client router)) (client_of w.clients d) ≡ Some q → length q.queries ≤ most_queries
      by true e = let one : new_client router ≡ q = cc in subst (λ (z : ClientState). length z.queries ≤ most_queries) one (omega arith)
      by false e = h d q e

  -- a client has other ids
  changes : (c : Name) (s : ClientState) → client_of w.clients c ≡ Some s → (kind : Kind) (ids : List ℕ) → AreOpen (with_client w.clients c (with_ids s kind ids))
  changes c s found kind ids = open_set w.clients c s (with_ids s kind ids) found h (subst (λ ns. length ns ≤ most_queries) (sym (queries_with s kind ids)) (h c s found))

  -- or other interests
  wants : (c : Name) (s : ClientState) (id : ℕ) → client_of w.clients c ≡ Some s → AreOpen (with_client w.clients c (wanting s id))
  wants c s id found = open_set w.clients c s (wanting s id) found h (h c s found)

  unwants : (c : Name) (s : ClientState) (id : ℕ) → client_of w.clients c ≡ Some s → AreOpen (with_client w.clients c (unwanting s id))
  unwants c s id found = open_set w.clients c s (unwanting s id) found h (h c s found)

  asks : (c : Name) (s : ClientState) (number : ℕ) → client_of w.clients c ≡ Some s → length s.queries < most_queries → AreOpen (with_client w.clients c (asking s number))
  asks c s number found room = open_set w.clients c s (asking s number) found h (let e = length-append s.queries (number ∷ []) in omega (arith, e, room))

  ends : (c : Name) (s : ClientState) (number : ℕ) → client_of w.clients c ≡ Some s → AreOpen (with_client w.clients c (ending s number))
  ends c s number found = open_set w.clients c s (ending s number) found h (h c s found)

  takes : (c : Name) (msg : Msg) → AreOpen (received w.clients c msg (client_of w.clients c))
  takes c msg = by (client_of w.clients c) refl
    where
      by : (o : Option ClientState) → client_of w.clients c ≡ o → AreOpen (received w.clients c msg o)
      by None e = h
      by (Some s) e = open_set w.clients c s (receiving s msg) e h (let f = fewer_received s msg in let g = h c s e in omega (arith, f, g))

  pub act_open : (line : ℕ) (act : Act) → IfSome (went now (outcome w line act)) Open
  unfolding outcome
  act_open line (a.Router id) = for_router now Open id (λ free room. h)
  act_open line (a.Client id router) = for_client now Open line id router (λ r found free room taken. comes id router (not_there (client_of w.clients id) (free_name w id free).1))
  act_open line (a.Link one other weight) = for_link now Open one other weight (λ apart r found q found' new room. h)
  act_open line (a.Up router name) = for_up now Open line router name (λ r found there s at_end unbroken down taken. h)
  act_open line (a.Break router name) = for_break now Open router name (λ r found there s at_end unbroken. h)
  act_open line (a.Down router name) = for_down now Open line router name (λ r found there s at_end up cut l number taken. h)
  act_open line (a.Sub client id key) = for_declare now Open line client k.Sub id key (Sub id key) (λ s found fresh e at_end unbroken r there weighs. changes client s found k.Sub (ids_of s k.Sub ++ id ∷ []))
  act_open line (a.Unsub client id) = for_undeclare now Open line client k.Sub id (Unsub id) (λ s found known e at_end unbroken. changes client s found k.Sub (without_number (ids_of s k.Sub) id))
  act_open line (a.Token client id key) = for_declare now Open line client k.Token id key (Token id key) (λ s found fresh e at_end unbroken r there weighs. changes client s found k.Token (ids_of s k.Token ++ id ∷ []))
  act_open line (a.Untoken client id) = for_undeclare now Open line client k.Token id (Untoken id) (λ s found known e at_end unbroken. changes client s found k.Token (without_number (ids_of s k.Token) id))
  act_open line (a.Able client id key complete) =
      for_declare now Open line client (able_kind complete) id key (Able id key complete) (λ s found fresh e at_end unbroken r there weighs.
      changes client s found (able_kind complete) (ids_of s (able_kind complete) ++ id ∷ []))
  act_open line (a.Unable client id) = for_undeclare now Open line client k.Able id (Unable id) (λ s found known e at_end unbroken. changes client s found k.Able (without_number (ids_of s k.Able) id))
  act_open line (a.Interest client id mode kinds key aggregate) =
      for_interest now Open line client id mode kinds key aggregate (λ s found fresh e at_end unbroken passing. h) (λ s found fresh e at_end unbroken lasting r there room. wants client s id found)
  act_open line (a.Uninterest client id) = for_uninterest now Open line client id (λ s found known e at_end unbroken. unwants client s id found)
  act_open line (a.Publish client content) = for_publish now Open line client content (λ s found e at_end unbroken. h)
  act_open line (a.Get client number target content) =
      for_get now Open line client number target content (λ s found fresh e at_end unbroken room. asks client s number found (leb-false most_queries (length s.queries) room))
  act_open line (a.Reply client number content) = for_reply now Open line client number content (λ s found e at_end unbroken asked. h)
  act_open line (a.End client number) = for_end now Open line client number (λ s found e at_end unbroken asked. ends client s number found)
  act_open line (a.Handle router from) = for_handle now Open router from (λ r found there s at_end up msg tag xs front l number taken. h)
  act_open line (a.Take router to) = for_take now Open router to (λ r found there s at_end up unbroken msg tag xs front. takes to msg)
  act_open line a.Mark = for_mark now Open line (λ settled joined. h)
  act_open line (a.Show router) = for_show now Open router (λ r found. h)
