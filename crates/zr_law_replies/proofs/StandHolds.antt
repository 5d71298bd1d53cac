-- What routers hold for a query over one of its moves: routers that had not sent their final have not sent it before (`opens`), and messages that are
-- none of queries leave what is held (`quiet_holds`).
use Rattle.std.proofs.Common.{◌≡◌, ℕ, Bool, true, false, cond, List, [], ◌∷◌, refl, sym, ap, ◌∙◌}
use Rattle.std.proofs.lemmas.Bool.{false≢true, and_right, or_left}
use Rattle.zr_id.specs.declared.link.LinkNo.{LinkNo}
use Rattle.zr_msg.specs.declared.event.Event.TheVariants.{From}
use Rattle.zr_msg.specs.declared.msg.Msg.{Msg}
use Rattle.zr_msg.specs.declared.msg.Msg.TheVariants.{Sub, Unsub, Token, Untoken, Able, Unable, Interest, EndInterest, ToldSub, ToldAble, ToldUnsub, ToldToken, ToldUntoken, ToldUnable, ToldEnd, Push, Request, Response, Final, State, Step, Snap}
use Rattle.zr_node_spec.specs.State.{NodeState}
use Rattle.zr_node_spec.specs.Table.{after as heard}
use Rattle.zr_law_queries.specs.Query.{Tree, IsTree, Stage, Here, Over, is_child, goes_nowhere, Sound, moved, with_one, Move, Begin, Say, End, Pass, Close, after, MayBegin, OnTheWay}
use Rattle.zr_law_queries.proofs.Moves.{open_is}
use Rattle.zr_law_numbers.specs.Deeds.{handles_msg}
use Rattle.zr_law_replies.specs.Stands.{is_open}
use Rattle.zr_world_spec.specs.World.{WorldState, router_of}
use Rattle.zr_guarantee.specs.Queries.{Asked}
use Rattle.zr_guarantee.specs.Latest.{asks_latest}
use Rattle.zr_law_replies.specs.Trees.{home_of, neighbours_of, links_from, parent_of, named_at, tree_at}
use Rattle.zr_id.specs.Zid.{is_named}
use Rattle.zr_graph.proofs.Names.{same_refl}
use Rattle.std.specs.List.{list_any}
use Rattle.std.specs.Option.{option_map_or}
use Rattle.std.specs.Prelude.{◌&&◌, ◌||◌}

module _ {R : Type 0} (t : Tree (List ℕ)) (is : IsTree t) (stage : List ℕ → Stage R) (sound : Sound t stage) where
  moved_open : (x : List ℕ) (v : Stage R) (f : List ℕ → Stage R) → (is_open v ≡ true → is_open (stage x) ≡ true) → ((z : List ℕ) → is_open (f z) ≡ true → is_open (stage z) ≡ true) →
      (z : List ℕ) → is_open (moved t stage x v f z) ≡ true → is_open (stage z) ≡ true
  moved_open x v f o below z = by (t.same x z) refl (is_child t x z)
    where
      by : (a : Bool) → t.same x z ≡ a → (b : Bool) → is_open (cond a v (cond b (f z) (stage z))) ≡ true → is_open (stage z) ≡ true
      by true e b k = ap (λ j. is_open (stage j)) (sym (is.decides x z e)) ∙ o k
      by false e true k = below z k
      by false e false k = k

  one_open : (y : List ℕ) (u : Stage R) → (is_open u ≡ true → is_open (stage y) ≡ true) → (z : List ℕ) → is_open (with_one t stage y u z) ≡ true → is_open (stage z) ≡ true
  one_open y u o z = by (t.same y z) refl
    where
      by : (a : Bool) → t.same y z ≡ a → is_open (cond a u (stage z)) ≡ true → is_open (stage z) ≡ true
      by true e k = ap (λ j. is_open (stage j)) (sym (is.decides y z e)) ∙ o k
      by false e k = k

  abbrev pub BeginsNot : Move t stage → Type 0
  BeginsNot (Begin x may) = ⊥
  BeginsNot (Say x reply replies leaf here) = Unit {0}
  BeginsNot (End x replies leaf here) = Unit {0}
  BeginsNot (Pass x y reply replies done child here) = Unit {0}
  BeginsNot (Close x y released child here) = Unit {0}

  -- who has not sent the final has not sent it before
  pub opens : (m : Move t stage) → BeginsNot m → (z : List ℕ) → is_open (after t stage m z) ≡ true → is_open (stage z) ≡ true
  opens (Begin x may) begun z o = absurd begun
  opens (Say x reply replies leaf here) calm z o = moved_open x _ stage (λ k. ap is_open here) (λ y k. k) z o
  opens (End x replies leaf here) calm z o = moved_open x _ stage (λ k. ap is_open here) (λ y k. k) z o
  opens (Pass x y reply replies done child here) calm z o =
      moved_open x _ (with_one t stage y (Here replies done)) (λ k. ap is_open (open_is t is stage sound x y (reply ∷ replies) done child here)) (one_open y (Here replies done) (λ k. ap is_open here ∙ k)) z o
  opens (Close x y released child here) calm z o =
      moved_open x _ (with_one t stage y Over) (λ k. ap is_open (open_is t is stage sound x y [] true child here)) (one_open y Over (λ k. absurd (false≢true k))) z o

  -- where a request begins at another node
  pub begin_opens : (x : List ℕ) (may : MayBegin t stage x) (z : List ℕ) → t.same x z ≡ false → is_open (after t stage (Begin x may) z) ≡ true → (is_child t x z ≡ false) × (is_open (stage z) ≡ true)
  begin_opens x may z other o = by (is_child t x z) refl (ap (λ a. is_open (cond a (Here [] (goes_nowhere t x)) (cond (is_child t x z) OnTheWay (stage z)))) (sym other) ∙ o)
    where
      by : (c : Bool) → is_child t x z ≡ c → is_open (cond c OnTheWay (stage z)) ≡ true → (is_child t x z ≡ false) × (is_open (stage z) ≡ true)
      by true e k = absurd (false≢true k)
      by false e k = (e, k)

-- what is no message of queries leaves what is held
pub quiet_holds : (node : NodeState) (link : LinkNo) (msg : Msg) → handles_msg msg ≡ [] → (heard node (From link msg)).held ≡ node.held
quiet_holds node link (Sub id key) e = refl
quiet_holds node link (Unsub id) e = refl
quiet_holds node link (Token id key) e = refl
quiet_holds node link (Untoken id) e = refl
quiet_holds node link (Able id key complete) e = refl
quiet_holds node link (Unable id) e = refl
quiet_holds node link (Interest id current future kinds key aggregate) e = refl
quiet_holds node link (EndInterest id) e = refl
quiet_holds node link (ToldSub id key interest) e = refl
quiet_holds node link (ToldToken id key interest) e = refl
quiet_holds node link (ToldAble id key complete interest) e = refl
quiet_holds node link (ToldUnsub id) e = refl
quiet_holds node link (ToldUntoken id) e = refl
quiet_holds node link (ToldUnable id) e = refl
quiet_holds node link (ToldEnd interest) e = refl
quiet_holds node link (Push tree content) e = refl
quiet_holds node link (Request tree id target content) e = absurd (cc)
quiet_holds node link (Response id content) e = absurd (cc)
quiet_holds node link (Final id extras) e = absurd (cc)
quiet_holds node link (State links) e = refl
quiet_holds node link (Step source number added decl) e = refl
quiet_holds node link (Snap source number decls) e = refl

-- the client that asks gathers nothing
pub root_plain : (w : WorldState) (q : Asked) → IsTree (tree_at w q) → (tree_at w q).gathers q.client ≡ false
root_plain w q is = ap (λ b. asks_latest q && b) (none (is_named (home_of w q.client) q.client) (ap (list_any (λ z. is_named z q.client)) (sym (ap (λ b. cond b (home_of w q.client ∷ []) passed) (same_refl q.client))) ∙ is.top q.client))
    ∙ and_right (asks_latest q) false refl
  where
    passed : List (List ℕ)
    passed = option_map_or (λ r. neighbours_of r.node.links (links_from r (parent_of w q.client q.client) (named_at w q.client q.client) q.target q.content.key)) (router_of w.routers q.client) []

    none : (b : Bool) → (b || false) ≡ false → b ≡ false
    none true e = e
    none false e = e

-- its router is its child
pub root_child : (w : WorldState) (q : Asked) → is_child (tree_at w q) q.client (home_of w q.client) ≡ true
root_child w q = ap (list_any (λ z. is_named z (home_of w q.client))) (ap (λ b. cond b (home_of w q.client ∷ []) passed) (same_refl q.client)) ∙ or_left (is_named (home_of w q.client) (home_of w q.client)) false (same_refl (home_of w q.client))
  where
    passed : List (List ℕ)
    passed = option_map_or (λ r. neighbours_of r.node.links (links_from r (parent_of w q.client q.client) (named_at w q.client q.client) q.target q.content.key)) (router_of w.routers q.client) []
