-- The interests of a client, as its router hears of them one message after another (`noted_by`), and as its lines left them. The two have other orders:
-- they are the same where each test finds the same in both (`SameTests`).
use Rattle.std.proofs.Common.{◌≡◌, ℕ, Bool, true, false, cond, not, List, [], ◌∷◌, ◌++◌, Option, Some, None, is_some, refl, sym, ap, ◌∙◌, arith}
use Rattle.std.specs.Prelude.{◌==◌, ◌&&◌, ◌||◌}
use Rattle.std.specs.List.{filter, fold, list_any}
use Rattle.std.specs.Option.{option_map_or}
use Rattle.std.specs.Ordering.{is_eq, is_lt, nat_cmp}
use Rattle.std.proofs.lemmas.Bool.{false≢true}
use Rattle.std.proofs.lemmas.List.Folds.{list_any-append}
use Rattle.std.proofs.lemmas.List.Sums.{fold-append}
use Rattle.zr_lists.proofs.Truths.{or_swap}
use Rattle.zr_lists.proofs.Filters.{any_kept}
use Rattle.zr_id.specs.declared.link.LinkNo.{LinkNo}
use Rattle.zr_lists.proofs.Finds.{same_any, any_none}
use Rattle.zr_msg.specs.declared.event.Event.TheVariants.{Down, From}
use Rattle.zr_msg.specs.declared.msg.Msg.{Msg}
use Rattle.zr_msg.specs.declared.msg.Msg.TheVariants.{Sub, Unsub, Token, Untoken, Able, Unable, Interest, EndInterest, ToldSub, ToldAble, ToldUnsub, ToldToken, ToldUntoken, ToldUnable, ToldEnd, Push, Request, Response, Final, State, Step, Snap}
use Rattle.zr_lists.specs.Ascending.{at_key, has_key, before_key, behind_key, put, without}
use Rattle.zr_lists.proofs.Puts.{at-put, has_at}
use Rattle.zr_lists.proofs.Numbers.{nat_eq_is}
use Rattle.zr_lists.proofs.Order.{nat_order}
use Rattle.zr_local.specs.Clients.{client_link, interests_on, with_interests, noted, clients_left}
use Rattle.zr_local.specs.Interests.{interest_id}
use Rattle.zr_local.specs.declared.interest.ClientInterests.{ClientInterests}
use Rattle.zr_local.specs.declared.interest.Interest.{Interest as LiveInterest}
use Rattle.zr_local.proofs.LeftInterests.{left_is}
use Rattle.zr_node_spec.specs.Queries.{link_no}
use Rattle.zr_node_spec.specs.Tables.{leads_to_client}
use Rattle.zr_node_spec.specs.State.{NodeState}
use Rattle.zr_node_spec.specs.Table.{live, clients_noted, after}
use Rattle.zr_world_spec.specs.World.{Tagged}

-- ---- what a router hears

-- its interests once one has been noted under an id, or none
abbrev pub noted_in : List LiveInterest → ℕ → Option LiveInterest → List LiveInterest
noted_in is id None = without nat_cmp interest_id is id
noted_in is id (Some i) = put nat_cmp interest_id is i

-- and once a message was heard
abbrev pub noted_by : List LiveInterest → Msg → List LiveInterest
noted_by is (Sub id key) = is
noted_by is (Unsub id) = is
noted_by is (Token id key) = is
noted_by is (Untoken id) = is
noted_by is (Able id key complete) = is
noted_by is (Unable id) = is
noted_by is (Interest id current future kinds key aggregate) = noted_in is id (live future (record { id = id; kinds = kinds; key = key; aggregate = aggregate }))
noted_by is (EndInterest id) = noted_in is id None
noted_by is (ToldSub id key interest) = is
noted_by is (ToldToken id key interest) = is
noted_by is (ToldAble id key complete interest) = is
noted_by is (ToldUnsub id) = is
noted_by is (ToldUntoken id) = is
noted_by is (ToldUnable id) = is
noted_by is (ToldEnd interest) = is
noted_by is (Push tree content) = is
noted_by is (Request tree id target content) = is
noted_by is (Response id content) = is
noted_by is (Final id extras) = is
noted_by is (State links) = is
noted_by is (Step source number added decl) = is
noted_by is (Snap source number decls) = is

abbrev pub all_noted : List LiveInterest → List Tagged → List LiveInterest
all_noted is ws = fold (λ z x. noted_by z x.msg) is ws

pub noted_more : (is : List LiveInterest) (ws : List Tagged) (x : Tagged) → all_noted is (ws ++ x ∷ []) ≡ noted_by (all_noted is ws) x.msg
noted_more is ws x = fold-append (λ (z : List LiveInterest) (y : Tagged). noted_by z y.msg) is ws (x ∷ [])

-- ---- the interests on links

module _ (cs : List ClientInterests) (link : LinkNo) where
  with_here : (is : List LiveInterest) → interests_on (with_interests cs link is) link.0 ≡ is
  with_here is =
      ap (λ o. option_map_or (λ c. c.interests) o []) (at-put nat_cmp client_link nat_order cs (record { link = link; interests = is }) link.0)
      ∙ ap (λ b. option_map_or (λ c. c.interests) (cond b (Some (record { link = link; interests = is })) (at_key nat_cmp client_link cs link.0)) []) (itself link.0)
    where
      itself : (n : ℕ) → is_eq (nat_cmp n n) ≡ true
      itself n = grind arith

  with_there : (is : List LiveInterest) (k : ℕ) → (link.0 == k) ≡ false → interests_on (with_interests cs link is) k ≡ interests_on cs k
  with_there is k other =
      ap (λ o. option_map_or (λ c. c.interests) o []) (at-put nat_cmp client_link nat_order cs (record { link = link; interests = is }) k)
      ∙ ap (λ b. option_map_or (λ c. c.interests) (cond b (Some (record { link = link; interests = is })) (at_key nat_cmp client_link cs k)) []) (nat_eq_is link.0 k ∙ other)

  noted_here : (id : ℕ) (o : Option LiveInterest) → interests_on (noted cs link id o) link.0 ≡ noted_in (interests_on cs link.0) id o
  noted_here id (Some i) = with_here (put nat_cmp interest_id (interests_on cs link.0) i)
  noted_here id None = by (has_key nat_cmp client_link cs link.0) (has_at nat_cmp client_link nat_order cs link.0)
    where
      rest : List LiveInterest
      rest = without nat_cmp interest_id (interests_on cs link.0) id

      none_there : (o : Option ClientInterests) → false ≡ is_some o → option_map_or (λ c. c.interests) o [] ≡ without nat_cmp interest_id (option_map_or (λ c. c.interests) o []) id
      none_there None e = refl
      none_there (Some c) e = absurd (false≢true e)

      by : (b : Bool) → b ≡ is_some (at_key nat_cmp client_link cs link.0) → interests_on (cond b (with_interests cs link rest) cs) link.0 ≡ rest
      by true e = with_here rest
      by false e = none_there (at_key nat_cmp client_link cs link.0) e

  noted_there : (id : ℕ) (o : Option LiveInterest) (k : ℕ) → (link.0 == k) ≡ false → interests_on (noted cs link id o) k ≡ interests_on cs k
  noted_there id (Some i) k other = with_there (put nat_cmp interest_id (interests_on cs link.0) i) k other
  noted_there id None k other = by (has_key nat_cmp client_link cs link.0)
    where
      rest : List LiveInterest
      rest = without nat_cmp interest_id (interests_on cs link.0) id

      by : (b : Bool) → interests_on (cond b (with_interests cs link rest) cs) k ≡ interests_on cs k
      by true = with_there rest k other
      by false = refl

-- ---- a router hears

module _ (n : NodeState) (from : LinkNo) where
  -- a client's message does what it says
  pub heard_here : leads_to_client n.links from.0 ≡ true → (msg : Msg) → interests_on (after n (From from msg)).clients from.0 ≡ noted_by (interests_on n.clients from.0) msg
  heard_here client (Sub id key) = refl
  heard_here client (Unsub id) = refl
  heard_here client (Token id key) = refl
  heard_here client (Untoken id) = refl
  heard_here client (Able id key complete) = refl
  heard_here client (Unable id) = refl
  heard_here client (Interest id current future kinds key aggregate) =
      let o : Option LiveInterest = live future (record { id = id; kinds = kinds; key = key; aggregate = aggregate }) in
      ap (λ t. interests_on (cond t (noted n.clients (link_no from.0) id o) n.clients) from.0) client ∙ noted_here n.clients (link_no from.0) id o
  heard_here client (EndInterest id) = ap (λ t. interests_on (cond t (noted n.clients (link_no from.0) id None) n.clients) from.0) client ∙ noted_here n.clients (link_no from.0) id None
  heard_here client (ToldSub id key interest) = refl
  heard_here client (ToldToken id key interest) = refl
  heard_here client (ToldAble id key complete interest) = refl
  heard_here client (ToldUnsub id) = refl
  heard_here client (ToldUntoken id) = refl
  heard_here client (ToldUnable id) = refl
  heard_here client (ToldEnd interest) = refl
  heard_here client (Push tree content) = refl
  heard_here client (Request tree id target content) = refl
  heard_here client (Response id content) = refl
  heard_here client (Final id extras) = refl
  heard_here client (State links) = refl
  heard_here client (Step source number added decl) = refl
  heard_here client (Snap source number decls) = refl

  -- and nothing to the interests of other links, or where the link is a router's
  module _ (k : ℕ) (other : leads_to_client n.links from.0 ≡ true → (from.0 == k) ≡ false) where
    noted_apart : (id : ℕ) (o : Option LiveInterest) → interests_on (clients_noted n from.0 id o) k ≡ interests_on n.clients k
    noted_apart id o = by (leads_to_client n.links from.0) refl
      where
        by : (t : Bool) → leads_to_client n.links from.0 ≡ t → interests_on (cond t (noted n.clients (link_no from.0) id o) n.clients) k ≡ interests_on n.clients k
        by true e = noted_there n.clients (link_no from.0) id o k (other e)
        by false e = refl

    pub heard_there : (msg : Msg) → interests_on (after n (From from msg)).clients k ≡ interests_on n.clients k
    heard_there (Sub id key) = refl
    heard_there (Unsub id) = refl
    heard_there (Token id key) = refl
    heard_there (Untoken id) = refl
    heard_there (Able id key complete) = refl
    heard_there (Unable id) = refl
    heard_there (Interest id current future kinds key aggregate) = noted_apart id (live future (record { id = id; kinds = kinds; key = key; aggregate = aggregate }))
    heard_there (EndInterest id) = noted_apart id None
    heard_there (ToldSub id key interest) = refl
    heard_there (ToldToken id key interest) = refl
    heard_there (ToldAble id key complete interest) = refl
    heard_there (ToldUnsub id) = refl
    heard_there (ToldUntoken id) = refl
    heard_there (ToldUnable id) = refl
    heard_there (ToldEnd interest) = refl
    heard_there (Push tree content) = refl
    heard_there (Request tree id target content) = refl
    heard_there (Response id content) = refl
    heard_there (Final id extras) = refl
    heard_there (State links) = refl
    heard_there (Step source number added decl) = refl
    heard_there (Snap source number decls) = refl

-- a client that leaves leaves no interests, and the others keep theirs
pub down_is : (n : NodeState) (link : LinkNo) (k : ℕ) → interests_on (after n (Down link)).clients k ≡ cond (leads_to_client n.links link.0 && (link.0 == k)) [] (interests_on n.clients k)
down_is n link k = by (leads_to_client n.links link.0)
  where
    by : (t : Bool) → interests_on (cond t (clients_left n.clients link.0) n.clients) k ≡ cond (t && (link.0 == k)) [] (interests_on n.clients k)
    by true = left_is n.clients link.0 k
    by false = refl

-- ---- tests

abbrev pub SameTests : {X : Type 0} → List X → List X → Type 0
SameTests {X} xs ys = (f : X → Bool) → list_any f xs ≡ list_any f ys

or_last : (a b : Bool) → (a || b) ≡ (b || (a || false))
or_last true true = refl
or_last true false = refl
or_last false true = refl
or_last false false = refl

module _ (f : LiveInterest → Bool) where
  any_without : (is : List LiveInterest) (id : ℕ) → list_any f (without nat_cmp interest_id is id) ≡ list_any (λ i. not (i.id == id) && f i) is
  any_without is id =
      any_kept f (λ i. not (is_eq (nat_cmp i.id id))) is ∙ same_any (λ i. not (is_eq (nat_cmp i.id id)) && f i) (λ i. not (i.id == id) && f i) is (λ i j. ap (λ b. not b && f i) (nat_eq_is i.id id))

  sides_any : (is : List LiveInterest) (id : ℕ) → (list_any f (before_key nat_cmp interest_id is id) || list_any f (behind_key nat_cmp interest_id is id)) ≡ list_any f (without nat_cmp interest_id is id)
  sides_any [] id = refl
  sides_any (i ∷ is) id = by (is_lt (nat_cmp i.id id)) refl (is_lt (nat_cmp id i.id)) refl (is_eq (nat_cmp i.id id)) refl (sides_any is id)
    where
      before : List LiveInterest
      before = before_key nat_cmp interest_id is id

      behind : List LiveInterest
      behind = behind_key nat_cmp interest_id is id

      others : List LiveInterest
      others = without nat_cmp interest_id is id

      one : (a b : ℕ) → is_lt (nat_cmp a b) ≡ true → is_lt (nat_cmp b a) ≡ true → ⊥
      one a b e g = grind (arith, e, g)

      not_less : (a b : ℕ) → is_lt (nat_cmp a b) ≡ true → is_eq (nat_cmp a b) ≡ true → ⊥
      not_less a b e g = grind (arith, e, g)

      not_more : (a b : ℕ) → is_lt (nat_cmp b a) ≡ true → is_eq (nat_cmp a b) ≡ true → ⊥
      not_more a b e g = grind (arith, e, g)

      some : (a b : ℕ) → is_lt (nat_cmp a b) ≡ false → is_lt (nat_cmp b a) ≡ false → is_eq (nat_cmp a b) ≡ false → ⊥
      some a b e g k = grind (arith, e, g, k)

      by : (l : Bool) → is_lt (nat_cmp i.id id) ≡ l → (g : Bool) → is_lt (nat_cmp id i.id) ≡ g → (e : Bool) → is_eq (nat_cmp i.id id) ≡ e → (list_any f before || list_any f behind) ≡ list_any f others →
          (list_any f (cond l (i ∷ before) before) || list_any f (cond g (i ∷ behind) behind)) ≡ list_any f (cond (not e) (i ∷ others) others)
      by true el true eg e ee ih = absurd (one i.id id el eg)
      by true el false eg true ee ih = absurd (not_less i.id id el ee)
      by true el false eg false ee ih = first (f i) ih
        where
          first : (b : Bool) → (list_any f before || list_any f behind) ≡ list_any f others → ((b || list_any f before) || list_any f behind) ≡ (b || list_any f others)
          first true ih = refl
          first false ih = ih
      by false el true eg true ee ih = absurd (not_more i.id id eg ee)
      by false el true eg false ee ih = or_swap (list_any f before) (f i) (list_any f behind) ∙ ap (λ z. f i || z) ih
      by false el false eg true ee ih = ih
      by false el false eg false ee ih = absurd (some i.id id el eg ee)

  any_put : (is : List LiveInterest) (i : LiveInterest) → list_any f (put nat_cmp interest_id is i) ≡ (f i || list_any f (without nat_cmp interest_id is i.id))
  any_put is i =
      list_any-append f (before_key nat_cmp interest_id is i.id) (i ∷ behind_key nat_cmp interest_id is i.id)
      ∙ or_swap (list_any f (before_key nat_cmp interest_id is i.id)) (f i) (list_any f (behind_key nat_cmp interest_id is i.id)) ∙ ap (λ z. f i || z) (sides_any is i.id)

-- the interests as a router has them, and as the lines left them
module _ (A B : List LiveInterest) (same : SameTests A B) where
  -- without what none has nothing is missing
  pub less : (id : ℕ) → SameTests (noted_in A id None) (filter (λ i. not (i.id == id)) B)
  less id f = any_without f A id ∙ same (λ i. not (i.id == id) && f i) ∙ sym (any_kept f (λ i. not (i.id == id)) B)

  module _ (id : ℕ) (fresh : list_any (λ i. i.id == id) B ≡ false) where
    all_others : (f : LiveInterest → Bool) → list_any (λ i. not (i.id == id) && f i) B ≡ list_any f B
    all_others f = same_any (λ i. not (i.id == id) && f i) f B (λ i j. ap (λ b. not b && f i) (any_none (λ i. i.id == id) B i fresh j))

    pub passing : SameTests (noted_in A id None) B
    passing f = any_without f A id ∙ same (λ i. not (i.id == id) && f i) ∙ all_others f

    pub lasting : (i : LiveInterest) → i.id ≡ id → SameTests (noted_in A id (Some i)) (B ++ i ∷ [])
    lasting i e f =
        any_put f A i ∙ ap (λ k. f i || list_any f (without nat_cmp interest_id A k)) e ∙ ap (λ b. f i || b) (passing f)
        ∙ or_last (f i) (list_any f B) ∙ sym (list_any-append f B (i ∷ []))

-- the ids of the interests
module _ (ids : List ℕ) (B : List LiveInterest) (same : (p : ℕ → Bool) → list_any p ids ≡ list_any (λ i. p i.id) B) where
  pub ids_more : (i : LiveInterest) (p : ℕ → Bool) → list_any p (ids ++ i.id ∷ []) ≡ list_any (λ j. p j.id) (B ++ i ∷ [])
  ids_more i p = list_any-append p ids (i.id ∷ []) ∙ ap (λ b. b || (p i.id || false)) (same p) ∙ sym (list_any-append (λ (j : LiveInterest). p j.id) B (i ∷ []))

  pub ids_less : (id : ℕ) (p : ℕ → Bool) → list_any p (filter (λ n. not (n == id)) ids) ≡ list_any (λ j. p j.id) (filter (λ i. not (i.id == id)) B)
  ids_less id p = any_kept p (λ n. not (n == id)) ids ∙ same (λ n. not (n == id) && p n) ∙ sym (any_kept (λ (j : LiveInterest). p j.id) (λ i. not (i.id == id)) B)
