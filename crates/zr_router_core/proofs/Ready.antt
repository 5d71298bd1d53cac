-- Where all was right before an event, its clients are ready to be told of it, and all is right once they were.
use Rattle.std.proofs.Common.{◌≡◌, ℕ, ◌==◌, Bool, true, false, cond, List, [], Option, Some, None, IfSome, refl, sym, ap, subst, ◌∙◌}
use Rattle.std.proofs.lemmas.Bool.{true≢false, eqb-true, false_from_ne_true}
use Rattle.std.proofs.lemmas.Option.{none-some, same_Some}
use Rattle.zr_id.specs.declared.link.LinkNo.{LinkNo}
use Rattle.zr_local.specs.Clients.{interests_on, noted}
use Rattle.zr_local.specs.declared.interest.Interest.{Interest as LiveInterest}
use Rattle.zr_msg.specs.declared.decl.Decl.{Decl}
use Rattle.zr_msg.specs.declared.event.Event.{Event}
use Rattle.zr_msg.specs.declared.event.Event.TheVariants.{Up, Down, From}
use Rattle.zr_msg.specs.declared.msg.Msg.{Msg}
use Rattle.zr_msg.specs.declared.msg.Msg.TheVariants.{Sub, Unsub, Token, Untoken, Able, Unable, Interest, EndInterest, ToldSub, ToldAble, ToldUnsub, ToldToken, ToldUntoken, ToldUnable, ToldEnd, Push, Request, Response, Final, State, Step, Snap}
use Rattle.zr_node_spec.specs.Queries.{link_no}
use Rattle.zr_node_spec.specs.Tables.{TableState, leads_to_client}
use Rattle.zr_node_spec.specs.State.{NodeState, tables}
use Rattle.zr_node_spec.specs.Table.{live, clients_noted, after}
use Rattle.zr_told_spec.specs.Hub.{Asking, asking_of, asking_on, told_with, told_after}
use Rattle.zr_told_spec.specs.Rows.{others, IsAsWanted, IsAsWantedBut, IsNoted}
use Rattle.zr_told_spec.specs.Told.{ToldMap}
use Rattle.zr_told_spec.specs.declared.place.Place.{Place}
use Rattle.zr_told_spec.proofs.Events.{nothing_told}
use Rattle.zr_told_spec.proofs.Hubs.{noted_is_live, with_wanted}
use Rattle.zr_told_spec.proofs.Touching.{changes_touch}
use Rattle.zr_router_core.specs.Done.{have_ids}
use Rattle.zr_router_core.specs.Places.{AreKeys, changed_places}
use Rattle.zr_router_core.specs.Ready.{is_own_msg, is_own, is_own_on, is_gone, still_told, IsButAt, IsToTell}
use Rattle.zr_router_core.specs.Right.{IsRight, IsBefore}
use Rattle.zr_router_core.proofs.Changed.{others_same}
use Rattle.zr_router_core.proofs.Homes.{stay_home, gone_away, away_before, interests_else}

none_without : (t : TableState) (k : ℕ) (is : List LiveInterest) (m : ToldMap) → is ≡ [] → IsAsWanted (others t k) is m → m ≡ []
none_without t k is m e w = nothing_told (others t k) m (subst (λ (z : List LiveInterest). IsAsWanted (others t k) z m) e w)

still_is : (event : Event) (told : ℕ → ToldMap) (k : ℕ) → is_gone event k ≡ false → still_told event told k ≡ told k
still_is event told k e = ap (λ b. cond b [] (told k)) e

none_is : (event : Event) (told : ℕ → ToldMap) (k : ℕ) → is_gone event k ≡ true → still_told event told k ≡ []
none_is event told k e = ap (λ b. cond b [] (told k)) e

-- who has no interests and was told nothing was told of what is wanted
pub but_none : (places : Option (List Place)) (ds : List Decl) (is : List LiveInterest) (m : ToldMap) → is ≡ [] → m ≡ [] → IsButAt places ds is m
but_none None ds is m e f = λ g. f
but_none (Some qs) ds is m e f =
    subst (λ (z : List LiveInterest). IsAsWantedBut qs ds z m) (sym e) (subst (λ (z : ToldMap). IsAsWantedBut qs ds [] z) (sym f) (λ p h. refl))

module _ (n : NodeState) (event : Event) (told : ℕ → ToldMap) (b : IsBefore n event told) where
  home : (k : ℕ) → leads_to_client (after n event).links k ≡ false → interests_on (after n event).clients k ≡ []
  home = stay_home n event b.links b.may b.right.clients

  others_ready : (places : Option (List Place)) → places ≡ changed_places n event → IfSome places (λ qs. AreKeys qs) → (k : ℕ) → is_own_on event k ≡ false →
      IsButAt places (others (tables (after n event)) k) (interests_on (after n event).clients k) (still_told event told k)
  others_ready places e keys k own = by (is_gone event k) refl
    where
      stays : is_gone event k ≡ false → interests_on n.clients k ≡ interests_on (after n event).clients k
      stays g = sym (interests_else n event k own g)

      at : (o : Option (List Place)) → o ≡ changed_places n event → IfSome o (λ qs. AreKeys qs) → is_gone event k ≡ false → IsButAt o (others (tables (after n event)) k) (interests_on (after n event).clients k) (told k)
      at None f ks g = λ none. none_without (tables n) k (interests_on n.clients k) (told k) (stays g ∙ none) (b.right.wanted k)
      at (Some qs) f ks g =
          subst (λ (is : List LiveInterest). IsAsWantedBut qs (others (tables (after n event)) k) is (told k)) (stays g)
          (changes_touch qs (others (tables n) k) (others (tables (after n event)) k) (interests_on n.clients k) (told k) ks (others_same n b.ordered k event qs (sym f)) (b.right.wanted k))

      by : (g : Bool) → is_gone event k ≡ g → IsButAt places (others (tables (after n event)) k) (interests_on (after n event).clients k) (still_told event told k)
      by true g = but_none places _ _ _ (home k (gone_away n event k g)) (none_is event told k g)
      by false g = subst (λ (m : ToldMap). IsButAt places (others (tables (after n event)) k) (interests_on (after n event).clients k) m) (sym (still_is event told k g)) (at places e keys g)

  away_ready : (k : ℕ) → leads_to_client (after n event).links k ≡ false → (interests_on (after n event).clients k ≡ []) × (still_told event told k ≡ [])
  away_ready k away = (home k away, by (is_gone event k) refl)
    where
      by : (g : Bool) → is_gone event k ≡ g → still_told event told k ≡ []
      by true g = none_is event told k g
      by false g =
          still_is event told k g
          ∙ none_without (tables n) k (interests_on n.clients k) (told k) (b.right.clients k (away_before n event k b.links b.may away g)) (b.right.wanted k)

  gone_ready : (k : ℕ) → leads_to_client (after n event).links k ≡ true → is_gone event k ≡ false
  gone_ready k leads = false_from_ne_true (is_gone event k) (λ g. true≢false (sym leads ∙ gone_away n event k g))

calm_from : (n : NodeState) (link : LinkNo) (msg : Msg) → is_own_msg msg ≡ true → changed_places n (From link msg) ≡ Some []
calm_from n link (Sub id key) h = cc
calm_from n link (Unsub id) h = cc
calm_from n link (Token id key) h = cc
calm_from n link (Untoken id) h = cc
calm_from n link (Able id key complete) h = cc
calm_from n link (Unable id) h = cc
calm_from n link (Interest id current future kinds key aggregate) h = refl
calm_from n link (EndInterest id) h = refl
calm_from n link (ToldSub id key interest) h = refl
calm_from n link (ToldToken id key interest) h = refl
calm_from n link (ToldAble id key complete interest) h = refl
calm_from n link (ToldUnsub id) h = refl
calm_from n link (ToldUntoken id) h = refl
calm_from n link (ToldUnable id) h = refl
calm_from n link (ToldEnd interest) h = refl
calm_from n link (Push tree content) h = refl
calm_from n link (Request tree id target content) h = refl
calm_from n link (Response id content) h = refl
calm_from n link (Final id extras) h = refl
calm_from n link (State links) h = cc
calm_from n link (Step source number added decl) h = cc
calm_from n link (Snap source number decls) h = cc

calm : (n : NodeState) (event : Event) → is_own event ≡ true → changed_places n event ≡ Some []
calm n (Up link peer) h = cc
calm n (Down link) h = cc
calm n (From link msg) h = calm_from n link msg h

-- a new interest is noted
noted_there : (n : NodeState) (from : ℕ) (future : Bool) (i : LiveInterest) → leads_to_client n.links from ≡ true → IsNoted future i (interests_on (clients_noted n from i.id (live future i)) from)
noted_there n from future i leads =
    subst (λ (b : Bool). IsNoted future i (interests_on (cond b (noted n.clients (link_no from) i.id (live future i)) n.clients) from)) (sym leads) (noted_is_live n.clients (link_no from) future i)

noted_from : (n : NodeState) (link : LinkNo) (msg : Msg) (a : Asking) → asking_of msg ≡ Some a → leads_to_client (after n (From link msg)).links link.0 ≡ true →
    IsNoted a.future a.interest (interests_on (after n (From link msg)).clients link.0)
noted_from n link (Sub id key) a e = absurd (none-some a e)
noted_from n link (Unsub id) a e = absurd (none-some a e)
noted_from n link (Token id key) a e = absurd (none-some a e)
noted_from n link (Untoken id) a e = absurd (none-some a e)
noted_from n link (Able id key complete) a e = absurd (none-some a e)
noted_from n link (Unable id) a e = absurd (none-some a e)
noted_from n link (Interest id current future kinds key aggregate) a e =
    subst (λ (z : Asking). leads_to_client n.links link.0 ≡ true → IsNoted z.future z.interest (interests_on (after n (From link (Interest id current future kinds key aggregate))).clients link.0)) (same_Some _ a e)
    (noted_there n link.0 future (record { id = id; kinds = kinds; key = key; aggregate = aggregate }))
noted_from n link (EndInterest id) a e = absurd (none-some a e)
noted_from n link (ToldSub id key interest) a e = absurd (none-some a e)
noted_from n link (ToldToken id key interest) a e = absurd (none-some a e)
noted_from n link (ToldAble id key complete interest) a e = absurd (none-some a e)
noted_from n link (ToldUnsub id) a e = absurd (none-some a e)
noted_from n link (ToldUntoken id) a e = absurd (none-some a e)
noted_from n link (ToldUnable id) a e = absurd (none-some a e)
noted_from n link (ToldEnd interest) a e = absurd (none-some a e)
noted_from n link (Push tree content) a e = absurd (none-some a e)
noted_from n link (Request tree id target content) a e = absurd (none-some a e)
noted_from n link (Response id content) a e = absurd (none-some a e)
noted_from n link (Final id extras) a e = absurd (none-some a e)
noted_from n link (State links) a e = absurd (none-some a e)
noted_from n link (Step source number added decl) a e = absurd (none-some a e)
noted_from n link (Snap source number decls) a e = absurd (none-some a e)

noted_ready : (n : NodeState) (event : Event) (k : ℕ) (a : Asking) → asking_on event k ≡ Some a → leads_to_client (after n event).links k ≡ true → IsNoted a.future a.interest (interests_on (after n event).clients k)
noted_ready n (Up link peer) k a e = absurd (none-some a e)
noted_ready n (Down link) k a e = absurd (none-some a e)
noted_ready n (From link msg) k a e = by (link.0 == k) refl e
  where
    by : (s : Bool) → (link.0 == k) ≡ s → cond s (asking_of msg) None ≡ Some a → leads_to_client (after n (From link msg)).links k ≡ true → IsNoted a.future a.interest (interests_on (after n (From link msg)).clients k)
    by true s f =
        subst (λ (z : ℕ). leads_to_client (after n (From link msg)).links z ≡ true → IsNoted a.future a.interest (interests_on (after n (From link msg)).clients z)) (eqb-true link.0 k s)
        (noted_from n link msg a f)
    by false s f = absurd (none-some a f)

pub to_tell : (n : NodeState) (event : Event) (told : ℕ → ToldMap) (places : Option (List Place)) → IsBefore n event told → places ≡ changed_places n event → IfSome places (λ qs. AreKeys qs) → have_ids n event →
    IsToTell (tables (after n event)) event places told
to_tell n event told places b e keys ids = record {
  ready = record {
    others = others_ready n event told b places e keys;
    away = away_ready n event told b;
    calm = λ h. e ∙ calm n event h;
    noted = noted_ready n event;
    ids = ids;
  };
  gone = gone_ready n event told b;
}

-- ---- after it

pub still_right : (t : TableState) (event : Event) (places : Option (List Place)) (told now : ℕ → ToldMap) → IsToTell t event places told → ((k : ℕ) → now k ≡ told_after t told event k) → IsRight t now
still_right t event places told now h e = record {
  wanted = λ k. subst (λ (m : ToldMap). IsAsWanted (others t k) (interests_on t.clients k) m) (sym (e k)) (by k (leads_to_client t.links k) refl);
  clients = λ k away. (h.ready.away k away).0;
  ids = h.ready.ids;
}
  where
    by : (k : ℕ) (s : Bool) → leads_to_client t.links k ≡ s → IsAsWanted (others t k) (interests_on t.clients k) (cond s (told_with t (told k) k (asking_on event k)) [])
    by k true s = with_wanted t (told k) k (asking_on event k)
    by k false s = subst (λ (is : List LiveInterest). IsAsWanted (others t k) is []) (sym (h.ready.away k s).0) (λ p. refl)
