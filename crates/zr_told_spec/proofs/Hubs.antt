-- After each event of a router its clients were told of what is wanted, and heard just that.
use Rattle.std.proofs.Common.{◌≡◌, ℕ, ◌==◌, Bool, true, false, cond, not, List, [], ◌∷◌, ◌++◌, map, filter, refl, sym, ap, ◌∙◌, subst}
use Rattle.std.specs.declared.option.Option.{Option}
use Rattle.std.specs.declared.option.Option.TheVariants.{None, Some}
use Rattle.std.specs.List.{fold, AllByRecursion}
use Rattle.std.specs.List.Sorted.{IsStrictlySortedBy}
use Rattle.std.specs.Option.{option_map_or, is_some, unwrap_or}
use Rattle.std.specs.Map.{lookup}
use Rattle.std.specs.Ordering.{is_eq, nat_cmp}
use Rattle.std.proofs.lemmas.Bool.{eqb-true, false≢true, true≢false}
use Rattle.std.proofs.lemmas.List.{append-nil}
use Rattle.std.proofs.lemmas.List.Sums.{fold-append}
use Rattle.std.proofs.lemmas.Option.{none-some}
use Rattle.zr_lists.proofs.Numbers.{nat_eq_turned, nat_eq_is}
use Rattle.zr_id.specs.declared.link.LinkNo.{LinkNo}
use Rattle.zr_msg.specs.declared.msg.Msg.{Msg}
use Rattle.zr_lists.specs.Ascending.{at_key, has_key, put, without}
use Rattle.zr_lists.proofs.Places.{none_same}
use Rattle.zr_lists.proofs.Puts.{at-put, at-without, has_at}
use Rattle.zr_lists.proofs.Order.{is_itself, nat_order}
use Rattle.zr_local.specs.Clients.{AreByLink, client_link, interests_on, with_interests}
use Rattle.zr_local.specs.Interests.{interest_id}
use Rattle.zr_local.specs.declared.interest.ClientInterests.{ClientInterests}
use Rattle.zr_local.specs.declared.interest.Interest.{Interest}
use Rattle.zr_msg.specs.declared.peer.LinkPeer.{LinkPeer}
use Rattle.zr_node_spec.specs.Tables.{TableState, is_router, link_at, leads_to_client}
use Rattle.zr_node_spec.specs.Event.{on_link}
use Rattle.zr_node_spec.specs.State.{tables}
use Rattle.zr_node_spec.specs.Table.{sends, after}
use Rattle.zr_node_spec.proofs.Told.{on_link-append}
use Rattle.zr_told_spec.specs.Told.{ToldMap, Heard, hear}
use Rattle.zr_told_spec.specs.Rows.{Maps, map_on, sent_on, others, tells_changes, tells_all, is_again, IsAsWanted}
use Rattle.zr_told_spec.specs.Hub.{by_link, Asking, asking_on, tells_with, told_with, sends_told, told_after, hub_after}
use Rattle.zr_told_spec.specs.Laws.{Agrees, StartAgrees, HeardOn, NothingWithout, TellsEach, NotedIsLive, HubKeeps, HubIsAsWanted, HubForgets}
use Rattle.zr_told_spec.proofs.Events.{nothing_told, as_wanted, changes_keep, interests_keep}
use Rattle.zr_told_spec.proofs.Unheard.{own_unheard}

-- ---- what is heard

pub start_agrees : StartAgrees
start_agrees = record { to = λ p e h. absurd (none-some e h); from = λ n p b h. absurd (none-some (p, b) h); zero_free = refl }

pub heard_on : HeardOn
heard_on xs ys = fold-append hear (λ k. None) xs ys

pub nothing_without : NothingWithout
nothing_without = nothing_told

-- ---- what is said on each link

pub sent_there : (link to : LinkNo) (ms : List Msg) → on_link to (sent_on link ms) ≡ cond (link.0 == to.0) ms []
sent_there link to [] = by (link.0 == to.0)
  where
    none : List Msg
    none = []

    by : (b : Bool) → none ≡ cond b none none
    by true = refl
    by false = refl
sent_there link to (m ∷ ms) = by (link.0 == to.0) (sent_there link to ms)
  where
    by : (b : Bool) → on_link to (sent_on link ms) ≡ cond b ms [] →
        map (λ x. x.1) (cond b ((link, m) ∷ filter (λ x. x.0.0 == to.0) (sent_on link ms)) (filter (λ x. x.0.0 == to.0) (sent_on link ms))) ≡ cond b (m ∷ ms) []
    by true ih = ap (λ z. m ∷ z) ih
    by false ih = ih

each : (t : TableState) (cs : List ClientInterests) (maps : Maps) (to : LinkNo) → AreByLink cs →
    on_link to (tells_all t cs maps) ≡ option_map_or (λ c. tells_changes (others t to.0) c.interests (map_on maps to.0)) (at_key nat_cmp client_link cs to.0) []
unfolding IsStrictlySortedBy
each t [] maps to s = refl
each t (c ∷ cs) maps to s =
    on_link-append to (sent_on c.link said) (tells_all t cs maps)
    ∙ ap (λ z. z ++ on_link to (tells_all t cs maps)) (sent_there c.link to said)
    ∙ by (each t cs maps to s.1) (c.link.0 == to.0) refl
    ∙ ap (λ b. option_map_or of_one (cond b (Some c) (at_key nat_cmp client_link cs to.0)) []) (sym (nat_eq_is c.link.0 to.0))
  where
    said : List Msg
    said = tells_changes (others t c.link.0) c.interests (map_on maps c.link.0)

    of_one : ClientInterests → List Msg
    of_one = λ d. tells_changes (others t to.0) d.interests (map_on maps to.0)

    by : on_link to (tells_all t cs maps) ≡ option_map_or of_one (at_key nat_cmp client_link cs to.0) [] → (b : Bool) → (c.link.0 == to.0) ≡ b →
        cond b said [] ++ on_link to (tells_all t cs maps) ≡ option_map_or of_one (cond b (Some c) (at_key nat_cmp client_link cs to.0)) []
    by ih true q =
        let j : c.link.0 ≡ to.0 = eqb-true c.link.0 to.0 q in
        let o : at_key nat_cmp client_link cs to.0 ≡ None = ap (λ z. at_key nat_cmp client_link cs z) (sym j) ∙ none_same nat_cmp client_link nat_order c.link.0 cs s.0 in
        ap (λ z. said ++ z) (ih ∙ ap (λ z. option_map_or of_one z []) o)
        ∙ append-nil said
        ∙ ap (λ z. tells_changes (others t z) c.interests (map_on maps z)) j
    by ih false q = ih

pub tells_each : TellsEach
tells_each t cs maps s h to = each t cs maps to s ∙ by (at_key nat_cmp client_link cs to.0) refl
  where
    by : (o : Option ClientInterests) → at_key nat_cmp client_link cs to.0 ≡ o →
        option_map_or (λ c. tells_changes (others t to.0) c.interests (map_on maps to.0)) o [] ≡ tells_changes (others t to.0) (option_map_or (λ c. c.interests) o []) (map_on maps to.0)
    by None e = sym (ap (λ (m : ToldMap). tells_changes (others t to.0) [] m) (h to.0 e))
    by (Some c) e = refl

-- ---- an interest is noted

found_with : (cs : List ClientInterests) (link : LinkNo) (is : List Interest) → interests_on (with_interests cs link is) link.0 ≡ is
found_with cs link is =
    ap (λ o. option_map_or (λ c. c.interests) o []) (at-put nat_cmp client_link nat_order cs (record { link = link; interests = is }) link.0)
    ∙ ap (λ b. option_map_or (λ c. c.interests) (cond b (Some (record { link = link; interests = is })) (at_key nat_cmp client_link cs link.0)) []) (is_itself nat_cmp nat_order link.0)

pub noted_is_live : NotedIsLive
noted_is_live cs link true i =
    ap (λ is. at_key nat_cmp interest_id is i.id) (found_with cs link (put nat_cmp interest_id (interests_on cs link.0) i))
    ∙ at-put nat_cmp interest_id nat_order (interests_on cs link.0) i i.id
    ∙ ap (λ b. cond b (Some i) (at_key nat_cmp interest_id (interests_on cs link.0) i.id)) (is_itself nat_cmp nat_order i.id)
noted_is_live cs link false i = by (has_key nat_cmp client_link cs link.0) (has_at nat_cmp client_link nat_order cs link.0)
  where
    rest : List Interest
    rest = without nat_cmp interest_id (interests_on cs link.0) i.id

    none_there : (o : Option ClientInterests) → false ≡ is_some o → at_key nat_cmp interest_id (option_map_or (λ c. c.interests) o []) i.id ≡ None
    none_there None e = refl
    none_there (Some c) e = cc

    by : (b : Bool) → b ≡ is_some (at_key nat_cmp client_link cs link.0) → at_key nat_cmp interest_id (interests_on (cond b (with_interests cs link rest) cs) link.0) i.id ≡ None
    by true e =
        ap (λ is. at_key nat_cmp interest_id is i.id) (found_with cs link rest)
        ∙ at-without nat_cmp interest_id nat_order (interests_on cs link.0) i.id i.id
        ∙ ap (λ b. cond b None (at_key nat_cmp interest_id (interests_on cs link.0) i.id)) (is_itself nat_cmp nat_order i.id)
    by false e = none_there (at_key nat_cmp client_link cs link.0) e

-- ---- a router with its clients

with_keeps : (t : TableState) (m : ToldMap) (k : ℕ) (o : Option Asking) (u : Heard) → Agrees m u → Agrees (told_with t m k o) (fold hear u (tells_with t m k o))
with_keeps t m k None u a = changes_keep (others t k) (interests_on t.clients k) m u a
with_keeps t m k (Some x) u a = interests_keep x.current x.future (others t k) (interests_on t.clients k) x.interest m u a

pub with_wanted : (t : TableState) (m : ToldMap) (k : ℕ) (o : Option Asking) → IsAsWanted (others t k) (interests_on t.clients k) (told_with t m k o)
with_wanted t m k None = as_wanted (λ p. false) (others t k) (interests_on t.clients k) m
with_wanted t m k (Some x) = as_wanted (is_again x.future (others t k) x.interest) (others t k) (interests_on t.clients k) m

-- what is kept by link is found by the number of the link
abbrev pub entries : List LinkPeer → (ℕ → ToldMap) → Maps
entries ls f = map (λ l. (l.link.0, f l.link.0)) ls

abbrev pub to_client : LinkPeer → Bool
to_client l = not (is_router l.peer.role)

on_client : (links : List LinkPeer) (f : ℕ → ToldMap) (k : ℕ) → leads_to_client links k ≡ true → map_on (by_link links f) k ≡ f k
on_client [] f k h = absurd (false≢true h)
on_client (l ∷ ls) f k h = by (l.link.0 == k) (to_client l) refl refl h (on_client ls f k)
  where
    rest : List LinkPeer
    rest = filter to_client ls

    by : (b c : Bool) → (l.link.0 == k) ≡ b → to_client l ≡ c → option_map_or to_client (cond b (Some l) (link_at ls k)) false ≡ true → (leads_to_client ls k ≡ true → map_on (entries rest f) k ≡ f k) →
        map_on (entries (cond c (l ∷ rest) rest) f) k ≡ f k
    by true true e r h ih = ap (λ b. unwrap_or (cond b (Some (f l.link.0)) (lookup (λ j. is_eq (nat_cmp k j)) (entries rest f))) []) (nat_eq_turned k l.link.0 ∙ e) ∙ ap f (eqb-true l.link.0 k e)
    by true false e r h ih = absurd (false≢true (sym r ∙ h))
    by false true e r h ih = ap (λ b. unwrap_or (cond b (Some (f l.link.0)) (lookup (λ j. is_eq (nat_cmp k j)) (entries rest f))) []) (nat_eq_turned k l.link.0 ∙ e) ∙ ih h
    by false false e r h ih = ih h

no_client : (links ls : List LinkPeer) (f : ℕ → ToldMap) (k : ℕ) → AllByRecursion (λ l. link_at links l.link.0 ≡ Some l) ls → leads_to_client links k ≡ false → map_on (entries (filter to_client ls) f) k ≡ []
no_client links [] f k unique h = refl
no_client links (l ∷ ls) f k unique h = by (l.link.0 == k) (to_client l) refl refl (no_client links ls f k unique.1 h)
  where
    rest : List LinkPeer
    rest = filter to_client ls

    by : (b c : Bool) → (l.link.0 == k) ≡ b → to_client l ≡ c → map_on (entries rest f) k ≡ [] → map_on (entries (cond c (l ∷ rest) rest) f) k ≡ []
    by true true e r ih =
        let leads : leads_to_client links k ≡ true =
        ap (leads_to_client links) (sym (eqb-true l.link.0 k e)) ∙ ap (λ (o : Option LinkPeer). option_map_or to_client o false) unique.0 ∙ r in
        absurd (true≢false (sym leads ∙ h))
    by true false e r ih = ih
    by false true e r ih = ap (λ b. unwrap_or (cond b (Some (f l.link.0)) (lookup (λ j. is_eq (nat_cmp k j)) (entries rest f))) []) (nat_eq_turned k l.link.0 ∙ e) ∙ ih
    by false false e r ih = ih

pub hub_keeps : HubKeeps
hub_keeps h event k u c a =
    let t : TableState = tables (after h.node event) in
    let own : List Msg = sends h.node event (record { 0 = k }) in
    let told : List Msg = sends_told t (map_on h.told k) event k in
    let e : fold hear u told ≡ fold hear u (own ++ told) = sym (fold-append hear u own told ∙ ap (λ z. fold hear z told) ((own_unheard h.node event (record { 0 = k })).leaves u)) in
    subst (λ z. Agrees (map_on (hub_after h event).told k) z) e
    (subst (λ z. Agrees z (fold hear u told)) (sym (on_client (after h.node event).links (told_after t (λ j. map_on h.told j) event) k c)) (by (leads_to_client t.links k) c))
  where
    by : (b : Bool) → b ≡ true →
        Agrees (cond b (told_with (tables (after h.node event)) (map_on h.told k) k (asking_on event k)) []) (fold hear u (cond b (tells_with (tables (after h.node event)) (map_on h.told k) k (asking_on event k)) []))
    by true c = with_keeps (tables (after h.node event)) (map_on h.told k) k (asking_on event k) u a
    by false c = cc

pub hub_is_as_wanted : HubIsAsWanted
hub_is_as_wanted h event k c =
    let t : TableState = tables (after h.node event) in
    subst (λ z. IsAsWanted (others t k) (interests_on t.clients k) z) (sym (on_client t.links (told_after t (λ j. map_on h.told j) event) k c)) (by (leads_to_client t.links k) c)
  where
    by : (b : Bool) → b ≡ true →
        IsAsWanted (others (tables (after h.node event)) k) (interests_on (after h.node event).clients k) (cond b (told_with (tables (after h.node event)) (map_on h.told k) k (asking_on event k)) [])
    by true c = with_wanted (tables (after h.node event)) (map_on h.told k) k (asking_on event k)
    by false c = cc

pub hub_forgets : HubForgets
hub_forgets h event k unique c =
    no_client (after h.node event).links (after h.node event).links (told_after (tables (after h.node event)) (λ j. map_on h.told j) event) k unique c
