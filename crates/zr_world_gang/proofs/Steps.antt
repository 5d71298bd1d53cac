-- What a share goes through, one message after another.
use Rattle.std.proofs.Common.{◌≡◌, ℕ, Bool, true, false, cond, List, [], ◌∷◌, ◌++◌, Option, Some, None, refl, sym, ap, ◌∙◌, subst}
use Rattle.std.specs.Prelude.{is_some}
use Rattle.std.specs.List.{AllByRecursion}
use Rattle.std.specs.Option.{option_map}
use Rattle.std.proofs.lemmas.Bool.{eq-eqb, false≢true}
use Rattle.zr_id.specs.Zid.{is_named}
use Rattle.zr_id.specs.declared.link.LinkNo.{LinkNo}
use Rattle.zr_msg.specs.declared.event.Event.TheVariants.{From}
use Rattle.zr_msg.specs.declared.msg.Msg.{Msg}
use Rattle.zr_msg.specs.declared.msg.Msg.TheVariants.{Push}
use Rattle.zr_msg.specs.Peer.{PeerState}
use Rattle.zr_msg.specs.declared.peer.LinkPeer.{LinkPeer}
use Rattle.zr_node_spec.specs.Tables.{is_link, is_router, link_at, link_to}
use Rattle.zr_node_spec.specs.State.{NodeState}
use Rattle.zr_node_spec.specs.Table.{after}
use Rattle.zr_script_spec.specs.declared.report.ReportLine.TheVariants.{Handled}
use Rattle.zr_script_spec.specs.Report.{line_text}
use Rattle.zr_told_spec.specs.Hub.{HubState, HubSends, hub_after}
use Rattle.zr_world_spec.specs.Fan.{is_sample}
use Rattle.zr_world_gang.specs.declared.message.Waiting.{Waiting}
use Rattle.zr_world_gang.specs.Shares.{ShareState, MayBeHandled, with_input, to_router, to_client, over, all_over, heard, HasHandled}

-- ---- a message over a link

over_hub : (s : ShareState) (tag : ℕ) (o : Option LinkPeer) (msg : Msg) → (over s tag o msg).hub ≡ s.hub
over_hub s tag None msg = refl
over_hub s tag (Some l) msg = by (is_router l.peer.role)
  where
    by : (b : Bool) → (cond b (to_router s l.peer.id msg tag) (to_client s l.peer.id msg tag)).hub ≡ s.hub
    by true = refl
    by false = refl

over_input : (s : ShareState) (tag : ℕ) (o : Option LinkPeer) (msg : Msg) → (over s tag o msg).input ≡ s.input
over_input s tag None msg = refl
over_input s tag (Some l) msg = by (is_router l.peer.role)
  where
    by : (b : Bool) → (cond b (to_router s l.peer.id msg tag) (to_client s l.peer.id msg tag)).input ≡ s.input
    by true = refl
    by false = refl

pub all_over_hub : (s : ShareState) (tag : ℕ) (ms : List (LinkNo × Msg)) → (all_over s tag ms).hub ≡ s.hub
all_over_hub s tag [] = refl
all_over_hub s tag (m ∷ ms) = all_over_hub (over s tag (link_at s.hub.node.links m.0.0) m.1) tag ms ∙ over_hub s tag (link_at s.hub.node.links m.0.0) m.1

pub all_over_input : (s : ShareState) (tag : ℕ) (ms : List (LinkNo × Msg)) → (all_over s tag ms).input ≡ s.input
all_over_input s tag [] = refl
all_over_input s tag (m ∷ ms) = all_over_input (over s tag (link_at s.hub.node.links m.0.0) m.1) tag ms ∙ over_input s tag (link_at s.hub.node.links m.0.0) m.1

-- over a link that is up it goes to who stands at its other end, and over another nowhere
pub over_peer : (s t : ShareState) (tag : ℕ) (o : Option LinkPeer) (msg : Msg) (peer : PeerState) → Some peer ≡ option_map (λ l. l.peer) o →
    t ≡ cond (is_router peer.role) (to_router s peer.id msg tag) (to_client s peer.id msg tag) → t ≡ over s tag o msg
over_peer s t tag None msg peer found is = absurd (cc)
over_peer s t tag (Some l) msg peer found is =
    let same : l.peer ≡ peer = cc in
    is ∙ sym (ap (λ (p : PeerState). cond (is_router p.role) (to_router s p.id msg tag) (to_client s p.id msg tag)) same)

pub over_none : (s : ShareState) (tag : ℕ) (o : Option LinkPeer) (msg : Msg) → None ≡ option_map (λ l. l.peer) o → s ≡ over s tag o msg
over_none s tag None msg none = refl
over_none s tag (Some l) msg none = absurd (cc)

-- the router has handled a message: all else of the share is as it was
pub heard_is : (old self : ShareState) (hub : HubState) (lines : List (List ℕ)) (m : Waiting) → old ≡ self → hub ≡ hub_after old.hub (From m.from m.msg) →
    lines ≡ old.handled ++ line_text (Handled old.name m.name m.msg m.tag) ∷ [] →
    record { name = old.name; hub = hub; input = old.input; output = old.output; handled = lines; taken = old.taken; sent = old.sent; lines = old.lines; text = old.text; kinds = old.kinds } ≡ heard self m
heard_is old self hub lines m is hears more =
    (λ i. record { name = old.name; hub = hears i; input = old.input; output = old.output; handled = more i; taken = old.taken; sent = old.sent; lines = old.lines; text = old.text; kinds = old.kinds })
    ∙ ap (λ z. heard z m) is

-- ---- a link by its neighbour, and by its number

-- a link to a neighbour is there by its number too
link_there : (links : List LinkPeer) (name : List ℕ) (l : LinkPeer) → link_to links name ≡ Some l → is_some (link_at links l.link.0) ≡ true
link_there [] name l h = absurd (cc)
link_there (k ∷ ks) name l h = by (is_named k.peer.id name) h (link_there ks name l)
  where
    more : (b : Bool) → is_some (link_at ks l.link.0) ≡ true → is_some (cond b (Some k) (link_at ks l.link.0)) ≡ true
    more true g = refl
    more false g = g

    by : (b : Bool) → cond b (Some k) (link_to ks name) ≡ Some l → (link_to ks name ≡ Some l → is_some (link_at ks l.link.0) ≡ true) →
        is_some (cond (is_link l.link.0 k) (Some k) (link_at ks l.link.0)) ≡ true
    by true e rest =
        let same : k ≡ l = cc in
        ap (λ b. is_some (cond b (Some k) (link_at ks l.link.0))) (ap (λ z. is_link l.link.0 z) same ∙ eq-eqb l.link.0 l.link.0 refl)
    by false e rest = more (is_link l.link.0 k) (rest e)

pub link_of_number : (o : Option LinkPeer) (n : LinkNo) → option_map (λ l. l.link) o ≡ Some n → (l : LinkPeer) × (o ≡ Some l) × (l.link ≡ n)
link_of_number None n h = absurd (cc)
link_of_number (Some l) n h = (l, refl, cc)

there_by_number : (links : List LinkPeer) (name : List ℕ) (n : LinkNo) → option_map (λ l. l.link) (link_to links name) ≡ Some n → is_some (link_at links n.0) ≡ true
there_by_number links name n h =
    let l = link_of_number (link_to links name) n h in
    subst (λ (z : LinkNo). is_some (link_at links z.0) ≡ true) l.2 (link_there links name l.0 l.1)

-- ---- a message is handled

-- a sample leaves the links of a router
sample_links : (n : NodeState) (l : LinkNo) (msg : Msg) → is_sample msg ≡ true → (after n (From l msg)).links ≡ n.links
sample_links n l (Push tree content) h = refl
sample_links n l other h = absurd (false≢true h)

pub handled_links : (s : ShareState) (m : Waiting) (out : List (LinkNo × Msg)) → is_sample m.msg ≡ true → (all_over (heard s m) m.tag out).hub.node.links ≡ s.hub.node.links
handled_links s m out h = ap (λ (z : HubState). z.node.links) (all_over_hub (heard s m) m.tag out) ∙ sample_links s.hub.node m.from m.msg h

-- What is left to be handled comes to what all of it comes to; nothing waits meanwhile, and what is left may be handled.
abbrev pub IsLeft : ShareState → List Waiting → ShareState → List Waiting → Type 0
IsLeft start all now rest = ((t : ShareState) → HasHandled now rest t → HasHandled start all t) × (now.input ≡ []) × MayBeHandled now.hub rest

pub none_waits : (hub : HubState) (ms : List Waiting) → ms ≡ [] → MayBeHandled hub ms
none_waits hub ms none = subst (λ (z : List Waiting). MayBeHandled hub z) (sym none) tt

pub left_first : (old now : ShareState) (input rest : List Waiting) → now ≡ with_input old [] → input ≡ old.input → MayBeHandled old.hub input → rest ≡ input →
    IsLeft (with_input old []) old.input now rest
left_first old now input rest is same may whole = (
  λ t h. subst (λ (z : ShareState). HasHandled z old.input t) is (subst (λ (z : List Waiting). HasHandled now z t) (whole ∙ same) h),
  ap (λ (z : ShareState). z.input) is,
  subst (λ (z : ShareState). MayBeHandled z.hub rest) (sym is) (subst (λ (z : List Waiting). MayBeHandled old.hub z) (sym whole) may),
)

may_first : (hub : HubState) (before rest : List Waiting) (m : Waiting) → MayBeHandled hub before → before ≡ m ∷ rest →
    ((is_sample m.msg ≡ true) × (option_map (λ l. l.link) (link_to hub.node.links m.name) ≡ Some m.from)) × MayBeHandled hub rest
may_first hub before rest m may is = subst (λ (z : List Waiting). MayBeHandled hub z) is may

pub left_may : (start now : ShareState) (all before rest : List Waiting) (m : Waiting) → IsLeft start all now before → before ≡ m ∷ rest → is_some (link_at now.hub.node.links m.from.0) ≡ true
left_may start now all before rest m h is = there_by_number now.hub.node.links m.name m.from (may_first now.hub before rest m h.2 is).0.1

pub left_next : (start s t : ShareState) (all before rest : List Waiting) (m : Waiting) → IsLeft start all s before → before ≡ m ∷ rest →
    (out : List (LinkNo × Msg)) × HubSends s.hub (From m.from m.msg) [] out × (t ≡ all_over (heard s m) m.tag out) → IsLeft start all t rest
left_next start s t all before rest m h is one =
    let may = may_first s.hub before rest m h.2 is in
    let links : t.hub.node.links ≡ s.hub.node.links = ap (λ (z : ShareState). z.hub.node.links) one.2 ∙ handled_links s m one.0 may.0.0 in (
      λ u k. h.0 u (subst (λ (z : List Waiting). HasHandled s z u) (sym is) (one.0, one.1, subst (λ (z : ShareState). HasHandled z rest u) one.2 k)),
      ap (λ (z : ShareState). z.input) one.2 ∙ all_over_input (heard s m) m.tag one.0 ∙ h.1,
      subst (λ (ls : List LinkPeer). AllByRecursion (λ (x : Waiting). (is_sample x.msg ≡ true) × (option_map (λ l. l.link) (link_to ls x.name) ≡ Some x.from)) rest) (sym links) may.1,
    )

pub left_end : (start now : ShareState) (all rest : List Waiting) → IsLeft start all now rest → rest ≡ [] → HasHandled start all now
left_end start now all rest h none = h.0 now (subst (λ (z : List Waiting). HasHandled now z now) (sym none) refl)

-- ---- a sample waits

pub received : (s now : ShareState) (from : List ℕ) (msg : Msg) (tag : ℕ) (link : LinkNo) → option_map (λ l. l.link) (link_to s.hub.node.links from) ≡ Some link →
    now ≡ with_input s (s.input ++ record { from = link; name = from; msg = msg; tag = tag } ∷ []) →
    (l : LinkPeer) × (link_to s.hub.node.links from ≡ Some l) × (now ≡ with_input s (s.input ++ record { from = l.link; name = from; msg = msg; tag = tag } ∷ []))
received s now from msg tag link found is =
    let l = link_of_number (link_to s.hub.node.links from) link found in
    (l.0, l.1, is ∙ ap (λ z. with_input s (s.input ++ record { from = z; name = from; msg = msg; tag = tag } ∷ [])) (sym l.2))

pub may_more : (hub : HubState) (ms : List Waiting) (m : Waiting) → MayBeHandled hub ms → is_sample m.msg ≡ true → option_map (λ l. l.link) (link_to hub.node.links m.name) ≡ Some m.from →
    MayBeHandled hub (ms ++ m ∷ [])
may_more hub [] m h sample found = ((sample, found), tt)
may_more hub (x ∷ xs) m h sample found = (h.0, may_more hub xs m h.1 sample found)
