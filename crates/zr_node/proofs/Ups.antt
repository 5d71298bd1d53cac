-- The Up of a link, and what is sent behind the records where a router comes or goes.
use Rattle.std.proofs.Common.{◌≡◌, ℕ, List, [], Option, Some, None, IfSome, refl, sym, ap, subst, ◌∙◌}
use Rattle.std.specs.Option.{IfNone}
use Rattle.zr_graph.specs.Base.{BaseState}
use Rattle.zr_id.specs.Record.{RecordState}
use Rattle.zr_id.specs.declared.link.LinkNo.{LinkNo}
use Rattle.zr_log.specs.Known.{KnownState}
use Rattle.zr_msg.specs.declared.msg.Msg.{Msg}
use Rattle.zr_msg.specs.Peer.{PeerState}
use Rattle.zr_msg.specs.declared.peer.Role.{Role}
use Rattle.zr_msg.specs.declared.peer.Role.TheVariants.{Client, Router}
use Rattle.zr_node_spec.specs.State.{NodeState, new_link, tables}
use Rattle.zr_node_spec.specs.Table.{with_base, with_link, without_link, joined, own_link, parted}
use Rattle.zr_node_spec.proofs.NoNewChildren.{no_new_children}
use Rattle.zr_query.proofs.Told.{tells_nothing}
use Rattle.zr_node.specs.Done.{IsLeft}
use Rattle.zr_node.specs.Steps.{with_links, with_table, ended_on, up_as, up_part, join_part, parted_from, parting_part, down_part, news_to}
use Rattle.zr_node.proofs.Done.{IsFirst}

-- a client has come: nothing is sent
pub client_up : (n : NodeState) (link : LinkNo) (peer : PeerState) (now : NodeState) (said : List (LinkNo × Msg)) → peer.role ≡ Client → now ≡ with_links n (with_link n.links (new_link link peer))
    → IsLeft (up_part n link peer peer.role) now said said
client_up n link peer now said is e =
    subst (λ (role : Role). IsLeft (up_part n link peer role) now said said) (sym is)
    (record { allowed = refl; state = e; sends = tells_nothing (up_part n link peer Client).sends said (λ to. no_new_children (tables (up_as n link peer Client)) n.base.records refl to) })

-- the records go first, and then the snapshots for new children
pub join_first : (n : NodeState) (link : LinkNo) (peer : PeerState) → IsFirst (join_part n link peer) (up_part n link peer Router) (λ to. news_to n (up_as n link peer Router) to)
join_first n link peer = record { before = refl; refused = refl; sends = λ to. refl }

pub part_first : (n : NodeState) (link : LinkNo) (peer : PeerState) → IsFirst (parting_part n link.0 peer) (down_part n link.0 peer) (λ to. news_to n (parted_from n link.0 peer) to)
part_first n link peer = record { before = refl; refused = refl; sends = λ to. refl }

if_none : {X : Type 0} (o : Option X) (P Q : Type 0) → (P → Q) → IfNone o P → IfNone o Q
if_none None P Q f h = f h
if_none (Some x) P Q f h = h

-- they are those by the records before the event, where the logs and the router are as they were
pub news_told : (P : NodeState → List RecordState → Type 0) (n now left : NodeState) (before : Option BaseState) → now ≡ left → left.known ≡ n.known
    → IfSome before (λ b. b ≡ n.base) → IfNone before (n.known.logs ≡ []) → left.base.me ≡ n.base.me
    → ((base : BaseState) → base.me ≡ now.base.me → IfSome before (λ b. b ≡ base) → IfNone before (now.known.logs ≡ []) → P now base.records) → P left n.base.records
news_told P n now left before e same some none me h =
    subst (λ (m : NodeState). P m n.base.records) e
    (h n.base (sym (ap (λ (m : NodeState). m.base.me) e ∙ me)) some
    (if_none before (n.known.logs ≡ []) (now.known.logs ≡ []) (λ k. ap (λ (m : NodeState). m.known.logs) e ∙ ap (λ (l : KnownState). l.logs) same ∙ k) none))

-- what is left of a router by the two steps of the Up of a router, and of its Down
pub up_state : (n first second last : NodeState) (link : LinkNo) (peer : PeerState) → first ≡ n → second ≡ with_base first (joined first.base (own_link peer))
    → last ≡ with_links second (with_link second.links (new_link link peer)) → last ≡ up_as n link peer Router
up_state n first second last link peer e f g =
    g ∙ ap (λ (m : NodeState). with_links m (with_link m.links (new_link link peer))) (f ∙ ap (λ (m : NodeState). with_base m (joined m.base (own_link peer))) e)

pub down_state : (n first second last : NodeState) (link : ℕ) (peer : PeerState) → first ≡ n → second ≡ with_table (with_base first (parted first.base peer.id)) (ended_on first link)
    → last ≡ with_links second (without_link second.links link) → last ≡ parted_from n link peer
down_state n first second last link peer e f g =
    g ∙ ap (λ (m : NodeState). with_links m (without_link m.links link)) (f ∙ ap (λ (m : NodeState). with_table (with_base m (parted m.base peer.id)) (ended_on m link)) e)
