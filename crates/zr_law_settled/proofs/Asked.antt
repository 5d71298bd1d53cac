-- A router never hears that a client takes back what it has not declared: what is oldest on a client's wire asks for an id that has a row.
use Rattle.std.proofs.Common.{◌≡◌, ℕ, Bool, true, false, cond, List, [], ◌∷◌, Some, None, sym, ap, ◌∙◌, subst}
use Rattle.zr_msg.specs.declared.decl.Kind.TheVariants as kind
use Rattle.zr_msg.specs.declared.msg.Msg.{Msg}
use Rattle.zr_msg.specs.declared.msg.Msg.TheVariants.{Unsub, Untoken, Unable}
use Rattle.zr_msg.specs.declared.peer.LinkPeer.{LinkPeer}
use Rattle.zr_local.specs.Rows.{refuses_undeclare}
use Rattle.zr_local.specs.declared.error.LocalError.TheVariants.{UnknownId}
use Rattle.zr_node_spec.specs.Tables.{link_to}
use Rattle.zr_node_spec.specs.Table.{key_of}
use Rattle.zr_world_spec.specs.World.{Tagged, RouterState, ClientState, EndState, WorldState, router_of, client_of, end_of, is_unbroken, wire_at}
use Rattle.zr_law_settled.proofs.Spreading.{Name}
use Rattle.zr_law_settled.proofs.Moving.{unbroken_at}
use Rattle.zr_law_settled.proofs.Declaring.{IsAsked, AreAsked, has_rows}
use Rattle.zr_law_settled.proofs.ClientRows.{ClientsHold}

module _ (w : WorldState) (h : ClientsHold w) (x name : Name) (r : RouterState) (s : ClientState) (l : LinkPeer) (found : router_of w.routers x ≡ Some r) (client : client_of w.clients name ≡ Some s)
    (linked : link_to r.node.links name ≡ Some l) (e : EndState) (at_end : end_of w.ends (x, name) ≡ Some e) (tag : ℕ) (xs : List Tagged) where
  pub oldest_asked : (msg : Msg) → e.wire ≡ record { msg = msg; tag = tag } ∷ xs → IsAsked (has_rows r.node.rows l.link.0) msg
  oldest_asked msg front = by e.unbroken (ap unbroken_at at_end)
    where
      wire : wire_at (end_of w.ends (x, name)) ≡ record { msg = msg; tag = tag } ∷ xs
      wire = ap wire_at at_end ∙ front

      by : (b : Bool) → is_unbroken w.ends (x, name) ≡ b → IsAsked (has_rows r.node.rows l.link.0) msg
      by true whole = (subst (λ ws. AreAsked (has_rows r.node.rows l.link.0) ws) wire (h.hears x name r s l found client linked whole).asked).0
      by false cut = let no : record { msg = msg; tag = tag } ∷ xs ≡ [] = sym wire ∙ h.emptied x name s client cut in absurd (cc)

  pub unsub_taken : (id : ℕ) → e.wire ≡ record { msg = Unsub id; tag = tag } ∷ xs → refuses_undeclare r.node.rows (key_of l.link.0 id kind.Sub) ≡ None
  unsub_taken id front = ap (λ t. cond t None (Some UnknownId)) (oldest_asked (Unsub id) front)

  pub untoken_taken : (id : ℕ) → e.wire ≡ record { msg = Untoken id; tag = tag } ∷ xs → refuses_undeclare r.node.rows (key_of l.link.0 id kind.Token) ≡ None
  untoken_taken id front = ap (λ t. cond t None (Some UnknownId)) (oldest_asked (Untoken id) front)

  pub unable_taken : (id : ℕ) → e.wire ≡ record { msg = Unable id; tag = tag } ∷ xs → refuses_undeclare r.node.rows (key_of l.link.0 id kind.Able) ≡ None
  unable_taken id front = ap (λ t. cond t None (Some UnknownId)) (oldest_asked (Unable id) front)
