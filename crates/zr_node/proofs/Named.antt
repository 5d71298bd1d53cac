-- The link that a hint names is the one to the neighbour, where each link is the one of its peer.
use Rattle.std.proofs.Common.{◌≡◌, ℕ, true, false, List, Option, Some, None, option_map, refl, sym, ap, ◌∙◌}
use Rattle.std.specs.Option.{option_map_or}
use Rattle.std.proofs.lemmas.Bool.{false≢true, eqb-true}
use Rattle.zr_lists.proofs.Each.{found_holds}
use Rattle.zr_id.specs.Zid.{is_named}
use Rattle.zr_id.specs.declared.link.LinkNo.{LinkNo}
use Rattle.zr_graph.proofs.Names.{same_is}
use Rattle.zr_node_spec.specs.Event.{AreLinks}
use Rattle.zr_msg.specs.declared.peer.LinkPeer.{LinkPeer}
use Rattle.zr_node_spec.specs.Tables.{link_at, link_to, is_link}
use Rattle.zr_node.specs.Hints.{leads_to}

numbered : (m n : LinkNo) → m.0 ≡ n.0 → m ≡ n
numbered m n e = λ i. record { 0 = e i }

pub hinted_is : (me : List ℕ) (links : List LinkPeer) (number : LinkNo) (name : List ℕ) → AreLinks me links → leads_to links number name ≡ true → Some number ≡ option_map (λ l. l.link) (link_to links name)
hinted_is me links number name h t = by (link_at links number.0) refl t
  where
    by : (o : Option LinkPeer) → link_at links number.0 ≡ o → option_map_or (λ l. is_named l.peer.id name) o false ≡ true → Some number ≡ option_map (λ l. l.link) (link_to links name)
    by None e f = absurd (false≢true f)
    by (Some l) e f =
        let facts = found_holds (λ k. link_to links k.peer.id ≡ Some k) (λ k. is_link number.0 k) links l h.names e in
        let same : l.link ≡ number = numbered l.link number (eqb-true l.link.0 number.0 facts.1) in
        ap Some (sym same) ∙ ap (option_map (λ k. k.link)) (sym facts.0) ∙ ap (λ z. option_map (λ k. k.link) (link_to links z)) (same_is l.peer.id name f)
