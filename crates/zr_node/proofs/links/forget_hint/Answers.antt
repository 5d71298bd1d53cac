use Rattle.std.proofs.Common.{◌≡◌, ℕ, Some, None, List, ap, sym, subst, ◌∙◌, refl}
use Rattle.std.specs.BTreeMap.{Updates}
use Rattle.std.specs.Cmp.Lexicographic.{slice_cmp}
use Rattle.std.specs.Ordering.{nat_cmp}
use Rattle.zr_msg.specs.declared.peer.LinkPeer.{LinkPeer}
use Rattle.zr_node_spec.specs.Tables.{link_at}
use Rattle.zr_node.proofs.Places.{found_here, none_here}
use Rattle.zr_node.proofs.Hints.{hinted_down, hinted_still}
use Rattle.zr_node.proofs.links.forget_hint.Goals as goal

pub returns-in-Ok : goal.returns-in-Ok
returns-in-Ok c =
    let links : List LinkPeer = c.args.links.now in
    let found : link_at links c.args.gone.0 ≡ Some c.index-links-at.result = found_here links c.args.gone.0 c.in-Ok.at c.index-links-at.result c.in-Ok.ensures ∙ ap (λ l. Some l) (sym c.index-links-at.is) in
    hinted_down c.args.numbers.now c.forget.new.numbers links c.args.gone.0 c.requires.ascending c.requires.of_links c.index-links-at.result found
    (subst (λ (id : List ℕ). Updates (slice_cmp nat_cmp) c.args.numbers.now c.forget.new.numbers id None) (ap (λ p. p.id) c.peer.view_is ∙ ap (λ (l : LinkPeer). l.peer.id) (sym c.index-links-at.is)) c.forget.ensures)

pub returns-in_default : goal.returns-in_default
returns-in_default c =
    hinted_still c.args.numbers.now c.args.numbers.now c.args.links.now c.args.gone.0 c.requires.ascending c.requires.of_links (none_here c.args.links.now c.args.gone.0 _ c.in_default.ensures) refl
