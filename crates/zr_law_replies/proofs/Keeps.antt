-- Who asked a number that is pending has its request kept at the router where it is pending (`asker_keeps`).
use Rattle.std.proofs.Common.{◌≡◌, ℕ, Bool, true, false, List, Option, Some, None, refl, sym, ap, ◌∙◌}
use Rattle.std.specs.Prelude.{◌&&◌, if◌then◌else◌}
use Rattle.std.specs.List.{find}
use Rattle.std.specs.Option.{option_map, option_map_or, option_and_then}
use Rattle.std.proofs.lemmas.Bool.{false≢true, eqb-true}
use Rattle.std.proofs.lemmas.Option.{none-some}
use Rattle.zr_id.specs.Zid.{is_named}
use Rattle.zr_graph.proofs.Names.{same_refl}
use Rattle.zr_lists.proofs.Finds.{find_in}
use Rattle.zr_lists.proofs.Elements.{each_in}
use Rattle.zr_msg.specs.declared.peer.LinkPeer.{LinkPeer}
use Rattle.zr_pend_spec.specs.declared.branch.Asker.{Asker}
use Rattle.zr_pend_spec.specs.Row.{RowState, has}
use Rattle.zr_pend_spec.specs.Pending.{asked, branch}
use Rattle.zr_pend_spec.specs.Readings.{back}
use Rattle.zr_node_spec.specs.Tables.{is_link, link_at, link_to}
use Rattle.zr_world_spec.specs.Acts.{has_number}
use Rattle.zr_world_spec.specs.World.{RouterState, ClientState, WorldState, router_of, client_of}
use Rattle.zr_world_spec.specs.Sound.{AreUnique, IsSound}
use Rattle.zr_law_settled.proofs.Orderly.{Orderly}
use Rattle.zr_law_numbers.specs.Waiting.{Place, place_of, row_kept, is_kept_by, branch_back, back_at}
use Rattle.zr_law_numbers.proofs.RowsKept.{found_asked}
use Rattle.zr_law_numbers.proofs.Waits.{router_keeps, router_back, client_back, nobody_back}
use Rattle.zr_law_numbers.proofs.Whole.{router_alone}

-- ---- one router

module _ (r : RouterState) (unique : AreUnique r.node.links) (y : List ℕ) (k : ℕ) (p : Place) where
  -- the row of a branch keeps who asked it
  row_asked : (b : ℕ) (l : LinkPeer) (a : Asker) → back r.node.pending (branch l.link b) ≡ Some (Some a) → asked a r.node.pending ≡ true
  row_asked b l a e = found_asked (λ z. has (branch l.link b) z) r.node.pending a (by (find (λ z. has (branch l.link b) z) r.node.pending) e)
    where
      by : (o : Option RowState) → option_map (λ z. z.asker) o ≡ Some (Some a) → option_and_then (λ z. z.asker) o ≡ Some a
      by None f = absurd (none-some (Some a) f)
      by (Some z) f = some_is z.asker f
        where
          some_is : (o : Option Asker) → Some o ≡ Some (Some a) → o ≡ Some a
          some_is o g = cc

  pub row_keeps : branch_back r y k ≡ Some (Some p) → row_kept r p.name p.number ≡ true
  row_keeps e = over (link_to r.node.links y) e
    where
      linked : (l la : LinkPeer) (a : Asker) → back r.node.pending (branch l.link k) ≡ Some (Some a) → link_at r.node.links a.link.0 ≡ Some la →
          record { name = la.peer.id; number = a.number } ≡ p → row_kept r p.name p.number ≡ true
      linked l la a f g h =
          let there = find_in (λ z. is_link a.link.0 z) r.node.links la g in
          let number : la.link.0 ≡ a.link.0 = eqb-true la.link.0 a.link.0 there.1 in
          ap (λ (q : Place). row_kept r q.name q.number) (sym h)
          ∙ ap (λ o. option_map_or (λ (z : LinkPeer). asked (record { link = z.link; number = a.number }) r.node.pending) o false) (each_in (λ (z : LinkPeer). link_to r.node.links z.peer.id ≡ Some z) r.node.links la unique.names there.0)
          ∙ (λ i. asked (record { link = record { 0 = number i }; number = a.number }) r.node.pending) ∙ row_asked k l a f

      placed : (l : LinkPeer) (a : Asker) → back r.node.pending (branch l.link k) ≡ Some (Some a) → (o : Option LinkPeer) → link_at r.node.links a.link.0 ≡ o →
          option_map (λ (z : LinkPeer). record { name = z.peer.id; number = a.number }) o ≡ Some p → row_kept r p.name p.number ≡ true
      placed l a f None g h = absurd (none-some p h)
      placed l a f (Some la) g h = linked l la a f g (some_is (record { name = la.peer.id; number = a.number }) h)
        where
          some_is : (q : Place) → Some q ≡ Some p → q ≡ p
          some_is q z = cc

      of_row : (l : LinkPeer) (o : Option (Option Asker)) → back r.node.pending (branch l.link k) ≡ o → option_map (λ q. option_and_then (λ from. place_of r from) q) o ≡ Some (Some p) → row_kept r p.name p.number ≡ true
      of_row l None f g = absurd (none-some (Some p) g)
      of_row l (Some None) f g = absurd (cc)
      of_row l (Some (Some a)) f g = placed l a f (link_at r.node.links a.link.0) refl (some_is (place_of r a) g)
        where
          some_is : (o : Option Place) → Some o ≡ Some (Some p) → o ≡ Some p
          some_is o z = cc

      over : (o : Option LinkPeer) →
          option_and_then (λ l. option_map (λ q. option_and_then (λ from. place_of r from) q) (back r.node.pending (branch l.link k))) o ≡ Some (Some p) → row_kept r p.name p.number ≡ true
      over None f = absurd (none-some (Some p) f)
      over (Some l) f = of_row l (back r.node.pending (branch l.link k)) refl f

-- ---- of a world

pub asker_keeps : (w : WorldState) → IsSound w → Orderly w → (x y : List ℕ) (k : ℕ) (p : Place) → is_named p.name x ≡ false → back_at w x y k ≡ Some (Some p) → is_kept_by w p.name x p.number ≡ true
asker_keeps w sound orderly x y k p apart e = by (router_of w.routers x) refl (client_of w.clients x) refl
  where
    itself : (s : ClientState) (b : Bool) → (if b then Some (Some (record { name = x; number = k })) else None) ≡ Some (Some p) → is_kept_by w p.name x p.number ≡ true
    itself s true f =
        let one : record { name = x; number = k } ≡ p = some_is (record { name = x; number = k }) f in
        absurd (false≢true (sym apart ∙ ap (λ (q : Place). is_named q.name x) (sym one) ∙ same_refl x))
      where
        some_is : (q : Place) → Some (Some q) ≡ Some (Some p) → q ≡ p
        some_is q z = cc
    itself s false f = absurd (none-some (Some p) f)

    by : (o : Option RouterState) → router_of w.routers x ≡ o → (c : Option ClientState) → client_of w.clients x ≡ c → is_kept_by w p.name x p.number ≡ true
    by (Some r) f c g =
        let alone = router_alone w orderly x r f in
        router_keeps w p.name x r f alone p.number ∙ row_keeps r (sound.unique x r f) y k p (sym (router_back w x y r f alone k) ∙ e)
    by None f (Some s) g = itself s (is_named s.router y && has_number s.queries k) (sym (client_back w x y s f g k) ∙ e)
    by None f None g = absurd (none-some (Some p) (sym (nobody_back w x y f g k) ∙ e))
