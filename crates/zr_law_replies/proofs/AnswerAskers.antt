-- Who asked at a router, by name: what the router does for an asker over that one's link it does for the place that the asker has (`deeds_placed`).
use Rattle.std.proofs.Common.{◌≡◌, ℕ, ◌==◌, Bool, true, false, cond, List, [], Option, Some, None, is_some, refl, sym, ap, ◌∙◌}
use Rattle.std.specs.Prelude.{IfSome}
use Rattle.std.specs.List.{find}
use Rattle.std.specs.Option.{option_map, option_map_or, option_and_then}
use Rattle.std.proofs.lemmas.Bool.{false≢true, eqb-true, eq-eqb, false_from_ne_true}
use Rattle.std.proofs.lemmas.Option.{none-some}
use Rattle.zr_id.specs.Zid.{is_named}
use Rattle.zr_id.specs.declared.link.LinkNo.{LinkNo}
use Rattle.zr_msg.specs.declared.peer.LinkPeer.{LinkPeer}
use Rattle.zr_pend_spec.specs.declared.branch.Asker.{Asker}
use Rattle.zr_pend_spec.specs.declared.branch.Branch.{Branch}
use Rattle.zr_pend_spec.specs.Row.{RowState, has}
use Rattle.zr_pend_spec.specs.Pending.{branch, asker_of}
use Rattle.zr_pend_spec.specs.Readings.{back}
use Rattle.zr_node_spec.specs.Tables.{link_at, link_to}
use Rattle.zr_world_spec.specs.World.{RouterState}
use Rattle.zr_world_spec.specs.Sound.{AreUnique}
use Rattle.zr_world_spec.proofs.Links.{named_link, numbered_link}
use Rattle.zr_world_spec.proofs.Names.{names, same_name}
use Rattle.zr_law_numbers.specs.Rows.{AreOfLinks}
use Rattle.zr_law_numbers.specs.Waiting.{Place, place_of, branch_back}
use Rattle.zr_law_numbers.specs.Deeds.{Deed}
use Rattle.zr_law_numbers.proofs.RowsLinks.{asker_passes}
use Rattle.zr_law_replies.proofs.StandBranches.{link_of_number}

-- where an asker is, by name
abbrev pub placed : RouterState → Option Asker → Option Place
placed r o = option_and_then (λ z. place_of r z) o

-- what is done for who asked, by the link and by name: nothing on the links to others
abbrev pub deeds_for : (ℕ → List Deed) → LinkNo → Option Asker → List Deed
deeds_for f to o = option_map_or (λ z. cond (to.0 == z.link.0) (f z.number) []) o []

abbrev pub deeds_to : (ℕ → List Deed) → List ℕ → Option Place → List Deed
deeds_to f y o = option_map_or (λ p. cond (is_named p.name y) (f p.number) []) o []

-- the link of an asker is there
abbrev pub IsThere : RouterState → Option Asker → Type 0
IsThere r o = IfSome o (λ z. is_some (link_at r.node.links z.link.0) ≡ true)

-- who asked the row of a branch that is pending
pub asker_back : (rows : List RowState) (b : Branch) (o : Option Asker) → back rows b ≡ Some o → asker_of b rows ≡ o
asker_back rows b o e = by (find (λ z. has b z) rows) e
  where
    by : (p : Option RowState) → option_map (λ z. z.asker) p ≡ Some o → option_and_then (λ z. z.asker) p ≡ o
    by None k = absurd (none-some o k)
    by (Some z) k = cc

module _ (r : RouterState) (unique : AreUnique r.node.links) where
  -- it is the one to the asker's place, and no other
  asker_link : (z : Asker) (j : LinkPeer) → link_at r.node.links z.link.0 ≡ Some j → (y : List ℕ) (l : LinkPeer) → link_to r.node.links y ≡ Some l → (l.link.0 == z.link.0) ≡ is_named j.peer.id y
  asker_link z j e y l el = by (is_named j.peer.id y) refl
    where
      at : (link_to r.node.links j.peer.id ≡ Some j) × (j.link ≡ z.link)
      at = link_of_number r unique z.link j e

      by : (b : Bool) → is_named j.peer.id y ≡ b → (l.link.0 == z.link.0) ≡ b
      by true k =
          let both : Some j ≡ Some l = sym at.0 ∙ ap (link_to r.node.links) (same_name j.peer.id y k) ∙ el in
          let one : j ≡ l = cc in
          eq-eqb l.link.0 z.link.0 (ap (λ (x : LinkPeer). x.link.0) (sym one) ∙ ap (λ (n : LinkNo). n.0) at.1)
      by false k = false_from_ne_true (l.link.0 == z.link.0) (λ t.
          let both : Some l ≡ Some j = sym (numbered_link r.node.links unique y l el) ∙ ap (link_at r.node.links) (eqb-true l.link.0 z.link.0 t) ∙ e in
          let one : l ≡ j = cc in
          false≢true (sym k ∙ ap (λ (x : LinkPeer). is_named x.peer.id y) (sym one) ∙ ap (λ n. is_named n y) (named_link r.node.links y l el) ∙ names.refl y))

  -- what is done for who asked over the link to a neighbour
  pub deeds_placed : (f : ℕ → List Deed) (o : Option Asker) → IsThere r o → (y : List ℕ) (l : LinkPeer) → link_to r.node.links y ≡ Some l → deeds_for f l.link o ≡ deeds_to f y (placed r o)
  deeds_placed f None there y l el = refl
  deeds_placed f (Some z) there y l el = by (link_at r.node.links z.link.0) refl there
    where
      by : (p : Option LinkPeer) → link_at r.node.links z.link.0 ≡ p → is_some p ≡ true →
          cond (l.link.0 == z.link.0) (f z.number) [] ≡ deeds_to f y (option_map (λ (j : LinkPeer). record { name = j.peer.id; number = z.number }) p)
      by None e k = absurd (false≢true k)
      by (Some j) e k = ap (λ b. cond b (f z.number) []) (asker_link z j e y l el)

  -- nobody asked whose link isn't there
  pub none_placed : (f : ℕ → List Deed) (o : Option Asker) (y : List ℕ) → link_to r.node.links y ≡ None → deeds_to f y (placed r o) ≡ []
  none_placed f None y none = refl
  none_placed f (Some z) y none = by (link_at r.node.links z.link.0) refl
    where
      at : (j : LinkPeer) → link_at r.node.links z.link.0 ≡ Some j → (b : Bool) → is_named j.peer.id y ≡ b → cond b (f z.number) [] ≡ []
      at j e false k = refl
      at j e true k = absurd (false≢true (ap is_some (sym none ∙ ap (link_to r.node.links) (sym (same_name j.peer.id y k)) ∙ (link_of_number r unique z.link j e).0)))

      by : (p : Option LinkPeer) → link_at r.node.links z.link.0 ≡ p → deeds_to f y (option_map (λ (j : LinkPeer). record { name = j.peer.id; number = z.number }) p) ≡ []
      by None e = refl
      by (Some j) e = at j e (is_named j.peer.id y) refl

  -- who asked a branch that is pending is there
  pub back_there : AreOfLinks r.node → (b : Branch) (o : Option Asker) → back r.node.pending b ≡ Some o → IsThere r o
  back_there of b None e = tt
  back_there of b (Some z) e = asker_passes (λ n. is_some (link_at r.node.links n) ≡ true) r.node.pending b z of.askers e

  -- a number that is pending for a place is pending for the asker that has it
  pub pending_by : (y : List ℕ) (l : LinkPeer) → link_to r.node.links y ≡ Some l → (n : ℕ) (by : Option Place) → branch_back r y n ≡ Some by →
      (o : Option Asker) × (back r.node.pending (branch l.link n) ≡ Some o) × (placed r o ≡ by)
  pending_by y l el n by h =
      at (back r.node.pending (branch l.link n)) refl
      (sym (ap (λ p. option_and_then (λ (j : LinkPeer). option_map (λ o. option_and_then (λ from. place_of r from) o) (back r.node.pending (branch j.link n))) p) el) ∙ h)
    where
      at : (b : Option (Option Asker)) → back r.node.pending (branch l.link n) ≡ b → option_map (λ o. option_and_then (λ from. place_of r from) o) b ≡ Some by →
          (o : Option Asker) × (back r.node.pending (branch l.link n) ≡ Some o) × (placed r o ≡ by)
      at None e k = absurd (none-some by k)
      at (Some o) e k = (o, e, some_is (placed r o) k)
        where
          some_is : (p : Option Place) → Some p ≡ Some by → p ≡ by
          some_is p k = cc
