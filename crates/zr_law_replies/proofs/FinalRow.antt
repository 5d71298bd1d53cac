-- What is left of the row of who asked, where one of its branches ends: by name, and by who then gets the final (`row_left`).
use Rattle.std.proofs.Common.{◌≡◌, ℕ, suc, ◌==◌, Bool, true, false, cond, not, List, [], ◌∷◌, length, Option, Some, None, ◌⊎◌, inl, inr, is_some, refl, sym, ap, ◌∙◌, subst, arith}
use Rattle.std.specs.List.{AllByRecursion, find, filter_map}
use Rattle.std.specs.Option.{option_map, option_map_or, option_and_then}
use Rattle.std.proofs.lemmas.Bool.{false≢true, eqb-true, false_from_ne_true}
use Rattle.std.proofs.lemmas.Option.{none-some}
use Rattle.zr_msg.specs.declared.peer.LinkPeer.{LinkPeer}
use Rattle.zr_pend_spec.specs.declared.branch.Asker.{Asker}
use Rattle.zr_pend_spec.specs.declared.branch.Branch.{Branch}
use Rattle.zr_pend_spec.specs.Row.{RowState, is_branch, is_asked_by}
use Rattle.zr_pend_spec.specs.Pending.{branch, branches, final_to}
use Rattle.zr_pend_spec.specs.Readings.{back, row_of, but_for, final_if_none}
use Rattle.zr_pend_spec.proofs.Readings.{finished_is}
use Rattle.zr_node_spec.specs.Tables.{link_at, link_to}
use Rattle.zr_lists.proofs.Each.{All-front, All-back, All-kept}
use Rattle.zr_world_spec.specs.World.{RouterState}
use Rattle.zr_world_spec.specs.Sound.{AreUnique}
use Rattle.zr_world_spec.proofs.Links.{named_link, numbered_link}
use Rattle.zr_law_queries.specs.Query.{is_empty}
use Rattle.zr_law_numbers.specs.Rows.{AreOfLinks}
use Rattle.zr_law_numbers.specs.Waiting.{Place}
use Rattle.zr_law_replies.specs.Stands.{place, branch_place, row_places}
use Rattle.zr_law_replies.proofs.StandRows.{without, places_without, places_empty}
use Rattle.zr_law_replies.proofs.StandBranches.{link_of_number}
use Rattle.zr_law_replies.proofs.AnswerAskers.{placed, IsThere, back_there}

-- what holds of all branches holds of those of a row
row_all : (P : Branch → Type 0) (rows : List RowState) (a : Asker) → AllByRecursion P (branches rows) → AllByRecursion P (row_of a rows)
row_all P [] a h = tt
row_all P (r ∷ rows) a h = by (is_asked_by a r) (row_all P rows a (All-back P r.branches (branches rows) h))
  where
    by : (b : Bool) → AllByRecursion P (row_of a rows) → AllByRecursion P (option_map_or (λ (z : RowState). z.branches) (cond b (Some r) (find (λ z. is_asked_by a z) rows)) [])
    by true ih = All-front P r.branches (branches rows) h
    by false ih = ih

-- nothing is left where none is counted
empty_length : {X : Type 0} (xs : List X) → is_empty xs ≡ (length xs == 0)
empty_length [] = refl
empty_length (x ∷ xs) = sym (false_from_ne_true (length (x ∷ xs) == 0) (λ t. let z : suc (length xs) ≡ 0 = eqb-true (suc (length xs)) 0 t in omega (arith, z)))

module _ (r : RouterState) (unique : AreUnique r.node.links) (rows : AreOfLinks r.node) (from : List ℕ) (k : LinkPeer) (linked : link_to r.node.links from ≡ Some k) (id : ℕ) (o : Option Asker)
    (pending : back r.node.pending (branch k.link id) ≡ Some o) (by : Option Place) (place_is : placed r o ≡ by) where
  -- the other branches of who asked
  abbrev pub left : Asker → List Branch
  left z = but_for (branch k.link id) (row_of z r.node.pending)

  -- who gets the final: who asked, where no other branch is left
  pub final_said : final_to r.node.pending (branch k.link id) ≡ option_and_then (λ z. final_if_none (left z) z) o
  final_said = (finished_is r.node.pending (branch k.link id) rows.sound).final ∙ ap (λ v. option_and_then (λ p. option_and_then (λ z. final_if_none (left z) z) p) v) pending

  final_either : (final_to r.node.pending (branch k.link id) ≡ o) ⊎ (final_to r.node.pending (branch k.link id) ≡ None)
  final_either = at o final_said
    where
      at : (p : Option Asker) → final_to r.node.pending (branch k.link id) ≡ option_and_then (λ z. final_if_none (left z) z) p →
          (final_to r.node.pending (branch k.link id) ≡ p) ⊎ (final_to r.node.pending (branch k.link id) ≡ None)
      at None e = inl e
      at (Some z) e = each (length (left z) == 0) e
        where
          each : (t : Bool) → final_to r.node.pending (branch k.link id) ≡ cond t (Some z) None → (final_to r.node.pending (branch k.link id) ≡ Some z) ⊎ (final_to r.node.pending (branch k.link id) ≡ None)
          each true f = inl f
          each false f = inr f

  pub final_by : (p : Place) → placed r (final_to r.node.pending (branch k.link id)) ≡ Some p → by ≡ Some p
  final_by p f = at final_either
    where
      at : (final_to r.node.pending (branch k.link id) ≡ o) ⊎ (final_to r.node.pending (branch k.link id) ≡ None) → by ≡ Some p
      at (inl e) = sym place_is ∙ ap (placed r) (sym e) ∙ f
      at (inr e) = absurd (none-some p (sym (ap (placed r) e) ∙ f))

  pub final_there : IsThere r (final_to r.node.pending (branch k.link id))
  final_there = at final_either
    where
      at : (final_to r.node.pending (branch k.link id) ≡ o) ⊎ (final_to r.node.pending (branch k.link id) ≡ None) → IsThere r (final_to r.node.pending (branch k.link id))
      at (inl e) = subst (λ z. IsThere r z) (sym e) (back_there r unique rows (branch k.link id) o pending)
      at (inr e) = subst (λ z. IsThere r z) (sym e) tt

  -- by name, there is none where none is left
  pub row_left : (z : Asker) → o ≡ Some z → (p : Place) → by ≡ Some p → is_empty (without (place from id) (row_places r p)) ≡ (length (left z) == 0)
  row_left z oz p its = at (link_at r.node.links z.link.0) refl (subst (λ v. IsThere r v) oz (back_there r unique rows (branch k.link id) o pending))
    where
      links : AllByRecursion (λ b. is_some (link_at r.node.links b.link.0) ≡ true) (left z)
      links = All-kept (λ (b : Branch). is_some (link_at r.node.links b.link.0) ≡ true) (λ (b : Branch). is_some (link_at r.node.links b.link.0) ≡ true) (λ b. not (is_branch (branch k.link id) b))
          (row_of z r.node.pending) (λ b e kept. e) (row_all (λ b. is_some (link_at r.node.links b.link.0) ≡ true) r.node.pending z rows.branches)

      places : List Place
      places = filter_map (λ b. branch_place r b) (row_of z r.node.pending)

      row_is : (j : LinkPeer) → link_at r.node.links z.link.0 ≡ Some j → row_places r p ≡ places
      row_is j e =
          let at = link_of_number r unique z.link j e in
          let both : Some (place j.peer.id z.number) ≡ Some p =
          sym (ap (λ v. option_map (λ (l : LinkPeer). place l.peer.id z.number) v) e) ∙ ap (placed r) (sym oz) ∙ place_is ∙ its in
          let one : place j.peer.id z.number ≡ p = cc in
          ap (row_places r) (sym one)
          ∙ ap (λ v. option_map_or (λ (l : LinkPeer). filter_map (λ b. branch_place r b) (row_of (record { link = l.link; number = z.number }) r.node.pending)) v []) at.0
          ∙ ap (λ v. filter_map (λ b. branch_place r b) (row_of (record { link = v; number = z.number }) r.node.pending)) at.1

      at : (v : Option LinkPeer) → link_at r.node.links z.link.0 ≡ v → is_some v ≡ true → is_empty (without (place from id) (row_places r p)) ≡ (length (left z) == 0)
      at None e there = absurd (false≢true there)
      at (Some j) e there =
          ap (λ v. is_empty (without (place from id) v)) (row_is j e)
          ∙ ap (λ v. is_empty (without (place v id) places)) (sym (named_link r.node.links from k linked))
          ∙ ap is_empty (sym (places_without r unique k (numbered_link r.node.links unique from k linked) id (row_of z r.node.pending)))
          ∙ places_empty r (left z) links ∙ empty_length (left z)
