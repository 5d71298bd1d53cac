-- What a router holds for a place by name, once it has handled a request, a reply or a final: of other places what it held before; of who asked nothing yet, one
-- reply more, or nothing any more.
use Rattle.std.proofs.Common.{◌≡◌, not, Bool, true, false, cond, List, [], ◌∷◌, Option, Some, None, is_some, refl, sym, ap, ◌∙◌}
use Rattle.std.specs.Option.{option_map, option_map_or, option_and_then}
use Rattle.std.proofs.lemmas.Bool.{false≢true, false_from_ne_true}
use Rattle.std.proofs.lemmas.Option.{none-some}
use Rattle.zr_id.specs.declared.link.LinkNo.{LinkNo}
use Rattle.zr_msg.specs.declared.content.Parts.{Parts}
use Rattle.zr_msg.specs.declared.peer.LinkPeer.{LinkPeer}
use Rattle.zr_pend_spec.specs.declared.branch.Asker.{Asker}
use Rattle.zr_pend_spec.specs.Held.{GatheringState, is_asker, gathers_for, held_with, gathering_begun, gatherings_with, gatherings_without}
use Rattle.zr_node_spec.specs.Tables.{link_at, link_to}
use Rattle.zr_node_spec.specs.Queries.{gathering_if}
use Rattle.zr_world_spec.specs.World.{RouterState}
use Rattle.zr_world_spec.specs.Sound.{AreUnique}
use Rattle.zr_world_spec.proofs.Links.{named_link, numbered_link}
use Rattle.zr_law_numbers.specs.Waiting.{Place}
use Rattle.zr_law_numbers.proofs.RowsKept.{who_is, who_itself}
use Rattle.zr_law_replies.proofs.Gathers.{held_list, gathers_list, with_list, without_is, begun_list}
use Rattle.zr_law_replies.proofs.Gathered.{asker_of_link}
use Rattle.zr_law_replies.proofs.AnswerAskers.{placed}
use Rattle.zr_law_replies.proofs.StandBranches.{link_of_number}

module _ (r : RouterState) (unique : AreUnique r.node.links) (p : Place) where
  -- what some gatherings have for a place
  abbrev pub held_at : List GatheringState → Option (List Parts)
  held_at held = option_and_then (λ l. held_list held (asker_of_link l p.number)) (link_to r.node.links p.name)

  pub same_at : (held held' : List GatheringState) → ((l : LinkPeer) → link_to r.node.links p.name ≡ Some l → held_list held' (asker_of_link l p.number) ≡ held_list held (asker_of_link l p.number)) → held_at held' ≡ held_at held
  same_at held held' each = by (link_to r.node.links p.name) refl
    where
      by : (o : Option LinkPeer) → link_to r.node.links p.name ≡ o → option_and_then (λ l. held_list held' (asker_of_link l p.number)) o ≡ option_and_then (λ l. held_list held (asker_of_link l p.number)) o
      by None e = refl
      by (Some l) e = each l e

  pub at_link : (held : List GatheringState) (l : LinkPeer) → link_to r.node.links p.name ≡ Some l → held_at held ≡ held_list held (asker_of_link l p.number)
  at_link held l e = ap (λ o. option_and_then (λ (k : LinkPeer). held_list held (asker_of_link k p.number)) o) e

  -- the asker of the place, by its link
  pub place_is : (l : LinkPeer) → link_to r.node.links p.name ≡ Some l → placed r (Some (asker_of_link l p.number)) ≡ Some p
  place_is l e = ap (λ o. option_map (λ (k : LinkPeer). record { name = k.peer.id; number = p.number }) o) (numbered_link r.node.links unique p.name l e)
      ∙ ap (λ z. Some (record { name = z; number = p.number })) (named_link r.node.links p.name l e)

  -- an asker of another place is another one
  pub asker_apart : (b : Asker) → (placed r (Some b) ≡ Some p → ⊥) → (l : LinkPeer) → link_to r.node.links p.name ≡ Some l → is_asker (asker_of_link l p.number) b ≡ false
  asker_apart b other l e = false_from_ne_true (is_asker (asker_of_link l p.number) b) (λ t. absurd (other (ap (λ z. placed r (Some z)) (sym (who_is b (asker_of_link l p.number) t)) ∙ place_is l e)))

  pub with_apart : (held : List GatheringState) (o : Option Asker) (content : Parts) → (placed r o ≡ Some p → ⊥) → held_at (option_map_or (λ b. gatherings_with held b content) o held) ≡ held_at held
  with_apart held None content other = refl
  with_apart held (Some b) content other = same_at held (gatherings_with held b content) (λ l e. with_list held b (asker_of_link l p.number) content
      ∙ ap (λ c. option_map (λ hs. cond c (held_with hs content) hs) (held_list held (asker_of_link l p.number))) (asker_apart b other l e) ∙ by (held_list held (asker_of_link l p.number)))
    where
      by : (o : Option (List Parts)) → option_map (λ hs. hs) o ≡ o
      by None = refl
      by (Some hs) = refl

  pub without_apart : (held : List GatheringState) (o : Option Asker) → (placed r o ≡ Some p → ⊥) → held_at (option_map_or (λ b. gatherings_without held b) o held) ≡ held_at held
  without_apart held None other = refl
  without_apart held (Some b) other = same_at held (gatherings_without held b) (λ l e. without_is held b (asker_of_link l p.number)
      ∙ ap (λ c. cond (not c) (held_list held (asker_of_link l p.number)) None) (asker_apart b other l e))

  pub begun_apart : (held : List GatheringState) (latest : Bool) (b : Asker) (links : List LinkNo) → (placed r (Some b) ≡ Some p → ⊥) → held_at (gathering_if held latest b links) ≡ held_at held
  begun_apart held latest b [] other = refl
  begun_apart held false b (k ∷ links) other = refl
  begun_apart held true b (k ∷ links) other = same_at held (gathering_begun held b) (λ l e. begun_list held b (asker_of_link l p.number)
      ∙ ap (λ c. option_map_or (λ (hs : List Parts). Some hs) (held_list held (asker_of_link l p.number)) (cond c (Some []) None)) (backwards b (asker_of_link l p.number) (is_asker b (asker_of_link l p.number)) refl (asker_apart b other l e))
      ∙ by (held_list held (asker_of_link l p.number)))
    where
      backwards : (x y : Asker) (t : Bool) → is_asker x y ≡ t → is_asker y x ≡ false → t ≡ false
      backwards x y false e f = refl
      backwards x y true e f = absurd (false≢true (sym f ∙ ap (λ z. is_asker y z) (who_is y x e) ∙ who_itself y))

      by : (o : Option (List Parts)) → option_map_or (λ (hs : List Parts). Some hs) o None ≡ o
      by None = refl
      by (Some hs) = refl

  -- an asker of the place
  pub its_asker : (b : Asker) → placed r (Some b) ≡ Some p → (l : LinkPeer) × (link_to r.node.links p.name ≡ Some l) × (b ≡ asker_of_link l p.number)
  its_asker b e = by (link_at r.node.links b.link.0) refl e
    where
      by : (o : Option LinkPeer) → link_at r.node.links b.link.0 ≡ o → option_map (λ (k : LinkPeer). record { name = k.peer.id; number = b.number }) o ≡ Some p →
          (l : LinkPeer) × (link_to r.node.links p.name ≡ Some l) × (b ≡ asker_of_link l p.number)
      by None f k = absurd (none-some p k)
      by (Some j) f k =
          let one : record { name = j.peer.id; number = b.number } ≡ p = cc in
          let at = link_of_number r unique b.link j f in
          (j, ap (λ (z : Place). link_to r.node.links z.name) (sym one) ∙ at.0, λ i. record { link = sym at.1 i; number = (one i).number })

  -- ---- for the place itself

  module _ (l : LinkPeer) (linked : link_to r.node.links p.name ≡ Some l) where
    abbrev its : Asker
    its = asker_of_link l p.number

    pub with_own : (held : List GatheringState) (content : Parts) (hs : List Parts) → held_at held ≡ Some hs → held_at (gatherings_with held its content) ≡ Some (held_with hs content)
    with_own held content hs e = at_link (gatherings_with held its content) l linked ∙ with_list held its its content
        ∙ ap (λ c. option_map (λ z. cond c (held_with z content) z) (held_list held its)) (who_itself its)
        ∙ ap (option_map (λ z. held_with z content)) (sym (at_link held l linked) ∙ e)

    pub begun_own : (held : List GatheringState) (latest : Bool) (k : LinkNo) (links : List LinkNo) → gathers_for held its ≡ false → held_at (gathering_if held latest its (k ∷ links)) ≡ cond latest (Some []) None
    begun_own held latest k links none = by latest
      where
        nothing : held_list held its ≡ None
        nothing = at (held_list held its) (sym (gathers_list held its) ∙ none)
          where
            at : (o : Option (List Parts)) → is_some o ≡ false → o ≡ None
            at None e = refl
            at (Some hs) e = absurd (false≢true (sym e))

        by : (t : Bool) → held_at (cond t (gathering_begun held its) held) ≡ cond t (Some []) None
        by true = at_link (gathering_begun held its) l linked ∙ begun_list held its its ∙ ap (λ o. option_map_or (λ (hs : List Parts). Some hs) o (cond (is_asker its its) (Some []) None)) nothing
            ∙ ap (λ c. cond c (Some []) None) (who_itself its)
        by false = at_link held l linked ∙ nothing
