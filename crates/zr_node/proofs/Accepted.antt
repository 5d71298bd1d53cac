-- A record that has come over a link: what comes of it, by who told it and by whether it is newer.
use Rattle.std.proofs.Common.{◌≡◌, ℕ, ◌&&◌, ◌++◌, Bool, true, false, cond, List, [], ◌∷◌, None, refl, sym, ap, subst, ◌∙◌}
use Rattle.zr_graph.specs.Base.{BaseState, is_newer, kept, after_record}
use Rattle.zr_graph.specs.declared.base.Accepted.TheVariants.{Newer, Old}
use Rattle.zr_id.specs.Record.{RecordState}
use Rattle.zr_id.specs.declared.link.LinkNo.{LinkNo}
use Rattle.zr_flood.specs.Flood.{AreOf}
use Rattle.zr_msg.specs.declared.msg.Msg.{Msg}
use Rattle.zr_msg.specs.declared.msg.Msg.TheVariants.{State}
use Rattle.zr_msg.specs.declared.peer.LinkPeer.{LinkPeer}
use Rattle.zr_node_spec.specs.Snapshots.{sends_snapshots}
use Rattle.zr_node_spec.specs.Tables.{leads_to_router}
use Rattle.zr_node_spec.specs.Event.{AreLinks}
use Rattle.zr_node_spec.specs.State.{NodeState, tables}
use Rattle.zr_node_spec.specs.Table.{with_base, is_other_router, base_told, sends_state}
use Rattle.zr_node_spec.proofs.OwnName.{me_record}
use Rattle.zr_node_spec.proofs.NoNewChildren.{no_new_children}
use Rattle.zr_query.proofs.Told.{tells_nothing}
use Rattle.zr_node.specs.Done.{Part, IsLeft}
use Rattle.zr_node.specs.Steps.{told_part, news_to}
use Rattle.zr_node.proofs.Done.{IsFirst}

pub older_is : (b : Bool) → Old ≡ cond b Newer Old → b ≡ false
older_is true h = cc
older_is false h = refl

pub newer_is : (b : Bool) → Newer ≡ cond b Newer Old → b ≡ true
newer_is true h = refl
newer_is false h = cc

module _ (n : NodeState) (from : ℕ) (told : RecordState) where
  abbrev base_by : Bool → Bool → BaseState
  base_by router newer = cond router (cond newer (kept n.base told) n.base) n.base

  abbrev told_by : Bool → Bool → Part
  told_by router newer =
      record {
        before = n;
        left = with_base n (base_by router newer);
        sends = λ to. cond (router && newer && is_other_router n from to) (State told ∷ []) [] ++ sends_snapshots (tables (with_base n (base_by router newer))) n.base.records to;
        refused = None;
      }

  -- nothing comes of what a client tells
  pub told_by_client : (said : List (LinkNo × Msg)) → leads_to_router n.links from ≡ false → IsLeft (told_part n from told) n said said
  told_by_client said client =
      subst (λ (b : Bool). IsLeft (told_by b (is_newer n.base told)) n said said) (sym client)
      (record { allowed = refl; state = refl; sends = tells_nothing (told_by false (is_newer n.base told)).sends said (λ to. no_new_children (tables n) n.base.records refl to) })

  -- and nothing of a record that isn't newer
  pub told_again : (first last now : NodeState) (said : List (LinkNo × Msg)) → leads_to_router n.links from ≡ true → first ≡ n → last ≡ with_base first (after_record first.base told) → now ≡ last
      → is_newer first.base told ≡ false → IsLeft (told_part n from told) now said said
  told_again first last now said router same e f old =
      let older : is_newer n.base told ≡ false = ap (λ (m : NodeState). is_newer m.base told) (sym same) ∙ old in
      let stays : now ≡ n = f ∙ e ∙ ap (λ (m : NodeState). with_base m (after_record m.base told)) same ∙ ap (λ (b : Bool). with_base n (cond b (kept n.base told) n.base)) older in
      subst (λ (b : Bool). IsLeft (told_by (leads_to_router n.links from) b) now said said) (sym older)
      (subst (λ (b : Bool). IsLeft (told_by b false) now said said) (sym router)
      (record { allowed = refl; state = stays; sends = tells_nothing (told_by true false).sends said (λ to. no_new_children (tables n) n.base.records refl to) }))

  -- what is left by one that is newer
  pub told_newer : (first now : NodeState) → leads_to_router n.links from ≡ true → first ≡ n → now ≡ with_base first (after_record first.base told) → now ≡ with_base n (base_told n from told)
  told_newer first now router same e =
      e ∙ ap (λ (m : NodeState). with_base m (after_record m.base told)) same
      ∙ sym (ap (λ (b : Bool). with_base n (cond b (after_record n.base told) n.base)) router)

  -- the router is the same
  pub told_me : (base_told n from told).me ≡ n.base.me
  told_me = by (leads_to_router n.links from)
    where
      by : (router : Bool) → (cond router (after_record n.base told) n.base).me ≡ n.base.me
      by true = me_record n.base told
      by false = refl

  -- the links are still those of the router
  pub still_of : (first now : NodeState) (links : List LinkPeer) → first ≡ n → now ≡ with_base first (after_record first.base told) → AreLinks now.base.me now.links → links ≡ now.links → AreOf n links
  still_of first now links same e right is =
      let f : now ≡ with_base n (after_record n.base told) = e ∙ ap (λ (m : NodeState). with_base m (after_record m.base told)) same in
      record {
        right = subst (λ (me : List ℕ). AreLinks me n.links) (me_record n.base told) (subst (λ (m : NodeState). AreLinks m.base.me m.links) f right);
        same = is ∙ ap (λ (m : NodeState). m.links) f;
      }

  -- the record goes first, and then the snapshots for new children
  abbrev pub record_part : Part
  record_part = record { before = n; left = with_base n (base_told n from told); sends = λ to. sends_state n from told to; refused = None }

  pub record_first : IsFirst record_part (told_part n from told) (λ to. news_to n (with_base n (base_told n from told)) to)
  record_first = record { before = refl; refused = refl; sends = λ to. refl }
