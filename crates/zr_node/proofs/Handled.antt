-- What a router refuses is neither that it is spent nor that memory ran out; and where memory ran out it refused nothing.
use Rattle.std.proofs.Common.{◌≡◌, Bool, false, cond, List, Some, Result, Err, ap, sym, subst, ◌∙◌}
use Rattle.zr_id.specs.declared.link.LinkNo.{LinkNo}
use Rattle.zr_msg.specs.declared.error.NodeError.{NodeError}
use Rattle.zr_msg.specs.declared.error.NodeError.TheVariants.{Spent, NoMemory}
use Rattle.zr_msg.specs.declared.event.Event.{Event}
use Rattle.zr_msg.specs.declared.msg.Msg.{Msg}
use Rattle.zr_node_spec.specs.Early.{is_early}
use Rattle.zr_node_spec.specs.State.{NodeState}
use Rattle.zr_node_spec.specs.Table.{refuses}
use Rattle.zr_node.specs.Answer.{refusal_of}
use Rattle.zr_node.specs.Done.{IsLacking, IsRefused, IsDone}
use Rattle.zr_node.specs.Steps.{event_part}
use Rattle.zr_node.specs.declared.failure.NodeFailure.{NodeFailure}
use Rattle.zr_node.specs.declared.failure.NodeFailure.TheVariants as failure
use Rattle.zr_node.proofs.Refusals.{not_memory, not_spent}

-- an answer that is an error
abbrev pub error : NodeError → Result (Unit {0}) NodeError
error why = Err why

pub same_error : (x y : NodeError) → error x ≡ error y → x ≡ y
same_error x y h = cc

module _ (n : NodeState) (event : Event) where
  module _ (why : NodeError) (f : NodeFailure) (now : NodeState) (said all : List (LinkNo × Msg)) (is : f ≡ failure.Refused why) (done : IsDone (event_part n event) (Err f) now said all) where
    refused : refuses n event ≡ Some why
    refused =
        let h : IsRefused (event_part n event) why now said all = subst (λ (g : NodeFailure). IsDone (event_part n event) (Err g) now said all) is done in
        h.refused

    pub refused_not_memory : error why ≡ error NoMemory → ⊥
    refused_not_memory e = not_memory n event (refused ∙ ap Some (same_error _ _ e))

    pub refused_not_spent : error why ≡ error Spent → ⊥
    refused_not_spent e = not_spent n event (refused ∙ ap Some (same_error _ _ e))

  pub memory_not_refused : n.spent ≡ false → (why : NodeError) → refusal_of n event ≡ Some why → error NoMemory ≡ error why → ⊥
  memory_not_refused awake why h e =
      not_memory n event (sym (ap (λ (b : Bool). cond b (Some Spent) (refuses n event)) awake) ∙ h ∙ ap Some (sym (same_error _ _ e)))

  -- where memory ran out, what refuses it isn't found without memory
  pub not_early : n.spent ≡ false → (f : NodeFailure) (now : NodeState) (said all : List (LinkNo × Msg)) → f ≡ failure.NoMemory → IsDone (event_part n event) (Err f) now said all → is_early (refusal_of n event) ≡ false
  not_early awake f now said all is done =
      let h : IsLacking (event_part n event) said all = subst (λ (g : NodeFailure). IsDone (event_part n event) (Err g) now said all) is done in
      ap (λ (b : Bool). is_early (cond b (Some Spent) (refuses n event))) awake ∙ h.late
