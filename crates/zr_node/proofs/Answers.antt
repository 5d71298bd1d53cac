-- What the own record's change answers, where it was asked first whether there is room.
use Rattle.std.proofs.Common.{◌≡◌, ◌^◌, ◌-◌, ◌↔◌, false, List, None, Result, Ok, Err, refl, sym, ◌∙◌}
use Rattle.std.proofs.lemmas.Bool.{eq-eqb, true≢false}
use Rattle.zr_graph.specs.Base.{BaseState, own_seq}
use Rattle.zr_graph.specs.declared.base.ChangeError.{ChangeError}
use Rattle.zr_graph.specs.declared.base.ChangeError.TheVariants as change
use Rattle.zr_node_spec.specs.Table.{is_worn}
use Rattle.std.specs.Result.{IsErrAnd}
use Rattle.zr_id.specs.declared.link.LinkNo.{LinkNo}
use Rattle.zr_msg.specs.declared.error.NodeError.TheVariants.{Worn}
use Rattle.zr_msg.specs.declared.msg.Msg.{Msg}
use Rattle.zr_node_spec.specs.State.{NodeState}
use Rattle.zr_node.specs.Answer.{refusal, change_failure}
use Rattle.zr_node.specs.Done.{Part, IsDone}
use Rattle.zr_node.specs.declared.failure.NodeFailure.{NodeFailure}
use Rattle.zr_node.specs.declared.failure.NodeFailure.TheVariants.{Refused}
use Rattle.zr_node.proofs.Done.{failed, nothing_sent}
use Rattle.zr_node.proofs.Early.{none_late}

-- a number that has room isn't refused
pub not_refused : (b : BaseState) (r : Result (Unit {0}) ChangeError) → is_worn b ≡ false → ((r ≡ Err change.Worn) ↔ (own_seq b ≡ 2 ^ 64 - 1)) → None ≡ refusal r
not_refused b (Ok x) h k = refl
not_refused b (Err change.NoMemory) h k = refl
not_refused b (Err change.Worn) h k = absurd (true≢false (sym (eq-eqb (own_seq b) (2 ^ 64 - 1) (k.0 refl)) ∙ h))

-- and what is refused is answered so
pub change_failed : (p : Part) (e : ChangeError) (r : Result (Unit {0}) NodeFailure) (now : NodeState) (said : List (LinkNo × Msg)) → IsErrAnd r (λ f. f ≡ change_failure e) → p.refused ≡ refusal (Err e) → now ≡ p.before
    → IsDone p r now said said
change_failed p change.Worn r now said h why same = failed p (Refused Worn) r now said said h (record { refused = why; state = same; sends = refl })
change_failed p change.NoMemory r now said h why same = nothing_sent p r now said h (none_late p.refused why)
