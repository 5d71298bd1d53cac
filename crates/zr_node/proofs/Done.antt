-- What is answered of a part of an event is right of another part that comes to the same, and of one that goes on behind it.
use Rattle.std.proofs.Common.{◌≡◌, ℕ, false, List, ◌++◌, None, Result, Ok, Err, refl, sym, ap, subst, ◌∙◌}
use Rattle.std.specs.Result.{IsErrAnd}
use Rattle.zr_id.specs.declared.link.LinkNo.{LinkNo}
use Rattle.zr_msg.specs.declared.msg.Msg.{Msg}
use Rattle.zr_node_spec.specs.Early.{is_early}
use Rattle.zr_node_spec.specs.Event.{Tells, TellsPrefix}
use Rattle.zr_node_spec.specs.State.{NodeState}
use Rattle.zr_query.proofs.Told.{nothing_yet}
use Rattle.zr_node.specs.Answer.{IsJudged}
use Rattle.zr_node.specs.Done.{Part, IsLeft, IsLacking, IsDone}
use Rattle.zr_node.specs.declared.failure.NodeFailure.{NodeFailure}
use Rattle.zr_node.specs.declared.failure.NodeFailure.TheVariants.{Refused, NoMemory}
use Rattle.zr_node.proofs.Retold.{all_told, retold, retold_prefix, told_both, prefix_first, prefix_second}

-- ---- the exit of a `?`

pub failed : (p : Part) (e : NodeFailure) (r : Result (Unit {0}) NodeFailure) (now : NodeState) (said all : List (LinkNo × Msg)) → IsErrAnd r (λ f. f ≡ e) → IsDone p (Err e) now said all → IsDone p r now said all
failed p e (Ok x) now said all h k = absurd h
failed p e (Err f) now said all h k = subst (λ (g : NodeFailure). IsDone p (Err g) now said all) (sym h) k

-- memory ran out
pub lacked : (p : Part) (r : Result (Unit {0}) NodeFailure) (now : NodeState) (said all : List (LinkNo × Msg)) → IsErrAnd r (λ f. f ≡ NoMemory) → is_early p.refused ≡ false → TellsPrefix p.sends said all → IsDone p r now said all
lacked p r now said all h late sent = failed p NoMemory r now said all h (record { late = late; sends = sent })

-- before anything was sent
pub nothing_sent : (p : Part) (r : Result (Unit {0}) NodeFailure) (now : NodeState) (said : List (LinkNo × Msg)) → IsErrAnd r (λ f. f ≡ NoMemory) → is_early p.refused ≡ false → IsDone p r now said said
nothing_sent p r now said h late = lacked p r now said said h late (nothing_yet p.sends said)

-- what was judged to be refused is, where nothing has changed
pub judged_failed : (p : Part) (e : NodeFailure) (now : NodeState) (said : List (LinkNo × Msg)) → IsJudged {X = Unit {0}} p.refused (Err e) → now ≡ p.before → IsDone p (Err e) now said said
judged_failed p (Refused why) now said h same = record { refused = h; state = same; sends = refl }
judged_failed p NoMemory now said h same = record { late = h; sends = nothing_yet p.sends said }

-- ---- the same part

pub redone : (p q : Part) (r : Result (Unit {0}) NodeFailure) (now : NodeState) (said all : List (LinkNo × Msg)) → p.before ≡ q.before → p.left ≡ q.left → ((to : ℕ) → p.sends to ≡ q.sends to) → p.refused ≡ q.refused
    → IsDone p r now said all → IsDone q r now said all
redone p q (Ok x) now said all before left sends refused h =
    record { allowed = sym refused ∙ h.allowed; state = h.state ∙ left; sends = retold p.sends q.sends said all sends h.sends }
redone p q (Err (Refused why)) now said all before left sends refused h = record { refused = sym refused ∙ h.refused; state = h.state ∙ before; sends = h.sends }
redone p q (Err NoMemory) now said all before left sends refused h = record { late = ap is_early (sym refused) ∙ h.late; sends = retold_prefix p.sends q.sends said all sends h.sends }

-- ---- one behind the other

-- the second part is the first, and behind it more is sent
pub record IsFirst (p q : Part) (more : ℕ → List Msg) : Type 0 where
  pub before : p.before ≡ q.before
  pub refused : p.refused ≡ q.refused
  pub sends : (to : ℕ) → p.sends to ++ more to ≡ q.sends to

module _ (p q : Part) (more : ℕ → List Msg) (h : IsFirst p q more) where
  -- the first failed
  pub first_failed : (e : NodeFailure) (now : NodeState) (said all : List (LinkNo × Msg)) → IsDone p (Err e) now said all → IsDone q (Err e) now said all
  first_failed (Refused why) now said all k = record { refused = sym h.refused ∙ k.refused; state = k.state ∙ h.before; sends = k.sends }
  first_failed NoMemory now said all k = record { late = ap is_early (sym h.refused) ∙ k.late; sends = prefix_first p.sends more q.sends said h.sends all k.sends }

  -- memory ran out behind it
  late : p.refused ≡ None → is_early q.refused ≡ false
  late allowed = ap is_early (sym h.refused ∙ allowed)

  pub then_nothing : (now : NodeState) (said mid : List (LinkNo × Msg)) → IsLeft p now said mid → IsLacking q said mid
  then_nothing now said mid k = record { late = late k.allowed; sends = prefix_first p.sends more q.sends said h.sends mid (all_told p.sends said mid k.sends) }

  pub then_prefix : (now : NodeState) (said mid all : List (LinkNo × Msg)) → IsLeft p now said mid → TellsPrefix more mid all → IsLacking q said all
  then_prefix now said mid all k m = record { late = late k.allowed; sends = prefix_second p.sends more q.sends said h.sends mid all k.sends m }

  -- all of it is done
  pub then_told : (now last : NodeState) (said mid all : List (LinkNo × Msg)) → IsLeft p now said mid → Tells more mid all → last ≡ q.left → IsLeft q last said all
  then_told now last said mid all k m e =
      record { allowed = sym h.refused ∙ k.allowed; state = e; sends = told_both p.sends more q.sends said h.sends mid all k.sends m }
