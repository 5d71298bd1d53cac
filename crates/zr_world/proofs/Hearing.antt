-- What a router's answer to an event is in a script.
use Rattle.std.proofs.Common.{◌≡◌, Bool, true, false, cond, List, [], Some, None, Ok, Err, refl, sym, ap, subst, inl, inr}
use Rattle.std.specs.Prelude.{is_some}
use Rattle.zr_id.specs.declared.link.LinkNo.{LinkNo}
use Rattle.zr_msg.specs.declared.error.NodeError.{NodeError}
use Rattle.zr_msg.specs.declared.error.NodeError.TheVariants as n
use Rattle.zr_msg.specs.declared.event.Event.{Event}
use Rattle.zr_msg.specs.declared.msg.Msg.{Msg}
use Rattle.zr_script_spec.specs.declared.error.ScriptError.{ScriptError}
use Rattle.zr_script_spec.specs.declared.error.ScriptError.TheVariants.{Limit, NoMemory}
use Rattle.zr_told_spec.specs.Hub.{HubState, HubSends, hub_after, hub_refuses}
use Rattle.zr_node.specs.Answer.{IsAnswered}
use Rattle.zr_router_core.specs.Done.{hub_refusal_of}
use Rattle.zr_world_spec.specs.World.{RouterState}
use Rattle.zr_world_spec.specs.Acts.{hub_of}
use Rattle.zr_world.specs.Hearing.{IsHeard, refusal}

-- the same router with another state of it and of what its clients were told
abbrev pub with_hub : RouterState → HubState → RouterState
with_hub r h = record { node = h.node; told = h.told; weight = r.weight }

-- a router that has handled an event does not refuse it
pub not_refused : (h : HubState) (event : Event) → hub_refusal_of h event ≡ None → hub_refuses h event ≡ None
not_refused h event k = by h.node.spent k
  where
    by : (b : Bool) → cond b (Some n.Spent) (hub_refuses h event) ≡ None → hub_refuses h event ≡ None
    by true k = absurd (cc)
    by false k = k

-- it is as the event leaves it
pub is_handled : (old : RouterState) (event : Event) (before out : List (LinkNo × Msg)) (hub : HubState) → hub_refusal_of (hub_of old) event ≡ None → hub ≡ hub_after (hub_of old) event →
    before ≡ [] → HubSends (hub_of old) event before out → IsHeard (Ok tt) old (with_hub old hub) event out
is_handled old event before out hub h state none sent = (
  not_refused (hub_of old) event h,
  ap (with_hub old) state,
  subst (λ (ms : List (LinkNo × Msg)). HubSends (hub_of old) event ms out) none sent,
)

module _ (old new : RouterState) (event : Event) (out : List (LinkNo × Msg)) (told : ScriptError) where
  -- out of memory nothing is said
  spent : told ≡ NoMemory → IsHeard (Err told) old new event out
  spent h = subst (λ (t : ScriptError). IsHeard (Err t) old new event out) (sym h) tt

  -- what the table refuses is a limit
  limited : (e : NodeError) → (e ≡ n.NoMemory → ⊥) → (e ≡ n.Spent → ⊥) → IsAnswered (hub_refusal_of (hub_of old) event) (Err e) → (hub_refusal_of (hub_of old) event ≡ Some e → new ≡ old) →
      told ≡ Limit → IsHeard (Err told) old new event out
  limited e here before (inl k) same h = absurd (here k)
  limited e here before (inr k) same h = subst (λ (t : ScriptError). IsHeard (Err t) old new event out) (sym h) (refl, by old.node.spent k, same k)
    where
      by : (b : Bool) → cond b (Some n.Spent) (hub_refuses (hub_of old) event) ≡ Some e → is_some (hub_refuses (hub_of old) event) ≡ true
      by true f = let is : e ≡ n.Spent = cc in absurd (before is)
      by false f = ap is_some f

  -- a router that did not handle the event has refused it and is as it was, or is out of memory
  pub is_refused : (e : NodeError) → IsAnswered (hub_refusal_of (hub_of old) event) (Err e) → (hub_refusal_of (hub_of old) event ≡ Some e → new ≡ old) → told ≡ refusal e → IsHeard (Err told) old new event out
  is_refused n.Spent answer same h = spent h
  is_refused n.NoMemory answer same h = spent h
  is_refused n.Worn answer same h = limited n.Worn (λ k. cc) (λ k. cc) answer same h
  is_refused (n.Gap router has came) answer same h = limited (n.Gap router has came) (λ k. cc) (λ k. cc) answer same h
  is_refused (n.NotDeclared id) answer same h = limited (n.NotDeclared id) (λ k. cc) (λ k. cc) answer same h
  is_refused (n.TextLimit held more) answer same h = limited (n.TextLimit held more) (λ k. cc) (λ k. cc) answer same h
  is_refused (n.NumberTaken id) answer same h = limited (n.NumberTaken id) (λ k. cc) (λ k. cc) answer same h
  is_refused (n.TooMany pending) answer same h = limited (n.TooMany pending) (λ k. cc) (λ k. cc) answer same h
