-- A wire that is there stays, with the role of who sends on it.
use Rattle.std.proofs.Common.{◌≡◌, ◌∙◌, ℕ, Bool, true, false, cond, List, Option, Some, None, Result, Ok, Err, inl, refl, sym, ap, subst}
use Rattle.std.specs.Prelude.{◌≤◌, OnErr, OnOk, length}
use Rattle.std.specs.Option.{option_map}
use Rattle.zr_body.specs.declared.place.Place.TheVariants as place
use Rattle.zr_body.specs.Body.{IsBodyIn}
use Rattle.zr_msg.specs.declared.content.Parts.{Parts}
use Rattle.zr_msg.specs.declared.msg.Msg.{Msg}
use Rattle.zr_msg.specs.declared.msg.Msg.TheVariants.{Push}
use Rattle.zr_msg.specs.declared.peer.Role.{Role}
use Rattle.zr_msg.specs.declared.peer.Role.TheVariants.{Client, Router}
use Rattle.zr_msg.specs.Extras.{no_extras}
use Rattle.zr_wire.specs.Limits.{most_of}
use Rattle.zr_wire.specs.Sending.{MayBeSent}
use Rattle.zr_wire.specs.Writing.{writes_message}
use Rattle.zr_law_sent.specs.Passing.{IsOfTypes}
use Rattle.zr_world_spec.specs.World.{is_end}
use Rattle.zr_world_spec.proofs.Ends.{ends}
use Rattle.zr_carrier.specs.Wire.{CanSend, Opens, Sets, Wire, Wires, emptied, new_wire, with_wire}
use Rattle.zr_tests_rows.specs.Carriers.{IsOpen}
use Rattle.zr_tests_rows.proofs.Passing.{push_fits}

-- a router's wire from a neighbour that was opened
pub opened_is : (router neighbour : List ℕ) (role : Role) (old new : Wires) → Opens router neighbour role old new → IsOpen role (new neighbour router)
opened_is router neighbour Client old new opens =
    subst (IsOpen Client) (sym (opens neighbour router ∙ ap (λ b. cond b (Some (new_wire Client)) (old neighbour router)) (ends.refl (neighbour, router)))) refl
opened_is router neighbour Router old new opens = subst (IsOpen Router) (sym (opens neighbour router ∙ by (is_end (router, neighbour) (neighbour, router)))) refl
  where
    wire : Option Wire
    wire = Some (new_wire Router)

    by : (b : Bool) → cond b wire (with_wire neighbour router wire old neighbour router) ≡ wire
    by true = refl
    by false = ap (λ b. cond b wire (old neighbour router)) (ends.refl (neighbour, router))

-- a message may come onto an open wire
pub open_sends : (role : Role) (o : Option Wire) (msg : Msg) → IsOpen role o → MayBeSent role msg → CanSend o msg
open_sends role None msg there may = absurd there
open_sends role (Some w) msg there may = subst (λ (r : Role). MayBeSent r msg) (sym there) may

-- a wire that was changed
changed_open : (role : Role) (from to : List ℕ) (change : Wire → Wire) (old new : Wires) → ((w : Wire) → (change w).role ≡ w.role) → Sets from to (option_map change (old from to)) old new →
    IsOpen role (old from to) → IsOpen role (new from to)
changed_open role from to change old new keeps sets there =
    subst (IsOpen role) (sym (sets from to ∙ ap (λ b. cond b (option_map change (old from to)) (old from to)) (ends.refl (from, to)))) (by (old from to) there)
  where
    by : (o : Option Wire) → IsOpen role o → IsOpen role (option_map change o)
    by None h = absurd h
    by (Some w) h = keeps w ∙ h

-- a wire that a call changed, or emptied where memory ran out
pub still_open : {T E : Type 0} (r : Result T E) (role : Role) (from to : List ℕ) (change : Wire → Wire) (old new : Wires) → ((w : Wire) → (change w).role ≡ w.role) →
    OnOk r (Sets from to (option_map change (old from to)) old new) → OnErr r (Sets from to (option_map emptied (old from to)) old new) →
    IsOpen role (old from to) → IsOpen role (new from to)
still_open (Ok x) role from to change old new keeps sets lost there = changed_open role from to change old new keeps sets there
still_open (Err e) role from to change old new keeps sets lost there = changed_open role from to emptied old new (λ w. refl) lost there

-- a router may send a sample along a tree that is short enough
pub sample_may_be_sent : (tree : List ℕ) (c : Parts) → c.extras ≡ no_extras → IsBodyIn place.Push c.body → IsOfTypes (Push (Some tree) c) →
    length (writes_message (Push (Some tree) c)) ≤ most_of Router → MayBeSent Router (Push (Some tree) c)
sample_may_be_sent tree c none is_body types short = record {
  admitted = refl;
  spelled = (push_fits (Some tree) c none, types.0, types.1, (types.2, inl refl), is_body);
  short = short;
}
