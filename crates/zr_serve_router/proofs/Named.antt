-- A router that is served under a name is served under what that stands for.
use Rattle.std.proofs.Common.{◌≡◌, ℕ, Bool, true, List, [], Option, sym, subst}
use Rattle.rand_core.specs.Stream.{Stream}
use Rattle.zr_access.specs.Rules.{PolicyState}
use Rattle.zr_dial.specs.Dial.{DialState}
use Rattle.zr_link_job.specs.declared.job.ServeJob.{ServeJob}
use Rattle.zr_outside.specs.declared.host.Call.{Call}
use Rattle.zr_port.specs.declared.entry.Entry.{Entry}
use Rattle.zr_router.specs.Allowed.{AreAllowed}
use Rattle.zr_router.specs.Former.{was_used}
use Rattle.zr_router.specs.Refusals.{RefusesDown, RefusesMessage, RefusesUp}
use Rattle.zr_router_queue.specs.History.{is_legal}
use Rattle.zr_serve.proofs.Former.{served_as}
use Rattle.zr_serve.specs.declared.end.ServeEnd.{ServeEnd}
use Rattle.zr_serve.specs.Serving.{IsServed, Outputs}
use Rattle.zr_serve.specs.Former.{Hears}
use Rattle.zr_serve.specs.Space.{OpensSpace, RefusesSpace}
use Rattle.zr_serve_router.specs.Former.{Heard}
use Rattle.zr_serve_router.specs.Space.{Opened, Refused, answers_any}

module _ (end : ServeEnd) (id : List ℕ) (policy : PolicyState) (log admin : Bool) (address : List ℕ) (ds : List DialState) (left left' : Option (List Stream)) (calls calls' : Option (List Call))
    (told told' : Option (List ServeJob)) (faults faults' : ℕ) (o p : Outputs) where
  -- at a router of an identifier, with these rules, behind some entries, and by what it has heard by later ones
  abbrev at : List ℕ → PolicyState → List Entry → List Entry → Type 0
  at me named seen later = IsServed end id policy log admin
      (OpensSpace (λ h peer e. RefusesUp me h peer e) (λ h link msg e. RefusesMessage named me h link msg e) seen id)
      (RefusesSpace (λ h peer e. RefusesUp me h peer e) (λ h link msg e. RefusesMessage named me h link msg e) (λ h link e. RefusesDown me h link e) answers_any seen id)
      (λ b. Hears (λ h. (is_legal me h ≡ true) × AreAllowed named me h) (λ h. was_used me h) later b)
      address ds left left' calls calls' told told' faults faults' o p

  pub under_name : (me : List ℕ) (named : PolicyState) (seen later : List Entry) → id ≡ me → policy ≡ named → seen ≡ []
      → IsServed end id policy log admin
      (OpensSpace (λ h peer e. RefusesUp me h peer e) (λ h link msg e. RefusesMessage named me h link msg e) seen id)
      (RefusesSpace (λ h peer e. RefusesUp me h peer e) (λ h link msg e. RefusesMessage named me h link msg e) (λ h link e. RefusesDown me h link e) answers_any seen id)
      (λ b. Hears (λ h. (is_legal me h ≡ true) × AreAllowed named me h) (λ h. was_used me h) later b)
      address ds left left' calls calls' told told' faults faults' o p
      → IsServed end id policy log admin (Opened policy id) (Refused policy id) (Heard policy id) address ds left left' calls calls' told told' faults faults' o p
  under_name me named seen later own ruled first served =
      let here : at id policy [] later = subst (λ m. at m policy [] later) (sym own) (subst (λ n. at me n [] later) (sym ruled) (subst (λ h. at me named h later) first served)) in
      served_as (λ b. Hears (λ h. (is_legal id h ≡ true) × AreAllowed policy id h) (λ h. was_used id h) later b) (Heard policy id) (λ b h. (later, h))
      end id policy log admin _ _ address ds left left' calls calls' told told' faults faults' o p here
