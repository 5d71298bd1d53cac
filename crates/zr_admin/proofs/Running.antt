-- Steps one after another.
use Rattle.std.proofs.Common.{◌≡◌, ℕ, ◌+◌, List, [], ◌∷◌, ◌++◌, length, Some, Result, Ok, Err, refl, ap, ◌∙◌, subst, length-append}
use Rattle.std.specs.List.{AllByRecursion}
use Rattle.zr_lists.proofs.Each.{All-append}
use Rattle.zr_id.specs.declared.link.LinkNo.{LinkNo}
use Rattle.zr_msg.specs.declared.msg.Msg.{Msg}
use Rattle.zr_port.specs.declared.entry.Entry.{Entry}
use Rattle.zr_port.specs.declared.error.DeliverError.{DeliverError}
use Rattle.zr_ring.specs.declared.parcel.Note.{Ghosts}
use Rattle.zr_glance.specs.Glance.{GlanceState}
use Rattle.zr_admin.specs.Inner.{AllSteps, ComesTo, GoesOn, InnerState, Steps, end_by}
use Rattle.zr_admin.specs.declared.error.AdminEnd.{AdminEnd}
use Rattle.zr_admin.specs.declared.error.AdminEnd.TheVariants.{Ended as Over, Refused, Turns}
use Rattle.zr_admin.specs.declared.error.AdminError.{AdminError}
use Rattle.zr_admin.specs.declared.error.Stepped.{Stepped}
use Rattle.zr_admin.specs.declared.error.Stepped.TheVariants.{Answered, Ended, Idle, Part}

-- so many steps were made, and the client goes on
pub record Made {N : Type 0} {g : Ghosts N} (link : LinkNo) (refuses : List Entry → Msg → DeliverError → Type 0) (glance_of : List Entry → GlanceState) (id : List ℕ) (count : ℕ) (old new : InnerState N g) : Type 0 where
  pub results : List (Result Stepped AdminError)
  pub each : length results ≡ count
  pub going : AllByRecursion GoesOn results
  pub steps : AllSteps link refuses glance_of id results old new

-- no step ends it for want of turns
never_turns : (r : Result Stepped AdminError) → end_by r ≡ Some Turns → ⊥
never_turns (Ok Idle) h = cc
never_turns (Ok Part) h = cc
never_turns (Ok (Answered replies)) h = cc
never_turns (Ok Ended) h = cc
never_turns (Err e) h = cc

module _ {N : Type 0} {g : Ghosts N} (link : LinkNo) (refuses : List Entry → Msg → DeliverError → Type 0) (glance_of : List Entry → GlanceState) (id : List ℕ) where
  one_behind : (rs : List (Result Stepped AdminError)) (r : Result Stepped AdminError) (a b c : InnerState N g) → AllSteps link refuses glance_of id rs a b → Steps link refuses glance_of id r b c
      → AllSteps link refuses glance_of id (rs ++ r ∷ []) a c
  one_behind [] r a b c h k = (c, subst (λ z. Steps link refuses glance_of id r z c) h k, refl)
  one_behind (q ∷ rs) r a b c h k = (h.0, h.1, one_behind rs r h.0 b c h.2 k)

  pub none_made : (a : InnerState N g) → Made link refuses glance_of id 0 a a
  none_made a = record { results = []; each = refl; going = tt; steps = refl }

  pub one_made : (n : ℕ) (r : Result Stepped AdminError) (a b c : InnerState N g) → Made link refuses glance_of id n a b → GoesOn r → Steps link refuses glance_of id r b c
      → Made link refuses glance_of id (n + 1) a c
  one_made n r a b c h on k = record {
    results = h.results ++ r ∷ [];
    each = length-append h.results (r ∷ []) ∙ ap (λ z. z + 1) h.each;
    going = All-append GoesOn h.results (r ∷ []) h.going (on, tt);
    steps = one_behind h.results r a b c h.steps k;
  }

  pub last_made : (turns n : ℕ) (end : AdminEnd) (r : Result Stepped AdminError) (a b c : InnerState N g) → Made link refuses glance_of id n a b → end_by r ≡ Some end → Steps link refuses glance_of id r b c
      → (results : List (Result Stepped AdminError)) × ComesTo turns end results × AllSteps link refuses glance_of id results a c
  last_made turns n Over r a b c h ends k = (h.results ++ r ∷ [], (h.results, r, refl, h.going, ends), one_behind h.results r a b c h.steps k)
  last_made turns n (Refused e) r a b c h ends k = (h.results ++ r ∷ [], (h.results, r, refl, h.going, ends), one_behind h.results r a b c h.steps k)
  last_made turns n Turns r a b c h ends k = absurd (never_turns r ends)

  pub all_made : (turns n : ℕ) (a b : InnerState N g) → Made link refuses glance_of id n a b → n ≡ turns
      → (results : List (Result Stepped AdminError)) × ComesTo turns Turns results × AllSteps link refuses glance_of id results a b
  all_made turns n a b h is = (h.results, (h.each ∙ is, h.going), h.steps)
