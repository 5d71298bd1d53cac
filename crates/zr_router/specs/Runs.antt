-- Messages that have come over one link, one after another.
use Rattle.std.specs.Prelude.{◌≡◌, ℕ, true, List, [], ◌∷◌, ◌++◌, None}
use Rattle.zr_access.specs.Rules.{PolicyState}
use Rattle.zr_id.specs.declared.link.LinkNo.{LinkNo}
use Rattle.zr_msg.specs.declared.event.Event.TheVariants.{From}
use Rattle.zr_msg.specs.declared.msg.Msg.{Msg}
use Rattle.zr_port.specs.Adding.{IsAdmitted, IsEntryOf}
use Rattle.zr_port.specs.Coming.{Came, Delivered, Passed, messages_of, is_passed}
use Rattle.zr_port.specs.declared.entry.Entry.{Entry}
use Rattle.zr_router_queue.specs.Ends.{EndState, GoesByRings}
use Rattle.zr_router.specs.Refusals.{RefusesMessage}

-- What one message makes of the history and of the rings. One that is delivered, where there is no cause to refuse it, adds one entry, which goes by the
-- rings. One that is passed over changes nothing
abbrev pub IsStep : PolicyState → List ℕ → LinkNo → Came → List Entry → List EndState → List Entry → List EndState → Type 0
IsStep policy me link (Delivered m) h ends more left =
    (e : Entry) × IsEntryOf (From link m) None None e × IsAdmitted (λ r. RefusesMessage policy me h link m r) × GoesByRings me h e ends left × (more ≡ h ++ e ∷ [])
IsStep policy me link (Passed m x) h ends more left = (is_passed x ≡ true) × RefusesMessage policy me h link m x × (more ≡ h) × (left ≡ ends)

-- each of these messages, in order, makes its step of what those before it have left, and nothing else is done
abbrev pub IsRun : PolicyState → List ℕ → LinkNo → List Came → List Entry → List EndState → List Entry → List EndState → Type 0
IsRun policy me link [] h ends more left = (more ≡ h) × (left ≡ ends)
IsRun policy me link (c ∷ cs) h ends more left =
    (mid : List Entry) × (there : List EndState) × IsStep policy me link c h ends mid there × IsRun policy me link cs mid there more left

-- the same of all messages but the rest
abbrev pub RunsUpTo : PolicyState → List ℕ → LinkNo → List Msg → List Msg → List Entry → List EndState → List Entry → List EndState → Type 0
RunsUpTo policy me link messages rest h ends more left = (came : List Came) × (messages ≡ messages_of came ++ rest) × IsRun policy me link came h ends more left
