-- Whether a router that is made has heard that its identifier was in use before.
use Rattle.std.specs.Prelude.{◌≡◌, ℕ, Bool, true, List}
use Rattle.zr_access.specs.Rules.{PolicyState}
use Rattle.zr_port.specs.declared.entry.Entry.{Entry}
use Rattle.zr_router.specs.Allowed.{AreAllowed}
use Rattle.zr_router.specs.Former.{was_used}
use Rattle.zr_router_queue.specs.History.{is_legal}
use Rattle.zr_serve.specs.Former.{Hears}

-- by the entries of a history that a router of this identifier can have under these rules it has, or hasn't
abbrev pub Heard : PolicyState → List ℕ → Bool → Type 0
Heard policy id heard = (seen : List Entry) × Hears (λ h. (is_legal id h ≡ true) × AreAllowed policy id h) (λ h. was_used id h) seen heard
