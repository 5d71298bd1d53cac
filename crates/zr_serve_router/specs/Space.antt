-- What becomes of the administration space of a router that is made.
use Rattle.std.specs.Prelude.{ℕ, List, []}
use Rattle.zr_access.specs.Rules.{PolicyState}
use Rattle.zr_port.specs.Coming.{Answering}
use Rattle.zr_router.specs.Refusals.{RefusesDown, RefusesMessage, RefusesUp}
use Rattle.zr_serve.specs.Space.{OpensSpace, RefusesSpace}

-- a router of this identifier and with these rules let an inner client with this word come up, and declare what it answers
abbrev pub Opened : PolicyState → List ℕ → ℕ → Type 0
Opened policy id word = OpensSpace (λ h peer e. RefusesUp id h peer e) (λ h link msg e. RefusesMessage policy id h link msg e) [] id word

-- what its `down` answers is said by what it refuses alone
abbrev pub answers_any : Answering
answers_any link reason was now answer = Unit {0}

-- it refused that
abbrev pub Refused : PolicyState → List ℕ → ℕ → Type 0
Refused policy id word =
    RefusesSpace (λ h peer e. RefusesUp id h peer e) (λ h link msg e. RefusesMessage policy id h link msg e) (λ h link e. RefusesDown id h link e) answers_any [] id word
