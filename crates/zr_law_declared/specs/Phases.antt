-- What an act of a phase leaves as it is. `stays` says of each act whether it may stand in a phase; that these acts bring, break and declare
-- nothing isn't said there, and follows.
use Rattle.std.specs.Prelude.{◌≡◌, true, None}
use Rattle.zr_script_spec.specs.declared.command.Act.{Act}
use Rattle.zr_guarantee.specs.Meaning.{Meaning, meaning}
use Rattle.zr_guarantee.specs.Phase.{stays}

-- no router comes and no client, no link breaks, and nothing is declared or taken back
pub record ChangesNothing (m : Meaning) : Type 0 where
  pub router : m.router ≡ None
  pub client : m.client ≡ None
  pub broken : m.broken ≡ None
  pub declares : m.declares ≡ None

-- so it is with each act that may stand in a phase
abbrev pub PhasesChangeNothing : Type 0
PhasesChangeNothing = (act : Act) → stays act ≡ true → ChangesNothing (meaning act)
