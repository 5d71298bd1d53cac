use Rattle.zr_hist.specs.Words.{name}
use Rattle.zr_tests_router.proofs.tests.relayed.Given as goal

-- the history that was just made
abbrev pub ghosts-relay : goal.ghosts-relay
ghosts-relay g a = record { table = name a.history }
