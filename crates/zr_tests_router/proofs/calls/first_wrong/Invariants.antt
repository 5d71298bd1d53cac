use Rattle.zr_hist.specs.Words.{name}
use Rattle.zr_tests_router.proofs.calls.first_wrong.Given as goal

-- the router's name is that of its history, its identifier and its rules
abbrev pub ghosts-wrong_at : goal.ghosts-wrong_at
ghosts-wrong_at g a = record { history = name a.history; me = a.me; policy = a.policy }
