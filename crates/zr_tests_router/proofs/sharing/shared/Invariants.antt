use Rattle.zr_hist.specs.Words.{name}
use Rattle.zr_tests_router.proofs.sharing.shared.Given as goal

-- the router's name is that of its history, its identifier and its rules
abbrev pub ghosts-share : goal.ghosts-share
ghosts-share g a = record { history = name a.history; me = a.me; policy = a.policy }
