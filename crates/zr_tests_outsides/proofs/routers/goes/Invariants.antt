use Rattle.zr_hist.specs.Words.{name}
use Rattle.zr_tests_outsides.proofs.routers.goes.Given as goal

-- the router's name is that of its history, its identifier and its rules
abbrev pub ghosts-goes_named : goal.ghosts-goes_named
ghosts-goes_named g a = record { history = name a.history; me = a.me; policy = a.policy }
