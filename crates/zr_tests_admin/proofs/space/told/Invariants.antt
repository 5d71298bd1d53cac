use Rattle.zr_hist.specs.Words.{name}
use Rattle.zr_tests_admin.proofs.space.told.Given as goal

-- the router's name is that of its history, its identifier and its rules
abbrev pub ghosts-told_at : goal.ghosts-told_at
ghosts-told_at g a = record { history = name a.history; me = a.me; policy = a.policy }
