use Rattle.zr_hist.specs.Words.{name}
use Rattle.zr_tests_serve.proofs.sessions.is_answered.Given as goal

-- the router's name is that of its history, its identifier and its rules
abbrev pub ghosts-is_answered_at : goal.ghosts-is_answered_at
ghosts-is_answered_at g a = record { history = name a.history; me = a.me; policy = a.policy }
