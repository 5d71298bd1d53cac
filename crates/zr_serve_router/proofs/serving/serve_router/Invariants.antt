use Rattle.zr_hist.specs.Words.{name}
use Rattle.zr_serve_router.proofs.serving.serve_router.Given as goal

-- the router's name is that of its history, of the plan's identifier and of the rules
abbrev pub ghosts-serve_named : goal.ghosts-serve_named
ghosts-serve_named g a = record { history = name a.history; me = a.plan.now.id; policy = a.policy }
