use Rattle.std.proofs.Common.{sym, ◌∙◌}
use Rattle.std.proofs.lemmas.Bool.{true≢false}
use Rattle.zr_router_core.proofs.tell.links_at.Goals as goal

pub returns-then-is_own-clause-links : goal.returns-then-is_own-clause-links
returns-then-is_own-clause-links c = λ e. absurd (true≢false (sym (sym c.is_own.ensures ∙ c.if-is_own.true) ∙ e))
