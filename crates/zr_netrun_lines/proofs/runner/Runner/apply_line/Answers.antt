use Rattle.std.proofs.Common.{[], ◌∷◌}
use Rattle.zr_world_spec.specs.Accepted.{accepted_from}
use Rattle.zr_netrun_lines.specs.Kept.{Kept, fresh}
use Rattle.zr_netrun_lines.specs.Counted.{CountsOn}
use Rattle.zr_netrun_lines.proofs.Refusing.{kept_turns, kept_ok, kept_fault, kept_only, kept_refused}
use Rattle.zr_netrun_lines.proofs.runner.Runner.apply_line.Goals as goal

pub returns-clause-turn : goal.returns-clause-turn
returns-clause-turn g c = kept_turns c.on_line-done.result c.keep_refused.result c.args.line.now c.on_line-done.new.self c.keep_refused.new.self _ _ _ _ _ c.keep_refused.ensures.kept c.on_line-done.ensures.turn

pub returns-clause-counts : goal.returns-clause-counts
returns-clause-counts g c =
    kept_ok c.on_line-done.result c.keep_refused.result c.args.line.now c.on_line-done.new.self c.keep_refused.new.self
    (λ (z : Kept). CountsOn (accepted_from (fresh c.args.self.now) (c.args.line.now ∷ [])) c.args.self.now z) c.keep_refused.ensures.kept c.on_line-done.ensures.counts

pub returns-clause-refused : goal.returns-clause-refused
returns-clause-refused g c = kept_refused c.on_line-done.result c.keep_refused.result c.args.line.now c.on_line-done.new.self c.keep_refused.new.self c.keep_refused.ensures.kept

pub returns-clause-fault : goal.returns-clause-fault
returns-clause-fault g c f = c.on_line-done.ensures.fault (kept_fault c.on_line-done.result c.keep_refused.result c.args.line.now c.on_line-done.new.self c.keep_refused.new.self c.keep_refused.ensures.kept f)

pub returns-clause-only : goal.returns-clause-only
returns-clause-only g c = kept_only c.on_line-done.result c.keep_refused.result c.args.line.now c.on_line-done.new.self c.keep_refused.new.self _ _ c.keep_refused.ensures.kept c.on_line-done.ensures.only
