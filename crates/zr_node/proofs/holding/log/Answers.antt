use Rattle.std.proofs.Common.{refl, sym, subst}
use Rattle.zr_log.specs.Known.{KnownState}
use Rattle.zr_node_spec.specs.Changes.{changes_of}
use Rattle.zr_push_sought.specs.Holders.{HoldJust}
use Rattle.zr_push_sought.specs.Pairs.{all_declared}
use Rattle.zr_node.proofs.HeldAfter.{own_held}
use Rattle.zr_node.proofs.holding.log.Goals as goal

pub returns-in-Ok-clause-holders : goal.returns-in-Ok-clause-holders
returns-in-Ok-clause-holders c = λ rows just.
    subst (λ (k : KnownState). HoldJust (all_declared rows c.args.known.now.me k.logs) c.args.holders.now) (sym c.in-Ok.ensures.known)
    (own_held c.args.holders.now rows c.args.known.now.me c.args.known.now (changes_of c.args.changes.now.gone.items c.args.changes.now.came.items) refl just)

pub returns-in-Err-clause-holders : goal.returns-in-Err-clause-holders
returns-in-Err-clause-holders c = λ rows just. c.forget.ensures (all_declared rows c.args.known.now.me c.log.new.known.logs)
