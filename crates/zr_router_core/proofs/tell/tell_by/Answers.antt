use Rattle.std.proofs.Common.{sym, ◌∙◌}
use Rattle.zr_router_core.proofs.Telling.{all_of}
use Rattle.zr_router_core.proofs.tell.tell_by.Goals as goal

pub tell_all-requires-clause-links : goal.tell_all-requires-clause-links
tell_all-requires-clause-links c = c.requires.links (sym c.is_own.ensures ∙ c.if-not-is_own.true)

pub returns-then-not-is_own : goal.returns-then-not-is_own
returns-then-not-is_own c =
    all_of c.args.tables.now c.args.event.now c.args.told.now _ c.requires.ready (sym c.is_own.ensures ∙ c.if-not-is_own.true) c.tell_all.ensures.in_order c.tell_all.result c.tell_all.new.told c.args.out.now.items c.tell_all.new.out.items
    c.tell_all.ensures.map c.tell_all.ensures.sends c.tell_all.ensures.prefix
