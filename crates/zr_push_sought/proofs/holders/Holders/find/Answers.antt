use Rattle.std.proofs.Common.{IfSome, sym, subst}
use Rattle.std.specs.Cmp.Lexicographic.{slice_cmp}
use Rattle.std.specs.Ordering.{nat_cmp}
use Rattle.zr_lists.specs.Ascending.{IsAscending}
use Rattle.zr_log.specs.Known.{KnownState}
use Rattle.zr_push_sought.specs.Holders.{AreFound}
use Rattle.zr_push_sought.specs.Pairs.{declared_by, pairs_of}
use Rattle.zr_push_sought.specs.Sought.{by_meeting}
use Rattle.zr_push_sought.specs.declared.sought.Sought.{Sought}
use Rattle.zr_push_sought.specs.declared.sought.Sought.TheVariants.{Subscribers, Queryables, Complete}
use Rattle.zr_push_sought.proofs.Telling.{found_tell}
use Rattle.zr_push_sought.proofs.holders.Holders.find.Goals as goal

pub returns-in-Subscribers : goal.returns-in-Subscribers
returns-in-Subscribers c =
    let up : IsAscending (slice_cmp nat_cmp) (λ l. l.source) c.args.tables.now.known.logs = subst (λ (k : KnownState). IsAscending (slice_cmp nat_cmp) (λ l. l.source) k.logs) c.known.ensures c.logs-in_order.ensures.in_order.ascending in
    subst (λ (s : Sought). IfSome c.find.result (λ f. AreFound c.args.tables.now (by_meeting s) c.args.key.now f)) (sym c.in-Subscribers.is)
    (found_tell Subscribers c.args.tables.now c.args.key.now c.find.result up (c.find.ensures (pairs_of (by_meeting Subscribers) (declared_by c.args.tables.now)) c.requires.subscribers))

pub returns-in-Queryables : goal.returns-in-Queryables
returns-in-Queryables c =
    let up : IsAscending (slice_cmp nat_cmp) (λ l. l.source) c.args.tables.now.known.logs = subst (λ (k : KnownState). IsAscending (slice_cmp nat_cmp) (λ l. l.source) k.logs) c.known.ensures c.logs-in_order.ensures.in_order.ascending in
    subst (λ (s : Sought). IfSome c.find-in-Queryables.result (λ f. AreFound c.args.tables.now (by_meeting s) c.args.key.now f)) (sym c.in-Queryables.is)
    (found_tell Queryables c.args.tables.now c.args.key.now c.find-in-Queryables.result up (c.find-in-Queryables.ensures (pairs_of (by_meeting Queryables) (declared_by c.args.tables.now)) c.requires.queryables))

pub returns-in-Complete : goal.returns-in-Complete
returns-in-Complete c =
    let up : IsAscending (slice_cmp nat_cmp) (λ l. l.source) c.args.tables.now.known.logs = subst (λ (k : KnownState). IsAscending (slice_cmp nat_cmp) (λ l. l.source) k.logs) c.known.ensures c.logs-in_order.ensures.in_order.ascending in
    subst (λ (s : Sought). IfSome c.find-in-Complete.result (λ f. AreFound c.args.tables.now (by_meeting s) c.args.key.now f)) (sym c.in-Complete.is)
    (found_tell Complete c.args.tables.now c.args.key.now c.find-in-Complete.result up (c.find-in-Complete.ensures (pairs_of (by_meeting Complete) (declared_by c.args.tables.now)) c.requires.queryables))
