use Rattle.std.proofs.Common.{◌≡◌, ◌≢◌, None}
use Rattle.zr_hist.specs.Words.{list_of, mine, seen}
use Rattle.zr_msg.specs.declared.event.Event.TheVariants.{From}
use Rattle.zr_port.specs.Adding.{IsAdmitted, IsEntryOf}
use Rattle.zr_port.specs.declared.error.DeliverError.TheVariants.{NoMemory}
use Rattle.zr_router.specs.Refusals.{RefusesMessage}
use Rattle.zr_router.proofs.Entered.{added_less, told_after, told_prefix}
use Rattle.zr_router.proofs.router.RouterPort.deliver.Goals as goal

pub returns-clause-prefix : goal.returns-clause-prefix
returns-clause-prefix g c =
    let r = c.deliver-result in
    told_prefix r.result c.args.pass.now r.new.pass (list_of c.deref_mut.result.now.kept) (list_of r.new.self.kept) (mine r.new.pass ≡ mine c.args.pass.now)
    (λ a b e. (b ≡ list_of c.deref_mut.result.now.kept) × IsEntryOf (From c.args.link c.args.msg) None None e × IsAdmitted (λ x. RefusesMessage g.B.Naming.policy g.B.Naming.me b c.args.link c.args.msg x))
    r.ensures.prefix r.ensures.seen r.ensures.added r.ensures.unchanged

pub returns-clause-added : goal.returns-clause-added
returns-clause-added g c =
    let r = c.deliver-result in
    added_less r.result c.args.pass.now r.new.pass (list_of c.deref_mut.result.now.kept)
    (λ a b e. (b ≡ list_of c.deref_mut.result.now.kept) × IsEntryOf (From c.args.link c.args.msg) None None e × IsAdmitted (λ x. RefusesMessage g.B.Naming.policy g.B.Naming.me b c.args.link c.args.msg x))
    (λ a b e. IsEntryOf (From c.args.link c.args.msg) None None e × IsAdmitted (λ x. RefusesMessage g.B.Naming.policy g.B.Naming.me b c.args.link c.args.msg x))
    (λ a b e p. (p.1, p.2)) r.ensures.added

pub returns-clause-refused : goal.returns-clause-refused
returns-clause-refused g c =
    let r = c.deliver-result in
    told_after r.result (list_of c.deref_mut.result.now.kept) (list_of r.new.self.kept) (seen r.new.pass) (mine r.new.pass ≡ mine c.args.pass.now)
    (λ l x. x ≢ NoMemory → RefusesMessage g.B.Naming.policy g.B.Naming.me l c.args.link c.args.msg x) r.ensures.seen r.ensures.unchanged r.ensures.refused
