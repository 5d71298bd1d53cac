-- A message that was delivered adds its entry; one that is passed over adds none.
use Rattle.std.proofs.Common.{◌≡◌, ◌∙◌, true, refl, sym}
use Rattle.zr_hist.specs.Words.{list_of}
use Rattle.zr_port.specs.Coming.{Delivered, Passed, is_passed}
use Rattle.zr_router.proofs.Delivered.{one_makes, one_owns, one_passes, one_steps}
use Rattle.zr_router.proofs.tables.Tables.deliver_next.Goals as goal

pub returns-in-Ok-clause-came : goal.returns-in-Ok-clause-came
returns-in-Ok-clause-came g c =
    let done = c.in-Ok.ensures in
    let policy = g.B.Naming.policy in
    let me = g.B.Naming.me in (
      Delivered c.args.msg,
      refl,
      one_steps policy me c.args.link c.args.msg (list_of c.args.self.now.kept) (list_of c.deliver.new.self.kept) c.args.self.now.ends.items c.deliver.new.self.ends.items c.args.pass.now c.deliver.new.pass
          done.seen done.added done.rings,
      one_makes policy me c.args.link c.args.msg (list_of c.args.self.now.kept) c.args.pass.now c.deliver.new.pass done.added,
    )

pub returns-in-Ok-clause-own : goal.returns-in-Ok-clause-own
returns-in-Ok-clause-own g c =
    let done = c.in-Ok.ensures in
    one_owns g.B.Naming.policy g.B.Naming.me c.args.link c.args.msg (list_of c.args.self.now.kept) (list_of c.deliver.new.self.kept) c.args.pass.now c.deliver.new.pass done.seen done.added

pub returns-then-is_passed-clause-came : goal.returns-then-is_passed-clause-came
returns-then-is_passed-clause-came g c =
    let told = c.in-Err.ensures in
    let passed : is_passed c.in-Err.e ≡ true = sym c.is_passed.ensures ∙ c.if-is_passed.true in
    let both = one_passes g.B.Naming.policy g.B.Naming.me c.args.link c.args.msg c.in-Err.e (list_of c.args.self.now.kept) (list_of c.deliver.new.self.kept) c.args.self.now.ends.items c.deliver.new.self.ends.items
    c.args.pass.now c.deliver.new.pass passed told.refused told.prefix told.seen told.unchanged.0 told.unchanged.1 told.unasked in
    (Passed c.args.msg c.in-Err.e, refl, both.0, both.1)
