use Rattle.std.proofs.Common.{arith}
use Rattle.zr_push_sought.proofs.Rows.{front_more, last_place}
use Rattle.zr_push_sought.proofs.client_rows.count_on.Goals as goal

pub loop-link-preserved : goal.loop-link-preserved
loop-link-preserved c =
    let here = c.is_no_higher.ensures.yes c.loop-link-test.true in
    record {
      within = omega (arith, here.0);
      front = front_more c.args.rows.now c.args.link.0 c.loop-link.count c.loop-link.invariant.front here.1;
    }

pub returns-clause-parted : goal.returns-clause-parted
returns-clause-parted c =
    last_place c.args.rows.now c.args.link.0 c.loop-link.count c.requires c.loop-link.invariant.front (c.is_no_higher.ensures.no c.loop-link-test.false)
