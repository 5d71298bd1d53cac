use Rattle.zr_net.proofs.Kept.{kept_in_parts}
use Rattle.zr_net.proofs.writing.each_ext.Goals as goal

pub returns-clause-items : goal.returns-clause-items
returns-clause-items c =
    rw (c.in_ok-put_tree.ensures.items, c.in_ok-put_request_exts.ensures.items, c.in_ok-put_origin.ensures.items, c.new-exts.ensures.items)
    (kept_in_parts c.args.extras.now c.args.target c.args.tree.now)
