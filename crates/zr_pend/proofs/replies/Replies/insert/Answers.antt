use Rattle.std.proofs.Common.{ap, arith}
use Rattle.std.specs.Cmp.Lexicographic.{slice_cmp}
use Rattle.std.specs.Ordering.{nat_cmp}
use Rattle.std.proofs.lemmas.List.Sums.{sum_by-insert}
use Rattle.zr_lists.proofs.Order.{name_order}
use Rattle.zr_lists.proofs.Puts.{ascending_put, put_in}
use Rattle.zr_lists.specs.Place.{IsGap}
use Rattle.zr_pend_spec.specs.Held.{AreByKey, reply_weight}
use Rattle.zr_pend_spec.proofs.Gathered.{key_of}
use Rattle.zr_pend.proofs.replies.Replies.insert.Goals as goal

pub invariant_of-self-2 : goal.invariant_of-self-2
invariant_of-self-2 c =
    let held = c.self.inside.items.items in
    let reply = c.args.reply.now in
    let gap : IsGap (slice_cmp nat_cmp) key_of held reply.key c.args.at = rw c.self.view_is c.requires.place in
    let up : AreByKey held = c.self.invariant.0 in
    rw (c.in_ok-insert.ensures.items, c.in_ok-copy.ensures) (
      rw (put_in (slice_cmp nat_cmp) key_of name_order held reply c.args.at gap) (ascending_put (slice_cmp nat_cmp) key_of name_order held reply up),
      omega (arith, c.self.invariant.1, c.reply_weight-weight.ensures, ap reply_weight c.in_ok-copy.ensures, sum_by-insert reply_weight held c.args.at reply),
    )
