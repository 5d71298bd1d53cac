use Rattle.std.proofs.Common.{ap, arith}
use Rattle.std.specs.Cmp.Lexicographic.{slice_cmp}
use Rattle.std.specs.Ordering.{nat_cmp}
use Rattle.std.proofs.lemmas.List.Sums.{sum_by-set, get_or-le-sum_by}
use Rattle.zr_lists.proofs.Order.{name_order}
use Rattle.zr_lists.proofs.Puts.{ascending_put, put_at}
use Rattle.zr_lists.specs.Place.{IsAt}
use Rattle.zr_pend_spec.specs.Held.{AreByKey, reply_weight}
use Rattle.zr_pend_spec.proofs.Gathered.{key_of}
use Rattle.zr_pend.proofs.replies.Replies.replace.Goals as goal

pub invariant_of-self : goal.invariant_of-self
invariant_of-self c =
    let held = c.self.inside.items.items in
    let reply = c.args.reply.now in
    let at : IsAt (slice_cmp nat_cmp) key_of held reply.key c.args.at = rw c.self.view_is c.requires.place in
    let up : AreByKey held = c.self.invariant.0 in
    rw (c.exchange.ensures, c.in_ok-copy.ensures) (
      rw (put_at (slice_cmp nat_cmp) key_of name_order held reply c.args.at at) (ascending_put (slice_cmp nat_cmp) key_of name_order held reply up),
      omega (
        arith,
        c.self.invariant.1,
        c.reply_weight.ensures,
        c.reply_weight-2.ensures,
        ap reply_weight c.in_ok-copy.ensures,
        ap reply_weight c.index.ensures,
        sum_by-set reply_weight held c.args.at reply c.index.result.now at.within,
        get_or-le-sum_by reply_weight held c.args.at c.index.result.now at.within,
      ),
    )

pub returns-clause-ok : goal.returns-clause-ok
returns-clause-ok c =
    let held = c.self.inside.items.items in
    let at : IsAt (slice_cmp nat_cmp) key_of held c.args.reply.now.key c.args.at = rw c.self.view_is c.requires.place in
    rw (c.exchange.ensures, c.in_ok-copy.ensures, ← c.self.view_is) (put_at (slice_cmp nat_cmp) key_of name_order held c.args.reply.now c.args.at at)
