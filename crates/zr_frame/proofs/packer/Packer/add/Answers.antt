use Rattle.zr_frame.proofs.Adding.{joins_begun, joins_own, goes_split, where_ok}
use Rattle.zr_frame.proofs.packer.Packer.add.Goals as goal

pub returns-then-branch : goal.returns-then-branch
returns-then-branch c = joins_begun _ _ c.args.self.now c.join.new.self c.if-branch.true c.in_ok-join.ensures

pub returns-then-branch-2 : goal.returns-then-branch-2
returns-then-branch-2 c =
    joins_own _ _ _ c.args.self.now c.join.new.self c.close.new.self c.join-2.new.self c.if-branch.false c.in_ok-join.ensures c.in_ok-close.ensures
    c.if-branch-2.true c.in_ok-join-2.ensures

pub returns : goal.returns
returns c =
    where_ok c.split.result
    (goes_split _ _ _ c.args.self.now c.join.new.self c.close.new.self c.join-2.new.self c.split.new.self c.if-branch.false c.in_ok-join.ensures
    c.in_ok-close.ensures c.if-branch-2.false c.in_ok-join-2.ensures)
    c.split.ensures
