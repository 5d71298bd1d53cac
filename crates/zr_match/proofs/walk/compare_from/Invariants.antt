-- What is left of both decides.
use Rattle.std.proofs.Common.{◌≡◌, ◌≤◌, length, true}
use Rattle.std.specs.List.{list_all}
use Rattle.zr_key.specs.Expression.{is_chunk}
use Rattle.zr_key.specs.Key.{expression_of}
use Rattle.zr_match.specs.Table.{compare_chunks}
use Rattle.zr_match.proofs.walk.compare_from.Given as goal

abbrev pub invariant-chunks : goal.invariant-chunks
invariant-chunks l = record {
  short : length l.right ≤ length l.second;
  left_is : list_all is_chunk (expression_of l.left) ≡ true;
  right_is : list_all is_chunk (expression_of l.right) ≡ true;
  same : compare_chunks l.expands (expression_of l.left) (expression_of l.right) ≡ compare_chunks l.expands (expression_of l.first) (expression_of l.second);
}

abbrev pub decreases-chunks : goal.decreases-chunks
decreases-chunks l = length l.left
