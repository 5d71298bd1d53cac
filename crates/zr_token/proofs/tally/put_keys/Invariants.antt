-- A prefix of the keys was appended, and the others are left.
use Rattle.zr_lists.proofs.Prefixes.{IsSoFar}
use Rattle.zr_token.proofs.tally.put_keys.Given as goal

abbrev pub invariant-loop-text : goal.invariant-loop-text
invariant-loop-text l = IsSoFar l.fn.out.items l.fn.texts.keys l.out.items l.text-iterator
