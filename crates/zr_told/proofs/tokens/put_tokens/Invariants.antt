-- What was put and what is left make all.
use Rattle.std.proofs.Common.{◌≡◌, ◌++◌, map}
use Rattle.zr_told_spec.specs.Place.{token_on}
use Rattle.zr_told.proofs.tokens.put_tokens.Given as goal

abbrev pub invariant-loop-key : goal.invariant-loop-key
invariant-loop-key l = l.decls.items ++ map token_on l.key-iterator.rest.items ≡ l.fn.decls.items ++ map token_on l.fn.keys.items
