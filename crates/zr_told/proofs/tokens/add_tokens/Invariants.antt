-- What was added and what is left make all.
use Rattle.std.proofs.Common.{◌≡◌, ◌++◌, drop}
use Rattle.zr_token.specs.declared.owner.Owner.TheVariants.{Source}
use Rattle.zr_told.specs.Tokens.{pairs_of}
use Rattle.zr_told.proofs.tokens.add_tokens.Given as goal

abbrev pub invariant-loop-decl : goal.invariant-loop-decl
invariant-loop-decl l =
    (l.tally.pairs ++ pairs_of (Source l.source) (drop l.decl-index l.decls) ≡ l.fn.tally.pairs ++ pairs_of (Source l.source) l.decls) × (l.tally.reached ≡ l.fn.tally.reached)
