-- What is written and what the rest still writes are together the canonical form, with a `/` behind each chunk.
use Rattle.std.proofs.Common.{◌≡◌, ◌++◌, ◌+◌, length, map}
use Rattle.std.specs.Option.{option_copied, option_map_or}
use Rattle.zr_lists.specs.Cut.{parts}
use Rattle.zr_key.specs.Key.{expression_of, canonical, lined, ordered, settled, chunk_of}
use Rattle.zr_key.proofs.canonical.canonical_text.Given as goal

abbrev pub invariant-loop-rest : goal.invariant-loop-rest
invariant-loop-rest l = l.out.items ++ lined (ordered l.waiting (map settled (map chunk_of (parts 47 (option_copied l.rest))))) ≡ lined (canonical (expression_of l.text))

abbrev pub decreases-loop-rest : goal.decreases-loop-rest
decreases-loop-rest l = option_map_or (λ bytes. length bytes.now + 1) l.rest 0
