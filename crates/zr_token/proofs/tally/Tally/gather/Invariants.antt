-- With the pairs that are left, the keys are those of all.
use Rattle.std.proofs.Common.{◌≡◌, drop, filter, map}
use Rattle.std.specs.BTreeSet.{insert_key}
use Rattle.std.specs.Cmp.Lexicographic.{slice_cmp}
use Rattle.std.specs.List.{fold}
use Rattle.std.specs.Option.{option_copied}
use Rattle.std.specs.Ordering.{nat_cmp}
use Rattle.zr_token.specs.Tally.{is_alive, alive}
use Rattle.zr_token.proofs.tally.Tally.gather.Given as goal

abbrev pub invariant-loop-pair : goal.invariant-loop-pair
invariant-loop-pair l =
    fold (insert_key (slice_cmp nat_cmp)) l.texts.keys (map (λ p. p.key) (filter (is_alive l.self l.but.0 (option_copied l.key)) (drop l.pair-index l.self.pairs))) ≡ alive l.self l.but.0 (option_copied l.key)
