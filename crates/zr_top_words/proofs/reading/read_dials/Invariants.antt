use Rattle.std.proofs.Common.{◌≡◌, ◌++◌, drop, map}
use Rattle.std.specs.Option.{option_map}
use Rattle.zr_top_words.specs.Asked.{dials_of}
use Rattle.zr_top_words.proofs.reading.read_dials.Given as goal

abbrev pub invariant-loop-word : goal.invariant-loop-word
invariant-loop-word l = option_map (λ ds. l.dials.items ++ ds) (dials_of (map (λ s. s.now) (drop l.word-index l.words))) ≡ dials_of (map (λ s. s.now) l.words)
