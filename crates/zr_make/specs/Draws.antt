-- What is drawn from a number, in the words of the generator's own crate.
use Rattle.std.specs.Prelude.{ℕ, zero, suc, ◌%◌}
use Rattle.rand_core.specs.Pcg32Seed.{pcg32_seed}
use Rattle.rand_core.specs.Steps.{stream_of, steps_u32}
use Rattle.rand_core.specs.Stream.{Stream, next_u32}
use Rattle.rand_pcg.specs.Pcg.{pcg32, pcg32_of_seed}

-- all that the generator `Lcg64Xsh32` answers, seeded with a number
abbrev pub drawn_from : ℕ → Stream
drawn_from number = stream_of (steps_u32 pcg32) (pcg32_of_seed (pcg32_seed 16 number))

-- what is drawn behind the first so many draws
abbrev pub behind : ℕ → Stream → Stream
behind zero stream = stream
behind (suc count) stream = (next_u32 (behind count stream)).1

-- the draw behind so many others: one of 0 to n - 1
abbrev pub pick : Stream → ℕ → ℕ → ℕ
pick stream count n = (next_u32 (behind count stream)).0 % n
