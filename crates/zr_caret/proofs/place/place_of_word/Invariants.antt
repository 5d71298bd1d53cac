-- The bytes so far, with what the rest has in front of the word, are all that stands in front of it.
use Rattle.std.proofs.Common.{◌≡◌, ◌+◌, drop}
use Rattle.zr_caret.specs.Shown.{place_from, place_of_word}
use Rattle.zr_caret.proofs.place.place_of_word.Given as goal

abbrev pub invariant-loop-place : goal.invariant-loop-place
invariant-loop-place l = l.place + place_from l.inside l.left (drop l.place l.line) ≡ place_of_word l.fn.number l.line
