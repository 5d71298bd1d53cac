-- What is marked and what is left to mark make all.
use Rattle.std.proofs.Common.{◌≡◌, []}
use Rattle.std.specs.List.{fold}
use Rattle.std.specs.Map.{keys_of}
use Rattle.zr_told.specs.Plan.{put_mark, unwanted}
use Rattle.zr_told.proofs.book.Book.unwanted.Given as goal

abbrev pub invariant-loop-place : goal.invariant-loop-place
invariant-loop-place l = fold (put_mark unwanted) l.marks.entries l.place-iterator ≡ fold (put_mark unwanted) [] (keys_of l.self)
