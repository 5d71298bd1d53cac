-- What the replies of a script are: each is a REPLY, and together they weigh less than the script.
use Rattle.std.specs.Prelude.{ℕ, ◌≤◌, List, length}
use Rattle.std.specs.List.{sum_by}
use Rattle.zr_script_spec.specs.Lines.{most_bytes, lines}
use Rattle.zr_world_spec.specs.Accepted.{accepted}
use Rattle.zr_guarantee.specs.Latest.{RepliesFit}

-- the replies of lines fit that have no more bytes than a script may have
abbrev pub LinesFit : Type 0
LinesFit = (ls : List (List ℕ)) → sum_by length ls ≤ most_bytes → RepliesFit (accepted ls)

-- the lines of a script have no more bytes than the script
abbrev pub LinesAreWithin : Type 0
LinesAreWithin = (bytes : List ℕ) → sum_by length (lines bytes) ≤ length bytes
