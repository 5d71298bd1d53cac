-- What a call that writes a part of a script has done.
use Rattle.std.specs.Prelude.{ℕ, List, Option, Result, Ok, Err}
use Rattle.zr_outside.specs.Told.{Appends, AppendsPrefix}
use Rattle.zr_make.specs.declared.error.MakeError.{MakeError}
use Rattle.zr_make.specs.Script.{text_of}

-- the lines were written, or a prefix of their text where the call stopped
abbrev pub Makes : Result (Unit {0}) MakeError → List (List ℕ) → Option (List ℕ) → Option (List ℕ) → Type 0
Makes (Ok u) lines before after = Appends (text_of lines) before after
Makes (Err e) lines before after = AppendsPrefix (text_of lines) before after
