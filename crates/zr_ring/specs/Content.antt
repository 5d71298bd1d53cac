-- What a note may vouch for at a place: some bytes, or an end with its reason.
use Rattle.std.specs.Prelude.{ℕ, List, Option}

pub data Content : Type 0 where
  bytes : List ℕ → Content
  end : Option ℕ → Content

abbrev pub bytes_of : List ℕ → Content
bytes_of b = bytes b
