-- A number whose text is an expression by itself is read as that.
use Rattle.std.proofs.Common.{◌≡◌, ℕ, ◌^◌, List, Some, Ok, false, refl}
use Rattle.std.proofs.lemmas.List.{append-nil}
use Rattle.zr_bytes.specs.Reading.{number_below}
use Rattle.zr_key.specs.Key.{read_key}
use Rattle.zr_wirekey.specs.Scopes.{Texts, text_at}
use Rattle.zr_wirekey.specs.Reading.{parts_of, key_of}

pub bare_read : (texts : Texts) (bytes rest : List ℕ) (n : ℕ) (text key : List ℕ) → number_below (2 ^ 16) bytes ≡ Ok (n, rest) → text_at texts n ≡ Some text → read_key text ≡ Ok key →
    key_of false texts bytes ≡ Ok (key, rest)
unfolding key_of parts_of
bare_read texts bytes rest n text key number stands reads = rw number (rw stands (rw (append-nil text) (rw reads refl)))
