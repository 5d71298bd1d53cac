-- The laws of numbered keys: what a reading call answers is what the bytes spell, and what is written is read again.
use Rattle.std.specs.Prelude.{◌≡◌, ℕ, suc, ◌^◌, ◌<◌, ◌≤◌, Bool, true, false, List, [], ◌∷◌, ◌++◌, length, Some, Ok}
use Rattle.zr_bytes.specs.Spelling.{HasOneReading}
use Rattle.zr_format_spec.specs.Laws.{anywhere, IsReadBy}
use Rattle.zr_key.specs.Key.{read_key}
use Rattle.std.specs.List.{sum_by}
use Rattle.zr_wirekey.specs.Scopes.{Texts, text_at, declared, bytes_of}
use Rattle.zr_wirekey.specs.Names.{NameList, number_of, numbered}
use Rattle.zr_wirekey.specs.Spelling.{key_format}
use Rattle.zr_wirekey.specs.Reading.{key_of}
use Rattle.zr_wirekey.specs.Writing.{writes_key}

abbrev pub KeysAreRead : Type 0
KeysAreRead = (named : Bool) (texts : Texts) → IsReadBy anywhere (key_format named texts) (key_of named texts)

abbrev pub KeysHaveOneReading : Type 0
KeysHaveOneReading = (named : Bool) (texts : Texts) → HasOneReading (key_format named texts).spelled

-- What is written is read again, of a text that is read as itself, as each canonical text is: the whole text, or the number
-- that it was declared under.
pub record WrittenKeysAreRead : Type 0 where
  pub whole : (texts : Texts) (key : List ℕ) → length key ≤ 2048 → read_key key ≡ Ok key → (key_format true texts).spelled key (writes_key key 0)
  pub numbered : (texts : Texts) (key : List ℕ) (number : ℕ) → 0 < number → number < 2 ^ 16 → text_at texts number ≡ Some key → read_key key ≡ Ok key
      → (key_format false texts).spelled key (writes_key key number)

-- What the sender has given numbers, the receiver of its declarations knows: a text that has a number is found under it, a declaration of the next number is one
-- text more, and the texts have as many bytes at both ends.
pub record NamesAreHeard : Type 0 where
  pub number : (names : NameList) (text : List ℕ) (n : ℕ) → number_of names text ≡ Some n → (0 < n) × (n ≤ length names) × (text_at (numbered names) n ≡ Some text)
  pub next : (names : NameList) (text : List ℕ) → declared (numbered names) (suc (length names)) text ≡ numbered (names ++ text ∷ [])
  pub bytes : (names : NameList) → bytes_of (numbered names) ≡ sum_by (λ t. length t) names
