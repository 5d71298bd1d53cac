-- The laws of network messages: what a reading call answers is what the bytes spell, and what is written is read again.
use Rattle.std.specs.Prelude.{ℕ}
use Rattle.zr_bytes.specs.Spelling.{HasOneReading}
use Rattle.zr_format_spec.specs.Laws.{anywhere, IsReadBy, WrittenIsRead, SpelledIsWritten}
use Rattle.zr_wirekey.specs.Scopes.{Texts}
use Rattle.zr_wirekey.specs.Writing.{writes_name}
use Rattle.zr_msg.specs.declared.peer.Role.{Role}
use Rattle.zr_decl.specs.declared.declared.Declared.TheVariants.{Told, Number}
use Rattle.zr_decl.specs.Writing.{IsName}
use Rattle.zr_net.specs.Net.{net_format}
use Rattle.zr_net.specs.Reading.{net_of}
use Rattle.zr_net.specs.Writing.{writes_net, IsOfNumbers, CanBeSent}

abbrev pub NetIsRead : Type 0
NetIsRead = (role : Role) (theirs ours : Texts) → IsReadBy anywhere (net_format role theirs ours) (net_of role theirs ours)

abbrev pub NetHasOneReading : Type 0
NetHasOneReading = (role : Role) (theirs ours : Texts) → HasOneReading (net_format role theirs ours).spelled

abbrev pub WrittenNetIsRead : Type 0
WrittenNetIsRead = (role : Role) (theirs ours : Texts) (number : ℕ) → WrittenIsRead anywhere (net_format role theirs ours) (net_of role theirs ours) (λ m. Told m) (λ m. writes_net m number) (CanBeSent role theirs number)

-- The declaration of a number is read as that.
abbrev pub WrittenNamesAreRead : Type 0
WrittenNamesAreRead = (role : Role) (theirs ours : Texts) → WrittenIsRead anywhere (net_format role theirs ours) (net_of role theirs ours) (λ name. Number name.0 name.1) (λ name. writes_name name.0 name.1) IsName

-- Each message that has a spelling can be written, with its whole key.
abbrev pub SpelledNetIsWritten : Type 0
SpelledNetIsWritten = (role : Role) (theirs ours : Texts) → SpelledIsWritten (net_format role theirs ours) (λ m. Told m) (λ m. IsOfNumbers m → CanBeSent role theirs 0 m)
