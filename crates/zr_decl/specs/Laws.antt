-- The laws of declarations and interests: what a reading call answers is what the bytes spell, and what is written is read again.
use Rattle.std.specs.Prelude.{None}
use Rattle.zr_bytes.specs.Spelling.{HasOneReading}
use Rattle.zr_format_spec.specs.Laws.{anywhere, IsReadBy, WrittenIsRead, SpelledIsWritten}
use Rattle.zr_wirekey.specs.Scopes.{Texts}
use Rattle.zr_wirekey.specs.Writing.{writes_name}
use Rattle.zr_decl.specs.declared.declared.Declared.TheVariants.{Number}
use Rattle.zr_decl.specs.Declare.{declare_format, interest_format}
use Rattle.zr_decl.specs.Reading.{message_of, interest_of}
use Rattle.zr_decl.specs.Writing.{writes_decl, tells, IsDeclaration, IsName, Declares, Asks}

abbrev pub DeclarationsAreRead : Type 0
DeclarationsAreRead = (theirs ours : Texts) → IsReadBy anywhere (declare_format theirs ours) (message_of theirs ours)

abbrev pub DeclarationsHaveOneReading : Type 0
DeclarationsHaveOneReading = (theirs ours : Texts) → HasOneReading (declare_format theirs ours).spelled

-- A told message is read as the declaration that it tells.
abbrev pub WrittenDeclarationsAreRead : Type 0
WrittenDeclarationsAreRead = (theirs ours : Texts) → WrittenIsRead anywhere (declare_format theirs ours) (message_of theirs ours) tells writes_decl Declares

-- The declaration of a number is read as that.
abbrev pub WrittenNamesAreRead : Type 0
WrittenNamesAreRead = (theirs ours : Texts) → WrittenIsRead anywhere (declare_format theirs ours) (message_of theirs ours) (λ name. (Number name.0 name.1, None)) (λ name. writes_name name.0 name.1) IsName

abbrev pub InterestsAreRead : Type 0
InterestsAreRead = (theirs ours : Texts) → IsReadBy anywhere (interest_format theirs ours) (interest_of theirs ours)

abbrev pub InterestsHaveOneReading : Type 0
InterestsHaveOneReading = (theirs ours : Texts) → HasOneReading (interest_format theirs ours).spelled

abbrev pub WrittenInterestsAreRead : Type 0
WrittenInterestsAreRead = (theirs ours : Texts) → WrittenIsRead anywhere (interest_format theirs ours) (interest_of theirs ours) (λ m. m) writes_decl Asks

-- Each declaration that has a spelling can be written, and each interest.
abbrev pub SpelledDeclarationsAreWritten : Type 0
SpelledDeclarationsAreWritten = (theirs ours : Texts) → SpelledIsWritten (declare_format theirs ours) tells (λ m. IsDeclaration m → Declares m)

abbrev pub SpelledInterestsAreWritten : Type 0
SpelledInterestsAreWritten = (theirs ours : Texts) → SpelledIsWritten (interest_format theirs ours) (λ m. m) Asks
