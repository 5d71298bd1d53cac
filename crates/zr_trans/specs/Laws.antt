-- The laws of transport messages: what a reading call answers is what the bytes spell, and what is written is read again.
use Rattle.zr_format_spec.specs.Laws.{IsReadBy, HasOneReadingBefore, WrittenIsRead, SpelledIsWritten}
use Rattle.zr_trans.specs.Trans.{trans_format, MayStandBefore}
use Rattle.zr_trans.specs.Reading.{trans_of}
use Rattle.zr_trans.specs.Writing.{writes_trans, HasFields}

abbrev pub MessagesAreRead : Type 0
MessagesAreRead = IsReadBy MayStandBefore trans_format trans_of

-- No message begins another one, but a FRAGMENT, behind which nothing stands.
abbrev pub MessagesHaveOneReading : Type 0
MessagesHaveOneReading = HasOneReadingBefore MayStandBefore trans_format

-- What is written is read again, and each message that has a spelling can be written.
pub record WrittenMessagesAreRead : Type 0 where
  pub again : WrittenIsRead MayStandBefore trans_format trans_of (λ t. t) writes_trans HasFields
  pub fits : SpelledIsWritten trans_format (λ t. t) HasFields
