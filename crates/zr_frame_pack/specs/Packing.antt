-- The parcels of messages. Between routers a message goes with a number that stands for the text of its key, and the number is declared before its first use.
use Rattle.std.specs.Prelude.{ℕ, suc, Bool, true, false, List, [], ◌∷◌, ◌++◌, ◌&&◌, length, Option, Some, None, is_none}
use Rattle.zr_msg.specs.declared.msg.Msg.{Msg}
use Rattle.zr_wirekey.specs.Names.{NameList, number_of, has_room}
use Rattle.zr_wirekey.specs.Writing.{writes_name}
use Rattle.zr_frame.specs.Outbox.{OutboxState, with_names}
use Rattle.zr_frame.specs.Packing.{Parcels, parcels}
use Rattle.zr_wire.specs.Writing.{writes_message, writes_numbered, text_of}

-- What is written, message by message, and the texts that have numbers then.
pub record Written : Type 0 where
  pub messages : List (List ℕ)
  pub names : Option NameList

-- A message whose key has this text. The text has a number; or it gets the next one, which is declared first; or it goes whole.
abbrev pub with_number : Option ℕ → Bool → NameList → List ℕ → Msg → Written
with_number (Some number) room names text m = record { messages = writes_numbered m number ∷ []; names = Some names }
with_number None true names text m =
    record { messages = writes_name (suc (length names)) text ∷ writes_numbered m (suc (length names)) ∷ []; names = Some (names ++ text ∷ []) }
with_number None false names text m = record { messages = writes_message m ∷ []; names = Some names }

-- a message with such a text, or without
abbrev pub written_by : Option (List ℕ) → NameList → Msg → Written
written_by None names m = record { messages = writes_message m ∷ []; names = Some names }
written_by (Some text) names m = with_number (number_of names text) (has_room names text) names text m

-- one message, where this end gives numbers or not
abbrev pub written_one : Option NameList → Msg → Written
written_one None m = record { messages = writes_message m ∷ []; names = None }
written_one (Some names) m = written_by (text_of m) names m

-- what is written, and what is written then
abbrev pub before : Written → (Option NameList → Written) → Written
before w more = record { messages = w.messages ++ (more w.names).messages; names = (more w.names).names }

-- messages in order
abbrev pub written : Option NameList → List Msg → Written
written names [] = record { messages = []; names = names }
written names (m ∷ messages) = before (written_one names m) (λ next. written next messages)

-- the parcels of what is written, and these names behind them
abbrev pub parcels_with : OutboxState → Written → Parcels
parcels_with outbox w = record { batches = (parcels outbox w.messages).batches; outbox = with_names (parcels outbox w.messages).outbox w.names }

abbrev pub parcels_of : OutboxState → List Msg → Parcels
parcels_of outbox messages = parcels_with outbox (written outbox.names messages)

-- the names of an end that gives numbers, and none where it doesn't
abbrev pub names_in : Option NameList → NameList → Option NameList
names_in None names = None
names_in (Some first) names = Some names

-- the number that stands for a text, where this end gives numbers and the text has one
abbrev pub numbered_in : Option NameList → Option (List ℕ) → Option ℕ
numbered_in None text = None
numbered_in (Some names) None = None
numbered_in (Some names) (Some text) = number_of names text

-- whether the text gets one now
abbrev pub gets_number : Option NameList → Option (List ℕ) → Bool
gets_number None text = false
gets_number (Some names) None = false
gets_number (Some names) (Some text) = is_none (number_of names text) && has_room names text
