-- What a call did, by what the part of the stream that it read comes to.
use Rattle.std.specs.Prelude.{◌≡◌, ℕ, Bool, List, ◌++◌, Some, None, Result, Ok, Err}
use Rattle.zr_bytes.specs.declared.read_error.ReadError.{ReadError}
use Rattle.zr_bytes.specs.declared.read_error.ReadError.TheVariants as read
use Rattle.zr_frame.specs.declared.channel.ChannelError.{ChannelError}
use Rattle.zr_frame.specs.declared.channel.ChannelError.TheVariants as channel
use Rattle.zr_open.specs.declared.error.Reason.TheVariants.{Invalid}
use Rattle.zr_open.specs.Opening.{OpeningState}
use Rattle.zr_session.specs.declared.event.Fed.{Fed}
use Rattle.zr_session.specs.declared.event.SessionEvent.{SessionEvent}
use Rattle.zr_session.specs.declared.fate.End.{End}
use Rattle.zr_session.specs.declared.fate.End.TheVariants.{Closed}
use Rattle.zr_session.specs.declared.stop.ReadStop.{ReadStop}
use Rattle.zr_session.specs.declared.stop.ReadStop.TheVariants.{Ended, NoMemory}
use Rattle.zr_session.specs.declared.phase.Phase.{Phase}
use Rattle.zr_session.specs.Course.{Course, owed_in}
use Rattle.zr_session.specs.Stream.{Item, Comes}

-- the events and the bytes of a course were appended
pub record Adds (c : Course) (old new : Fed) : Type 0 where
  pub events : new.events.items ≡ old.events.items ++ c.events
  pub bytes : new.bytes.items ≡ old.bytes.items ++ c.bytes

-- prefixes of them were appended
pub record AddsPrefixes (c : Course) (old new : Fed) : Type 0 where
  pub events : List SessionEvent
  pub other_events : List SessionEvent
  pub bytes : List ℕ
  pub other_bytes : List ℕ
  pub are_events : c.events ≡ events ++ other_events
  pub are_bytes : c.bytes ≡ bytes ++ other_bytes
  pub new_events : new.events.items ≡ old.events.items ++ events
  pub new_bytes : new.bytes.items ≡ old.bytes.items ++ bytes

-- nothing was appended
pub record Keeps (old new : Fed) : Type 0 where
  pub events : new.events.items ≡ old.events.items
  pub bytes : new.bytes.items ≡ old.bytes.items

-- the course ends so, and this is owed
pub record EndsSo (c : Course) (how : End) (p : Phase) : Type 0 where
  pub ends : c.ends ≡ Some how
  pub owed : owed_in c.phase ≡ owed_in p

-- One step: it goes on with the course's phase, or the session has ended as the course does. Out of memory it gave nothing.
abbrev pub Steps : Result (Unit {0}) ReadStop → Course → Phase → Fed → Fed → Type 0
Steps (Ok _) c p old new = (c.ends ≡ None) × (c.phase ≡ p) × Adds c old new
Steps (Err (Ended how)) c p old new = EndsSo c how p × Adds c old new
Steps (Err NoMemory) c p old new = Keeps old new

-- One message of a batch: a frame is open behind it or not, and the rest is left.
abbrev pub Reads : Result Bool ReadStop → Item → Phase → List ℕ → Fed → Fed → Type 0
Reads (Ok in_frame) item p rest old new = (item.course.ends ≡ None) × (item.course.phase ≡ p) × (item.in_frame ≡ in_frame) × (item.rest ≡ rest) × Adds item.course old new
Reads (Err (Ended how)) item p rest old new = EndsSo item.course how p × Adds item.course old new
Reads (Err NoMemory) item p rest old new = Keeps old new

-- Several: out of memory they gave prefixes.
abbrev pub Goes : Result (Unit {0}) ReadStop → Course → Phase → Fed → Fed → Type 0
Goes (Ok _) c p old new = (c.ends ≡ None) × (c.phase ≡ p) × Adds c old new
Goes (Err (Ended how)) c p old new = EndsSo c how p × Adds c old new
Goes (Err NoMemory) c p old new = AddsPrefixes c old new

-- The bytes come to a course, and less than a batch of them is left. A call that goes on keeps it.
abbrev pub Takes : Result (Unit {0}) ReadStop → OpeningState → Phase → List ℕ → Phase → List ℕ → Fed → Fed → Type 0
Takes (Ok _) o first bytes p kept old new = (c : Course) × Comes o first bytes c kept × (c.ends ≡ None) × (c.phase ≡ p) × Adds c old new
Takes (Err (Ended how)) o first bytes p kept old new = (c : Course) × (rest : List ℕ) × Comes o first bytes c rest × EndsSo c how p × Adds c old new
Takes (Err NoMemory) o first bytes p kept old new = (c : Course) × (rest : List ℕ) × Comes o first bytes c rest × AddsPrefixes c old new

-- how a reader's refusal stops a session
abbrev pub stop_of_read : ReadError → ReadStop
stop_of_read read.Short = Ended (Closed Invalid)
stop_of_read read.TooBig = Ended (Closed Invalid)
stop_of_read read.UnknownId = Ended (Closed Invalid)
stop_of_read read.Mandatory = Ended (Closed Invalid)
stop_of_read read.BadText = Ended (Closed Invalid)
stop_of_read read.BadKey = Ended (Closed Invalid)
stop_of_read read.UnknownScope = Ended (Closed Invalid)
stop_of_read read.Extra = Ended (Closed Invalid)
stop_of_read read.NoMemory = NoMemory

-- how a channel's does
abbrev pub stop_of_channel : ChannelError → ReadStop
stop_of_channel channel.OutOfTurn = Ended (Closed Invalid)
stop_of_channel channel.TooLong = Ended (Closed Invalid)
stop_of_channel channel.NoMemory = NoMemory
