-- What one message makes of a session, by its phase.
use Rattle.std.specs.Prelude.{ℕ, ◌^◌, Bool, true, false, List, [], ◌∷◌, length, Option, Some, None, Result, Ok, Err, if◌then◌else◌, nat_lt}
use Rattle.zr_bytes.specs.Reading.{Read}
use Rattle.zr_frame_batch.specs.Framing.{framed}
use Rattle.zr_trans.specs.declared.trans.Trans.{Trans}
use Rattle.zr_trans.specs.declared.trans.Trans.TheVariants.{Init, Open, Close, KeepAlive, Frame, Fragment}
use Rattle.zr_trans.specs.Writing.{writes_trans}
use Rattle.zr_wirekey.specs.Scopes.{Texts, declared, undeclared, bytes_of}
use Rattle.zr_msg.specs.declared.msg.Msg.{Msg}
use Rattle.zr_msg.specs.declared.peer.Role.{Role}
use Rattle.zr_msg.specs.declared.peer.Role.TheVariants.{Client, Router}
use Rattle.zr_decl.specs.declared.declared.Declared.TheVariants.{Told, Number, Unnumber, Ignored}
use Rattle.zr_frame.specs.declared.channel.ChannelError.{ChannelError}
use Rattle.zr_frame.specs.declared.channels.Channels.{Channels}
use Rattle.zr_wire.specs.Limits.{most_of}
use Rattle.zr_frame.specs.Channel.{fresh, frame, fragment}
use Rattle.zr_frame.specs.Channels.{one_of, on_one}
use Rattle.zr_open.specs.declared.error.OpenError.{OpenError}
use Rattle.zr_open.specs.declared.error.OpenError.TheVariants as error
use Rattle.zr_open.specs.declared.error.Reason.{Reason}
use Rattle.zr_open.specs.declared.error.Reason.TheVariants.{Generic, Invalid}
use Rattle.zr_open.specs.declared.expected.Expected.{Expected}
use Rattle.zr_open.specs.declared.expected.Opened as opened
use Rattle.zr_open.specs.declared.expected.Progress.{Progress}
use Rattle.zr_open.specs.declared.expected.Progress.TheVariants as progress
use Rattle.zr_open.specs.Opening.{OpeningState}
use Rattle.zr_open.specs.Table.{received}
use Rattle.zr_session.specs.declared.carried.Carried.{Carried}
use Rattle.zr_session.specs.declared.carried.Carried.TheVariants.{BetweenRouters, Network}
use Rattle.zr_session.specs.declared.phase.Established as session
use Rattle.zr_session.specs.declared.phase.Phase.{Phase}
use Rattle.zr_session.specs.declared.phase.Phase.TheVariants as phase
use Rattle.zr_session.specs.declared.event.SessionEvent.TheVariants as event
use Rattle.zr_session.specs.declared.fate.End.{End}
use Rattle.zr_session.specs.declared.fate.End.TheVariants.{Closed, Peer}
use Rattle.zr_wire.specs.Roles.{admits}
use Rattle.zr_session.specs.Carried.{carried_of}
use Rattle.zr_session.specs.Course.{Course, going, stops, gives, answers}

-- ---- network messages

-- an established session ends for a reason of this end
abbrev pub closed : Reason → session.Established → Course
closed reason s = stops (phase.Established s) (Closed reason)

-- a message is given where the peer may send it, and is out of place else
abbrev pub given : Bool → session.Established → Msg → Course
given true s m = gives (phase.Established s) (event.Message m)
given false s m = closed Invalid s

abbrev pub with_keys : session.Established → Texts → session.Established
with_keys s keys = record { role = s.role; lease = s.lease; answer = s.answer; channels = s.channels; keys = keys }

-- A number stands for a text from now on, where the texts of the peer are then within the limit of 1,048,576 bytes together.
abbrev pub numbered : session.Established → Texts → Course
numbered s keys = if nat_lt 1048576 (bytes_of keys) then closed Generic s else going (phase.Established (with_keys s keys))

-- the ends of what interests asked for: a client's are ignored, a router has none
abbrev pub ignored : Role → session.Established → Course
ignored Client s = going (phase.Established s)
ignored Router s = closed Invalid s

-- messages between routers: a client's are ignored
abbrev pub between_routers : Role → session.Established → Msg → Course
between_routers Client s m = going (phase.Established s)
between_routers Router s m = given (admits Router m) s m

abbrev pub on_carried : session.Established → Carried → Course
on_carried s (Network (Told m)) = given (admits s.role m) s m
on_carried s (Network (Number n text)) = numbered s (declared s.keys n text)
on_carried s (Network (Unnumber n)) = going (phase.Established (with_keys s (undeclared s.keys n)))
on_carried s (Network Ignored) = ignored s.role s
on_carried s (BetweenRouters None) = going (phase.Established s)
on_carried s (BetweenRouters (Some m)) = between_routers s.role s m

-- ---- transport messages of an established session

abbrev pub with_channels : session.Established → Channels → session.Established
with_channels s channels = record { role = s.role; lease = s.lease; answer = s.answer; channels = channels; keys = s.keys }

-- A frame whose number is not accepted is refused.
abbrev pub on_frame : session.Established → Result (Unit {0} × Channels) ChannelError → Course
on_frame s (Ok x) = going (phase.Established (with_channels s x.1))
on_frame s (Err e) = closed Invalid s

-- A message that came in fragments is one network message, with nothing behind it.
abbrev pub on_whole : session.Established → Read Carried → Course
on_whole s (Ok (m, [])) = on_carried s m
on_whole s (Ok (m, b ∷ bytes)) = closed Invalid s
on_whole s (Err e) = closed Invalid s

-- a fragment: one of others to come, or the last one
abbrev pub on_fragment : session.Established → Result (Option (List ℕ) × Channels) ChannelError → Course
on_fragment s (Ok (None, channels)) = going (phase.Established (with_channels s channels))
on_fragment s (Ok (Some bytes, channels)) = on_whole (with_channels s channels) (carried_of s.role s.keys bytes)
on_fragment s (Err e) = closed Invalid s

abbrev pub on_established : session.Established → Trans → Course
on_established s (Init _ _ _ _ _ _ _) = closed Invalid s
on_established s (Open _ _ _ _ _) = closed Invalid s
on_established s (Close _ reason) = stops (phase.Established s) (Peer reason)
on_established s KeepAlive = going (phase.Established s)
on_established s (Frame reliable n) = on_frame s (on_one s.channels reliable (frame (one_of s.channels reliable) n))
on_established s (Fragment reliable more n piece) =
    on_fragment s (on_one s.channels reliable (fragment (most_of s.role) (one_of s.channels reliable) more n piece))

-- ---- opening

-- the answer to OPEN as a batch behind its length, where there is one
abbrev pub written : Option Trans → List ℕ
written None = []
written (Some t) = framed (writes_trans t)

-- what is known once both ends are open: no message came, and no number stands for a text
abbrev pub established : opened.Opened → session.Established
established o = record {
  role = o.peer.role;
  lease = o.lease;
  answer = written o.answer;
  channels = record { reliable = fresh o.outbox.bits o.first; best_effort = fresh o.outbox.bits o.first };
  keys = [];
}

-- An answer is a batch of its own. One that no batch has room for, as with a cookie that fills its batch, ends the opening.
abbrev pub answered : Expected → Expected → List ℕ → Course
answered expected next batch =
    if nat_lt (length batch) (2 ^ 16) then answers (phase.Opening next) (framed batch) else stops (phase.Opening expected) (Closed Invalid)

-- An end of the table is one of the session. Memory is not known to it.
abbrev pub end_of : OpenError → End
end_of (error.Closed reason) = Closed reason
end_of (error.Peer reason) = Peer reason
end_of error.NoMemory = Closed Generic

abbrev pub on_progress : Expected → Result Progress OpenError → Course
on_progress expected (Ok (progress.Answers next answer)) = answered expected next (writes_trans answer)
on_progress expected (Ok (progress.Opened o)) = gives (phase.Established (established o)) (event.Opened o.peer o.outbox)
on_progress expected (Err e) = stops (phase.Opening expected) (end_of e)

-- ---- all phases

abbrev pub on_trans : OpeningState → Phase → Trans → Course
on_trans o (phase.Opening expected) t = on_progress expected (received o expected t)
on_trans o (phase.Established s) t = on_established s t
