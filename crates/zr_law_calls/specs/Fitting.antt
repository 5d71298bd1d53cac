-- Which acts may be applied to a world: what a client's act sends may be passed on. Lines ask for no others.
use Rattle.std.specs.Prelude.{Option, Some, None, IfSome}
use Rattle.zr_msg.specs.declared.msg.Msg.{Msg}
use Rattle.zr_msg.specs.declared.msg.Msg.TheVariants as m
use Rattle.zr_msg.specs.declared.peer.Role.TheVariants.{Client}
use Rattle.zr_msg.specs.Extras.{no_extras}
use Rattle.zr_script_spec.specs.declared.command.Act.{Act}
use Rattle.zr_script_spec.specs.declared.command.Act.TheVariants as a
use Rattle.zr_script_spec.specs.Mode.{is_current, is_future}
use Rattle.zr_law_sent.specs.Passing.{MayPass}

-- the message that a client sends by an act
abbrev pub sent_by : Act → Option Msg
sent_by (a.Router id) = None
sent_by (a.Client id router) = None
sent_by (a.Link one other weight) = None
sent_by (a.Up router neighbour) = None
sent_by (a.Break router neighbour) = None
sent_by (a.Down router neighbour) = None
sent_by (a.Sub client id key) = Some (m.Sub id key)
sent_by (a.Unsub client id) = Some (m.Unsub id)
sent_by (a.Able client id key complete) = Some (m.Able id key complete)
sent_by (a.Unable client id) = Some (m.Unable id)
sent_by (a.Token client id key) = Some (m.Token id key)
sent_by (a.Untoken client id) = Some (m.Untoken id)
sent_by (a.Interest client id mode kinds key aggregate) = Some (m.Interest id (is_current mode) (is_future mode) kinds key aggregate)
sent_by (a.Uninterest client id) = Some (m.EndInterest id)
sent_by (a.Publish client content) = Some (m.Push None content)
sent_by (a.Get client number target content) = Some (m.Request None number target content)
sent_by (a.Reply client number content) = Some (m.Response number content)
sent_by (a.End client number) = Some (m.Final number no_extras)
sent_by (a.Handle router from) = None
sent_by (a.Take router to) = None
sent_by a.Mark = None
sent_by (a.Show router) = None

abbrev pub IsFit : Act → Type 0
IsFit act = IfSome (sent_by act) (λ msg. MayPass Client msg)
