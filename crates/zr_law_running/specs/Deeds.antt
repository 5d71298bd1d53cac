-- What clients do by the acts of a script.
use Rattle.std.specs.Prelude.{List, Option, Some, None}
use Rattle.std.specs.List.{filter_map}
use Rattle.zr_msg.specs.declared.msg.Msg.TheVariants as m
use Rattle.zr_msg.specs.Extras.{no_extras}
use Rattle.zr_script_spec.specs.Mode.{is_current, is_future}
use Rattle.zr_script_spec.specs.declared.command.Act.{Act}
use Rattle.zr_script_spec.specs.declared.command.Act.TheVariants as a
use Rattle.zr_world_spec.specs.Moments.{Numbered}
use Rattle.zr_law_running.specs.Runs.{Deed, Arrival, Parting, Saying}

-- the deed of an act, if it is one
abbrev pub deed_of : Act → Option Deed
deed_of (a.Router id) = None
deed_of (a.Client id router) = Some (Arrival id router)
deed_of (a.Link one other weight) = None
deed_of (a.Up router neighbour) = None
deed_of (a.Break router neighbour) = Some (Parting router neighbour)
deed_of (a.Down router neighbour) = None
deed_of (a.Sub client id key) = Some (Saying client (m.Sub id key))
deed_of (a.Unsub client id) = Some (Saying client (m.Unsub id))
deed_of (a.Token client id key) = Some (Saying client (m.Token id key))
deed_of (a.Untoken client id) = Some (Saying client (m.Untoken id))
deed_of (a.Able client id key complete) = Some (Saying client (m.Able id key complete))
deed_of (a.Unable client id) = Some (Saying client (m.Unable id))
deed_of (a.Interest client id mode kinds key aggregate) = Some (Saying client (m.Interest id (is_current mode) (is_future mode) kinds key aggregate))
deed_of (a.Uninterest client id) = Some (Saying client (m.EndInterest id))
deed_of (a.Publish client content) = Some (Saying client (m.Push None content))
deed_of (a.Get client number target content) = Some (Saying client (m.Request None number target content))
deed_of (a.Reply client number content) = Some (Saying client (m.Response number content))
deed_of (a.End client number) = Some (Saying client (m.Final number no_extras))
deed_of (a.Handle router from) = None
deed_of (a.Take router to) = None
deed_of a.Mark = None
deed_of (a.Show router) = None

-- the deeds of some acts, in order
abbrev pub deeds : List Numbered → List Deed
deeds acts = filter_map (λ x. deed_of x.1) acts
