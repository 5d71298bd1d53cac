-- The texts that are written: the lines of a report, the line that tells a refusal, and the usage line.
use Rattle.std.specs.Prelude.{ℕ, ◌==◌, Bool, true, false, if◌then◌else◌, List, [], ◌∷◌, ◌++◌, map, codes, Option, Some, None}
use Rattle.std.specs.Fmt.{decimal}
use Rattle.std.specs.List.{flat_map, join_with_byte}
use Rattle.hex.specs.Hex.{encode_lower}
use Rattle.zr_id.specs.Record.{LinkedState, RecordState}
use Rattle.zr_body.specs.Latest.{StampState, is_latest, stamp_of}
use Rattle.zr_body.specs.Payload.{payload_of, is_del}
use Rattle.zr_msg.specs.Kinds.{in_subs, in_ables, in_tokens}
use Rattle.zr_msg.specs.declared.decl.Kind.{Kind}
use Rattle.zr_msg.specs.declared.decl.Kind.TheVariants as k
use Rattle.zr_msg.specs.declared.decl.Decl.{Decl}
use Rattle.zr_msg.specs.declared.msg.Kinds.{Kinds}
use Rattle.zr_msg.specs.declared.msg.Target.{Target}
use Rattle.zr_msg.specs.declared.msg.Target.TheVariants as t
use Rattle.zr_msg.specs.declared.msg.Msg.{Msg}
use Rattle.zr_msg.specs.declared.msg.Msg.TheVariants.{Sub, Unsub, Token, Untoken, Able, Unable, Interest, EndInterest, ToldSub, ToldAble, ToldUnsub, ToldToken, ToldUntoken, ToldUnable, ToldEnd, Push, Request, Response, Final, State, Step, Snap}
use Rattle.zr_script_spec.specs.declared.report.ReportLine.{ReportLine}
use Rattle.zr_script_spec.specs.declared.report.ReportLine.TheVariants.{Handled, Taken, Ran, Fanned, Mark, Show, Record, Parent, Source}
use Rattle.zr_script_spec.specs.declared.error.ScriptError.{ScriptError}
use Rattle.zr_script_spec.specs.declared.error.ScriptError.TheVariants as e

-- the end of a line
abbrev pub line_end : List ℕ
line_end = 10 ∷ []

-- ---- the words of a message

-- what stands for none: no tree on a client's link, no key of an interest, no interest that a told message answers
abbrev pub nothing_text : List ℕ
nothing_text = codes "-"

-- an identifier
abbrev pub id_text : List ℕ → List ℕ
id_text id = encode_lower id

-- an identifier that may be missing: the root of a tree, or a parent in it
abbrev pub optional_id_text : Option (List ℕ) → List ℕ
optional_id_text None = nothing_text
optional_id_text (Some id) = id_text id

-- a payload: the empty one is shown as `-`
abbrev pub payload_text : List ℕ → List ℕ
payload_text [] = codes "-"
payload_text (b ∷ bs) = b ∷ bs

-- the time at which a reply's payload was given, if it has one, behind a space; the clock isn't shown
abbrev pub time_text : Option StampState → List ℕ
time_text None = []
time_text (Some stamp) = codes " " ++ decimal stamp.time

-- the key of an interest, if it has one
abbrev pub key_text : Option (List ℕ) → List ℕ
key_text None = nothing_text
key_text (Some key) = key

-- the interest that a told message answers, if it answers one
abbrev pub interest_text : Option ℕ → List ℕ
interest_text None = nothing_text
interest_text (Some id) = decimal id

-- what of the present and the future an interest asks
abbrev pub mode_text : Bool → Bool → List ℕ
mode_text true true = codes "both"
mode_text true false = codes "now"
mode_text false true = codes "later"
mode_text false false = nothing_text

-- the kinds of declarations in which an interest is, where a script has a word for them
abbrev pub kinds_text : Kinds → List ℕ
kinds_text kinds = by (in_subs kinds) (in_ables kinds) (in_tokens kinds)
  where
    by : Bool → Bool → Bool → List ℕ
    by true true false = codes "all"
    by true false false = codes "sub"
    by false true false = codes "able"
    by false false true = codes "token"
    by true true true = nothing_text
    by true false true = nothing_text
    by false true true = nothing_text
    by false false false = nothing_text

-- a word that is there where a test holds, behind a space
abbrev pub if_so : Bool → List ℕ → List ℕ
if_so true word = codes " " ++ word
if_so false word = []

-- a queryable, or a complete one
abbrev pub able_text : Bool → List ℕ
able_text true = codes "full"
able_text false = codes "able"

-- which queryables a request asks
abbrev pub target_text : Target → List ℕ
target_text t.Best = codes "best"
target_text t.All = codes "all"
target_text t.Complete = codes "complete"

-- a link of a record: the router to which it leads, and its weight where that isn't 1
abbrev pub linked_text : LinkedState → List ℕ
linked_text link = if link.weight == 1 then id_text link.id else id_text link.id ++ codes ":" ++ decimal link.weight

-- the links that a link record lists
abbrev pub links_text : List LinkedState → List ℕ
links_text [] = nothing_text
links_text (link ∷ links) = join_with_byte 44 (map linked_text (link ∷ links))

-- a link record
abbrev pub record_text : RecordState → List ℕ
record_text r = codes "record " ++ id_text r.id ++ codes " " ++ decimal r.seq ++ codes " " ++ links_text r.links

-- a declaration's kind
abbrev pub kind_text : Kind → List ℕ
kind_text k.Sub = codes "sub"
kind_text k.Able = codes "able"
kind_text k.Full = codes "full"
kind_text k.Token = codes "token"

-- a declaration, behind a space
abbrev pub decl_text : Decl → List ℕ
decl_text d = codes " " ++ kind_text d.kind ++ codes " " ++ d.key

-- whether a declaration was added or removed
abbrev pub sign_text : Bool → List ℕ
sign_text true = codes "+"
sign_text false = codes "-"

-- whether a sample is a value or a deletion
abbrev pub sample_text : Bool → List ℕ → List ℕ → List ℕ → List ℕ
sample_text true tree key payload = codes "del " ++ tree ++ codes " " ++ key
sample_text false tree key payload = codes "put " ++ tree ++ codes " " ++ key ++ codes " " ++ payload

-- ---- a message

abbrev pub msg_text : Msg → List ℕ
msg_text (Sub id key) = codes "sub " ++ decimal id ++ codes " " ++ key
msg_text (Unsub id) = codes "unsub " ++ decimal id
msg_text (Token id key) = codes "token " ++ decimal id ++ codes " " ++ key
msg_text (Untoken id) = codes "untoken " ++ decimal id
msg_text (Able id key complete) = able_text complete ++ codes " " ++ decimal id ++ codes " " ++ key
msg_text (Unable id) = codes "unable " ++ decimal id
msg_text (Interest id current future kinds key aggregate) =
    codes "interest " ++ decimal id ++ codes " " ++ mode_text current future ++ codes " " ++ kinds_text kinds ++ codes " " ++ key_text key
    ++ if_so aggregate (codes "aggregate")
msg_text (EndInterest id) = codes "uninterest " ++ decimal id
msg_text (ToldSub id key interest) = codes "told sub " ++ decimal id ++ codes " " ++ key ++ codes " " ++ interest_text interest
msg_text (ToldToken id key interest) = codes "told token " ++ decimal id ++ codes " " ++ key ++ codes " " ++ interest_text interest
msg_text (ToldAble id key complete interest) =
    codes "told " ++ able_text complete ++ codes " " ++ decimal id ++ codes " " ++ key ++ codes " " ++ interest_text interest
msg_text (ToldUnsub id) = codes "told unsub " ++ decimal id
msg_text (ToldUntoken id) = codes "told untoken " ++ decimal id
msg_text (ToldUnable id) = codes "told unable " ++ decimal id
msg_text (ToldEnd interest) = codes "told end " ++ decimal interest
msg_text (Push tree content) = sample_text (is_del content.body) (optional_id_text tree) content.key (payload_text (payload_of content.body))
msg_text (Request tree id target content) =
    codes "get " ++ optional_id_text tree ++ codes " " ++ decimal id ++ codes " " ++ content.key ++ codes " " ++ target_text target
    ++ if_so (is_latest content.body) (codes "latest")
msg_text (Response id content) =
    codes "reply " ++ decimal id ++ codes " " ++ content.key ++ codes " " ++ payload_text (payload_of content.body) ++ time_text (stamp_of content.body)
msg_text (Final id extras) = codes "final " ++ decimal id
msg_text (State links) = record_text links
msg_text (Step source number added decl) = codes "entry " ++ id_text source ++ codes " " ++ decimal number ++ codes " " ++ sign_text added ++ decl_text decl
msg_text (Snap source number decls) = codes "snap " ++ id_text source ++ codes " " ++ decimal number ++ flat_map decl_text decls

-- ---- a report line

-- how a run has ended: no step is possible any more, or more are
abbrev pub rest_text : Bool → List ℕ
rest_text quiet = if quiet then codes " quiet" else codes " more"

-- a report line: `ROUTER < NEIGHBOUR: MESSAGE #TAG` for a handled message, `ROUTER > NEIGHBOUR: MESSAGE #TAG` for a taken one,
-- `run STEPS quiet` or `run STEPS more` at the end of a run, the lines of its steps and `fan STEPS` for a fan, `mark #LINE` where a phase begins, and `show ROUTER`, `record ID NUMBER LINKS`,
-- `parent ROOT PARENT` and `source ROUTER NUMBER DECLARATIONS` of a router's tables
abbrev pub line_text : ReportLine → List ℕ
line_text (Handled router from msg tag) = id_text router ++ codes " < " ++ id_text from ++ codes ": " ++ msg_text msg ++ codes " #" ++ decimal tag ++ line_end
line_text (Taken router to msg tag) = id_text router ++ codes " > " ++ id_text to ++ codes ": " ++ msg_text msg ++ codes " #" ++ decimal tag ++ line_end
line_text (Ran steps quiet) = codes "run " ++ decimal steps ++ rest_text quiet ++ line_end
line_text (Fanned lines steps kinds) = lines ++ codes "fan " ++ decimal steps ++ line_end
line_text (Mark line) = codes "mark #" ++ decimal line ++ line_end
line_text (Show router) = codes "show " ++ id_text router ++ line_end
line_text (Record links) = record_text links ++ line_end
line_text (Parent root parent) = codes "parent " ++ id_text root ++ codes " " ++ optional_id_text parent ++ line_end
line_text (Source source number decls) = codes "source " ++ id_text source ++ codes " " ++ decimal number ++ flat_map decl_text decls ++ line_end

-- ---- a refusal

-- the number and the name of a refusal
abbrev pub refusal_text : ScriptError → List ℕ
refusal_text e.UnknownCommand = codes "1 UnknownCommand"
refusal_text e.BadWords = codes "2 BadWords"
refusal_text e.UnknownName = codes "3 UnknownName"
refusal_text e.NameTaken = codes "4 NameTaken"
refusal_text e.BadKey = codes "5 BadKey"
refusal_text e.NotLinked = codes "7 NotLinked"
refusal_text e.AlreadyLinked = codes "6 AlreadyLinked"
refusal_text e.NothingThere = codes "8 NothingThere"
refusal_text e.NotAsked = codes "9 NotAsked"
refusal_text e.NotSettled = codes "10 NotSettled"
refusal_text e.NotJoined = codes "11 NotJoined"
refusal_text e.Limit = codes "12 Limit"
refusal_text e.NotSamples = codes "13 NotSamples"
refusal_text e.NoMemory = []

-- `line N: NUMBER NAME`
abbrev pub refused_text : ℕ → ScriptError → List ℕ
refused_text number error = codes "line " ++ decimal number ++ codes ": " ++ refusal_text error ++ line_end

-- what is said of a script that is too long
abbrev pub too_long_text : List ℕ
too_long_text = codes "script too long" ++ line_end
