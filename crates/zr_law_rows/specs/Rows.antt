-- Whole scripts worked out: what the definitions say of them.
use Rattle.std.specs.Prelude.{◌≡◌, ℕ, List, [], ◌∷◌, ◌++◌, codes, true, map, take, drop, Option, Some, None}
use Rattle.std.specs.List.{flat_map}
use Rattle.std.specs.Option.{option_map}
use Rattle.zr_body.specs.Payload.{put_body, del_body}
use Rattle.zr_msg.specs.declared.content.Parts.{Parts}
use Rattle.zr_script_spec.specs.declared.error.ScriptError.{ScriptError}
use Rattle.zr_script_spec.specs.declared.error.ScriptError.TheVariants.{NothingThere}
use Rattle.zr_script_spec.specs.declared.command.Act.TheVariants.{Router, Client, Sub, Unsub, Publish, Handle, Take, Mark}
use Rattle.zr_script_spec.specs.Lines.{lines}
use Rattle.zr_script_spec.specs.Command.{plain}
use Rattle.zr_world_spec.specs.World.{is_quiet}
use Rattle.zr_world_spec.specs.Run.{run_of}
use Rattle.zr_world_spec.specs.Moments.{Numbered, reached}
use Rattle.zr_world_spec.specs.Accepted.{accepted}
use Rattle.zr_guarantee.specs.Item.{Item, Sample}
use Rattle.zr_guarantee.specs.Broker.{from}
use Rattle.zr_guarantee.specs.Sent.{sent_to}
use Rattle.zr_guarantee.specs.Refines.{sent_of}

-- the text of some lines, each with its end
abbrev pub text_of : List (List ℕ) → List ℕ
text_of lines = flat_map (λ line. line ++ 10 ∷ []) lines

-- what a script's run comes to: its report, how many of its lines were read, and the refusal of the last one
pub record ComesTo (script report : List (List ℕ)) (number : ℕ) (refusal : Option ScriptError) : Type 0 where
  pub report_is : (run_of (text_of script)).text ≡ text_of report
  pub number_is : (run_of (text_of script)).number ≡ number
  pub refusal_is : (run_of (text_of script)).refusal ≡ refusal

-- a subscriber, and a sample of another client that it is sent
abbrev pub first_script : List (List ℕ)
first_script =
    codes "router 0a" ∷ codes "client c1 0a" ∷ codes "client c2 0a" ∷ codes "sub c2 1 a/b" ∷ codes "handle 0a c2" ∷ codes "mark"
    ∷ codes "put c1 a/b hi" ∷ codes "handle 0a c1" ∷ codes "take 0a c2" ∷ []

-- a subscriber is sent another client's sample
abbrev pub SampleArrives : Type 0
SampleArrives = ComesTo first_script
    (codes "0a < c2: sub 1 a/b #4" ∷ codes "mark #6" ∷ codes "0a < c1: put - a/b hi #7" ∷ codes "0a > c2: put - a/b hi #7" ∷ [])
    9 None

-- the router of that script, and its two clients
abbrev pub a : List ℕ
a = 10 ∷ []

abbrev pub c1 : List ℕ
c1 = 193 ∷ []

abbrev pub c2 : List ℕ
c2 = 194 ∷ []

-- a value and a deletion, as a script makes them
abbrev pub value : List ℕ → List ℕ → Parts
value key payload = plain key (put_body payload)

abbrev pub deletion : List ℕ → Parts
deletion key = plain key del_body

-- the lines of that script before its mark, and those after it
abbrev pub before : List Numbered
before = (1, Router a) ∷ (2, Client c1 a) ∷ (3, Client c2 a) ∷ (4, Sub c2 1 (codes "a/b")) ∷ (5, Handle a c2) ∷ []

abbrev pub phase : List Numbered
phase = (7, Publish c1 (value (codes "a/b") (codes "hi"))) ∷ (8, Handle a c1) ∷ (9, Take a c2) ∷ []

-- what the one broker sends in that script
abbrev pub sample : Item
sample = record { line = 7; carried = Sample (value (codes "a/b") (codes "hi")) }

-- in that script the one broker sends the sample to the subscriber alone, and so does the network
pub record BrokerSendsIt : Type 0 where
  pub accepted_is : accepted (lines (text_of first_script)) ≡ before ++ (6, Mark) ∷ phase
  pub for_subscriber : from before phase c1 c2 ≡ sample ∷ []
  pub for_publisher : from before phase c1 c1 ≡ []
  pub of_subscriber : from before phase c2 c1 ≡ []
  pub subscriber_sent : option_map (λ m. sent_to m.report c2) (reached (before ++ (6, Mark) ∷ phase)) ≡ Some (sample ∷ [])
  pub publisher_sent : option_map (λ m. sent_to m.report c1) (reached (before ++ (6, Mark) ∷ phase)) ≡ Some []
  pub quiet_at_end : option_map (λ m. is_quiet m.world) (reached (before ++ (6, Mark) ∷ phase)) ≡ Some true

-- the empty script has the empty report
abbrev pub NothingIsReported : Type 0
NothingIsReported = ComesTo [] [] 0 None

-- a client is not sent its own sample
abbrev pub PublisherHearsNothing : Type 0
PublisherHearsNothing = ComesTo
    (codes "router 0a" ∷ codes "client c1 0a" ∷ codes "sub c1 1 a/b" ∷ codes "handle 0a c1" ∷ codes "put c1 a/b hi" ∷ codes "handle 0a c1"
    ∷ codes "take 0a c1" ∷ [])
    (codes "0a < c1: sub 1 a/b #3" ∷ codes "0a < c1: put - a/b hi #5" ∷ [])
    7 (Some NothingThere)

-- a client that subscribes twice to a key is sent one copy
abbrev pub OneCopyArrives : Type 0
OneCopyArrives = ComesTo
    (codes "router 0a" ∷ codes "client c1 0a" ∷ codes "client c2 0a" ∷ codes "sub c2 1 a/b" ∷ codes "sub c2 2 a/b" ∷ codes "handle 0a c2" ∷ codes "handle 0a c2"
    ∷ codes "mark" ∷ codes "put c1 a/b hi" ∷ codes "handle 0a c1" ∷ codes "take 0a c2" ∷ codes "take 0a c2" ∷ [])
    (codes "0a < c2: sub 1 a/b #4" ∷ codes "0a < c2: sub 2 a/b #5" ∷ codes "mark #8" ∷ codes "0a < c1: put - a/b hi #9" ∷ codes "0a > c2: put - a/b hi #9" ∷ [])
    12 (Some NothingThere)

-- a sample from before the mark, and one of its phase
abbrev pub old_and_new : List Numbered
old_and_new = (6, Publish c1 (value (codes "a/b") (codes "old"))) ∷ (7, Mark) ∷ (8, Publish c1 (value (codes "a/b") (codes "new"))) ∷ (9, Handle a c1) ∷ (10, Handle a c1) ∷ (11, Take a c2) ∷ (12, Take a c2) ∷ []

-- a sample from before the mark is sent in the phase too; it is none of the publisher's lines of the phase
pub record OldSampleArrives : Type 0 where
  pub sent_is : option_map (λ m. map (λ i. i.line) (sent_to m.report c2)) (reached (before ++ old_and_new)) ≡ Some (6 ∷ 8 ∷ [])
  pub of_phase : option_map (λ m. map (λ i. i.line) (sent_of (drop 2 old_and_new) m c1 c2)) (reached (before ++ old_and_new)) ≡ Some (8 ∷ [])
  pub due_is : map (λ i. i.line) (from (before ++ take 1 old_and_new) (drop 2 old_and_new) c1 c2) ≡ 8 ∷ []

-- a subscriber by two expressions, and a sample on a key that both match
abbrev pub wildcards : List (List ℕ)
wildcards =
    codes "router 0a" ∷ codes "client c1 0a" ∷ codes "client c2 0a" ∷ codes "sub c2 1 a/*" ∷ codes "sub c2 2 **" ∷ codes "run 2" ∷ codes "mark"
    ∷ codes "put c1 a/b hi" ∷ codes "run 9" ∷ []

-- the subscriber is sent one copy
abbrev pub WildcardsArriveOnce : Type 0
WildcardsArriveOnce = ComesTo wildcards
    (codes "0a < c2: sub 1 a/* #4" ∷ codes "0a < c2: sub 2 ** #5" ∷ codes "run 2 quiet" ∷ codes "mark #7"
    ∷ codes "0a < c1: put - a/b hi #8" ∷ codes "0a > c2: put - a/b hi #8" ∷ codes "run 2 quiet" ∷ [])
    9 None

-- each step of a run is among the accepted acts, with the number of the run's line
abbrev pub StepsAreAccepted : Type 0
StepsAreAccepted = accepted (lines (text_of wildcards))
    ≡ (1, Router a) ∷ (2, Client c1 a) ∷ (3, Client c2 a) ∷ (4, Sub c2 1 (codes "a/*")) ∷ (5, Sub c2 2 (codes "**"))
    ∷ (6, Handle a c2) ∷ (6, Handle a c2) ∷ (7, Mark)
    ∷ (8, Publish c1 (value (codes "a/b") (codes "hi"))) ∷ (9, Handle a c1) ∷ (9, Take a c2) ∷ []

-- a subscriber that takes one of two declarations back, and a sample and a deletion behind that
abbrev pub taken_back : List (List ℕ)
taken_back =
    codes "# two clients" ∷ [] ∷ codes "router 0a" ∷ codes "client c1 0a" ∷ codes "client c2 0a" ∷ codes "sub c2 1 a" ∷ codes "sub c2 2 b/**" ∷ codes "run 2"
    ∷ codes "unsub c2 1" ∷ codes "run 1" ∷ codes "mark" ∷ codes "put c1 a x" ∷ codes "del c1 b/c" ∷ codes "run 3" ∷ []

-- the subscriber is not sent what it asks for no more
abbrev pub UnsubscribedHearsNothing : Type 0
UnsubscribedHearsNothing = ComesTo taken_back
    (codes "0a < c2: sub 1 a #6" ∷ codes "0a < c2: sub 2 b/** #7" ∷ codes "run 2 quiet" ∷ codes "0a < c2: unsub 1 #9" ∷ codes "run 1 quiet" ∷ codes "mark #11"
    ∷ codes "0a < c1: put - a x #12" ∷ codes "0a < c1: del - b/c #13" ∷ codes "0a > c2: del - b/c #13" ∷ codes "run 3 quiet" ∷ [])
    14 None

-- the lines of that script that declare and undeclare, and those that publish
abbrev pub said_before : List Numbered
said_before = (3, Router a) ∷ (4, Client c1 a) ∷ (5, Client c2 a) ∷ (6, Sub c2 1 (codes "a")) ∷ (7, Sub c2 2 (codes "b/**")) ∷ (9, Unsub c2 1) ∷ []

abbrev pub said_after : List Numbered
said_after = (12, Publish c1 (value (codes "a") (codes "x"))) ∷ (13, Publish c1 (deletion (codes "b/c"))) ∷ []

-- of them the one broker sends the deletion alone
abbrev pub DeletionIsDue : Type 0
DeletionIsDue = from said_before said_after c1 c2 ≡ record { line = 13; carried = Sample (deletion (codes "b/c")) } ∷ []

-- a run does as many steps as it asks for, and the next one goes on where it stopped, up to the last step that is possible
abbrev pub RunsGoOn : Type 0
RunsGoOn = ComesTo
    (codes "router 0a" ∷ codes "client c1 0a" ∷ codes "put c1 a x" ∷ codes "put c1 a y" ∷ codes "run 1" ∷ codes "run 2" ∷ [])
    (codes "0a < c1: put - a x #3" ∷ codes "run 1 more" ∷ codes "0a < c1: put - a y #4" ∷ codes "run 1 quiet" ∷ [])
    6 None
