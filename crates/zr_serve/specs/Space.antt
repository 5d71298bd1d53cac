-- What becomes of a router's administration space before the router listens.
use Rattle.std.specs.Prelude.{◌≡◌, ℕ, ◌+◌, ◌-◌, ◌^◌, ◌≤◌, min, Bool, true, false, List, [], ◌∷◌, Option}
use Rattle.zr_admin.specs.Inner.{IsOpened, IsUnopened}
use Rattle.zr_admin.specs.declared.error.AdminError.{AdminError}
use Rattle.zr_admin.specs.declared.error.AdminError.TheVariants as error
use Rattle.zr_id.specs.declared.link.LinkNo.{LinkNo}
use Rattle.zr_link_job.specs.Starts.{Tells}
use Rattle.zr_link_job.specs.declared.job.ServeJob.{ServeJob}
use Rattle.zr_link_job.specs.declared.job.ServeJob.TheVariants.{Inner}
use Rattle.zr_msg.specs.Peer.{PeerState}
use Rattle.zr_msg.specs.declared.msg.Msg.{Msg}
use Rattle.zr_outside.specs.Told.{Appends}
use Rattle.zr_port.specs.Coming.{Answering, Sight}
use Rattle.zr_port.specs.declared.entry.Entry.{Entry}
use Rattle.zr_port.specs.declared.error.DeliverError.{DeliverError}
use Rattle.zr_port.specs.declared.error.DeliverError.TheVariants as deliver
use Rattle.zr_port.specs.declared.error.DownError.{DownError}
use Rattle.zr_port.specs.declared.error.UpError.{UpError}
use Rattle.zr_port.specs.declared.error.UpError.TheVariants as up
use Rattle.zr_serve.specs.Jobs.{LinksState, word, drawn}
use Rattle.zr_serve.specs.Lines.{refused_text}
use Rattle.zr_serve.specs.Moments.{Moment}

pub data Space : Type 0 where
  -- it isn't asked for
  Unasked : Space
  -- its inner client was started
  Running : Space
  -- its inner client did not come up, or could not declare what it answers
  Unopened : Space
  -- the crew handed the job of its inner client back
  Unstarted : Space

abbrev pub is_asked : Space → Bool
is_asked Unasked = false
is_asked Running = true
is_asked Unopened = true
is_asked Unstarted = true

-- the job that the crew has started for it
abbrev pub running : Space → List ServeJob
running Unasked = []
running Running = Inner ∷ []
running Unopened = []
running Unstarted = []

-- how many jobs came back
abbrev pub returned : Space → ℕ
returned Unasked = 0
returned Running = 0
returned Unopened = 0
returned Unstarted = 1

-- what is told of it
abbrev pub space_text : Space → List ℕ
space_text Unasked = []
space_text Running = []
space_text Unopened = refused_text
space_text Unstarted = refused_text

-- why: an inner client was opened, or that was refused
abbrev pub Because : Type 0 → Type 0 → Space → Type 0
Because Opened Refused Unasked = Unit {0}
Because Opened Refused Running = Opened
Because Opened Refused Unopened = Refused
Because Opened Refused Unstarted = Opened

-- its inner client takes one random word, where it is asked for
abbrev pub past_space : Bool → LinksState → LinksState
past_space false l = l
past_space true l = drawn l

-- the crew started its inner client, or handed it back
abbrev pub handed : Bool → Space
handed true = Running
handed false = Unstarted

-- what the crew's list and its count, and the error output, have of it
pub record IsToldOf (space : Space) (told told' : Option (List ServeJob)) (faults faults' : ℕ) (held held' : Option (List ℕ)) : Type 0 where
  pub started : Tells (running space) told told'
  pub back : min (faults + returned space) (2 ^ 64 - 1) ≤ faults'
  pub said : Appends (space_text space) held held'

-- Nothing was called, and this became of the administration space: `Opened` and `Refused` say of a random word that the inner client with it was opened, or
-- that the router refused it
pub record Begins (admin : Bool) (Opened Refused : ℕ → Type 0) (space : Space) (a b : Moment) : Type 0 where
  pub asked : is_asked space ≡ admin
  pub because : Because (Opened (word a.links.words)) (Refused (word a.links.words)) space
  pub recorded : b.calls ≡ a.calls
  pub told : IsToldOf space a.told b.told a.faults b.faults a.held b.held
  pub links_are : b.links ≡ past_space admin a.links

-- ---- by what a port refuses

-- an inner client with this word was opened behind these entries
abbrev pub OpensSpace : (List Entry → PeerState → UpError → Type 0) → (List Entry → LinkNo → Msg → DeliverError → Type 0) → List Entry → List ℕ → ℕ → Type 0
OpensSpace refuses_up refuses_message seen id word =
    (link : LinkNo) × (new : Sight) × IsOpened refuses_up (λ h m e. refuses_message h link m e) id word link (record { seen = seen; mine = [] }) new

-- memory ran out
abbrev pub is_spent : AdminError → Bool
is_spent (error.Up up.NoMemory) = true
is_spent (error.Up (up.Full links routers)) = false
is_spent (error.Up up.Twice) = false
is_spent (error.Up up.Worn) = false
is_spent (error.Deliver (deliver.NotUp link)) = false
is_spent (error.Deliver (deliver.Misplaced role)) = false
is_spent (error.Deliver (deliver.Denied rule)) = false
is_spent (error.Deliver (deliver.Ignored id)) = false
is_spent (error.Deliver (deliver.Node e)) = false
is_spent (error.Deliver (deliver.Full asked free)) = false
is_spent (error.Deliver deliver.Worn) = false
is_spent (error.Deliver deliver.NoMemory) = true
is_spent error.NoMemory = true

-- the router refused it, or what it declares, for another cause than memory; where a link came up for it, that was taken down by a call
abbrev pub RefusesSpace : (List Entry → PeerState → UpError → Type 0) → (List Entry → LinkNo → Msg → DeliverError → Type 0) → (List Entry → LinkNo → DownError → Type 0) → Answering → List Entry → List ℕ → ℕ → Type 0
RefusesSpace refuses_up refuses_message refuses_down called seen id word =
    (e : AdminError) × (new : Sight) × (is_spent e ≡ false) × IsUnopened refuses_up refuses_message refuses_down called id word e (record { seen = seen; mine = [] }) new
