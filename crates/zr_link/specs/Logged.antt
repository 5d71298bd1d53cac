-- What the log of a link's reader was told.
use Rattle.std.specs.Prelude.{◌≡◌, ◌≢◌, ◌⊎◌, ◌≤◌, ℕ, List, ◌∷◌, Option, Some, None}
use Rattle.std.specs.List.{AllByRecursion, concat}
use Rattle.zr_access.specs.Rules.{PolicyState}
use Rattle.zr_id.specs.declared.link.LinkNo.{LinkNo}
use Rattle.zr_frame.specs.Outbox.{OutboxState}
use Rattle.zr_msg.specs.Peer.{PeerState}
use Rattle.zr_outside.specs.Told.{Appends, Tells}
use Rattle.zr_port.specs.declared.entry.Entry.{Entry}
use Rattle.zr_port.specs.declared.error.UpError.{UpError}
use Rattle.zr_port.specs.declared.error.UpError.TheVariants as up_error
use Rattle.zr_link.specs.declared.end.LinkEnd.{LinkEnd}
use Rattle.zr_link.specs.declared.log.Stage.{Stage}
use Rattle.zr_link.specs.declared.log.Stage.TheVariants as stage
use Rattle.zr_link.specs.declared.log.LinkLog.{LinkLog}
use Rattle.zr_link.specs.Acts.{Act, Does, up}
use Rattle.zr_link.specs.Denied.{IsDenial}
use Rattle.zr_link.specs.Log.{IsNotUp, cause_of, end_line, held_in, log_held, log_lost, lost_in, rules_of, stage_of, up_line}

-- a line tells of a message that some rules, if there are any, deny to the peer with which a link has come up
abbrev pub IsDenialTo : Stage → Option PolicyState → List ℕ → Type 0
IsDenialTo s None line = ⊥
IsDenialTo stage.Unopened (Some policy) line = ⊥
IsDenialTo (stage.Opened peer) (Some policy) line = ⊥
IsDenialTo (stage.Up peer) (Some policy) line = IsDenial policy peer line

-- the port refuses this peer, or memory ran out
abbrev pub RefusesPeer : (PeerState → UpError → Type 0) → PeerState → Type 0
RefusesPeer refuses peer = (error : UpError) × (error ≢ up_error.NoMemory → refuses peer error)

-- lines of denials were told, and nothing else
abbrev pub Denials : Stage → Option PolicyState → Option (List ℕ) → Option (List ℕ) → Type 0
Denials s rules held held' = (lines : List (List ℕ)) × AllByRecursion (IsDenialTo s rules) lines × Appends (concat lines) held held'

module _ {L : Type 0} where
  -- a log was told of denials alone, and the link stands as before
  abbrev pub TellsDenials : (L → Option (List ℕ)) → (L → ℕ) → LinkLog L → LinkLog L → Type 0
  TellsDenials held lost log log' =
      (stage_of log' ≡ stage_of log) × (rules_of log' ≡ rules_of log) × Denials (stage_of log) (rules_of log) (log_held held log) (log_held held log') × (log_lost lost log ≤ log_lost lost log')

  -- The link didn't come up and nothing was told, and the log knows the peer that was `Refused`, if one was; or it came up with a peer, which was told first, or
  -- counts as lost. Behind that denials were told alone: each
  -- of a message that the rules of the log deny to this peer. Which of them are left out isn't said
  abbrev pub IsLogged : (L → Option (List ℕ)) → (L → ℕ) → (PeerState → Type 0) → List Entry → List Entry → LinkLog L → LinkLog L → Type 0
  IsLogged held lost Refused entries entries' log log' =
      ((entries' ≡ entries) × IsNotUp Refused log'.stage × (log_held held log' ≡ log_held held log) × (log_lost lost log' ≡ log_lost lost log))
      ⊎ ((link : LinkNo) × (peer : PeerState) × (outbox : OutboxState) × (acts : List Act) × Does (up link peer outbox ∷ acts) entries entries'
      × (log'.stage ≡ stage.Up peer)
      × ((upon : Option (List ℕ)) × (more : ℕ) × Tells (up_line peer) (log_held held log) upon (log_lost lost log) more × Denials (stage.Up peer) (rules_of log) upon (log_held held log') × (more ≤ log_lost lost log')))

  -- All that the log of a link's reader was told, which ended so: as above, and last one line of this end. It tells how far the link had come, and is told or counts
  -- as lost
  abbrev pub TellsLink : (L → Option (List ℕ)) → (L → ℕ) → (PeerState → Type 0) → Option PolicyState → List Entry → List Entry → LinkEnd → Option L → LinkLog L → Type 0
  TellsLink held lost Refused rules entries entries' end log log' = (first last : LinkLog L) × (log_held held first ≡ held_in held log) × (log_lost lost first ≡ lost_in lost log)
      × (rules_of first ≡ rules) × IsLogged held lost Refused entries entries' first last
      × Tells (end_line (stage_of last) end (cause_of last)) (log_held held last) (log_held held log') (log_lost lost last) (log_lost lost log')
