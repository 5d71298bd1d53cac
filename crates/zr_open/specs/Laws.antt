-- What the table of openings means: both ends open, and what one sends by is what the other expects.
use Rattle.std.specs.Prelude.{◌≡◌, ℕ, ◌<◌, ◌≤◌, Bool, false, true, List, Option, Some, None, Ok}
use Rattle.zr_trans.specs.declared.trans.Sizes.{Sizes}
use Rattle.zr_trans.specs.declared.trans.Trans.{Trans}
use Rattle.zr_trans.specs.declared.trans.Trans.TheVariants.{Init, Open}
use Rattle.zr_msg.specs.declared.peer.Role.TheVariants.{Client, Router}
use Rattle.zr_frame.specs.Turn.{modulus_of}
use Rattle.zr_open.specs.declared.expected.Expected.{Expected}
use Rattle.zr_open.specs.declared.expected.Expected.TheVariants as expects
use Rattle.zr_open.specs.declared.expected.Opened.{Opened}
use Rattle.zr_open.specs.declared.expected.Progress.TheVariants as progress
use Rattle.zr_open.specs.Opening.{OpeningState}
use Rattle.zr_open.specs.Sizes.{frame_bits, offered, agreed}
use Rattle.zr_open.specs.Table.{greeting, received, milliseconds}

-- A router that accepts and one that dials answer each other until both are open.
pub record RoutersOpen (accepting dialling : OpeningState) : Type 0 where
  pub init_answer : Trans
  pub opening : Trans
  pub opening_answer : Trans
  pub wants_opening : Expected
  pub wants_answer : Expected
  pub accepted : Opened
  pub dialled : Opened
  pub on_init : received accepting expects.Init (greeting dialling) ≡ Ok (progress.Answers wants_opening init_answer)
  pub on_init_answer : received dialling expects.InitAnswer init_answer ≡ Ok (progress.Answers wants_answer opening)
  pub on_opening : received accepting wants_opening opening ≡ Ok (progress.Opened accepted)
  pub answers : accepted.answer ≡ Some opening_answer
  pub on_opening_answer : received dialling wants_answer opening_answer ≡ Ok (progress.Opened dialled)
  -- each knows the other, and weighs the link by its own opening
  pub accepts : accepted.peer ≡ record { id = dialling.me; role = Router; weight = accepting.weight }
  pub dials : dialled.peer ≡ record { id = accepting.me; role = Router; weight = dialling.weight }
  -- the batches and numbers that one sends are those that the other expects
  pub batch : accepted.outbox.batch ≡ dialled.outbox.batch
  pub bits : accepted.outbox.bits ≡ dialled.outbox.bits
  pub from_dialling : accepted.first ≡ dialled.outbox.next
  pub from_accepting : dialled.first ≡ accepted.outbox.next

abbrev pub RoutersOpenWithEachOther : Type 0
RoutersOpenWithEachOther = (accepting dialling : OpeningState) → RoutersOpen accepting dialling

-- A client with these sizes is answered, told the sizes by which it is sent to, and open once it brings the cookie back.
pub record ClientOpens (o : OpeningState) (id : List ℕ) (sizes : Option Sizes) : Type 0 where
  pub wants_opening : Expected
  pub told : Option Sizes
  pub cookie : Option (List ℕ)
  pub on_init : received o expects.Init (Init false 9 2 id sizes None None) ≡ Ok (progress.Answers wants_opening (Init true 9 0 o.me told cookie None))
  pub tells : offered told ≡ agreed (offered sizes)
  pub on_opening : (seconds : Bool) (lease first : ℕ) → 0 < lease → first < modulus_of (frame_bits (offered told)) →
      (opened : Opened) × (received o wants_opening (Open false seconds lease first cookie) ≡ Ok (progress.Opened opened))
      × (opened.peer ≡ record { id = id; role = Client; weight = 1 }) × (opened.first ≡ first) × (opened.lease ≡ milliseconds seconds lease)
      × (opened.outbox.batch ≡ (offered told).batch) × (opened.outbox.bits ≡ frame_bits (offered told))

-- So it is for each client that takes batches of 64 bytes at least.
abbrev pub ClientsOpen : Type 0
ClientsOpen = (o : OpeningState) (id : List ℕ) (sizes : Option Sizes) → 64 ≤ (agreed (offered sizes)).batch → ClientOpens o id sizes
