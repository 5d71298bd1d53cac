-- The session of a job at its begin is one that a reader may run.
use Rattle.std.proofs.Common.{◌≡◌, ℕ, List, [], refl}
use Rattle.zr_open.specs.Opening.{OpeningState}
use Rattle.zr_session.specs.Session.{SessionState, begun}
use Rattle.zr_link.specs.Heard.{IsBegun}
use Rattle.zr_link.proofs.Beginning.{accepting_begun, dialling_begun}
use Rattle.zr_link_job.specs.declared.job.Side.{Side}
use Rattle.zr_link_job.specs.declared.job.Side.TheVariants.{Accepting, Dialling}
use Rattle.zr_link_job.specs.Begins.{expects, greets}

pub is_begun : (side : Side) (o : OpeningState) (now : ℕ) (s : SessionState) (first : List ℕ) → s ≡ begun (expects side) o now → first ≡ greets side o → IsBegun s first
is_begun Accepting o now s first is none = accepting_begun s o now first is none
is_begun Dialling o now s first is asked = dialling_begun s o now [] first is refl asked
