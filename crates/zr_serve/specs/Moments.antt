-- What is told of serving at a moment, and what calls of the host make of it.
use Rattle.std.specs.Prelude.{◌≡◌, ℕ, List, Option}
use Rattle.zr_link_job.specs.Starts.{Starts}
use Rattle.zr_link_job.specs.declared.job.ServeJob.{ServeJob}
use Rattle.zr_outside.specs.Told.{Appends, AppendsPrefix}
use Rattle.zr_outside.specs.declared.host.Call.{Call}
use Rattle.zr_serve.specs.Jobs.{LinksState, jobs_of, behind}
use Rattle.zr_serve.specs.Calls.{Made, Records, new_links}
use Rattle.zr_serve.specs.Lines.{complaints}

-- the calls of the host, the jobs that the crew started and how many starts failed, what the error output holds, and what the next links begin with
pub record Moment : Type 0 where
  pub calls : Option (List Call)
  pub told : Option (List ServeJob)
  pub faults : ℕ
  pub held : Option (List ℕ)
  pub links : LinksState

abbrev pub moment : Option (List Call) → Option (List ServeJob) → ℕ → Option (List ℕ) → LinksState → Moment
moment calls told faults held links = record { calls = calls; told = told; faults = faults; held = held; links = links }

-- These calls were made: the job of each link that they gave was started, or that was counted as a start that failed, and what is to be told of them was
-- written
pub record Serves (made : List Made) (a b : Moment) : Type 0 where
  pub recorded : Records made a.calls b.calls
  pub started : Starts (jobs_of a.links (new_links made)) a.told b.told a.faults b.faults
  pub links_are : b.links ≡ behind a.links (new_links made)
  pub complained : Appends (complaints made) a.held b.held

-- The same, but a write failed or memory ran out in the last call: what is told is a prefix
pub record BreaksOff (made : List Made) (a b : Moment) : Type 0 where
  pub recorded : Records made a.calls b.calls
  pub started : Starts (jobs_of a.links (new_links made)) a.told b.told a.faults b.faults
  pub complained : AppendsPrefix (complaints made) a.held b.held
