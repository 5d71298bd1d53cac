use Rattle.std.proofs.Common.{◌≡◌, ◌≤◌, None, true, min}
use mathlib.Core.List.{IsPrefix}
use Rattle.zr_outside.specs.Counts.{RoseBy}
use Rattle.zr_hist.specs.Words.{IsSamePass, seen}
use Rattle.zr_port.specs.Coming.{sight}
use Rattle.zr_session.specs.Session.{is_running}
use Rattle.zr_link.specs.Heard.{IsIn, IsOpen}
use Rattle.zr_link.specs.Log.{refusal_of}
use Rattle.zr_link.specs.Logged.{TellsDenials}
use Rattle.zr_link.proofs.Going.{Gone}
use Rattle.zr_link.proofs.delivery.go_on.Given as goal

abbrev pub invariant-loop : goal.invariant-loop
invariant-loop g l = record {
  same : IsSamePass l.fn.pass l.pass;
  prefix : IsPrefix (seen l.fn.pass) (seen l.pass);
  gone : Gone l.link (λ h m x. g.P.Port.refuses_message l.port h l.link m x) l.fn.intake.session l.intake.session (g.S.Source.left l.fn.source) (g.S.Source.left l.source) (sight l.fn.pass) (sight l.pass);
  running : is_running l.intake.session.state ≡ true;
  opened : IsIn IsOpen l.intake.session;
  counts : (g.S.Source.faults l.source ≡ g.S.Source.faults l.fn.source) × (g.S.Source.ends l.source ≡ g.S.Source.ends l.fn.source);
  reads : RoseBy l.counter (g.S.Source.reads l.fn.source) (g.S.Source.reads l.source);
  later : (g.S.Source.quiets l.fn.source ≤ g.S.Source.quiets l.source) × (g.C.Clock.last l.fn.clock ≤ g.C.Clock.last l.clock);
  logged : TellsDenials (λ x. g.L.Log.held x) (λ x. g.L.Log.lost x) l.fn.log l.log;
  going : refusal_of l.log ≡ None;
  moment : min l.fn.intake.session.heard (g.C.Clock.last l.fn.clock) ≤ l.intake.session.heard;
}
