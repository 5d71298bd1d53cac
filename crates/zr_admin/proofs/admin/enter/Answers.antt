use Rattle.std.proofs.Common.{subst}
use Rattle.std.specs.Prelude.{◌≢◌}
use Rattle.zr_hist.specs.Words.{seen}
use Rattle.zr_port.specs.Adding.{IsLeastFree}
use Rattle.zr_port.specs.declared.error.UpError.TheVariants as up
use Rattle.zr_admin.proofs.Opening.{has_ring, opened, unopened}
use Rattle.zr_admin.proofs.admin.enter.Goals as goal

pub returns-in-Err-clause-unopened : goal.returns-in-Err-clause-unopened
returns-in-Err-clause-unopened g c = (
  (c.in-Err.ensures.unchanged, c.in-Err.ensures.prefix),
  subst (λ p. c.in-Err.e ≢ up.NoMemory → g.P.Port.refuses_up c.args.port.now (seen c.up.new.pass) p c.in-Err.e) c.inner_peer.ensures c.in-Err.ensures.refused,
)

pub returns-in-Ok-declare-clause-opened : goal.returns-in-Ok-declare-clause-opened
returns-in-Ok-declare-clause-opened g c =
    opened (λ h p e. g.P.Port.refuses_up c.args.port.now h p e) c.args.id.now c.in-Ok.key c.args.word c.in-Ok-up.up.0 c.inner_peer.result c.inner_outbox.result
    (λ before. IsLeastFree (λ l. g.P.Port.is_up c.args.port.now before l) c.in-Ok-up.up.0) (λ h m e. g.P.Port.refuses_message c.args.port.now h c.in-Ok-up.up.0 m e)
    c.args.pass.now c.up.new.pass c.declare.new.pass c.inner_peer.ensures c.inner_outbox.ensures c.in-Ok.ensures c.in-Ok-up.ensures.added c.in-Ok-declare.ensures.declared

pub returns-in-Ok-declare-clause-ring : goal.returns-in-Ok-declare-clause-ring
returns-in-Ok-declare-clause-ring g c =
    has_ring (λ h p e. g.P.Port.refuses_up c.args.port.now h p e) c.args.id.now c.in-Ok.key c.args.word c.in-Ok-up.up.0 c.inner_peer.result c.inner_outbox.result
    (λ before. IsLeastFree (λ l. g.P.Port.is_up c.args.port.now before l) c.in-Ok-up.up.0) (g.P.Port.router c.args.port.now) _ c.args.pass.now c.up.new.pass
    c.inner_peer.ensures c.inner_outbox.ensures c.in-Ok-up.ensures.added c.in-Ok-up.ensures.ring

pub returns-in-Err-declare-clause-unopened : goal.returns-in-Err-declare-clause-unopened
returns-in-Err-declare-clause-unopened g c =
    unopened (λ h p e. g.P.Port.refuses_up c.args.port.now h p e) c.args.id.now c.in-Ok.key c.args.word c.in-Ok-up.up.0 c.inner_peer.result c.inner_outbox.result
    (λ before. IsLeastFree (λ l. g.P.Port.is_up c.args.port.now before l) c.in-Ok-up.up.0) (λ h l m e. g.P.Port.refuses_message c.args.port.now h l m e)
    (λ h l e. g.P.Port.refuses_down c.args.port.now h l e) (g.P.Port.answers_down c.args.port.now) c.in-Err-declare.e c.args.pass.now c.up.new.pass c.declare.new.pass
    c.inner_peer.ensures c.inner_outbox.ensures c.in-Ok.ensures c.in-Ok-up.ensures.added c.in-Err-declare.ensures.refused
