use Rattle.std.proofs.Common.{subst}
use Rattle.zr_port.specs.Coming.{sight}
use Rattle.zr_ring.specs.Taker.{taker_name}
use Rattle.zr_admin.specs.Inner.{HasRing, IsOpened, IsUnopened}
use Rattle.zr_admin.proofs.admin.Admin.open.Goals as goal

pub returns-in-Ok-clause-opened : goal.returns-in-Ok-clause-opened
returns-in-Ok-clause-opened g c =
    subst (λ p. IsOpened (λ h x e. g.P.Port.refuses_up p h x e) (λ h m e. g.P.Port.refuses_message p h c.in-Ok.up.0 m e) c.args.id c.args.word c.in-Ok.up.0 (sight c.args.pass) (sight c.enter.new.pass))
    c.deref.ensures c.in-Ok.ensures.opened

pub returns-in-Ok-clause-ring : goal.returns-in-Ok-clause-ring
returns-in-Ok-clause-ring g c =
    subst (λ p. HasRing (g.P.Port.router p) c.args.word c.in-Ok.up.0 (taker_name c.in-Ok.up.1) (sight c.args.pass)) c.deref.ensures c.in-Ok.ensures.ring

pub returns-in-Err-clause-unopened : goal.returns-in-Err-clause-unopened
returns-in-Err-clause-unopened g c =
    subst (λ p. IsUnopened (λ h x e. g.P.Port.refuses_up p h x e) (λ h l m e. g.P.Port.refuses_message p h l m e) (λ h l e. g.P.Port.refuses_down p h l e) (g.P.Port.answers_down p) c.args.id c.args.word c.in-Err.e
    (sight c.args.pass) (sight c.enter.new.pass)) c.deref.ensures c.in-Err.ensures.unopened
