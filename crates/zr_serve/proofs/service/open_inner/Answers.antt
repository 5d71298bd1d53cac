-- The inner client is opened at the router's own port under its identifier, by a pass that is split off.
use Rattle.std.proofs.Common.{◌∙◌, ap, sym}
use Rattle.zr_port.specs.Coming.{sight}
use Rattle.zr_serve.proofs.Opening.{opens_space, refuses_space}
use Rattle.zr_serve.proofs.service.open_inner.Goals as goal

pub returns-in-Ok-open-clause-opened : goal.returns-in-Ok-open-clause-opened
returns-in-Ok-open-clause-opened g c =
    opens_space (λ v h p e. g.P.Port.refuses_up v h p e) (λ v h l m e. g.P.Port.refuses_message v h l m e) (λ v h l e. g.P.Port.refuses_down v h l e) c.args.id c.args.word
    _ _ _ _ _ c.in-Ok.ensures c.split-pass.ensures.new.0 c.split-pass.ensures.new.1 c.in-Ok-open.admin.link (sight c.in-Ok-open.admin.pass) c.in-Ok-open.ensures.opened

-- it has the identifier of the router at its port
pub returns-in-Ok-open-clause-named : goal.returns-in-Ok-open-clause-named
returns-in-Ok-open-clause-named g c =
    let fresh = c.in-Ok-open.ensures.fresh in
    fresh.3 ∙ c.requires.own ∙ ap (λ v. g.P.Port.router v) (sym (fresh.4 ∙ c.in-Ok.ensures))

pub returns-in-Err-clause-refused : goal.returns-in-Err-clause-refused
returns-in-Err-clause-refused g c = λ it.
    refuses_space (λ v h p e. g.P.Port.refuses_up v h p e) (λ v h l m e. g.P.Port.refuses_message v h l m e) (λ v h l e. g.P.Port.refuses_down v h l e) c.args.id c.args.word
    _ _ _ _ _ c.in-Ok.ensures c.split-pass.ensures.new.0 c.split-pass.ensures.new.1 (λ v. g.P.Port.answers_down v) c.in-Err.refused.0 (sight c.in-Err.refused.1) (c.cause_of.ensures (cc it)) c.in-Err.ensures.unopened
