use Rattle.std.proofs.Common.{◌≡◌, ℕ, List, Result, sym, subst}
use Rattle.zr_script_spec.specs.declared.command.Act.{Act}
use Rattle.zr_script_spec.specs.declared.error.ScriptError.{ScriptError}
use Rattle.zr_script_spec.specs.declared.report.ReportLine.{ReportLine}
use Rattle.zr_world_spec.specs.World.{WorldState}
use Rattle.zr_world_spec.specs.Acts.{outcome}
use Rattle.zr_law_calls.specs.Fitting.{IsFit}
use Rattle.zr_world.specs.State.{state_of}
use Rattle.zr_world.specs.Steps.{AppliesTo, Does}
use Rattle.zr_world.proofs.Moving.{silent}
use Rattle.zr_world.proofs.tables.WorldTables.act.Goals as goal

-- an act that no report line tells of, by what its call has done
done_by : (w new : WorldState) (line : ℕ) (report : List ReportLine) (r : Result (Unit {0}) ScriptError) (act same : Act) → act ≡ same → Does r (outcome w line same) w new →
    AppliesTo r (outcome w line act) w new report report
done_by w new line report r act same is done = subst (λ (a : Act). AppliesTo r (outcome w line a) w new report report) (sym is) (silent r (outcome w line same) w new report done)

pub returns-in-Router : goal.returns-in-Router
unfolding outcome
returns-in-Router g c = done_by (state_of c.args.self.now) (state_of c.router.new.self) c.args.line c.args.report.now.items c.router.result c.args.act _ c.in-Router.is c.router.ensures

pub returns-in-Client : goal.returns-in-Client
unfolding outcome
returns-in-Client g c = done_by (state_of c.args.self.now) (state_of c.client.new.self) c.args.line c.args.report.now.items c.client.result c.args.act _ c.in-Client.is c.client.ensures

pub returns-in-Link : goal.returns-in-Link
unfolding outcome
returns-in-Link g c = done_by (state_of c.args.self.now) (state_of c.link.new.self) c.args.line c.args.report.now.items c.link.result c.args.act _ c.in-Link.is c.link.ensures

pub returns-in-Up : goal.returns-in-Up
unfolding outcome
returns-in-Up g c = done_by (state_of c.args.self.now) (state_of c.up.new.self) c.args.line c.args.report.now.items c.up.result c.args.act _ c.in-Up.is c.up.ensures

pub returns-in-Break : goal.returns-in-Break
unfolding outcome
returns-in-Break g c = done_by (state_of c.args.self.now) (state_of c.break_link.new.self) c.args.line c.args.report.now.items c.break_link.result c.args.act _ c.in-Break.is c.break_link.ensures

pub returns-in-Down : goal.returns-in-Down
unfolding outcome
returns-in-Down g c = done_by (state_of c.args.self.now) (state_of c.down.new.self) c.args.line c.args.report.now.items c.down.result c.args.act _ c.in-Down.is c.down.ensures

pub returns-in-Sub : goal.returns-in-Sub
unfolding outcome
returns-in-Sub g c = done_by (state_of c.args.self.now) (state_of c.declare.new.self) c.args.line c.args.report.now.items c.declare.result c.args.act _ c.in-Sub.is c.declare.ensures

pub returns-in-Unsub : goal.returns-in-Unsub
unfolding outcome
returns-in-Unsub g c = done_by (state_of c.args.self.now) (state_of c.undeclare.new.self) c.args.line c.args.report.now.items c.undeclare.result c.args.act _ c.in-Unsub.is c.undeclare.ensures

pub returns-in-Able : goal.returns-in-Able
unfolding outcome
returns-in-Able g c = done_by (state_of c.args.self.now) (state_of c.able.new.self) c.args.line c.args.report.now.items c.able.result c.args.act _ c.in-Able.is c.able.ensures

pub returns-in-Unable : goal.returns-in-Unable
unfolding outcome
returns-in-Unable g c = done_by (state_of c.args.self.now) (state_of c.undeclare-in-Unable.new.self) c.args.line c.args.report.now.items c.undeclare-in-Unable.result c.args.act _ c.in-Unable.is c.undeclare-in-Unable.ensures

pub returns-in-Token : goal.returns-in-Token
unfolding outcome
returns-in-Token g c = done_by (state_of c.args.self.now) (state_of c.declare-in-Token.new.self) c.args.line c.args.report.now.items c.declare-in-Token.result c.args.act _ c.in-Token.is c.declare-in-Token.ensures

pub returns-in-Untoken : goal.returns-in-Untoken
unfolding outcome
returns-in-Untoken g c = done_by (state_of c.args.self.now) (state_of c.undeclare-in-Untoken.new.self) c.args.line c.args.report.now.items c.undeclare-in-Untoken.result c.args.act _ c.in-Untoken.is c.undeclare-in-Untoken.ensures

pub returns-in-Interest : goal.returns-in-Interest
unfolding outcome
returns-in-Interest g c = done_by (state_of c.args.self.now) (state_of c.interest.new.self) c.args.line c.args.report.now.items c.interest.result c.args.act _ c.in-Interest.is c.interest.ensures

pub returns-in-Uninterest : goal.returns-in-Uninterest
unfolding outcome
returns-in-Uninterest g c = done_by (state_of c.args.self.now) (state_of c.uninterest.new.self) c.args.line c.args.report.now.items c.uninterest.result c.args.act _ c.in-Uninterest.is c.uninterest.ensures

pub returns-in-Publish : goal.returns-in-Publish
unfolding outcome
returns-in-Publish g c = done_by (state_of c.args.self.now) (state_of c.publish.new.self) c.args.line c.args.report.now.items c.publish.result c.args.act _ c.in-Publish.is c.publish.ensures

pub returns-in-Get : goal.returns-in-Get
unfolding outcome
returns-in-Get g c = done_by (state_of c.args.self.now) (state_of c.get.new.self) c.args.line c.args.report.now.items c.get.result c.args.act _ c.in-Get.is c.get.ensures

pub returns-in-Reply : goal.returns-in-Reply
unfolding outcome
returns-in-Reply g c = done_by (state_of c.args.self.now) (state_of c.reply.new.self) c.args.line c.args.report.now.items c.reply.result c.args.act _ c.in-Reply.is c.reply.ensures

pub returns-in-End : goal.returns-in-End
unfolding outcome
returns-in-End g c = done_by (state_of c.args.self.now) (state_of c.end.new.self) c.args.line c.args.report.now.items c.end.result c.args.act _ c.in-End.is c.end.ensures

pub client-requires : goal.client-requires
client-requires g c = c.requires.led.sound

pub up-requires : goal.up-requires
up-requires g c = c.requires.led.sound

pub down-requires : goal.down-requires
down-requires g c = c.requires.led.sound

pub mark-requires : goal.mark-requires
mark-requires g c = c.requires.led.sound

pub declare-requires-clause-may : goal.declare-requires-clause-may
declare-requires-clause-may g c = subst (λ (act : Act). IsFit act) c.in-Sub.is c.requires.fit

pub undeclare-requires-clause-may : goal.undeclare-requires-clause-may
undeclare-requires-clause-may g c = subst (λ (act : Act). IsFit act) c.in-Unsub.is c.requires.fit

pub able-requires-clause-may : goal.able-requires-clause-may
able-requires-clause-may g c = subst (λ (act : Act). IsFit act) c.in-Able.is c.requires.fit

pub undeclare-requires-in-Unable-clause-may : goal.undeclare-requires-in-Unable-clause-may
undeclare-requires-in-Unable-clause-may g c = subst (λ (act : Act). IsFit act) c.in-Unable.is c.requires.fit

pub declare-requires-in-Token-clause-may : goal.declare-requires-in-Token-clause-may
declare-requires-in-Token-clause-may g c = subst (λ (act : Act). IsFit act) c.in-Token.is c.requires.fit

pub undeclare-requires-in-Untoken-clause-may : goal.undeclare-requires-in-Untoken-clause-may
undeclare-requires-in-Untoken-clause-may g c = subst (λ (act : Act). IsFit act) c.in-Untoken.is c.requires.fit

pub interest-requires-clause-may : goal.interest-requires-clause-may
interest-requires-clause-may g c = subst (λ (act : Act). IsFit act) c.in-Interest.is c.requires.fit

pub uninterest-requires-clause-may : goal.uninterest-requires-clause-may
uninterest-requires-clause-may g c = subst (λ (act : Act). IsFit act) c.in-Uninterest.is c.requires.fit

pub publish-requires-clause-may : goal.publish-requires-clause-may
publish-requires-clause-may g c = subst (λ (act : Act). IsFit act) c.in-Publish.is c.requires.fit

pub get-requires-clause-may : goal.get-requires-clause-may
get-requires-clause-may g c = subst (λ (act : Act). IsFit act) c.in-Get.is c.requires.fit

pub reply-requires-clause-may : goal.reply-requires-clause-may
reply-requires-clause-may g c = subst (λ (act : Act). IsFit act) c.in-Reply.is c.requires.fit

pub end-requires-clause-may : goal.end-requires-clause-may
end-requires-clause-may g c = subst (λ (act : Act). IsFit act) c.in-End.is c.requires.fit
