use Rattle.std.specs.List.{concat}
use Rattle.std.proofs.lemmas.Result.{IfOk-weaker}
use Rattle.zr_world_gang.specs.Shares.{ShareState}
use Rattle.zr_world_gang.proofs.Steps.{heard_is}
use Rattle.zr_world_gang.proofs.share.Share.hear.Goals as goal

pub returns-clause-heard : goal.returns-clause-heard
returns-clause-heard c =
    let s : ShareState = record { name = c.self.inside.name; hub = c.self.inside.hub; input = c.self.inside.input.items; output = c.self.inside.output.items; handled = c.self.inside.handled; taken = c.self.inside.taken; sent = c.self.inside.sent; lines = c.self.inside.lines; text = concat c.self.inside.lines; kinds = c.self.inside.kinds } in
    IfOk-weaker c.sent_by-out.result _ _ (λ v h. heard_is s c.args.self.now c.sent_by-out.new.hub c.add_handled.new.self c.args.waiting c.self.view_is h c.in_ok-add_handled.ensures) c.sent_by-out.ensures.hub
