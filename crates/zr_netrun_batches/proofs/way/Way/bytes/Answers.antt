use Rattle.std.proofs.Common.{◌≡◌, ◌∙◌, List, ap, sym, subst, map}
use Rattle.zr_carrier.specs.Wire.{Wire}
use Rattle.zr_msg.specs.declared.msg.Msg.{Msg}
use Rattle.zr_msg.specs.declared.peer.Role.{Role}
use Rattle.zr_netrun_batches.specs.Coming.{IsLeftOf}
use Rattle.zr_netrun_batches.proofs.Tags.{zip_firsts}
use Rattle.zr_netrun_batches.proofs.way.Way.bytes.Goals as goal

pub returns : goal.returns
returns c =
    let w = c.self.inside in
    let all : List Msg = map (λ x. x.0) c.args.self.now.waiting in
    let messages : w.line.messages ≡ all =
    sym (zip_firsts w.line.messages w.tags.items c.self.invariant) ∙ ap (λ (z : Wire). map (λ x. x.0) z.waiting) c.self.view_is in
    subst (λ (z : Role). IsLeftOf z all c.bytes.result.now) (ap (λ (z : Wire). z.role) c.self.view_is)
    (subst (λ z. IsLeftOf w.line.role z c.bytes.result.now) messages c.bytes.ensures)
