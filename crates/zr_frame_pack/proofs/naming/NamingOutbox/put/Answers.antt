use Rattle.std.proofs.Common.{◌++◌, ap, ◌∙◌, sym}
use Rattle.zr_frame.specs.Outbox.{with_names}
use Rattle.zr_frame_pack.proofs.NamesGiven.{later_alike}
use Rattle.zr_frame_pack.proofs.naming.NamingOutbox.put.Goals as goal

pub returns-clause-messages : goal.returns-clause-messages
returns-clause-messages c = c.in_ok-push.ensures.items ∙ ap (λ z. c.args.messages.now.items ++ z) (sym (ap (λ w. w.messages) c.in_ok-bytes.ensures))

pub returns-clause-names : goal.returns-clause-names
returns-clause-names c = ap (λ w. with_names c.args.self.now w.names) (sym c.in_ok-bytes.ensures)

pub returns-clause-later : goal.returns-clause-later
returns-clause-later c = later_alike c.args.self.now.names
