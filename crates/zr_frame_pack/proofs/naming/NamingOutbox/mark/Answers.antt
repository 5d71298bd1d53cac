use Rattle.std.proofs.Common.{◌≡◌, subst}
use Rattle.zr_frame_pack.specs.Marks.{at_mark, IsMarkOf}
use Rattle.zr_frame_pack.proofs.Returning.{marked, mark_of}
use Rattle.zr_frame_pack.proofs.naming.NamingOutbox.mark.Goals as goal

pub returns-clause-outbox : goal.returns-clause-outbox
returns-clause-outbox c =
    subst (λ s. at_mark s (record { outbox = c.self.inside.outbox; count = c.count.result }) ≡ s) c.self.view_is (marked c.self.inside.outbox c.self.inside.names c.count.result c.count.ensures)

pub returns-clause-mark : goal.returns-clause-mark
returns-clause-mark c =
    subst (λ s. IsMarkOf s.names (record { outbox = c.self.inside.outbox; count = c.count.result })) c.self.view_is (mark_of c.self.inside.outbox c.self.inside.names c.count.result c.count.ensures)
