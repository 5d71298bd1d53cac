use Rattle.std.proofs.Common.{ap, ◌∙◌, sym}
use Rattle.std.specs.Prelude.{is_some}
use Rattle.zr_frame.specs.Outbox.{with_names}
use Rattle.zr_frame_pack.specs.Marks.{MarkState, at_mark}
use Rattle.zr_frame_pack.specs.Packing.{names_in}
use Rattle.zr_frame_pack.proofs.Returning.{returned}
use Rattle.zr_frame_pack.proofs.naming.NamingOutbox.return_to.Goals as goal

pub returns : goal.returns
returns c =
    let back = c.mark.inside.outbox in
    let count = c.mark.inside.count in
    ap (λ n. with_names back (names_in back.names n)) c.keep_first.ensures
    ∙ returned c.self.inside.outbox back c.self.inside.names count
    (ap (λ s. is_some s.names) c.self.view_is ∙ c.requires ∙ ap (λ (m : MarkState). is_some m.outbox.names) (sym c.mark.view_is))
    ∙ ap (λ s. at_mark s (record { outbox = back; count = count })) c.self.view_is ∙ ap (λ m. at_mark c.args.self.now m) c.mark.view_is
