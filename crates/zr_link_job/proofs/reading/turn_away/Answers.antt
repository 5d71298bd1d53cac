-- A write whose end is of no account, of the CLOSE with the byte of its reason.
use Rattle.std.proofs.Common.{◌≡◌, ◌∙◌, Some, List, ℕ, ap, subst}
use Rattle.zr_link_writer.specs.Parts.{close_bytes}
use Rattle.zr_link.proofs.Unopened.{puts_of}
use Rattle.zr_link.specs.Written.{Puts}
use Rattle.zr_outside.specs.Counts.{Rose}
use Rattle.zr_open.specs.declared.error.Reason.TheVariants.{Generic}
use Rattle.zr_session.specs.declared.fate.End.TheVariants as how
use Rattle.zr_session.specs.Session.{close_of}
use Rattle.zr_link_job.proofs.reading.turn_away.Goals as goal

pub returns-clause-puts : goal.returns-clause-puts
returns-clause-puts g c =
    let sink = c.args.sink.now in
    let written = c.write_all.new.out in
    let done = puts_of c.write_all.result _ _ _ _ c.write_all.ensures.ok c.write_all.ensures.err c.write_all.ensures.cause in
    let close : c.close_batch.result ≡ close_of (how.Closed Generic) = c.close_batch.ensures ∙ ap (λ (r : ℕ). close_bytes (Some (Some r))) c.byte.ensures in
    subst (λ (b : List ℕ). Puts b (g.K.Sink.held sink) (g.K.Sink.held written) (Rose (g.K.Sink.faults sink) (g.K.Sink.faults written))) close done
