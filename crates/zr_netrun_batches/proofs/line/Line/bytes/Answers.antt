use Rattle.std.proofs.Common.{◌∙◌, ◌++◌, ap, inl, inr, refl, sym, subst}
use Rattle.zr_msg.specs.declared.peer.Role.{Role}
use Rattle.zr_netrun_batches.specs.Coming.{Leads, coming}
use Rattle.zr_netrun_batches.specs.Line.{LineState, line_of}
use Rattle.zr_netrun_batches.proofs.line.Line.bytes.Goals as goal

pub returns-then-self : goal.returns-then-self
returns-then-self c =
    let l = c.self.inside in
    inl (
      ap (λ (z : LineState). z.messages) (sym c.self.view_is) ∙ ap (λ b. (line_of l.role b l.ready.items (coming l.session l.wire)).messages) c.if-self.true,
      refl,
    )

pub returns : goal.returns
returns c =
    let l = c.self.inside in
    inr (
      l.outbox,
      l.session,
      l.ready.items,
      subst (λ (z : Role). Leads z l.outbox l.session c.left.result.now) (ap (λ (z : LineState). z.role) c.self.view_is)
          (subst (λ z. Leads l.role l.outbox l.session z) (sym c.left.ensures) (c.self.invariant c.if-self.false).0),
      (c.self.invariant c.if-self.false).1,
      ap (λ (z : LineState). z.messages) (sym c.self.view_is) ∙ ap (λ b. (line_of l.role b l.ready.items (coming l.session l.wire)).messages) c.if-self.false
          ∙ ap (λ z. l.ready.items ++ coming l.session z) (sym c.left.ensures),
    )
