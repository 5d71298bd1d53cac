use Rattle.std.proofs.Common.{sym, ap, ◌∙◌}
use Rattle.std.specs.List.{position}
use Rattle.zr_token.specs.Tally.{is_pair}
use Rattle.zr_token.proofs.Gone.{gone, missing}
use Rattle.zr_token.proofs.tally.Tally.remove.Goals as goal

pub returns-in_default-clause-was : goal.returns-in_default-clause-was
returns-in_default-clause-was c =
    let test = is_pair c.args.owner c.args.key.now in
    let h = missing test c.self.inside.pairs.items (ap (position test) (sym c.deref.ensures.value) ∙ sym c.place_of.ensures ∙ c.in_default.is) in
    rw (← c.self.view_is) (sym h.was)

pub returns-in_default-clause-now : goal.returns-in_default-clause-now
returns-in_default-clause-now c =
    let test = is_pair c.args.owner c.args.key.now in
    let h = missing test c.self.inside.pairs.items (ap (position test) (sym c.deref.ensures.value) ∙ sym c.place_of.ensures ∙ c.in_default.is) in
    rw (← c.self.view_is) (λ i. record { pairs = sym h.now i; reached = c.self.inside.reached.keys })

pub returns-clause-was : goal.returns-clause-was
returns-clause-was c =
    let test = is_pair c.args.owner c.args.key.now in
    let h = gone test c.self.inside.pairs.items c.in-Some.at (ap (position test) (sym c.deref.ensures.value) ∙ sym c.place_of.ensures ∙ c.in-Some.is) in
    rw (← c.self.view_is) (sym h.was)

pub returns-clause-now : goal.returns-clause-now
returns-clause-now c =
    let test = is_pair c.args.owner c.args.key.now in
    let h = gone test c.self.inside.pairs.items c.in-Some.at (ap (position test) (sym c.deref.ensures.value) ∙ sym c.place_of.ensures ∙ c.in-Some.is) in
    rw (← c.self.view_is) (λ i. record { pairs = (c.remove.ensures.items ∙ h.now) i; reached = c.self.inside.reached.keys })
