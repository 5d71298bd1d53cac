use Rattle.std.proofs.Common.{ap, ◌∙◌, refl}
use Rattle.zr_told_spec.specs.Told.{ToldMap, at}
use Rattle.zr_told.proofs.Numbers.{numbered_again}
use Rattle.zr_told.proofs.book.Book.enter_again.Goals as goal

pub invariant_of-self-2 : goal.invariant_of-self-2
invariant_of-self-2 c =
    let m : ToldMap = c.self.inside.entries.entries in
    rw c.in_ok-put_entry.ensures.ok
    (numbered_again m c.self.inside.ids c.args.place.now (record { id = c.args.entry.id; complete = c.args.complete }) c.args.entry c.self.invariant (ap (λ (z : ToldMap). at z c.args.place.now) c.self.view_is ∙ c.requires) refl)
