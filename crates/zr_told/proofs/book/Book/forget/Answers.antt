use Rattle.std.proofs.Common.{subst, ap, ◌∙◌, sym}
use Rattle.std.specs.Map.{remove_entry}
use Rattle.zr_told_spec.specs.Place.{Ascends, same}
use Rattle.zr_told_spec.specs.Told.{ToldMap, at}
use Rattle.zr_told_spec.proofs.Agree.{found_used}
use Rattle.zr_told.proofs.Numbers.{numbered_without, nothing_without}
use Rattle.zr_told.proofs.book.Book.forget.Goals as goal

pub returns-in_default : goal.returns-in_default
returns-in_default c = sym (nothing_without c.args.self.now c.args.place.now (sym c.in_default.ensures))

pub free-requires : goal.free-requires
free-requires c =
    let m : ToldMap = c.self.inside.entries.entries in
    c.self.invariant.given c.in-Some.entry.id ∙ found_used m c.args.place.now c.in-Some.entry (ap (λ (z : ToldMap). at z c.args.place.now) c.self.view_is ∙ sym c.in-Some.ensures)

pub invariant_of-self-2 : goal.invariant_of-self-2
invariant_of-self-2 c =
    let m : ToldMap = c.self.inside.entries.entries in
    let o : Ascends (remove_entry (same c.args.place.now) m) = subst (λ z. Ascends z) c.remove.ensures.entries c.remove.ensures.ordered in
    rw c.remove.ensures.entries (numbered_without m c.self.inside.ids c.free.new.self c.args.place.now c.in-Some.entry c.self.invariant (ap (λ (z : ToldMap). at z c.args.place.now) c.self.view_is ∙ sym c.in-Some.ensures) c.in_ok-free.ensures.ok o)
