use Rattle.std.proofs.Common.{◌∙◌, List, [], sym, ap}
use Rattle.std.specs.Cmp.Lexicographic.{slice_cmp}
use Rattle.std.specs.Ordering.{nat_cmp}
use Rattle.zr_lists.specs.Place.{IsAt}
use Rattle.zr_log.specs.declared.log.Log.{Log}
use Rattle.zr_log.specs.Log.{Change}
use Rattle.zr_log.specs.Known.{KnownState}
use Rattle.zr_log.proofs.Logs.{source_of, in_order_put, changed_put, names_changed}
use Rattle.zr_log.proofs.known.Known.change.Goals as goal

pub invariant_of-self-in-Ok : goal.invariant_of-self-in-Ok
invariant_of-self-in-Ok c =
    let k : KnownState = record { me = c.self.inside.me; logs = c.self.inside.logs.items } in
    let change : Change = record { added = c.args.added; decl = c.args.decl.now } in
    let d : Log = record { source = c.args.source; position = c.args.number; decls = [] } in
    let at : IsAt (slice_cmp nat_cmp) source_of c.self.inside.logs.items c.args.source c.in-Ok.at = rw (← c.deref.ensures.value) c.in-Ok.ensures in (
      rw (changed_put k c.args.source c.args.number change c.in-Ok.at d c.change_at.new.logs.items at (c.in_ok-change_at.ensures.ok d))
          (in_order_put c.self.inside.me c.self.inside.logs.items _ c.self.invariant.0 c.requires),
      c.self.invariant.1 ∙ sym (names_changed k c.args.number change c.in-Ok.at d c.change_at.new.logs.items (c.in_ok-change_at.ensures.ok d)),
    )

pub returns-in-Ok-clause-ok : goal.returns-in-Ok-clause-ok
returns-in-Ok-clause-ok c =
    let k : KnownState = record { me = c.self.inside.me; logs = c.self.inside.logs.items } in
    let change : Change = record { added = c.args.added; decl = c.args.decl.now } in
    let d : Log = record { source = c.args.source; position = c.args.number; decls = [] } in
    let at : IsAt (slice_cmp nat_cmp) source_of c.self.inside.logs.items c.args.source c.in-Ok.at = rw (← c.deref.ensures.value) c.in-Ok.ensures in
    rw (← c.self.view_is)
    (ap (λ (ls : List Log). let s : KnownState = record { me = c.self.inside.me; logs = ls } in s)
    (changed_put k c.args.source c.args.number change c.in-Ok.at d c.change_at.new.logs.items at (c.in_ok-change_at.ensures.ok d)))
