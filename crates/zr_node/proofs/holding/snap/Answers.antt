use Rattle.std.proofs.Common.{◌≡◌, ◌++◌, false, List, sym, subst, ◌∙◌}
use Rattle.zr_id.specs.Zid.{is_named}
use Rattle.zr_log.specs.Known.{KnownState}
use Rattle.zr_msg.specs.declared.decl.Decl.{Decl}
use Rattle.zr_push_sought.specs.Holders.{HoldJust}
use Rattle.zr_push_sought.specs.Pairs.{Declared, all_declared, of_set}
use Rattle.zr_node.proofs.HeldAfter.{beside, held_apart, held_together, new_other, old_snap, snap_beside}
use Rattle.zr_node.proofs.holding.snap.Goals as goal

pub returns-then-not-is_newer-clause-holders : goal.returns-then-not-is_newer-clause-holders
returns-then-not-is_newer-clause-holders c = λ rows just.
    subst (λ (k : KnownState). HoldJust (all_declared rows c.args.me k.logs) c.args.holders.now)
    (sym (old_snap c.snap.result c.args.known.now c.snap.new.self c.args.source c.args.number c.args.decls.now (sym c.is_newer.ensures ∙ c.if-not-is_newer.true) c.snap.ensures.known c.snap.ensures.unchanged)) just

pub returns-clause-holders : goal.returns-clause-holders
returns-clause-holders c = λ rows just.
    let now : KnownState = c.snap-taken.new.self in
    let other : is_named c.args.source c.args.me ≡ false = new_other c.args.known.now c.args.source c.args.me c.args.number c.requires (sym c.is_newer.ensures ∙ c.if-not-is_newer.false) in
    let rest : List Declared = beside rows c.args.me c.args.known.now c.args.source in
    let after : List Declared = beside rows c.args.me now c.args.source in
    let taken = subst (λ (ds : List Decl). HoldJust (of_set c.args.source ds ++ rest) c.args.holders.now → HoldJust rest c.take_set.new.self) c.decls.ensures.value (c.take_set.ensures rest) in
    let put = subst (λ (ds : List Decl). HoldJust after c.take_set.new.self → HoldJust (of_set c.args.source ds ++ after) c.put_set.new.self) c.decls-2.ensures.value (c.put_set.ensures after) in
    held_together c.put_set.new.self rows c.args.me now c.args.source c.decls-2.ensures.in_order.ascending other
    (put
    (subst (λ (xs : List Declared). HoldJust xs c.take_set.new.self)
    (snap_beside rows c.args.me c.args.known.now c.args.source c.decls.ensures.in_order.ascending c.snap-taken.result now c.args.number c.args.decls.now c.snap-taken.ensures.known c.snap-taken.ensures.unchanged)
    (taken (held_apart c.args.holders.now rows c.args.me c.args.known.now c.args.source c.decls.ensures.in_order.ascending other just))))
