use Rattle.std.proofs.Common.{◌≡◌, ◌++◌, false, List, sym, subst, ◌∙◌}
use Rattle.zr_id.specs.Zid.{is_named}
use Rattle.zr_log.specs.Known.{KnownState, decls}
use Rattle.zr_log.specs.Log.{Change}
use Rattle.zr_log_set.specs.Decls.{IsSet, without_decl}
use Rattle.zr_msg.specs.declared.decl.Decl.{Decl}
use Rattle.zr_push_sought.specs.Holders.{HoldJust}
use Rattle.zr_push_sought.specs.Pairs.{Declared, all_declared, of_set}
use Rattle.zr_node.proofs.HeldAfter.{beside, held_apart, held_together, old_step, step_beside}
use Rattle.zr_node.proofs.holding.step.Goals as goal

pub returns-then-eq-clause-holders : goal.returns-then-eq-clause-holders
returns-then-eq-clause-holders c = λ rows just.
    subst (λ (k : KnownState). HoldJust (all_declared rows c.args.me k.logs) c.args.holders.now)
    (sym (old_step c.step.result c.args.known.now c.step.new.self c.args.me c.args.source c.args.number (record { added = c.args.added; decl = c.args.decl.now }) c.requires (sym c.eq.ensures ∙ c.if-eq.true) c.step.ensures.known c.step.ensures.unchanged)) just

pub returns-clause-holders : goal.returns-clause-holders
returns-clause-holders c = λ rows just.
    let change : Change = record { added = c.args.added; decl = c.args.decl.now } in
    let now : KnownState = c.step-taken.new.self in
    let other : is_named c.args.source c.args.me ≡ false = sym c.eq.ensures ∙ c.if-eq.false in
    let set : IsSet (decls c.args.known.now c.args.source) = subst IsSet c.decls.ensures.value c.decls.ensures.set in
    let rest : List Declared = beside rows c.args.me c.args.known.now c.args.source in
    let after : List Declared = beside rows c.args.me now c.args.source in
    let taken = subst (λ (ds : List Decl). HoldJust (of_set c.args.source ds ++ rest) c.args.holders.now → HoldJust (of_set c.args.source (without_decl ds c.args.decl.now) ++ rest) c.take_decl.new.self) c.decls.ensures.value (c.take_decl.ensures rest) in
    let put = subst (λ (ds : List Decl). HoldJust (of_set c.args.source (without_decl ds c.args.decl.now) ++ after) c.take_decl.new.self → HoldJust (of_set c.args.source ds ++ after) c.put_decl.new.self) c.decls-2.ensures.value (c.put_decl.ensures after) in
    held_together c.put_decl.new.self rows c.args.me now c.args.source c.decls-2.ensures.in_order.ascending other
    (put
    (subst (λ (xs : List Declared). HoldJust xs c.take_decl.new.self)
    (step_beside rows c.args.me c.args.known.now c.args.source c.decls.ensures.in_order.ascending c.step-taken.result now c.args.number change set c.step-taken.ensures.known c.step-taken.ensures.unchanged)
    (taken (held_apart c.args.holders.now rows c.args.me c.args.known.now c.args.source c.decls.ensures.in_order.ascending other just))))
