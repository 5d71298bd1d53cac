use Rattle.std.proofs.Common.{◌≡◌, ◌<◌, List, ap, sym, subst, length, set, get_or, arith, true}
use Rattle.std.proofs.lemmas.List.Sums.{sum_by-set, get_or-le-sum_by}
use Rattle.zr_msg.specs.declared.content.Parts.{Parts}
use Rattle.zr_pend_spec.specs.Held.{gathering_weight, gatherings_differ, has_room, held_if, regathered}
use Rattle.zr_pend_spec.proofs.Gathered.{differ_changed, room_is, weighs_if}
use Rattle.zr_pend.proofs.gatherings.Gatherings.hold_at.Goals as goal

pub overflow_add-self : goal.overflow_add-self
overflow_add-self c =
    let held = c.self.inside.items.items in
    let reply = c.args.reply.now in
    let within : c.args.at < length held = rw c.self.view_is c.requires.within in
    let room : has_room held reply ≡ true = rw c.self.view_is c.requires.room in
    let g = c.index_mut-gathering.result.now in
    omega (
      arith,
      c.self.invariant.1,
      c.weight-before.ensures,
      c.weight.ensures,
      room_is held reply room,
      weighs_if (λ o. c.args.later) g.held reply,
      ap gathering_weight c.in_ok-hold.ensures.ok,
      ap gathering_weight c.index_mut-gathering.ensures.value,
      get_or-le-sum_by gathering_weight held c.args.at g within,
    )

pub invariant_of-self-2 : goal.invariant_of-self-2
invariant_of-self-2 c =
    let held = c.self.inside.items.items in
    let reply = c.args.reply.now in
    let within : c.args.at < length held = rw c.self.view_is c.requires.within in
    let room : has_room held reply ≡ true = rw c.self.view_is c.requires.room in
    let g = c.index_mut-gathering.result.now in
    let more : List Parts → List Parts = λ replies. held_if (λ o. c.args.later) replies reply in
    let here : g ≡ get_or held c.args.at g = c.index_mut-gathering.ensures.value in
    let differ : gatherings_differ held ≡ true = c.self.invariant.0 in (
      rw (c.in_ok-hold.ensures.ok) (subst (λ k. gatherings_differ (set held c.args.at (regathered more k)) ≡ true) (sym here) (differ_changed more held c.args.at g within differ)),
      omega (
        arith,
        c.self.invariant.1,
        c.weight-before.ensures,
        c.weight.ensures,
        ap gathering_weight c.in_ok-hold.ensures.ok,
        ap gathering_weight here,
        get_or-le-sum_by gathering_weight held c.args.at g within,
        sum_by-set gathering_weight held c.args.at c.hold.new.self g within,
      ),
      omega (
        arith,
        room_is held reply room,
        weighs_if (λ o. c.args.later) g.held reply,
        ap gathering_weight c.in_ok-hold.ensures.ok,
        ap gathering_weight here,
        sum_by-set gathering_weight held c.args.at c.hold.new.self g within,
      ),
    )
