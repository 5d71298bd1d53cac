use Rattle.std.proofs.Common.{◌<◌, List, ℕ, Option, Bor, sym, ap, subst, ◌∙◌, arith, length}
use Rattle.std.specs.List.{list_all}
use Rattle.std.specs.Option.{IfSome}
use Rattle.zr_key.specs.Expression.{is_chunk}
use Rattle.zr_key.specs.Key.{expression_of}
use Rattle.zr_match.specs.Table.{compare_chunks}
use Rattle.zr_match.proofs.ChunkSteps.{chunks_left, part_fits}
use Rattle.zr_match.proofs.Steps.{step, apart, together, first_ends, first_ends_covers, second_ends}
use Rattle.zr_match.proofs.walk.compare_from.Goals as goal

pub go_together-requires : goal.go_together-requires
go_together-requires c = omega (arith, part_fits c.chunks.right.now c.cut-in-chunks.result.0.now _ c.cut-in-chunks.ensures.parts, c.requires.short)

pub returns-then-not-go_together : goal.returns-then-not-go_together
returns-then-not-go_together c =
    let s = step c.args.expands c.chunks.left.now c.chunks.right.now c.cut.result.0.now c.cut-in-chunks.result.0.now c.cut.result.1 c.cut-in-chunks.result.1 c.cut.ensures.parts c.cut-in-chunks.ensures.parts
    (sym c.if-is_any_chunks.ensures) (sym c.if-is_any_chunks-2.ensures) c.chunks.invariant.left_is c.chunks.invariant.right_is in
    sym (apart s (sym c.if-not-go_together.ensures)) ∙ c.chunks.invariant.same

pub chunks-preserved : goal.chunks-preserved
chunks-preserved c =
    let s = step c.args.expands c.chunks.left.now c.chunks.right.now c.cut.result.0.now c.cut-in-chunks.result.0.now c.cut.result.1 c.cut-in-chunks.result.1 c.cut.ensures.parts c.cut-in-chunks.ensures.parts
    (sym c.if-is_any_chunks.ensures) (sym c.if-is_any_chunks-2.ensures) c.chunks.invariant.left_is c.chunks.invariant.right_is in
    let shorter : length c.in-Some-Some.right_more.now < length c.chunks.right.now = subst (λ (o : Option (Bor (List ℕ))). IfSome o (λ m. length m.now < length c.chunks.right.now)) c.in-Some-Some.is-1 c.cut-in-chunks.ensures.shorter in
    record {
      short = omega arith;
      left_is = ap (λ o. list_all is_chunk (chunks_left o)) (sym c.in-Some-Some.is-0) ∙ s.left_is;
      right_is = ap (λ o. list_all is_chunk (chunks_left o)) (sym c.in-Some-Some.is-1) ∙ s.right_is;
      same = ap (λ o. compare_chunks c.args.expands (chunks_left o) (expression_of c.in-Some-Some.right_more.now)) (sym c.in-Some-Some.is-0)
          ∙ ap (λ o. compare_chunks c.args.expands (chunks_left c.cut.result.1) (chunks_left o)) (sym c.in-Some-Some.is-1)
          ∙ sym (together s (sym c.if-not-go_together.ensures)) ∙ c.chunks.invariant.same;
    }

pub returns-in-Some-None : goal.returns-in-Some-None
returns-in-Some-None c =
    let s = step c.args.expands c.chunks.left.now c.chunks.right.now c.cut.result.0.now c.cut-in-chunks.result.0.now c.cut.result.1 c.cut-in-chunks.result.1 c.cut.ensures.parts c.cut-in-chunks.ensures.parts
    (sym c.if-is_any_chunks.ensures) (sym c.if-is_any_chunks-2.ensures) c.chunks.invariant.left_is c.chunks.invariant.right_is in
    c.has_only_any_chunks.ensures ∙ sym (second_ends c.args.expands c.cut.result.1 c.cut-in-chunks.result.1 c.in-Some-None.more c.in-Some-None.is-0 c.in-Some-None.is-1)
    ∙ sym (together s (sym c.if-not-go_together.ensures)) ∙ c.chunks.invariant.same

pub returns-then-expands : goal.returns-then-expands
returns-then-expands c =
    let s = step c.args.expands c.chunks.left.now c.chunks.right.now c.cut.result.0.now c.cut-in-chunks.result.0.now c.cut.result.1 c.cut-in-chunks.result.1 c.cut.ensures.parts c.cut-in-chunks.ensures.parts
    (sym c.if-is_any_chunks.ensures) (sym c.if-is_any_chunks-2.ensures) c.chunks.invariant.left_is c.chunks.invariant.right_is in
    c.has_only_any_chunks-then-expands.ensures ∙ sym (first_ends c.args.expands c.if-expands.true c.cut.result.1 c.cut-in-chunks.result.1 c.in-None-Some.more c.in-None-Some.is-0 c.in-None-Some.is-1)
    ∙ sym (together s (sym c.if-not-go_together.ensures)) ∙ c.chunks.invariant.same

pub returns-else-expands : goal.returns-else-expands
returns-else-expands c =
    let s = step c.args.expands c.chunks.left.now c.chunks.right.now c.cut.result.0.now c.cut-in-chunks.result.0.now c.cut.result.1 c.cut-in-chunks.result.1 c.cut.ensures.parts c.cut-in-chunks.ensures.parts
    (sym c.if-is_any_chunks.ensures) (sym c.if-is_any_chunks-2.ensures) c.chunks.invariant.left_is c.chunks.invariant.right_is in
    c.if-expands.false ∙ sym (first_ends_covers c.args.expands c.if-expands.false c.cut.result.1 c.cut-in-chunks.result.1 c.in-None-Some.more c.in-None-Some.is-0 c.in-None-Some.is-1)
    ∙ sym (together s (sym c.if-not-go_together.ensures)) ∙ c.chunks.invariant.same
