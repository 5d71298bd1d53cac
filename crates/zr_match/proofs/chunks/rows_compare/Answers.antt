use Rattle.std.proofs.Common.{◌++◌, ◌∷◌, [], List, ap, sym, subst, ◌∙◌, append_assoc, reverse}
use Rattle.std.proofs.lemmas.List.{reverse-append}
use Rattle.zr_key.specs.Expression.{Chunk}
use Rattle.zr_key.specs.Key.{chunk_of, expression_of}
use Rattle.zr_match.specs.Table.{chunk_signs, table, IsRow}
use Rattle.zr_match.proofs.ChunkSteps.{chunks_left, chunks_cut}
use Rattle.zr_match.proofs.chunks.rows_compare.Goals as goal

pub loop-rest-preserved : goal.loop-rest-preserved
loop-rest-preserved c =
    let i = c.loop-rest.invariant in
    let x : Chunk = chunk_of c.cut.result.0.now in (
      i.0 ++ x ∷ [],
      i.1 ∙ ap (λ z. i.0 ++ z) (chunks_cut c.loop-rest.rest c.in-Some.bytes c.cut.result.0.now c.cut.result.1 c.in-Some.is c.cut.ensures.parts) ∙ sym (append_assoc i.0 (x ∷ []) (chunks_left c.cut.result.1)),
      subst (λ (p : List Chunk). IsRow (table (chunk_signs c.args.expands) p) (expression_of c.args.second.now) c.put_next_row.new.row) (sym (reverse-append i.0 (x ∷ []))) (c.put_next_row.ensures (reverse i.0) i.2),
    )
