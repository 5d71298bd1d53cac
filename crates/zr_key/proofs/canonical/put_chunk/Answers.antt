use Rattle.std.proofs.Common.{◌∷◌, ◌++◌, [], sym, ap, ◌∙◌, false}
use Rattle.zr_key.specs.Key.{settled, chunk_of, single, pieces_of}
use Rattle.zr_key.proofs.Written.{settled_stars, settled_pieces, star_written, pieces_written}
use Rattle.zr_key.proofs.canonical.put_chunk.Goals as goal

pub returns-then-has_only_stars : goal.returns-then-has_only_stars
returns-then-has_only_stars c more =
    star_written c.args.waiting c.args.out.now.items c.put_line.new.out.items more (settled (chunk_of c.args.chunk.now))
    (settled_stars c.args.chunk.now (sym c.if-is_any_chunks.ensures) (sym c.if-has_only_stars.ensures))
    (c.in_ok-put_line.ensures ∙ ap (λ z. c.args.out.now.items ++ (z ++ 47 ∷ [])) c.as_slice.ensures)

pub returns : goal.returns
returns c more =
    pieces_written c.args.waiting c.args.out.now.items c.put_waiting.new.out.items c.put_pieces.new.out.items (single false (pieces_of c.args.chunk.now)) more (settled (chunk_of c.args.chunk.now))
    (settled_pieces c.args.chunk.now (sym c.if-is_any_chunks.ensures) (sym c.if-has_only_stars.ensures)) c.in_ok-put_waiting.ensures c.in_ok-put_pieces.ensures
