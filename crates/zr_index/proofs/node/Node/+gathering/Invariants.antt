-- What was found and what is left to be found make all.
use Rattle.std.proofs.Common.{◌≡◌, ◌≤◌, ◌+◌, ◌||◌, List, true, false, length}
use Rattle.std.specs.Option.{option_copied, option_map_or}
use Rattle.zr_lists.specs.Cut.{parts}
use Rattle.zr_key.specs.Expression.{Chunk}
use Rattle.zr_key.specs.Key.{chunks}
use Rattle.zr_match.specs.Row.{IsRowBehind}
use Rattle.zr_index.specs.declared.node.Node.TheViews.{out-Node}
use Rattle.zr_index.specs.Walk.{is_among, finds_below, finds_plain, finds_wild, finds_sought}
use Rattle.zr_index.proofs.node.Node.+gathering.Given as goal

abbrev pub invariant-gather_plain-loop-chunk : goal.invariant-gather_plain-loop-chunk
invariant-gather_plain-loop-chunk g l =
    (above : List Chunk) → IsRowBehind above l.key l.row → (v : g.row.V.Denot)
    → (is_among g.V.Ord.cmp l.out.items v || finds_below (λ k. k.items) true g.V.Ord.cmp above l.key l.chunk-iterator v) ≡ (is_among g.V.Ord.cmp l.fn.out.items v || finds_plain g.V.Ord.cmp above l.key l.self v)

abbrev pub invariant-gather_wild-loop-chunk : goal.invariant-gather_wild-loop-chunk
invariant-gather_wild-loop-chunk g l =
    (above : List Chunk) → IsRowBehind above l.key l.row → (v : g.row.V.Denot)
    → (is_among g.V.Ord.cmp l.out.items v || finds_below (λ k. k.items) false g.V.Ord.cmp above l.key l.chunk-iterator v) ≡ (is_among g.V.Ord.cmp l.fn.out.items v || finds_wild g.V.Ord.cmp above l.key l.self v)

abbrev pub invariant-gather_sought-loop-rest : goal.invariant-gather_sought-loop-rest
invariant-gather_sought-loop-rest g l = record {
  room : l.at + option_map_or (λ bytes. length bytes.now + 1) l.rest 0 ≤ length l.key + 1;
  is : (above : List Chunk) → IsRowBehind above l.key l.row → (v : g.row.V.Denot)
      → (is_among g.V.Ord.cmp l.out.items v || finds_sought (λ k. k.items) g.V.Ord.cmp above l.key (out-Node g.row.V.Denot l.self).plain.entries l.row.marks.items l.at (parts 47 (option_copied l.rest)) v)
      ≡ (is_among g.V.Ord.cmp l.fn.out.items v || finds_sought (λ k. k.items) g.V.Ord.cmp above l.key (out-Node g.row.V.Denot l.self).plain.entries l.row.marks.items 0 (chunks l.key) v);
}

abbrev pub decreases-gather_sought-loop-rest : goal.decreases-gather_sought-loop-rest
decreases-gather_sought-loop-rest g l = option_map_or (λ bytes. length bytes.now + 1) l.rest 0
