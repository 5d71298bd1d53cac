use Rattle.std.proofs.Common.{◌≡◌, ◌-◌, ◌++◌, [], List, ℕ, Bool, Option, None, Bor, sym, ap, ◌∙◌, length, take, map, vec_len, arith}
use Rattle.std.specs.Option.{option_copied}
use Rattle.zr_lists.specs.Cut.{parts}
use Rattle.zr_key.specs.Expression.{Chunk}
use Rattle.zr_key.specs.Key.{canonical, expression_of, lined, ordered, settled, chunk_of}
use Rattle.zr_key.proofs.Written.{lined_front}
use Rattle.zr_key.proofs.canonical.canonical_text.Goals as goal

-- at the end of the text nothing is left to write but the `**` that waits
at_end : (out : List ℕ) (waiting : Bool) (rest : Option (Bor (List ℕ))) (whole : List ℕ) → rest ≡ None
    → out ++ lined (ordered waiting (map settled (map chunk_of (parts 47 (option_copied rest))))) ≡ whole → out ++ lined (ordered waiting []) ≡ whole
at_end out waiting rest whole e h = ap (λ r. out ++ lined (ordered waiting (map settled (map chunk_of (parts 47 (option_copied r)))))) (sym e) ∙ h

pub returns : goal.returns
returns c =
    let f : List Chunk = canonical (expression_of c.args.text.now) in
    let whole : c.put_waiting.new.out.items ≡ lined f = c.in_ok-put_waiting.ensures ∙ at_end c.loop-rest.out.items c.loop-rest.waiting c.loop-rest.rest (lined f) c.in_default.is c.loop-rest.invariant in
    let size : length c.put_waiting.new.out.items ≡ vec_len c.put_waiting.new.out = omega (arith, c.put_waiting.new.out.ok.0) in
    c.pop.ensures.rest ∙ ap (λ n. take (n - 1) c.put_waiting.new.out.items) (sym size) ∙ ap (λ z. take (length z - 1) z) whole ∙ lined_front f
