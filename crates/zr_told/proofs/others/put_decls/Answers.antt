use Rattle.std.proofs.Common.{◌+◌, ◌≤◌, [], ◌∷◌, ◌++◌, drop, filter, length, sym, ap, ◌∙◌, append_assoc, append-nil, arith}
use Rattle.std.proofs.Math.ListN.{drop_of_length-le}
use Rattle.zr_told.specs.Tokens.{is_kept}
use Rattle.zr_told.proofs.Changed.{next_left}
use Rattle.zr_told.proofs.Found.{kept_append}
use Rattle.zr_told.proofs.others.put_decls.Goals as goal

pub loop-decl-preserved : goal.loop-decl-preserved
loop-decl-preserved c =
    let q = next_left c.args.more.now c.loop-decl.decl-index c.decl-item.result c.loop-decl-test.true c.decl-item.is in
    let rest = drop (c.loop-decl.decl-index + 1) c.args.more.now in
    ap (λ z. z ++ filter (is_kept c.args.tokens) rest) c.in_ok-put_decl.ensures
    ∙ append_assoc c.loop-decl.decls.items (filter (is_kept c.args.tokens) (c.decl-item.result ∷ [])) (filter (is_kept c.args.tokens) rest)
    ∙ ap (λ z. c.loop-decl.decls.items ++ z) (sym (kept_append (is_kept c.args.tokens) (c.decl-item.result ∷ []) rest) ∙ ap (filter (is_kept c.args.tokens)) (sym q))
    ∙ c.loop-decl.invariant

pub returns : goal.returns
returns c =
    let l : length c.args.more.now ≤ c.loop-decl.decl-index = omega arith in
    sym (append-nil c.loop-decl.decls.items) ∙ ap (λ z. c.loop-decl.decls.items ++ filter (is_kept c.args.tokens) z) (sym (drop_of_length-le c.args.more.now l)) ∙ c.loop-decl.invariant
