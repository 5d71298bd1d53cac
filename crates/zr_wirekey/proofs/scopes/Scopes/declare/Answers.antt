use Rattle.std.proofs.Common.{◌∙◌, ℕ, ap, refl, arith, Err, List, length}
use Rattle.std.proofs.lemmas.Result.{err_from_is_err_and}
use Rattle.zr_wirekey.specs.declared.scopes.ScopeError.{ScopeError}
use Rattle.zr_wirekey.specs.Scopes.{Texts, bytes_of, declared}
use Rattle.zr_wirekey.proofs.Counted.{length_of-le, counted, not_limit}
use Rattle.zr_wirekey.proofs.scopes.Scopes.declare.Goals as goal

pub overflow_sub-bytes : goal.overflow_sub-bytes
overflow_sub-bytes c = omega (arith, c.length_at.ensures, length_of-le c.self.inside.texts.entries c.self.inside.bytes c.args.number c.self.invariant)

pub returns-then-bytes-gt-MOST_BYTES-clause-limit : goal.returns-then-bytes-gt-MOST_BYTES-clause-limit
returns-then-bytes-gt-MOST_BYTES-clause-limit c =
    let whole = counted c.self.inside.texts.entries c.self.inside.bytes c.args.number c.args.text.now c.self.invariant in
    let same = ap (λ texts. bytes_of (declared texts c.args.number c.args.text.now)) c.self.view_is in
    (λ h. omega (arith, whole, same, c.length_at.ensures), λ h. refl)

pub returns-in_err-text-clause-limit : goal.returns-in_err-text-clause-limit
returns-in_err-text-clause-limit c =
    let p = err_from_is_err_and c.from_residual.result c.from_residual.ensures.1 in
    let whole = counted c.self.inside.texts.entries c.self.inside.bytes c.args.number c.args.text.now c.self.invariant in
    let same = ap (λ texts. bytes_of (declared texts c.args.number c.args.text.now)) c.self.view_is in
    not_limit c.from_residual.result _ (p.1 ∙ ap (λ (e : ScopeError). Err e) p.2) (omega (arith, whole, same, c.length_at.ensures))

pub returns-in_err-insert-clause-limit : goal.returns-in_err-insert-clause-limit
returns-in_err-insert-clause-limit c =
    let p = err_from_is_err_and c.from_residual-in_err-insert.result c.from_residual-in_err-insert.ensures.1 in
    let whole = counted c.self.inside.texts.entries c.self.inside.bytes c.args.number c.args.text.now c.self.invariant in
    let same = ap (λ texts. bytes_of (declared texts c.args.number c.args.text.now)) c.self.view_is in
    not_limit c.from_residual-in_err-insert.result _ (p.1 ∙ ap (λ (e : ScopeError). Err e) p.2) (omega (arith, whole, same, c.length_at.ensures))

pub invariant_of-self-2 : goal.invariant_of-self-2
invariant_of-self-2 c =
    let whole = counted c.self.inside.texts.entries c.self.inside.bytes c.args.number c.in_ok-text.text c.self.invariant in
    let same = ap (λ (texts : Texts). bytes_of texts) c.in_ok-insert.ensures.entries in
    let text = ap (λ (bytes : List ℕ). length bytes) c.in_ok-text.ensures in
    record {
      count = omega (arith, whole, same, text, c.length_at.ensures);
      few = omega arith;
      ordered = c.in_ok-insert.ensures.ordered;
    }

pub returns-clause-limit : goal.returns-clause-limit
returns-clause-limit c =
    let whole = counted c.self.inside.texts.entries c.self.inside.bytes c.args.number c.args.text.now c.self.invariant in
    let same = ap (λ texts. bytes_of (declared texts c.args.number c.args.text.now)) c.self.view_is in
    (λ h. absurd cc, λ lt. absurd (omega (arith, whole, same, c.length_at.ensures)))
