use Rattle.std.proofs.Common.{◌∙◌, sym, ap, nat_eq}
use Rattle.std.specs.Cmp.Lexicographic.{pointwise}
use Rattle.std.proofs.lemmas.Bool.{and_parts}
use Rattle.zr_key.specs.Key.{expression_of, is_plain_text}
use Rattle.zr_key.proofs.CanonForm.{all_chunks}
use Rattle.zr_match.proofs.Plain.{keys_compare}
use Rattle.zr_match.proofs.compare_texts.Goals as goal

pub returns-then-are_plain-clause-test : goal.returns-then-are_plain-clause-test
returns-then-are_plain-clause-test c =
    let plain = and_parts (is_plain_text c.args.a.now) (is_plain_text c.args.b.now) (sym c.if-are_plain.ensures) in
    c.eq.ensures ∙ ap (λ z. pointwise nat_eq z c.text-second.result.now) c.text-first.ensures.value ∙ ap (λ z. pointwise nat_eq c.args.a.now z) c.text-second.ensures.value
    ∙ keys_compare c.args.expands c.args.a.now c.args.b.now plain.0 plain.1 (all_chunks (expression_of c.args.a.now) c.text-first.ensures.key.expression) (all_chunks (expression_of c.args.b.now) c.text-second.ensures.key.expression)
