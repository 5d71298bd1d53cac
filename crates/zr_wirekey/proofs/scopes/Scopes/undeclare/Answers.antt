use Rattle.std.proofs.Common.{◌≡◌, ◌∙◌, ℕ, List, Option, ap, sym, arith, length}
use Rattle.std.specs.Prelude.{option_map, unwrap_or}
use Rattle.zr_wirekey.specs.Scopes.{Texts, bytes_of}
use Rattle.zr_wirekey.proofs.Counted.{length_of, length_of-le, bytes_of-undeclared}
use Rattle.zr_wirekey.proofs.scopes.Scopes.undeclare.Goals as goal

pub overflow_sub-self : goal.overflow_sub-self
overflow_sub-self c =
    let text : length_of c.self.inside.texts.entries c.args.number ≡ length c.in-Some.text =
    ap (λ (o : Option (List ℕ)). unwrap_or (option_map (λ t. length t) o) 0) (sym c.remove.ensures.value ∙ c.in-Some.is) in
    omega (arith, text, ap length c.as_slice.ensures, length_of-le c.self.inside.texts.entries c.self.inside.bytes c.args.number c.self.invariant)

pub invariant_of-self : goal.invariant_of-self
invariant_of-self c =
    let text : length_of c.self.inside.texts.entries c.args.number ≡ length c.in-Some.text =
    ap (λ (o : Option (List ℕ)). unwrap_or (option_map (λ t. length t) o) 0) (sym c.remove.ensures.value ∙ c.in-Some.is) in
    let same = ap (λ (texts : Texts). bytes_of texts) c.remove.ensures.entries in
    record {
      count = omega (arith, text, same, ap length c.as_slice.ensures, bytes_of-undeclared c.self.inside.texts.entries c.args.number);
      few = omega arith;
      ordered = c.remove.ensures.ordered;
    }

pub invariant_of-self-in-Some-2 : goal.invariant_of-self-in-Some-2
invariant_of-self-in-Some-2 c =
    let text : length_of c.self.inside.texts.entries c.args.number ≡ length c.in-Some.text =
    ap (λ (o : Option (List ℕ)). unwrap_or (option_map (λ t. length t) o) 0) (sym c.remove.ensures.value ∙ c.in-Some.is) in
    let same = ap (λ (texts : Texts). bytes_of texts) c.remove.ensures.entries in
    record {
      count = omega (arith, text, same, ap length c.as_slice.ensures, bytes_of-undeclared c.self.inside.texts.entries c.args.number);
      few = omega arith;
      ordered = c.remove.ensures.ordered;
    }
