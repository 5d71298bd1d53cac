use Rattle.std.proofs.Common.{◌≡◌, ℕ, ◌^◌, List, Some, Ok, IfSome, ap, sym, subst, ◌∙◌}
use Rattle.zr_bytes.specs.Reading.{number_below}
use Rattle.zr_key.specs.Key.{read_key}
use Rattle.zr_wirekey.specs.Scopes.{text_at}
use Rattle.zr_wirekey.proofs.Bare.{bare_read}
use Rattle.zr_wirekey.proofs.reading.bare.Goals as goal

pub returns-in_ok-copy-in-Some : goal.returns-in_ok-copy-in-Some
returns-in_ok-copy-in-Some c =
    let known = subst (λ o. IfSome o (λ key. (text : List ℕ) × (text_at c.args.scopes.now c.in_ok-number.number ≡ Some text) × (read_key text ≡ Ok key.now))) c.in-Some.is c.key.ensures in
    bare_read c.args.scopes.now c.args.c.now c.z16.new.self c.in_ok-number.number known.0 _ (ap (number_below (2 ^ 16)) (sym c.fork-behind.ensures) ∙ c.in_ok-number.ensures)
    known.1 (known.2 ∙ ap Ok (sym (c.in_ok-copy-in-Some.ensures)))
