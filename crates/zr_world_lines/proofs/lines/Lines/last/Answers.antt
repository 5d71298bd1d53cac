use Rattle.std.proofs.Common.{◌≡◌, ◌-◌, List, ℕ, Some, length, drop, sym, ap, ◌∙◌, rules}
use Rattle.std.specs.Prelude.{slice_get}
use Rattle.std.proofs.lemmas.List.{take_rest}
use Rattle.zr_world_lines.proofs.Cuts.{last_is}
use Rattle.zr_world_lines.proofs.lines.Lines.last.Goals as goal

pub returns-in-Some : goal.returns-in-Some
returns-in-Some c =
    let found : Some c.in-Some.size.now ≡ slice_get c.self.inside.lengths.items (length c.self.inside.lengths.items - 1) =
    c.in-Some.ensures.value ∙ ap (λ z. slice_get z (length z - 1)) c.deref.ensures.value
    in
    let long : c.len.result ≡ length c.self.inside.text.items = search rules in
    ap Some (take_rest c.deref-in-Some.result.now (c.len.result - c.in-Some.size.now))
    ∙ (λ i. Some (drop (long i - c.in-Some.size.now) (c.deref-in-Some.ensures.value i)))
    ∙ sym (last_is c.self.inside.lengths.items c.self.inside.text.items c.in-Some.size.now c.self.invariant found)
    ∙ ap (λ (z : List (List ℕ)). slice_get z (length z - 1)) c.self.view_is
