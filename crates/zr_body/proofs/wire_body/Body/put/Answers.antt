use Rattle.std.proofs.Common.{◌≡◌, [], ◌∷◌, ◌++◌, ◌-◌, length, sym, ap, subst, ◌∙◌, arith}
use Rattle.std.proofs.lemmas.List.{length-append}
use Rattle.std.specs.Arc.{arc_slice_items}
use Rattle.zr_bytes.specs.Number.{writes}
use Rattle.zr_bytes.specs.Text.{writes_text}
use Rattle.zr_body.specs.Payload.{put_body, IsBodyTo}
use Rattle.zr_body.proofs.Payloads.{put_is_body}
use Rattle.zr_body.proofs.wire_body.Body.put.Goals as goal

pub invariant_of-result : goal.invariant_of-result
invariant_of-result c =
    let payload = c.args.payload.now in
    let written : c.put_bytes.new.out.items ≡ put_body payload =
    c.in_ok-put_bytes.ensures.ok ∙ ap (λ xs. xs ++ writes_text payload) (c.in_ok-push.ensures.items ∙ ap (λ xs. xs ++ 1 ∷ []) c.in_ok-bytes.ensures.items) in
    let e : arc_slice_items c.in_ok-from_vec.field-0 ≡ put_body payload = c.in_ok-from_vec.ensures ∙ written in
    subst (IsBodyTo (c.len.result - length payload)) (sym e) (put_is_body payload (c.len.result - length payload) c.requires (omega (arith, c.len.ensures, ap length written, length-append (writes (length payload)) payload)))
