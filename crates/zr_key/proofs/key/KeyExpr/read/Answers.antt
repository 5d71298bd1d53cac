use Rattle.std.proofs.Common.{ap, sym, ◌∙◌, subst, arith}
use Rattle.std.specs.Str.{IsUtf8}
use Rattle.std.proofs.lemmas.Str.{IsUtf8-from_is_utf8}
use Rattle.zr_key.specs.Key.{IsKeyText, plain_prefix_len}
use Rattle.zr_key.proofs.Reading.{Passed, canonical_text}
use Rattle.zr_key.proofs.key.KeyExpr.read.Goals as goal

pub text_of-text-requires : goal.text_of-text-requires
text_of-text-requires c =
    let passed : Passed c.args.bytes.now = record { short = omega arith; utf8 = sym c.if-not-is_utf8.ensures; fault_free = sym c.in-None.ensures } in
    let key = canonical_text c.args.bytes.now passed in
    subst IsUtf8 (sym c.in_ok-canonical_text-in-None.ensures) (IsUtf8-from_is_utf8 _ key.utf8)

pub invariant_of-result : goal.invariant_of-result
invariant_of-result c =
    let passed : Passed c.args.bytes.now = record { short = omega arith; utf8 = sym c.if-not-is_utf8.ensures; fault_free = sym c.in-None.ensures } in (
      subst IsKeyText (sym (c.text_of-text.ensures ∙ c.in_ok-canonical_text-in-None.ensures)) (canonical_text c.args.bytes.now passed),
      c.plain_prefix_len-plain_prefix.ensures ∙ ap plain_prefix_len c.as_bytes.ensures.value,
    )
