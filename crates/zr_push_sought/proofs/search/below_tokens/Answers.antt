use Rattle.std.proofs.Common.{◌≡◌, false}
use Rattle.zr_msg.specs.declared.decl.Kind.TheVariants.{Token}
use Rattle.zr_push_sought.specs.Sought.{is_sought, is_lower}
use Rattle.zr_push_sought.proofs.ByKind.{any_before, no_token}
use Rattle.zr_push_sought.proofs.search.below_tokens.Goals as goal

pub returns : goal.returns
returns c = λ sought key.
    any_before (λ d. is_sought sought key d) (λ d. is_lower d.kind Token ≡ false) (λ d h. no_token key sought d h)
    c.args.decls.now c.lower.result c.lower.ensures.parted.1
