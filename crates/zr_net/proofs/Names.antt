-- What declares a number spells that.
use Rattle.std.proofs.Common.{ℕ, List, [], ◌∷◌, ◌++◌, None, refl, sym}
use Rattle.std.proofs.lemmas.List.{append-nil}
use Rattle.zr_bytes.specs.Number.{writes}
use Rattle.zr_bytes.specs.Text.{writes_text}
use Rattle.zr_wirekey.specs.Scopes.{Texts}
use Rattle.zr_wirekey.specs.Writing.{writes_name}
use Rattle.zr_msg.specs.declared.peer.Role.{Role}
use Rattle.zr_decl.specs.declared.declared.Declared.TheVariants.{Number}
use Rattle.zr_decl.specs.Writing.{IsName}
use Rattle.zr_decl.proofs.Names.{name_declared}
use Rattle.zr_net.specs.Net.{net_format}

pub name_spelled : (role : Role) (theirs ours : Texts) (number : ℕ) (text : List ℕ) → IsName (number, text) → (net_format role theirs ours).spelled (Number number text) (writes_name number text)
name_spelled role theirs ours number text h =
    let bytes : List ℕ = 0x20 ∷ (writes number ++ (writes 0 ++ writes_text text)) in
    (0x1E, 0x1E ∷ [], bytes, refl, refl, ((Number number text, None), bytes, [], sym (append-nil bytes), name_declared theirs ours number text h, (refl, refl)))
