-- Requests that are found one after another.
use Rattle.std.proofs.Common.{false, ◌≡◌, ℕ, zero, suc, List, [], ◌++◌, Ok, Err, sym, ap, ◌∙◌, subst, append_assoc, inl, inr}
use Rattle.std.proofs.lemmas.List.{append-nil}
use Rattle.std.proofs.lemmas.Bool.{true≢false}
use Rattle.zr_bytes.specs.declared.read_error.ReadError.{ReadError}
use Rattle.zr_bytes.specs.Reading.{Fails}
use Rattle.zr_decl.specs.declared.declared.Declared.{Declared}
use Rattle.zr_msg.specs.declared.peer.Role.TheVariants.{Client}
use Rattle.zr_net.specs.Reading.{net_of}
use Rattle.zr_wirekey.specs.Scopes.{Texts}
use Rattle.zr_admin.specs.declared.asked.Asked.{Asked}
use Rattle.zr_admin.specs.Asked.{asked_in, asked_within, is_no_memory, then_asked}

pub asks_more : (n k : ℕ) (none : Texts) (d : Declared) (found whole : List Asked) (old new : List ℕ) → n ≡ suc k → none ≡ [] → net_of Client none none old ≡ Ok (d, new)
    → found ++ asked_within n old ≡ whole → (found ++ asked_in d) ++ asked_within k new ≡ whole
unfolding asked_within
asks_more n k none d found whole old new is empty said so =
    let read : net_of Client [] [] old ≡ Ok (d, new) = subst (λ z. net_of Client z z old ≡ Ok (d, new)) empty said in
    let step : asked_within (suc k) old ≡ asked_in d ++ asked_within k new = ap (λ r. then_asked r (λ rest. asked_within k rest)) read in
    append_assoc found (asked_in d) (asked_within k new) ∙ ap (λ z. found ++ z) (sym step) ∙ ap (λ z. found ++ asked_within z old) (sym is) ∙ so

-- what is no message ends them
pub asks_no_more : (n k : ℕ) (none : Texts) (e : ReadError) (found whole : List Asked) (old : List ℕ) → n ≡ suc k → none ≡ [] → Fails e (net_of Client none none old) → is_no_memory e ≡ false
    → found ++ asked_within n old ≡ whole → found ≡ whole
unfolding asked_within
asks_no_more n k none e found whole old is empty (inl spent) never so = absurd (true≢false (sym (ap is_no_memory spent) ∙ never))
asks_no_more n k none e found whole old is empty (inr said) never so =
    let read : net_of Client [] [] old ≡ Err e = subst (λ z. net_of Client z z old ≡ Err e) empty said in
    let step : asked_within (suc k) old ≡ [] = ap (λ r. then_asked r (λ rest. asked_within k rest)) read in
    sym (append-nil found) ∙ ap (λ z. found ++ z) (sym step) ∙ ap (λ z. found ++ asked_within z old) (sym is) ∙ so

-- all were read
pub asks_over : (n : ℕ) (found whole : List Asked) (old : List ℕ) → n ≡ zero → found ++ asked_within n old ≡ whole → found ≡ whole
unfolding asked_within
asks_over n found whole old is so = sym (append-nil found) ∙ ap (λ z. found ++ asked_within z old) (sym is) ∙ so
