-- One message has come over a link: what its delivery says of all that are left.
use Rattle.std.proofs.Common.{◌≡◌, ◌≢◌, false, List, ◌∷◌, sym, ap, subst, ◌∙◌}
use Rattle.std.specs.Prelude.{Result, Ok, Err, IfErr, OnOk, OnErr}
use mathlib.Core.List.{IsPrefix}
use Rattle.zr_hist.specs.declared.pass.Pass.{Pass}
use Rattle.zr_hist.specs.Words.{mine, seen}
use Rattle.zr_id.specs.declared.link.LinkNo.{LinkNo}
use Rattle.zr_msg.specs.declared.msg.Msg.{Msg}
use Rattle.zr_port.specs.Coming.{Came, ComesUpTo, Makes, Sight, StopsAt, is_passed, message_of, sight}
use Rattle.zr_port.specs.declared.entry.Entry.{Entry}
use Rattle.zr_port.specs.declared.error.DeliverError.{DeliverError}
use Rattle.zr_port.specs.declared.error.DeliverError.TheVariants.{NoMemory}
use Rattle.zr_port.proofs.Coming.{comes_begun, comes_one, comes_still}

module _ (link : LinkNo) (refuses : List Entry → Msg → DeliverError → Type 0) where
  -- it came, and the others are left
  pub next_comes : {A : Type 0} (o : Result A DeliverError) (all rest : List Msg) (m : Msg) (a b : Sight) (S : Came → Type 0) → all ≡ m ∷ rest
      → OnOk o ((c : Came) × (message_of c ≡ m) × S c × Makes link refuses c a b) → OnOk o (ComesUpTo link refuses all rest a b)
  next_comes (Ok x) all rest m a b S is k = comes_one link refuses all all rest k.0 a a b (comes_begun link refuses all a) (is ∙ ap (λ z. z ∷ rest) (sym k.1)) k.3
  next_comes (Err e) all rest m a b S is k = tt

  -- it was refused and not passed over, and all are left
  pub next_stops : {A : Type 0} (o : Result A DeliverError) (all rest : List Msg) (m : Msg) (a b : Pass Entry) (h more : List Entry) → all ≡ m ∷ rest → IsPrefix (seen a) h → seen b ≡ more
      → OnErr o ((more ≡ h) × (mine b ≡ mine a)) → IfErr o (λ r. is_passed r ≡ false) → IfErr o (λ r. r ≢ NoMemory → refuses h m r)
      → IfErr o (λ e. (left : List Msg) × ComesUpTo link refuses all left (sight a) (sight b) × StopsAt (λ x r. refuses (seen b) x r) left e)
  next_stops (Ok x) all rest m a b h more is first s same stops refused = tt
  next_stops (Err e) all rest m a b h more is first s same stops refused =
      let now : seen b ≡ h = s ∙ same.0 in (
        all,
        comes_still link refuses all all (sight a) (sight a) (sight b) (comes_begun link refuses all (sight a)) (same.1, subst (λ z. IsPrefix (seen a) z) (sym now) first),
        record { msg = m; others = rest; first = is; stops = stops; refused = λ other. subst (λ z. refuses z m e) (sym now) (refused other) },
      )
