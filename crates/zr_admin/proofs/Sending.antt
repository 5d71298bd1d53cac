-- Messages that are delivered one after another, and what a call of a port adds.
use Rattle.std.proofs.Common.{◌≡◌, ◌≢◌, inl, inr, Result, Ok, Err, List, [], ◌∷◌, ◌++◌, map, None, refl, sym, ap, ◌∙◌, append_assoc, append-nil, subst}
use Rattle.std.proofs.lemmas.List.{map-append}
use Rattle.std.specs.Prelude.{IfOk, IfErr, OnErr}
use mathlib.Core.List.{IsPrefix}
use Rattle.zr_id.specs.declared.link.LinkNo.{LinkNo}
use Rattle.zr_msg.specs.declared.msg.Msg.{Msg}
use Rattle.zr_msg.specs.declared.event.Event.TheVariants.{From, Down}
use Rattle.zr_hist.specs.declared.pass.Pass.{Pass}
use Rattle.zr_hist.specs.Words.{seen, mine}
use Rattle.zr_port.specs.declared.entry.Entry.{Entry}
use Rattle.zr_port.specs.declared.error.DeliverError.{DeliverError}
use Rattle.zr_port.specs.declared.error.DownError.{DownError}
use Rattle.zr_port.specs.declared.error.DownError.TheVariants as down
use Rattle.zr_port.specs.Adding.{Adds, IsAdmitted, IsEntryOf}
use Rattle.zr_port.specs.Coming.{Answering, Sight, sight, Looks, Delivered, Makes, Through}
use Rattle.zr_port.proofs.Coming.{adds_one, looks_self, through_then}
use Rattle.zr_admin.specs.Inner.{DeliversUpTo, Leaves}

-- what a port tells of a message that it has taken
pub makes_one : (link : LinkNo) (refuses : List Entry → Msg → DeliverError → Type 0) (m : Msg) (old new : Pass Entry)
    → Adds old new (λ before e. IsEntryOf (From link m) None None e × IsAdmitted (refuses before m)) → Makes link refuses (Delivered m) (sight old) (sight new)
makes_one link refuses m old new h =
    (record { before = h.before; entry = h.entry; own = h.own; last = h.last; prefix = h.prefix; is = h.says.0 }, h.says.1)

-- or of a link that is to go down
pub left : (r : Result (Unit {0}) DownError) (link : LinkNo) (admits : List Entry → Type 0) (refuses : List Entry → LinkNo → DownError → Type 0) (called : Answering) (old new : Pass Entry)
    → called link None (sight old) (sight new) r → IfOk r (λ _. Adds old new (λ before e. IsEntryOf (Down link) None None e × admits before))
    → IfErr r (λ e. e ≢ down.NoMemory → refuses (seen new) link e) → OnErr r (mine new ≡ mine old) → IsPrefix (seen old) (seen new) → Leaves refuses called link (sight old) (sight new)
left (Ok u) link admits refuses called old new answered added refused same prefix = (Ok u, answered, adds_one old new (Down link) None None _ added (λ before e says. says.0))
left (Err e) link admits refuses called old new answered added refused same prefix = (Err e, answered, ((same, prefix), refused))

module _ (link : LinkNo) (refuses : List Entry → Msg → DeliverError → Type 0) where
  pub none_delivered : (messages : List Msg) (a : Sight) → DeliversUpTo link refuses messages messages a a
  none_delivered messages a = record { sent = []; are = refl; goes = looks_self a }

  pub one_more : (messages rest next : List Msg) (m : Msg) (a b d : Sight) → DeliversUpTo link refuses messages rest a b → rest ≡ m ∷ next → Makes link refuses (Delivered m) b d
      → DeliversUpTo link refuses messages next a d
  one_more messages rest next m a b d h is one = record {
    sent = h.sent ++ m ∷ [];
    are = h.are ∙ ap (λ z. h.sent ++ z) is ∙ sym (append_assoc h.sent (m ∷ []) next);
    goes = subst (λ z. Through link refuses z a d) (sym (map-append (λ x. Delivered x) h.sent (m ∷ [])))
        (through_then link refuses (map (λ x. Delivered x) h.sent) (Delivered m ∷ []) a b d h.goes (d, one, looks_self d));
  }

  -- one that was refused adds nothing
  pub still : (messages rest : List Msg) (a b d : Sight) → DeliversUpTo link refuses messages rest a b → Looks b d → DeliversUpTo link refuses messages rest a d
  still messages rest a b d h k = record {
    sent = h.sent;
    are = h.are;
    goes = subst (λ z. Through link refuses z a d) (append-nil (map (λ x. Delivered x) h.sent)) (through_then link refuses (map (λ x. Delivered x) h.sent) [] a b d h.goes k);
  }
