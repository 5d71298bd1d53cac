-- The counts of one read behind those of the reads before it.
use Rattle.std.proofs.Common.{◌≡◌, ◌∙◌, ℕ, ◌<◌, ◌≤◌, min, Result, Ok, Err, List, sym, ap, subst, inl, inr, arith}
use Rattle.zr_msg.specs.declared.msg.Msg.{Msg}
use Rattle.zr_outside.specs.Counts.{Counted, Rose, RoseBy}
use Rattle.zr_port.specs.declared.error.DeliverError.{DeliverError}
use Rattle.zr_session.specs.declared.event.SessionEvent.{SessionEvent}
use Rattle.zr_session.specs.declared.fate.Fate.{Fate}
use Rattle.zr_session.specs.declared.fate.Fate.TheVariants as fate
use Rattle.zr_link.specs.declared.end.LinkEnd.{LinkEnd}
use Rattle.zr_link.specs.declared.end.LinkEnd.TheVariants as end
use Rattle.zr_outside.proofs.Counting.{counted_same}
use Rattle.zr_link.proofs.Going.{Settles, of_delivery_end}

pub rose_none : (a : ℕ) → RoseBy 0 a a
rose_none a = record { most = omega arith; least = omega arith }

pub moment_none : (a b : ℕ) → min a b ≤ a
moment_none a b = omega arith

-- what counts an Err alone counts nothing where the result is Ok
pub counted_none : {A F : Type 0} (a b : ℕ) (x : A) (e : F) → Counted a b (Ok x ≡ Err e) → b ≡ a
counted_none a b x e h = counted_same a b (Ok x ≡ Err e) h (λ is. absurd cc)

pub counted_never : (a b : ℕ) (E : Type 0) → b ≡ a → (E → ⊥) → Counted a b E
counted_never a b E is never = record {
  later = omega (arith, is);
  one = omega (arith, is);
  cause = λ e. absurd (never e);
  only = λ rose. absurd (omega (arith, is, rose));
}

pub counted_ok : {A B F : Type 0} (a b c : ℕ) (x : A) (y : B) (e : F) → b ≡ a → Counted b c (Ok x ≡ Err e) → Counted a c (Ok y ≡ Err e)
counted_ok a b c x y e is h = counted_never a c (Ok y ≡ Err e) (counted_none b c x e h ∙ is) (λ p. absurd cc)

pub counted_err : {A F : Type 0} (a b c : ℕ) (r : Result A F) (x y : F) → r ≡ Err x → b ≡ a → Counted b c (r ≡ Err y) → Counted a c (x ≡ y)
counted_err a b c r x y is same h = record {
  later = subst (λ z. z ≤ c) same h.later;
  one = omega (arith, same, h.one);
  cause = λ e. subst (λ z. Rose z c) same (h.cause (is ∙ ap Err e));
  only = λ rose. let k = sym is ∙ h.only (subst (λ z. z < c) (sym same) rose) in cc;
}

-- the same of another result with this error
pub counted_err_as : {A B F : Type 0} (a b c : ℕ) (r : Result A F) (s : Result B F) (x y : F) → r ≡ Err x → s ≡ Err x → b ≡ a → Counted b c (r ≡ Err y) → Counted a c (s ≡ Err y)
counted_err_as a b c r s x y is too same h =
    let k = counted_err a b c r x y is same h in record {
      later = k.later;
      one = k.one;
      cause = λ e. k.cause (let q = sym too ∙ e in cc);
      only = λ rose. too ∙ ap Err (k.only rose);
    }

-- ---- ends that no read brings

abbrev pub IsUnread : LinkEnd → Type 0
IsUnread end.ReadFault = ⊥
IsUnread end.WriteFault = Unit {0}
IsUnread end.PeerEnded = ⊥
IsUnread (end.Closed reason) = Unit {0}
IsUnread (end.Peer reason) = Unit {0}
IsUnread end.CrewRefused = Unit {0}
IsUnread end.Turns = Unit {0}
IsUnread end.NoMemory = Unit {0}

pub settles_unread : (refuses : Msg → DeliverError → Type 0) (rest : List SessionEvent) (f : Fate) (e : LinkEnd) → Settles refuses rest f e → IsUnread e
settles_unread refuses rest f e (inl stop) = of_delivery_end IsUnread stop.error e stop.ends (λ reason at. tt) tt
settles_unread refuses rest fate.Going e (inr is) = absurd is.1
settles_unread refuses rest (fate.Closed reason) e (inr is) = subst IsUnread (sym is.1) tt
settles_unread refuses rest (fate.Peer reason) e (inr is) = subst IsUnread (sym is.1) tt
