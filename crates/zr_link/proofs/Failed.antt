-- Which ends a write that failed may stand behind.
use Rattle.std.proofs.Common.{◌≡◌, ℕ, ◌<◌, Some, None, refl, ap, subst, sym, arith}
use Rattle.zr_port.specs.declared.error.UpError.{UpError}
use Rattle.zr_port.specs.declared.error.UpError.TheVariants as up_error
use Rattle.zr_session.specs.declared.fate.Fate.{Fate}
use Rattle.zr_session.specs.declared.fate.Fate.TheVariants as fate
use Rattle.zr_link.specs.declared.end.LinkEnd.{LinkEnd}
use Rattle.zr_link.specs.declared.end.LinkEnd.TheVariants as end
use Rattle.zr_link.specs.Ends.{end_of_up, reason_of}
use Rattle.zr_link.specs.Failed.{MayHaveFailed}
use Rattle.zr_link.specs.Run.{EndIs}

-- the session has ended
pub ended_may : (f : Fate) (e : LinkEnd) → EndIs f e → MayHaveFailed e
ended_may fate.Going e is = absurd is
ended_may (fate.Closed reason) e is = subst MayHaveFailed (sym is) tt
ended_may (fate.Peer reason) e is = subst MayHaveFailed (sym is) tt

-- a peer that isn't taken for a reason, or since memory ran out
pub up_may : (e : UpError) (reason : ℕ) → reason_of (end_of_up e) ≡ Some reason → MayHaveFailed (end_of_up e)
up_may (up_error.Full sessions routers) reason is = tt
up_may up_error.Twice reason is = tt
up_may up_error.Worn reason is = tt
up_may up_error.NoMemory reason is = absurd cc

pub up_memory : (e : UpError) → reason_of (end_of_up e) ≡ None → end_of_up e ≡ end.NoMemory
up_memory (up_error.Full sessions routers) is = cc
up_memory up_error.Twice is = cc
up_memory up_error.Worn is = cc
up_memory up_error.NoMemory is = refl

-- a sink of which no write failed
pub none_failed : {K : Type 0} (faults : K → ℕ) (before : ℕ) (new sink : K) (e : LinkEnd) → faults new ≡ before → Some new ≡ Some sink → before < faults sink → MayHaveFailed e
none_failed faults before new sink e same is rose = let it : new ≡ sink = cc in absurd (omega (arith, same, ap faults it, rose))

-- or one of which the end tells
pub told_by : {K : Type 0} (faults : K → ℕ) (before : ℕ) (new sink : K) (e : LinkEnd) → (before < faults new → MayHaveFailed e) → Some new ≡ Some sink → before < faults sink → MayHaveFailed e
told_by faults before new sink e told is rose = let it : new ≡ sink = cc in told (subst (λ k. before < faults k) (sym it) rose)
