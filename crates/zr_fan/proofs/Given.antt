-- What the workers give, put together.
use Rattle.std.proofs.Common.{◌≡◌, ℕ, suc, ◌<◌, true, List, [], ◌∷◌, ◌++◌, length, Result, Ok, Err, Vec, get_or, refl, sym, ap, ◌∙◌, subst, arith}
use Rattle.std.specs.Prelude.{is_ok}
use Rattle.std.specs.declared.alloc.AllocError.{AllocError}
use Rattle.std.specs.declared.alloc.Global.{Global}
use Rattle.std.proofs.lemmas.Bool.{false≢true}
use Rattle.std.proofs.lemmas.List.Concat.{flat_map-cons}
use Rattle.zr_world_gang.specs.declared.share.Turn.{Turn}
use Rattle.zr_world_gang.specs.Shares.{ShareState}
use Rattle.zr_world_gang.specs.Turns.{HasDone, AllHaveDone}
use Rattle.zr_fan.specs.declared.threaded.Part.{Part}
use Rattle.zr_fan.specs.Parts.{all_of, given, gathered, AreDone, HasGiven}

-- shares that have done their turns, and others behind them
both_done : (turn : Turn) (ss ts us vs : List ShareState) → AllHaveDone turn ss ts → AllHaveDone turn us vs → AllHaveDone turn (ss ++ us) (ts ++ vs)
both_done turn [] [] us vs a b = b
both_done turn [] (t ∷ ts) us vs a b = absurd a
both_done turn (s ∷ ss) [] us vs a b = absurd a
both_done turn (s ∷ ss) (t ∷ ts) us vs a b = (a.0, both_done turn ss ts us vs a.1 b)

one_given : (turn : Turn) (p : Part) (r : Result (Vec ShareState Global) AllocError) → is_ok r ≡ true → HasGiven turn p r → AllHaveDone turn p.shares.items (given r)
one_given turn p (Ok v) ok h = h
one_given turn p (Err e) ok h = absurd (false≢true ok)

pub all_given : (turn : Turn) (ps : List Part) (rs : List (Result (Vec ShareState Global) AllocError)) → length rs ≡ length ps →
    ((i : ℕ) (d : Result (Vec ShareState Global) AllocError) (p : Part) → i < length ps → HasGiven turn (get_or ps i p) (get_or rs i d)) → AreDone rs → AllHaveDone turn (all_of ps) (gathered rs)
all_given turn [] [] len each done = tt
all_given turn [] (r ∷ rs) len each done = absurd (omega (arith, len))
all_given turn (p ∷ ps) [] len each done = absurd (omega (arith, len))
all_given turn (p ∷ ps) (r ∷ rs) len each done =
    subst (λ (z : List ShareState). AllHaveDone turn z (gathered (r ∷ rs))) (sym (flat_map-cons (λ (q : Part). q.shares.items) p ps))
    (subst (λ (z : List ShareState). AllHaveDone turn (p.shares.items ++ all_of ps) z) (sym (flat_map-cons given r rs))
    (both_done turn p.shares.items (given r) (all_of ps) (gathered rs) (one_given turn p r done.0 (each 0 r p (omega arith)))
    (all_given turn ps rs (omega (arith, len)) (λ i d q lt. each (suc i) d q (omega arith)) done.1)))
