-- A message that was taken goes on to routers alone: no other neighbour has an end.
use Rattle.std.proofs.Common.{◌≡◌, ℕ, Bool, true, false, cond, List, [], ◌∷◌, Option, Some, None, Result, Ok, Err, refl, sym, ap, ◌∙◌}
use Rattle.std.specs.Prelude.{is_some}
use Rattle.std.proofs.lemmas.Bool.{true≢false, false_from_ne_true}
use Rattle.zr_script_spec.specs.declared.error.ScriptError.{ScriptError}
use Rattle.zr_script_spec.specs.Step.{◌>>=◌}
use Rattle.zr_world_spec.specs.World.{Tagged, EndState, End, Ends, WorldState, router_of, end_of, is_end, with_end, with_queue, changed}
use Rattle.zr_world_spec.specs.Acts.{end_at, up_at, unbroken_at, oldest}
use Rattle.zr_world_spec.specs.Sound.{IsSound}
use Rattle.zr_world_spec.proofs.Ends.{keep_with_end}
use Rattle.zr_world_ends.specs.Steps.{from_queue}

-- where the end is not there, no end changes
pub changed_nowhere : (es : Ends) (e : End) (change : EndState → EndState) → is_some (end_of es e) ≡ false → es ≡ changed es e change
changed_nowhere [] e change h = refl
changed_nowhere (x ∷ es) e change h = by (is_end e x.0) refl h (changed_nowhere es e change)
  where
    by : (b : Bool) → is_end e x.0 ≡ b → is_some (cond b (Some x.1) (end_of es e)) ≡ false → (is_some (end_of es e) ≡ false → es ≡ changed es e change)
        → x ∷ es ≡ cond (is_end e x.0) (x.0, change x.1) x ∷ changed es e change
    by true n k ih = absurd (true≢false k)
    by false n k ih = rw n (ap (λ ys. x ∷ ys) (ih k))

-- taking a message leaves the ends that are there
pub queue_keeps : (es : Ends) (q p : End) (y : Tagged × Ends) → from_queue es q ≡ Ok y → is_some (end_of y.1 p) ≡ is_some (end_of es p)
unfolding from_queue
queue_keeps es q p y h = by (end_of es q) refl h
  where
    ends_of : Result (Tagged × Ends) ScriptError → Ends
    ends_of (Ok z) = z.1
    ends_of (Err e) = []

    last : (s : EndState) → end_of es q ≡ Some s → (o : Result (Tagged × List Tagged) ScriptError) → (o >>= (λ x. Ok (x.0, with_end es q (with_queue s x.1)))) ≡ Ok y → is_some (end_of y.1 p) ≡ is_some (end_of es p)
    last s found (Ok x) k =
        let same : with_end es q (with_queue s x.1) ≡ y.1 = ap ends_of k in
        ap (λ (z : Ends). is_some (end_of z p)) (sym same) ∙ keep_with_end es q (with_queue s x.1) is_some p s found refl
    last s found (Err e) k = absurd (cc)

    unbroken : (s : EndState) → end_of es q ≡ Some s → (o : Result (Unit {0}) ScriptError) → (o >>= (λ b. oldest s.queue >>= (λ x. Ok (x.0, with_end es q (with_queue s x.1))))) ≡ Ok y → is_some (end_of y.1 p) ≡ is_some (end_of es p)
    unbroken s found (Ok b) k = last s found (oldest s.queue) k
    unbroken s found (Err e) k = absurd (cc)

    up : (s : EndState) → end_of es q ≡ Some s → (o : Result (Unit {0}) ScriptError) → (o >>= (λ a. unbroken_at s >>= (λ b. oldest s.queue >>= (λ x. Ok (x.0, with_end es q (with_queue s x.1)))))) ≡ Ok y → is_some (end_of y.1 p) ≡ is_some (end_of es p)
    up s found (Ok a) k = unbroken s found (unbroken_at s) k
    up s found (Err e) k = absurd (cc)

    by : (o : Option EndState) → end_of es q ≡ o → (end_at o >>= (λ s. up_at s >>= (λ a. unbroken_at s >>= (λ b. oldest s.queue >>= (λ x. Ok (x.0, with_end es q (with_queue s x.1))))))) ≡ Ok y → is_some (end_of y.1 p) ≡ is_some (end_of es p)
    by None found k = absurd (cc)
    by (Some s) found k = up s found (up_at s) k

-- who is no router has no end, also once a message was taken
pub no_end_of_others : (w : WorldState) (q : End) (to router : List ℕ) (y : Tagged × Ends) → IsSound w → from_queue w.ends q ≡ Ok y → is_some (router_of w.routers to) ≡ false →
    is_some (end_of y.1 (to, router)) ≡ false
no_end_of_others w q to router y sound h none =
    queue_keeps w.ends q (to, router) y h ∙ false_from_ne_true (is_some (end_of w.ends (to, router))) (λ t. true≢false (sym (sound.routers to router t) ∙ none))
