-- The oldest message at an end, and the ends without it.
use Rattle.std.proofs.Common.{◌≡◌, ℕ, true, not, List, ◌∷◌, Result, Ok, get_or, set, sym, ap, ◌∙◌}
use Rattle.zr_script_spec.specs.declared.error.ScriptError.{ScriptError}
use Rattle.zr_script_spec.specs.declared.error.ScriptError.TheVariants.{NotLinked}
use Rattle.zr_script_spec.specs.Step.{◌>>=◌}
use Rattle.zr_world_spec.specs.World.{Tagged, End}
use Rattle.zr_world_spec.specs.Acts.{oldest, unless}
use Rattle.zr_world_ends.specs.Index.{IsThere}
use Rattle.zr_world_ends.specs.Kept.{KeptEnd, KeptEnds, with_queue}
use Rattle.zr_world_ends.specs.Named.{set_at}
use Rattle.zr_world_ends.specs.Steps.{kept_at, from_kept}

module _ (es : KeptEnds) (e : End) (i : ℕ) (d : End × KeptEnd) (x : Tagged) (s : KeptEnd) (there : IsThere es e i) where
  -- the end that was replaced
  replaced : (t : KeptEnd) → s ≡ t → set_at es e t ≡ set es i ((get_or es i d).0, s)
  replaced t new = ap (λ (z : KeptEnd). set_at es e z) (sym new) ∙ sym (there.sets s) ∙ ap (λ (k : End). set es i (k, s)) (sym (there.key_is d))

  abbrev took : KeptEnd → Tagged × List Tagged → Result (Tagged × KeptEnds) ScriptError
  took k x = Ok (x.0, set_at es e (with_queue k x.1))

  pub queue_gives : (get_or es i d).1.up ≡ true → (get_or es i d).1.unbroken ≡ true → (get_or es i d).1.queue ≡ x ∷ s.queue → s ≡ with_queue (get_or es i d).1 s.queue → from_kept es e ≡ Ok (x, set es i ((get_or es i d).0, s))
  unfolding from_kept
  queue_gives up unbroken queue new =
      ap (λ o. kept_at o >>= λ s. unless (not s.up) NotLinked >>= λ a. unless (not s.unbroken) NotLinked >>= λ b. oldest s.queue >>= took s) (there.found d)
      ∙ ap (λ b. unless (not b) NotLinked >>= λ a. unless (not (get_or es i d).1.unbroken) NotLinked >>= λ b. oldest (get_or es i d).1.queue >>= took (get_or es i d).1) up
      ∙ ap (λ b. unless (not b) NotLinked >>= λ a. oldest (get_or es i d).1.queue >>= took (get_or es i d).1) unbroken
      ∙ ap (λ w. oldest w >>= took (get_or es i d).1) queue
      ∙ ap (λ (z : KeptEnds). Ok (x, z)) (replaced (with_queue (get_or es i d).1 s.queue) new)
