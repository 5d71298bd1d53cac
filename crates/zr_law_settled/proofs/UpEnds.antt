-- What a settled network shows of ends that are up, and that each message there can go on: one on a wire has a receiver whose end is up, and
-- one that is queued can be taken.
use Rattle.std.proofs.Common.{◌≡◌, Bool, true, false, Option, Some, None, ◌⊎◌, inl, inr, refl, sym, ap, ◌∙◌}
use Rattle.std.specs.Prelude.{◌&&◌, ◌||◌, not, is_some}
use Rattle.std.proofs.lemmas.Bool.{false≢true, true≢false, and_parts, or_cases}
use Rattle.zr_world_spec.specs.World.{EndState, End, WorldState, turned, end_of, is_empty, is_met, is_calm_end, is_settled}
use Rattle.zr_world_spec.specs.Sound.{IsSound}
use Rattle.zr_world_spec.proofs.Keyed.{found_entry}
use Rattle.zr_world_spec.proofs.Ends.{end_order, same_end}
use Rattle.zr_world_spec.proofs.Fits.{up_of}
use Rattle.zr_law_settled.proofs.Worlds.{there_in}
use Rattle.zr_law_settled.proofs.Moving.{unbroken_at}
use Rattle.zr_law_settled.proofs.Orderly.{has_wire, has_queue, is_client_in, Orderly}

-- an end that is up is that of an unbroken link, and where the neighbour is a router, its end is up too
abbrev pub IsMet : WorldState → Type 0
IsMet w = (e : End) → up_of (end_of w.ends e) ≡ true → (unbroken_at (end_of w.ends e) ≡ true) × (there_in w e.1 ≡ true → up_of (end_of w.ends (turned e)) ≡ true)

pub met_settled : (w : WorldState) → is_settled w ≡ true → IsMet w
met_settled w settled e = by (end_of w.ends e) refl
  where
    at : (s : EndState) (up : Bool) → s.up ≡ up → (not up || (s.unbroken && (not (there_in w e.1) || up_of (end_of w.ends (turned e))))) ≡ true → s.up ≡ true →
        (s.unbroken ≡ true) × (there_in w e.1 ≡ true → up_of (end_of w.ends (turned e)) ≡ true)
    at s false k met up = absurd (false≢true (sym k ∙ up))
    at s true k met up =
        let parts = and_parts s.unbroken (not (there_in w e.1) || up_of (end_of w.ends (turned e))) met in
        (parts.0, λ r. sym (ap (λ b. not b || up_of (end_of w.ends (turned e))) r) ∙ parts.1)

    by : (o : Option EndState) → end_of w.ends e ≡ o → up_of o ≡ true → (unbroken_at o ≡ true) × (there_in w e.1 ≡ true → up_of (end_of w.ends (turned e)) ≡ true)
    by None k up = absurd (false≢true up)
    by (Some s) k up =
        let found = and_parts (is_met w e s) (is_calm_end s) (found_entry end_order same_end (λ x. is_met w x.0 x.1 && is_calm_end x.1) w.ends e s settled k) in
        at s s.up refl found.0 up

-- ---- all that waits can go on

module _ (w : WorldState) (sound : IsSound w) (orderly : Orderly w) (met : IsMet w) where
  -- a message on a wire has a receiver whose end is up
  pub receiver_up : (e : End) (s : EndState) → end_of w.ends e ≡ Some s → is_empty s.wire ≡ false → s.up ≡ true
  receiver_up e s found waits = sym (ap up_of found) ∙ by (or_cases (there_in w e.1) (is_client_in w e.1) (sound.neighbours e.0 e.1 (ap is_some found)))
    where
      on_wire : has_wire (end_of w.ends e) ≡ true
      on_wire = ap has_wire found ∙ ap not waits

      unbroken : unbroken_at (end_of w.ends e) ≡ true
      unbroken = at (unbroken_at (end_of w.ends e)) refl
        where
          at : (b : Bool) → unbroken_at (end_of w.ends e) ≡ b → b ≡ true
          at true k = refl
          at false k = absurd (true≢false (sym on_wire ∙ orderly.broken_links e k))

      by : (there_in w e.1 ≡ true) ⊎ (is_client_in w e.1 ≡ true) → up_of (end_of w.ends e) ≡ true
      by (inl r) = (met (turned e) (orderly.senders e r on_wire)).1 (sound.routers e.0 e.1 (ap is_some found))
      by (inr k) = orderly.clients e k unbroken

  -- a queued message can be taken
  pub taker_up : (e : End) (s : EndState) → end_of w.ends e ≡ Some s → is_empty s.queue ≡ false → (s.up ≡ true) × (s.unbroken ≡ true)
  taker_up e s found waits = (sym (ap up_of found) ∙ up, sym (ap unbroken_at found) ∙ (met e up).0)
    where
      up : up_of (end_of w.ends e) ≡ true
      up = at (up_of (end_of w.ends e)) refl
        where
          at : (b : Bool) → up_of (end_of w.ends e) ≡ b → b ≡ true
          at true k = refl
          at false k = absurd (true≢false (sym (ap has_queue found ∙ ap not waits) ∙ orderly.down_ends e k))
