-- Links of two names that are there and unbroken, and what acts have to do with them (`LinksGo`): a link that is unbroken then was so before, or was one
-- with nothing on it; and it leads to what it is then.
use Rattle.std.proofs.Common.{◌≡◌, ℕ, ◌⊎◌, inl, inr, Bool, true, false, cond, List, [], Option, Some, None, is_some, refl, sym, ap, ◌∙◌}
use Rattle.std.specs.Prelude.{◌||◌}
use Rattle.std.proofs.lemmas.Bool.{false≢true, or_cases}
use Rattle.zr_lists.proofs.Options.{not_there}
use Rattle.zr_id.specs.Zid.{is_named}
use Rattle.zr_node_spec.specs.Tables.{link_to}
use Rattle.zr_world_spec.specs.World.{RouterState, ClientState, End, WorldState, router_of, client_of, end_of, is_unbroken}
use Rattle.zr_world_spec.specs.Sound.{IsSound}
use Rattle.zr_world_spec.proofs.Names.{names}
use Rattle.zr_law_settled.proofs.Quiet.{passes_there}
use Rattle.zr_law_settled.proofs.Orderly.{Orderly}
use Rattle.zr_law_queries.specs.Link.{fresh}
use Rattle.zr_law_numbers.specs.Waiting.{waits, is_kept_by, back_at, link_of, is_whole}
use Rattle.zr_law_numbers.specs.Deeds.{Deed}
use Rattle.zr_law_numbers.proofs.Leading.{link_is}
use Rattle.zr_law_numbers.proofs.Doing.{Moves, Same}
use Rattle.zr_law_numbers.proofs.Neighbours.{half_by}
use Rattle.zr_law_numbers.proofs.Waits.{asks_among, answers_among, router_keeps, router_back, nobody_keeps, nobody_back}

-- what an act leads to on all links
abbrev pub LinksGo : (above below : List ℕ → List ℕ → Deed → Type 0) → WorldState → WorldState → Type 0
LinksGo above below w v = (x y : List ℕ) → is_whole v x y ≡ true → ((is_whole w x y ≡ true) ⊎ (link_of w x y ≡ fresh)) × Moves (above x y) (below x y) (link_of w x y) (link_of v x y)

-- and one that changes nothing on those that are unbroken then
abbrev pub LinksStay : WorldState → WorldState → Type 0
LinksStay w v = (x y : List ℕ) → is_whole v x y ≡ true → ((is_whole w x y ≡ true) ⊎ (link_of w x y ≡ fresh)) × (link_of w x y ≡ link_of v x y)

pub links_stay : (above below : List ℕ → List ℕ → Deed → Type 0) (w v : WorldState) → LinksStay w v → LinksGo above below w v
links_stay above below w v stay x y whole = ((stay x y whole).0, Same (stay x y whole).1)

-- ---- unbroken links

module _ (w : WorldState) where
  -- an unbroken link has an end
  pub whole_end : (x y : List ℕ) → is_whole w x y ≡ true → (is_some (end_of w.ends (x, y)) ≡ true) ⊎ (is_some (end_of w.ends (y, x)) ≡ true)
  whole_end x y whole = by (or_cases (is_unbroken w.ends (x, y)) (is_unbroken w.ends (y, x)) whole)
    where
      by : (is_unbroken w.ends (x, y) ≡ true) ⊎ (is_unbroken w.ends (y, x) ≡ true) → (is_some (end_of w.ends (x, y)) ≡ true) ⊎ (is_some (end_of w.ends (y, x)) ≡ true)
      by (inl e) = inl (passes_there (λ s. s.unbroken) w.ends (x, y) e)
      by (inr e) = inr (passes_there (λ s. s.unbroken) w.ends (y, x) e)

  -- and it is one of two names
  pub whole_apart : IsSound w → (x y : List ℕ) → is_whole w x y ≡ true → is_named x y ≡ false
  whole_apart sound x y whole = by (whole_end x y whole)
    where
      by : (is_some (end_of w.ends (x, y)) ≡ true) ⊎ (is_some (end_of w.ends (y, x)) ≡ true) → is_named x y ≡ false
      by (inl e) = sound.apart x y e
      by (inr e) = names.symm x y ∙ sound.apart y x e

  pub whole_turned : (x y : List ℕ) → is_whole w x y ≡ is_whole w y x
  whole_turned x y = by (is_unbroken w.ends (x, y)) (is_unbroken w.ends (y, x))
    where
      by : (b c : Bool) → (b || c) ≡ (c || b)
      by true true = refl
      by true false = refl
      by false true = refl
      by false false = refl

  -- no router is a client
  pub router_alone : Orderly w → (a : List ℕ) (r : RouterState) → router_of w.routers a ≡ Some r → client_of w.clients a ≡ None
  router_alone orderly a r found = by (client_of w.clients a) refl
    where
      by : (o : Option ClientState) → client_of w.clients a ≡ o → o ≡ None
      by None e = refl
      by (Some s) e = absurd (false≢true (sym (orderly.apart a (ap is_some e)) ∙ ap is_some found))

  pub client_alone : Orderly w → (c : List ℕ) (s : ClientState) → client_of w.clients c ≡ Some s → router_of w.routers c ≡ None
  client_alone orderly c s found = not_there (router_of w.routers c) (orderly.apart c (ap is_some found))

  -- a client's link is that to its router, and has its end there
  pub no_own_end : IsSound w → Orderly w → (c y : List ℕ) (s : ClientState) → client_of w.clients c ≡ Some s → is_some (end_of w.ends (c, y)) ≡ false
  no_own_end sound orderly c y s found = by (is_some (end_of w.ends (c, y))) refl
    where
      by : (b : Bool) → is_some (end_of w.ends (c, y)) ≡ b → b ≡ false
      by false e = refl
      by true e = absurd (false≢true (sym (ap is_some (client_alone orderly c s found)) ∙ sound.routers c y e))

-- unbroken ends are as they were
pub whole_same : (w v : WorldState) → ((q : End) → is_unbroken v.ends q ≡ is_unbroken w.ends q) → (x y : List ℕ) → is_whole v x y ≡ true → is_whole w x y ≡ true
whole_same w v same x y whole = (λ i. sym (same (x, y)) i || sym (same (y, x)) i) ∙ whole

-- or some ends more are unbroken
pub whole_more : (w v : WorldState) (t : End → Bool) → ((q : End) → is_unbroken v.ends q ≡ cond (t q) true (is_unbroken w.ends q)) → (x y : List ℕ) → is_whole v x y ≡ true →
    (is_whole w x y ≡ true) ⊎ ((t (x, y) ≡ true) ⊎ (t (y, x) ≡ true))
whole_more w v t more x y whole = by (t (x, y)) refl (t (y, x)) refl ((λ i. sym (more (x, y)) i || sym (more (y, x)) i) ∙ whole)
  where
    by : (b : Bool) → t (x, y) ≡ b → (c : Bool) → t (y, x) ≡ c → (cond b true (is_unbroken w.ends (x, y)) || cond c true (is_unbroken w.ends (y, x))) ≡ true →
        (is_whole w x y ≡ true) ⊎ ((t (x, y) ≡ true) ⊎ (t (y, x) ≡ true))
    by true e c f whole = inr (inl e)
    by false e true f whole = inr (inr f)
    by false e false f whole = inl whole

-- ---- links with nothing on them

-- a name keeps nothing for another
pub record KeepsNothing (w : WorldState) (a b : List ℕ) : Type 0 where
  pub keeps : (n : ℕ) → is_kept_by w b a n ≡ false
  pub back : (n : ℕ) → back_at w a b n ≡ None

-- no router without a link to it does
pub unlinked_keeps_nothing : (w : WorldState) (a b : List ℕ) (r : RouterState) → router_of w.routers a ≡ Some r → client_of w.clients a ≡ None → link_to r.node.links b ≡ None → KeepsNothing w a b
unlinked_keeps_nothing w a b r found none unlinked = record {
  keeps = λ n. router_keeps w b a r found none n ∙ ap (λ o. (half_by r.node o).keeps n) unlinked;
  back = λ n. router_back w a b r found none n ∙ ap (λ o. (half_by r.node o).back n) unlinked;
}

-- nor does a name of nobody
pub nobody_keeps_nothing : (w : WorldState) (a b : List ℕ) → router_of w.routers a ≡ None → client_of w.clients a ≡ None → KeepsNothing w a b
nobody_keeps_nothing w a b none free = record { keeps = nobody_keeps w b a none free; back = nobody_back w a b none free }

-- where nothing waits and nothing is kept, the link is as new
pub idle_link : (w : WorldState) (x y : List ℕ) → waits w x y ≡ [] → waits w y x ≡ [] → KeepsNothing w x y → KeepsNothing w y x → link_of w x y ≡ fresh
idle_link w x y there here upper lower = link_is (link_of w x y) fresh (ap asks_among there) (ap answers_among here) lower.keeps upper.back
