-- Whether a router has heard that its identifier was in use before, with one more entry.
use Rattle.std.proofs.Common.{◌≡◌, ℕ, Bool, true, false, List, [], ◌∷◌, ◌++◌, refl, sym, ap, ◌∙◌}
use Rattle.std.specs.Prelude.{◌||◌}
use Rattle.std.proofs.Math.Bool.{or-false}
use Rattle.zr_msg.specs.declared.event.Event.{Event}
use Rattle.zr_port.specs.declared.entry.Entry.{Entry}
use Rattle.zr_router_queue.specs.Tables.{Tables, advanced, new_tables, replay, replay_from}
use Rattle.zr_router.specs.Former.{brings_former, was_used, was_used_from}

or_behind : (a b c : Bool) → (a || (b || c)) ≡ ((a || b) || c)
or_behind true b c = refl
or_behind false b c = refl

pub or_first : (a b : Bool) → a ≡ true → a ≡ (a || b)
or_first true b is = refl
or_first false b is = cc is

pub or_second : (a b : Bool) → a ≡ false → b ≡ (a || b)
or_second true b is = cc is
or_second false b is = refl

used_snoc : (t : Tables) (h : List Entry) (e : Entry) → was_used_from t (h ++ e ∷ []) ≡ (was_used_from t h || brings_former (replay_from t h).hub.node e.event)
used_snoc t [] e = or-false (brings_former t.hub.node e.event)
used_snoc t (x ∷ h) e =
    ap (λ b. brings_former t.hub.node x.event || b) (used_snoc (advanced t x) h e)
    ∙ or_behind (brings_former t.hub.node x.event) (was_used_from (advanced t x) h) (brings_former (replay_from (advanced t x) h).hub.node e.event)

-- what is known then, where it is known what the entry's event brings
pub used_more : (me : List ℕ) (h more : List Entry) (event : Event) (e : Entry) (used is : Bool) → used ≡ was_used me h → is ≡ brings_former (replay me h).hub.node event
    → e.event ≡ event → more ≡ h ++ e ∷ [] → (used || is) ≡ was_used me more
used_more me h more event e used is was brings of same =
    ap (λ b. b || is) was
    ∙ ap (λ b. was_used me h || b) (brings ∙ ap (λ v. brings_former (replay me h).hub.node v) (sym of))
    ∙ sym (used_snoc (new_tables me) h e)
    ∙ ap (λ l. was_used me l) (sym same)
