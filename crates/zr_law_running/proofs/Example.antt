-- The small run is one (`example_is_a_run`).
use Rattle.std.proofs.Common.{◌≡◌, ℕ, Bool, true, false, cond, List, [], ◌∷◌, ◌++◌, Some, None, inr, refl, sym, subst}
use Rattle.std.specs.List.{fold}
use Rattle.std.proofs.lemmas.Bool.{false≢true}
use Rattle.zr_id.specs.Zid.{is_named}
use Rattle.zr_match.specs.Table.{texts_meet}
use Rattle.zr_msg.specs.declared.event.Event.{Event}
use Rattle.zr_msg.specs.declared.event.Event.TheVariants.{From}
use Rattle.zr_msg.specs.declared.msg.Msg.TheVariants.{Push}
use Rattle.zr_msg.specs.declared.peer.LinkPeer.{LinkPeer}
use Rattle.zr_msg.specs.declared.peer.Role.{Role}
use Rattle.zr_msg.specs.declared.peer.Role.TheVariants as role
use Rattle.zr_told_spec.specs.Hub.{HubState, new_hub, hub_after}
use Rattle.zr_world_spec.specs.World.{new_client}
use Rattle.zr_world_spec.proofs.Names.{same_name}
use Rattle.zr_law_names.specs.Alike.{IsAs, AreAs}
use Rattle.zr_law_running.specs.Runs.{Heard, part, hub_by, behind_first, outcome_of}
use Rattle.zr_law_running.specs.Allowed.{AreRouters, IsRun}
use Rattle.zr_law_running.specs.Laws.{AreHeardIn}
use Rattle.zr_law_running.specs.Example.{one, two, publisher, subscriber, sample, linked, subscribed, published, ids, example, ExampleIsARun}

routers : AreRouters ids
routers = record { apart = (refl, (refl, tt)); few = refl }

at : ℕ → List ℕ → Role → LinkPeer
at number id role = record { link = record { 0 = number }; peer = record { id = id; role = role; weight = 1 } }

runs : IsRun ids example
unfolding at
runs = (
  record {
    known = refl;
    taken = refl;
    fits = record {
      number = refl;
      once = refl;
      brings = record { router = refl; other = refl; weight = λ whole. absurd (false≢true whole); anew = λ whole. refl; room = λ whole. refl };
    };
  },
  (
    record {
      known = refl;
      taken = refl;
      fits = record {
        number = refl;
        once = refl;
        brings = record { router = refl; other = refl; weight = λ whole. refl; anew = λ whole. absurd (false≢true (sym whole)); room = λ whole. absurd (false≢true (sym whole)) };
      };
    },
    (
      record {
        known = refl;
        taken = refl;
        fits = record {
          at = at 0 two role.Router;
          is = refl;
          brings = record { rest = behind_first ((outcome_of linked).links (two, one)).waits; is = refl; whole = refl; up = refl };
        };
      },
      (
        record { known = refl; taken = refl; fits = record { number = refl; once = refl; brings = record { new = refl; apart = refl; weight = refl; room = refl } } },
        (
          record { known = refl; taken = refl; fits = record { number = refl; once = refl; brings = record { new = refl; apart = refl; weight = refl; room = refl } } },
          (
            record { known = refl; taken = refl; fits = record { at = at 2 subscriber role.Client; is = refl; brings = record { client = new_client two; is = refl; may = refl; room = refl } } },
            (
              record { known = refl; taken = refl; fits = record { at = at 1 publisher role.Client; is = refl; brings = record { client = new_client two; is = refl; may = refl; room = refl } } },
              tt,
            ),
          ),
        ),
      ),
    ),
  ),
)

-- ---- where a tree is named

-- two runs that differ in their last event alone
differ_last : (before : List Heard) (y : List ℕ) (event other : Event) (x : List ℕ) (h : HubState) →
    (is_named y x ≡ true → IsAs (fold hub_after h (part before x)) event (fold hub_after h (part before x)) other) →
    AreAs h (part (before ++ record { router = y; event = event } ∷ []) x) (part (before ++ record { router = y; event = other } ∷ []) x)
differ_last [] y event other x h fits = by (is_named y x) fits
  where
    by : (b : Bool) → (b ≡ true → IsAs h event h other) → AreAs h (cond b (event ∷ []) []) (cond b (other ∷ []) [])
    by true fits = inr (other, [], refl, fits refl, refl)
    by false fits = refl
differ_last (z ∷ before) y event other x h fits = by (is_named z.router x) fits (λ g. differ_last before y event other x g)
  where
    seen : List Event
    seen = part (before ++ record { router = y; event = event } ∷ []) x

    others : List Event
    others = part (before ++ record { router = y; event = other } ∷ []) x

    by : (b : Bool) → (is_named y x ≡ true → IsAs (fold hub_after h (cond b (z.event ∷ part before x) (part before x))) event (fold hub_after h (cond b (z.event ∷ part before x) (part before x))) other) →
        ((g : HubState) → (is_named y x ≡ true → IsAs (fold hub_after g (part before x)) event (fold hub_after g (part before x)) other) → AreAs g seen others) →
        AreAs h (cond b (z.event ∷ seen) seen) (cond b (z.event ∷ others) others)
    by true fits ih = inr (z.event, others, refl, refl, ih (hub_after h z.event) fits)
    by false fits ih = ih h fits

heard_in : AreHeardIn ids (part (published (Some one))) example
heard_in x i = differ_last subscribed two named none x (new_hub x) (λ is. subst (λ z. IsAs (hub_by z (part subscribed z)) named (hub_by z (part subscribed z)) none) (same_name two x is) refl)
  where
    named : Event
    named = From (record { 0 = 1 }) (Push (Some one) sample)

    none : Event
    none = From (record { 0 = 1 }) (Push None sample)

pub example_is_a_run : ExampleIsARun
unfolding texts_meet
example_is_a_run = (routers, runs, refl, heard_in)
