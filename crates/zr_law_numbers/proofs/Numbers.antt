-- Numbers hold in a world without anything (`numbers_first`), each act that is not refused keeps that (`numbers_kept`), and so does the counting of a
-- run's steps (`numbers_counted`); so they hold at each moment to which acts lead.
use Rattle.std.proofs.Common.{◌≡◌, ℕ, Bool, true, false, List, [], Option, Some, None, Ok, Err, is_some, refl, ap}
use Rattle.std.specs.Prelude.{IfOk, IfSome}
use Rattle.std.proofs.lemmas.Bool.{false≢true}
use Rattle.zr_script_spec.specs.declared.command.Act.{Act}
use Rattle.zr_world_spec.specs.World.{WorldState, empty_world, with_booked}
use Rattle.zr_world_spec.specs.Acts.{Outcome, outcome}
use Rattle.zr_world_spec.specs.Moments.{Numbered, Moment, went, reached}
use Rattle.zr_world_spec.proofs.Lines.{at_some}
use Rattle.zr_law_settled.proofs.Moments.{at_moments}
use Rattle.zr_law_settled.proofs.Goes.{Goes, goes_first, act_goes}
use Rattle.zr_law_queries.specs.Link.{Hop, Free, Shows}
use Rattle.zr_law_numbers.specs.Waiting.{Asked, Said, Place, link_of, is_whole}
use Rattle.zr_law_numbers.specs.Numbers.{NumbersHold, NumbersAlwaysHold}
use Rattle.zr_law_numbers.proofs.Going.{NumbersGo, act_numbers}

abbrev pub Hops : Type 0
Hops = List ℕ → List ℕ → ℕ → Hop Asked Place Said

-- ---- hops

-- the hops of links that are unbroken; under the numbers of others there is nothing
module _ (w : WorldState) (h : NumbersGo w) where
  hops_by : (x y : List ℕ) (b : Bool) → is_whole w x y ≡ b → ℕ → Hop Asked Place Said
  hops_by x y true e = (h.shown x y e).0
  hops_by x y false e = λ n. Free

  shows_by : (x y : List ℕ) (b : Bool) (e : is_whole w x y ≡ b) → b ≡ true → Shows (link_of w x y) (hops_by x y b e)
  unfolding hops_by
  shows_by x y true e t = (h.shown x y e).1
  shows_by x y false e t = absurd (false≢true t)

  numbers_hold : (hops : Hops) × NumbersHold hops w
  numbers_hold = (
    (λ x y. hops_by x y (is_whole w x y) refl),
    record {
      links = λ x y whole. shows_by x y (is_whole w x y) refl whole;
      tables = h.nodes;
      queries = λ c s found. (h.clients c s found).queries;
      requests = λ c s found. (h.clients c s found).requests;
    },
  )

numbers_go : (hops : Hops) (w : WorldState) → NumbersHold hops w → NumbersGo w
numbers_go hops w h = record {
  shown = λ x y whole. (hops x y, h.links x y whole);
  nodes = h.tables;
  clients = λ c s found. record { queries = h.queries c s found; requests = h.requests c s found };
}

-- ---- each act keeps them

pub numbers_first : (hops : Hops) × NumbersHold hops empty_world
numbers_first = (
  (λ x y n. Free),
  record {
    links = λ x y whole. absurd (false≢true whole);
    tables = λ x r found. absurd (false≢true (ap is_some found));
    queries = λ c s found. absurd (false≢true (ap is_some found));
    requests = λ c s found. absurd (false≢true (ap is_some found));
  },
)

-- all that holds of a world, and of its numbers
abbrev pub AllGo : Moment → Type 0
AllGo m = Goes m.world × ((hops : Hops) × NumbersHold hops m.world)

pub all_go : (now : Moment) (n : ℕ) (act : Act) → AllGo now → IfSome (went now (outcome now.world n act)) AllGo
all_go now n act h = by (went now (outcome now.world n act)) (act_goes now n act h.0) (act_numbers now h.0 (numbers_go h.1.0 now.world h.1.1) n act)
  where
    by : (o : Option Moment) → IfSome o (λ next. Goes next.world) → IfSome o (λ next. Goes next.world → NumbersGo next.world) → IfSome o AllGo
    by None goes numbers = tt
    by (Some next) goes numbers = (goes, numbers_hold next.world (numbers goes))

pub numbers_kept : (w : WorldState) (line : ℕ) (act : Act) (hops : Hops) → Goes w → NumbersHold hops w → IfOk (outcome w line act) (λ x. (more : Hops) × NumbersHold more x.1)
numbers_kept w line act hops g h = by (outcome w line act) (all_go now line act (g, (hops, h)))
  where
    now : Moment
    now = record { world = w; report = [] }

    by : (o : Outcome) → IfSome (went now o) AllGo → IfOk o (λ x. (more : Hops) × NumbersHold more x.1)
    by (Err e) k = tt
    by (Ok x) k = k.1

-- steps that a run asks for are of no matter
pub numbers_counted : (w : WorldState) (booked : ℕ) (hops : Hops) → NumbersHold hops w → NumbersHold hops (with_booked w booked)
numbers_counted w booked hops h = record { links = h.links; tables = h.tables; queries = h.queries; requests = h.requests }

-- ---- all moments

pub all_go_at : (acts : List Numbered) → IfSome (reached acts) AllGo
all_go_at acts = at_moments AllGo all_go (goes_first, numbers_first) acts

pub numbers_always_hold : NumbersAlwaysHold
numbers_always_hold acts m is = (at_some AllGo (reached acts) m is (all_go_at acts)).1
