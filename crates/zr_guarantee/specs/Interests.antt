-- What clients are to be told: of what all others have declared, what each client's interests want. The lines of the script say what is declared and
-- wanted, and the report says what each client was told: no router or table is known here.
use Rattle.std.specs.Prelude.{◌≡◌, ℕ, ◌==◌, ◌&&◌, not, Bool, true, if◌then◌else◌, List, [], ◌∷◌, ◌++◌, map, filter, Option, Some, None}
use Rattle.std.specs.List.{flat_map, fold}
use Rattle.std.specs.Option.{option_and_then, option_map_or}
use Rattle.zr_id.specs.Zid.{is_named}
use Rattle.zr_msg.specs.declared.decl.Decl.{Decl}
use Rattle.zr_local.specs.declared.interest.Interest.{Interest}
use Rattle.zr_told_spec.specs.declared.place.Class.TheVariants.{Subscriber, Queryable, Living}
use Rattle.zr_told_spec.specs.declared.place.Place.{Place}
use Rattle.zr_told_spec.specs.Place.{class_rank, token_on}
use Rattle.zr_told_spec.specs.Wanted.{want}
use Rattle.zr_told_spec.specs.Told.{Heard, heard}
use Rattle.zr_script_spec.specs.declared.command.Act.{Act}
use Rattle.zr_script_spec.specs.declared.report.ReportLine.{ReportLine}
use Rattle.zr_world_spec.specs.World.{WorldState, is_settled, is_quiet}
use Rattle.zr_world_spec.specs.Joined.{is_joined}
use Rattle.zr_world_spec.specs.Moments.{Numbered, Moment, reached}
use Rattle.zr_guarantee.specs.Names.{clients}
use Rattle.zr_guarantee.specs.Meaning.{meaning}
use Rattle.zr_guarantee.specs.Broker.{is_attached, standing}
use Rattle.zr_guarantee.specs.Sent.{told_to}

-- ---- what a client wants

-- a new interest is the last of them, and one that is ended is none any more
abbrev pub wanted_then : List Interest → ℕ → Option Interest → List Interest
wanted_then so_far id (Some interest) = so_far ++ interest ∷ []
wanted_then so_far id None = filter (λ i. not (i.id == id)) so_far

-- the interests of a client, once one more act was done: those of its lines in what is declared later, less those that its lines ended
abbrev pub wanted_by : List ℕ → List Interest → Act → List Interest
wanted_by name so_far act = option_map_or (λ x. if is_named name x.client then wanted_then so_far x.id x.interest else so_far) (meaning act).wants so_far

-- the interests of a client
abbrev pub interests : List Numbered → List ℕ → List Interest
interests acts name = fold (λ so_far x. wanted_by name so_far x.1) [] acts

-- ---- what others have declared

-- what a client has declared: subscriptions, queryables and tokens
abbrev pub declared : List Numbered → List ℕ → List Decl
declared acts name = map (λ s. s.decl) (standing acts name Subscriber ++ standing acts name Queryable ++ standing acts name Living)

-- all other clients that are attached
abbrev pub other_clients : List Numbered → List ℕ → List (List ℕ)
other_clients acts name = filter (λ c. not (is_named name c) && is_attached acts c) (clients acts)

-- what all other attached clients have declared
abbrev pub declared_by_others : List Numbered → List ℕ → List Decl
declared_by_others acts name = flat_map (λ c. declared acts c) (other_clients acts name)

-- the tokens that live: the keys of those that all other clients have declared whose links aren't broken
abbrev pub living : List Numbered → List ℕ → List (List ℕ)
living acts name = flat_map (λ c. map (λ s. s.decl.key) (standing acts c Living)) (other_clients acts name)

-- ---- what a client was told

-- what the messages leave that a client was sent: under each number of which it was told, and not since that it is gone, what was told there
abbrev pub told_so_far : List ReportLine → List ℕ → Heard
told_so_far report name = heard (map (λ x. x.msg) (told_to report name))

-- what of that is told of tokens
abbrev pub if_token : Place × Bool → Option (Place × Bool)
if_token told = if class_rank told.0.class == class_rank Living then Some told else None

abbrev pub tokens_told : Heard → Heard
tokens_told told n = option_and_then if_token (told n)

-- What is told is just what is wanted, and as complete where that is so.
pub record TellsWanted (wanted : Place → Option Bool) (told : Heard) : Type 0 where
  -- all that is told is wanted
  pub sound : (n : ℕ) (p : Place) (complete : Bool) → told n ≡ Some (p, complete) → wanted p ≡ Some complete
  -- all that is wanted is told
  pub whole : (p : Place) (complete : Bool) → wanted p ≡ Some complete → (n : ℕ) × (told n ≡ Some (p, complete))
  -- under one number
  pub once : (n k : ℕ) (p : Place) (b c : Bool) → told n ≡ Some (p, b) → told k ≡ Some (p, c) → n ≡ k

-- each attached client was told just what its interests want of what all others have declared
abbrev pub AreTold : List Numbered → Moment → Type 0
AreTold acts m = (name : List ℕ) → is_attached acts name ≡ true → TellsWanted (want (declared_by_others acts name) (interests acts name)) (told_so_far m.report name)

-- each attached client was told of just the tokens that its interests want of those that live
abbrev pub TokensAreToldAt : List Numbered → Moment → Type 0
TokensAreToldAt acts m = (name : List ℕ) → is_attached acts name ≡ true → TellsWanted (want (map token_on (living acts name)) (interests acts name)) (tokens_told (told_so_far m.report name))

-- ---- the laws

-- a network is at rest where it is settled and its routers are joined, and nothing is under way
abbrev pub is_at_rest : WorldState → Bool
is_at_rest w = is_settled w && (is_joined w && is_quiet w)

-- at each moment at which the network is at rest all clients were told what they want
abbrev pub ClientsAreTold : Type 0
ClientsAreTold = (acts : List Numbered) (m : Moment) → reached acts ≡ Some m → is_at_rest m.world ≡ true → AreTold acts m

-- and of tokens just those that they want of the living ones
abbrev pub TokensAreTold : Type 0
TokensAreTold = (acts : List Numbered) (m : Moment) → reached acts ≡ Some m → is_at_rest m.world ≡ true → TokensAreToldAt acts m
