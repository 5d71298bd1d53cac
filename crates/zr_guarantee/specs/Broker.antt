-- The one broker: what each client is to have of each other's samples and queries, as one broker that all clients are attached to sends them.
-- The lines of the script alone say it: no router, table or message is known here.
use Rattle.std.specs.Prelude.{ℕ, ◌==◌, ◌&&◌, ◌||◌, not, Bool, false, if◌then◌else◌, List, [], ◌∷◌, ◌++◌, filter, Option, Some, None, is_some}
use Rattle.std.specs.List.{list_any, flat_map, fold}
use Rattle.std.specs.Option.{option_map_or}
use Rattle.zr_id.specs.Zid.{is_named}
use Rattle.zr_match.specs.Table.{texts_meet, texts_cover}
use Rattle.zr_msg.specs.declared.decl.Decl.{Decl}
use Rattle.zr_msg.specs.declared.msg.Target.{Target}
use Rattle.zr_msg.specs.declared.msg.Target.TheVariants.{Best, All, Complete}
use Rattle.zr_node_spec.specs.Queries.{is_complete}
use Rattle.zr_told_spec.specs.Place.{class_rank}
use Rattle.zr_told_spec.specs.declared.place.Class.{Class}
use Rattle.zr_told_spec.specs.declared.place.Class.TheVariants.{Subscriber, Queryable}
use Rattle.zr_script_spec.specs.declared.command.Act.{Act}
use Rattle.zr_world_spec.specs.Moments.{Numbered}
use Rattle.zr_guarantee.specs.Item.{Item, Carried, Sample, Query}
use Rattle.zr_guarantee.specs.Meaning.{meaning}
pub use Rattle.zr_guarantee.specs.Meaning.{Publication}

-- ---- who is attached

-- whether a client is attached, once one more act was done: it is from its line on until its link is broken
abbrev pub attached_by : List ℕ → Bool → Act → Bool
attached_by name so_far act =
    option_map_or (λ x. so_far && not (is_named name x)) (meaning act).broken (option_map_or (λ x. so_far || is_named name x.0) (meaning act).client so_far)

-- whether a client is attached
abbrev pub is_attached : List Numbered → List ℕ → Bool
is_attached acts name = fold (λ so_far x. attached_by name so_far x.1) false acts

-- ---- what a client has declared

-- what stands under an id
pub record Standing : Type 0 where
  pub id : ℕ
  pub decl : Decl

-- what is declared is the last that stands, and what is taken back stands no more
abbrev pub stands_then : List Standing → ℕ → Option Decl → List Standing
stands_then so_far id (Some decl) = so_far ++ record { id = id; decl = decl } ∷ []
stands_then so_far id None = filter (λ s. not (s.id == id)) so_far

-- what a client has declared of a class, subscribers, queryables or tokens, once one more act was done
abbrev pub standing_by : List ℕ → Class → List Standing → Act → List Standing
standing_by name class so_far act =
    option_map_or (λ d. if is_named name d.client && class_rank d.class == class_rank class then stands_then so_far d.id d.decl else so_far) (meaning act).declares so_far

-- what a client has declared of a class
abbrev pub standing : List Numbered → List ℕ → Class → List Standing
standing acts name class = fold (λ so_far x. standing_by name class so_far x.1) [] acts

-- whether a subscription asks for the samples on a key: its expression meets the key, which is that some key is matched by both
abbrev pub asks_for : List ℕ → Decl → Bool
asks_for key subscription = texts_meet subscription.key key

-- whether a queryable can answer a query on a key: its expression meets the key; where complete ones are asked, it is complete and covers the key
abbrev pub can_answer : Target → List ℕ → Decl → Bool
can_answer Best key queryable = texts_meet queryable.key key
can_answer All key queryable = texts_meet queryable.key key
can_answer Complete key queryable = is_complete queryable.kind && texts_cover queryable.key key

-- whether a client has declared that it takes a sample, or that it can answer a query
abbrev pub takes : List Numbered → List ℕ → Carried → Bool
takes acts name (Sample content) = list_any (λ s. asks_for content.key s.decl) (standing acts name Subscriber)
takes acts name (Query target content) = list_any (λ s. can_answer target content.key s.decl) (standing acts name Queryable)

-- whether a sample or a query of a publisher is for a receiver: another client, attached, that takes it
abbrev pub is_for : List Numbered → List ℕ → List ℕ → Carried → Bool
is_for acts publisher receiver carried = not (is_named publisher receiver) && (is_attached acts receiver && takes acts receiver carried)

-- ---- what is published

-- what an act publishes, if it publishes a sample or asks a query
abbrev pub publication : Act → Option Publication
publication act = (meaning act).publishes

-- whether an act publishes
abbrev pub publishes : Act → Bool
publishes act = is_some (publication act)

-- whether an act publishes, and its client is the publisher
abbrev pub is_publisher : List ℕ → Act → Bool
is_publisher publisher act = option_map_or (λ p. is_named publisher p.client) (publication act) false

-- whether a line of the phase is a sample or a query of the publisher
abbrev pub is_line_of : List Numbered → List ℕ → ℕ → Bool
is_line_of phase publisher line = list_any (λ x. x.0 == line && is_publisher publisher x.1) phase

-- whether a line of the phase is a sample or a query
abbrev pub is_line : List Numbered → ℕ → Bool
is_line phase line = list_any (λ x. x.0 == line && publishes x.1) phase

-- ---- what is to be had

-- the sample or the query of a line, if it has one that is the publisher's and that the receiver is to have
abbrev pub item_for : List Numbered → List ℕ → List ℕ → ℕ → Option Publication → List Item
item_for before publisher receiver line None = []
item_for before publisher receiver line (Some p) =
    if is_named publisher p.client && is_for before publisher receiver p.carried then record { line = line; carried = p.carried } ∷ [] else []

-- what the receiver is to have of the publisher's lines in a phase so far, in their order;
-- who is attached and who has declared what stands in the lines before the phase
abbrev pub from : List Numbered → List Numbered → List ℕ → List ℕ → List Item
from before phase publisher receiver = flat_map (λ x. item_for before publisher receiver x.0 (publication x.1)) phase
