-- What a client wants to be told of what others have declared (Zenoh protocol 1.0, "INTEREST").
use Rattle.std.specs.Prelude.{◌&&◌, Bool, true, List, [], map, filter, Option, Some, None, unwrap_or, if◌then◌else◌}
use Rattle.std.specs.List.{list_any, fold, flat_map}
use Rattle.std.specs.Option.{option_map_or}
use Rattle.std.specs.BTreeMap.{insert_entry}
use Rattle.zr_match.specs.Table.{texts_meet}
use Rattle.zr_msg.specs.declared.decl.Decl.{Decl}
use Rattle.zr_msg.specs.declared.msg.Kinds.{Kinds}
use Rattle.zr_msg.specs.Kinds.{in_subs, in_ables, in_tokens}
use Rattle.zr_node_spec.specs.Queries.{is_complete}
use Rattle.zr_told_spec.specs.Place.{place_cmp, same, place_of}
use Rattle.zr_local.specs.declared.interest.Interest.{Interest}
use Rattle.zr_told_spec.specs.declared.place.Class.{Class}
use Rattle.zr_told_spec.specs.declared.place.Class.TheVariants.{Subscriber, Queryable, Living}
use Rattle.zr_told_spec.specs.declared.place.Place.{Place}

-- ---- one interest

-- an interest is in subscribers, in queryables, or in tokens
abbrev pub asks : Kinds → Class → Bool
asks kinds Subscriber = in_subs kinds
asks kinds Queryable = in_ables kinds
asks kinds Living = in_tokens kinds

-- an interest is in what is declared at a place: it is in that class, and its key meets the expression or it has none
abbrev pub fits : Interest → Place → Bool
fits i p = asks i.kinds p.class && option_map_or (λ k. texts_meet p.key k) i.key true

-- where it is told of that: there, or of all together under its own key
abbrev pub told_as : Interest → Place → Place
told_as i p = record { class = p.class; key = if i.aggregate then unwrap_or i.key p.key else p.key }

-- ---- what is wanted of some declarations

-- an interest wants to be told of a place: it is told there of one of the declarations
abbrev pub asked : List Decl → Interest → Place → Bool
asked ds i p = list_any (λ d. fits i (place_of d) && same p (told_as i (place_of d))) ds

-- one of several interests does
abbrev pub wants : List Decl → List Interest → Place → Bool
wants ds is p = list_any (λ i. asked ds i p) is

-- one of the declarations is of a complete queryable at that very place
abbrev pub is_complete_at : List Decl → Place → Bool
is_complete_at ds p = list_any (λ d. same p (place_of d) && is_complete d.kind) ds

-- what is wanted at a place: nothing, or to be told of it, as complete or not
abbrev pub want : List Decl → List Interest → Place → Option Bool
want ds is p = if wants ds is p then Some (is_complete_at ds p) else None

-- ---- the same as a list: each place that is wanted once, in ascending order, and whether it is complete

abbrev pub Wanted : Type 0
Wanted = List (Place × Bool)

-- of which places one interest is told
abbrev pub places_of : List Decl → Interest → List Place
places_of ds i = map (λ d. told_as i (place_of d)) (filter (λ d. fits i (place_of d)) ds)

abbrev pub put_wanted : List Decl → Wanted → Place → Wanted
put_wanted ds w p = insert_entry place_cmp w p (is_complete_at ds p)

abbrev pub wanted : List Decl → List Interest → Wanted
wanted ds is = fold (put_wanted ds) [] (flat_map (λ i. places_of ds i) is)
