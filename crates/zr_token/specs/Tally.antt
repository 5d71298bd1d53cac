-- Liveliness tokens, each with its owner, and which of them are alive for a client (Zenoh protocol 1.0, "DECLARE" and "INTEREST").
use Rattle.std.specs.Prelude.{ℕ, ◌==◌, ◌&&◌, not, Bool, true, false, List, [], ◌∷◌, ◌++◌, map, filter, Option}
use Rattle.std.specs.BTreeSet.{insert_key}
use Rattle.std.specs.Cmp.Lexicographic.{slice_cmp}
use Rattle.std.specs.List.{fold, list_any}
use Rattle.std.specs.Option.{option_map_or}
use Rattle.std.specs.Ordering.{is_eq, nat_cmp}
use Rattle.std.specs.Set.{remove_key}
use Rattle.zr_id.specs.Zid.{is_named}
use Rattle.zr_match.specs.Table.{texts_meet}
use Rattle.zr_token.specs.declared.owner.Owner.{Owner}
use Rattle.zr_token.specs.declared.owner.Owner.TheVariants.{Client, Source}
use Rattle.zr_token.specs.declared.pair.Pair.{Pair}

-- the pairs of an owner and a key, each as often as it was added, and the routers that are reached
pub record TallyState : Type 0 where
  pub pairs : List Pair
  pub reached : List (List ℕ)

-- ---- pairs

-- the client of the same link, or the same router
abbrev pub is_owner : Owner → Owner → Bool
is_owner (Client a) (Client b) = a.0 == b.0
is_owner (Client a) (Source b) = false
is_owner (Source a) (Client b) = false
is_owner (Source a) (Source b) = is_named a b

-- two keys are one: their bytes compare as equal
abbrev pub is_key : List ℕ → List ℕ → Bool
is_key a b = is_eq (slice_cmp nat_cmp a b)

abbrev pub is_pair : Owner → List ℕ → Pair → Bool
is_pair owner key p = is_owner owner p.owner && is_key key p.key

-- a pair is there
abbrev pub has_pair : TallyState → Owner → List ℕ → Bool
has_pair t owner key = list_any (is_pair owner key) t.pairs

-- with a pair more
abbrev pub with_pair : TallyState → Owner → List ℕ → TallyState
with_pair t owner key = record t { pairs = t.pairs ++ record { owner = owner; key = key } ∷ [] }

-- with a pair less, if it is there: one copy of it goes
abbrev pub without_pair : TallyState → Owner → List ℕ → TallyState
without_pair t owner key = record t { pairs = remove_key (is_pair owner key) t.pairs }

-- ---- what is alive

-- a router is reached
abbrev pub reaches : TallyState → List ℕ → Bool
reaches t source = list_any (is_named source) t.reached

-- an owner counts for the client of a link: another client does, and a router that is reached
abbrev pub counts : TallyState → ℕ → Owner → Bool
counts t but (Client link) = not (link.0 == but)
counts t but (Source source) = reaches t source

-- a pair is alive for the client of a link: its owner counts, and its key meets the one that is asked for, if one is
abbrev pub is_alive : TallyState → ℕ → Option (List ℕ) → Pair → Bool
is_alive t but key p = counts t but p.owner && option_map_or (λ k. texts_meet p.key k) key true

-- the keys of some pairs: each once, by ascending bytes
abbrev pub keys_of : List Pair → List (List ℕ)
keys_of pairs = fold (insert_key (slice_cmp nat_cmp)) [] (map (λ p. p.key) pairs)

-- the keys that are alive for the client of a link
abbrev pub alive : TallyState → ℕ → Option (List ℕ) → List (List ℕ)
alive t but key = keys_of (filter (is_alive t but key) t.pairs)
