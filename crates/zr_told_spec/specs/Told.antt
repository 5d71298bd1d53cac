-- Of what a client was told, and what it is told next (Zenoh protocol 1.0, "DECLARE", in answer to "INTEREST").
use Rattle.std.specs.Prelude.{ℕ, ◌==◌, ◌&&◌, ◌||◌, not, Bool, true, false, List, [], ◌∷◌, ◌++◌, length, map, filter, Option, Some, None, is_some, if◌then◌else◌}
use Rattle.std.specs.List.{list_any, fold}
use Rattle.std.specs.Map.{lookup, keys_of}
use Rattle.std.specs.Option.{option_map_or}
use Rattle.std.specs.BTreeMap.{insert_entry}
use Rattle.zr_msg.specs.declared.msg.Msg.{Msg}
use Rattle.zr_msg.specs.declared.msg.Msg.TheVariants.{Sub, Unsub, Token, Untoken, Able, Unable, Interest, EndInterest, ToldSub, ToldAble, ToldUnsub, ToldToken, ToldUntoken, ToldUnable, ToldEnd, Push, Request, Response, Final, State, Step, Snap}
use Rattle.zr_pend_spec.specs.Pending.{first_free}
use Rattle.zr_told_spec.specs.Place.{place_cmp, same}
use Rattle.zr_told_spec.specs.Wanted.{Wanted}
use Rattle.zr_told_spec.specs.declared.entry.Entry.{Entry}
use Rattle.zr_told_spec.specs.declared.place.Class.{Class}
use Rattle.zr_told_spec.specs.declared.place.Class.TheVariants.{Subscriber, Queryable, Living}
use Rattle.zr_told_spec.specs.declared.place.Place.{Place}

-- ---- the told map of a client: of which places it was told, each under an id of its own, and whether as complete

abbrev pub ToldMap : Type 0
ToldMap = List (Place × Entry)

abbrev pub at : ToldMap → Place → Option Entry
at m p = lookup (same p) m

-- an id is in use
abbrev pub is_used : ToldMap → ℕ → Bool
is_used m n = list_any (λ e. e.1.id == n) m

-- the least id, from 1, that isn't in use; it is found after at most as many steps as ids are in use
abbrev pub free_id : ToldMap → ℕ
free_id m = first_free (λ n. is_used m n) (length m) 1

-- the id under which a client was told of a place, 0 where it wasn't
abbrev pub id_at : ToldMap → Place → ℕ
id_at m p = option_map_or (λ e. e.id) (at m p) 0

-- the id under which it is told next: its old one, or else the least free one
abbrev pub id_for : ToldMap → Place → ℕ
id_for m p = option_map_or (λ e. e.id) (at m p) (free_id m)

-- ---- messages

-- a client is told of a place, as complete or not, in answer to an interest or to none
abbrev pub declares : ℕ → Class → List ℕ → Bool → Option ℕ → Msg
declares id Subscriber key complete interest = ToldSub id key interest
declares id Queryable key complete interest = ToldAble id key complete interest
declares id Living key complete interest = ToldToken id key interest

-- it is told that nothing is declared there any more
abbrev pub undeclares : ℕ → Class → Msg
undeclares id Subscriber = ToldUnsub id
undeclares id Queryable = ToldUnable id
undeclares id Living = ToldUntoken id

-- ---- one event: what is wanted after it is compared with what was told

-- a place is wanted
abbrev pub is_in : Wanted → Place → Bool
is_in ws p = is_some (lookup (same p) ws)

-- a client was told of a place, and with this completeness
abbrev pub bool_same : Bool → Bool → Bool
bool_same true b = b
bool_same false b = not b

abbrev pub is_told : ToldMap → Place × Bool → Bool
is_told m w = option_map_or (λ e. bool_same e.complete w.1) (at m w.0) false

-- the told places that are wanted no more, and what is told without them
abbrev pub gone : Wanted → ToldMap → List Place
gone ws m = filter (λ p. not (is_in ws p)) (keys_of m)

abbrev pub kept : Wanted → ToldMap → ToldMap
kept ws m = filter (λ e. is_in ws e.0) m

-- what is wanted and wasn't told so, and what is to be told again
abbrev pub fresh : (Place → Bool) → Wanted → ToldMap → Wanted
fresh again ws m = filter (λ w. again w.0 || not (is_told m w)) ws

-- a client is told of a place: its entry has an id that was in use for it, or the least that isn't in use
abbrev pub entered : ToldMap → Place × Bool → ToldMap
entered m w = insert_entry place_cmp m w.0 (record { id = id_for m w.0; complete = w.1 })

-- the undeclarations, and the declarations, each under the id that it has once those before it are told
abbrev pub undeclared : ToldMap → List Place → List Msg
undeclared m ps = map (λ p. undeclares (id_at m p) p.class) ps

abbrev pub declared : Option ℕ → ToldMap → Wanted → List Msg
declared interest m [] = []
declared interest m (w ∷ ws) = declares (id_for m w.0) w.0.class w.0.key w.1 interest ∷ declared interest (entered m w) ws

-- what a client is told where this is wanted: first all undeclarations, then all declarations; no id that is freed is in use then
abbrev pub retell : (Place → Bool) → Option ℕ → Wanted → ToldMap → List Msg
retell again interest ws m = undeclared m (gone ws m) ++ declared interest (kept ws m) (fresh again ws (kept ws m))

-- of what it was told then
abbrev pub retold : (Place → Bool) → Wanted → ToldMap → ToldMap
retold again ws m = fold entered (kept ws m) (fresh again ws (kept ws m))

-- ---- what the told messages of a link leave: under each number a place, and whether it is complete

abbrev pub Heard : Type 0
Heard = ℕ → Option (Place × Bool)

abbrev pub with_number : Heard → ℕ → Place → Bool → Heard
with_number t n p complete k = if n == k && not (n == 0) then Some (p, complete) else t k

abbrev pub without_number : Heard → ℕ → Heard
without_number t n k = if n == k then None else t k

abbrev pub hear : Heard → Msg → Heard
hear t (ToldSub id key interest) = with_number t id (record { class = Subscriber; key = key }) false
hear t (ToldToken id key interest) = with_number t id (record { class = Living; key = key }) false
hear t (ToldAble id key complete interest) = with_number t id (record { class = Queryable; key = key }) complete
hear t (ToldUnsub id) = without_number t id
hear t (ToldUntoken id) = without_number t id
hear t (ToldUnable id) = without_number t id
hear t (ToldEnd interest) = t
hear t (Sub id key) = t
hear t (Unsub id) = t
hear t (Token id key) = t
hear t (Untoken id) = t
hear t (Able id key complete) = t
hear t (Unable id) = t
hear t (Interest id current future kinds key aggregate) = t
hear t (EndInterest id) = t
hear t (Push tree content) = t
hear t (Request tree id target content) = t
hear t (Response id content) = t
hear t (Final id extras) = t
hear t (State links) = t
hear t (Step source number added decl) = t
hear t (Snap source number decls) = t

-- from the first one on; what is told under number 0 leaves nothing
abbrev pub heard : List Msg → Heard
heard ms = fold hear (λ k. None) ms
