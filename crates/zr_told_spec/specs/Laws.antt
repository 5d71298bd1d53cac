-- What follows of what clients are told, for the proofs above.
use Rattle.std.specs.Prelude.{◌≡◌, ℕ, ◌+◌, ◌*◌, ◌≤◌, length, Bool, true, false, List, [], ◌∷◌, ◌++◌, Some, None}
use Rattle.std.specs.List.{fold, AllByRecursion}
use Rattle.std.specs.Map.{lookup}
use Rattle.zr_msg.specs.declared.decl.Decl.{Decl}
use Rattle.zr_key.specs.Key.{IsKeyText}
use Rattle.zr_id.specs.declared.link.LinkNo.{LinkNo}
use Rattle.zr_msg.specs.declared.event.Event.{Event}
use Rattle.zr_msg.specs.declared.msg.Msg.{Msg}
use Rattle.zr_local.specs.Clients.{AreByLink, interests_on, noted}
use Rattle.zr_local.specs.declared.interest.ClientInterests.{ClientInterests}
use Rattle.zr_node_spec.specs.Tables.{TableState, link_at, leads_to_client}
use Rattle.zr_node_spec.specs.Event.{on_link}
use Rattle.zr_node_spec.specs.State.{tables}
use Rattle.zr_node_spec.specs.Table.{after, live}
use Rattle.zr_told_spec.specs.Hub.{HubState, hub_after, hub_sends}
use Rattle.zr_told_spec.specs.Place.{same, Ascends}
use Rattle.zr_told_spec.specs.Wanted.{want, wanted}
use Rattle.zr_told_spec.specs.Told.{ToldMap, at, gone, kept, undeclared, declared, Heard, hear, heard}
use Rattle.zr_told_spec.specs.Rows.{Maps, map_on, AreListed, IsAsWanted, IsAsWantedBut, IsNoted, IsSameBut, IsAdded, others, tells_all, tells_on, tells_changes, told_changes, answered, closing, tells_interest, told_interest}
use Rattle.zr_told_spec.specs.declared.entry.Entry.{Entry}
use Rattle.zr_local.specs.declared.interest.Interest.{Interest}
use Rattle.zr_told_spec.specs.declared.place.Place.{Place}

-- the list of what is wanted gives what is wanted at each place, and ascends
abbrev pub WantedIsListed : Type 0
WantedIsListed = (ds : List Decl) (is : List Interest) → Ascends (wanted ds is) × ((p : Place) → lookup (same p) (wanted ds is) ≡ want ds is p)

-- of what a client was told, by place, is what the messages on its link leave, by number
pub record Agrees (m : ToldMap) (t : Heard) : Type 0 where
  pub to : (p : Place) (e : Entry) → at m p ≡ Some e → t e.id ≡ Some (p, e.complete)
  pub from : (n : ℕ) (p : Place) (b : Bool) → t n ≡ Some (p, b) → at m p ≡ Some (record { id = n; complete = b })
  pub zero_free : t 0 ≡ None

-- a client that was told nothing has heard nothing: so it is before the first event on its link
abbrev pub StartAgrees : Type 0
StartAgrees = Agrees [] (heard [])

-- messages are heard one after another
abbrev pub HeardOn : Type 0
HeardOn = (xs ys : List Msg) → heard (xs ++ ys) ≡ fold hear (heard xs) ys

-- each event keeps that: what declarations changed, and what the client's own interest is told
abbrev pub ChangesKeep : Type 0
ChangesKeep = (ds : List Decl) (is : List Interest) (m : ToldMap) (t : Heard) → Agrees m t → Agrees (told_changes ds is m) (fold hear t (tells_changes ds is m))

abbrev pub InterestsKeep : Type 0
InterestsKeep = (current future : Bool) (ds : List Decl) (is : List Interest) (i : Interest) (m : ToldMap) (t : Heard) → Agrees m t →
    Agrees (told_interest future ds is i m) (fold hear t (tells_interest current future ds is i m))

-- after each event a client was told of what is wanted, whatever it was told before
abbrev pub ToldIsWanted : Type 0
ToldIsWanted = (future : Bool) (ds : List Decl) (is : List Interest) (i : Interest) (m : ToldMap) →
    IsAsWanted ds is (told_changes ds is m) × IsAsWanted ds is (told_interest future ds is i m)

-- where a client was told of what is wanted, it is told nothing, and nothing changes
abbrev pub NothingIsTold : Type 0
NothingIsTold = (ds : List Decl) (is : List Interest) (m : ToldMap) → IsAsWanted ds is m → (tells_changes ds is m ≡ []) × (told_changes ds is m ≡ m)

-- where a client was told of what is wanted, and others then declare something else at some places alone, it was told of what is wanted where none of
-- them touches
abbrev pub ChangesTouch : Type 0
ChangesTouch = (qs : List Place) (before ds : List Decl) (is : List Interest) (m : ToldMap) → AllByRecursion (λ q. IsKeyText q.key) qs →
    IsSameBut qs before ds → IsAsWanted before is m → IsAsWantedBut qs ds is m

-- where a client was told of what is wanted, an interest in what is declared later is told what it wants, and nothing else
abbrev pub ItsOwnIsTold : Type 0
ItsOwnIsTold = (current : Bool) (ds : List Decl) (before is : List Interest) (i : Interest) (m : ToldMap) → IsAdded i before is → IsAsWanted ds before m →
    tells_interest current true ds is i m ≡ (undeclared m (gone (wanted ds is) m) ++ declared (answered current i) (kept (wanted ds is) m) (wanted ds (i ∷ []))) ++ closing current true ds i

-- a client without interests that was told of what is wanted was told of nothing
abbrev pub NothingWithout : Type 0
NothingWithout = (ds : List Decl) (m : ToldMap) → IsAsWanted ds [] m → m ≡ []

-- each wanted place is that of a declaration, or one of three under the key of an interest: so no more are wanted
abbrev pub FewAreWanted : Type 0
FewAreWanted = (ds : List Decl) (is : List Interest) → length (wanted ds is) ≤ length ds + 3 * length is

-- what all clients are told is, on the link of each, what its client is told
abbrev pub TellsEach : Type 0
TellsEach = (t : TableState) (cs : List ClientInterests) (maps : Maps) → AreByLink cs → AreListed cs maps → (to : LinkNo) → on_link to (tells_all t cs maps) ≡ tells_on t cs maps to.0

-- a client's interest has been noted once its live interests are those that it leaves
abbrev pub NotedIsLive : Type 0
NotedIsLive = (cs : List ClientInterests) (link : LinkNo) (future : Bool) (i : Interest) → IsNoted future i (interests_on (noted cs link i.id (live future i)) link.0)

-- ---- a router with its clients

-- after each event, of what the client of a link was told is what the messages on its link leave
abbrev pub HubKeeps : Type 0
HubKeeps = (h : HubState) (event : Event) (k : ℕ) (t : Heard) → leads_to_client (after h.node event).links k ≡ true → Agrees (map_on h.told k) t →
    Agrees (map_on (hub_after h event).told k) (fold hear t (hub_sends h event (record { 0 = k })))

-- and it was told of what is wanted
abbrev pub HubIsAsWanted : Type 0
HubIsAsWanted = (h : HubState) (event : Event) (k : ℕ) → leads_to_client (after h.node event).links k ≡ true →
    IsAsWanted (others (tables (after h.node event)) k) (interests_on (after h.node event).clients k) (map_on (hub_after h event).told k)

-- where a link leads to no client any more, nothing is kept of what was told on it; of a router's links each is the one of its number
abbrev pub HubForgets : Type 0
HubForgets = (h : HubState) (event : Event) (k : ℕ) → AllByRecursion (λ l. link_at (after h.node event).links l.link.0 ≡ Some l) (after h.node event).links →
    leads_to_client (after h.node event).links k ≡ false → map_on (hub_after h event).told k ≡ []
