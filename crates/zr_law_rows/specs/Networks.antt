-- Scripts of several routers, and of links that come and go, worked out: what the definitions say of them.
use Rattle.std.specs.Prelude.{ℕ, List, [], ◌∷◌, ◌++◌, codes, Some, None}
use Rattle.zr_script_spec.specs.declared.error.ScriptError.TheVariants.{NotLinked, NothingThere, NotSettled, NotJoined}
use Rattle.zr_law_rows.specs.Rows.{ComesTo}

-- two routers whose link is up at both ends, and that have told each other of it
abbrev pub linked : List (List ℕ)
linked = codes "router 01" ∷ codes "router 02" ∷ codes "link 01 02" ∷ codes "up 01 02" ∷ codes "up 02 01" ∷ codes "run 100" ∷ []

-- what they tell: each its own record, which has the link
abbrev pub linked_told : List (List ℕ)
linked_told =
    codes "01 > 02: record 01 1 02 #4" ∷ codes "02 < 01: record 01 1 02 #4" ∷ codes "02 > 01: record 02 1 01 #5" ∷ codes "01 < 02: record 02 1 01 #5"
    ∷ codes "run 4 quiet" ∷ []

-- their network is settled and joined, and each has both records
abbrev pub RoutersTell : Type 0
RoutersTell = ComesTo (linked ++ codes "mark" ∷ codes "show 02" ∷ [])
    (linked_told ++ codes "mark #7" ∷ codes "show 02" ∷ codes "record 01 1 02" ∷ codes "record 02 1 01" ∷ codes "parent 01 01" ∷ [])
    8 None

-- a record that is new goes on to the routers behind
abbrev pub RecordsGoOn : Type 0
RecordsGoOn = ComesTo
    (codes "router 01" ∷ codes "router 02" ∷ codes "router 03" ∷ codes "link 01 02" ∷ codes "link 02 03" ∷ codes "up 02 03" ∷ codes "up 03 02" ∷ codes "run 100"
    ∷ codes "up 01 02" ∷ codes "up 02 01" ∷ codes "run 100" ∷ codes "show 01" ∷ [])
    (codes "02 > 03: record 02 1 03 #6" ∷ codes "03 < 02: record 02 1 03 #6" ∷ codes "03 > 02: record 03 1 02 #7" ∷ codes "02 < 03: record 03 1 02 #7" ∷ codes "run 4 quiet"
    ∷ codes "01 > 02: record 01 1 02 #9" ∷ codes "02 < 01: record 01 1 02 #9"
    ∷ codes "02 > 01: record 02 2 01,03 #10" ∷ codes "01 < 02: record 02 2 01,03 #10" ∷ codes "02 > 01: record 03 1 02 #10" ∷ codes "01 < 02: record 03 1 02 #10"
    ∷ codes "02 > 03: record 02 2 01,03 #10" ∷ codes "03 < 02: record 02 2 01,03 #10" ∷ codes "02 > 03: record 01 1 02 #9" ∷ codes "03 < 02: record 01 1 02 #9"
    ∷ codes "run 10 quiet"
    ∷ codes "show 01" ∷ codes "record 01 1 02" ∷ codes "record 02 2 01,03" ∷ codes "record 03 1 02" ∷ codes "parent 02 02" ∷ codes "parent 03 02" ∷ [])
    12 None

-- a network with a broken link that its routers have not noticed is not settled
abbrev pub BrokenIsNotSettled : Type 0
BrokenIsNotSettled = ComesTo (linked ++ codes "break 01 02" ∷ codes "mark" ∷ []) linked_told 8 (Some NotSettled)

-- one without links is settled, and not joined
abbrev pub ApartIsNotJoined : Type 0
ApartIsNotJoined = ComesTo (codes "router 0a" ∷ codes "router 0b" ∷ codes "mark" ∷ []) [] 3 (Some NotJoined)

-- a router that has noticed it has a record without the link; what was queued is lost
abbrev pub DownIsTold : Type 0
DownIsTold = ComesTo
    (codes "router 01" ∷ codes "router 02" ∷ codes "link 01 02" ∷ codes "up 01 02" ∷ codes "break 01 02" ∷ codes "down 01 02" ∷ codes "show 01" ∷ codes "link 01 02" ∷ codes "up 01 02"
    ∷ codes "take 01 02" ∷ codes "take 01 02" ∷ [])
    (codes "show 01" ∷ codes "record 01 2 -" ∷ codes "01 > 02: record 01 3 02 #9" ∷ [])
    11 (Some NothingThere)

-- a client whose link is broken sends nothing more, and its router forgets its declarations
abbrev pub BrokenIsNotLinked : Type 0
BrokenIsNotLinked = ComesTo
    (codes "router 0a" ∷ codes "client c1 0a" ∷ codes "client c2 0a" ∷ codes "sub c2 1 a" ∷ codes "run 9" ∷ codes "break 0a c2" ∷ codes "down 0a c2" ∷ codes "mark"
    ∷ codes "put c1 a x" ∷ codes "run 9" ∷ codes "put c2 a y" ∷ [])
    (codes "0a < c2: sub 1 a #4" ∷ codes "run 1 quiet" ∷ codes "mark #8" ∷ codes "0a < c1: put - a x #9" ∷ codes "run 1 quiet" ∷ [])
    11 (Some NotLinked)

-- a subscriber at one router, and a publisher at the other
abbrev pub SamplesCross : Type 0
SamplesCross = ComesTo
    (linked ++ codes "client c1 01" ∷ codes "client c2 02" ∷ codes "sub c2 1 a" ∷ codes "run 100" ∷ codes "mark" ∷ codes "put c1 a x" ∷ codes "put c2 a y" ∷ codes "run 100" ∷ [])
    (linked_told
    ++ codes "02 < c2: sub 1 a #9" ∷ codes "02 > 01: entry 02 1 + sub a #9" ∷ codes "01 < 02: entry 02 1 + sub a #9" ∷ codes "run 3 quiet" ∷ codes "mark #11"
    ∷ codes "01 < c1: put - a x #12" ∷ codes "02 < c2: put - a y #13" ∷ codes "01 > 02: put 01 a x #12" ∷ codes "02 < 01: put 01 a x #12" ∷ codes "02 > c2: put - a x #12"
    ∷ codes "run 5 quiet" ∷ [])
    14 None

-- the change of a log is lost with the link, and a snapshot tells all of it when the link is up again
abbrev pub SnapshotsMend : Type 0
SnapshotsMend = ComesTo
    (codes "router 01" ∷ codes "router 02" ∷ codes "client c1 01" ∷ codes "client c2 02" ∷ codes "link 01 02" ∷ codes "up 01 02" ∷ codes "up 02 01" ∷ codes "run 100"
    ∷ codes "sub c2 1 a" ∷ codes "handle 02 c2" ∷ codes "take 02 01" ∷ codes "break 01 02" ∷ codes "down 01 02" ∷ codes "down 02 01" ∷ codes "unsub c2 1" ∷ codes "handle 02 c2"
    ∷ codes "link 01 02" ∷ codes "up 01 02" ∷ codes "up 02 01" ∷ codes "run 100" ∷ codes "mark" ∷ codes "put c1 a x" ∷ codes "run 9" ∷ codes "show 01" ∷ [])
    (codes "01 > 02: record 01 1 02 #6" ∷ codes "02 < 01: record 01 1 02 #6" ∷ codes "02 > 01: record 02 1 01 #7" ∷ codes "01 < 02: record 02 1 01 #7" ∷ codes "run 4 quiet"
    ∷ codes "02 < c2: sub 1 a #9" ∷ codes "02 > 01: entry 02 1 + sub a #9" ∷ codes "02 < c2: unsub 1 #15"
    ∷ codes "01 > 02: record 01 3 02 #18" ∷ codes "02 < 01: record 01 3 02 #18" ∷ codes "01 > 02: record 02 1 01 #18" ∷ codes "02 < 01: record 02 1 01 #18"
    ∷ codes "02 > 01: record 01 1 02 #19" ∷ codes "01 < 02: record 01 1 02 #19" ∷ codes "02 > 01: record 02 3 01 #19" ∷ codes "01 < 02: record 02 3 01 #19"
    ∷ codes "02 > 01: snap 02 2 #19" ∷ codes "01 < 02: snap 02 2 #19" ∷ codes "run 10 quiet"
    ∷ codes "mark #21" ∷ codes "01 < c1: put - a x #22" ∷ codes "run 1 quiet"
    ∷ codes "show 01" ∷ codes "record 01 3 02" ∷ codes "record 02 3 01" ∷ codes "parent 02 02" ∷ codes "source 02 2" ∷ [])
    24 None
