-- The forms of the usage line: what the program promises to take.
use Rattle.std.specs.Prelude.{◌≡◌, ℕ, ◌==◌, ◌^◌, not, Bool, true, false, List, [], ◌∷◌, ◌++◌, Some, codes}
use Rattle.std.specs.List.{list_all}
use Rattle.zr_id.specs.Zid.{zid_of_hex}
use Rattle.zr_dial.specs.Dial.{DialState}
use Rattle.zr_make.specs.Plan.{is_in_range}
use Rattle.zr_top_words.specs.Asked.{asked_of, dials_of, net, serve, make, number_below, threads_of}

-- a word that doesn't begin with a hyphen, as options do
abbrev pub is_plain : List ℕ → Bool
is_plain [] = true
is_plain (first ∷ rest) = not (first == 45)

-- the words of an option without a value, where it stands
abbrev pub flag_words : List ℕ → Bool → List (List ℕ)
flag_words word true = word ∷ []
flag_words word false = []

-- `net [--summary] --threads N`: N is a number from 1 to 16, without leading zeros
abbrev pub ThreadsAreTaken : Type 0
ThreadsAreTaken = (summary : Bool) (word : List ℕ) (n : ℕ) → threads_of (Some word) ≡ Some n
    → asked_of (codes "net" ∷ (flag_words (codes "--summary") summary ++ codes "--threads" ∷ word ∷ []))
    ≡ Some (net (record { summary = summary; explain = false; threads = n }))

-- `net` and `net --summary`, which say one thread, and both with `--threads N`
abbrev pub NetIsTaken : Type 0
NetIsTaken = (asked_of (codes "net" ∷ []) ≡ Some (net (record { summary = false; explain = false; threads = 1 })))
    × (asked_of (codes "net" ∷ codes "--summary" ∷ []) ≡ Some (net (record { summary = true; explain = false; threads = 1 })))
    × ThreadsAreTaken

-- `serve --id ID --listen ADDRESS [--rules] [--admin] [DIAL]...`: ID spells an identifier, no address begins with a hyphen, and each DIAL is `ADDRESS` or
-- `ADDRESS,W`
abbrev pub ServeIsTaken : Type 0
ServeIsTaken = (id zid listen : List ℕ) (rules admin : Bool) (words : List (List ℕ)) (dials : List DialState) → zid_of_hex id ≡ Some zid → is_plain listen ≡ true
    → list_all is_plain words ≡ true → dials_of words ≡ Some dials
    → asked_of (codes "serve" ∷ codes "--id" ∷ id ∷ codes "--listen" ∷ listen ∷ (flag_words (codes "--rules") rules ++ (flag_words (codes "--admin") admin ++ words)))
    ≡ Some (serve (record { id = zid; listen = listen; log = false; rules = rules; explain = false; admin = admin; dials = dials }))

-- `make --number N --routers R --clients C --messages M`: each is a number without leading zeros, and a script can be made of them
abbrev pub MakeIsTaken : Type 0
MakeIsTaken = (number routers clients messages : List ℕ) (n r c m : ℕ) → number_below (2 ^ 64) number ≡ Some n → number_below (2 ^ 32) routers ≡ Some r
    → number_below (2 ^ 32) clients ≡ Some c → number_below (2 ^ 32) messages ≡ Some m → is_in_range r c m ≡ true
    → asked_of (codes "make" ∷ codes "--number" ∷ number ∷ codes "--routers" ∷ routers ∷ codes "--clients" ∷ clients ∷ codes "--messages" ∷ messages ∷ [])
    ≡ Some (make (record { number = n; routers = r; clients = c; messages = m }))

-- words in the stated forms, with values in range, are taken for what they say
abbrev pub FormsAreTaken : Type 0
FormsAreTaken = NetIsTaken × ServeIsTaken × MakeIsTaken
