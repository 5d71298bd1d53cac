-- Liveliness tokens worked out: who is told of them, and that a sample is not for whoever has declared one.
use Rattle.std.specs.Prelude.{[], ◌∷◌, ◌++◌, codes, None}
use Rattle.zr_law_rows.specs.Rows.{ComesTo}
use Rattle.zr_law_rows.specs.Networks.{linked, linked_told}

-- a client is told of a token of another router's client, and that it is there no more once that client's link has gone down
abbrev pub TokenIsTold : Type 0
TokenIsTold = ComesTo
    (linked ++ codes "client c1 01" ∷ codes "client c2 02" ∷ codes "interest c1 1 both token robot/*" ∷ codes "token c2 1 robot/r2" ∷ codes "run 100"
    ∷ codes "break 02 c2" ∷ codes "down 02 c2" ∷ codes "run 100" ∷ [])
    (linked_told
    ++ codes "01 < c1: interest 1 both token robot/* #9" ∷ codes "02 < c2: token 1 robot/r2 #10" ∷ codes "01 > c1: told end 1 #9"
    ∷ codes "02 > 01: entry 02 1 + token robot/r2 #10" ∷ codes "01 < 02: entry 02 1 + token robot/r2 #10" ∷ codes "01 > c1: told token 1 robot/r2 - #10" ∷ codes "run 6 quiet"
    ∷ codes "02 > 01: entry 02 2 - token robot/r2 #13" ∷ codes "01 < 02: entry 02 2 - token robot/r2 #13" ∷ codes "01 > c1: told untoken 1 #13" ∷ codes "run 3 quiet" ∷ [])
    14 None

-- while another client still has a token of that key, nobody is told that one is taken back
abbrev pub OtherTokenStays : Type 0
OtherTokenStays = ComesTo
    (codes "router 0a" ∷ codes "client c1 0a" ∷ codes "client c2 0a" ∷ codes "client c3 0a" ∷ codes "interest c1 1 both token **" ∷ codes "token c2 1 k" ∷ codes "token c3 1 k"
    ∷ codes "run 9" ∷ codes "untoken c2 1" ∷ codes "run 9" ∷ [])
    (codes "0a < c1: interest 1 both token ** #5" ∷ codes "0a < c2: token 1 k #6" ∷ codes "0a < c3: token 1 k #7" ∷ codes "0a > c1: told end 1 #5" ∷ codes "0a > c1: told token 1 k - #6"
    ∷ codes "run 5 quiet" ∷ codes "0a < c2: untoken 1 #9" ∷ codes "run 1 quiet" ∷ [])
    10 None

-- a client that has declared a token under a key is sent no sample on it
abbrev pub TokenHearsNothing : Type 0
TokenHearsNothing = ComesTo
    (codes "router 0a" ∷ codes "client c1 0a" ∷ codes "client c2 0a" ∷ codes "token c2 1 a/b" ∷ codes "run 9" ∷ codes "mark" ∷ codes "put c1 a/b hi" ∷ codes "run 9" ∷ [])
    (codes "0a < c2: token 1 a/b #4" ∷ codes "run 1 quiet" ∷ codes "mark #6" ∷ codes "0a < c1: put - a/b hi #7" ∷ codes "run 1 quiet" ∷ [])
    8 None
