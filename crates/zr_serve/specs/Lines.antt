-- The lines that serving writes.
use Rattle.std.specs.Prelude.{ℕ, true, false, List, [], ◌∷◌, ◌++◌, codes}
use Rattle.hex.specs.Hex.{encode_lower}
use Rattle.zr_outside.specs.declared.host.Call.{Call}
use Rattle.zr_outside.specs.declared.host.Call.TheVariants.{Listen, Dial, Accept}
use Rattle.zr_serve.specs.Calls.{Made}

-- `serving ID`
abbrev pub serving_text : List ℕ → List ℕ
serving_text id = codes "serving " ++ (encode_lower id ++ codes "\n")

-- a call with an address failed
abbrev pub failed_text : List ℕ → List ℕ → List ℕ
failed_text head address = head ++ (address ++ codes " failed\n")

abbrev pub dial_text : List ℕ → List ℕ
dial_text address = failed_text (codes "dial ") address

abbrev pub listen_text : List ℕ → List ℕ
listen_text address = failed_text (codes "listen ") address

abbrev pub no_words_text : List ℕ
no_words_text = codes "no random words\n"

abbrev pub accept_text : List ℕ
accept_text = codes "accept failed\n"

-- the administration space isn't open
abbrev pub refused_text : List ℕ
refused_text = codes "admin refused\n"

-- the router's identifier was in use before
abbrev pub used_text : List ℕ → List ℕ
used_text id = codes "identifier " ++ (encode_lower id ++ codes " was in use before: start with a fresh one\n")

-- what is told of a call while serving goes on: the dials that gave no link
abbrev pub complaint : Call → List ℕ
complaint (Listen address is_listening) = []
complaint (Dial address true) = []
complaint (Dial address false) = dial_text address
complaint (Accept answer) = []

abbrev pub complaints : List Made → List ℕ
complaints [] = []
complaints (m ∷ made) = complaint m.call ++ complaints made
