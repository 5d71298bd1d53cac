-- Queries worked out: whole scripts, what the one broker says of them, and what their clients were sent.
use Rattle.std.specs.Prelude.{◌≡◌, ◌-◌, ℕ, List, [], ◌∷◌, ◌++◌, codes, length, map, drop, true, false, Some, None}
use Rattle.std.specs.Option.{option_map}
use Rattle.zr_msg.specs.declared.msg.Target.TheVariants.{All}
use Rattle.zr_script_spec.specs.declared.error.ScriptError.TheVariants.{NameTaken, NotAsked}
use Rattle.zr_script_spec.specs.declared.command.Act.TheVariants.{Router, Client, Able, Get, Reply, End, Handle, Take, Mark}
use Rattle.zr_script_spec.specs.Lines.{lines}
use Rattle.zr_script_spec.specs.Command.{plain, query_body, reply_body}
use Rattle.zr_world_spec.specs.World.{is_quiet}
use Rattle.zr_world_spec.specs.Run.{run_of}
use Rattle.zr_world_spec.specs.Moments.{Numbered, reached}
use Rattle.zr_world_spec.specs.Accepted.{accepted}
use Rattle.zr_guarantee.specs.Broker.{from}
use Rattle.zr_guarantee.specs.Queries.{Asked, queries, asks, replies, is_finished}
use Rattle.zr_guarantee.specs.Sent.{told_to, replies_in, finals_in}
use Rattle.zr_guarantee.specs.Refines.{sent_of, sent_of_query, has_final}
use Rattle.zr_law_rows.specs.Rows.{text_of, ComesTo, a, c1, c2}

-- ---- whole scripts

-- a query that nobody can answer has its final at once
abbrev pub NobodyIsAsked : Type 0
NobodyIsAsked = ComesTo
    (codes "router 0a" ∷ codes "client c1 0a" ∷ codes "mark" ∷ codes "get c1 1 a/b all" ∷ codes "run 9" ∷ [])
    (codes "mark #3" ∷ codes "0a < c1: get - 1 a/b all #4" ∷ codes "0a > c1: final 1 #4" ∷ codes "run 2 quiet" ∷ [])
    5 None

-- the report of a script ends with these lines
abbrev pub EndsWith : List (List ℕ) → List (List ℕ) → Type 0
EndsWith script tail = drop (length (run_of (text_of script)).text - length (text_of tail)) (run_of (text_of script)).text ≡ text_of tail

-- along three routers samples and a query come in one order, and the reply and the final go back under the number of the query
abbrev pub QueriesCross : Type 0
QueriesCross = EndsWith
    (codes "router 01" ∷ codes "router 02" ∷ codes "router 03" ∷ codes "link 01 02" ∷ codes "link 02 03" ∷ codes "up 01 02" ∷ codes "up 02 01" ∷ codes "up 02 03" ∷ codes "up 03 02"
    ∷ codes "client c1 01" ∷ codes "client c3 03" ∷ codes "sub c3 1 a" ∷ codes "able c3 2 a" ∷ codes "run 1000" ∷ codes "mark" ∷ codes "put c1 a x" ∷ codes "get c1 7 a all"
    ∷ codes "put c1 a y" ∷ codes "run 100" ∷ codes "reply c3 1 a z" ∷ codes "end c3 1" ∷ codes "run 100" ∷ [])
    (codes "mark #15"
    ∷ codes "01 < c1: put - a x #16" ∷ codes "01 < c1: get - 7 a all #17" ∷ codes "01 < c1: put - a y #18"
    ∷ codes "01 > 02: put 01 a x #16" ∷ codes "02 < 01: put 01 a x #16" ∷ codes "01 > 02: get 01 1 a all #17" ∷ codes "02 < 01: get 01 1 a all #17" ∷ codes "01 > 02: put 01 a y #18" ∷ codes "02 < 01: put 01 a y #18"
    ∷ codes "02 > 03: put 01 a x #16" ∷ codes "03 < 02: put 01 a x #16" ∷ codes "02 > 03: get 01 1 a all #17" ∷ codes "03 < 02: get 01 1 a all #17" ∷ codes "02 > 03: put 01 a y #18" ∷ codes "03 < 02: put 01 a y #18"
    ∷ codes "03 > c3: put - a x #16" ∷ codes "03 > c3: get - 1 a all #17" ∷ codes "03 > c3: put - a y #18" ∷ codes "run 18 quiet"
    ∷ codes "03 < c3: reply 1 a z #20" ∷ codes "03 < c3: final 1 #21"
    ∷ codes "03 > 02: reply 1 a z #20" ∷ codes "02 < 03: reply 1 a z #20" ∷ codes "02 > 01: reply 1 a z #20" ∷ codes "01 < 02: reply 1 a z #20" ∷ codes "01 > c1: reply 7 a z #20"
    ∷ codes "03 > 02: final 1 #21" ∷ codes "02 < 03: final 1 #21" ∷ codes "02 > 01: final 1 #21" ∷ codes "01 < 02: final 1 #21" ∷ codes "01 > c1: final 7 #21" ∷ codes "run 12 quiet" ∷ [])

-- two queryables at two routers, and one final once both have ended
abbrev pub OneFinalComes : Type 0
OneFinalComes = EndsWith
    (codes "router 01" ∷ codes "router 02" ∷ codes "link 01 02" ∷ codes "up 01 02" ∷ codes "up 02 01" ∷ codes "client c1 01" ∷ codes "client c2 02" ∷ codes "client c3 01"
    ∷ codes "able c2 1 k" ∷ codes "able c3 1 k" ∷ codes "run 100" ∷ codes "mark" ∷ codes "get c1 4 k all" ∷ codes "run 100" ∷ codes "end c3 1" ∷ codes "run 100" ∷ codes "end c2 1" ∷ codes "run 100" ∷ [])
    (codes "mark #12" ∷ codes "01 < c1: get - 4 k all #13" ∷ codes "01 > 02: get 01 1 k all #13" ∷ codes "02 < 01: get 01 1 k all #13" ∷ codes "01 > c3: get - 1 k all #13" ∷ codes "02 > c2: get - 1 k all #13"
    ∷ codes "run 5 quiet" ∷ codes "01 < c3: final 1 #15" ∷ codes "run 1 quiet" ∷ codes "02 < c2: final 1 #17" ∷ codes "02 > 01: final 1 #17" ∷ codes "01 < 02: final 1 #17" ∷ codes "01 > c1: final 4 #17"
    ∷ codes "run 4 quiet" ∷ [])

-- where complete queryables are asked, one that only meets the key is not
abbrev pub CompleteIsAsked : Type 0
CompleteIsAsked = ComesTo
    (codes "router 0a" ∷ codes "client c1 0a" ∷ codes "client c2 0a" ∷ codes "client c3 0a" ∷ codes "full c2 1 a/**" ∷ codes "able c3 1 a/b" ∷ codes "run 9" ∷ codes "mark"
    ∷ codes "get c1 1 a/b complete" ∷ codes "run 9" ∷ [])
    (codes "0a < c2: full 1 a/** #5" ∷ codes "0a < c3: able 1 a/b #6" ∷ codes "run 2 quiet" ∷ codes "mark #8" ∷ codes "0a < c1: get - 1 a/b complete #9" ∷ codes "0a > c2: get - 1 a/b complete #9"
    ∷ codes "run 2 quiet" ∷ [])
    10 None

-- the request of a client whose link goes down has ended
abbrev pub DownEnds : Type 0
DownEnds = ComesTo
    (codes "router 0a" ∷ codes "client c1 0a" ∷ codes "client c2 0a" ∷ codes "able c2 1 a" ∷ codes "run 9" ∷ codes "get c1 3 a all" ∷ codes "run 9" ∷ codes "break 0a c2" ∷ codes "down 0a c2" ∷ codes "run 9" ∷ [])
    (codes "0a < c2: able 1 a #4" ∷ codes "run 1 quiet" ∷ codes "0a < c1: get - 3 a all #6" ∷ codes "0a > c2: get - 1 a all #6" ∷ codes "run 2 quiet" ∷ codes "0a > c1: final 3 #9" ∷ codes "run 1 quiet" ∷ [])
    10 None

-- the number of a query whose final was not sent is not asked under again
abbrev pub OpenNumberIsTaken : Type 0
OpenNumberIsTaken = ComesTo
    (codes "router 0a" ∷ codes "client c1 0a" ∷ codes "get c1 7 a best" ∷ codes "handle 0a c1" ∷ codes "get c1 7 a best" ∷ [])
    (codes "0a < c1: get - 7 a best #3" ∷ [])
    5 (Some NameTaken)

-- what a client was not sent it can't answer
abbrev pub NotSentIsNotAsked : Type 0
NotSentIsNotAsked = ComesTo
    (codes "router 0a" ∷ codes "client c1 0a" ∷ codes "client c2 0a" ∷ codes "able c2 1 a" ∷ codes "run 9" ∷ codes "get c1 7 a best" ∷ codes "handle 0a c1" ∷ codes "reply c2 1 a x" ∷ [])
    (codes "0a < c2: able 1 a #4" ∷ codes "run 1 quiet" ∷ codes "0a < c1: get - 7 a best #6" ∷ [])
    8 (Some NotAsked)

-- ---- two queries under one number

abbrev pub asked_twice : List (List ℕ)
asked_twice =
    codes "router 0a" ∷ codes "client c1 0a" ∷ codes "client c2 0a" ∷ codes "able c2 1 a" ∷ codes "run 9" ∷ codes "mark" ∷ codes "get c1 7 a all" ∷ codes "run 9" ∷ codes "reply c2 1 a x" ∷ codes "end c2 1"
    ∷ codes "run 9" ∷ codes "get c1 7 a all" ∷ codes "run 9" ∷ codes "reply c2 1 a y" ∷ codes "run 9" ∷ []

abbrev pub NumberComesAgain : Type 0
NumberComesAgain = ComesTo asked_twice
    (codes "0a < c2: able 1 a #4" ∷ codes "run 1 quiet" ∷ codes "mark #6" ∷ codes "0a < c1: get - 7 a all #7" ∷ codes "0a > c2: get - 1 a all #7" ∷ codes "run 2 quiet"
    ∷ codes "0a < c2: reply 1 a x #9" ∷ codes "0a < c2: final 1 #10" ∷ codes "0a > c1: reply 7 a x #9" ∷ codes "0a > c1: final 7 #10" ∷ codes "run 4 quiet"
    ∷ codes "0a < c1: get - 7 a all #12" ∷ codes "0a > c2: get - 1 a all #12" ∷ codes "run 2 quiet" ∷ codes "0a < c2: reply 1 a y #14" ∷ codes "0a > c1: reply 7 a y #14" ∷ codes "run 2 quiet" ∷ [])
    15 None

abbrev pub query_at : ℕ → Asked
query_at line = record { line = line; client = c1; number = 7; target = All; content = plain (codes "a") query_body }

-- the acts of that script before its mark, and those after it
abbrev pub before_asking : List Numbered
before_asking = (1, Router a) ∷ (2, Client c1 a) ∷ (3, Client c2 a) ∷ (4, Able c2 1 (codes "a") false) ∷ (5, Handle a c2) ∷ []

abbrev pub asking : List Numbered
asking =
    (7, Get c1 7 All (plain (codes "a") query_body)) ∷ (8, Handle a c1) ∷ (8, Take a c2) ∷ (9, Reply c2 1 (plain (codes "a") (reply_body (codes "x")))) ∷ (10, End c2 1)
    ∷ (11, Handle a c2) ∷ (11, Handle a c2) ∷ (11, Take a c1) ∷ (11, Take a c1) ∷ (12, Get c1 7 All (plain (codes "a") query_body)) ∷ (13, Handle a c1) ∷ (13, Take a c2)
    ∷ (14, Reply c2 1 (plain (codes "a") (reply_body (codes "y")))) ∷ (15, Handle a c2) ∷ (15, Take a c1) ∷ []

abbrev pub all_acts : List Numbered
all_acts = before_asking ++ (6, Mark) ∷ asking

-- the first query is answered whole; the second has its reply, and no final while the client that it asks has not ended
pub record BothAreAnswered : Type 0 where
  pub accepted_is : accepted (lines (text_of asked_twice)) ≡ all_acts
  pub queries_are : queries asking ≡ query_at 7 ∷ query_at 12 ∷ []
  pub who_is_asked : map (λ c. asks before_asking (query_at 7) c) (c1 ∷ c2 ∷ []) ≡ false ∷ true ∷ []
  pub requests_due : map (λ i. i.line) (from before_asking asking c1 c2) ≡ 7 ∷ 12 ∷ []
  pub requests_sent : option_map (λ m. map (λ i. i.line) (sent_of asking m c1 c2)) (reached all_acts) ≡ Some (7 ∷ 12 ∷ [])
  pub replies_due : option_map (λ m. map (λ r. r.line) (replies (before_asking ++ asking) m.report (query_at 7) c2)) (reached all_acts) ≡ Some (9 ∷ [])
  pub replies_sent : option_map (λ m. map (λ r. r.line) (sent_of_query (before_asking ++ asking) m.report (query_at 7) c2 (told_to m.report c1))) (reached all_acts) ≡ Some (9 ∷ [])
  pub later_due : option_map (λ m. map (λ r. r.line) (replies (before_asking ++ asking) m.report (query_at 12) c2)) (reached all_acts) ≡ Some (14 ∷ [])
  pub numbers_are : option_map (λ m. map (λ r. r.number) (replies_in (told_to m.report c1))) (reached all_acts) ≡ Some (7 ∷ 7 ∷ [])
  pub finished_is : option_map (λ m. is_finished before_asking (before_asking ++ asking) m.report (query_at 7)) (reached all_acts) ≡ Some true
  pub open_is : option_map (λ m. is_finished before_asking (before_asking ++ asking) m.report (query_at 12)) (reached all_acts) ≡ Some false
  pub final_is : option_map (λ m. has_final (before_asking ++ asking) m.report (query_at 7)) (reached all_acts) ≡ Some true
  pub no_final_is : option_map (λ m. has_final (before_asking ++ asking) m.report (query_at 12)) (reached all_acts) ≡ Some false
  pub finals_are : option_map (λ m. finals_in 7 (told_to m.report c1)) (reached all_acts) ≡ Some 1
  pub quiet_at_end : option_map (λ m. is_quiet m.world) (reached all_acts) ≡ Some true
