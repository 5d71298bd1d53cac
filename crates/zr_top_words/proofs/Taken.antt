-- Words in the forms of the usage line are taken for what they say.
use Rattle.std.proofs.Common.{◌≡◌, ◌∙◌, ◌&&◌, ◌^◌, ℕ, Bool, cond, not, true, false, refl, sym, ap, List, [], ◌∷◌, ◌++◌, Option, Some, None, true≢false, append_assoc, arith}
use Rattle.std.specs.Prelude.{◌==◌, codes, length, nat_le, option_and_then}
use Rattle.std.proofs.lemmas.Bool.Decides.{nat_tests}
use Rattle.std.specs.List.{list_all}
use Rattle.std.specs.Option.{option_map}
use Rattle.hex.specs.Hex.{decode_of}
use Rattle.clap.proofs.OnLiterals.{clap_on_literals}
use Rattle.clap.specs.declared.builder.value_parser.Reading.TheVariants.{AsWritten}
use Rattle.clap.specs.declared.parser.matches.ValueSource.TheVariants.{CommandLine}
use Rattle.clap.specs.Walk.{Held, Row, Text, Walk, finished, idle, nothing_held, option, positional, walk_from, walked}
use Rattle.clap.specs.Simple.{Shape, built_leaf, inherited, marked_built, with_leaf_noted}
use Rattle.clap.specs.Faults.{turn_fault}
use Rattle.zr_make.specs.declared.plan.MakePlan.{MakePlan}
use Rattle.zr_dial.specs.Dial.{DialState}
use Rattle.zr_id.specs.Zid.{is_lower_hex, valid_zid, zid_of_hex}
use Rattle.zr_script_spec.specs.Words.{is_digit, is_number}
use Rattle.zr_top_words.specs.App.{app, make, net, serve, top}
use Rattle.zr_top_words.specs.Asked.{Served, as_threads, asked_by, asked_of, faults, found, make as asks_make, net as asks_net, net_with, plan_in_range, if_it_explains, serve as asks_serve, served_at, served_as_named, dials_of, number_below, threads_of}
use Rattle.zr_top_words.specs.Forms.{flag_words, is_plain, FormsAreTaken, MakeIsTaken, NetIsTaken, ServeIsTaken, ThreadsAreTaken}
use Rattle.zr_top_words.proofs.Steps.{Goes, between, fault_behind, goes_on, idle_fault, idle_walked, more_fault, more_walked, stays, value_passes, value_walked}
use Rattle.zr_top_words.proofs.Entering.{Enters, asked_is}

-- ---- words that are no options

both_hold : (a b : Bool) → (a && b) ≡ true → (a ≡ true) × (b ≡ true)
both_hold true b h = (refl, h)
both_hold false b h = absurd (true≢false (sym h))

chosen : {A : Type 0} (b : Bool) (x : Option A) (y : A) → cond b x None ≡ Some y → b ≡ true
chosen true x y h = refl
chosen false x y h = absurd (cc)

digit_plain : (b : ℕ) → is_digit b ≡ true → not (b == 45) ≡ true
digit_plain b h = grind (arith, nat_tests)

number_plain : (word : Text) → is_number word ≡ true → is_plain word ≡ true
number_plain [] h = refl
number_plain (d ∷ []) h = digit_plain d h
number_plain (d ∷ e ∷ more) h =
    let digits = both_hold (not (d == 48)) (list_all is_digit (d ∷ e ∷ more)) h in
    digit_plain d (both_hold (is_digit d) (list_all is_digit (e ∷ more)) digits.1).0

below_plain : (limit : ℕ) (word : Text) (n : ℕ) → number_below limit word ≡ Some n → is_plain word ≡ true
below_plain limit word n h = number_plain word (chosen (is_number word) _ n h)

hex_plain : (b : ℕ) → is_lower_hex b ≡ true → not (b == 45) ≡ true
hex_plain b h = grind (arith, nat_tests)

all_hex_plain : (word : Text) → list_all is_lower_hex word ≡ true → is_plain word ≡ true
all_hex_plain [] h = refl
all_hex_plain (c ∷ cs) h = hex_plain c (both_hold (is_lower_hex c) (list_all is_lower_hex cs) h).0

zid_plain : (word zid : Text) → zid_of_hex word ≡ Some zid → is_plain word ≡ true
zid_plain word zid h =
    all_hex_plain word (both_hold (nat_le (length word) 32) (list_all is_lower_hex word) (chosen _ (valid_zid (decode_of word)) zid h)).1

-- ---- options with values

-- a command as it is built
abbrev as_built : Shape → Shape
as_built s = built_leaf (inherited (with_leaf_noted (marked_built top)) s)

-- what was found of an option that stands among the words
abbrev given : Text → List Text → Row
given id values = record { id = id; values = values; count = None; source = Some CommandLine; reading = AsWritten }

-- these were found, and a use with these values is not done yet
abbrev holding : List Row → Text → List Text → Held
holding rows id values = record { rows = rows; pending = Some (id, values); skip = 0 }

-- an option is named, and its value follows
valued : (s : Shape) (h : Held) (rows : List Row) (word id value : Text) (rest : List Text) (end : Walk)
    → walked s.rules [] (between h idle) word ≡ between (holding rows id []) (option id) → turn_fault s [] (between h idle) word ≡ []
    → walked s.rules [] (between (holding rows id []) (option id)) value ≡ between (holding rows id (value ∷ [])) idle → is_plain value ≡ true
    → Goes s (between (holding rows id (value ∷ [])) idle) rest end → Goes s (between h idle) (word ∷ value ∷ rest) end
valued s h rows word id value rest end named fine read plain go =
    goes_on s _ _ word _ end named fine (goes_on s _ _ value rest end read (value_passes s (holding rows id []) id value plain) go)

-- ---- `make`

abbrev make_built : Shape
make_built = as_built make

module _ (n r c m : Text) (pn : is_plain n ≡ true) (pr : is_plain r ≡ true) (pc : is_plain c ≡ true) (pm : is_plain m ≡ true) where
  abbrev n_found : List Row
  n_found = given (codes "number") (n ∷ []) ∷ []

  abbrev r_found : List Row
  r_found = given (codes "number") (n ∷ []) ∷ given (codes "routers") (r ∷ []) ∷ []

  abbrev c_found : List Row
  c_found = given (codes "number") (n ∷ []) ∷ given (codes "routers") (r ∷ []) ∷ given (codes "clients") (c ∷ []) ∷ []

  abbrev make_end : Walk
  make_end = between (holding c_found (codes "messages") (m ∷ [])) idle

  n_named : walked make_built.rules [] (between nothing_held idle) (codes "--number") ≡ between (holding [] (codes "number") []) (option (codes "number"))
  unfolding clap_on_literals
  n_named = refl

  n_fine : turn_fault make_built [] (between nothing_held idle) (codes "--number") ≡ []
  unfolding clap_on_literals
  n_fine = refl

  r_named : walked make_built.rules [] (between (holding [] (codes "number") (n ∷ [])) idle) (codes "--routers")
      ≡ between (holding n_found (codes "routers") []) (option (codes "routers"))
  unfolding clap_on_literals
  r_named = refl

  r_fine : turn_fault make_built [] (between (holding [] (codes "number") (n ∷ [])) idle) (codes "--routers") ≡ []
  unfolding clap_on_literals
  r_fine = refl

  c_named : walked make_built.rules [] (between (holding n_found (codes "routers") (r ∷ [])) idle) (codes "--clients")
      ≡ between (holding r_found (codes "clients") []) (option (codes "clients"))
  unfolding clap_on_literals
  c_named = refl

  c_fine : turn_fault make_built [] (between (holding n_found (codes "routers") (r ∷ [])) idle) (codes "--clients") ≡ []
  unfolding clap_on_literals
  c_fine = refl

  m_named : walked make_built.rules [] (between (holding r_found (codes "clients") (c ∷ [])) idle) (codes "--messages")
      ≡ between (holding c_found (codes "messages") []) (option (codes "messages"))
  unfolding clap_on_literals
  m_named = refl

  m_fine : turn_fault make_built [] (between (holding r_found (codes "clients") (c ∷ [])) idle) (codes "--messages") ≡ []
  unfolding clap_on_literals
  m_fine = refl

  make_goes : Goes make_built (walk_from nothing_held)
      (codes "--number" ∷ n ∷ codes "--routers" ∷ r ∷ codes "--clients" ∷ c ∷ codes "--messages" ∷ m ∷ []) make_end
  make_goes =
      valued make_built _ [] _ (codes "number") n _ make_end n_named n_fine (value_walked make_built (holding [] (codes "number") []) (codes "number") n pn) pn
      (valued make_built _ n_found _ (codes "routers") r _ make_end r_named r_fine (value_walked make_built (holding n_found (codes "routers") []) (codes "routers") r pr) pr
      (valued make_built _ r_found _ (codes "clients") c _ make_end c_named c_fine (value_walked make_built (holding r_found (codes "clients") []) (codes "clients") c pc) pc
      (valued make_built _ c_found _ (codes "messages") m _ make_end m_named m_fine (value_walked make_built (holding c_found (codes "messages") []) (codes "messages") m pm) pm
      (stays make_built make_end))))

  make_fine : fault_behind make_built make_end ≡ []
  unfolding clap_on_literals
  make_fine = refl

make_enters : Enters (codes "make") (codes "make") make_built
unfolding clap_on_literals app
make_enters = record { halts = refl; passes = refl; names_it = refl }

-- the plan of four numbers
abbrev made : Option ℕ → Option ℕ → Option ℕ → Option ℕ → Option MakePlan
made n r c m = option_and_then (λ w. option_and_then (λ x. option_and_then (λ y. option_and_then (λ z. plan_in_range w x y z) m) c) r) n

make_taken : MakeIsTaken
make_taken nw rw cw mw n r c m hn hr hc hm range =
    let pn = below_plain (2 ^ 64) nw n hn in
    let pr = below_plain (2 ^ 32) rw r hr in
    let pc = below_plain (2 ^ 32) cw c hc in
    let pm = below_plain (2 ^ 32) mw m hm in
    let plan : MakePlan = record { number = n; routers = r; clients = c; messages = m } in
    asked_is (codes "make") (codes "make") make_built _ make_enters _ (make_goes nw rw cw mw pn pr pc pm) (make_fine nw rw cw mw pn pr pc pm)
    ∙ ap (λ (x : Option MakePlan). option_map asks_make x)
    (ap (λ (x : Option ℕ). made x (number_below (2 ^ 32) rw) (number_below (2 ^ 32) cw) (number_below (2 ^ 32) mw)) hn
    ∙ ap (λ (x : Option ℕ). made (Some n) x (number_below (2 ^ 32) cw) (number_below (2 ^ 32) mw)) hr
    ∙ ap (λ (x : Option ℕ). made (Some n) (Some r) x (number_below (2 ^ 32) mw)) hc
    ∙ ap (λ (x : Option ℕ). made (Some n) (Some r) (Some c) x) hm
    ∙ ap (λ (b : Bool). cond b (Some plan) None) range)

-- ---- `net`

abbrev net_built : Shape
net_built = as_built net

net_enters : Enters (codes "net") (codes "net") net_built
unfolding clap_on_literals app
net_enters = record { halts = refl; passes = refl; names_it = refl }

-- what was found of `--summary`, where it stands, and the walk behind it
abbrev net_found : Bool → List Row
net_found true = given (codes "summary") (codes "true" ∷ []) ∷ []
net_found false = []

abbrev net_behind : Bool → Held
net_behind true = record { rows = net_found true; pending = None; skip = 0 }
net_behind false = nothing_held

module _ (n : Text) (pn : is_plain n ≡ true) where
  abbrev net_end : Bool → Walk
  net_end s = between (holding (net_found s) (codes "threads") (n ∷ [])) idle

  summary_named : walked net_built.rules [] (between nothing_held idle) (codes "--summary") ≡ between (net_behind true) idle
  unfolding clap_on_literals
  summary_named = refl

  summary_fine : turn_fault net_built [] (between nothing_held idle) (codes "--summary") ≡ []
  unfolding clap_on_literals
  summary_fine = refl

  threads_named : (s : Bool) → walked net_built.rules [] (between (net_behind s) idle) (codes "--threads")
      ≡ between (holding (net_found s) (codes "threads") []) (option (codes "threads"))
  unfolding clap_on_literals
  threads_named true = refl
  threads_named false = refl

  threads_fine : (s : Bool) → turn_fault net_built [] (between (net_behind s) idle) (codes "--threads") ≡ []
  unfolding clap_on_literals
  threads_fine true = refl
  threads_fine false = refl

  threads_go : (s : Bool) → Goes net_built (between (net_behind s) idle) (codes "--threads" ∷ n ∷ []) (net_end s)
  threads_go s =
      valued net_built (net_behind s) (net_found s) _ (codes "threads") n _ (net_end s) (threads_named s) (threads_fine s)
      (value_walked net_built (holding (net_found s) (codes "threads") []) (codes "threads") n pn) pn (stays net_built (net_end s))

  net_goes : (s : Bool) → Goes net_built (walk_from nothing_held) (flag_words (codes "--summary") s ++ codes "--threads" ∷ n ∷ []) (net_end s)
  net_goes true =
      goes_on net_built (between nothing_held idle) (between (net_behind true) idle) (codes "--summary") _ (net_end true) summary_named summary_fine (threads_go true)
  net_goes false = threads_go false

  net_fine : (s : Bool) → fault_behind net_built (net_end s) ≡ []
  unfolding clap_on_literals
  net_fine true = refl
  net_fine false = refl

  net_asks : (s : Bool) (k : ℕ) → threads_of (Some n) ≡ Some k
      → asked_by (net_built.name, finished net_built.rules (net_end s).held) ≡ Some (asks_net (record { summary = s; explain = false; threads = k }))
  net_asks true k is = ap (λ (t : Option ℕ). option_map asks_net (option_map (net_with (finished net_built.rules (net_end true).held)) t)) is
  net_asks false k is = ap (λ (t : Option ℕ). option_map asks_net (option_map (net_with (finished net_built.rules (net_end false).held)) t)) is

chosen_then : {A B : Type 0} (b : Bool) (x : Option A) (f : A → Option B) (y : B) → option_and_then f (cond b x None) ≡ Some y → b ≡ true
chosen_then true x f y h = refl
chosen_then false x f y h = absurd (cc)

threads_plain : (word : Text) (n : ℕ) → threads_of (Some word) ≡ Some n → is_plain word ≡ true
threads_plain word n h = number_plain word (chosen_then (is_number word) _ as_threads n h)

threads_taken : ThreadsAreTaken
threads_taken s word n is =
    let p = threads_plain word n is in
    asked_is (codes "net") (codes "net") net_built _ net_enters (net_end word p s) (net_goes word p s) (net_fine word p s) ∙ net_asks word p s n is

net_taken : NetIsTaken
unfolding clap_on_literals app faults found asked_of
net_taken = (refl, refl, threads_taken)

-- ---- `serve`

abbrev serve_built : Shape
serve_built = as_built serve

serve_enters : Enters (codes "serve") (codes "serve") serve_built
unfolding clap_on_literals app
serve_enters = record { halts = refl; passes = refl; names_it = refl }

-- what was found of the words that are no options
abbrev dialled : List Text → List Row
dialled [] = []
dialled (v ∷ vs) = given (codes "dial") (v ∷ vs) ∷ []

-- what was found of `--rules` and `--admin`, where they stand, before other rows
abbrev ruled : Bool → Bool → List Row → List Row
ruled true true rows = given (codes "rules") (codes "true" ∷ []) ∷ given (codes "admin") (codes "true" ∷ []) ∷ rows
ruled true false rows = given (codes "rules") (codes "true" ∷ []) ∷ rows
ruled false true rows = given (codes "admin") (codes "true" ∷ []) ∷ rows
ruled false false rows = rows

module _ (id listen : Text) (pid : is_plain id ≡ true) (plisten : is_plain listen ≡ true) where
  abbrev id_found : List Row
  id_found = given (codes "id") (id ∷ []) ∷ []

  abbrev all_found : Bool → Bool → List Text → List Row
  all_found rules admin vs = given (codes "id") (id ∷ []) ∷ given (codes "listen") (listen ∷ []) ∷ ruled rules admin (dialled vs)

  -- the walk behind the address, and behind `--rules` and `--admin`
  abbrev behind_options : Bool → Bool → Held
  behind_options true true = record { rows = all_found true true []; pending = None; skip = 0 }
  behind_options true false = record { rows = all_found true false []; pending = None; skip = 0 }
  behind_options false true = record { rows = all_found false true []; pending = None; skip = 0 }
  behind_options false false = holding id_found (codes "listen") (listen ∷ [])

  abbrev listening : Bool → Bool → Walk
  listening rules admin = between (behind_options rules admin) idle

  -- the walk behind some addresses to dial, of which the last is not noted yet
  abbrev dialling : Bool → Bool → List Text → Text → Walk
  dialling rules admin vs last = between (holding (all_found rules admin vs) (codes "dial") (last ∷ [])) positional

  id_named : walked serve_built.rules [] (between nothing_held idle) (codes "--id") ≡ between (holding [] (codes "id") []) (option (codes "id"))
  unfolding clap_on_literals
  id_named = refl

  id_fine : turn_fault serve_built [] (between nothing_held idle) (codes "--id") ≡ []
  unfolding clap_on_literals
  id_fine = refl

  listen_named : walked serve_built.rules [] (between (holding [] (codes "id") (id ∷ [])) idle) (codes "--listen")
      ≡ between (holding id_found (codes "listen") []) (option (codes "listen"))
  unfolding clap_on_literals
  listen_named = refl

  listen_fine : turn_fault serve_built [] (between (holding [] (codes "id") (id ∷ [])) idle) (codes "--listen") ≡ []
  unfolding clap_on_literals
  listen_fine = refl

  rules_named : walked serve_built.rules [] (listening false false) (codes "--rules") ≡ listening true false
  unfolding clap_on_literals
  rules_named = refl

  rules_fine : turn_fault serve_built [] (listening false false) (codes "--rules") ≡ []
  unfolding clap_on_literals
  rules_fine = refl

  admin_named : (rules : Bool) → walked serve_built.rules [] (listening rules false) (codes "--admin") ≡ listening rules true
  unfolding clap_on_literals
  admin_named true = refl
  admin_named false = refl

  admin_fine : (rules : Bool) → turn_fault serve_built [] (listening rules false) (codes "--admin") ≡ []
  unfolding clap_on_literals
  admin_fine true = refl
  admin_fine false = refl

  listens : (rest : List Text) (end : Walk) → Goes serve_built (listening false false) rest end
      → Goes serve_built (walk_from nothing_held) (codes "--id" ∷ id ∷ codes "--listen" ∷ listen ∷ rest) end
  listens rest end go =
      valued serve_built _ [] _ (codes "id") id _ end id_named id_fine (value_walked serve_built (holding [] (codes "id") []) (codes "id") id pid) pid
      (valued serve_built _ id_found _ (codes "listen") listen _ end listen_named listen_fine
      (value_walked serve_built (holding id_found (codes "listen") []) (codes "listen") listen plisten) plisten go)

  -- the walk goes on behind `--admin`, where it stands
  admits : (rules admin : Bool) (rest : List Text) (end : Walk) → Goes serve_built (listening rules admin) rest end
      → Goes serve_built (listening rules false) (flag_words (codes "--admin") admin ++ rest) end
  admits rules true rest end go =
      goes_on serve_built (listening rules false) (listening rules true) (codes "--admin") rest end (admin_named rules) (admin_fine rules) go
  admits rules false rest end go = go

  starts : (rules admin : Bool) (rest : List Text) (end : Walk) → Goes serve_built (listening rules admin) rest end
      → Goes serve_built (walk_from nothing_held) (codes "--id" ∷ id ∷ codes "--listen" ∷ listen ∷ (flag_words (codes "--rules") rules ++ (flag_words (codes "--admin") admin ++ rest))) end
  starts true admin rest end go =
      let more = flag_words (codes "--admin") admin ++ rest in
      listens (codes "--rules" ∷ more) end
      (goes_on serve_built (listening false false) (listening true false) (codes "--rules") more end rules_named rules_fine (admits true admin rest end go))
  starts false admin rest end go = listens (flag_words (codes "--admin") admin ++ rest) end (admits false admin rest end go)

  -- one address more
  notes : (rules admin : Bool) (vs : List Text) (last word : Text) → is_plain word ≡ true
      → walked serve_built.rules [] (dialling rules admin vs last) word ≡ dialling rules admin (vs ++ last ∷ []) word
  notes true true [] last word p = more_walked serve_built (holding (all_found true true []) (codes "dial") (last ∷ [])) word p
  notes true true (v ∷ vs) last word p = more_walked serve_built (holding (all_found true true (v ∷ vs)) (codes "dial") (last ∷ [])) word p
  notes true false [] last word p = more_walked serve_built (holding (all_found true false []) (codes "dial") (last ∷ [])) word p
  notes true false (v ∷ vs) last word p = more_walked serve_built (holding (all_found true false (v ∷ vs)) (codes "dial") (last ∷ [])) word p
  notes false true [] last word p = more_walked serve_built (holding (all_found false true []) (codes "dial") (last ∷ [])) word p
  notes false true (v ∷ vs) last word p = more_walked serve_built (holding (all_found false true (v ∷ vs)) (codes "dial") (last ∷ [])) word p
  notes false false [] last word p = more_walked serve_built (holding (all_found false false []) (codes "dial") (last ∷ [])) word p
  notes false false (v ∷ vs) last word p = more_walked serve_built (holding (all_found false false (v ∷ vs)) (codes "dial") (last ∷ [])) word p

  notes_fine : (rules admin : Bool) (vs : List Text) (last word : Text) → is_plain word ≡ true → turn_fault serve_built [] (dialling rules admin vs last) word ≡ []
  notes_fine true true [] last word p = more_fault serve_built (holding (all_found true true []) (codes "dial") (last ∷ [])) word p
  notes_fine true true (v ∷ vs) last word p = more_fault serve_built (holding (all_found true true (v ∷ vs)) (codes "dial") (last ∷ [])) word p
  notes_fine true false [] last word p = more_fault serve_built (holding (all_found true false []) (codes "dial") (last ∷ [])) word p
  notes_fine true false (v ∷ vs) last word p = more_fault serve_built (holding (all_found true false (v ∷ vs)) (codes "dial") (last ∷ [])) word p
  notes_fine false true [] last word p = more_fault serve_built (holding (all_found false true []) (codes "dial") (last ∷ [])) word p
  notes_fine false true (v ∷ vs) last word p = more_fault serve_built (holding (all_found false true (v ∷ vs)) (codes "dial") (last ∷ [])) word p
  notes_fine false false [] last word p = more_fault serve_built (holding (all_found false false []) (codes "dial") (last ∷ [])) word p
  notes_fine false false (v ∷ vs) last word p = more_fault serve_built (holding (all_found false false (v ∷ vs)) (codes "dial") (last ∷ [])) word p

  -- all addresses: of those noted and the last one, and those behind them, the last is not noted in the end
  record Dials (rules admin : Bool) (vs : List Text) (last : Text) (rest : List Text) : Type 0 where
    noted : List Text
    final : Text
    all : noted ++ final ∷ [] ≡ vs ++ last ∷ rest
    goes : Goes serve_built (dialling rules admin vs last) rest (dialling rules admin noted final)

  dials : (rules admin : Bool) (vs : List Text) (last : Text) (rest : List Text) → list_all is_plain rest ≡ true → Dials rules admin vs last rest
  dials rules admin vs last [] p = record { noted = vs; final = last; all = refl; goes = stays serve_built (dialling rules admin vs last) }
  dials rules admin vs last (word ∷ rest) p =
      let h = both_hold (is_plain word) (list_all is_plain rest) p in
      let more = dials rules admin (vs ++ last ∷ []) word rest h.1 in
      record {
        noted = more.noted;
        final = more.final;
        all = more.all ∙ append_assoc vs (last ∷ []) (word ∷ rest);
        goes = goes_on serve_built (dialling rules admin vs last) (dialling rules admin (vs ++ last ∷ []) word) word rest (dialling rules admin more.noted more.final)
            (notes rules admin vs last word h.0) (notes_fine rules admin vs last word h.0) more.goes;
      }

  first_dial : (rules admin : Bool) (word : Text) → is_plain word ≡ true → walked serve_built.rules [] (listening rules admin) word ≡ dialling rules admin [] word
  first_dial true true word p = idle_walked serve_built (behind_options true true) word p
  first_dial true false word p = idle_walked serve_built (behind_options true false) word p
  first_dial false true word p = idle_walked serve_built (behind_options false true) word p
  first_dial false false word p = idle_walked serve_built (behind_options false false) word p

  first_fine : (rules admin : Bool) (word : Text) → is_plain word ≡ true → turn_fault serve_built [] (listening rules admin) word ≡ []
  first_fine true true word p = idle_fault serve_built (behind_options true true) word p
  first_fine true false word p = idle_fault serve_built (behind_options true false) word p
  first_fine false true word p = idle_fault serve_built (behind_options false true) word p
  first_fine false false word p = idle_fault serve_built (behind_options false false) word p

  -- where the walk ends: behind the options, or behind the addresses to dial
  listening_fine : (rules admin : Bool) → fault_behind serve_built (listening rules admin) ≡ []
  unfolding clap_on_literals
  listening_fine true true = refl
  listening_fine true false = refl
  listening_fine false true = refl
  listening_fine false false = refl

  dialling_fine : (rules admin : Bool) (vs : List Text) (last : Text) → fault_behind serve_built (dialling rules admin vs last) ≡ []
  unfolding clap_on_literals
  dialling_fine true true [] last = refl
  dialling_fine true true (v ∷ vs) last = refl
  dialling_fine true false [] last = refl
  dialling_fine true false (v ∷ vs) last = refl
  dialling_fine false true [] last = refl
  dialling_fine false true (v ∷ vs) last = refl
  dialling_fine false false [] last = refl
  dialling_fine false false (v ∷ vs) last = refl

  -- what the words ask for with these dials
  abbrev asked_with : Bool → Bool → Text → List DialState → Served
  asked_with rules admin zid ds = record { id = zid; listen = listen; log = false; rules = rules; explain = false; admin = admin; dials = ds }

  -- what is asked for at those ends
  asks_none : (rules admin : Bool) (zid : Text) → zid_of_hex id ≡ Some zid
      → asked_by (serve_built.name, finished serve_built.rules (listening rules admin).held) ≡ Some (asks_serve (asked_with rules admin zid []))
  asks_none true true zid is = ap (λ (z : Option Text). option_map asks_serve (option_and_then if_it_explains (option_and_then (served_as_named (finished serve_built.rules (listening true true).held) listen) z))) is
  asks_none true false zid is = ap (λ (z : Option Text). option_map asks_serve (option_and_then if_it_explains (option_and_then (served_as_named (finished serve_built.rules (listening true false).held) listen) z))) is
  asks_none false true zid is = ap (λ (z : Option Text). option_map asks_serve (option_and_then if_it_explains (option_and_then (served_as_named (finished serve_built.rules (listening false true).held) listen) z))) is
  asks_none false false zid is = ap (λ (z : Option Text). option_map asks_serve (option_and_then if_it_explains (option_and_then (served_as_named (finished serve_built.rules (listening false false).held) listen) z))) is

  -- with some words to dial: those that were found come to these dials
  asks_found : (rows : List Row) (rules admin : Bool) (zid : Text) (ds : List DialState) → zid_of_hex id ≡ Some zid
      → served_as_named rows listen zid ≡ Some (asked_with rules admin zid ds)
      → option_map asks_serve (option_and_then if_it_explains (option_and_then (served_as_named rows listen) (zid_of_hex id))) ≡ Some (asks_serve (asked_with rules admin zid ds))
  asks_found rows rules admin zid ds is named =
      ap (λ (z : Option Text). option_map asks_serve (option_and_then if_it_explains (option_and_then (served_as_named rows listen) z))) is
      ∙ ap (λ (z : Option Served). option_map asks_serve (option_and_then if_it_explains z)) named

  asks_dials : (rules admin : Bool) (vs : List Text) (last zid : Text) (ds : List DialState) → zid_of_hex id ≡ Some zid → dials_of (vs ++ last ∷ []) ≡ Some ds
      → asked_by (serve_built.name, finished serve_built.rules (dialling rules admin vs last).held) ≡ Some (asks_serve (asked_with rules admin zid ds))
  asks_dials true true [] last zid ds is reads =
      asks_found (finished serve_built.rules (dialling true true [] last).held) true true zid ds is
      (ap (λ (z : Option (List DialState)). option_map (served_at (finished serve_built.rules (dialling true true [] last).held) listen zid) z) reads)
  asks_dials true true (v ∷ vs) last zid ds is reads =
      asks_found (finished serve_built.rules (dialling true true (v ∷ vs) last).held) true true zid ds is
      (ap (λ (z : Option (List DialState)). option_map (served_at (finished serve_built.rules (dialling true true (v ∷ vs) last).held) listen zid) z) reads)
  asks_dials true false [] last zid ds is reads =
      asks_found (finished serve_built.rules (dialling true false [] last).held) true false zid ds is
      (ap (λ (z : Option (List DialState)). option_map (served_at (finished serve_built.rules (dialling true false [] last).held) listen zid) z) reads)
  asks_dials true false (v ∷ vs) last zid ds is reads =
      asks_found (finished serve_built.rules (dialling true false (v ∷ vs) last).held) true false zid ds is
      (ap (λ (z : Option (List DialState)). option_map (served_at (finished serve_built.rules (dialling true false (v ∷ vs) last).held) listen zid) z) reads)
  asks_dials false true [] last zid ds is reads =
      asks_found (finished serve_built.rules (dialling false true [] last).held) false true zid ds is
      (ap (λ (z : Option (List DialState)). option_map (served_at (finished serve_built.rules (dialling false true [] last).held) listen zid) z) reads)
  asks_dials false true (v ∷ vs) last zid ds is reads =
      asks_found (finished serve_built.rules (dialling false true (v ∷ vs) last).held) false true zid ds is
      (ap (λ (z : Option (List DialState)). option_map (served_at (finished serve_built.rules (dialling false true (v ∷ vs) last).held) listen zid) z) reads)
  asks_dials false false [] last zid ds is reads =
      asks_found (finished serve_built.rules (dialling false false [] last).held) false false zid ds is
      (ap (λ (z : Option (List DialState)). option_map (served_at (finished serve_built.rules (dialling false false [] last).held) listen zid) z) reads)
  asks_dials false false (v ∷ vs) last zid ds is reads =
      asks_found (finished serve_built.rules (dialling false false (v ∷ vs) last).held) false false zid ds is
      (ap (λ (z : Option (List DialState)). option_map (served_at (finished serve_built.rules (dialling false false (v ∷ vs) last).held) listen zid) z) reads)

  serves : (zid : Text) (rules admin : Bool) (words : List Text) (ds : List DialState) → zid_of_hex id ≡ Some zid → list_all is_plain words ≡ true → dials_of words ≡ Some ds
      → asked_of (codes "serve" ∷ codes "--id" ∷ id ∷ codes "--listen" ∷ listen ∷ (flag_words (codes "--rules") rules ++ (flag_words (codes "--admin") admin ++ words)))
      ≡ Some (asks_serve (asked_with rules admin zid ds))
  serves zid rules admin [] ds is p reads =
      let end = listening rules admin in
      asked_is (codes "serve") (codes "serve") serve_built _ serve_enters end (starts rules admin [] end (stays serve_built end)) (listening_fine rules admin)
      ∙ asks_none rules admin zid is
      ∙ ap (λ (z : Option (List DialState)). option_map asks_serve (option_map (λ (ds : List DialState). asked_with rules admin zid ds) z)) reads
  serves zid rules admin (word ∷ rest) ds is p reads =
      let h = both_hold (is_plain word) (list_all is_plain rest) p in
      let d = dials rules admin [] word rest h.1 in
      let end = dialling rules admin d.noted d.final in
      asked_is (codes "serve") (codes "serve") serve_built _ serve_enters end
      (starts rules admin (word ∷ rest) end
      (goes_on serve_built (listening rules admin) (dialling rules admin [] word) word rest end (first_dial rules admin word h.0) (first_fine rules admin word h.0) d.goes))
      (dialling_fine rules admin d.noted d.final)
      ∙ asks_dials rules admin d.noted d.final zid ds is (ap dials_of d.all ∙ reads)

serve_taken : ServeIsTaken
serve_taken id zid listen rules admin words ds is plain plains reads = serves id listen (zid_plain id zid is) plain zid rules admin words ds is plains reads

pub forms_taken : FormsAreTaken
forms_taken = (net_taken, serve_taken, make_taken)
