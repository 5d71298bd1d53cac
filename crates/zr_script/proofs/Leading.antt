-- What was read leads on to what comes then; a refusal stays whatever would have come.
use Rattle.std.proofs.Common.{◌≡◌, ℕ, Bool, List, [], ◌∷◌, Result, Ok, Err, sym, ap, ◌∙◌, subst}
use Rattle.zr_msg.specs.declared.msg.Kinds.{Kinds}
use Rattle.zr_script_spec.specs.declared.command.Command.{Command}
use Rattle.zr_script_spec.specs.declared.command.Mode.{Mode}
use Rattle.zr_script_spec.specs.declared.error.ScriptError.{ScriptError}
use Rattle.zr_script_spec.specs.declared.error.ScriptError.TheVariants.{UnknownCommand, BadWords, UnknownName, NameTaken, BadKey, NotLinked, AlreadyLinked, NothingThere, NotAsked, NotSettled, NotSamples, NotJoined, Limit, NoMemory}
use Rattle.zr_script_spec.specs.Step.{◌>>=◌, IsSaid}
use Rattle.zr_script_spec.specs.Words.{two_of, some_two_of, three_of, zid_at, number_at, link_weight_at, key_at, mode_at, kinds_at, aggregate_at}
use Rattle.zr_script.specs.Args.{LeadsOn, numbered_then, names_then, linked_then, pair_then, keyed_then, terms_then}

-- a step that is refused, whatever would have come behind it
pub stays : {A B : Type 0} (e : ScriptError) (m : Result A ScriptError) (k : A → Result B ScriptError) → IsSaid (Err e) m → IsSaid {X = B} (Err e) (m >>= k)
stays UnknownCommand m k h = ap (λ x. x >>= k) h
stays BadWords m k h = ap (λ x. x >>= k) h
stays UnknownName m k h = ap (λ x. x >>= k) h
stays NameTaken m k h = ap (λ x. x >>= k) h
stays BadKey m k h = ap (λ x. x >>= k) h
stays NotLinked m k h = ap (λ x. x >>= k) h
stays AlreadyLinked m k h = ap (λ x. x >>= k) h
stays NothingThere m k h = ap (λ x. x >>= k) h
stays NotAsked m k h = ap (λ x. x >>= k) h
stays NotSettled m k h = ap (λ x. x >>= k) h
stays NotSamples m k h = ap (λ x. x >>= k) h
stays NotJoined m k h = ap (λ x. x >>= k) h
stays Limit m k h = ap (λ x. x >>= k) h
stays NoMemory m k h = tt

-- words that do not fit, whatever would have come behind them
pub stay_words : {A : Type 0} (e : ScriptError) (m : Result A ScriptError) (k : A → Result Command ScriptError) → (e ≡ BadWords) × (m ≡ Err BadWords) → IsSaid {X = Command} (Err e) (m >>= k)
stay_words e m k h = subst (λ z. IsSaid {X = Command} (Err z) (m >>= k)) (sym h.0) (ap (λ x. x >>= k) h.1)

-- ---- a name and a number

pub numbered_stay : (name number : List ℕ) (e : ScriptError) → IsSaid {X = List ℕ} (Err e) (zid_at name) → LeadsOn {X = List ℕ × ℕ} (Err e) (numbered_then name number)
numbered_stay name number e h = λ then. stays e (zid_at name) (λ a. number_at number >>= λ n. then (a, n)) h

pub numbered_stay_last : (name number id : List ℕ) (e : ScriptError) → zid_at name ≡ Ok id → IsSaid {X = ℕ} (Err e) (number_at number) → LeadsOn {X = List ℕ × ℕ} (Err e) (numbered_then name number)
numbered_stay_last name number id e p h = λ then.
    subst (λ m. IsSaid {X = Command} (Err e) (m >>= λ a. number_at number >>= λ n. then (a, n))) (sym p) (stays e (number_at number) (λ n. then (id, n)) h)

pub numbered_lead : (name number id : List ℕ) (n : ℕ) → zid_at name ≡ Ok id → number_at number ≡ Ok n → LeadsOn (Ok (id, n)) (numbered_then name number)
numbered_lead name number id n p q = λ then.
    ap (λ m. m >>= λ a. number_at number >>= λ n. then (a, n)) p ∙ ap (λ m. m >>= λ n. then (id, n)) q

-- two words, which are a name and a number
pub pair_words : (ws : List (List ℕ)) (e : ScriptError) → (e ≡ BadWords) × (two_of ws ≡ Err BadWords) → LeadsOn {X = List ℕ × ℕ} (Err e) (pair_then ws)
pair_words ws e h = λ then. stay_words e (two_of ws) (λ w. numbered_then w.0 w.1 then) h

pub pair_lead : (r : Result (List ℕ × ℕ) ScriptError) (ws : List (List ℕ)) (a b : List ℕ) → ws ≡ a ∷ b ∷ [] → LeadsOn r (numbered_then a b) → LeadsOn r (pair_then ws)
pair_lead r ws a b e h = subst (λ ws. LeadsOn r (pair_then ws)) (sym e) h

-- ---- two names

pub names_words : (ws : List (List ℕ)) (e : ScriptError) → (e ≡ BadWords) × (two_of ws ≡ Err BadWords) → LeadsOn {X = List ℕ × List ℕ} (Err e) (names_then ws)
names_words ws e h = λ then. stay_words e (two_of ws) (λ w. zid_at w.0 >>= λ x. zid_at w.1 >>= λ y. then (x, y)) h

pub names_stay : (ws : List (List ℕ)) (a b : List ℕ) (e : ScriptError) → ws ≡ a ∷ b ∷ [] → IsSaid {X = List ℕ} (Err e) (zid_at a) → LeadsOn {X = List ℕ × List ℕ} (Err e) (names_then ws)
names_stay ws a b e p h = λ then.
    subst (λ ws. IsSaid {X = Command} (Err e) (names_then ws then)) (sym p) (stays e (zid_at a) (λ x. zid_at b >>= λ y. then (x, y)) h)

pub names_stay_last : (ws : List (List ℕ)) (a b x : List ℕ) (e : ScriptError) → ws ≡ a ∷ b ∷ [] → zid_at a ≡ Ok x → IsSaid {X = List ℕ} (Err e) (zid_at b) → LeadsOn {X = List ℕ × List ℕ} (Err e) (names_then ws)
names_stay_last ws a b x e p q h = λ then.
    subst (λ ws. IsSaid {X = Command} (Err e) (names_then ws then)) (sym p)
    (subst (λ m. IsSaid {X = Command} (Err e) (m >>= λ x. zid_at b >>= λ y. then (x, y))) (sym q) (stays e (zid_at b) (λ y. then (x, y)) h))

pub names_lead : (ws : List (List ℕ)) (a b x y : List ℕ) → ws ≡ a ∷ b ∷ [] → zid_at a ≡ Ok x → zid_at b ≡ Ok y → LeadsOn (Ok (x, y)) (names_then ws)
names_lead ws a b x y e p q = λ then.
    ap (λ ws. names_then ws then) e ∙ ap (λ m. m >>= λ a. zid_at b >>= λ b. then (a, b)) p ∙ ap (λ m. m >>= λ b. then (x, b)) q

-- ---- two names, and a weight

abbrev linked_rest : List ℕ → List (List ℕ) → (List ℕ × List ℕ × ℕ → Result Command ScriptError) → List ℕ → Result Command ScriptError
linked_rest b more then x = zid_at b >>= λ y. link_weight_at more >>= λ n. then (x, y, n)

pub linked_words : (ws : List (List ℕ)) (e : ScriptError) → (e ≡ BadWords) × (some_two_of ws ≡ Err BadWords) → LeadsOn {X = List ℕ × List ℕ × ℕ} (Err e) (linked_then ws)
linked_words ws e h = λ then. stay_words e (some_two_of ws) (λ w. zid_at w.0 >>= linked_rest w.1 w.2 then) h

pub linked_stay : (ws more : List (List ℕ)) (a b : List ℕ) (e : ScriptError) → ws ≡ a ∷ b ∷ more → IsSaid {X = List ℕ} (Err e) (zid_at a) → LeadsOn {X = List ℕ × List ℕ × ℕ} (Err e) (linked_then ws)
linked_stay ws more a b e p h = λ then.
    subst (λ ws. IsSaid {X = Command} (Err e) (linked_then ws then)) (sym p) (stays e (zid_at a) (linked_rest b more then) h)

pub linked_stay_next : (ws more : List (List ℕ)) (a b x : List ℕ) (e : ScriptError) → ws ≡ a ∷ b ∷ more → zid_at a ≡ Ok x → IsSaid {X = List ℕ} (Err e) (zid_at b)
    → LeadsOn {X = List ℕ × List ℕ × ℕ} (Err e) (linked_then ws)
linked_stay_next ws more a b x e p q h = λ then.
    subst (λ ws. IsSaid {X = Command} (Err e) (linked_then ws then)) (sym p)
    (subst (λ m. IsSaid {X = Command} (Err e) (m >>= linked_rest b more then)) (sym q) (stays e (zid_at b) (λ y. link_weight_at more >>= λ n. then (x, y, n)) h))

pub linked_stay_last : (ws more : List (List ℕ)) (a b x y : List ℕ) (e : ScriptError) → ws ≡ a ∷ b ∷ more → zid_at a ≡ Ok x → zid_at b ≡ Ok y → IsSaid {X = ℕ} (Err e) (link_weight_at more)
    → LeadsOn {X = List ℕ × List ℕ × ℕ} (Err e) (linked_then ws)
linked_stay_last ws more a b x y e p q r h = λ then.
    subst (λ ws. IsSaid {X = Command} (Err e) (linked_then ws then)) (sym p)
    (subst (λ m. IsSaid {X = Command} (Err e) (m >>= linked_rest b more then)) (sym q)
    (subst (λ m. IsSaid {X = Command} (Err e) (m >>= λ y. link_weight_at more >>= λ n. then (x, y, n))) (sym r) (stays e (link_weight_at more) (λ n. then (x, y, n)) h)))

pub linked_lead : (ws more : List (List ℕ)) (a b x y : List ℕ) (n : ℕ) → ws ≡ a ∷ b ∷ more → zid_at a ≡ Ok x → zid_at b ≡ Ok y → link_weight_at more ≡ Ok n → LeadsOn (Ok (x, y, n)) (linked_then ws)
linked_lead ws more a b x y n e p q r = λ then.
    ap (λ ws. linked_then ws then) e ∙ ap (λ m. m >>= linked_rest b more then) p ∙ ap (λ m. m >>= λ y. link_weight_at more >>= λ n. then (x, y, n)) q ∙ ap (λ m. m >>= λ n. then (x, y, n)) r

-- ---- a name, a number and a key

pub keyed_words : (ws : List (List ℕ)) (e : ScriptError) → (e ≡ BadWords) × (three_of ws ≡ Err BadWords) → LeadsOn {X = List ℕ × ℕ × List ℕ} (Err e) (keyed_then ws)
keyed_words ws e h = λ then. stay_words e (three_of ws) (λ w. numbered_then w.0 w.1 (λ y. key_at w.2 >>= λ key. then (y.0, y.1, key))) h

pub keyed_stay : (ws : List (List ℕ)) (a b c : List ℕ) (e : ScriptError) → ws ≡ a ∷ b ∷ c ∷ [] → LeadsOn {X = List ℕ × ℕ} (Err e) (numbered_then a b) → LeadsOn {X = List ℕ × ℕ × List ℕ} (Err e) (keyed_then ws)
keyed_stay ws a b c e p h = λ then.
    subst (λ ws. IsSaid {X = Command} (Err e) (keyed_then ws then)) (sym p) (h (λ y. key_at c >>= λ key. then (y.0, y.1, key)))

pub keyed_stay_last : (ws : List (List ℕ)) (a b c x : List ℕ) (n : ℕ) (e : ScriptError) → ws ≡ a ∷ b ∷ c ∷ [] → LeadsOn (Ok (x, n)) (numbered_then a b) → IsSaid {X = List ℕ} (Err e) (key_at c) →
    LeadsOn {X = List ℕ × ℕ × List ℕ} (Err e) (keyed_then ws)
keyed_stay_last ws a b c x n e p q h = λ then.
    subst (λ ws. IsSaid {X = Command} (Err e) (keyed_then ws then)) (sym p)
    (subst (λ z. IsSaid {X = Command} (Err e) z) (sym (q (λ y. key_at c >>= λ key. then (y.0, y.1, key)))) (stays e (key_at c) (λ key. then (x, n, key)) h))

pub keyed_lead : (ws : List (List ℕ)) (a b c x : List ℕ) (n : ℕ) (key : List ℕ) → ws ≡ a ∷ b ∷ c ∷ [] → LeadsOn (Ok (x, n)) (numbered_then a b) → key_at c ≡ Ok key →
    LeadsOn (Ok (x, n, key)) (keyed_then ws)
keyed_lead ws a b c x n key e p q = λ then.
    ap (λ ws. keyed_then ws then) e ∙ p (λ y. key_at c >>= λ key. then (y.0, y.1, key)) ∙ ap (λ m. m >>= λ key. then (x, n, key)) q

-- ---- the terms of an interest

pub terms_stay : (m k : List ℕ) (ws : List (List ℕ)) (e : ScriptError) → IsSaid {X = Mode} (Err e) (mode_at m) → LeadsOn {X = Mode × Kinds × Bool} (Err e) (terms_then m k ws)
terms_stay m k ws e h = λ then. stays e (mode_at m) (λ mode. kinds_at k >>= λ kinds. aggregate_at ws >>= λ all. then (mode, kinds, all)) h

pub terms_stay_next : (m k : List ℕ) (ws : List (List ℕ)) (mode : Mode) (e : ScriptError) → mode_at m ≡ Ok mode → IsSaid {X = Kinds} (Err e) (kinds_at k) →
    LeadsOn {X = Mode × Kinds × Bool} (Err e) (terms_then m k ws)
terms_stay_next m k ws mode e p h = λ then.
    subst (λ x. IsSaid {X = Command} (Err e) (x >>= λ mode. kinds_at k >>= λ kinds. aggregate_at ws >>= λ all. then (mode, kinds, all))) (sym p)
    (stays e (kinds_at k) (λ kinds. aggregate_at ws >>= λ all. then (mode, kinds, all)) h)

pub terms_stay_last : (m k : List ℕ) (ws : List (List ℕ)) (mode : Mode) (kinds : Kinds) (e : ScriptError) → mode_at m ≡ Ok mode → kinds_at k ≡ Ok kinds → IsSaid {X = Bool} (Err e) (aggregate_at ws) →
    LeadsOn {X = Mode × Kinds × Bool} (Err e) (terms_then m k ws)
terms_stay_last m k ws mode kinds e p q h = λ then.
    subst (λ x. IsSaid {X = Command} (Err e) (x >>= λ mode. kinds_at k >>= λ kinds. aggregate_at ws >>= λ all. then (mode, kinds, all))) (sym p)
    (subst (λ x. IsSaid {X = Command} (Err e) (x >>= λ kinds. aggregate_at ws >>= λ all. then (mode, kinds, all))) (sym q) (stays e (aggregate_at ws) (λ all. then (mode, kinds, all)) h))

pub terms_lead : (m k : List ℕ) (ws : List (List ℕ)) (mode : Mode) (kinds : Kinds) (all : Bool) → mode_at m ≡ Ok mode → kinds_at k ≡ Ok kinds → aggregate_at ws ≡ Ok all →
    LeadsOn (Ok (mode, kinds, all)) (terms_then m k ws)
terms_lead m k ws mode kinds all p q r = λ then.
    ap (λ x. x >>= λ mode. kinds_at k >>= λ kinds. aggregate_at ws >>= λ all. then (mode, kinds, all)) p
    ∙ ap (λ x. x >>= λ kinds. aggregate_at ws >>= λ all. then (mode, kinds, all)) q ∙ ap (λ x. x >>= λ all. then (mode, kinds, all)) r
