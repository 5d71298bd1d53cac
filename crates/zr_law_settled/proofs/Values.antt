-- What routers know of logs is what was made: a history gives the set that each log led to after each number of changes, and stands in proofs
-- alone. A change on the way leads from the set before it to the set under its number, and a snapshot is the set under its number.
use Rattle.std.proofs.Common.{◌≡◌, ◌≤◌, ◌+◌, ℕ, Bool, true, false, cond, List, [], ◌∷◌, ◌++◌, length, Option, Some, ◌⊎◌, inl, inr, refl, sym, ap, ◌∙◌, subst, arith}
use Rattle.std.specs.Prelude.{◌&&◌, nat_lt, flat_map}
use Rattle.std.specs.List.{AllByRecursion}
use Rattle.std.specs.Option.{option_map_or}
use Rattle.std.proofs.lemmas.Bool.{le-ltb, lt-ltb}
use Rattle.std.proofs.lemmas.Grind.{flat_map-append}
use Rattle.zr_id.specs.Zid.{is_named}
use Rattle.zr_id.specs.Record.{RecordState}
use Rattle.zr_graph.proofs.Names.{same_refl}
use Rattle.zr_msg.specs.declared.decl.Decl.{Decl}
use Rattle.zr_msg.specs.declared.msg.Msg.{Msg}
use Rattle.zr_msg.specs.declared.msg.Msg.TheVariants.{Sub, Unsub, Token, Untoken, Able, Unable, Interest, EndInterest, ToldSub, ToldAble, ToldUnsub, ToldToken, ToldUntoken, ToldUnable, ToldEnd, Push, Request, Response, Final, State, Step, Snap}
use Rattle.zr_log_set.specs.Decls.{IsSet, set_of}
use Rattle.zr_log_set.proofs.Decls.{sets_same, set_all, has_all}
use Rattle.zr_log.specs.declared.log.Log.{Log}
use Rattle.zr_log.specs.Log.{Change, changed}
use Rattle.zr_log.specs.Known.{KnownState, log_of, position, decls, after_own}
use Rattle.zr_log.proofs.Changes.{set_changed}
use Rattle.zr_node_spec.specs.Changes.{after_changes, steps}
use Rattle.zr_node_spec.specs.Snapshots.{is_new_child, snapshot}
use Rattle.zr_node_spec.proofs.Changes.{decls_with}
use Rattle.zr_law_settled.proofs.Answering.{TellsNothing}
use Rattle.zr_law_settled.proofs.Spreading.{Name, Note, Made}
use Rattle.zr_law_settled.proofs.Telling.{more}
use Rattle.zr_lists.proofs.Each.{All-append}

-- ---- readings

-- what a message brings of a log: a change, or a set
abbrev pub Brought : Type 0
Brought = Change ⊎ List Decl

abbrev pub brings : Msg → List (Note Brought)
brings (Sub id key) = []
brings (Unsub id) = []
brings (Token id key) = []
brings (Untoken id) = []
brings (Able id key complete) = []
brings (Unable id) = []
brings (Interest id current future kinds key aggregate) = []
brings (EndInterest id) = []
brings (ToldSub id key interest) = []
brings (ToldToken id key interest) = []
brings (ToldAble id key complete interest) = []
brings (ToldUnsub id) = []
brings (ToldUntoken id) = []
brings (ToldUnable id) = []
brings (ToldEnd interest) = []
brings (Push tree content) = []
brings (Request tree id target content) = []
brings (Response id content) = []
brings (Final id extras) = []
brings (State links) = []
brings (Step source number added decl) = record { source = source; known = record { number = number; value = inl (record { added = added; decl = decl }) } } ∷ []
brings (Snap source number decls) = record { source = source; known = record { number = number; value = inr decls } } ∷ []

-- a query brings nothing of logs, nor does what answers it
pub brings_none : TellsNothing brings
brings_none = record { asks = λ tree number target content. refl; replies = λ number content. refl; ends = λ number extras. refl }

abbrev pub Sets : Type 0
Sets = Made (List Decl)

-- a change leads to the set under its number, and a set is the one under its number
abbrev pub IsMade : Sets → Name → ℕ → Brought → Type 0
IsMade made z number (inl c) = (n : ℕ) × (number ≡ n + 1) × (made z number ≡ changed (made z n) c)
IsMade made z number (inr ds) = ds ≡ made z number

abbrev pub AllMade : Sets → (Name → ℕ) → List (Note Brought) → Type 0
AllMade made most ms = AllByRecursion (λ m. (m.known.number ≤ most m.source) × IsMade made m.source m.known.number m.known.value) ms

-- what was made stays so
pub record MadeOn (made made' : Sets) (most most' : Name → ℕ) : Type 0 where
  pub later : (z : Name) → most z ≤ most' z
  pub stays : (z : Name) (n : ℕ) → n ≤ most z → made' z n ≡ made z n

pub made_later : (made made' : Sets) (most most' : Name → ℕ) → MadeOn made made' most most' → (ms : List (Note Brought)) → AllMade made most ms → AllMade made' most' ms
made_later made made' most most' on [] h = tt
made_later made made' most most' on (m ∷ ms) h = ((omega (arith, h.0.0, on.later m.source), by m.known.value h.0.1), made_later made made' most most' on ms h.1)
  where
    by : (v : Brought) → IsMade made m.source m.known.number v → IsMade made' m.source m.known.number v
    by (inl c) i = (i.0, i.1, on.stays m.source m.known.number h.0.0 ∙ i.2 ∙ ap (λ s. changed s c) (sym (on.stays m.source i.0 (omega (arith, i.1, h.0.0)))))
    by (inr ds) i = i ∙ sym (on.stays m.source m.known.number h.0.0)

pub made_of_append : (made : Sets) (most : Name → ℕ) (xs ys : List Msg) → AllMade made most (flat_map brings xs) → AllMade made most (flat_map brings ys) → AllMade made most (flat_map brings (xs ++ ys))
made_of_append made most xs ys h k = subst (λ ms. AllMade made most ms) (sym (flat_map-append brings xs ys)) (All-append (λ m. (m.known.number ≤ most m.source) × IsMade made m.source m.known.number m.known.value) (flat_map brings xs) (flat_map brings ys) h k)

pub made_if : (made : Sets) (most : Name → ℕ) (t : Bool) (xs : List Msg) → AllMade made most (flat_map brings xs) → AllMade made most (flat_map brings (cond t xs []))
made_if made most true xs h = h
made_if made most false xs h = tt

-- ---- changes of a log

module _ (a : Name) where
  -- the history once a log has these changes behind its first so many
  abbrev pub made_on : Sets → ℕ → List Change → Sets
  made_on made p [] = made
  made_on made p (c ∷ cs) = made_on (more made a p (changed (made a p) c)) (p + 1) cs

  more_old : (made : Sets) (p : ℕ) (v : List Decl) (z : Name) (n : ℕ) → (is_named a z ≡ true → n ≤ p) → more made a p v z n ≡ made z n
  more_old made p v z n le = by (is_named a z) refl
    where
      by : (t : Bool) → is_named a z ≡ t → cond (t && nat_lt p n) v (made z n) ≡ made z n
      by false e = refl
      by true e = ap (λ t. cond t v (made z n)) (le-ltb p n (le e))

  more_new : (made : Sets) (p : ℕ) (v : List Decl) → more made a p v a (p + 1) ≡ v
  more_new made p v = ap (λ t. cond (t && nat_lt p (p + 1)) v (made a (p + 1))) (same_refl a) ∙ ap (λ t. cond t v (made a (p + 1))) (lt-ltb p (p + 1) (omega arith))

  -- up to those it is the same
  pub made_old : (cs : List Change) (made : Sets) (p : ℕ) (z : Name) (n : ℕ) → (is_named a z ≡ true → n ≤ p) → made_on made p cs z n ≡ made z n
  made_old [] made p z n le = refl
  made_old (c ∷ cs) made p z n le =
      made_old cs (more made a p (changed (made a p) c)) (p + 1) z n (λ e. let below = le e in omega (arith, below)) ∙ more_old made p (changed (made a p) c) z n le

  -- each change leads on
  pub steps_made : (cs : List Change) (made : Sets) (p : ℕ) (most : Name → ℕ) → p + length cs ≤ most a → AllMade (made_on made p cs) most (flat_map brings (steps a p cs))
  steps_made [] made p most le = tt
  steps_made (c ∷ cs) made p most le =
      ((omega (arith, le), (p, refl, first)), steps_made cs (more made a p (changed (made a p) c)) (p + 1) most (omega (arith, le)))
    where
      one : Sets
      one = more made a p (changed (made a p) c)

      first : made_on made p (c ∷ cs) a (p + 1) ≡ changed (made_on made p (c ∷ cs) a p) c
      first =
          made_old cs one (p + 1) a (p + 1) (λ e. omega arith) ∙ more_new made p (changed (made a p) c)
          ∙ ap (λ s. changed s c) (sym (made_old cs one (p + 1) a p (λ e. omega arith) ∙ more_old made p (changed (made a p) c) a p (λ e. omega arith)))

  -- what was made are sets
  pub sets_on : (cs : List Change) (made : Sets) (p : ℕ) → ((z : Name) (n : ℕ) → IsSet (made z n)) → (z : Name) (n : ℕ) → IsSet (made_on made p cs z n)
  sets_on [] made p h z n = h z n
  sets_on (c ∷ cs) made p h z n = sets_on cs (more made a p (changed (made a p) c)) (p + 1) one z n
    where
      one : (z : Name) (n : ℕ) → IsSet (more made a p (changed (made a p) c) z n)
      one z n = by (is_named a z && nat_lt p n)
        where
          by : (t : Bool) → IsSet (cond t (changed (made a p) c) (made z n))
          by true = set_changed (made a p) c (h a p)
          by false = h z n

-- once its log has these changes a router has the set that they lead to
pub decls_changes : (k : KnownState) (cs : List Change) (made : Sets) (p : ℕ) → decls k k.me ≡ made k.me p → decls (after_changes k cs) k.me ≡ made_on k.me made p cs k.me (p + length cs)
decls_changes k [] made p h = h ∙ ap (made k.me) (omega arith)
decls_changes k (c ∷ cs) made p h =
    decls_changes (after_own k c) cs (more made k.me p (changed (made k.me p) c)) (p + 1) one
    ∙ ap (made_on k.me (more made k.me p (changed (made k.me p) c)) (p + 1) cs k.me) (omega arith)
  where
    one : decls (after_own k c) k.me ≡ more made k.me p (changed (made k.me p) c) k.me (p + 1)
    one =
        decls_with k k.me (position k k.me + 1) (changed (decls k k.me) c) k.me
        ∙ ap (λ t. cond t (changed (decls k k.me) c) (decls k k.me)) (same_refl k.me)
        ∙ ap (λ s. changed s c) h
        ∙ sym (more_new k.me made p (changed (made k.me p) c))

pub decls_others : (k : KnownState) (cs : List Change) (z : Name) → is_named k.me z ≡ false → decls (after_changes k cs) z ≡ decls k z
decls_others k [] z other = refl
decls_others k (c ∷ cs) z other =
    decls_others (after_own k c) cs z other ∙ decls_with k k.me (position k k.me + 1) (changed (decls k k.me) c) z
    ∙ ap (λ t. cond t (changed (decls k k.me) c) (decls k z)) other

-- ---- sets

-- a set's declarations make it
pub set_again : (ds : List Decl) → IsSet ds → set_of ds ≡ ds
set_again ds h = sets_same (set_of ds) ds (set_all ds) h (λ e. has_all ds e)

-- ---- snapshots

module _ (k : KnownState) (before after : List RecordState) (me name : Name) (made : Sets) (most : Name → ℕ) (le : (z : Name) → position k z ≤ most z) (is : (z : Name) → decls k z ≡ made z (position k z)) where
  pub snaps_made : (logs : List Log) → AllByRecursion (λ l. log_of k l.source ≡ Some l) logs →
      AllMade made most (flat_map brings (flat_map (λ log. cond (is_new_child before after me log.source name) (snapshot log ∷ []) []) logs))
  snaps_made [] h = tt
  snaps_made (log ∷ logs) h =
      made_of_append made most (cond (is_new_child before after me log.source name) (snapshot log ∷ []) []) (flat_map (λ log. cond (is_new_child before after me log.source name) (snapshot log ∷ []) []) logs)
      (made_if made most (is_new_child before after me log.source name) (snapshot log ∷ []) ((within, whole), tt)) (snaps_made logs h.1)
    where
      at : position k log.source ≡ log.position
      at = ap (λ (o : Option Log). option_map_or (λ l. l.position) o 0) h.0

      within : log.position ≤ most log.source
      within = omega (arith, at, le log.source)

      whole : log.decls ≡ made log.source log.position
      whole = sym (ap (λ (o : Option Log). option_map_or (λ l. l.decls) o []) h.0) ∙ is log.source ∙ ap (made log.source) at
