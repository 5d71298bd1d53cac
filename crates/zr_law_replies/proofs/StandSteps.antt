-- How a query stands goes on: it begins where the query was not asked, a step that concerns other queries alone leaves it, and a step that is one of
-- its moves leads to the stages behind that move (`stands_first`, `stands_same`, `stands_moved`).
use Rattle.std.proofs.Common.{◌≡◌, ℕ, ◌-◌, ◌==◌, ◌&&◌, ◌⊎◌, inl, inr, Bool, true, false, cond, List, [], ◌∷◌, ◌++◌, Some, refl, sym, ap, ◌∙◌, subst}
use Rattle.std.specs.Prelude.{not}
use Rattle.std.specs.List.{list_any}
use Rattle.std.proofs.lemmas.Bool.{false≢true, true≢false, and_parts, false_from_ne_true}
use Rattle.zr_world_spec.specs.World.{RouterState, ClientState, WorldState, router_of, client_of}
use Rattle.zr_world_spec.specs.Acts.{has_number}
use Rattle.zr_world_spec.specs.Moments.{Numbered, Moment}
use Rattle.zr_guarantee.specs.Queries.{Asked, queries, turn, replies, has_ended}
use Rattle.zr_guarantee.specs.Sent.{told_to}
use Rattle.zr_law_queries.specs.Query.{Tree, IsTree, Stage, NotYet, OnTheWay, Here, Over, at_first, is_child, is_not_yet, is_done, is_empty, goes_nowhere, passed_on, closes, replies_at, fits, moved, with_one, Sound, MayBegin, Move, Begin, Say, End, Pass, Close, after, heard_after, got_after, said_after, Agrees}
use Rattle.zr_law_queries.specs.Courses.{way_of, Course, Start, Then}
use Rattle.zr_law_queries.proofs.Moves.{is_not_yet_is, start_sound, move_sound}
use Rattle.zr_law_numbers.specs.Waiting.{Place, Said, is_whole}
use Rattle.zr_law_replies.specs.Answers.{HopState, told_in_turn}
use Rattle.zr_law_replies.specs.Trees.{passes_at, tree_at, home_of}
use Rattle.zr_law_replies.specs.Stands.{IsStill, is_of, is_open, is_asked_or_not, asked_at, Marks, request_to, row_places, open_below, answers_told, answers_at, said_in, is_said_by, latest_release, held_by, held_if, Stands, has_come}
use Rattle.zr_guarantee.specs.Latest.{asks_latest}
use Rattle.zr_world_spec.proofs.Names.{same_name}
use Rattle.zr_id.specs.Zid.{is_named}

abbrev pub Hops : Type 0
Hops = List ℕ → List ℕ → ℕ → HopState

-- ---- who has ended

module _ (t : Tree (List ℕ)) (stage : List ℕ → Stage Said) where
  -- whether a client that is asked has ended, with one move more: it is only by its own end
  abbrev pub ended_after : Move t stage → List ℕ → Bool → Bool
  ended_after (Begin x may) d ended = ended
  ended_after (Say x reply replies leaf here) d ended = ended
  ended_after (End x replies leaf here) d ended = cond (t.same x d) true ended
  ended_after (Pass x y reply replies done child here) d ended = ended
  ended_after (Close x y released child here) d ended = ended

module _ (t : Tree (List ℕ)) (is : IsTree t) (stage : List ℕ → Stage Said) where
  -- so it is with its stage
  pub done_after : Sound t stage → (move : Move t stage) (d : List ℕ) → t.passes d ≡ false → is_done (after t stage move d) ≡ ended_after t stage move d (is_done (stage d))
  done_after sound (Begin x may) d leaf = by (t.same x d) refl (is_child t x d) refl
    where
      before : MayBegin t stage x → (stage x ≡ OnTheWay) ⊎ (stage x ≡ NotYet)
      before (inl e) = inl e
      before (inr e) = inr e.1

      fresh : (stage x ≡ OnTheWay) ⊎ (stage x ≡ NotYet) → is_done (stage x) ≡ false
      fresh (inl e) = ap is_done e
      fresh (inr e) = ap is_done e

      under : (stage x ≡ OnTheWay) ⊎ (stage x ≡ NotYet) → fits (stage x) (stage d) ≡ true → is_done (stage d) ≡ false
      under (inl e) k = ap is_done (is_not_yet_is (stage d) (sym (ap (λ z. fits z (stage d)) e) ∙ k))
      under (inr e) k = ap is_done (is_not_yet_is (stage d) (sym (ap (λ z. fits z (stage d)) e) ∙ k))

      by : (a : Bool) → t.same x d ≡ a → (b : Bool) → is_child t x d ≡ b → is_done (cond a (Here [] (goes_nowhere t x)) (cond b OnTheWay (stage d))) ≡ is_done (stage d)
      by true e b f = ap (λ c. c && is_empty (t.children x)) (ap t.passes (is.decides x d e) ∙ leaf) ∙ sym (ap (λ z. is_done (stage z)) (sym (is.decides x d e)) ∙ fresh (before may))
      by false e true f = sym (under (before may) (sound.fit x d f))
      by false e false f = refl
  done_after sound (Say x reply replies asked here) d leaf = by (t.same x d) refl (is_child t x d)
    where
      by : (a : Bool) → t.same x d ≡ a → (b : Bool) → is_done (cond a (Here (replies ++ reply ∷ []) false) (cond b (stage d) (stage d))) ≡ is_done (stage d)
      by true e b = sym (ap (λ z. is_done (stage z)) (sym (is.decides x d e)) ∙ ap is_done here)
      by false e true = refl
      by false e false = refl
  done_after sound (End x replies asked here) d leaf = by (t.same x d) (is_child t x d)
    where
      by : (a b : Bool) → is_done (cond a (Here replies true) (cond b (stage d) (stage d))) ≡ cond a true (is_done (stage d))
      by true b = refl
      by false true = refl
      by false false = refl
  done_after sound (Pass x y reply replies done child here) d leaf = by (t.same x d) refl (is_child t x d) (t.same y d) refl
    where
      by : (a : Bool) → t.same x d ≡ a → (b c : Bool) → t.same y d ≡ c →
          is_done (cond a (Here (replies_at (stage x) ++ passed_on t x reply) false) (cond b (cond c (Here replies done) (stage d)) (stage d))) ≡ is_done (stage d)
      by true e b c f = absurd (false≢true (sym (ap (λ ys. list_any (λ z. t.same z y) ys) (is.leaf d leaf)) ∙ ap (λ z. is_child t z y) (sym (is.decides x d e)) ∙ child))
      by false e true true f = sym (ap (λ z. is_done (stage z)) (sym (is.decides y d f)) ∙ ap is_done here)
      by false e true false f = refl
      by false e false c f = refl
  done_after sound (Close x y released child here) d leaf = by (t.same x d) refl (is_child t x d) (t.same y d) refl
    where
      by : (a : Bool) → t.same x d ≡ a → (b c : Bool) → t.same y d ≡ c →
          is_done (cond a (Here (replies_at (stage x) ++ released) (closes t stage x y)) (cond b (cond c Over (stage d)) (stage d))) ≡ is_done (stage d)
      by true e b c f = absurd (false≢true (sym (ap (λ ys. list_any (λ z. t.same z y) ys) (is.leaf d leaf)) ∙ ap (λ z. is_child t z y) (sym (is.decides x d e)) ∙ child))
      by false e true true f = sym (ap (λ z. is_done (stage z)) (sym (is.decides y d f)) ∙ ap is_done here)
      by false e true false f = refl
      by false e false c f = refl

  -- ---- what has been got

  module _ (one : (x y : List ℕ) → t.gathers x ≡ true → t.gathers y ≡ true → x ≡ y) (sound : Sound t stage) where
    -- a request that has come stays so
    comes_moved : (x : List ℕ) (replies : List Said) (done : Bool) (below : List ℕ → Stage Said) → ((z : List ℕ) → is_child t x z ≡ true → has_come (stage z) ≡ true → has_come (below z) ≡ true) →
        (z : List ℕ) → has_come (stage z) ≡ true → has_come (moved t stage x (Here replies done) below z) ≡ true
    comes_moved x replies done below each z h = by (t.same x z) (is_child t x z) refl
      where
        by : (a b : Bool) → is_child t x z ≡ b → has_come (cond a (Here replies done) (cond b (below z) (stage z))) ≡ true
        by true b e = refl
        by false true e = each z e h
        by false false e = h

    at_moved : (x : List ℕ) (replies : List Said) (done : Bool) (below : List ℕ → Stage Said) (z : List ℕ) → x ≡ z → has_come (moved t stage x (Here replies done) below z) ≡ true
    at_moved x replies done below z e = ap (λ b. has_come (cond b (Here replies done) (cond (is_child t x z) (below z) (stage z)))) (ap (t.same x) (sym e) ∙ is.itself x)

    one_comes : (y : List ℕ) (u : Stage Said) → has_come u ≡ true → (z : List ℕ) → has_come (stage z) ≡ true → has_come (with_one t stage y u z) ≡ true
    one_comes y u h z k = by (t.same y z)
      where
        by : (b : Bool) → has_come (cond b u (stage z)) ≡ true
        by true = h
        by false = k

    fresh_by : (x : List ℕ) (got : List Said) (new : List Said) (u : Stage Said) → (has_come (stage x) ≡ false → got ≡ []) → (has_come (stage x) ≡ true → has_come u ≡ true) → has_come u ≡ false → new ≡ got → new ≡ []
    fresh_by x got new u fresh on none same = same ∙ fresh (false_from_ne_true (has_come (stage x)) (λ k. absurd (false≢true (sym none ∙ on k))))

    pub fresh_after : (got : List Said) → ((x : List ℕ) → t.gathers x ≡ true → has_come (stage x) ≡ false → got ≡ []) → (move : Move t stage) →
        (x : List ℕ) → t.gathers x ≡ true → has_come (after t stage move x) ≡ false → got_after t stage move got ≡ []
    fresh_after got fresh (Begin y may) x h none = fresh_by x got got _ (fresh x h) (comes_moved y [] (goes_nowhere t y) (λ z. OnTheWay) (λ z kid k. absurd (not_yet z kid k)) x) none refl
      where
        before : MayBegin t stage y → (stage y ≡ OnTheWay) ⊎ (stage y ≡ NotYet)
        before (inl e) = inl e
        before (inr e) = inr e.1

        under : (z : List ℕ) → (stage y ≡ OnTheWay) ⊎ (stage y ≡ NotYet) → fits (stage y) (stage z) ≡ true → stage z ≡ NotYet
        under z (inl e) k = is_not_yet_is (stage z) (sym (ap (λ v. fits v (stage z)) e) ∙ k)
        under z (inr e) k = is_not_yet_is (stage z) (sym (ap (λ v. fits v (stage z)) e) ∙ k)

        not_yet : (z : List ℕ) → is_child t y z ≡ true → has_come (stage z) ≡ true → ⊥
        not_yet z kid k = false≢true (sym (ap has_come (under z (before may) (sound.fit y z kid))) ∙ k)
    fresh_after got fresh (Say y reply replies leaf here) x h none = fresh_by x got got _ (fresh x h) (comes_moved y (replies ++ reply ∷ []) false stage (λ z kid k. k) x) none refl
    fresh_after got fresh (End y replies leaf here) x h none = fresh_by x got got _ (fresh x h) (comes_moved y replies true stage (λ z kid k. k) x) none refl
    fresh_after got fresh (Pass y z reply replies done child here) x h none =
        fresh_by x got (cond (t.gathers y) (got ++ reply ∷ []) got) _ (fresh x h)
        (comes_moved y (replies_at (stage y) ++ passed_on t y reply) false (with_one t stage z (Here replies done)) (λ v kid k. one_comes z (Here replies done) refl v k) x) none (by (t.gathers y) refl)
      where
        by : (b : Bool) → t.gathers y ≡ b → cond b (got ++ reply ∷ []) got ≡ got
        by false e = refl
        by true e = absurd (false≢true (sym none ∙ at_moved y (replies_at (stage y) ++ passed_on t y reply) false (with_one t stage z (Here replies done)) x (one y x e h)))
    fresh_after got fresh (Close y z released child here) x h none =
        fresh_by x got got _ (fresh x h) (comes_moved y (replies_at (stage y) ++ released) (closes t stage y z) (with_one t stage z Over) (λ v kid k. one_comes z Over refl v k) x) none refl

  -- ---- the client that asks

  at_root : (x : List ℕ) (v : Stage Said) (below : List ℕ → Stage Said) → moved t stage x v below t.root ≡ cond (t.same x t.root) v (stage t.root)
  at_root x v below = ap (λ b. cond (t.same x t.root) v (cond b (below t.root) (stage t.root))) (is.top x)

  root_here : (x : List ℕ) (replies : List Said) (done : Bool) (below : List ℕ → Stage Said) → is_asked_or_not (stage t.root) ≡ true → is_asked_or_not (moved t stage x (Here replies done) below t.root) ≡ true
  root_here x replies done below h = ap is_asked_or_not (at_root x (Here replies done) below) ∙ by (t.same x t.root)
    where
      by : (c : Bool) → is_asked_or_not (cond c (Here replies done) (stage t.root)) ≡ true
      by true = refl
      by false = h

  -- its own request is on no link
  pub root_after : Sound t stage → (move : Move t stage) → is_asked_or_not (stage t.root) ≡ true → is_asked_or_not (after t stage move t.root) ≡ true
  root_after sound (Begin x may) h = root_here x [] (goes_nowhere t x) (λ y. OnTheWay) h
  root_after sound (Say x reply replies leaf here) h = root_here x (replies ++ reply ∷ []) false stage h
  root_after sound (End x replies leaf here) h = root_here x replies true stage h
  root_after sound (Pass x y reply replies done child here) h = root_here x (replies_at (stage x) ++ passed_on t x reply) false (with_one t stage y (Here replies done)) h
  root_after sound (Close x y released child here) h = root_here x (replies_at (stage x) ++ released) (closes t stage x y) (with_one t stage y Over) h

-- two routers have the same for who asked: in their rows, and held
abbrev pub SameFor : Place → RouterState → RouterState → Type 0
SameFor from r' r = (row_places r' from ≡ row_places r from) × (held_by r' from ≡ held_by r from)

-- one router gathers at most
pub one_gathers : (w : WorldState) (q : Asked) (x y : List ℕ) → (tree_at w q).gathers x ≡ true → (tree_at w q).gathers y ≡ true → x ≡ y
one_gathers w q x y e f =
    sym (same_name (home_of w q.client) x (and_parts (asks_latest q) (is_named (home_of w q.client) x) e).1) ∙ same_name (home_of w q.client) y (and_parts (asks_latest q) (is_named (home_of w q.client) y) f).1

module _ (w : WorldState) (phase : List Numbered) (q : Asked) where
  -- what a moment has for the client that asks, where its number and its stage are known
  pub record Has (acts : List Numbered) (m : Moment) (num : List ℕ → ℕ) (stage : List ℕ → Stage Said) (got : List Said) : Type 0 where
    pub rows : (x : List ℕ) (r : RouterState) → router_of m.world.routers x ≡ Some r → is_open (stage x) ≡ true → row_places r (asked_at (tree_at w q) num x) ≡ open_below (tree_at w q) num stage x
    pub holds : (x : List ℕ) (r : RouterState) → router_of m.world.routers x ≡ Some r → is_open (stage x) ≡ true → held_by r (asked_at (tree_at w q) num x) ≡ held_if ((tree_at w q).gathers x) got
    pub number : num q.client ≡ q.number
    pub asked : is_not_yet (stage q.client) ≡ not (list_any (λ p. p.line == q.line) (queries acts))
    pub waits : (s : ClientState) → client_of m.world.clients q.client ≡ Some s → is_open (stage q.client) ≡ true → has_number s.queries q.number ≡ true
    pub told : is_not_yet (stage q.client) ≡ false → answers_told q.number (told_in_turn q.number (turn acts q - 1) (told_to m.report q.client)) ≡ answers_at q.number (stage q.client)

  -- before it is asked nothing is the query's
  pub stands_first : (acts : List Numbered) (m : Moment) (hop : Hops) → IsStill w m.world → ((x y : List ℕ) (n : ℕ) → is_whole w x y ≡ true → is_of q.line (hop x y n) ≡ false) →
      list_any (λ p. p.line == q.line) (queries acts) ≡ false → ((d : List ℕ) → passes_at w q.client d ≡ false → replies acts m.report q d ≡ []) →
      ((d : List ℕ) → passes_at w q.client d ≡ false → has_ended acts m.report q d ≡ false) → Stands w phase q acts m hop
  stands_first acts m hop still no_hop no_query no_reply no_end = record {
    num = λ z. q.number;
    stage = at_first;
    still = still;
    sound = start_sound (tree_at w q);
    marks = record { shown = λ x y kid. tt; mine = λ x y n there o. absurd (false≢true (sym (no_hop x y n there) ∙ o)) };
    rows = λ x r er o. absurd (false≢true o);
    number = refl;
    asked = ap not (sym no_query);
    waits = λ s es o. absurd (false≢true o);
    told = λ k. absurd (true≢false k);
    got = [];
    fresh = λ x h k. refl;
    holds = λ x r er o. absurd (false≢true o);
    course = λ d ys ends chain. (
      (λ x. []),
      subst (λ (z : List Said). Course latest_release (tree_at w q) (way_of (tree_at w q) ys d (is_said_by phase d)) at_first (λ x. []) [] z) (ap said_in (sym (no_reply d ends))) Start,
    );
    ended = no_end;
    root = refl;
  }

  module _ (acts acts' : List Numbered) (m m' : Moment) (hop hop' : Hops) (s : Stands w phase q acts m hop) (still : IsStill w m'.world) where
    -- a step that concerns others
    pub stands_same : Marks (tree_at w q) (request_to w q) q.line (is_whole w) s.num s.stage hop' → Has acts' m' s.num s.stage s.got → ((d : List ℕ) → passes_at w q.client d ≡ false → replies acts' m'.report q d ≡ replies acts m.report q d) →
        ((d : List ℕ) → passes_at w q.client d ≡ false → has_ended acts' m'.report q d ≡ has_ended acts m.report q d) → Stands w phase q acts' m' hop'
    stands_same marks has same ends_same = record {
      num = s.num;
      stage = s.stage;
      still = still;
      sound = s.sound;
      marks = marks;
      rows = has.rows;
      number = has.number;
      asked = has.asked;
      waits = has.waits;
      told = has.told;
      got = s.got;
      fresh = s.fresh;
      holds = has.holds;
      course = λ d ys ends chain.
          let was = s.course d ys ends chain in
          (was.0, subst (λ (z : List Said). Course latest_release (tree_at w q) (way_of (tree_at w q) ys d (is_said_by phase d)) s.stage was.0 s.got z) (ap said_in (sym (same d ends))) was.1);
      ended = λ d ends. ends_same d ends ∙ s.ended d ends;
      root = s.root;
    }

    -- a step that is one of its moves: who is asked says what its reply is, and nobody else says one
    pub stands_moved : IsTree (tree_at w q) → (move : Move (tree_at w q) s.stage) (num : List ℕ → ℕ) →
        Marks (tree_at w q) (request_to w q) q.line (is_whole w) num (after (tree_at w q) s.stage move) hop' → Has acts' m' num (after (tree_at w q) s.stage move) (got_after (tree_at w q) s.stage move s.got) →
        ((d : List ℕ) (ys : List (List ℕ)) → passes_at w q.client d ≡ false → Agrees latest_release (tree_at w q) s.stage move (way_of (tree_at w q) ys d (is_said_by phase d)) s.got) →
        ((d : List ℕ) → passes_at w q.client d ≡ false → said_in (replies acts' m'.report q d) ≡ said_after (tree_at w q) s.stage move (is_said_by phase d) (said_in (replies acts m.report q d))) →
        ((d : List ℕ) → passes_at w q.client d ≡ false → has_ended acts' m'.report q d ≡ ended_after (tree_at w q) s.stage move d (has_ended acts m.report q d)) → Stands w phase q acts' m' hop'
    stands_moved is move num marks has agrees said ends_after = record {
      num = num;
      stage = after (tree_at w q) s.stage move;
      still = still;
      sound = move_sound (tree_at w q) is s.stage s.sound move;
      marks = marks;
      rows = has.rows;
      number = has.number;
      asked = has.asked;
      waits = has.waits;
      told = has.told;
      got = got_after (tree_at w q) s.stage move s.got;
      fresh = fresh_after (tree_at w q) is s.stage (one_gathers w q) s.sound s.got s.fresh move;
      holds = has.holds;
      course = λ d ys ends chain.
          let was = s.course d ys ends chain in (
            heard_after (tree_at w q) s.stage move was.0,
            subst (λ (z : List Said). Course latest_release (tree_at w q) (way_of (tree_at w q) ys d (is_said_by phase d)) (after (tree_at w q) s.stage move) (heard_after (tree_at w q) s.stage move was.0)
                (got_after (tree_at w q) s.stage move s.got) z)
                (sym (said d ends)) (Then s.stage was.0 s.got (said_in (replies acts m.report q d)) was.1 move (agrees d ys ends)),
          );
      ended = λ d ends. ends_after d ends ∙ ap (ended_after (tree_at w q) s.stage move d) (s.ended d ends) ∙ sym (done_after (tree_at w q) is s.stage s.sound move d ends);
      root = root_after (tree_at w q) is s.stage s.sound move s.root;
    }

    -- what a moment has stays where nothing has changed that it is read from
    pub has_same : ((x : List ℕ) (r' : RouterState) → router_of m'.world.routers x ≡ Some r' →
        (r : RouterState) × (router_of m.world.routers x ≡ Some r) × (is_open (s.stage x) ≡ true → SameFor (asked_at (tree_at w q) s.num x) r' r)) →
        ((c' : ClientState) → client_of m'.world.clients q.client ≡ Some c' → (c : ClientState) × (client_of m.world.clients q.client ≡ Some c) × (has_number c.queries q.number ≡ true → has_number c'.queries q.number ≡ true)) →
        list_any (λ p. p.line == q.line) (queries acts') ≡ list_any (λ p. p.line == q.line) (queries acts) →
        (is_not_yet (s.stage q.client) ≡ false → answers_told q.number (told_in_turn q.number (turn acts' q - 1) (told_to m'.report q.client)) ≡ answers_told q.number (told_in_turn q.number (turn acts q - 1) (told_to m.report q.client))) →
        Has acts' m' s.num s.stage s.got
    has_same routers clients asked told = record {
      rows = λ x r' er o. let was = routers x r' er in (was.2 o).0 ∙ s.rows x was.0 was.1 o;
      holds = λ x r' er o. let was = routers x r' er in (was.2 o).1 ∙ s.holds x was.0 was.1 o;
      number = s.number;
      asked = s.asked ∙ ap not (sym asked);
      waits = λ c' ec o. let was = clients c' ec in was.2 (s.waits was.0 was.1 o);
      told = λ k. told k ∙ s.told k;
    }
