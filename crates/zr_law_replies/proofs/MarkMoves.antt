-- What each move of a query makes of the hops, so that they are marked by the stages behind it: the hop of a node goes on as its stage does, and so does
-- the one above the node that has heard of it (`say_marks`, `end_marks`, `pass_marks`, `close_marks`, `begin_marks`).
use Rattle.std.proofs.Common.{◌≡◌, ℕ, ◌==◌, ◌&&◌, Bool, true, false, cond, List, [], ◌∷◌, ◌++◌, Some, ◌⊎◌, inl, inr, refl, sym, ap, ◌∙◌, subst}
use Rattle.std.proofs.lemmas.Bool.{true≢false}
use Rattle.zr_id.specs.Zid.{is_named}
use Rattle.zr_law_queries.specs.Link.{Asked as AskedHop, Open}
use Rattle.zr_law_queries.specs.Query.{Tree, IsTree, Stage, NotYet, OnTheWay, Here, Over, has, is_child, replies_at, fits, goes_nowhere, passed_on, closes, Sound, moved, with_one, MayBegin, Begin, Say, End, Pass, Close, after}
use Rattle.zr_law_queries.proofs.Trees.{no_loop, no_cycle}
use Rattle.zr_law_queries.proofs.Moves.{is_not_yet_is}
use Rattle.zr_law_numbers.specs.Waiting as waiting
use Rattle.zr_law_numbers.specs.Waiting.{Place, Said}
use Rattle.zr_law_replies.specs.Answers.{HopState}
use Rattle.zr_law_replies.specs.Stands.{is_of, is_live, asked_at, Shown, Marks, numbered, with_all}
use Rattle.zr_law_replies.proofs.MarkChanges.{is_hop, hop_is, is_hop_of, own_goes, own_closes, own_asks}

-- hops that are others in one place, and as before elsewhere
abbrev pub hop_at : (List ℕ → List ℕ → ℕ → HopState) → List ℕ → List ℕ → ℕ → (List ℕ → List ℕ → ℕ → HopState) → List ℕ → List ℕ → ℕ → HopState
hop_at hop x y n hop' a b k = cond (is_hop x y n a b k) (hop' a b k) (hop a b k)

pub hop_at_same : (hop : List ℕ → List ℕ → ℕ → HopState) (x y : List ℕ) (n : ℕ) (hop' : List ℕ → List ℕ → ℕ → HopState) (a b : List ℕ) (k : ℕ) → (is_hop x y n a b k ≡ false → hop' a b k ≡ hop a b k) →
    hop' a b k ≡ hop_at hop x y n hop' a b k
hop_at_same hop x y n hop' a b k same = by (is_hop x y n a b k) refl
  where
    by : (c : Bool) → is_hop x y n a b k ≡ c → hop' a b k ≡ cond c (hop' a b k) (hop a b k)
    by true e = refl
    by false e = same e

module _ (t : Tree (List ℕ)) (is : IsTree t) (request : List ℕ → waiting.Asked) (line : ℕ) (line_is : (y : List ℕ) → (request y).line ≡ line) (whole : List ℕ → List ℕ → Bool)
    (kids_whole : (x y : List ℕ) → is_child t x y ≡ true → whole x y ≡ true) (num : List ℕ → ℕ) (stage : List ℕ → Stage Said) (hop hop' : List ℕ → List ℕ → ℕ → HopState)
    (m : Marks t request line whole num stage hop) where
  -- stages that are the same node by node
  marks_same : (num : List ℕ → ℕ) (stage stage' : List ℕ → Stage Said) (hop : List ℕ → List ℕ → ℕ → HopState) → ((z : List ℕ) → stage z ≡ stage' z) → Marks t request line whole num stage hop →
      Marks t request line whole num stage' hop
  marks_same num stage stage' hop e k = subst (λ (u : List ℕ → Stage Said). Marks t request line whole num u hop) (λ i z. e z i) k

  -- of a node that isn't the root the parent has it as a child
  abbrev Below : List ℕ → Type 0
  Below x = is_child t (t.parent x) x ≡ true

  -- ---- one node's stage

  -- a node's stage goes on, and so does the hop above it; above the root there is none
  module _ (stage1 : List ℕ → Stage Said) (half more : List ℕ → List ℕ → ℕ → HopState) (k : Marks t request line whole num stage1 half) (x : List ℕ) (v : Stage Said) where
    root_goes : x ≡ t.root → ((a b : List ℕ) (n : ℕ) → whole a b ≡ true → more a b n ≡ half a b n) → Marks t request line whole num (with_one t stage1 x v) more
    root_goes root same = record {
      shown = λ a b kid. rw (apart a b kid, same a b (num b) (kids_whole a b kid)) (k.shown a b kid);
      mine = λ a b n there o.
          let was = k.mine a b n there (ap (is_of line) (sym (same a b n there)) ∙ o) in
          (was.0, was.1, ap (λ c. is_live (cond c v (stage1 b))) (apart a b was.0) ∙ was.2);
    }
      where
        apart : (a b : List ℕ) → is_child t a b ≡ true → t.same x b ≡ false
        apart a b kid = by (t.same x b) refl
          where
            by : (c : Bool) → t.same x b ≡ c → c ≡ false
            by false e = refl
            by true e = absurd (true≢false (sym kid ∙ ap (is_child t a) (sym (is.decides x b e) ∙ root) ∙ is.top a))

    pub node_goes : is_live v ≡ true → (x ≡ t.root) ⊎ Below x → (Below x → Shown (request x) (asked_at t num (t.parent x)) v (more (t.parent x) x (num x))) →
        ((a b : List ℕ) (n : ℕ) → whole a b ≡ true → (x ≡ t.root) ⊎ (is_hop (t.parent x) x (num x) a b n ≡ false) → more a b n ≡ half a b n) → Marks t request line whole num (with_one t stage1 x v) more
    node_goes live (inl root) shows same = root_goes root (λ a b n there. same a b n there (inl root))
    node_goes live (inr below) shows same = own_goes t is request line line_is whole kids_whole num stage1 half more k (t.parent x) x below (λ a b n there e. same a b n there (inr e)) v live (shows below)

  -- ---- a client that is asked says something

  abbrev Elsewhere : List ℕ → Type 0
  Elsewhere x = (a b : List ℕ) (k : ℕ) → whole a b ≡ true → is_hop (t.parent x) x (num x) a b k ≡ false → hop' a b k ≡ hop a b k

  -- a client that is asked has no children
  leaf_moved : (x : List ℕ) (v : Stage Said) (below : List ℕ → Stage Said) → t.passes x ≡ false → (z : List ℕ) → with_one t stage x v z ≡ moved t stage x v below z
  leaf_moved x v below leaf z = ap (λ ys. cond (t.same x z) v (cond (has t ys z) (below z) (stage z))) (sym (is.leaf x leaf))

  pub say_marks : (x : List ℕ) (reply : Said) (replies : List Said) (leaf : t.passes x ≡ false) (here : stage x ≡ Here replies false) → Below x → Elsewhere x →
      hop' (t.parent x) x (num x) ≡ Open (request x) (Some (asked_at t num (t.parent x))) (replies ++ reply ∷ []) false →
      Marks t request line whole num (after t stage (Say x reply replies leaf here)) hop'
  say_marks x reply replies leaf here below same shows =
      marks_same num (with_one t stage x (Here (replies ++ reply ∷ []) false)) (after t stage (Say x reply replies leaf here)) hop' (leaf_moved x (Here (replies ++ reply ∷ []) false) stage leaf)
      (own_goes t is request line line_is whole kids_whole num stage hop hop' m (t.parent x) x below same (Here (replies ++ reply ∷ []) false) refl shows)

  pub end_marks : (x : List ℕ) (replies : List Said) (leaf : t.passes x ≡ false) (here : stage x ≡ Here replies false) → Below x → Elsewhere x →
      hop' (t.parent x) x (num x) ≡ Open (request x) (Some (asked_at t num (t.parent x))) replies true → Marks t request line whole num (after t stage (End x replies leaf here)) hop'
  end_marks x replies leaf here below same shows =
      marks_same num (with_one t stage x (Here replies true)) (after t stage (End x replies leaf here)) hop' (leaf_moved x (Here replies true) stage leaf)
      (own_goes t is request line line_is whole kids_whole num stage hop hop' m (t.parent x) x below same (Here replies true) refl shows)

  -- ---- a node hears of a child

  module _ (x y : List ℕ) (child : is_child t x y ≡ true) (v u : Stage Said) where
    -- the child's stage, and then the node's
    two_moved : (z : List ℕ) → with_one t (with_one t stage y u) x v z ≡ moved t stage x v (with_one t stage y u) z
    two_moved z = by (t.same x z) (is_child t x z) refl (t.same y z) refl
      where
        by : (a b : Bool) → is_child t x z ≡ b → (c : Bool) → t.same y z ≡ c → cond a v (cond c u (stage z)) ≡ cond a v (cond b (cond c u (stage z)) (stage z))
        by true b eb c ec = refl
        by false true eb c ec = refl
        by false false eb false ec = refl
        by false false eb true ec = absurd (true≢false (sym child ∙ ap (is_child t x) (is.decides y z ec) ∙ eb))

    abbrev half_way : List ℕ → List ℕ → ℕ → HopState
    half_way = hop_at hop x y (num y) hop'

    both_marks : Marks t request line whole num (with_one t stage y u) half_way → is_live v ≡ true → (x ≡ t.root) ⊎ Below x →
        (Below x → Shown (request x) (asked_at t num (t.parent x)) v (hop' (t.parent x) x (num x))) →
        ((a b : List ℕ) (k : ℕ) → whole a b ≡ true → is_hop x y (num y) a b k ≡ false → (x ≡ t.root) ⊎ (is_hop (t.parent x) x (num x) a b k ≡ false) → hop' a b k ≡ hop a b k) →
        Marks t request line whole num (moved t stage x v (with_one t stage y u)) hop'
    both_marks first live reached shows same =
        marks_same num (with_one t (with_one t stage y u) x v) (moved t stage x v (with_one t stage y u)) hop' two_moved
        (node_goes (with_one t stage y u) half_way hop' first x v live reached shows (λ a b k there other. hop_at_same hop x y (num y) hop' a b k (λ e. same a b k there e other)))

    still_elsewhere : (a b : List ℕ) (k : ℕ) → whole a b ≡ true → is_hop x y (num y) a b k ≡ false → half_way a b k ≡ hop a b k
    still_elsewhere a b k there e = ap (λ c. cond c (hop' a b k) (hop a b k)) e

    pub half_here : half_way x y (num y) ≡ hop' x y (num y)
    half_here = ap (λ c. cond c (hop' x y (num y)) (hop x y (num y))) (is_hop_of x y (num y) x y (num y) refl refl refl)

  -- ---- a node hears of a child: a reply, or the final

  module _ (x y : List ℕ) (child : is_child t x y ≡ true) (reached : (x ≡ t.root) ⊎ Below x)
      (same : (a b : List ℕ) (k : ℕ) → whole a b ≡ true → is_hop x y (num y) a b k ≡ false → (x ≡ t.root) ⊎ (is_hop (t.parent x) x (num x) a b k ≡ false) → hop' a b k ≡ hop a b k) where
    pub pass_marks : (reply : Said) (replies : List Said) (done : Bool) (here : stage y ≡ Here (reply ∷ replies) done) →
        hop' x y (num y) ≡ Open (request y) (Some (asked_at t num x)) replies done →
        (Below x → hop' (t.parent x) x (num x) ≡ Open (request x) (Some (asked_at t num (t.parent x))) (replies_at (stage x) ++ passed_on t x reply) false) →
        Marks t request line whole num (after t stage (Pass x y reply replies done child here)) hop'
    pass_marks reply replies done here shows above =
        both_marks x y child (Here (replies_at (stage x) ++ passed_on t x reply) false) (Here replies done)
        (own_goes t is request line line_is whole kids_whole num stage hop (hop_at hop x y (num y) hop') m x y child (still_elsewhere x y child (Here (replies_at (stage x) ++ passed_on t x reply) false) (Here replies done))
        (Here replies done) refl (half_here x y child (Here (replies_at (stage x) ++ passed_on t x reply) false) (Here replies done) ∙ shows))
        refl reached above same

    pub close_marks : (released : List Said) (here : stage y ≡ Here [] true) → is_of line (hop' x y (num y)) ≡ false →
        (Below x → hop' (t.parent x) x (num x) ≡ Open (request x) (Some (asked_at t num (t.parent x))) (replies_at (stage x) ++ released) (closes t stage x y)) →
        Marks t request line whole num (after t stage (Close x y released child here)) hop'
    close_marks released here gone above =
        both_marks x y child v Over
        (own_closes t is request line line_is whole kids_whole num stage hop (hop_at hop x y (num y) hop') m x y child (still_elsewhere x y child v Over) (ap (is_of line) (half_here x y child v Over) ∙ gone))
        refl reached above same
      where
        v : Stage Said
        v = Here (replies_at (stage x) ++ released) (closes t stage x y)

  -- ---- a node has the request, and it goes to all its children

  module _ (sound : Sound t stage) (x : List ℕ) (may : MayBegin t stage x) (reached : (x ≡ t.root) ⊎ Below x) (more : List ℕ → ℕ)
      (same : (a b : List ℕ) (k : ℕ) → whole a b ≡ true → (x ≡ t.root) ⊎ (is_hop (t.parent x) x (num x) a b k ≡ false) → (is_named x a && (is_child t x b && more b == k)) ≡ false → hop' a b k ≡ hop a b k)
      (above : Below x → hop' (t.parent x) x (num x) ≡ Open (request x) (Some (asked_at t num (t.parent x))) [] (goes_nowhere t x))
      (asks : (y : List ℕ) → is_child t x y ≡ true → hop' x y (more y) ≡ AskedHop (request y) (Some (asked_at t num x))) where
    abbrev v : Stage Said
    v = Here [] (goes_nowhere t x)

    abbrev first : List ℕ → Stage Said
    first = with_one t stage x v

    abbrev half : List ℕ → List ℕ → ℕ → HopState
    half = hop_at hop (t.parent x) x (num x) hop'

    not_reached : (u w : Stage Said) → (u ≡ OnTheWay) ⊎ (u ≡ NotYet) → fits u w ≡ true → w ≡ NotYet
    not_reached OnTheWay w e f = is_not_yet_is w f
    not_reached NotYet w e f = is_not_yet_is w f
    not_reached (Here rs done) w (inl e) f = absurd (cc)
    not_reached (Here rs done) w (inr e) f = absurd (cc)
    not_reached Over w (inl e) f = absurd (cc)
    not_reached Over w (inr e) f = absurd (cc)

    at_x : (stage x ≡ OnTheWay) ⊎ (stage x ≡ NotYet)
    at_x = by may
      where
        by : MayBegin t stage x → (stage x ≡ OnTheWay) ⊎ (stage x ≡ NotYet)
        by (inl e) = inl e
        by (inr e) = inr e.1

    below : (y : List ℕ) → is_child t x y ≡ true → stage y ≡ NotYet
    below y kid = not_reached (stage x) (stage y) at_x (sound.fit x y kid)

    under : (y z : List ℕ) → is_child t x y ≡ true → is_child t y z ≡ true → stage z ≡ NotYet
    under y z kid grand = not_reached (stage y) (stage z) (inr (below y kid)) (sound.fit y z grand)

    kid_apart : (y : List ℕ) → is_child t x y ≡ true → t.same x y ≡ false
    kid_apart y kid = by (t.same x y) refl
      where
        by : (c : Bool) → t.same x y ≡ c → c ≡ false
        by false e = refl
        by true e = absurd (no_loop t is x (ap (is_child t x) (is.decides x y e) ∙ kid))

    grand_apart : (y z : List ℕ) → is_child t x y ≡ true → is_child t y z ≡ true → t.same x z ≡ false
    grand_apart y z kid grand = by (t.same x z) refl
      where
        by : (c : Bool) → t.same x z ≡ c → c ≡ false
        by false e = refl
        by true e = absurd (no_cycle t is x y kid (ap (is_child t y) (is.decides x z e) ∙ grand))

    no_ask : (a b : List ℕ) (k : ℕ) → is_child t x b ≡ false → (is_named x a && (is_child t x b && more b == k)) ≡ false
    no_ask a b k e = ap (λ c. is_named x a && (c && more b == k)) e ∙ none (is_named x a)
      where
        none : (c : Bool) → (c && false) ≡ false
        none true = refl
        none false = refl

    half_same : (a b : List ℕ) (k : ℕ) → whole a b ≡ true → (x ≡ t.root) ⊎ (is_hop (t.parent x) x (num x) a b k ≡ false) → half a b k ≡ hop a b k
    half_same a b k there (inr e) = ap (λ c. cond c (hop' a b k) (hop a b k)) e
    half_same a b k there (inl root) = by (is_hop (t.parent x) x (num x) a b k) refl
      where
        by : (c : Bool) → is_hop (t.parent x) x (num x) a b k ≡ c → cond c (hop' a b k) (hop a b k) ≡ hop a b k
        by false e = refl
        by true e = same a b k there (inl root) (no_ask a b k (ap (is_child t x) (sym (hop_is (t.parent x) x (num x) a b k e).1 ∙ root) ∙ is.top x))

    all_moved : (z : List ℕ) → with_all t first (t.children x) OnTheWay z ≡ moved t stage x v (λ y. OnTheWay) z
    all_moved z = by (t.same x z) refl (is_child t x z) refl
      where
        by : (a : Bool) → t.same x z ≡ a → (b : Bool) → is_child t x z ≡ b → cond b OnTheWay (cond a v (stage z)) ≡ cond a v (cond b OnTheWay (stage z))
        by true ea true eb = absurd (true≢false (sym ea ∙ kid_apart z eb))
        by true ea false eb = refl
        by false ea true eb = refl
        by false ea false eb = refl

    pub begin_marks : Marks t request line whole (numbered t num (t.children x) more) (after t stage (Begin x may)) hop'
    begin_marks =
        marks_same (numbered t num (t.children x) more) (with_all t first (t.children x) OnTheWay) (after t stage (Begin x may)) hop' all_moved
        (own_asks t is request line line_is whole kids_whole num first half hop'
        (node_goes stage hop half m x v refl reached (λ b. ap (λ c. cond c (hop' (t.parent x) x (num x)) (hop (t.parent x) x (num x))) (is_hop_of (t.parent x) x (num x) (t.parent x) x (num x) refl refl refl) ∙ above b) half_same)
        x more (λ y kid. ap (λ c. cond c v (stage y)) (kid_apart y kid) ∙ below y kid) (λ y z kid grand. ap (λ c. cond c v (stage z)) (grand_apart y z kid grand) ∙ under y z kid grand) asks
        (λ a b k there e. hop_at_same hop (t.parent x) x (num x) hop' a b k (λ f. same a b k there (inr f) e)))
