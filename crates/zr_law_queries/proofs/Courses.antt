-- Over any moves: what each move keeps is kept from the beginning on, and of the root two facts more, that its request was never on a link, and that nobody has
-- taken anything from it.
use Rattle.std.proofs.Common.{◌≡◌, ℕ, ◌<◌, suc, ◌&&◌, ◌||◌, Bool, true, false, cond, List, [], ◌∷◌, ◌++◌, refl, sym, ap, ◌∙◌, subst, inl, inr, arith, append-nil, append_assoc}
use Rattle.std.proofs.lemmas.List.Elements.{filter-append}
use Rattle.std.specs.Prelude.{filter}
use Rattle.std.proofs.lemmas.Bool.{false≢true}
use Rattle.zr_law_queries.specs.Query.{Tree, IsPlain, IsDesk, IsTree, Stage, NotYet, OnTheWay, Here, Over, has, is_child, is_not_yet, is_done, replies_at, fits, Sound, moved, with_one, goes_nowhere, passed_on, closes, MayBegin, Move, Begin, Say, End, Pass, Close, after, heard_after, got_after, sent_up, Way, IsWay, Brings, Release, Releases, ReleasesIf, Agrees, IsQuiet, IsFinished}
use Rattle.zr_law_queries.specs.Courses.{Course, Start, Then, IsAnswered, IsGathered, FinalsAreLast, QueriesAreAnswered, QueriesAreGathered}
use Rattle.zr_law_queries.proofs.Trees.{has_head, same_of, no_loop, one_parent}
use Rattle.zr_law_queries.proofs.Moves.{open_is, is_not_yet_is, move_sound, start_sound}
use Rattle.zr_law_queries.proofs.Replies.{move_brings, start_brings}
use Rattle.zr_law_queries.proofs.Ends.{done_below, nothing_waits, prefix, whole, whole_quiet, final_comes}

-- the root's request is on no link, so it is not there yet, or it is there
abbrev stands : {R : Type 0} → Stage R → Bool
stands NotYet = true
stands OnTheWay = false
stands (Here rs done) = true
stands Over = false

module _ {N R : Type 0} (t : Tree N) (is : IsTree t) (s : N → Stage R) where
  at_root : (x : N) (v : Stage R) (f : N → Stage R) → moved t s x v f t.root ≡ cond (t.same x t.root) v (s t.root)
  at_root x v f = ap (λ b. cond (t.same x t.root) v (cond b (f t.root) (s t.root))) (is.top x)

  stands_moved : (x : N) (rs : List R) (b : Bool) (f : N → Stage R) → stands (s t.root) ≡ true → stands (moved t s x (Here rs b) f t.root) ≡ true
  stands_moved x rs b f h = ap stands (at_root x (Here rs b) f) ∙ by (t.same x t.root)
    where
      by : (c : Bool) → stands (cond c (Here rs b) (s t.root)) ≡ true
      by true = refl
      by false = h

  root_stands : (m : Move t s) → stands (s t.root) ≡ true → stands (after t s m t.root) ≡ true
  root_stands (Begin x was) h = stands_moved x [] (goes_nowhere t x) (λ y. OnTheWay) h
  root_stands (Say x r rs leaf was) h = stands_moved x (rs ++ r ∷ []) false s h
  root_stands (End x rs leaf was) h = stands_moved x rs true s h
  root_stands (Pass x y r rs done kid was) h = stands_moved x (replies_at (s x) ++ passed_on t x r) false (with_one t s y (Here rs done)) h
  root_stands (Close x y out kid was) h = stands_moved x (replies_at (s x) ++ out) (closes t s x y) (with_one t s y Over) h

  nobody_hears : (heard : N → List R) (m : Move t s) → heard t.root ≡ [] → heard_after t s m heard t.root ≡ []
  nobody_hears heard (Begin x was) h = h
  nobody_hears heard (Say x r rs leaf was) h = h
  nobody_hears heard (End x rs leaf was) h = h
  nobody_hears heard (Pass x y r rs done kid was) h = by (t.same y t.root) refl
    where
      by : (b : Bool) → t.same y t.root ≡ b → cond b (heard t.root ++ r ∷ []) (heard t.root) ≡ []
      by true e = absurd (false≢true (sym (is.top x) ∙ ap (is_child t x) (sym (is.decides y t.root e)) ∙ kid))
      by false e = h
  nobody_hears heard (Close x y out kid was) h = h

  -- a node that has sent the final makes no move
  stays : (x : N) (v : Stage R) (f : N → Stage R) → is_done (s x) ≡ false → is_done (s t.root) ≡ true → moved t s x v f t.root ≡ s t.root
  stays x v f going done = at_root x v f ∙ by (t.same x t.root) refl
    where
      by : (b : Bool) → t.same x t.root ≡ b → cond b v (s t.root) ≡ s t.root
      by true e = absurd (false≢true (sym going ∙ ap (λ z. is_done (s z)) (is.decides x t.root e) ∙ done))
      by false e = refl

  not_begun : (x : N) → MayBegin t s x → is_done (s x) ≡ false
  not_begun x (inl e) = ap is_done e
  not_begun x (inr (e, f)) = ap is_done f

  module _ (h : Sound t s) where
    pub final_is_last : is_done (s t.root) ≡ true → (m : Move t s) → after t s m t.root ≡ s t.root
    final_is_last d (Begin x was) = stays x (Here [] (goes_nowhere t x)) (λ y. OnTheWay) (not_begun x was) d
    final_is_last d (Say x r rs leaf was) = stays x (Here (rs ++ r ∷ []) false) s (ap is_done was) d
    final_is_last d (End x rs leaf was) = stays x (Here rs true) s (ap is_done was) d
    final_is_last d (Pass x y r rs done kid was) =
        stays x (Here (replies_at (s x) ++ passed_on t x r) false) (with_one t s y (Here rs done)) (ap is_done (open_is t is s h x y (r ∷ rs) done kid was)) d
    final_is_last d (Close x y out kid was) =
        stays x (Here (replies_at (s x) ++ out) (closes t s x y)) (with_one t s y Over) (ap is_done (open_is t is s h x y [] true kid was)) d

pub finals_are_last : (N R : Type 0) → FinalsAreLast N R
finals_are_last N R t s is h d m = final_is_last t is s h d m

-- what is known at each moment of a course
record Stands {N R : Type 0} (t : Tree N) (w : Way N R) (s : N → Stage R) (heard : N → List R) (got said : List R) : Type 0 where
  sound : Sound t s
  brings : Brings t w s heard got said
  root : stands (s t.root) ≡ true
  nobody : heard t.root ≡ []

module _ {N R C : Type 0} (release : Release R C) (t : Tree N) (is : IsTree t) (w : Way N R) (on : IsWay t w)
    (on_way : (x : N) → t.gathers x ≡ true → w.on x ≡ true) (passing : (x : N) → t.gathers x ≡ true → t.passes x ≡ true) (one : (x y : N) → t.gathers x ≡ true → t.gathers y ≡ true → x ≡ y) where
  stands_at : (s : N → Stage R) (heard : N → List R) (got said : List R) → Course release t w s heard got said → Stands t w s heard got said
  stands_at s heard got said Start = record { sound = start_sound t; brings = start_brings t w; root = refl; nobody = refl }
  stands_at s heard got said (Then old was had of c m a) =
      let h = stands_at old was had of c in
      record {
        sound = move_sound t is old h.sound m;
        brings = move_brings t is old h.sound was w on had of h.brings on_way passing one release m a;
        root = root_stands t is old m h.root;
        nobody = nobody_hears t is old was m h.nobody;
      }

  module _ (s : N → Stage R) (heard : N → List R) (got said : List R) (h : Stands t w s heard got said) where
    sent : filter w.is_own (sent_up s heard t.root) ≡ filter w.is_own (replies_at (s t.root))
    sent = ap (λ z. filter w.is_own (z ++ replies_at (s t.root))) h.nobody

    final : (u : Stage R) → s t.root ≡ u → stands u ≡ true → is_not_yet u ≡ false → IsQuiet t s → IsFinished t s → is_done u ≡ true
    final NotYet e o n q f = absurd (false≢true (sym n))
    final OnTheWay e o n q f = absurd (false≢true o)
    final (Here rs done) e o n q f = final_comes t is s h.sound rs done e q f
    final Over e o n q f = refl

    answered : IsPlain t → IsAnswered t w s said
    answered plain = record {
      prefix = let p = prefix t is s h.sound w on heard got said h.brings top free t.root low on.starts in (p.0, ap (λ z. z ++ p.0) (sym sent) ∙ p.1);
      whole = λ d. sym sent ∙ (whole t is s h.sound w on heard got said h.brings top free t.root low on.starts d).0;
      ended = λ d. (whole t is s h.sound w on heard got said h.brings top free t.root low on.starts d).1;
      quiet = λ q. sym sent ∙ whole_quiet t is s h.sound w on heard got said h.brings top free t.root low on.starts q;
      final = λ n q f. final (s t.root) refl h.root n q f;
    }
      where
        top : ℕ
        top = suc (t.height t.root)

        free : (x : N) → t.height x < top → t.gathers x ≡ false
        free x l = plain x

        low : t.height t.root < top
        low = omega arith

pub law : (N R C : Type 0) → QueriesAreAnswered N R C
law N R C release t w is plain on s heard got said c =
    answered release t is w on on_way passing one s heard got said (stands_at release t is w on on_way passing one s heard got said c) plain
  where
    on_way : (x : N) → t.gathers x ≡ true → w.on x ≡ true
    on_way x e = absurd (false≢true (sym (plain x) ∙ e))

    passing : (x : N) → t.gathers x ≡ true → t.passes x ≡ true
    passing x e = absurd (false≢true (sym (plain x) ∙ e))

    one : (x y : N) → t.gathers x ≡ true → t.gathers y ≡ true → x ≡ y
    one x y e f = absurd (false≢true (sym (plain x) ∙ e))

-- ---- where the desk gathers

module _ {N R C : Type 0} (release : Release R C) (t : Tree N) (is : IsTree t) (desk : N) (at : IsDesk t desk) (none : Releases release [] []) where
  child : is_child t t.root desk ≡ true
  child = ap (λ ys. has t ys desk) at.alone ∙ has_head t is desk []

  only_child : (y : N) → is_child t t.root y ≡ true → y ≡ desk
  only_child y k = by (t.same desk y) refl (sym (ap (λ ys. has t ys y) at.alone) ∙ k)
    where
      by : (b : Bool) → t.same desk y ≡ b → (b || false) ≡ true → y ≡ desk
      by true e f = sym (is.decides desk y e)
      by false e f = absurd (false≢true f)

  apart : t.same t.root desk ≡ false
  apart = by (t.same t.root desk) refl
    where
      by : (b : Bool) → t.same t.root desk ≡ b → b ≡ false
      by false e = refl
      by true e = absurd (no_loop t is t.root (ap (is_child t t.root) (is.decides t.root desk e) ∙ child))

  plain_root : t.gathers t.root ≡ false
  plain_root = at.one t.root ∙ apart

  held_there : t.gathers desk ≡ true
  held_there = at.one desk ∙ is.itself desk

  -- the node has the request, or had it
  abbrev has_come : Stage R → Bool
  has_come NotYet = false
  has_come OnTheWay = false
  has_come (Here rs done) = true
  has_come Over = true

  -- what the desk has sent up is what the client was sent, and then what waits at the desk; it is nothing before the desk's final, and then what is released
  record Desk (s : N → Stage R) (heard : N → List R) (got : List R) : Type 0 where
    taken : heard desk ≡ replies_at (s t.root)
    early : is_done (s desk) ≡ false → sent_up s heard desk ≡ []
    late : is_done (s desk) ≡ true → Releases release got (sent_up s heard desk)
    fresh : has_come (s desk) ≡ false → got ≡ []

  root_stage : (s : N → Stage R) (x : N) (v : Stage R) (f : N → Stage R) → moved t s x v f t.root ≡ cond (t.same x t.root) v (s t.root)
  root_stage s x v f = at_root t is s x v f

  -- the stage of the desk, once x and its children have changed
  module _ (s : N → Stage R) (h : Sound t s) (heard : N → List R) (got : List R) (d : Desk s heard got) where
    desk_is : (x : N) (v : Stage R) (f : N → Stage R) (b c : Bool) → t.same x desk ≡ b → is_child t x desk ≡ c → moved t s x v f desk ≡ cond b v (cond c (f desk) (s desk))
    desk_is x v f b c e k i = cond (e i) v (cond (k i) (f desk) (s desk))

    -- the root and the desk stay
    both_stay : (s' : N → Stage R) (heard' : N → List R) → s' t.root ≡ s t.root → s' desk ≡ s desk → heard' desk ≡ heard desk → Desk s' heard' got
    both_stay s' heard' r e k = record {
      taken = k ∙ d.taken ∙ ap replies_at (sym r);
      early = λ i. (λ j. k j ++ replies_at (e j)) ∙ d.early (ap is_done (sym e) ∙ i);
      late = λ i. ap release.shown (λ j. k j ++ replies_at (e j)) ∙ d.late (ap is_done (sym e) ∙ i);
      fresh = λ i. d.fresh (ap has_come (sym e) ∙ i);
    }

    not_above : (x : N) → t.same x t.root ≡ false → is_child t x desk ≡ false
    not_above x r = by (is_child t x desk) refl
      where
        by : (c : Bool) → is_child t x desk ≡ c → c ≡ false
        by false e = refl
        by true e = absurd (false≢true (sym r ∙ same_of t is x t.root (one_parent t is x t.root desk e child)))

    -- another node than these two changes, which is not above the desk
    elsewhere : (x : N) (v : Stage R) (f : N → Stage R) (heard' : N → List R) → t.same x t.root ≡ false → t.same x desk ≡ false → heard' desk ≡ heard desk → Desk (moved t s x v f) heard' got
    elsewhere x v f heard' r e k = both_stay (moved t s x v f) heard' (root_stage s x v f ∙ ap (λ b. cond b v (s t.root)) r) (desk_is x v f false false e (not_above x r)) k

    -- whoever passes on changes, and neither is a leaf
    not_leaf : (x : N) → t.passes x ≡ false → (t.same x t.root ≡ false) × (t.same x desk ≡ false)
    not_leaf x leaf = (apart_from t.root is.asks, apart_from desk at.passes)
      where
        apart_from : (y : N) → t.passes y ≡ true → t.same x y ≡ false
        apart_from y p = by (t.same x y) refl
          where
            by : (b : Bool) → t.same x y ≡ b → b ≡ false
            by false e = refl
            by true e = absurd (false≢true (sym leaf ∙ ap t.passes (is.decides x y e) ∙ p))

    desk_apart : t.same desk t.root ≡ false
    desk_apart = by (t.same desk t.root) refl
      where
        by : (b : Bool) → t.same desk t.root ≡ b → b ≡ false
        by false e = refl
        by true e = absurd (false≢true (sym apart ∙ same_of t is t.root desk (sym (is.decides desk t.root e))))

    -- at the root the desk is the child
    root_moves : (v : Stage R) (f : N → Stage R) → (moved t s t.root v f t.root ≡ v) × (moved t s t.root v f desk ≡ f desk)
    root_moves v f = (root_stage s t.root v f ∙ ap (λ b. cond b v (s t.root)) (is.itself t.root), desk_is t.root v f false true apart child)

    desk_moves : (v : Stage R) (f : N → Stage R) → (moved t s desk v f t.root ≡ s t.root) × (moved t s desk v f desk ≡ v)
    desk_moves v f = (root_stage s desk v f ∙ ap (λ b. cond b v (s t.root)) desk_apart, ap (λ b. cond b v (cond (is_child t desk desk) (f desk) (s desk))) (is.itself desk))

    -- who is not the desk's parent leaves it
    not_its_parent : (x y : N) → is_child t x y ≡ true → t.same x t.root ≡ false → t.same y desk ≡ false
    not_its_parent x y kid r = by (t.same y desk) refl
      where
        by : (b : Bool) → t.same y desk ≡ b → b ≡ false
        by false e = refl
        by true e = absurd (false≢true (sym (not_above x r) ∙ ap (is_child t x) (sym (is.decides y desk e)) ∙ kid))

    desk_begins : (x : N) (may : MayBegin t s x) → Desk (after t s (Begin x may)) heard got
    desk_begins x may = by (t.same x t.root) refl (t.same x desk) refl
      where
        v : Stage R
        v = Here [] (goes_nowhere t x)

        f : N → Stage R
        f y = OnTheWay

        not_come : MayBegin t s x → (replies_at (s x) ≡ []) × (is_done (s x) ≡ false) × (has_come (s x) ≡ false)
        not_come (inl e) = (ap replies_at e, ap is_done e, ap has_come e)
        not_come (inr (e, g)) = (ap replies_at g, ap is_done g, ap has_come g)

        below : (y : N) → is_child t x y ≡ true → s y ≡ NotYet
        below y k = is_not_yet_is (s y) (from may)
          where
            from : MayBegin t s x → is_not_yet (s y) ≡ true
            from (inl e) = ap (λ u. fits u (s y)) (sym e) ∙ h.fit x y k
            from (inr (e, g)) = ap (λ u. fits u (s y)) (sym g) ∙ h.fit x y k

        at_root_node : (x ≡ t.root) → MayBegin t s t.root → Desk (moved t s t.root v f) heard got
        at_root_node xr here =
            let was : s desk ≡ NotYet = below desk (ap (λ z. is_child t z desk) xr ∙ child) in
            let now = root_moves v f in
            record {
              taken = d.taken ∙ (begun here).0 ∙ ap replies_at (sym now.0);
              early = λ i. ap (λ u. heard desk ++ replies_at u) now.1 ∙ ap (λ u. heard desk ++ replies_at u) (sym was) ∙ d.early (ap is_done was);
              late = λ i. absurd (false≢true (ap is_done (sym now.1) ∙ i));
              fresh = λ i. d.fresh (ap has_come was);
            }
          where
            begun : MayBegin t s t.root → (replies_at (s t.root) ≡ []) × (is_done (s t.root) ≡ false)
            begun (inl e) = (ap replies_at e, ap is_done e)
            begun (inr (e, g)) = (ap replies_at g, ap is_done g)

        at_desk_node : (x ≡ desk) → Desk (moved t s desk v f) heard got
        at_desk_node xd =
            let now = desk_moves v f in
            let not_come_here = not_come may in
            let was_done : is_done (s desk) ≡ false = ap (λ z. is_done (s z)) (sym xd) ∙ not_come_here.1 in
            let was_none : replies_at (s desk) ≡ [] = ap (λ z. replies_at (s z)) (sym xd) ∙ not_come_here.0 in
            let nothing : sent_up (moved t s desk v f) heard desk ≡ [] = ap (λ u. heard desk ++ replies_at u) now.1 ∙ ap (λ r. heard desk ++ r) (sym was_none) ∙ d.early was_done in
            let no_got : got ≡ [] = d.fresh (ap (λ z. has_come (s z)) (sym xd) ∙ not_come_here.2) in
            record {
              taken = d.taken ∙ ap replies_at (sym now.0);
              early = λ i. nothing;
              late = λ i. ap release.shown nothing ∙ none ∙ ap release.best (sym no_got);
              fresh = λ i. no_got;
            }

        by : (a : Bool) → t.same x t.root ≡ a → (b : Bool) → t.same x desk ≡ b → Desk (moved t s x v f) heard got
        by false ea false eb = elsewhere x v f heard ea eb refl
        by true ea b eb = let xr = is.decides x t.root ea in subst (λ z. Desk (moved t s z v f) heard got) (sym xr) (at_root_node xr (subst (MayBegin t s) xr may))
        by false ea true eb = let xd = is.decides x desk eb in subst (λ z. Desk (moved t s z v f) heard got) (sym xd) (at_desk_node xd)

    desk_passes : (x y : N) (reply : R) (replies : List R) (done : Bool) (kid : is_child t x y ≡ true) (was : s y ≡ Here (reply ∷ replies) done) →
        Desk (moved t s x (Here (replies_at (s x) ++ passed_on t x reply) false) (with_one t s y (Here replies done))) (λ z. cond (t.same y z) (heard z ++ reply ∷ []) (heard z)) (cond (t.gathers x) (got ++ reply ∷ []) got)
    desk_passes x y reply replies done kid was = by (t.same x t.root) refl (t.same x desk) refl
      where
        f : N → Stage R
        f = with_one t s y (Here replies done)

        heard' : N → List R
        heard' z = cond (t.same y z) (heard z ++ reply ∷ []) (heard z)

        new : N → Stage R
        new z = Here (replies_at (s z) ++ passed_on t z reply) false

        leads : N → Type 0
        leads z = Desk (moved t s z (new z) f) heard' (cond (t.gathers z) (got ++ reply ∷ []) got)

        at_root_node : (x ≡ t.root) → leads t.root
        at_root_node xr =
            let yd : y ≡ desk = only_child y (ap (λ z. is_child t z y) (sym xr) ∙ kid) in
            let itself : t.same y desk ≡ true = ap (λ z. t.same z desk) yd ∙ is.itself desk in
            let now = root_moves (new t.root) f in
            let at_desk : moved t s t.root (new t.root) f desk ≡ Here replies done = now.1 ∙ ap (λ b. cond b (Here replies done) (s desk)) itself in
            let up : s desk ≡ Here (reply ∷ replies) done = ap s (sym yd) ∙ was in
            let taken_more : heard' desk ≡ heard desk ++ reply ∷ [] = ap (λ b. cond b (heard desk ++ reply ∷ []) (heard desk)) itself in
            let same : sent_up (moved t s t.root (new t.root) f) heard' desk ≡ sent_up s heard desk =
            (λ i. taken_more i ++ replies_at (at_desk i)) ∙ append_assoc (heard desk) (reply ∷ []) replies ∙ ap (λ u. heard desk ++ replies_at u) (sym up) in
            let finished : is_done (s desk) ≡ is_done (moved t s t.root (new t.root) f desk) = ap is_done up ∙ sym (ap is_done at_desk) in
            let got_is : cond (t.gathers t.root) (got ++ reply ∷ []) got ≡ got = ap (λ b. cond b (got ++ reply ∷ []) got) plain_root in
            record {
              taken = taken_more ∙ ap (λ z. z ++ reply ∷ []) d.taken ∙ ap (λ b. replies_at (s t.root) ++ cond b [] (reply ∷ [])) (sym plain_root) ∙ ap replies_at (sym now.0);
              early = λ i. same ∙ d.early (finished ∙ i);
              late = λ i. ap release.shown same ∙ d.late (finished ∙ i) ∙ ap release.best (sym got_is);
              fresh = λ i. absurd (false≢true (sym i ∙ ap has_come at_desk));
            }

        at_desk_node : (x ≡ desk) → leads desk
        at_desk_node xd =
            let now = desk_moves (new desk) f in
            let was_open : s desk ≡ Here (replies_at (s desk)) false = subst (λ z. s z ≡ Here (replies_at (s z)) false) xd (open_is t is s h x y (reply ∷ replies) done kid was) in
            let untouched : heard' desk ≡ heard desk = ap (λ b. cond b (heard desk ++ reply ∷ []) (heard desk)) (not_its_parent x y kid (ap (λ z. t.same z t.root) xd ∙ desk_apart)) in
            let sent_same : sent_up (moved t s desk (new desk) f) heard' desk ≡ sent_up s heard desk =
            (λ i. untouched i ++ replies_at (now.1 i)) ∙ ap (λ b. heard desk ++ (replies_at (s desk) ++ cond b [] (reply ∷ []))) held_there ∙ ap (λ z. heard desk ++ z) (append-nil (replies_at (s desk))) in
            record {
              taken = untouched ∙ d.taken ∙ ap replies_at (sym now.0);
              early = λ i. sent_same ∙ d.early (ap is_done was_open);
              late = λ i. absurd (false≢true (ap is_done (sym now.1) ∙ i));
              fresh = λ i. absurd (false≢true (sym i ∙ ap has_come now.1));
            }

        by : (a : Bool) → t.same x t.root ≡ a → (b : Bool) → t.same x desk ≡ b → leads x
        by false ea false eb =
            subst (Desk (moved t s x (new x) f) heard') (ap (λ b. cond b (got ++ reply ∷ []) got) (sym (at.one x ∙ eb)))
            (elsewhere x (new x) f heard' ea eb (ap (λ b. cond b (heard desk ++ reply ∷ []) (heard desk)) (not_its_parent x y kid ea)))
        by true ea b eb = subst leads (sym (is.decides x t.root ea)) (at_root_node (is.decides x t.root ea))
        by false ea true eb = subst leads (sym (is.decides x desk eb)) (at_desk_node (is.decides x desk eb))

    desk_closes : (x y : N) (out : List R) (kid : is_child t x y ≡ true) (was : s y ≡ Here [] true) → ReleasesIf (t.gathers x && closes t s x y) release got out →
        Desk (moved t s x (Here (replies_at (s x) ++ out) (closes t s x y)) (with_one t s y Over)) heard got
    desk_closes x y out kid was r = by (t.same x t.root) refl (t.same x desk) refl
      where
        f : N → Stage R
        f = with_one t s y Over

        new : N → Stage R
        new z = Here (replies_at (s z) ++ out) (closes t s z y)

        leads : N → Type 0
        leads z = Desk (moved t s z (new z) f) heard got

        at_root_node : (x ≡ t.root) → leads t.root
        at_root_node xr =
            let yd : y ≡ desk = only_child y (ap (λ z. is_child t z y) (sym xr) ∙ kid) in
            let itself : t.same y desk ≡ true = ap (λ z. t.same z desk) yd ∙ is.itself desk in
            let now = root_moves (new t.root) f in
            let at_desk : moved t s t.root (new t.root) f desk ≡ Over = now.1 ∙ ap (λ b. cond b Over (s desk)) itself in
            let up : s desk ≡ Here [] true = ap s (sym yd) ∙ was in
            let same : sent_up (moved t s t.root (new t.root) f) heard desk ≡ sent_up s heard desk = ap (λ u. heard desk ++ replies_at u) at_desk ∙ ap (λ u. heard desk ++ replies_at u) (sym up) in
            let nothing : out ≡ [] = no_release t.root (ap (λ z. t.gathers z && closes t s z y) xr ∙ ap (λ b. b && closes t s t.root y) plain_root) in
            record {
              taken = d.taken ∙ sym (append-nil (replies_at (s t.root))) ∙ ap (λ z. replies_at (s t.root) ++ z) (sym nothing) ∙ ap replies_at (sym now.0);
              early = λ i. absurd (false≢true (sym i ∙ ap is_done at_desk));
              late = λ i. ap release.shown same ∙ d.late (ap is_done up);
              fresh = λ i. absurd (false≢true (sym i ∙ ap has_come at_desk));
            }
          where
            no_release : (z : N) → (t.gathers x && closes t s x y) ≡ false → out ≡ []
            no_release z e = subst (λ b. ReleasesIf b release got out) e r

        at_desk_node : (x ≡ desk) → leads desk
        at_desk_node xd =
            let now = desk_moves (new desk) f in
            let was_open : s desk ≡ Here (replies_at (s desk)) false = subst (λ z. s z ≡ Here (replies_at (s z)) false) xd (open_is t is s h x y [] true kid was) in
            let empty : sent_up s heard desk ≡ [] = d.early (ap is_done was_open) in
            let sent_is : sent_up (moved t s desk (new desk) f) heard desk ≡ out =
            ap (λ u. heard desk ++ replies_at u) now.1 ∙ sym (append_assoc (heard desk) (replies_at (s desk)) out) ∙ ap (λ z. z ++ out) empty in
            let done_is : is_done (moved t s desk (new desk) f desk) ≡ closes t s desk y = ap is_done now.1 in
            let may : ReleasesIf (closes t s desk y) release got out = subst (λ b. ReleasesIf b release got out) (ap (λ z. t.gathers z && closes t s z y) xd ∙ ap (λ b. b && closes t s desk y) held_there) r in
            record {
              taken = d.taken ∙ ap replies_at (sym now.0);
              early = λ i. sent_is ∙ subst (λ b. ReleasesIf b release got out) (sym done_is ∙ i) may;
              late = λ i. ap release.shown sent_is ∙ subst (λ b. ReleasesIf b release got out) (sym done_is ∙ i) may;
              fresh = λ i. absurd (false≢true (sym i ∙ ap has_come now.1));
            }

        by : (a : Bool) → t.same x t.root ≡ a → (b : Bool) → t.same x desk ≡ b → leads x
        by false ea false eb = elsewhere x (new x) f heard ea eb refl
        by true ea b eb = subst leads (sym (is.decides x t.root ea)) (at_root_node (is.decides x t.root ea))
        by false ea true eb = subst leads (sym (is.decides x desk eb)) (at_desk_node (is.decides x desk eb))

    desk_moved : (w : Way N R) (m : Move t s) → Agrees release t s m w got → Desk (after t s m) (heard_after t s m heard) (got_after t s m got)
    desk_moved w (Begin x may) a = desk_begins x may
    desk_moved w (Say x reply replies leaf here) a = let n = not_leaf x leaf in elsewhere x (Here (replies ++ reply ∷ []) false) s heard n.0 n.1 refl
    desk_moved w (End x replies leaf here) a = let n = not_leaf x leaf in elsewhere x (Here replies true) s heard n.0 n.1 refl
    desk_moved w (Pass x y reply replies done kid was) a = desk_passes x y reply replies done kid was
    desk_moved w (Close x y out kid was) a = desk_closes x y out kid was a

  module _ (w : Way N R) (on : IsWay t w) where
    on_way : (x : N) → t.gathers x ≡ true → w.on x ≡ true
    on_way x e =
        let xd : x ≡ desk = is.decides x desk (sym (at.one x) ∙ e) in
        let nd : w.next t.root ≡ desk = only_child (w.next t.root) (on.goes t.root on.starts root_apart) in
        ap w.on (xd ∙ sym nd) ∙ on.stays t.root on.starts root_apart
      where
        root_apart : t.same t.root w.replier ≡ false
        root_apart = by (t.same t.root w.replier) refl
          where
            by : (b : Bool) → t.same t.root w.replier ≡ b → b ≡ false
            by false k = refl
            by true k = absurd (false≢true (sym on.leaf ∙ ap t.passes (sym (is.decides t.root w.replier k)) ∙ is.asks))

    passing : (x : N) → t.gathers x ≡ true → t.passes x ≡ true
    passing x e = ap t.passes (is.decides x desk (sym (at.one x) ∙ e)) ∙ at.passes

    one : (x y : N) → t.gathers x ≡ true → t.gathers y ≡ true → x ≡ y
    one x y e f = is.decides x desk (sym (at.one x) ∙ e) ∙ sym (is.decides y desk (sym (at.one y) ∙ f))

    desk_at : (s : N → Stage R) (heard : N → List R) (got said : List R) → Course release t w s heard got said → Desk s heard got
    desk_at s heard got said Start = record { taken = refl; early = λ i. refl; late = λ i. absurd (false≢true i); fresh = λ i. refl }
    desk_at s heard got said (Then old was had of c m a) = desk_moved old (stands_at release t is w on on_way passing one old was had of c).sound was had (desk_at old was had of c) w m a

    module _ (s : N → Stage R) (heard : N → List R) (got said : List R) (h : Stands t w s heard got said) (d : Desk s heard got) where
      desk_on : w.on desk ≡ true
      desk_on = on_way desk held_there

      desk_passes_on : t.same desk w.replier ≡ false
      desk_passes_on = by (t.same desk w.replier) refl
        where
          by : (b : Bool) → t.same desk w.replier ≡ b → b ≡ false
          by false k = refl
          by true k = absurd (false≢true (sym on.leaf ∙ ap t.passes (sym (is.decides desk w.replier k)) ∙ at.passes))

      abbrev next : N
      next = w.next desk

      next_child : is_child t desk next ≡ true
      next_child = on.goes desk desk_on desk_passes_on

      next_on : w.on next ≡ true
      next_on = on.stays desk desk_on desk_passes_on

      abbrev top : ℕ
      top = t.height desk

      low : t.height next < top
      low = is.falls desk next next_child

      free : (x : N) → t.height x < top → t.gathers x ≡ false
      free x l = at.one x ∙ by (t.same x desk) refl
        where
          by : (b : Bool) → t.same x desk ≡ b → b ≡ false
          by false k = refl
          by true k = let same : t.height x ≡ t.height desk = ap (λ z. t.height z) (is.decides x desk k) in absurd (omega (arith, l, same))

      got_is : filter w.is_own got ≡ filter w.is_own (heard next)
      got_is = h.brings.gathered desk desk_on desk_passes_on held_there

      sent_is : sent_up s heard desk ≡ replies_at (s t.root) ++ replies_at (s desk)
      sent_is = ap (λ z. z ++ replies_at (s desk)) d.taken

      over_next : is_done (s desk) ≡ true → s next ≡ Over
      over_next k = done_below (s desk) (s next) k (h.sound.fit desk next next_child)

      whole_then : is_done (s desk) ≡ true → (filter w.is_own got ≡ said) × (is_done (s w.replier) ≡ true)
      whole_then k =
          let more = whole t is s h.sound w on heard got said h.brings top free next low next_on (ap is_done (over_next k)) in
          (got_is ∙ ap (filter w.is_own) (sym (append-nil (heard next)) ∙ ap (λ u. heard next ++ replies_at u) (sym (over_next k))) ∙ more.0, more.1)

      at_rest : IsQuiet t s → (x y : N) → is_child t x y ≡ true → replies_at (s y) ≡ []
      at_rest q x y k = nothing_waits (s y) (q x y k)

      final_then : (u : Stage R) → s t.root ≡ u → stands u ≡ true → is_not_yet u ≡ false → IsQuiet t s → IsFinished t s → is_done u ≡ true
      final_then NotYet e o n q f = absurd (false≢true (sym n))
      final_then OnTheWay e o n q f = absurd (false≢true o)
      final_then (Here rs done) e o n q f = final_comes t is s h.sound rs done e q f
      final_then Over e o n q f = refl

      answered_gathered : IsGathered release t desk w s got said
      answered_gathered = record {
        prefix = let p = prefix t is s h.sound w on heard got said h.brings top free next low next_on in (
          filter w.is_own (replies_at (s next)) ++ p.0,
          ap (λ z. z ++ (filter w.is_own (replies_at (s next)) ++ p.0)) got_is ∙ sym (append_assoc (filter w.is_own (heard next)) (filter w.is_own (replies_at (s next))) p.0)
              ∙ ap (λ z. z ++ p.0) (sym (filter-append w.is_own (heard next) (replies_at (s next)))) ∙ p.1,
        );
        early = λ k. sym sent_is ∙ d.early k;
        released = λ k. ap release.shown (sym sent_is) ∙ d.late k;
        whole = λ k. (whole_then k).0;
        ended = λ k. (whole_then k).1;
        all = λ k. let over : s desk ≡ Over = done_below (s t.root) (s desk) k (h.sound.fit t.root desk child) in (ap is_done over, ap replies_at over);
        quiet = λ q. (
          at_rest q t.root desk child,
          got_is ∙ ap (filter w.is_own) (sym (append-nil (heard next)) ∙ ap (λ r. heard next ++ r) (sym (at_rest q desk next next_child))) ∙ whole_quiet t is s h.sound w on heard got said h.brings top free next low next_on q,
        );
        final = λ n q f. final_then (s t.root) refl h.root n q f;
      }

pub gathered_law : (N R C : Type 0) → QueriesAreGathered N R C
gathered_law N R C release t desk w is at on none s heard got said c =
    let h = stands_at release t is w on (on_way release t is desk at none w on) (passing release t is desk at none w on) (one release t is desk at none w on) s heard got said c in
    answered_gathered release t is desk at none w on s heard got said h (desk_at release t is desk at none w on s heard got said c)
