-- Plans of the clients that changed declarations touch are what all clients are told.
use Rattle.std.proofs.Common.{Less, Result, Ok, Err, ◌≡◌, ℕ, ◌+◌, ◌<◌, ◌==◌, ◌&&◌, ◌||◌, Bool, true, false, cond, List, [], ◌∷◌, ◌++◌, map, length, drop, get_or, refl, sym, ap, ◌∙◌, subst, arith, append_assoc, append-nil}
use Rattle.std.specs.declared.option.Option.TheVariants.{None, Some}
use Rattle.std.specs.List.{flat_map, fold, list_any, AllByRecursion}
use Rattle.std.specs.List.Sorted.{IsStrictlySortedBy}
use Rattle.std.specs.Ordering.{nat_cmp}
use Rattle.std.specs.Option.{option_map_or}
use Rattle.std.proofs.lemmas.Bool.{eqb-true, or_parts, or_left, or_from}
use Rattle.std.proofs.lemmas.List.{map-append, at_drop_more}
use Rattle.std.proofs.lemmas.Grind.{flat_map-append}
use Rattle.zr_lists.proofs.Numbers.{above_differs}
use Rattle.zr_node_spec.specs.Tables.{TableState}
use Rattle.zr_told_spec.specs.Place.{same}
use Rattle.zr_told_spec.specs.Wanted.{fits, told_as, wanted}
use Rattle.zr_told_spec.specs.Told.{ToldMap, entered, undeclared, declared}
use Rattle.zr_told_spec.specs.Rows.{Maps, map_on, sent_on, others, touches, is_touched, tells_changes, told_changes, tells_all, lacks_ids, one_lacks_ids, AreFew, IsAsWantedBut}
use Rattle.zr_told.specs.Plan.{IsPlan, HasIds, forgotten, tells_plan, told_plan, plan_on, told_plans, ids_last, PlansAscend}
use Rattle.zr_local.specs.Clients.{AreByLink}
use Rattle.zr_local.specs.declared.interest.ClientInterests.{ClientInterests}
use Rattle.zr_local.specs.declared.interest.Interest.{Interest}
use Rattle.zr_told_spec.specs.declared.place.Place.{Place}
use Rattle.zr_told.specs.declared.book.Plan.{Plan}
use Rattle.zr_told.specs.declared.plan.LinkPlan.{LinkPlan}
use Rattle.zr_told.proofs.Clients.{sorted_links, entry_on, told_among}
use Rattle.zr_told_spec.proofs.Events.{nothing_is_told}
use Rattle.zr_told.proofs.Links.{few_on}
use Rattle.zr_told.proofs.Plans.{plan_tells, plan_told}
use Rattle.zr_told_spec.proofs.Sorted.{few_wanted}
use Rattle.zr_told_spec.proofs.Touching.{hits}

-- what is left of a list, with its first one
pub next_left : {X : Type 0} (xs : List X) (i : ℕ) (x : X) → i < length xs → x ≡ get_or xs i x → drop i xs ≡ x ∷ drop (i + 1) xs
next_left xs i x less is = at_drop_more (λ z. z) xs i x less ∙ ap (λ z. z ∷ drop (i + 1) xs) (sym is)

-- ---- links that ascend

abbrev Sorted : List ℕ → Type 0
Sorted ks = IsStrictlySortedBy nat_cmp ks

above : (k : ℕ) (ks : List ℕ) → Sorted (k ∷ ks) → AllByRecursion (λ y. nat_cmp k y ≡ Less) ks
unfolding IsStrictlySortedBy
above k ks s = s.0

below : (k : ℕ) (ks : List ℕ) → Sorted (k ∷ ks) → Sorted ks
unfolding IsStrictlySortedBy
below k ks s = s.1

-- no other stands on the link of the first
none_later : (c : ClientInterests) (cs : List ClientInterests) → Sorted (map (λ d. d.link.0) (c ∷ cs)) → entry_on cs c.link.0 ≡ None
none_later c cs s = on cs (above c.link.0 (map (λ d. d.link.0) cs) s)
  where
    on : (ds : List ClientInterests) → AllByRecursion (λ y. nat_cmp c.link.0 y ≡ Less) (map (λ d. d.link.0) ds) → entry_on ds c.link.0 ≡ None
    on [] a = refl
    on (d ∷ ds) a = ap (λ z. cond z (Some d) (entry_on ds c.link.0)) (above_differs c.link.0 d.link.0 a.0) ∙ on ds a.1

no_plan_later : (e : LinkPlan) (es : List LinkPlan) → PlansAscend (e ∷ es) → plan_on es e.link.0 ≡ None
no_plan_later e es s = on es (above e.link.0 (map (λ d. d.link.0) es) s)
  where
    on : (ds : List LinkPlan) → AllByRecursion (λ y. nat_cmp e.link.0 y ≡ Less) (map (λ d. d.link.0) ds) → plan_on ds e.link.0 ≡ None
    on [] a = refl
    on (d ∷ ds) a = ap (λ z. cond z (Some d) (plan_on ds e.link.0)) (above_differs e.link.0 d.link.0 a.0) ∙ on ds a.1

-- ---- one client is told

module _ (e : LinkPlan) (es : List LinkPlan) (m n : Maps) (s : PlansAscend (e ∷ es)) (h : (k : ℕ) → map_on n k ≡ cond (e.link.0 == k) (told_plan m e) (map_on m k)) where
  abbrev Same : List LinkPlan → Type 0
  Same fs = AllByRecursion (λ f. map_on n f.link.0 ≡ map_on m f.link.0) fs

  others_same : Same es
  others_same = on es (above e.link.0 (map (λ d. d.link.0) es) s)
    where
      flip : (a b : ℕ) → nat_cmp a b ≡ Less → (a == b) ≡ false
      flip a b h = grind (arith, h)

      on : (ds : List LinkPlan) → AllByRecursion (λ y. nat_cmp e.link.0 y ≡ Less) (map (λ d. d.link.0) ds) → Same ds
      on [] a = tt
      on (d ∷ ds) a = (h d.link.0 ∙ ap (λ z. cond z (told_plan m e) (map_on m d.link.0)) (flip e.link.0 d.link.0 a.0), on ds a.1)

  pub tells_rest : flat_map (tells_plan n) es ≡ flat_map (tells_plan m) es
  tells_rest = on es others_same
    where
      on : (fs : List LinkPlan) → Same fs → flat_map (tells_plan n) fs ≡ flat_map (tells_plan m) fs
      on [] a = refl
      on (f ∷ fs) a =
          ap (λ z. sent_on f.link (undeclared z f.plan.gone.items ++ declared None (forgotten z f.plan.gone.items) f.plan.fresh.items) ++ flat_map (tells_plan n) fs) a.0
          ∙ ap (λ z. tells_plan m f ++ z) (on fs a.1)

  pub last_rest : ids_last m es → ids_last n es
  last_rest i = on es others_same i
    where
      on : (fs : List LinkPlan) → Same fs → ids_last m fs → ids_last n fs
      on [] a i = tt
      on (f ∷ fs) a i = (subst (λ z. HasIds z f.plan) (sym a.0) i.0, on fs a.1 i.1)

  pub told_rest : (k : ℕ) → told_plans n es k ≡ told_plans m (e ∷ es) k
  told_rest k = by (e.link.0 == k) refl
    where
      on : (fs : List LinkPlan) (d : ToldMap) → Same fs → option_map_or (told_plan n) (plan_on fs k) d ≡ option_map_or (told_plan m) (plan_on fs k) d
      on [] d a = refl
      on (f ∷ fs) d a = at_first (f.link.0 == k) (on fs d a.1)
        where
          at_first : (b : Bool) → option_map_or (told_plan n) (plan_on fs k) d ≡ option_map_or (told_plan m) (plan_on fs k) d →
              option_map_or (told_plan n) (cond b (Some f) (plan_on fs k)) d ≡ option_map_or (told_plan m) (cond b (Some f) (plan_on fs k)) d
          at_first true ih = ap (λ z. fold entered (forgotten z f.plan.gone.items) f.plan.fresh.items) a.0
          at_first false ih = ih

      by : (b : Bool) → (e.link.0 == k) ≡ b → told_plans n es k ≡ told_plans m (e ∷ es) k
      by true q =
          let i : e.link.0 ≡ k = eqb-true e.link.0 k q in
          let o : plan_on es k ≡ None = ap (λ z. plan_on es z) (sym i) ∙ no_plan_later e es s in
          ap (λ z. option_map_or (told_plan n) z (map_on n k)) o
          ∙ h k
          ∙ ap (λ z. cond z (told_plan m e) (map_on m k)) q
          ∙ sym (ap (λ z. option_map_or (told_plan m) (cond z (Some e) (plan_on es k)) (map_on m k)) q)
      by false q =
          on es (map_on n k) others_same
          ∙ ap (λ z. option_map_or (told_plan m) (plan_on es k) z) (h k ∙ ap (λ z. cond z (told_plan m e) (map_on m k)) q)
          ∙ sym (ap (λ z. option_map_or (told_plan m) (cond z (Some e) (plan_on es k)) (map_on m k)) q)

-- the first one of those that are left is told
pub told_more : (m n : Maps) (e : LinkPlan) (es left : List LinkPlan) → left ≡ e ∷ es → PlansAscend left → ids_last m left → ((k : ℕ) → map_on n k ≡ cond (e.link.0 == k) (told_plan m e) (map_on m k)) →
    ((k : ℕ) → told_plans n es k ≡ told_plans m left k) × (tells_plan m e ++ flat_map (tells_plan n) es ≡ flat_map (tells_plan m) left) × ids_last n es × PlansAscend es
told_more m n e es left q s i h =
    let t : PlansAscend (e ∷ es) = subst (λ z. PlansAscend z) q s in
    let j : ids_last m (e ∷ es) = subst (λ z. ids_last m z) q i in (
      λ k. told_rest e es m n t h k ∙ sym (ap (λ z. told_plans m z k) q),
      ap (λ z. tells_plan m e ++ z) (tells_rest e es m n t h) ∙ sym (ap (λ z. flat_map (tells_plan m) z) q),
      last_rest e es m n t h j.1,
      below e.link.0 (map (λ d. d.link.0) es) t,
    )

-- ---- plans of some clients, and what is left

pub record ArePlanned (t : TableState) (cs : List ClientInterests) (maps : Maps) (es : List LinkPlan) (rest : List ClientInterests) : Type 0 where
  pub links : Sorted (map (λ e. e.link.0) es ++ map (λ c. c.link.0) rest)
  pub last : ids_last maps es
  pub tells : flat_map (tells_plan maps) es ++ tells_all t rest maps ≡ tells_all t cs maps
  pub told : (k : ℕ) → option_map_or (told_plan maps) (plan_on es k) (told_among t rest maps k) ≡ told_among t cs maps k
  pub ids : one_lacks_ids t cs ≡ one_lacks_ids t rest

pub none_planned : (t : TableState) (cs : List ClientInterests) (maps : Maps) → AreByLink cs → ArePlanned t cs maps [] cs
none_planned t cs maps s = record { links = sorted_links cs s; last = tt; tells = refl; told = λ k. refl; ids = refl }

-- and where none is left
pub record AreAll (t : TableState) (cs : List ClientInterests) (maps : Maps) (es : List LinkPlan) : Type 0 where
  pub ascend : PlansAscend es
  pub tells : flat_map (tells_plan maps) es ≡ tells_all t cs maps
  pub ids : one_lacks_ids t cs ≡ false

pub all_planned : (t : TableState) (cs : List ClientInterests) (maps : Maps) (es : List LinkPlan) (rest : List ClientInterests) → rest ≡ [] → ArePlanned t cs maps es rest → AreAll t cs maps es
all_planned t cs maps es rest e a =
    let b = subst (λ z. ArePlanned t cs maps es z) e a in
    record {
      ascend = subst (λ z. Sorted z) (append-nil (map (λ e. e.link.0) es)) b.links;
      tells = sym (append-nil (flat_map (tells_plan maps) es)) ∙ b.tells;
      ids = b.ids;
    }

-- ids don't last for a client that is left
pub worn_there : (t : TableState) (cs : List ClientInterests) (maps : Maps) (es : List LinkPlan) (c : ClientInterests) (rest left : List ClientInterests) → left ≡ c ∷ rest → ArePlanned t cs maps es left →
    lacks_ids (others t c.link.0) c.interests ≡ true → one_lacks_ids t cs ≡ true
worn_there t cs maps es c rest left q a h = a.ids ∙ ap (λ z. one_lacks_ids t z) q ∙ or_left (lacks_ids (others t c.link.0) c.interests) (one_lacks_ids t rest) h

added_on : (maps : Maps) (es : List LinkPlan) (e : LinkPlan) (k : ℕ) (d : ToldMap) →
    option_map_or (told_plan maps) (plan_on (es ++ e ∷ []) k) d ≡ option_map_or (told_plan maps) (plan_on es k) (cond (e.link.0 == k) (told_plan maps e) d)
added_on maps [] e k d = by (e.link.0 == k)
  where
    by : (b : Bool) → option_map_or (told_plan maps) (cond b (Some e) None) d ≡ cond b (told_plan maps e) d
    by true = refl
    by false = refl
added_on maps (f ∷ es) e k d = by (f.link.0 == k) (added_on maps es e k d)
  where
    by : (b : Bool) → option_map_or (told_plan maps) (plan_on (es ++ e ∷ []) k) d ≡ option_map_or (told_plan maps) (plan_on es k) (cond (e.link.0 == k) (told_plan maps e) d) →
        option_map_or (told_plan maps) (cond b (Some f) (plan_on (es ++ e ∷ []) k)) d ≡ option_map_or (told_plan maps) (cond b (Some f) (plan_on es k)) (cond (e.link.0 == k) (told_plan maps e) d)
    by true ih = refl
    by false ih = ih

last_added : (maps : Maps) (es : List LinkPlan) (e : LinkPlan) → ids_last maps es → HasIds (map_on maps e.link.0) e.plan → ids_last maps (es ++ e ∷ [])
last_added maps [] e a f = (f, tt)
last_added maps (g ∷ es) e a f = (a.0, last_added maps es e a.1 f)

pub one_planned : (t : TableState) (cs : List ClientInterests) (maps : Maps) (es : List LinkPlan) (c : ClientInterests) (rest : List ClientInterests) (p : Plan) →
    IsPlan (λ q. false) (wanted (others t c.link.0) c.interests) (map_on maps c.link.0) p → lacks_ids (others t c.link.0) c.interests ≡ false →
    ArePlanned t cs maps es (c ∷ rest) → ArePlanned t cs maps (es ++ record { link = c.link; plan = p } ∷ []) rest
one_planned t cs maps es c rest p i l a = record {
  links = subst (λ z. Sorted z) (sym (ap (λ z. z ++ map (λ d. d.link.0) rest) (map-append (λ e. e.link.0) es (record { link = c.link; plan = p } ∷ [])) ∙ append_assoc (map (λ e. e.link.0) es) (c.link.0 ∷ []) (map (λ d. d.link.0) rest))) a.links;
  last = last_added maps es (record { link = c.link; plan = p }) a.last i.ids;
  tells =
      ap (λ z. z ++ tells_all t rest maps) (flat_map-append (tells_plan maps) es (record { link = c.link; plan = p } ∷ []))
      ∙ append_assoc (flat_map (tells_plan maps) es) (tells_plan maps (record { link = c.link; plan = p }) ++ []) (tells_all t rest maps)
      ∙ ap (λ z. flat_map (tells_plan maps) es ++ z) (append_assoc (tells_plan maps (record { link = c.link; plan = p })) [] (tells_all t rest maps))
      ∙ ap (λ z. flat_map (tells_plan maps) es ++ (z ++ tells_all t rest maps)) (ap (λ z. sent_on c.link z) (plan_tells (λ q. false) (wanted (others t c.link.0) c.interests) (map_on maps c.link.0) p None i))
      ∙ a.tells;
  told = λ k. added_on maps es (record { link = c.link; plan = p }) k (told_among t rest maps k)
      ∙ ap (λ z. option_map_or (told_plan maps) (plan_on es k) z) (by k (c.link.0 == k) refl)
      ∙ a.told k;
  ids = a.ids ∙ ap (λ z. z || one_lacks_ids t rest) l;
}
  where
    by : (k : ℕ) (b : Bool) → (c.link.0 == k) ≡ b → cond (c.link.0 == k) (told_plan maps (record { link = c.link; plan = p })) (told_among t rest maps k) ≡ told_among t (c ∷ rest) maps k
    by k true q =
        let j : c.link.0 ≡ k = eqb-true c.link.0 k q in
        ap (λ z. cond z (told_plan maps (record { link = c.link; plan = p })) (told_among t rest maps k)) q
        ∙ plan_told (λ q. false) (wanted (others t c.link.0) c.interests) (map_on maps c.link.0) p i
        ∙ ap (λ z. told_changes (others t z) c.interests (map_on maps z)) j
        ∙ sym (ap (λ z. option_map_or (λ d. told_changes (others t k) d.interests (map_on maps k)) (cond z (Some c) (entry_on rest k)) (map_on maps k)) q)
    by k false q =
        ap (λ z. cond z (told_plan maps (record { link = c.link; plan = p })) (told_among t rest maps k)) q
        ∙ sym (ap (λ z. option_map_or (λ d. told_changes (others t k) d.interests (map_on maps k)) (cond z (Some c) (entry_on rest k)) (map_on maps k)) q)

-- ---- a client that nothing touches

untouched_one : (is : List Interest) (q p : Place) → list_any (λ i. fits i q) is ≡ false → touches is q p ≡ false
untouched_one [] q p h = refl
untouched_one (i ∷ is) q p h =
    let k = or_parts (fits i q) (list_any (λ j. fits j q) is) h in
    or_from (hits i q p) (touches is q p) (ap (λ z. z && (same p q || same p (told_as i q))) k.0) (untouched_one is q p k.1)

untouched : (qs : List Place) (is : List Interest) (p : Place) → is_touched qs is ≡ false → list_any (λ q. touches is q p) qs ≡ false
untouched [] is p h = refl
untouched (q ∷ qs) is p h =
    let k = or_parts (list_any (λ i. fits i q) is) (is_touched qs is) h in
    or_from (touches is q p) (list_any (λ q. touches is q p) qs) (untouched_one is q p k.0) (untouched qs is p k.1)

-- it is told nothing, and ids last for it
pub record IsQuiet (t : TableState) (maps : Maps) (c : ClientInterests) : Type 0 where
  pub ids : lacks_ids (others t c.link.0) c.interests ≡ false
  pub tells : tells_changes (others t c.link.0) c.interests (map_on maps c.link.0) ≡ []
  pub told : told_changes (others t c.link.0) c.interests (map_on maps c.link.0) ≡ map_on maps c.link.0

pub quiet_one : (t : TableState) (maps : Maps) (c : ClientInterests) (qs : List Place) →
    is_touched qs c.interests ≡ false → IsAsWantedBut qs (others t c.link.0) c.interests (map_on maps c.link.0) → AreFew maps → IsQuiet t maps c
quiet_one t maps c qs h w few = record { ids = lasts; tells = quiet.0; told = quiet.1 }
  where
    lasts : lacks_ids (others t c.link.0) c.interests ≡ false
    lasts =
        let n = few_on maps c.link.0 few in
        let e = few_wanted (others t c.link.0) c.interests (map_on maps c.link.0) (λ p. w p (untouched qs c.interests p h)) in
        grind (arith, n, e)

    quiet : (tells_changes (others t c.link.0) c.interests (map_on maps c.link.0) ≡ []) × (told_changes (others t c.link.0) c.interests (map_on maps c.link.0) ≡ map_on maps c.link.0)
    quiet = nothing_is_told (others t c.link.0) c.interests (map_on maps c.link.0) (λ p. w p (untouched qs c.interests p h))

-- so it need not be among those that are told
pub told_without : (t : TableState) (maps : Maps) (c : ClientInterests) (rest : List ClientInterests) → AreByLink (c ∷ rest) → IsQuiet t maps c →
    (k : ℕ) → told_among t (c ∷ rest) maps k ≡ told_among t rest maps k
told_without t maps c rest s quiet k = by (c.link.0 == k) refl
  where
    by : (b : Bool) → (c.link.0 == k) ≡ b → told_among t (c ∷ rest) maps k ≡ told_among t rest maps k
    by true q =
        let j : c.link.0 ≡ k = eqb-true c.link.0 k q in
        let o : entry_on rest k ≡ None = ap (λ z. entry_on rest z) (sym j) ∙ none_later c rest (sorted_links (c ∷ rest) s) in
        ap (λ z. option_map_or (λ d. told_changes (others t k) d.interests (map_on maps k)) (cond z (Some c) (entry_on rest k)) (map_on maps k)) q
        ∙ ap (λ z. told_changes (others t z) c.interests (map_on maps z)) (sym j)
        ∙ quiet.told
        ∙ ap (λ z. map_on maps z) j
        ∙ sym (ap (λ z. option_map_or (λ d. told_changes (others t k) d.interests (map_on maps k)) z (map_on maps k)) o)
    by false q = ap (λ z. option_map_or (λ d. told_changes (others t k) d.interests (map_on maps k)) (cond z (Some c) (entry_on rest k)) (map_on maps k)) q

-- the error that a call gave, or another where it gave none
abbrev pub err_or : {T E : Type 0} → E → Result T E → E
err_or e (Ok x) = e
err_or e (Err f) = f
