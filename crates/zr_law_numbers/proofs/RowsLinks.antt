-- All links that rows name pass a test: what each call makes of that.
use Rattle.std.proofs.Common.{◌≡◌, ℕ, ◌==◌, ◌&&◌, ◌||◌, not, Bool, true, false, cond, List, [], ◌∷◌, ◌++◌, append-nil, Option, Some, None, refl, sym, ap, subst, ◌∙◌}
use Rattle.std.specs.List.{list_any, find, AllByRecursion}
use Rattle.std.specs.Option.{option_map, option_map_or, IfSome}
use Rattle.std.proofs.lemmas.Bool.{eqb-true, eq-eqb, false_from_ne_true, false≢true, and_from}
use Rattle.std.proofs.lemmas.Grind.{flat_map-append}
use Rattle.zr_id.specs.declared.link.LinkNo.{LinkNo}
use Rattle.zr_pend_spec.specs.declared.branch.Asker.{Asker}
use Rattle.zr_pend_spec.specs.declared.branch.Branch.{Branch}
use Rattle.zr_pend_spec.specs.Row.{RowState, is_branch, has, is_asked_by, is_done, is_of, without}
use Rattle.zr_pend_spec.specs.Pending.{asked, is_pending, branch, branches, opened, begun, finished, all_finished, all_orphaned, branches_on, dropped}
use Rattle.zr_pend_spec.specs.Readings.{back}
use Rattle.zr_pend_spec.proofs.Sound.{any_branch, finished_branches, all_orphaned_branches}
use Rattle.zr_pend_spec.proofs.Dropped.{gone}
use Rattle.zr_lists.proofs.Each.{All-append, All-kept}
use Rattle.zr_lists.proofs.Parts.{and_left, left_false, right_false}

-- ---- the links of askers and of branches

module _ (P : ℕ → Type 0) where
  abbrev pub OfAskers : List RowState → Type 0
  OfAskers rows = AllByRecursion (λ r. IfSome r.asker (λ a. P a.link.0)) rows

  abbrev pub OfBranches : List RowState → Type 0
  OfBranches rows = AllByRecursion (λ b. P b.link.0) (branches rows)

  pub asker_passes : (rows : List RowState) (b : Branch) (a : Asker) → OfAskers rows → back rows b ≡ Some (Some a) → P a.link.0
  asker_passes [] b a h e = cc
  asker_passes (r ∷ rows) b a h e = by (has b r) e (asker_passes rows b a h.1)
    where
      own : (o : Option Asker) → IfSome o (λ z. P z.link.0) → o ≡ Some a → P a.link.0
      own None p k = cc
      own (Some z) p k = let same : z ≡ a = cc in subst (λ (x : Asker). P x.link.0) same p

      by : (t : Bool) → option_map (λ (x : RowState). x.asker) (cond t (Some r) (find (λ x. has b x) rows)) ≡ Some (Some a) → (back rows b ≡ Some (Some a) → P a.link.0) → P a.link.0
      by true k ih = own r.asker h.0 (let same : r.asker ≡ Some a = cc in same)
      by false k ih = ih k

  pub asked_passes : (rows : List RowState) (a : Asker) → OfAskers rows → asked a rows ≡ true → P a.link.0
  asked_passes [] a h e = cc
  asked_passes (r ∷ rows) a h e = by (is_asked_by a r) refl e (asked_passes rows a h.1)
    where
      own : (o : Option Asker) → IfSome o (λ z. P z.link.0) → option_map_or (λ z. z.link.0 == a.link.0 && z.number == a.number) o false ≡ true → P a.link.0
      own None p k = cc
      own (Some z) p k = subst (λ n. P n) (eqb-true z.link.0 a.link.0 (and_left _ _ k)) p

      by : (t : Bool) → is_asked_by a r ≡ t → (t || asked a rows) ≡ true → (asked a rows ≡ true → P a.link.0) → P a.link.0
      by true f k ih = own r.asker h.0 f
      by false f k ih = ih k

  listed_passes : (link : LinkNo) (n : ℕ) (bs : List Branch) → AllByRecursion (λ b. P b.link.0) bs → list_any (λ c. is_branch (branch link n) c) bs ≡ true → P link.0
  listed_passes link n [] h e = cc
  listed_passes link n (b ∷ bs) h e = by (is_branch (branch link n) b) refl e (listed_passes link n bs h.1)
    where
      by : (t : Bool) → is_branch (branch link n) b ≡ t → (t || list_any (λ c. is_branch (branch link n) c) bs) ≡ true → (list_any (λ c. is_branch (branch link n) c) bs ≡ true → P link.0) → P link.0
      by true f k ih = subst (λ m. P m) (eqb-true b.link.0 link.0 (and_left _ _ f)) h.0
      by false f k ih = ih k

  pub pending_passes : (link : LinkNo) (n : ℕ) (rows : List RowState) → OfBranches rows → is_pending (branch link n) rows ≡ true → P link.0
  pending_passes link n rows h e = listed_passes link n (branches rows) h (any_branch (branch link n) rows ∙ e)

  -- ---- a request begins

  pub begun_askers : (rows : List RowState) (from : Asker) (to : List LinkNo) → OfAskers rows → P from.link.0 → OfAskers (begun rows from to)
  begun_askers rows from to h p = All-append (λ (r : RowState). IfSome r.asker (λ a. P a.link.0)) rows (record { asker = Some from; branches = opened rows to } ∷ []) h (p, tt)

  opened_branches : (rows : List RowState) (to : List LinkNo) → AllByRecursion (λ l. P l.0) to → AllByRecursion (λ b. P b.link.0) (opened rows to)
  opened_branches rows [] h = tt
  opened_branches rows (l ∷ ls) h = (h.0, opened_branches rows ls h.1)

  pub begun_branches : (rows : List RowState) (from : Asker) (to : List LinkNo) → OfBranches rows → AllByRecursion (λ l. P l.0) to → OfBranches (begun rows from to)
  begun_branches rows from to h k =
      subst (λ bs. AllByRecursion (λ (b : Branch). P b.link.0) bs)
      (sym (flat_map-append (λ (r : RowState). r.branches) rows (record { asker = Some from; branches = opened rows to } ∷ []) ∙ ap (λ z. branches rows ++ z) (append-nil (opened rows to))))
      (All-append (λ (b : Branch). P b.link.0) (branches rows) (opened rows to) h (opened_branches rows to k))

  -- ---- a branch ends

  pub finished_askers : (rows : List RowState) (b : Branch) → OfAskers rows → OfAskers (finished rows b)
  finished_askers [] b h = tt
  finished_askers (r ∷ rows) b h = by (is_done (without b r)) (finished_askers rows b h.1)
    where
      by : (t : Bool) → OfAskers (finished rows b) → OfAskers (cond (not t) (without b r ∷ finished rows b) (finished rows b))
      by true ih = ih
      by false ih = (h.0, ih)

  pub finished_links : (rows : List RowState) (b : Branch) → OfBranches rows → OfBranches (finished rows b)
  finished_links rows b h =
      subst (λ bs. AllByRecursion (λ (c : Branch). P c.link.0) bs) (sym (finished_branches rows b)) (All-kept (λ (c : Branch). P c.link.0) (λ (c : Branch). P c.link.0) (λ c. not (is_branch b c)) (branches rows) (λ c p k. p) h)

  all_finished_askers : (rows : List RowState) (bs : List Branch) → OfAskers rows → OfAskers (all_finished rows bs)
  all_finished_askers rows [] h = h
  all_finished_askers rows (b ∷ bs) h = all_finished_askers (finished rows b) bs (finished_askers rows b h)

  all_finished_links : (rows : List RowState) (bs : List Branch) → OfBranches rows → OfBranches (all_finished rows bs)
  all_finished_links rows [] h = h
  all_finished_links rows (b ∷ bs) h = all_finished_links (finished rows b) bs (finished_links rows b h)

-- ---- a link goes down

-- no branch is on a link of which no number is there
off_link : (link : LinkNo) (bs : List Branch) → ((n : ℕ) → list_any (λ c. is_branch (branch link n) c) bs ≡ false) → AllByRecursion (λ b. (b.link.0 == link.0) ≡ false) bs
off_link link [] h = tt
off_link link (b ∷ bs) h = (
  false_from_ne_true _ (λ t. absurd (false≢true (sym (left_false _ _ (h b.number)) ∙ and_from _ _ t (eq-eqb b.number b.number refl)))),
  off_link link bs (λ n. right_false _ _ (h n)),
)

-- what passes on all other links passes then
module _ (P Q : ℕ → Type 0) (link : LinkNo) (others : (n : ℕ) → (n == link.0) ≡ false → P n → Q n) where
  orphaned_askers : (rows : List RowState) → OfAskers P rows → OfAskers Q (all_orphaned link rows)
  orphaned_askers [] h = tt
  orphaned_askers (r ∷ rows) h = (own (is_of link r) refl, orphaned_askers rows h.1)
    where
      kept : (o : Option Asker) → option_map_or (λ a. a.link.0 == link.0) o false ≡ false → IfSome o (λ a. P a.link.0) → IfSome o (λ a. Q a.link.0)
      kept None e p = tt
      kept (Some a) e p = others a.link.0 e p

      own : (t : Bool) → is_of link r ≡ t → IfSome (cond t (record { asker = None; branches = r.branches }) r).asker (λ a. Q a.link.0)
      own true e = tt
      own false e = kept r.asker e h.0

  both : (bs : List Branch) → AllByRecursion (λ b. P b.link.0) bs → AllByRecursion (λ b. (b.link.0 == link.0) ≡ false) bs → AllByRecursion (λ b. Q b.link.0) bs
  both [] h k = tt
  both (b ∷ bs) h k = (others b.link.0 k.0 h.0, both bs h.1 k.1)

  pub dropped_askers : (rows : List RowState) → OfAskers P rows → OfAskers Q (dropped link rows)
  dropped_askers rows h = all_finished_askers Q (all_orphaned link rows) (branches_on link rows) (orphaned_askers rows h)

  pub dropped_branches : (rows : List RowState) → OfBranches P rows → OfBranches Q (dropped link rows)
  dropped_branches rows h =
      both (branches (dropped link rows))
      (all_finished_links P (all_orphaned link rows) (branches_on link rows) (subst (λ bs. AllByRecursion (λ (b : Branch). P b.link.0) bs) (sym (all_orphaned_branches link rows)) h))
      (off_link link (branches (dropped link rows)) (λ n. any_branch (branch link n) (dropped link rows) ∙ (gone link rows).none n))
