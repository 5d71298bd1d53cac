-- Messages that come over a link, one after another.
use Rattle.std.proofs.Common.{◌≡◌, ◌≢◌, ℕ, ◌+◌, ◌<◌, ◌⊎◌, ◌↔◌, inl, inr, arith, Bool, true, false, List, [], ◌∷◌, ◌++◌, None, refl, sym, ap, subst, ◌∙◌, append_assoc, append-nil}
use Rattle.std.specs.Prelude.{Result, Ok, Err}
use Rattle.std.proofs.lemmas.List.{append_cancel_left, map-append}
use mathlib.Core.List.{IsPrefix}
use Rattle.zr_access.specs.Rules.{PolicyState}
use Rattle.zr_hist.specs.declared.pass.Pass.{Pass}
use Rattle.zr_hist.specs.Words.{mine, seen}
use Rattle.zr_id.specs.declared.link.LinkNo.{LinkNo}
use Rattle.zr_msg.specs.declared.event.Event.TheVariants.{From}
use Rattle.zr_msg.specs.declared.msg.Msg.{Msg}
use Rattle.zr_port.specs.Adding.{Adds, IsAdmitted, IsEntryOf}
use Rattle.zr_port.specs.Coming.{Came, Delivered, Passed, Makes, message_of, messages_of, is_passed, sight}
use Rattle.zr_port.specs.declared.entry.Entry.{Entry}
use Rattle.zr_port.specs.declared.error.DeliverError.{DeliverError}
use Rattle.zr_port.specs.declared.error.DeliverError.TheVariants.{NoMemory}
use Rattle.zr_router_queue.specs.Ends.{EndState, GoesByRings}
use Rattle.zr_router.specs.Refusals.{RefusesMessage}
use Rattle.zr_router.specs.Runs.{IsRun, IsStep, RunsUpTo}

-- memory is no cause to pass a message over
pub passed_told : (e : DeliverError) → is_passed e ≡ true → e ≢ NoMemory
passed_told e h none = let k : is_passed NoMemory ≡ true = subst (λ x. is_passed x ≡ true) none h in absurd cc

-- ---- where the loop has come to

-- nothing was done as yet; or fewer are left, and the pass has seen the whole list
pub record Moves (now all : ℕ) (s first h old : List Entry) (Legal : List Entry → Type 0) (spent : Bool) : Type 0 where
  pub fewer : now < all
  pub legal : Legal s
  pub prefix : IsPrefix first old
  pub seen_is : s ≡ h
  pub unspent : spent ≡ true → ⊥

abbrev pub Stands : ℕ → ℕ → ℕ → List Entry → List Entry → List Entry → List Entry → (List Entry → Type 0) → Bool → Type 0
Stands counter now all s first h old Legal spent = ((counter ≡ 0) × (now ≡ all) × (s ≡ first) × (h ≡ old)) ⊎ Moves now all s first h old Legal spent

pub moved_of : (counter now all : ℕ) (s first h old : List Entry) (Legal : List Entry → Type 0) (spent : Bool) → Stands counter now all s first h old Legal spent
    → ((counter ≡ 0) × (now ≡ all) → ⊥) → Moves now all s first h old Legal spent
moved_of counter now all s first h old Legal spent (inl x) never = absurd (never (x.0, x.1))
moved_of counter now all s first h old Legal spent (inr m) never = m

pub stands_prefix : (counter now all : ℕ) (s first h old : List Entry) (Legal : List Entry → Type 0) (spent : Bool) → Stands counter now all s first h old Legal spent → IsPrefix s h → IsPrefix first old
stands_prefix counter now all s first h old Legal spent (inl x) p = subst (λ z. IsPrefix z old) x.2 (subst (λ z. IsPrefix s z) x.3 p)
stands_prefix counter now all s first h old Legal spent (inr m) p = m.prefix

pub stands_fewer : (counter now all next : ℕ) (s first h old : List Entry) (Legal : List Entry → Type 0) (spent : Bool) → Stands counter now all s first h old Legal spent → next + 1 ≡ now → next < all
stands_fewer counter now all next s first h old Legal spent (inl x) is = omega (arith, x.1, is)
stands_fewer counter now all next s first h old Legal spent (inr m) is = omega (arith, m.fewer, is)

pub none_next : (now all : ℕ) → 0 < all → (false ≡ true) ↔ (0 < now) → now ≡ all → ⊥
none_next now all some variant is = let f : false ≡ true = variant.1 (omega (arith, some, is)) in absurd cc

pub not_spent : {A E : Type 0} (o : Result A E) (a : A) (e : E) (b : Bool) → o ≡ Ok a → (o ≡ Err e) ↔ (b ≡ true) → b ≡ true → ⊥
not_spent o a e b is h s = let x : o ≡ Err e = h.1 s in absurd cc

pub spent_neither : {A E : Type 0} (o : Result A E) (a : A) (e : E) (b : Bool) → o ≡ Ok a → (b ≡ true → ⊥) → (o ≡ Err e) ↔ (b ≡ true)
spent_neither o a e b is never = (λ x. absurd cc, λ s. absurd (never s))

-- memory had run out before, or something is so where it hadn't
pub spent_or : (spent before : Bool) (Q : Type 0) → (spent ≡ true → before ≡ true) → (spent ≡ false → Q) → (before ≡ true) ⊎ Q
spent_or true before Q was else_so = inl (was refl)
spent_or false before Q was else_so = inr (else_so refl)

-- what the history has more is what the pass has appended
abbrev pub Owns : List Entry → List Entry → List Entry → List Entry → Type 0
Owns h more before after = (own : List Entry) × (more ≡ h ++ own) × (after ≡ before ++ own)

pub owns_none : (h before : List Entry) → Owns h h before before
owns_none h before = ([], sym (append-nil h), sym (append-nil before))

pub owns_then : (h mid more before there after : List Entry) → Owns h mid before there → Owns mid more there after → Owns h more before after
owns_then h mid more before there after o k =
    (o.0 ++ k.0, k.1 ∙ ap (λ x. x ++ k.0) o.1 ∙ append_assoc h o.0 k.0, k.2 ∙ ap (λ x. x ++ k.0) o.2 ∙ append_assoc before o.0 k.0)

-- ---- what one message makes of the history

module _ (policy : PolicyState) (me : List ℕ) (link : LinkNo) where
  -- one was delivered: its step, and what the pass has of it
  pub one_steps : (m : Msg) (h more : List Entry) (ends left : List EndState) (a b : Pass Entry) → seen b ≡ more
      → Adds a b (λ before e. (before ≡ h) × IsEntryOf (From link m) None None e × IsAdmitted (λ r. RefusesMessage policy me before link m r))
      → Adds a b (λ before e. (before ≡ h) × GoesByRings me before e ends left) → IsStep policy me link (Delivered m) h ends more left
  one_steps m h more ends left a b s d k =
      let lists : d.entry ∷ [] ≡ k.entry ∷ [] = append_cancel_left (mine a) (d.entry ∷ []) (k.entry ∷ []) (sym d.own ∙ k.own) in
      let same : k.entry ≡ d.entry = cc (lists) in (
        d.entry,
        d.says.1,
        subst (λ x. IsAdmitted (λ r. RefusesMessage policy me x link m r)) d.says.0 d.says.2,
        subst (λ x. GoesByRings me h x ends left) same (subst (λ x. GoesByRings me x k.entry ends left) k.says.0 k.says.1),
        sym s ∙ d.last ∙ ap (λ x. x ++ d.entry ∷ []) d.says.0,
      )

  pub one_makes : (m : Msg) (h : List Entry) (a b : Pass Entry)
      → Adds a b (λ before e. (before ≡ h) × IsEntryOf (From link m) None None e × IsAdmitted (λ r. RefusesMessage policy me before link m r))
      → Makes link (λ l x r. RefusesMessage policy me l link x r) (Delivered m) (sight a) (sight b)
  one_makes m h a b d = (record { before = d.before; entry = d.entry; own = d.own; last = d.last; prefix = d.prefix; is = d.says.1 }, d.says.2)

  -- one was passed over: nothing was added, and the pass has seen the whole list
  pub one_passes : (m : Msg) (e : DeliverError) (h more : List Entry) (ends left : List EndState) (a b : Pass Entry) → is_passed e ≡ true → (e ≢ NoMemory → RefusesMessage policy me h link m e)
      → IsPrefix (seen a) h → seen b ≡ more → more ≡ h → mine b ≡ mine a → (e ≢ NoMemory → left ≡ ends)
      → IsStep policy me link (Passed m e) h ends more left × Makes link (λ l x r. RefusesMessage policy me l link x r) (Passed m e) (sight a) (sight b)
  one_passes m e h more ends left a b passed refused first s same own rings =
      let told = refused (passed_told e passed) in
      let all : seen b ≡ h = s ∙ same in
      ((passed, told, same, rings (passed_told e passed)), ((own, subst (λ x. IsPrefix (seen a) x) (sym all) first), passed, subst (λ x. RefusesMessage policy me x link m e) (sym all) told))

  pub one_owns : (m : Msg) (h more : List Entry) (a b : Pass Entry) → seen b ≡ more
      → Adds a b (λ before e. (before ≡ h) × IsEntryOf (From link m) None None e × IsAdmitted (λ r. RefusesMessage policy me before link m r)) → Owns h more (mine a) (mine b)
  one_owns m h more a b s d = (d.entry ∷ [], sym s ∙ d.last ∙ ap (λ x. x ++ d.entry ∷ []) d.says.0, d.own)

  run_more : (cs : List Came) (c : Came) (h mid more : List Entry) (ends there left : List EndState) → IsRun policy me link cs h ends mid there → IsStep policy me link c mid there more left
      → IsRun policy me link (cs ++ c ∷ []) h ends more left
  run_more [] c h mid more ends there left r o =
      (more, left, subst (λ x. IsStep policy me link c x ends more left) r.0 (subst (λ x. IsStep policy me link c mid x more left) r.1 o), (refl, refl))
  run_more (n ∷ cs) c h mid more ends there left r o = (r.0, r.1, r.2, run_more cs c r.0 mid more r.1 there left r.3 o)

  pub runs_begun : (all : List Msg) (h : List Entry) (ends : List EndState) → RunsUpTo policy me link all all h ends h ends
  runs_begun all h ends = ([], refl, (refl, refl))

  pub runs_more : (all rest next : List Msg) (c : Came) (h mid more : List Entry) (ends there left : List EndState) → RunsUpTo policy me link all rest h ends mid there → rest ≡ message_of c ∷ next
      → IsStep policy me link c mid there more left → RunsUpTo policy me link all next h ends more left
  runs_more all rest next c h mid more ends there left r is o = (
    r.0 ++ c ∷ [],
    r.1 ∙ ap (λ z. messages_of r.0 ++ z) is ∙ sym (ap (λ z. z ++ next) (map-append message_of r.0 (c ∷ [])) ∙ append_assoc (messages_of r.0) (message_of c ∷ []) next),
    run_more r.0 c h mid more ends there left r.2 o,
  )

  -- a message that was refused and not passed over changed nothing
  pub runs_still : (all rest next : List Msg) (h mid more : List Entry) (ends there left : List EndState) → RunsUpTo policy me link all rest h ends mid there → rest ≡ next → more ≡ mid → left ≡ there
      → RunsUpTo policy me link all next h ends more left
  runs_still all rest next h mid more ends there left r is same rings =
      (r.0, r.1 ∙ ap (λ z. messages_of r.0 ++ z) is, subst (λ x. IsRun policy me link r.0 h ends x left) (sym same) (subst (λ x. IsRun policy me link r.0 h ends mid x) (sym rings) r.2))
