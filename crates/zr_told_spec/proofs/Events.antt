-- Each event keeps that of what a client was told is what its messages leave, and what is wanted.
use Rattle.std.proofs.Common.{◌≡◌, ℕ, ◌==◌, ◌&&◌, Bool, true, false, cond, List, [], ◌∷◌, map, refl, sym, ap, ◌∙◌}
use Rattle.std.specs.declared.option.Option.{Option}
use Rattle.std.specs.declared.option.Option.TheVariants.{None, Some}
use Rattle.std.specs.List.{fold, AllByRecursion}
use Rattle.std.specs.Option.{option_map}
use Rattle.std.specs.Map.{keys_of}
use Rattle.std.proofs.lemmas.Option.{none-some}
use Rattle.std.proofs.lemmas.List.Sums.{fold-append}
use Rattle.zr_msg.specs.declared.decl.Decl.{Decl}
use Rattle.zr_msg.specs.declared.msg.Msg.TheVariants.{ToldEnd}
use Rattle.zr_told_spec.specs.Wanted.{is_complete_at, Wanted, wanted}
use Rattle.zr_told_spec.specs.Told.{ToldMap, at, is_in, kept, fresh, entered, declares, with_number, hear, Heard, retell, retold}
use Rattle.zr_told_spec.specs.Rows.{IsAsWanted, is_again, answered, once, closing, tells_interest}
use Rattle.zr_told_spec.specs.Laws.{WantedIsListed, ChangesKeep, InterestsKeep, ToldIsWanted, NothingIsTold}
use Rattle.zr_local.specs.declared.interest.Interest.{Interest}
use Rattle.zr_told_spec.specs.declared.place.Place.{Place}
use Rattle.zr_told_spec.specs.declared.entry.Entry.{Entry}
use Rattle.zr_told_spec.proofs.Places.{same_at}
use Rattle.zr_told_spec.proofs.Agree.{Says, retell_keeps}
use Rattle.zr_told_spec.proofs.Wants.{IsMarked, wanted_at, wanted_by, wanted_in, wanted_says, retold_at, keys_all, by_gone, none_fresh, quiet}
use Rattle.zr_told_spec.proofs.Sorted.{wanted_ascends}

pub wanted_is_listed : WantedIsListed
wanted_is_listed ds is = (wanted_ascends ds is, wanted_at ds is)

pub changes_keep : ChangesKeep
changes_keep ds is m t a = retell_keeps (λ p. false) None (wanted ds is) m t (wanted_says ds is) a

-- ---- messages that leave nothing

idle : (t : Heard) (w : Place × Bool) → with_number t 0 w.0 w.1 ≡ t
idle t w = λ i k. by (0 == k) k i
  where
    by : (s : Bool) (k : ℕ) → cond (s && false) (Some (w.0, w.1)) (t k) ≡ t k
    by true k = refl
    by false k = refl

all_idle : (interest : Option ℕ) (ws : Wanted) (t : Heard) → AllByRecursion Says ws → fold hear t (map (λ w. declares 0 w.0.class w.0.key w.1 interest) ws) ≡ t
all_idle interest [] t s = refl
all_idle interest (w ∷ ws) t s =
    ap (λ z. fold hear z (map (λ w. declares 0 w.0.class w.0.key w.1 interest) ws)) (s.0 t 0 interest ∙ idle t w)
    ∙ all_idle interest ws t s.1

closing_idle : (current future : Bool) (ds : List Decl) (i : Interest) (t : Heard) → fold hear t (closing current future ds i) ≡ t
closing_idle false future ds i t = refl
closing_idle true true ds i t = refl
closing_idle true false ds i t =
    fold-append hear t (once ds i) (ToldEnd i.id ∷ [])
    ∙ all_idle (Some i.id) (wanted ds (i ∷ [])) t (wanted_says ds (i ∷ []))

pub interests_keep : InterestsKeep
interests_keep current future ds is i m t a =
    let k : Option ℕ = cond future (answered current i) None in
    let r = retell_keeps (is_again future ds i) k (wanted ds is) m t (wanted_says ds is) a in
    let e : fold hear t (tells_interest current future ds is i m) ≡ fold hear t (retell (is_again future ds i) k (wanted ds is) m) =
    fold-append hear t (retell (is_again future ds i) k (wanted ds is) m) (closing current future ds i)
    ∙ closing_idle current future ds i (fold hear t (retell (is_again future ds i) k (wanted ds is) m)) in
    rw e r

-- ---- what is wanted

pub as_wanted : (again : Place → Bool) (ds : List Decl) (is : List Interest) (m : ToldMap) → IsAsWanted ds is (retold again (wanted ds is) m)
as_wanted again ds is m p =
    retold_at again (is_complete_at ds) (wanted ds is) m (wanted_by ds is) p
    ∙ ap (λ z. cond z (Some (is_complete_at ds p)) None) (wanted_in ds is p)

pub told_is_wanted : ToldIsWanted
told_is_wanted future ds is i m = (as_wanted (λ p. false) ds is m, as_wanted (is_again future ds i) ds is m)

all_kept : (ws : Wanted) (m : ToldMap) → AllByRecursion (λ p. is_in ws p ≡ true) (keys_of m) → kept ws m ≡ m
all_kept ws [] h = refl
all_kept ws (e ∷ es) h = rw h.0 (ap (λ z. e ∷ z) (all_kept ws es h.1))

pub nothing_is_told : NothingIsTold
nothing_is_told ds is m w =
    let ws : Wanted = wanted ds is in
    let f : Place → Bool = is_complete_at ds in
    let a : IsMarked m (λ p. cond (is_in ws p) (Some (f p)) None) = λ p. w p ∙ ap (λ z. cond z (Some (f p)) None) (sym (wanted_in ds is p)) in
    let k : kept ws m ≡ m = all_kept ws m (keys_all (λ p. is_in ws p ≡ true) m (λ q l. by_gone f ws m q (a q) l)) in
    let n : fresh (λ p. false) ws (kept ws m) ≡ [] = none_fresh f ws m (wanted_by ds is) a in
    (quiet f None ws m (wanted_by ds is) a, ap (λ z. fold entered (kept ws m) z) n ∙ k)

-- a client without interests is told of nothing
pub nothing_told : (ds : List Decl) (m : ToldMap) → IsAsWanted ds [] m → m ≡ []
nothing_told ds [] w = refl
nothing_told ds (e ∷ es) w =
    let there : at (e ∷ es) e.0 ≡ Some e.1 = ap (λ z. cond z (Some e.1) (at es e.0)) (same_at e.0 e.0 refl) in
    absurd (none-some e.1.complete (sym (w e.0) ∙ ap (λ (o : Option Entry). option_map (λ x. x.complete) o) there))
