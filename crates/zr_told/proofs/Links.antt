-- Of what the client of each link was told, once that of one link is taken out or put.
use Rattle.std.proofs.Common.{◌≡◌, ℕ, ◌==◌, ◌≤◌, Bool, true, false, cond, [], ◌∷◌, length, refl, ap, ◌∙◌, arith}
use Rattle.std.specs.declared.option.Option.{Option}
use Rattle.std.specs.declared.option.Option.TheVariants.{None, Some}
use Rattle.std.specs.Option.{unwrap_or}
use Rattle.std.specs.Ordering.{is_eq, nat_cmp}
use Rattle.std.specs.BTreeMap.{insert_entry}
use Rattle.std.specs.Map.{lookup, remove_entry, values_of}
use Rattle.std.proofs.lemmas.List.Elements.{All-head, All-tail}
use Rattle.std.proofs.lemmas.Map.Views.{All-map-remove_entry, All-values-insert_entry}
use Rattle.zr_lists.proofs.Numbers.{nat_eq_is}
use Rattle.zr_told_spec.specs.Rows.{Maps, map_on, most_id, AreFew}
use Rattle.zr_told_spec.specs.Told.{ToldMap}

pub without_link : (link k : ℕ) (o n : Option ToldMap) → n ≡ cond (is_eq (nat_cmp link k)) None o → unwrap_or n [] ≡ cond (link == k) [] (unwrap_or o [])
without_link link k o n h = ap (λ z. unwrap_or z []) h ∙ ap (λ z. unwrap_or (cond z None o) []) (nat_eq_is link k) ∙ by (link == k)
  where
    by : (b : Bool) → unwrap_or (cond b None o) [] ≡ cond b [] (unwrap_or o [])
    by true = refl
    by false = refl

pub with_link : (link k : ℕ) (m : ToldMap) (o n : Option ToldMap) → n ≡ cond (is_eq (nat_cmp link k)) (Some m) o → unwrap_or n [] ≡ cond (link == k) m (unwrap_or o [])
with_link link k m o n h = ap (λ z. unwrap_or z []) h ∙ ap (λ z. unwrap_or (cond z (Some m) o) []) (nat_eq_is link k) ∙ by (link == k)
  where
    by : (b : Bool) → unwrap_or (cond b (Some m) o) [] ≡ cond b m (unwrap_or o [])
    by true = refl
    by false = refl

-- what is put where it was taken out
pub put_back : (b : Bool) (m d o : ToldMap) → cond b m (cond b d o) ≡ cond b m o
put_back true m d o = refl
put_back false m d o = refl

-- what was found of the client of a link, or nothing where it isn't there
pub book_on : (maps now : Maps) (link : ℕ) (m : ToldMap) → Some m ≡ lookup (λ k. is_eq (nat_cmp link k)) maps → maps ≡ now → m ≡ map_on now link
book_on maps now link m h v = ap (λ z. unwrap_or z []) h ∙ ap (λ z. map_on z link) v

pub no_book_on : (maps now : Maps) (link : ℕ) (m : ToldMap) → m ≡ [] → None ≡ lookup (λ k. is_eq (nat_cmp link k)) maps → maps ≡ now → m ≡ map_on now link
no_book_on maps now link m e h v = e ∙ ap (λ z. unwrap_or z []) h ∙ ap (λ z. map_on z link) v

-- ---- no client was told of more than there are ids

pub few_without : (maps news : Maps) (test : ℕ → Bool) → news ≡ remove_entry test maps → AreFew maps → AreFew news
few_without maps news test e f = rw e (All-map-remove_entry test (λ x. x.1) (λ m. length m ≤ most_id) maps f)

pub few_with : (maps news : Maps) (link : ℕ) (m : ToldMap) → news ≡ insert_entry nat_cmp maps link m → length m ≤ most_id → AreFew maps → AreFew news
few_with maps news link m e l f = rw e (All-values-insert_entry nat_cmp link m (λ x. length x ≤ most_id) maps f l)

pub few_on : (maps : Maps) (k : ℕ) → AreFew maps → length (map_on maps k) ≤ most_id
few_on [] k f = omega arith
few_on (e ∷ es) k f = by (is_eq (nat_cmp k e.0)) (All-head (λ m. length m ≤ most_id) e.1 (values_of es) f) (few_on es k (All-tail (λ m. length m ≤ most_id) e.1 (values_of es) f))
  where
    by : (b : Bool) → length e.1 ≤ most_id → length (map_on es k) ≤ most_id → length (unwrap_or (cond b (Some e.1) (lookup (λ n. is_eq (nat_cmp k n)) es)) []) ≤ most_id
    by true here ih = here
    by false here ih = ih
