-- An index that has just some pairs, as one more is put in, one is taken out, and a key is looked up.
use Rattle.std.proofs.Common.{◌≡◌, ℕ, Bool, true, false, cond, ◌&&◌, List, [], ◌∷◌, refl, ap, ◌∙◌, arith}
use Rattle.std.specs.Cmp.Lexicographic.{pointwise}
use Rattle.std.specs.Str.{bytes_eq}
use Rattle.std.proofs.lemmas.Bool.{and_from}
use Rattle.std.proofs.lemmas.List.Sums.{sum_by-cons}
use Rattle.std.proofs.lemmas.Slice.Eq.{bytes_eq-Decides}
use Rattle.zr_index.specs.Meeting.{AreMeeting, meets_key}
use Rattle.zr_index.specs.Pairs.{Pairs, AreSame, TakesOne, is_pair, one}
use Rattle.zr_index.proofs.Tests.{any_same}
use Rattle.zr_key.specs.Key.{chunks}
use Rattle.zr_lists.proofs.Order.{is_itself, is_same}
use Rattle.zr_local.proofs.Held.{holder_order}
use Rattle.zr_local.specs.Holders.{holder_cmp, is_holder}
use Rattle.zr_local.specs.declared.holder.Holder.{Holder}
use Rattle.zr_push_sought.specs.Pairs.{Declared, is_kind, pair_of}
use Rattle.zr_push_sought.specs.declared.sought.Sought.{Sought}

same_path : (path : List (List ℕ)) → pointwise bytes_eq path path ≡ true
same_path [] = refl
same_path (chunk ∷ path) = and_from (bytes_eq chunk chunk) (pointwise bytes_eq path path) ((bytes_eq-Decides chunk chunk).1 refl) (same_path path)

is_its_pair : (path : List (List ℕ)) (who : Holder) → is_pair is_holder path who (path, who) ≡ true
is_its_pair path who = and_from (pointwise bytes_eq path path) (is_holder who who) (same_path path) (is_itself holder_cmp holder_order who)

-- a pair is gone that was there
pub removed : (key : List ℕ) (who : Holder) (ps old new : Pairs Holder) (was : Bool) → AreSame old ((chunks key, who) ∷ ps) → TakesOne is_holder (chunks key) who old new was → AreSame new ps
removed key who ps old new true same takes f =
    let w : takes.0 ≡ who = is_same holder_cmp holder_order takes.0 who takes.1 in
    omega (arith, same f, takes.2 f, sum_by-cons f (chunks key, who) ps, sum_by-cons f (chunks key, takes.0) new, ap (λ (x : Holder). f (chunks key, x)) w)
removed key who ps old new false same takes f =
    let here : one is_holder (chunks key) who (chunks key, who) ≡ 1 = ap (λ b. cond b 1 0) (is_its_pair (chunks key) who) in
    absurd (omega (arith, takes.1, same (one is_holder (chunks key) who), sum_by-cons (one is_holder (chunks key) who) (chunks key, who) ps, here))

-- what is found in an index is found by the pairs that it has
pub meeting_same : (key : List ℕ) (ps qs : Pairs Holder) (found : List Holder) → AreSame ps qs → AreMeeting holder_cmp key ps found → AreMeeting holder_cmp key qs found
meeting_same key ps qs found same m = record {
  ascending = m.ascending;
  exactly = λ who. m.exactly who ∙ any_same (λ (p : List (List ℕ) × Holder). meets_key key p.0 && is_holder p.1 who) ps qs same;
}

-- a declaration of a kind that is sought, and one of another
pub pair_is : (sought : Sought) (x : Declared) → is_kind sought x.1.kind ≡ true → pair_of sought x ≡ (chunks x.1.key, x.0) ∷ []
pair_is sought x e = ap (λ b. cond b ((chunks x.1.key, x.0) ∷ []) []) e

pub no_pair : (sought : Sought) (x : Declared) → is_kind sought x.1.kind ≡ false → pair_of sought x ≡ []
no_pair sought x e = ap (λ b. cond b ((chunks x.1.key, x.0) ∷ []) []) e
