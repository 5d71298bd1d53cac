-- What a client has declared of a class, as a list (`AreListed`): its ids are those that the client has, and under each stands what is declared there.
-- A new id adds one, and one that is taken back leaves the others.
use Rattle.std.proofs.Common.{◌≡◌, ℕ, Bool, true, false, cond, List, [], ◌∷◌, ◌++◌, map, Option, Some, None, inl, inr, refl, sym, ap, ◌∙◌, subst}
use Rattle.std.specs.Prelude.{◌==◌, ◌&&◌, not, filter, IfSome}
use Rattle.std.specs.List.{find, list_any}
use Rattle.std.specs.Option.{option_map}
use Rattle.std.proofs.lemmas.Bool.{true≢false, not-true, or_parts, eqb-true, eq-eqb}
use Rattle.std.proofs.lemmas.List.{map-append}
use Rattle.zr_lists.proofs.Numbers.{turned}
use Rattle.zr_msg.specs.declared.decl.Decl.{Decl}
use Rattle.zr_lists.proofs.Finds.{In, in_filter, filter-map}
use Rattle.zr_told_spec.specs.Place.{class_of}
use Rattle.zr_told_spec.specs.declared.place.Class.{Class}
use Rattle.zr_guarantee.specs.Broker.{Standing, stands_then}

-- one declaration's id, and another
other_ids : (a b c : ℕ) → (a == b) ≡ true → (a == c) ≡ false → (c == b) ≡ false
other_ids a b c same apart = by (c == b) refl
  where
    by : (t : Bool) → (c == b) ≡ t → t ≡ false
    by false e = refl
    by true e = absurd (true≢false (sym (eq-eqb a c (eqb-true a b same ∙ sym (eqb-true c b e))) ∙ apart))

abbrev id_of : Standing → ℕ
id_of s = s.id

abbrev decl_of : Standing → Decl
decl_of s = s.decl

-- what is declared under an id, if anything is
abbrev pub decl_in : List Standing → ℕ → Option Decl
decl_in xs id = option_map decl_of (find (λ x. id_of x == id) xs)

-- each element is the one of its id
abbrev pub AreApart : List Standing → Type 0
AreApart xs = (x : Standing) → In x xs → decl_in xs (id_of x) ≡ Some (decl_of x)

-- the list of what stands under some ids of a class
pub record AreListed (class : Class) (xs : List Standing) (ids : List ℕ) (standing : ℕ → Option Decl) : Type 0 where
  pub ids_are : ids ≡ map id_of xs
  pub stand : (id : ℕ) → standing id ≡ decl_in xs id
  pub apart : AreApart xs
  pub classes : (x : Standing) → In x xs → class_of x.decl.kind ≡ class

step : (x : Standing) (b : Bool) (o : Option Standing) → option_map decl_of (cond b (Some x) o) ≡ cond b (Some (decl_of x)) (option_map decl_of o)
step x true o = refl
step x false o = refl

-- ---- a new id

module _ (new : Standing) where
  decl_more : (xs : List Standing) → list_any (λ y. y == id_of new) (map id_of xs) ≡ false → (i : ℕ) → decl_in (xs ++ new ∷ []) i ≡ cond (id_of new == i) (Some (decl_of new)) (decl_in xs i)
  decl_more [] fresh i = step new (id_of new == i) None
  decl_more (d ∷ ds) fresh i =
      let parts = or_parts (id_of d == id_of new) (list_any (λ y. y == id_of new) (map id_of ds)) fresh in
      step d (id_of d == i) (find (λ d. id_of d == i) (ds ++ new ∷ [])) ∙ by (id_of d == i) refl parts.0 (decl_more ds parts.1 i)
      ∙ ap (λ z. cond (id_of new == i) (Some (decl_of new)) z) (sym (step d (id_of d == i) (find (λ d. id_of d == i) ds)))
    where
      by : (b : Bool) → (id_of d == i) ≡ b → (id_of d == id_of new) ≡ false → decl_in (ds ++ new ∷ []) i ≡ cond (id_of new == i) (Some (decl_of new)) (decl_in ds i) →
          cond b (Some (decl_of d)) (decl_in (ds ++ new ∷ []) i) ≡ cond (id_of new == i) (Some (decl_of new)) (cond b (Some (decl_of d)) (decl_in ds i))
      by false e apart ih = ih
      by true e apart ih = sym (ap (λ z. cond z (Some (decl_of new)) (Some (decl_of d))) (other_ids (id_of d) i (id_of new) e apart))

  in_more : (xs : List Standing) (d : Standing) → In d (xs ++ new ∷ []) → (P : Type 0) → (In d xs → P) → (d ≡ new → P) → P
  in_more [] d (inl e) P f g = g e
  in_more [] d (inr i) P f g = absurd i
  in_more (x ∷ xs) d (inl e) P f g = f (inl e)
  in_more (x ∷ xs) d (inr i) P f g = in_more xs d i P (λ j. f (inr j)) g

  fresh_in : (xs : List Standing) → list_any (λ y. y == id_of new) (map id_of xs) ≡ false → (d : Standing) → In d xs → (id_of new == id_of d) ≡ false
  fresh_in [] fresh d i = absurd i
  fresh_in (x ∷ xs) fresh d (inl e) =
      let parts = or_parts (id_of x == id_of new) (list_any (λ y. y == id_of new) (map id_of xs)) fresh in
      turned (id_of d) (id_of new) (ap (λ z. id_of z == id_of new) e ∙ parts.0)
  fresh_in (x ∷ xs) fresh d (inr i) = fresh_in xs (or_parts (id_of x == id_of new) (list_any (λ y. y == id_of new) (map id_of xs)) fresh).1 d i

-- ---- an id that is taken back

module _ (id : ℕ) where
  abbrev others : List Standing → List Standing
  others xs = filter (λ d. not (id_of d == id)) xs

  decl_less : (xs : List Standing) (i : ℕ) → decl_in (others xs) i ≡ cond (id == i) None (decl_in xs i)
  decl_less [] i = by (id == i)
    where
      by : (b : Bool) → decl_in [] i ≡ cond b None (decl_in [] i)
      by true = refl
      by false = refl
  decl_less (d ∷ ds) i = by (id_of d == id) refl (id_of d == i) refl (decl_less ds i)
    where
      by : (a : Bool) → (id_of d == id) ≡ a → (b : Bool) → (id_of d == i) ≡ b → decl_in (others ds) i ≡ cond (id == i) None (decl_in ds i) →
          decl_in (cond (not a) (d ∷ others ds) (others ds)) i ≡ cond (id == i) None (option_map decl_of (cond b (Some d) (find (λ d. id_of d == i) ds)))
      by true ea true eb ih = ih ∙ ap (λ z. cond z None (decl_in ds i)) same ∙ sym (ap (λ z. cond z None (Some (decl_of d))) same)
        where
          same : (id == i) ≡ true
          same = eq-eqb id i (sym (eqb-true (id_of d) id ea) ∙ eqb-true (id_of d) i eb)
      by true ea false eb ih = ih
      by false ea true eb ih = step d (id_of d == i) (find (λ d. id_of d == i) (others ds)) ∙ ap (λ z. cond z (Some (decl_of d)) (decl_in (others ds) i)) eb
          ∙ sym (ap (λ z. cond z None (Some (decl_of d))) (other_ids (id_of d) i id eb ea))
      by false ea false eb ih = step d (id_of d == i) (find (λ d. id_of d == i) (others ds)) ∙ ap (λ z. cond z (Some (decl_of d)) (decl_in (others ds) i)) eb ∙ ih

pub none_listed : {class : Class} {standing : ℕ → Option Decl} → ((id : ℕ) → standing id ≡ None) → AreListed class [] [] standing
none_listed none = record { ids_are = refl; stand = none; apart = λ x i. absurd i; classes = λ x i. absurd i }

-- another list that is the same one
pub same_listed : {class : Class} {xs ys : List Standing} {ids js : List ℕ} {standing other : ℕ → Option Decl} → ys ≡ xs → js ≡ ids → ((id : ℕ) → other id ≡ standing id) → AreListed class xs ids standing → AreListed class ys js other
same_listed is ids_same stand_same h = record {
  ids_are = ids_same ∙ h.ids_are ∙ ap (map id_of) (sym is);
  stand = λ id. stand_same id ∙ h.stand id ∙ ap (λ zs. decl_in zs id) (sym is);
  apart = subst AreApart (sym is) h.apart;
  classes = λ x i. h.classes x (subst (In x) is i);
}

pub listed_more : (new : Standing) {class : Class} {xs : List Standing} {ids : List ℕ} {standing more : ℕ → Option Decl} → class_of new.decl.kind ≡ class → list_any (λ y. y == id_of new) ids ≡ false →
    ((i : ℕ) → more i ≡ cond (id_of new == i) (Some (decl_of new)) (standing i)) → AreListed class xs ids standing → AreListed class (xs ++ new ∷ []) (ids ++ id_of new ∷ []) more
listed_more new {class} {xs} {ids} of_class none stands h = record {
  ids_are = ap (λ z. z ++ id_of new ∷ []) h.ids_are ∙ sym (map-append id_of xs (new ∷ []));
  stand = λ i. stands i ∙ ap (cond (id_of new == i) (Some (decl_of new))) (h.stand i) ∙ sym (decl_more new xs fresh i);
  apart = λ d i. decl_more new xs fresh (id_of d) ∙ in_more new xs d i (cond (id_of new == id_of d) (Some (decl_of new)) (decl_in xs (id_of d)) ≡ Some (decl_of d))
      (λ j. ap (λ z. cond z (Some (decl_of new)) (decl_in xs (id_of d))) (fresh_in new xs fresh d j) ∙ h.apart d j)
      (λ e. ap (λ z. cond z (Some (decl_of new)) (decl_in xs (id_of d))) (eq-eqb (id_of new) (id_of d) (ap id_of (sym e))) ∙ ap (λ z. Some (decl_of z)) (sym e));
  classes = λ d i. in_more new xs d i (class_of d.decl.kind ≡ class) (h.classes d) (λ e. ap (λ z. class_of z.decl.kind) e ∙ of_class);
}
  where
    fresh : list_any (λ y. y == id_of new) (map id_of xs) ≡ false
    fresh = ap (list_any (λ y. y == id_of new)) (sym h.ids_are) ∙ none

pub listed_less : (id : ℕ) {class : Class} {xs : List Standing} {ids : List ℕ} {standing less : ℕ → Option Decl} → ((i : ℕ) → less i ≡ cond (id == i) None (standing i)) → AreListed class xs ids standing →
    AreListed class (filter (λ d. not (id_of d == id)) xs) (filter (λ n. not (n == id)) ids) less
listed_less id {class} {xs} stands h = record {
  ids_are = ap (filter (λ n. not (n == id))) h.ids_are ∙ filter-map (λ n. not (n == id)) id_of xs;
  stand = λ i. stands i ∙ ap (cond (id == i) None) (h.stand i) ∙ sym (decl_less id xs i);
  apart = λ d i.
      let f = in_filter (λ z. not (id_of z == id)) xs d i in
      decl_less id xs (id_of d) ∙ ap (λ z. cond z None (decl_in xs (id_of d))) (turned (id_of d) id (not-true (id_of d == id) f.1)) ∙ h.apart d f.0;
  classes = λ d i. h.classes d (in_filter (λ z. not (id_of z == id)) xs d i).0;
}

-- the ids of a class once something was said of one, which may be of another class
abbrev pub ids_then : ℕ → Option Decl → List ℕ → List ℕ
ids_then id (Some decl) ids = ids ++ id ∷ []
ids_then id None ids = filter (λ n. not (n == id)) ids

pub listed_then : {class : Class} {xs : List Standing} {ids : List ℕ} {standing : ℕ → Option Decl} (here : Bool) (id : ℕ) (said : Option Decl) →
    (here ≡ true → IfSome said (λ d. (class_of d.kind ≡ class) × (list_any (λ y. y == id) ids ≡ false))) → AreListed class xs ids standing →
    AreListed class (cond here (stands_then xs id said) xs) (cond here (ids_then id said ids) ids) (λ i. cond (here && id == i) said (standing i))
listed_then true id (Some d) new h = listed_more (record { id = id; decl = d }) (new refl).0 (new refl).1 (λ i. refl) h
listed_then true id None new h = listed_less id (λ i. refl) h
listed_then false id said new h = h
