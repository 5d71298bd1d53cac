-- Of tokens clients were told just what their interests want of those that live (`tokens_are_told`): it is part of what they were told of all, since
-- what is wanted of tokens depends on the tokens alone that others have declared.
use Rattle.std.proofs.Common.{◌≡◌, ℕ, ◌==◌, ◌&&◌, not, Bool, true, false, cond, List, [], ◌∷◌, ◌++◌, map, filter, Option, Some, None, ◌⊎◌, inl, inr, refl, sym, ap, ◌∙◌, subst}
use Rattle.std.specs.Prelude.{◌||◌, IfSome}
use Rattle.std.specs.List.{AllByRecursion, fold, list_any}
use Rattle.std.specs.Option.{option_and_then, option_map_or}
use Rattle.std.proofs.lemmas.Bool.{false≢true, and_parts, eqb-true}
use Rattle.std.proofs.lemmas.Option.{none-some, same_Some}
use Rattle.zr_lists.proofs.Each.{All-append, All-filter}
use Rattle.zr_lists.proofs.Elements.{each_in, in_behind, in_either, in_flat, flat_in}
use Rattle.zr_lists.proofs.Finds.{In, any_in, in_filter, filter_in, map_in, in_map}
use Rattle.zr_lists.proofs.Filters.{any_kept}
use Rattle.zr_id.specs.Zid.{is_named}
use Rattle.zr_msg.specs.declared.decl.Decl.{Decl}
use Rattle.zr_msg.specs.declared.decl.Kind.{Kind}
use Rattle.zr_msg.specs.declared.decl.Kind.TheVariants as k
use Rattle.zr_local.specs.declared.interest.Interest.{Interest}
use Rattle.zr_node_spec.specs.Queries.{is_complete}
use Rattle.zr_told_spec.specs.Place.{class_of, class_rank, is_token, place_of, same, token_on}
use Rattle.zr_told_spec.specs.Told.{Heard}
use Rattle.zr_told_spec.specs.Wanted.{asked, fits, is_complete_at, told_as, want, wants}
use Rattle.zr_told_spec.specs.declared.place.Class.{Class}
use Rattle.zr_told_spec.specs.declared.place.Class.TheVariants.{Subscriber, Queryable, Living}
use Rattle.zr_told_spec.specs.declared.place.Place.{Place}
use Rattle.zr_told_spec.proofs.Places.{rank_is, same_is, token_is}
use Rattle.zr_script_spec.specs.declared.command.Act.{Act}
use Rattle.zr_script_spec.specs.declared.command.Act.TheVariants as a
use Rattle.zr_world_spec.specs.Moments.{Numbered}
use Rattle.zr_guarantee.specs.Meaning.{Declares, meaning}
use Rattle.zr_guarantee.specs.Broker.{Standing, stands_then, standing_by, standing}
use Rattle.zr_guarantee.specs.Interests.{interests, declared, declared_by_others, if_token, living, other_clients, told_so_far, tokens_told, TellsWanted, TokensAreTold}
use Rattle.zr_guarantee.specs.Scripts.{LinesTellTokens}
use Rattle.zr_world_spec.proofs.Lines.{prefix_reached}
use Rattle.zr_law_settled.proofs.Spreading.{Name}
use Rattle.zr_law_told.proofs.AtRest.{clients_are_told, want_same}
use Rattle.zr_law_told.proofs.Lists.{same_elements}

-- ---- what a client has declared of a class is of that class

abbrev IsOf : Class → Standing → Type 0
IsOf class s = class_of s.decl.kind ≡ class

act_is_of : (act : Act) → IfSome (meaning act).declares (λ d. IfSome d.decl (λ x. class_of x.kind ≡ d.class))
act_is_of (a.Router id) = tt
act_is_of (a.Client id router) = tt
act_is_of (a.Link one other weight) = tt
act_is_of (a.Up router neighbour) = tt
act_is_of (a.Break router neighbour) = tt
act_is_of (a.Down router neighbour) = tt
act_is_of (a.Sub client id key) = refl
act_is_of (a.Unsub client id) = tt
act_is_of (a.Token client id key) = refl
act_is_of (a.Untoken client id) = tt
act_is_of (a.Able client id key true) = refl
act_is_of (a.Able client id key false) = refl
act_is_of (a.Unable client id) = tt
act_is_of (a.Interest client id mode kinds key aggregate) = tt
act_is_of (a.Uninterest client id) = tt
act_is_of (a.Publish client content) = tt
act_is_of (a.Get client number target content) = tt
act_is_of (a.Reply client number content) = tt
act_is_of (a.End client number) = tt
act_is_of (a.Handle router from) = tt
act_is_of (a.Take router to) = tt
act_is_of a.Mark = tt
act_is_of (a.Show router) = tt

more_is_of : (c : Name) (class : Class) (xs : List Standing) (act : Act) → AllByRecursion (IsOf class) xs → AllByRecursion (IsOf class) (standing_by c class xs act)
more_is_of c class xs act h = by (meaning act).declares (act_is_of act)
  where
    put : (d : Declares) → d.class ≡ class → (o : Option Decl) → IfSome o (λ x. class_of x.kind ≡ d.class) → AllByRecursion (IsOf class) (stands_then xs d.id o)
    put d same None of = All-filter (λ s. not (s.id == d.id)) (IsOf class) xs h
    put d same (Some x) of = All-append (IsOf class) xs (record { id = d.id; decl = x } ∷ []) h (of ∙ same, tt)

    by : (o : Option Declares) → IfSome o (λ d. IfSome d.decl (λ x. class_of x.kind ≡ d.class)) →
        AllByRecursion (IsOf class) (option_map_or (λ d. cond (is_named c d.client && class_rank d.class == class_rank class) (stands_then xs d.id d.decl) xs) o xs)
    by None of = h
    by (Some d) of = at (is_named c d.client && class_rank d.class == class_rank class) refl
      where
        at : (b : Bool) → (is_named c d.client && class_rank d.class == class_rank class) ≡ b → AllByRecursion (IsOf class) (cond b (stands_then xs d.id d.decl) xs)
        at true e = put d (rank_is d.class class (eqb-true (class_rank d.class) (class_rank class) (and_parts (is_named c d.client) (class_rank d.class == class_rank class) e).1)) d.decl of
        at false e = h

all_are_of : (c : Name) (class : Class) (acts : List Numbered) (xs : List Standing) → AllByRecursion (IsOf class) xs → AllByRecursion (IsOf class) (fold (λ so_far x. standing_by c class so_far x.1) xs acts)
all_are_of c class [] xs h = h
all_are_of c class (x ∷ acts) xs h = all_are_of c class acts (standing_by c class xs x.1) (more_is_of c class xs x.1 h)

is_of : (acts : List Numbered) (c : Name) (class : Class) (s : Standing) → In s (standing acts c class) → class_of s.decl.kind ≡ class
is_of acts c class s i = each_in (IsOf class) (standing acts c class) s (all_are_of c class acts [] tt) i

-- ---- kinds and classes

token_class : (kind : Kind) → is_token kind ≡ true → class_of kind ≡ Living
token_class k.Sub h = absurd (false≢true h)
token_class k.Able h = absurd (false≢true h)
token_class k.Full h = absurd (false≢true h)
token_class k.Token h = refl

class_token : (kind : Kind) → class_of kind ≡ Living → is_token kind ≡ true
class_token k.Sub h = cc
class_token k.Able h = cc
class_token k.Full h = cc
class_token k.Token h = refl

-- ---- the tokens among what others have declared

module _ (acts : List Numbered) (name : Name) where
  abbrev theirs : List Decl
  theirs = declared_by_others acts name

  abbrev tokens : List Decl
  tokens = filter (λ d. is_token d.kind) theirs

  abbrev lives : List Decl
  lives = map token_on (living acts name)

  abbrev of_class : Name → Class → List Standing
  of_class c class = standing acts c class

  abbrev decl_of : Standing → Decl
  decl_of s = s.decl

  lives_then : (d : Decl) → In d tokens → In d lives
  lives_then d i =
      let f = in_filter (λ (d : Decl). is_token d.kind) theirs d i in
      let c = in_flat (λ c. declared acts c) (other_clients acts name) d f.0 in
      let s = in_map decl_of (of_class c.0 Subscriber ++ of_class c.0 Queryable ++ of_class c.0 Living) d c.2 in
      let is : class_of s.0.decl.kind ≡ Living = ap (λ z. class_of z.kind) s.2 ∙ token_class d.kind f.1 in
      let j = its c.0 s.0 is (in_either (of_class c.0 Subscriber ++ of_class c.0 Queryable) (of_class c.0 Living) s.0 s.1) in
      subst (λ z. In z lives) (token_is s.0.decl (class_token s.0.decl.kind is) ∙ s.2)
      (map_in token_on (living acts name) s.0.decl.key
      (flat_in (λ c. map (λ s. s.decl.key) (of_class c Living)) (other_clients acts name) c.0 s.0.decl.key c.1 (map_in (λ (s : Standing). s.decl.key) (of_class c.0 Living) s.0 j)))
    where
      others : (c : Name) (s : Standing) → class_of s.decl.kind ≡ Living → In s (of_class c Subscriber) ⊎ In s (of_class c Queryable) → In s (of_class c Living)
      others c s is (inl j) = let no : Subscriber ≡ Living = sym (is_of acts c Subscriber s j) ∙ is in cc
      others c s is (inr j) = let no : Queryable ≡ Living = sym (is_of acts c Queryable s j) ∙ is in cc

      its : (c : Name) (s : Standing) → class_of s.decl.kind ≡ Living → In s (of_class c Subscriber ++ of_class c Queryable) ⊎ In s (of_class c Living) → In s (of_class c Living)
      its c s is (inl j) = others c s is (in_either (of_class c Subscriber) (of_class c Queryable) s j)
      its c s is (inr j) = j

  tokens_then : (d : Decl) → In d lives → In d tokens
  tokens_then d i =
      let key = in_map token_on (living acts name) d i in
      let c = in_flat (λ c. map (λ s. s.decl.key) (of_class c Living)) (other_clients acts name) key.0 key.1 in
      let s = in_map (λ (s : Standing). s.decl.key) (of_class c.0 Living) key.0 c.2 in
      let is : is_token s.0.decl.kind ≡ true = class_token s.0.decl.kind (is_of acts c.0 Living s.0 s.1) in
      let same_decl : s.0.decl ≡ d = sym (token_is s.0.decl is) ∙ ap token_on s.2 ∙ key.2 in
      subst (λ z. In z tokens) same_decl
      (filter_in (λ (d : Decl). is_token d.kind) theirs s.0.decl
      (flat_in (λ c. declared acts c) (other_clients acts name) c.0 s.0.decl c.1
      (map_in decl_of (of_class c.0 Subscriber ++ of_class c.0 Queryable ++ of_class c.0 Living) s.0
      (in_behind (of_class c.0 Subscriber ++ of_class c.0 Queryable) (of_class c.0 Living) s.0 s.1))) is)

-- ---- what is wanted of tokens depends on tokens alone

module _ (ds : List Decl) (p : Place) (at : p.class ≡ Living) where
  abbrev of_tokens : List Decl
  of_tokens = filter (λ d. is_token d.kind) ds

  -- what stands at a place of tokens is a token
  no_other : (d : Decl) (q : Place) → q.class ≡ class_of d.kind → same p q ≡ (is_token d.kind && same p q)
  no_other d q of = by (same p q) refl
    where
      by : (b : Bool) → same p q ≡ b → b ≡ (is_token d.kind && b)
      by true e = sym (ap (λ z. z && true) (class_token d.kind (sym (sym at ∙ ap (λ z. z.class) (same_is p q e) ∙ of))))
      by false e = both_false (is_token d.kind)
        where
          both_false : (b : Bool) → false ≡ (b && false)
          both_false true = refl
          both_false false = refl

  any_of : (test : Decl → Bool) → ((d : Decl) → test d ≡ (is_token d.kind && test d)) → list_any test ds ≡ list_any test of_tokens
  any_of test only = ap (λ f. list_any f ds) (λ i d. only d i) ∙ sym (any_kept test (λ d. is_token d.kind) ds)

  moved : (a b c : Bool) → b ≡ (c && b) → (a && b) ≡ (c && (a && b))
  moved true b c h = h
  moved false b true h = refl
  moved false b false h = refl

  wants_of : (is : List Interest) → wants ds is p ≡ wants of_tokens is p
  wants_of [] = refl
  wants_of (i ∷ is) = λ t.
      any_of (λ d. fits i (place_of d) && same p (told_as i (place_of d))) (λ d. moved (fits i (place_of d)) (same p (told_as i (place_of d))) (is_token d.kind) (no_other d (told_as i (place_of d)) refl)) t
      || wants_of is t

  complete_of : is_complete_at ds p ≡ is_complete_at of_tokens p
  complete_of = any_of (λ d. same p (place_of d) && is_complete d.kind) (λ d. first (same p (place_of d)) (is_complete d.kind) (is_token d.kind) (no_other d (place_of d) refl))
    where
      first : (b c t : Bool) → b ≡ (t && b) → (b && c) ≡ (t && (b && c))
      first true c true h = refl
      first true c false h = absurd (false≢true (sym h))
      first false c true h = refl
      first false c false h = refl

  one_class : (is : List Interest) → want ds is p ≡ want of_tokens is p
  one_class is = λ t. cond (wants_of is t) (Some (complete_of t)) None

-- of tokens nothing is wanted but at places of tokens
tokens_there : (keys : List (List ℕ)) (is : List Interest) (p : Place) (complete : Bool) → want (map token_on keys) is p ≡ Some complete → p.class ≡ Living
tokens_there keys is p complete h = by (wants (map token_on keys) is p) refl h
  where
    by : (b : Bool) → wants (map token_on keys) is p ≡ b → cond b (Some (is_complete_at (map token_on keys) p)) None ≡ Some complete → p.class ≡ Living
    by false e k = absurd (none-some complete k)
    by true e k =
        let i = any_in (λ i. asked (map token_on keys) i p) is e in
        let d = any_in (λ d. fits i.0 (place_of d) && same p (told_as i.0 (place_of d))) (map token_on keys) i.2 in
        let key = in_map token_on keys d.0 d.1 in
        let parts = and_parts (fits i.0 (place_of d.0)) (same p (told_as i.0 (place_of d.0))) d.2 in
        ap (λ (z : Place). z.class) (same_is p (told_as i.0 (place_of d.0)) parts.1) ∙ ap (λ (z : Decl). class_of z.kind) (sym key.2)

-- ---- what was told of tokens

told_token : (told : Heard) (n : ℕ) (p : Place) (complete : Bool) → tokens_told told n ≡ Some (p, complete) → (told n ≡ Some (p, complete)) × (p.class ≡ Living)
told_token told n p complete h = by (told n) refl h
  where
    by : (o : Option (Place × Bool)) → told n ≡ o → option_and_then if_token o ≡ Some (p, complete) → (told n ≡ Some (p, complete)) × (p.class ≡ Living)
    by None e k = absurd (none-some (p, complete) k)
    by (Some t) e k = at (class_rank t.0.class == class_rank Living) refl k
      where
        at : (b : Bool) → (class_rank t.0.class == class_rank Living) ≡ b → cond b (Some t) None ≡ Some (p, complete) → (told n ≡ Some (p, complete)) × (p.class ≡ Living)
        at false f l = absurd (none-some (p, complete) l)
        at true f l =
            let one : t ≡ (p, complete) = same_Some t (p, complete) l in
            (e ∙ ap Some one, ap (λ z. z.0.class) (sym one) ∙ rank_is t.0.class Living (eqb-true (class_rank t.0.class) (class_rank Living) f))

token_told : (told : Heard) (n : ℕ) (p : Place) (complete : Bool) → told n ≡ Some (p, complete) → p.class ≡ Living → tokens_told told n ≡ Some (p, complete)
token_told told n p complete h at = ap (option_and_then if_token) h ∙ ap (λ c. cond (class_rank c == class_rank Living) (Some (p, complete)) None) at

-- ---- the law

pub tokens_are_told : TokensAreTold
tokens_are_told acts m is rest name attached = record {
  sound = λ n p b h. let t = told_token told n p b h in wants_same p t.1 ∙ all.sound n p b t.0;
  whole = λ p b h.
      let at = tokens_there (living acts name) (interests acts name) p b h in
      let n = all.whole p b (sym (wants_same p at) ∙ h) in
      (n.0, token_told told n.0 p b n.1 at);
  once = λ n k p b c x y. all.once n k p b c (told_token told n p b x).0 (told_token told k p c y).0;
}
  where
    told : Heard
    told = told_so_far m.report name

    all : TellsWanted (want (declared_by_others acts name) (interests acts name)) told
    all = clients_are_told acts m is rest name attached

    wants_same : (p : Place) → p.class ≡ Living → want (lives acts name) (interests acts name) p ≡ want (declared_by_others acts name) (interests acts name) p
    wants_same p at =
        want_same (lives acts name) (tokens acts name) (interests acts name) (interests acts name) (same_elements (lives acts name) (tokens acts name) (tokens_then acts name) (lives_then acts name)) (λ f. refl) p
        ∙ sym (one_class (declared_by_others acts name) p at (interests acts name))

pub lines_tell_tokens : LinesTellTokens
lines_tell_tokens ls acts rest cut = let m = prefix_reached ls acts rest cut in (m.0, m.1, λ at_rest. tokens_are_told acts m.0 m.1 at_rest)
