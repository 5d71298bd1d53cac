-- What is to be told one client, worked out from marks on the places that an event may have touched.
use Rattle.std.specs.Prelude.{◌≡◌, ℕ, ◌≤◌, ◌==◌, ◌&&◌, ◌||◌, ◌++◌, not, is_some, Bool, true, false, List, [], ◌∷◌, length, map, filter, Option, Some, None, ⊤, if◌then◌else◌}
use Rattle.std.specs.List.{fold, find, AllByRecursion}
use Rattle.std.specs.List.Sorted.{IsStrictlySortedBy}
use Rattle.std.specs.Ordering.{nat_cmp}
use Rattle.std.specs.Map.{lookup, keys_of, remove_entry}
use Rattle.std.specs.Option.{option_map, option_map_or}
use Rattle.std.specs.BTreeMap.{insert_entry}
use Rattle.zr_id.specs.declared.link.LinkNo.{LinkNo}
use Rattle.zr_msg.specs.declared.decl.Decl.{Decl}
use Rattle.zr_msg.specs.declared.msg.Msg.{Msg}
use Rattle.zr_node_spec.specs.Queries.{is_complete}
use Rattle.zr_told_spec.specs.Place.{place_cmp, same, place_of, Ascends}
use Rattle.zr_told_spec.specs.Wanted.{Wanted, fits, told_as, asked, wants, is_complete_at}
use Rattle.zr_local.specs.declared.interest.Interest.{Interest}
use Rattle.zr_told_spec.specs.Told.{ToldMap, at, gone, kept, fresh, undeclared, declared, id_for, entered, is_in, is_told, is_used}
use Rattle.zr_told_spec.specs.Rows.{Maps, map_on, sent_on, most_id}
use Rattle.zr_told.specs.Ids.{IdsState, is_given}
use Rattle.zr_told.specs.declared.book.Plan.{Plan}
use Rattle.zr_told.specs.declared.mark.Mark.{Mark}
use Rattle.zr_told.specs.declared.plan.LinkPlan.{LinkPlan}
use Rattle.zr_told_spec.specs.declared.place.Class.{Class}
use Rattle.zr_told_spec.specs.declared.place.Class.TheVariants.{Subscriber, Queryable, Living}
use Rattle.zr_told_spec.specs.declared.place.Place.{Place}

-- ---- ids

-- each id that is told is at most this one
abbrev pub fit : ℕ → ToldMap → Wanted → Type 0
fit most m [] = ⊤
fit most m (w ∷ ws) = (id_for m w.0 ≤ most) × fit most (entered m w) ws

-- no id stands twice
abbrev pub ids_differ : ToldMap → Type 0
ids_differ [] = ⊤
ids_differ (e ∷ es) = (is_used es e.1.id ≡ false) × ids_differ es

-- the ids are from 1 up to this one
abbrev pub AreUpTo : ℕ → ToldMap → Type 0
AreUpTo most m = (n : ℕ) → is_used m n ≡ true → (1 ≤ n) × (n ≤ most)

-- what is kept of ids is that of the told map
pub record AreNumbered (m : ToldMap) (s : IdsState) : Type 0 where
  pub given : (n : ℕ) → is_given s n ≡ is_used m n
  pub differ : ids_differ m
  pub ascends : Ascends m

-- without some places
abbrev pub forgotten : ToldMap → List Place → ToldMap
forgotten m ps = fold (λ n p. remove_entry (same p) n) m ps

-- ---- marks

abbrev pub Marks : Type 0
Marks = List (Place × Mark)

-- the told places that are marked as not wanted
abbrev pub marked_gone : ToldMap → Marks → List Place
marked_gone m ms = map (λ e. e.0) (filter (λ e. not e.1.wanted && is_some (at m e.0)) ms)

-- what is marked as wanted and wasn't told so, or is to be told again
abbrev pub marked_fresh : ToldMap → Marks → Wanted
marked_fresh m ms = map (λ e. (e.0, e.1.complete)) (filter (λ e. e.1.wanted && (e.1.again || not (is_told m (e.0, e.1.complete)))) ms)

-- the marks are right where they stand, and elsewhere nothing is to be told
pub record AreRight (again complete : Place → Bool) (ws : Wanted) (m : ToldMap) (ms : Marks) : Type 0 where
  pub wanted : (p : Place) (v : Mark) → lookup (same p) ms ≡ Some v → v.wanted ≡ is_in ws p
  pub complete_is : (p : Place) (v : Mark) → lookup (same p) ms ≡ Some v → v.wanted ≡ true → v.complete ≡ complete p
  pub again_is : (p : Place) (v : Mark) → lookup (same p) ms ≡ Some v → v.wanted ≡ true → v.again ≡ again p
  pub elsewhere : (p : Place) → lookup (same p) ms ≡ None → option_map (λ e. e.complete) (at m p) ≡ (if is_in ws p then Some (complete p) else None)
  pub again_elsewhere : (p : Place) → lookup (same p) ms ≡ None → is_in ws p ≡ true → again p ≡ false

-- ---- marks on all places that were told or are wanted

-- a mark at a place, where there is one, is changed
abbrev pub updated : (Mark → Mark) → Marks → Place → Marks
updated f ms p = option_map_or (λ v. insert_entry place_cmp ms p (f v)) (lookup (same p) ms) ms

abbrev pub put_mark : Mark → Marks → Place → Marks
put_mark v ms p = insert_entry place_cmp ms p v

abbrev pub unwanted : Mark
unwanted = record { wanted = false; complete = false; again = false }

abbrev pub is_wanted : Mark
is_wanted = record { wanted = true; complete = false; again = false }

abbrev pub with_again : Mark → Mark
with_again v = record { wanted = v.wanted; complete = v.complete; again = true }

abbrev pub with_complete : Mark → Mark
with_complete v = record { wanted = v.wanted; complete = true; again = v.again }

-- what an interest wants of the declarations is marked as wanted, or as told again
abbrev pub mark_wanted : List Decl → Marks → Interest → Marks
mark_wanted ds ms i = fold (λ n d. if fits i (place_of d) then put_mark is_wanted n (told_as i (place_of d)) else n) ms ds

abbrev pub mark_again : List Decl → Marks → Interest → Marks
mark_again ds ms i = fold (λ n d. if fits i (place_of d) then updated with_again n (told_as i (place_of d)) else n) ms ds

-- and the places of complete queryables as complete
abbrev pub mark_complete : List Decl → Marks → Marks
mark_complete ds ms = fold (λ n d. if is_complete d.kind then updated with_complete n (place_of d) else n) ms ds

-- the interest that is told all that it wants, if one is
abbrev pub mark_answered : List Decl → Marks → Option Interest → Marks
mark_answered ds ms None = ms
mark_answered ds ms (Some i) = mark_again ds ms i

abbrev pub is_answered : List Decl → Option Interest → Place → Bool
is_answered ds None p = false
is_answered ds (Some i) p = asked ds i p

abbrev pub marks_of : ToldMap → List Decl → List Interest → Option Interest → Marks
marks_of m ds is answered = mark_complete ds (mark_answered ds (fold (mark_wanted ds) (fold (put_mark unwanted) [] (keys_of m)) is) answered)

-- ---- marks on the places that changed declarations may touch

abbrev pub mark_at : List Decl → List Interest → Place → Mark
mark_at ds is p = record { wanted = wants ds is p; complete = is_complete_at ds p; again = false }

-- a place is marked once
abbrev pub mark_here : List Decl → List Interest → Marks → Place → Marks
mark_here ds is ms p = if is_some (lookup (same p) ms) then ms else put_mark (mark_at ds is p) ms p

-- of an interest that fits a changed place, that place is marked and the one where it is told of it
abbrev pub mark_fitting : List Decl → List Interest → Place → Marks → Interest → Marks
mark_fitting ds is q ms i = if fits i q then mark_here ds is (mark_here ds is ms q) (told_as i q) else ms

abbrev pub marks_at : List Decl → List Interest → List Place → Marks
marks_at ds is qs = fold (λ ms q. fold (mark_fitting ds is q) ms is) [] qs

-- ---- a plan

-- how much of this wasn't told before
abbrev pub count_new : ToldMap → Wanted → ℕ
count_new m ws = length (filter (λ w. not (is_some (at m w.0))) ws)

-- ids last for a plan, and no more places are told then than there are ids
abbrev pub HasIds : ToldMap → Plan → Type 0
HasIds m p = fit most_id (forgotten m p.gone.items) p.fresh.items × (length (fold entered (forgotten m p.gone.items) p.fresh.items) ≤ most_id)

-- what a client is to be told where this is wanted: what goes, what comes, and that ids last for it
pub record IsPlan (again : Place → Bool) (ws : Wanted) (m : ToldMap) (p : Plan) : Type 0 where
  pub gone : p.gone.items ≡ gone ws m
  pub fresh : p.fresh.items ≡ fresh again ws (kept ws m)
  pub kept : forgotten m p.gone.items ≡ kept ws m
  pub ids : HasIds m p

-- ---- what all clients are told by their plans

abbrev pub tells_plan : Maps → LinkPlan → List (LinkNo × Msg)
tells_plan maps e = sent_on e.link (undeclared (map_on maps e.link.0) e.plan.gone.items ++ declared None (forgotten (map_on maps e.link.0) e.plan.gone.items) e.plan.fresh.items)

-- of what a client was told then
abbrev pub told_plan : Maps → LinkPlan → ToldMap
told_plan maps e = fold entered (forgotten (map_on maps e.link.0) e.plan.gone.items) e.plan.fresh.items

abbrev pub plan_on : List LinkPlan → ℕ → Option LinkPlan
plan_on es link = find (λ e. e.link.0 == link) es

abbrev pub told_plans : Maps → List LinkPlan → ℕ → ToldMap
told_plans maps es link = option_map_or (told_plan maps) (plan_on es link) (map_on maps link)

-- ids last for each plan
abbrev pub ids_last : Maps → List LinkPlan → Type 0
ids_last maps es = AllByRecursion (λ e. HasIds (map_on maps e.link.0) e.plan) es

-- the links of plans ascend, each once
abbrev pub PlansAscend : List LinkPlan → Type 0
PlansAscend es = IsStrictlySortedBy nat_cmp (map (λ e. e.link.0) es)

-- a queryable alone may be complete
abbrev pub may_be_complete : Class → Bool
may_be_complete Subscriber = false
may_be_complete Queryable = true
may_be_complete Living = false

-- ---- what is sought among declarations: what an interest is told of at a place, or a complete queryable there

abbrev pub is_sought : Option Interest → Place → Decl → Bool
is_sought None p d = same p (place_of d) && is_complete d.kind
is_sought (Some i) p d = fits i (place_of d) && same p (told_as i (place_of d))
