-- Of what clients are told: of the subscribers, of the queryables and of the liveliness tokens on an expression (Zenoh protocol 1.0, "DECLARE").
use Rattle.std.specs.Prelude.{ℕ, Bool, true, false, List}
use Rattle.std.specs.declared.cmp.Ordering.{Ordering}
use Rattle.std.specs.Cmp.Lexicographic.{slice_cmp}
use Rattle.std.specs.Ordering.{is_eq, nat_cmp, on, then_cmp}
use Rattle.std.specs.List.Sorted.{IsStrictlySortedBy}
use Rattle.std.specs.Map.{keys_of}
use Rattle.zr_msg.specs.declared.decl.Decl.{Decl}
use Rattle.zr_msg.specs.declared.decl.Kind.{Kind}
use Rattle.zr_msg.specs.declared.decl.Kind.TheVariants.{Sub, Able, Full, Token}
use Rattle.zr_told_spec.specs.declared.place.Class.{Class}
use Rattle.zr_told_spec.specs.declared.place.Class.TheVariants.{Subscriber, Queryable, Living}
use Rattle.zr_told_spec.specs.declared.place.Place.{Place}

-- subscribers come before queryables, and these before tokens
abbrev pub class_rank : Class → ℕ
class_rank Subscriber = 0
class_rank Queryable = 1
class_rank Living = 2

-- by class, then by the expression's bytes
abbrev pub place_cmp : Place → Place → Ordering
place_cmp = then_cmp (on (λ p. class_rank p.class) nat_cmp) (on (λ p. p.key) (slice_cmp nat_cmp))

abbrev pub same : Place → Place → Bool
same p q = is_eq (place_cmp p q)

-- a complete queryable is a queryable
abbrev pub class_of : Kind → Class
class_of Sub = Subscriber
class_of Able = Queryable
class_of Full = Queryable
class_of Token = Living

-- a declaration of a token
abbrev pub is_token : Kind → Bool
is_token Sub = false
is_token Able = false
is_token Full = false
is_token Token = true

-- a token on a key, as a declaration
abbrev pub token_on : List ℕ → Decl
token_on key = record { kind = Token; key = key }

-- where a declaration stands
abbrev pub place_of : Decl → Place
place_of d = record { class = class_of d.kind; key = d.key }

-- what stands at places: these ascend, none twice
abbrev pub Ascends : {X : Type 0} → List (Place × X) → Type 0
Ascends es = IsStrictlySortedBy place_cmp (keys_of es)
