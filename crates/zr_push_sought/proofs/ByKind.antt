-- The declarations of a set by their kinds: they rise, so those of lower kinds are on one side of a place.
use Rattle.std.proofs.Common.{◌≡◌, ℕ, ◌<◌, ◌≤◌, ◌||◌, zero, suc, Bool, true, false, List, [], ◌∷◌, Ordering, Less, Equal, Greater, length, take, drop, get_or, inl, inr, refl, sym, ap, arith}
use Rattle.std.specs.Cmp.{ranked}
use Rattle.std.specs.Cmp.Lexicographic.{slice_cmp}
use Rattle.std.specs.List.{AllWithin, list_any}
use Rattle.std.specs.List.Sorted.{IsNonDecreasingBy, IsPartitionedBy}
use Rattle.std.specs.Ordering.{nat_cmp, ordering_then}
use Rattle.std.proofs.lemmas.Bool.{cases_lt, true≢false}
use Rattle.std.proofs.lemmas.List.Sorted.{IsPartitionedBy-ltb}
use Rattle.std.proofs.lemmas.Map.Keys.{Less-from_sorted}
use Rattle.std.proofs.lemmas.Map.Lookups.{exact_unsigned}
use Rattle.zr_msg.specs.Decl.{decl_cmp, kind_rank}
use Rattle.zr_msg.specs.declared.decl.Decl.{Decl}
use Rattle.zr_msg.specs.declared.decl.Kind.{Kind}
use Rattle.zr_msg.specs.declared.decl.Kind.TheVariants.{Sub, Able, Full, Token}
use Rattle.zr_push_sought.specs.Sought.{is_sought, is_lower}
use Rattle.zr_push_sought.specs.declared.sought.Sought.{Sought}
use Rattle.zr_push_sought.specs.declared.sought.Sought.TheVariants.{Subscribers, Queryables, Complete}
use Rattle.zr_node_spec.specs.Queries.{is_queryable, is_complete}
use Rattle.zr_node_spec.specs.Samples.{is_subscriber}
use Rattle.zr_log_set.specs.Decls.{IsSet}

-- ---- kinds rise

kind_le : (a b : Decl) → decl_cmp a b ≡ Less → kind_rank a.kind ≤ kind_rank b.kind
kind_le a b h = by (nat_cmp (kind_rank a.kind) (kind_rank b.kind)) refl h
  where
    by : (r : Ordering) → nat_cmp (kind_rank a.kind) (kind_rank b.kind) ≡ r → ordering_then r (slice_cmp nat_cmp a.key b.key) ≡ Less → kind_rank a.kind ≤ kind_rank b.kind
    by Less e t = let u : kind_rank a.kind < kind_rank b.kind = ranked (kind_rank a.kind) (kind_rank b.kind) Less (sym e) in omega arith
    by Equal e t = let u : kind_rank a.kind ≡ kind_rank b.kind = exact_unsigned _ _ e in omega arith
    by Greater e t = cc

pub kinds_rise : (decls : List Decl) → IsSet decls → IsNonDecreasingBy (λ d. kind_rank d.kind) decls
kinds_rise decls up i j d le lt = elim (cases_lt i j) [
  | inl l ↦ kind_le (get_or decls i d) (get_or decls j d) (Less-from_sorted decl_cmp decls i j d up l lt)
  | inr g ↦ let e : i ≡ j = omega arith in rw e (omega arith)
]

pub lower_first : (decls : List Decl) (kind : Kind) → IsNonDecreasingBy (λ d. kind_rank d.kind) decls → IsPartitionedBy (λ d. is_lower d.kind kind) decls
lower_first decls kind up = IsPartitionedBy-ltb (λ (d : Decl). kind_rank d.kind) decls (kind_rank kind) up

-- ---- a test that all on one side of a place fail

module _ {X : Type 0} (p : X → Bool) (Q : X → Type 0) (fails : (x : X) → Q x → p x ≡ false) where
  pub any_before : (xs : List X) (i : ℕ) → AllWithin Q xs i (length xs) → list_any p (take i xs) ≡ list_any p xs
  any_before [] zero h = refl
  any_before [] (suc i) h = refl
  any_before (x ∷ xs) zero h = rw (fails x (h 0 x (omega arith) (omega arith))) (any_before xs 0 (λ k d a b. h (suc k) d (omega arith) (omega arith)))
  any_before (x ∷ xs) (suc i) h = ap (λ b. p x || b) (any_before xs i (λ k d a b. h (suc k) d (omega arith) (omega arith)))

  pub any_behind : (xs : List X) (i : ℕ) → i ≤ length xs → AllWithin Q xs 0 i → list_any p (drop i xs) ≡ list_any p xs
  any_behind xs zero le h = refl
  any_behind [] (suc i) le h = absurd (omega arith)
  any_behind (x ∷ xs) (suc i) le h = rw (fails x (h 0 x (omega arith) (omega arith))) (any_behind xs i (omega arith) (λ k d a b. h (suc k) d (omega arith) (omega arith)))

module _ (key : List ℕ) where
  pub no_subscriber : (d : Decl) → is_lower d.kind Able ≡ false → is_sought Subscribers key d ≡ false
  no_subscriber d h = let e : is_subscriber d.kind ≡ false = other d.kind h in rw e refl
    where
      other : (k : Kind) → is_lower k Able ≡ false → is_subscriber k ≡ false
      other Sub e = absurd (true≢false e)
      other Able e = refl
      other Full e = refl
      other Token e = refl

  pub no_queryable : (d : Decl) → is_lower d.kind Able ≡ true → is_sought Queryables key d ≡ false
  no_queryable d h = let e : is_queryable d.kind ≡ false = other d.kind h in rw e refl
    where
      other : (k : Kind) → is_lower k Able ≡ true → is_queryable k ≡ false
      other Sub e = refl
      other Able e = absurd (true≢false (sym e))
      other Full e = absurd (true≢false (sym e))
      other Token e = absurd (true≢false (sym e))

  pub not_complete : (d : Decl) → is_lower d.kind Full ≡ true → is_sought Complete key d ≡ false
  not_complete d h = let e : is_complete d.kind ≡ false = other d.kind h in rw e refl
    where
      other : (k : Kind) → is_lower k Full ≡ true → is_complete k ≡ false
      other Sub e = refl
      other Able e = refl
      other Full e = absurd (true≢false (sym e))
      other Token e = absurd (true≢false (sym e))

  -- a token is never sought
  pub no_token : (sought : Sought) (d : Decl) → is_lower d.kind Token ≡ false → is_sought sought key d ≡ false
  no_token sought d h = let e : d.kind ≡ Token = other d.kind h in by sought e
    where
      other : (k : Kind) → is_lower k Token ≡ false → k ≡ Token
      other Sub e = absurd (true≢false e)
      other Able e = absurd (true≢false e)
      other Full e = absurd (true≢false e)
      other Token e = refl

      by : (sought : Sought) → d.kind ≡ Token → is_sought sought key d ≡ false
      by Subscribers e = rw e refl
      by Queryables e = rw e refl
      by Complete e = rw e refl
