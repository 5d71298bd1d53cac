-- Names, and what a look-up by name finds after a replacement or an insertion. Two lemmas serve nearly all steps, over any
-- reading of what was found: what a replacement does to the reading (`read_after`), and that it does nothing where the
-- reading cannot tell the two values apart (`read_kept`); `test_after` is the first for tests.
use Rattle.std.proofs.Common.{◌≡◌, ℕ, Bool, true, false, cond, List, [], ◌∷◌, Option, Some, None, refl, sym, ap, ◌∙◌}
use Rattle.std.specs.Prelude.{IsSome, is_some}
use Rattle.std.specs.List.{list_all}
use Rattle.std.specs.Map.{lookup, set_value, values_of}
use Rattle.std.specs.BTreeMap.{insert_entry}
use Rattle.std.specs.Ordering.{nat_cmp}
use Rattle.std.specs.Cmp.{IsEquivalence, eq_by_cmp_equiv}
use Rattle.std.specs.Cmp.Lexicographic.{slice_cmp, nat_list_cmp_total}
use Rattle.std.proofs.lemmas.Bool.{and_parts}
use Rattle.zr_lists.proofs.Options.{read_cond}
use Rattle.zr_id.specs.Zid.{is_named}
use Rattle.zr_world_spec.proofs.Keyed.{read_same, lookup_set, lookup_insert}
pub use Rattle.zr_graph.proofs.Names.{same_is as same_name}
pub use Rattle.zr_world_spec.proofs.Keyed.{of_some}

pub names : IsEquivalence is_named
names = eq_by_cmp_equiv nat_list_cmp_total

module _ {X : Type 0} where
  -- what all values pass, the one that was found passes
  pub found : (t : X → Bool) (es : List (List ℕ × X)) (q : List ℕ) → list_all t (values_of es) ≡ true → of_some t (lookup (is_named q) es) ≡ true
  found t [] q h = refl
  found t (e ∷ es) q h = by (and_parts (t e.1) (list_all t (values_of es)) h).0 (found t es q (and_parts (t e.1) (list_all t (values_of es)) h).1) (is_named q e.0)
    where
      by : t e.1 ≡ true → of_some t (lookup (is_named q) es) ≡ true → (b : Bool) → of_some t (cond b (Some e.1) (lookup (is_named q) es)) ≡ true
      by here ih true = here
      by here ih false = ih

  -- after the value of a name was replaced
  pub value_after : (es : List (List ℕ × X)) (name q : List ℕ) (w : X) → IsSome (lookup (is_named name) es) →
      lookup (is_named q) (set_value (is_named name) es w) ≡ cond (is_named name q) (Some w) (lookup (is_named q) es)
  value_after es name q w h = lookup_set nat_list_cmp_total es name q w h

  -- after a value was put in under a new name
  pub value_new : (es : List (List ℕ × X)) (name q : List ℕ) (w : X) → lookup (is_named name) es ≡ None →
      lookup (is_named q) (insert_entry (slice_cmp nat_cmp) es name w) ≡ cond (is_named q name) (Some w) (lookup (is_named q) es)
  value_new es name q w none =
      lookup_insert nat_list_cmp_total es name q w none ∙ ap (λ b. cond b (Some w) (lookup (is_named q) es)) (names.symm name q)

  -- what a reading of the value found says after a replacement
  pub read_after : {Y : Type 0} (f : Option X → Y) (es : List (List ℕ × X)) (name q : List ℕ) (c w : X) → lookup (is_named name) es ≡ Some c →
      f (lookup (is_named q) (set_value (is_named name) es w)) ≡ cond (is_named name q) (f (Some w)) (f (lookup (is_named q) es))
  read_after f es name q c w h = ap f (value_after es name q w (ap is_some h)) ∙ read_cond f (is_named name q) (Some w) (lookup (is_named q) es)

  -- a reading that the replacement does not change
  pub read_kept : {Y : Type 0} (f : Option X → Y) (es : List (List ℕ × X)) (name q : List ℕ) (c w : X) → lookup (is_named name) es ≡ Some c →
      f (Some w) ≡ f (Some c) → f (lookup (is_named q) (set_value (is_named name) es w)) ≡ f (lookup (is_named q) es)
  read_kept f es name q c w h e = read_after f es name q c w h
      ∙ read_same (is_named name q) (f (Some w)) (f (lookup (is_named q) es)) (λ n. e ∙ ap f (sym h) ∙ ap (λ z. f (lookup (is_named z) es)) (same_name name q n))

  -- a test that the value found passes after a replacement, where it passed before and the replacement keeps it
  pub test_after : (f : Option X → Bool) (es : List (List ℕ × X)) (name q : List ℕ) (c w : X) → lookup (is_named name) es ≡ Some c →
      f (lookup (is_named q) es) ≡ true → (is_named name q ≡ true → f (Some c) ≡ true → f (Some w) ≡ true) →
      f (lookup (is_named q) (set_value (is_named name) es w)) ≡ true
  test_after f es name q c w h before step = read_after f es name q c w h ∙ by (is_named name q) refl
    where
      by : (b : Bool) → is_named name q ≡ b → cond b (f (Some w)) (f (lookup (is_named q) es)) ≡ true
      by true n = step n (ap f (sym h) ∙ ap (λ z. f (lookup (is_named z) es)) (same_name name q n) ∙ before)
      by false n = before
