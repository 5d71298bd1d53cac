-- The neighbours on the way to what is sought, as they are collected.
use Rattle.std.proofs.Common.{◌≡◌, ℕ, ◌<◌, ◌||◌, ◌&&◌, Bool, true, false, List, [], Option, Some, None, Result, is_ok, length, get_or, set, refl, sym, ap, subst, ◌∙◌, arith}
use Rattle.std.specs.Cmp.Lexicographic.{slice_cmp}
use Rattle.std.specs.List.{insert, AllByRecursion}
use Rattle.std.specs.List.Sorted.{IsStrictlySortedBy}
use Rattle.std.specs.Ordering.{nat_cmp}
use Rattle.std.proofs.lemmas.Bool.{false_from_ne_true}
use Rattle.std.proofs.lemmas.List.{set-get_or}
use Rattle.zr_graph.specs.Record.{has, IsAscending}
use Rattle.zr_id.specs.Record.{RecordState}
use Rattle.zr_id.specs.Zid.{is_named}
use Rattle.zr_graph.proofs.Names.{same_is}
use Rattle.zr_log.specs.declared.log.Log.{Log}
use Rattle.zr_lists.proofs.Order.{name_order}
use Rattle.zr_push_sought.specs.declared.sought.Sought.{Sought}
use Rattle.zr_push_sought.specs.Hops.{is_way_to}
use Rattle.zr_push_sought.specs.Sought.{is_in_log}
use Rattle.zr_node_spec.specs.Tables.{TableState, graph}
use Rattle.zr_tree.specs.Tree.{reached, toward, tree_depth}
use Rattle.zr_tree.specs.Walk.{graph_of}
use Rattle.zr_tree.proofs.Ancestors.{toward_short, toward_unreached_dest}
use Rattle.zr_lists.specs.Ascending.{put}
use Rattle.zr_lists.specs.Place.{IsAt, IsGap, IsPlace}
use Rattle.zr_lists.proofs.Elements.{each_in}
use Rattle.zr_lists.proofs.Finds.{In, place_in}
use Rattle.zr_lists.proofs.Puts.{put_at, put_in, has-put, place_has, ascending_put}

abbrev itself : List ℕ → List ℕ
itself n = n

pub none_ascends : IsAscending []
unfolding IsStrictlySortedBy
none_ascends = tt

pub put_ascends : (names : List (List ℕ)) (name : List ℕ) → IsAscending names → IsAscending (put (slice_cmp nat_cmp) (λ n. n) names name)
put_ascends names name up = ascending_put (slice_cmp nat_cmp) itself name_order names name up

pub has_put : (names : List (List ℕ)) (name other : List ℕ) → has (put (slice_cmp nat_cmp) (λ n. n) names name) other ≡ (is_named name other || has names other)
has_put names name other = has-put (slice_cmp nat_cmp) itself name_order names name other

pub place_tells : (names : List (List ℕ)) (name : List ℕ) (r : Result ℕ ℕ) → IsPlace (slice_cmp nat_cmp) (λ n. n) names name r → is_ok r ≡ has names name
place_tells names name r h = place_has (slice_cmp nat_cmp) itself name_order names name r h

pub regroup : (n h w r all : Bool) → n ≡ w → (h || (w || r)) ≡ all → ((n || h) || r) ≡ all
regroup n h true r all e k = rw e (top h ∙ k)
  where
    top : (h : Bool) → true ≡ (h || true)
    top true = refl
    top false = refl
regroup n h false r all e k = rw e k

-- no neighbour is on the way to a router itself
pub to_another : (rs : List RecordState) (root at dest hop : List ℕ) → toward (graph_of rs) root at dest ≡ Some hop → is_named dest at ≡ false
to_another rs root at dest hop to =
    false_from_ne_true (is_named dest at) (λ same. none (tree_depth (graph_of rs) root dest) refl (same_is dest at same))
  where
    apart : toward (graph_of rs) root at dest ≡ None → ⊥
    apart h = let e : Some hop ≡ None = sym to ∙ h in absurd (cc)

    none : (depth : Option ℕ) → tree_depth (graph_of rs) root dest ≡ depth → dest ≡ at → ⊥
    none None d same = apart (toward_unreached_dest rs root at dest d)
    none (Some n) d same = apart (toward_short rs root at dest n n d (ap (tree_depth (graph_of rs) root) (sym same) ∙ d) (omega arith))

-- the next step to the router of a log tells which neighbour is on the way there
pub hop_is : (t : TableState) (tree : List ℕ) (sought : Sought) (key name : List ℕ) (log : Log) (hop : List ℕ) → Some hop ≡ toward (graph t) tree t.base.me log.source
    → reached (graph t) t.base.me log.source ≡ true → is_in_log sought key log ≡ true → is_named hop name ≡ is_way_to t tree sought key name log
hop_is t tree sought key name log hop to there in_log = rw (in_log, ← to, there) refl

-- and where there is none, none is
pub no_hop : (t : TableState) (tree : List ℕ) (sought : Sought) (key name : List ℕ) (log : Log) → None ≡ toward (graph t) tree t.base.me log.source → false ≡ is_way_to t tree sought key name log
no_hop t tree sought key name log to = rw (← to) (none (is_in_log sought key log) (reached (graph t) t.base.me log.source))
  where
    none : (a b : Bool) → false ≡ (a && (b && false))
    none true true = refl
    none true false = refl
    none false b = refl

pub put_there : (names : List (List ℕ)) (name : List ℕ) (i : ℕ) → IsAt (slice_cmp nat_cmp) (λ n. n) names name i → put (slice_cmp nat_cmp) (λ n. n) names name ≡ names
put_there names name i h =
    sym (put_at (slice_cmp nat_cmp) itself name_order names name i h)
    ∙ ap (λ (n : List ℕ). set names i n) (sym (h.key_is name))
    ∙ set-get_or names i name

pub put_inside : (names : List (List ℕ)) (name : List ℕ) (i : ℕ) → IsGap (slice_cmp nat_cmp) (λ n. n) names name i → insert names i name ≡ put (slice_cmp nat_cmp) (λ n. n) names name
put_inside names name i h = put_in (slice_cmp nat_cmp) itself name_order names name i h

-- what holds of each log holds of the one at a place
pub at_place : (P : Log → Type 0) (logs : List Log) (i : ℕ) (log : Log) → i < length logs → log ≡ get_or logs i log → AllByRecursion P logs → P log
at_place P logs i log less is all = each_in P logs log all (subst (λ (l : Log). In l logs) (sym is) (place_in logs i log less))
