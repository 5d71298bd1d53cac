-- Logs in ascending order of their routers: one that is put keeps the order, and what was found at a place.
use Rattle.std.proofs.Common.{◌≡◌, ℕ, ◌<◌, List, [], ◌∷◌, Option, Some, map, get_or, set, take, drop, refl, sym, ap, ◌∙◌}
use Rattle.std.specs.Cmp.Lexicographic.{slice_cmp}
use Rattle.std.specs.List.{insert}
use Rattle.std.specs.List.Sorted.{IsStrictlySortedBy}
use Rattle.std.specs.Option.{option_map_or}
use Rattle.std.specs.Ordering.{nat_cmp}
use Rattle.std.proofs.Math.Seq.{map-set_same}
use Rattle.std.proofs.lemmas.List.{map-append, take-map, drop-map}
use Rattle.std.proofs.lemmas.Option.{slice_get-get_or}
use Rattle.zr_lists.specs.Ascending.{put}
use Rattle.zr_lists.specs.Place.{IsAt}
use Rattle.zr_lists.proofs.Order.{name_order}
use Rattle.zr_lists.proofs.Puts.{ascending_put, All-put, put_at}
use Rattle.zr_log.specs.declared.log.Log.{Log}
use Rattle.zr_log.specs.Log.{Change, changed}
use Rattle.zr_log.specs.Known.{KnownState, AreInOrder, log_of, decls, changed_log}

abbrev pub source_of : Log → List ℕ
source_of l = l.source

pub in_order_none : (me : List ℕ) → AreInOrder (record { me = me; logs = [] })
unfolding IsStrictlySortedBy
in_order_none me = record { ascending = tt; begun = tt }

pub in_order_put : (me : List ℕ) (logs : List Log) (l : Log) → AreInOrder (record { me = me; logs = logs }) → 0 < l.position → AreInOrder (record { me = me; logs = put (slice_cmp nat_cmp) source_of logs l })
in_order_put me logs l h begun = record {
  ascending = ascending_put (slice_cmp nat_cmp) source_of name_order logs l h.ascending;
  begun = All-put (slice_cmp nat_cmp) source_of name_order (λ (x : Log). 0 < x.position) logs l h.begun begun;
}

pub put_there : (logs : List Log) (l : Log) (i : ℕ) → IsAt (slice_cmp nat_cmp) source_of logs l.source i → set logs i l ≡ put (slice_cmp nat_cmp) source_of logs l
put_there logs l i h = put_at (slice_cmp nat_cmp) source_of name_order logs l i h

-- the list of routers beside them
pub names_set : (logs : List Log) (l : Log) (i : ℕ) → IsAt (slice_cmp nat_cmp) source_of logs l.source i → map source_of (set logs i l) ≡ map source_of logs
names_set logs l i h = map-set_same source_of logs i l l (sym (h.key_is l))

pub names_insert : (logs : List Log) (l : Log) (i : ℕ) → insert (map source_of logs) i l.source ≡ map source_of (insert logs i l)
names_insert logs l i =
    rw (take-map source_of i logs, drop-map source_of i logs) (sym (map-append source_of (take i logs) (l ∷ drop i logs)))

-- a log that was found has one change more
pub changed_there : (k : KnownState) (source : List ℕ) (number : ℕ) (c : Change) (i : ℕ) (d : Log) → IsAt (slice_cmp nat_cmp) source_of k.logs source i →
    changed_log (get_or k.logs i d) number c ≡ record { source = source; position = number; decls = changed (decls k source) c }
changed_there k source number c i d h =
    let s : (get_or k.logs i d).source ≡ source = h.key_is d in
    let f : log_of k source ≡ Some (get_or k.logs i d) = h.found ∙ slice_get-get_or k.logs i d h.within in
    let e : (get_or k.logs i d).decls ≡ decls k source = sym (ap (λ (o : Option Log). option_map_or (λ l. l.decls) o []) f) in
    λ j. record { source = s j; position = number; decls = changed (e j) c }

pub changed_put : (k : KnownState) (source : List ℕ) (number : ℕ) (c : Change) (i : ℕ) (d : Log) (news : List Log) → IsAt (slice_cmp nat_cmp) source_of k.logs source i →
    news ≡ set k.logs i (changed_log (get_or k.logs i d) number c) → news ≡ put (slice_cmp nat_cmp) source_of k.logs (record { source = source; position = number; decls = changed (decls k source) c })
changed_put k source number c i d news h e =
    e ∙ ap (λ (l : Log). set k.logs i l) (changed_there k source number c i d h)
    ∙ put_there k.logs (record { source = source; position = number; decls = changed (decls k source) c }) i h

pub names_changed : (k : KnownState) (number : ℕ) (c : Change) (i : ℕ) (d : Log) (news : List Log) →
    news ≡ set k.logs i (changed_log (get_or k.logs i d) number c) → map source_of news ≡ map source_of k.logs
names_changed k number c i d news e =
    ap (λ (ls : List Log). map source_of ls) e ∙ map-set_same source_of k.logs i (changed_log (get_or k.logs i d) number c) d refl
