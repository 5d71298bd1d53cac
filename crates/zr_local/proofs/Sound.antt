-- Rows and what is noted of them still belong together once a row is put, inserted or taken out at its place.
use Rattle.std.proofs.Common.{◌≡◌, ℕ, List, [], get_or, set, refl, ◌∙◌, arith}
use Rattle.std.specs.List.{insert, remove}
use Rattle.std.specs.List.Sorted.{IsStrictlySortedBy}
use Rattle.zr_lists.specs.Place.{IsAt, IsGap}
use Rattle.zr_lists.proofs.Puts.{ascending_put, ascending_without, put_at, put_in, removed_at}
use Rattle.zr_local.specs.declared.row.Row.{Row}
use Rattle.zr_local.specs.declared.owners.Owned.{Owned}
use Rattle.zr_local.specs.Rows.{Key, key_cmp, row_key, AreInOrder, declared, undeclared}
use Rattle.zr_local.specs.Owners.{once_more, once_less, IsSound}
use Rattle.zr_local.proofs.Counts.{count-more, count-less}
use Rattle.zr_local.proofs.Rows.{key_order, with-insert, with-set, with-remove}

pub sound_none : IsSound [] []
unfolding IsStrictlySortedBy
sound_none = record { ascending = tt; counted = λ d. refl }

pub set_is : (rows : List Row) (r : Row) (i : ℕ) → IsAt key_cmp row_key rows (row_key r) i → set rows i r ≡ declared rows r
set_is rows r i h = put_at key_cmp row_key key_order rows r i h

pub insert_is : (rows : List Row) (r : Row) (i : ℕ) → IsGap key_cmp row_key rows (row_key r) i → insert rows i r ≡ declared rows r
insert_is rows r i h = put_in key_cmp row_key key_order rows r i h

pub remove_is : (rows : List Row) (k : Key) (i : ℕ) → IsAt key_cmp row_key rows k i → remove rows i ≡ undeclared rows k
remove_is rows k i h = removed_at key_cmp row_key key_order rows k i h

pub sound_set : (rows : List Row) (os : List Owned) (r x : Row) (i : ℕ) → IsAt key_cmp row_key rows (row_key r) i → IsSound rows os →
    IsSound (set rows i r) (once_less (once_more os r.decl) (get_or rows i x).decl)
sound_set rows os r x i h s =
    let old = (get_or rows i x).decl in
    record {
      ascending = let up : AreInOrder (declared rows r) = ascending_put key_cmp row_key key_order rows r s.ascending in rw (set_is rows r i h) up;
      counted = λ d. count-less (once_more os r.decl) old d
          ∙ omega (arith, count-more os r.decl d, s.counted d, with-set rows i r x d h.within);
    }

pub sound_insert : (rows : List Row) (os : List Owned) (r : Row) (i : ℕ) → IsGap key_cmp row_key rows (row_key r) i → IsSound rows os →
    IsSound (insert rows i r) (once_more os r.decl)
sound_insert rows os r i h s = record {
  ascending = let up : AreInOrder (declared rows r) = ascending_put key_cmp row_key key_order rows r s.ascending in rw (insert_is rows r i h) up;
  counted = λ d. count-more os r.decl d ∙ omega (arith, s.counted d, with-insert rows i r d);
}

pub sound_remove : (rows : List Row) (os : List Owned) (k : Key) (x : Row) (i : ℕ) → IsAt key_cmp row_key rows k i → IsSound rows os →
    IsSound (remove rows i) (once_less os (get_or rows i x).decl)
sound_remove rows os k x i h s =
    let old = (get_or rows i x).decl in
    record {
      ascending = let up : AreInOrder (undeclared rows k) = ascending_without key_cmp row_key key_order rows k s.ascending in rw (remove_is rows k i h) up;
      counted = λ d. count-less os old d ∙ omega (arith, s.counted d, with-remove rows i x d h.within);
    }
