-- Who has declared something: the order of these tells them apart.
use Rattle.std.proofs.Common.{◌≡◌, ℕ, List, [], Ordering, Less, Equal, Greater, refl, ap}
use Rattle.std.specs.Cmp.Lexicographic.{slice_cmp}
use Rattle.std.specs.Ordering.{nat_cmp, ordering_then}
use Rattle.std.proofs.lemmas.Map.Lookups.{exact_bytes, exact_unsigned}
use Rattle.zr_lists.proofs.Order.{IsExactOrder}
use Rattle.zr_id.specs.declared.link.LinkNo.{LinkNo}
use Rattle.zr_local.specs.Holders.{holder_cmp, holder_total}
use Rattle.zr_local.specs.declared.holder.Holder.{Holder}
use Rattle.zr_local.specs.declared.holder.Holder.TheVariants.{Client, Source}

holder_exact : (a b : Holder) → holder_cmp a b ≡ Equal → a ≡ b
holder_exact (Client a) (Client b) h = by (nat_cmp a.0 b.0) refl h
  where
    by : (r : Ordering) → nat_cmp a.0 b.0 ≡ r → ordering_then r (slice_cmp nat_cmp [] []) ≡ Equal → Client a ≡ Client b
    by Less e t = cc
    by Equal e t = let n : a.0 ≡ b.0 = exact_unsigned _ _ e in λ i. Client (record { 0 = n i })
    by Greater e t = cc
holder_exact (Client a) (Source b) h = cc
holder_exact (Source a) (Client b) h = cc
holder_exact (Source a) (Source b) h = ap (λ (n : List ℕ). Source n) (exact_bytes a b h)

pub holder_order : IsExactOrder holder_cmp
holder_order = record { total = holder_total; exact = holder_exact }
