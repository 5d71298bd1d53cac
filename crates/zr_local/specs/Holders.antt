-- Who has declared something, and the order of these: clients by the numbers of their links, and behind them other routers by their names.
use Rattle.std.specs.Prelude.{ℕ, Bool, List, []}
use Rattle.std.specs.declared.cmp.Ordering.{Ordering}
use Rattle.std.specs.Cmp.{IsTotalOrder, nat_cmp_total, on_total, then_total}
use Rattle.std.specs.Cmp.Lexicographic.{slice_cmp, nat_list_cmp_total}
use Rattle.std.specs.Ordering.{is_eq, nat_cmp, on, then_cmp}
use Rattle.zr_local.specs.declared.holder.Holder.{Holder}
use Rattle.zr_local.specs.declared.holder.Holder.TheVariants.{Client, Source}

abbrev pub holder_rank : Holder → ℕ
holder_rank (Client link) = 0
holder_rank (Source name) = 1

abbrev pub holder_link : Holder → ℕ
holder_link (Client link) = link.0
holder_link (Source name) = 0

abbrev pub holder_name : Holder → List ℕ
holder_name (Client link) = []
holder_name (Source name) = name

abbrev pub holder_cmp : Holder → Holder → Ordering
holder_cmp = then_cmp (on holder_rank nat_cmp) (then_cmp (on holder_link nat_cmp) (on holder_name (slice_cmp nat_cmp)))

-- two are one: the client of one link, or the router of one name
abbrev pub is_holder : Holder → Holder → Bool
is_holder a b = is_eq (holder_cmp a b)

pub holder_total : IsTotalOrder holder_cmp
holder_total = then_total (on_total holder_rank nat_cmp_total) (then_total (on_total holder_link nat_cmp_total) (on_total holder_name nat_list_cmp_total))
