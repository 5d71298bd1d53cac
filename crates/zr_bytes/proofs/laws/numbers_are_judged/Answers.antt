use Rattle.std.proofs.Common.{inl, inr}
use Rattle.zr_bytes.specs.declared.read_error.ReadError.TheVariants.{Short, TooBig}
use Rattle.zr_bytes.proofs.Numbers.{below_begins, begins_below, begins_above, inside_below, below_refused}
use Rattle.zr_bytes.proofs.laws.numbers_are_judged.Goals as goal

pub returns : goal.returns
returns c = record {
  ok = λ limit value bytes rest. (below_begins limit value bytes rest, λ h. begins_below limit value bytes rest h.0 h.1);
  short = λ limit bytes. (λ refused. elim (below_refused limit bytes Short refused) [ inl short ↦ short.1 | inr big ↦ absurd cc ], inside_below limit bytes);
  too_big = λ limit bytes. (λ refused. elim (below_refused limit bytes TooBig refused) [ inl short ↦ absurd cc | inr big ↦ (big.1, big.2, big.3, big.4) ], λ h. begins_above limit h.0 bytes h.1 h.2 h.3);
  no_other = λ limit bytes e refused. elim (below_refused limit bytes e refused) [ inl short ↦ inl short.0 | inr big ↦ inr big.0 ];
}
