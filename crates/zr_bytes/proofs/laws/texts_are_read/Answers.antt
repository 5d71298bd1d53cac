use Rattle.std.proofs.Common.{inl, inr}
use Rattle.zr_bytes.specs.declared.read_error.ReadError.TheVariants.{Short, TooBig}
use Rattle.zr_bytes.proofs.Texts.{text_begins, begins_text, begins_too_big, text_refused, inside_text}
use Rattle.zr_bytes.proofs.laws.texts_are_read.Goals as goal

pub returns : goal.returns
returns c = record {
  ok = λ limit text bytes rest. (text_begins limit text bytes rest, λ h. begins_text limit text bytes rest h.0 h.1);
  short = λ limit bytes. (λ refused. elim (text_refused limit bytes Short refused) [ inl short ↦ (short.1, short.2) | inr big ↦ absurd cc ], λ h. inside_text limit bytes h.0 h.1);
  too_big = λ limit bytes. (λ refused. elim (text_refused limit bytes TooBig refused) [ inl short ↦ absurd cc | inr big ↦ (big.1, big.2, big.3, big.4) ], λ h. begins_too_big limit h.0 bytes h.1 h.2 h.3);
  no_other = λ limit bytes e refused. elim (text_refused limit bytes e refused) [ inl short ↦ inl short.0 | inr big ↦ inr big.0 ];
}
