use Rattle.std.proofs.Common.{refl, arith, length}
use Rattle.zr_bytes.specs.Number.{writes}
use Rattle.zr_bytes.proofs.Numbers.{written_spells, written_bytes, written_shortest}
use Rattle.zr_bytes.proofs.laws.written_is_shortest.Goals as goal

pub returns : goal.returns
returns c = record {
  number = λ value lt. written_spells 8 value;
  bytes = λ value lt. written_bytes 8 value (omega arith);
  shortest = λ value bytes. written_shortest 8 value bytes;
  text = λ text lt. (writes (length text), written_spells 8 (length text), refl);
}
