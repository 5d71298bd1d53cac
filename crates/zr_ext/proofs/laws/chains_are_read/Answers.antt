use Rattle.zr_ext.proofs.Many.{chain_found, chain_read, chain_refused, refused_chain}
use Rattle.zr_ext.proofs.laws.chains_are_read.Goals as goal

pub returns : goal.returns
returns c = record {
  ok = λ known bytes rest exts. (chain_found known bytes rest exts, chain_read known bytes rest exts);
  refused = λ known bytes e. (chain_refused known bytes e, refused_chain known bytes e);
}
