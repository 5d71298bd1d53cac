use Rattle.std.proofs.Common.{subst}
use Rattle.std.proofs.lemmas.List.Concat.{flat_map-cons}
use Rattle.zr_index.specs.Pairs.{Pairs}
use Rattle.zr_local.specs.declared.holder.Holder.{Holder}
use Rattle.zr_push_sought.specs.Holders.{HoldsJust}
use Rattle.zr_push_sought.specs.Pairs.{Declared, pair_of, pairs_of}
use Rattle.zr_push_sought.specs.declared.sought.Sought.TheVariants.{Subscribers, Queryables}
use Rattle.zr_push_sought.proofs.holders.Holders.take.Goals as goal

pub returns : goal.returns
returns c = λ xs just. record {
  subscribers = c.take.ensures (pairs_of Subscribers xs) (subst (λ (ps : Pairs Holder). HoldsJust ps c.args.self.now.subscribers.index) (flat_map-cons (λ (x : Declared). pair_of Subscribers x) (c.args.who, c.args.decl.now) xs) just.subscribers);
  queryables = c.take-2.ensures (pairs_of Queryables xs) (subst (λ (ps : Pairs Holder). HoldsJust ps c.args.self.now.queryables.index) (flat_map-cons (λ (x : Declared). pair_of Queryables x) (c.args.who, c.args.decl.now) xs) just.queryables);
}
