use Rattle.std.proofs.Common.{sym, subst}
use Rattle.std.proofs.lemmas.List.Concat.{flat_map-cons}
use Rattle.zr_index.specs.Pairs.{Pairs}
use Rattle.zr_local.specs.declared.holder.Holder.{Holder}
use Rattle.zr_push_sought.specs.Holders.{HoldsJust}
use Rattle.zr_push_sought.specs.Pairs.{Declared, pair_of, pairs_of}
use Rattle.zr_push_sought.specs.declared.sought.Sought.TheVariants.{Subscribers, Queryables}
use Rattle.zr_push_sought.proofs.holders.Holders.put.Goals as goal

pub returns : goal.returns
returns c = λ xs just. record {
  subscribers = subst (λ (ps : Pairs Holder). HoldsJust ps c.put.new.self.index) (sym (flat_map-cons (λ (x : Declared). pair_of Subscribers x) (c.args.who, c.args.decl.now) xs)) (c.put.ensures (pairs_of Subscribers xs) just.subscribers);
  queryables = subst (λ (ps : Pairs Holder). HoldsJust ps c.put-2.new.self.index) (sym (flat_map-cons (λ (x : Declared). pair_of Queryables x) (c.args.who, c.args.decl.now) xs)) (c.put-2.ensures (pairs_of Queryables xs) just.queryables);
}
