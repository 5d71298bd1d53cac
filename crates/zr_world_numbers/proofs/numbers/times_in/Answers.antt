use Rattle.std.proofs.Common.{◌≡◌, Option, Some, None, sym, ap, rules}
use Rattle.std.specs.BTreeMap.{get_by}
use Rattle.std.specs.Option.{option_map_or}
use Rattle.std.specs.Ordering.{nat_cmp}
use Rattle.zr_world_numbers.specs.declared.numbers.Entry.{Entry}
use Rattle.zr_world_numbers.proofs.numbers.times_in.Goals as goal

pub returns-in-Some : goal.returns-in-Some
returns-in-Some c =
    let found : get_by (nat_cmp c.args.number) c.args.index.now ≡ Some c.in-Some.entry.now = search rules in
    sym (ap (λ (o : Option Entry). option_map_or (λ (e : Entry). e.times) o 0) found)

pub returns-in-None : goal.returns-in-None
returns-in-None c =
    let found : get_by (nat_cmp c.args.number) c.args.index.now ≡ None = search rules in
    sym (ap (λ (o : Option Entry). option_map_or (λ (e : Entry). e.times) o 0) found)
