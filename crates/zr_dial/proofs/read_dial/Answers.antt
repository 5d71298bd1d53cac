use Rattle.std.proofs.Common.{sym, ap, ◌∙◌}
use Rattle.std.specs.Option.{option_map}
use Rattle.zr_dial.proofs.Parted.{parted, whole, weighed, unweighed}
use Rattle.zr_dial.proofs.read_dial.Goals as goal

pub returns-in-None : goal.returns-in-None
returns-in-None c =
    let split = parted c.args.word.now _ c.rsplit_once.ensures.cases in
    whole c.args.word.now _ (sym (ap (option_map (λ x. (x.0.now, x.1.now))) c.in-None.is) ∙ split) (rw c.one.ensures at c.dialled.ensures)

pub returns-in-Ok : goal.returns-in-Ok
returns-in-Ok c =
    let split = parted c.args.word.now _ c.rsplit_once.ensures.cases in
    weighed c.args.word.now _ c.in-Some.digits.now c.in-Ok.weight _ (sym (ap (option_map (λ x. (x.0.now, x.1.now))) c.in-Some.is) ∙ split)
    (rw c.as_bytes.ensures.value at c.in-Ok.ensures) c.dialled-in-Ok.ensures

pub returns-in-Err : goal.returns-in-Err
returns-in-Err c =
    let split = parted c.args.word.now _ c.rsplit_once.ensures.cases in
    unweighed c.args.word.now _ c.in-Some.digits.now _ _ (sym (ap (option_map (λ x. (x.0.now, x.1.now))) c.in-Some.is) ∙ split)
    (rw c.as_bytes.ensures.value at c.in-Err.ensures) c.undialled.ensures
