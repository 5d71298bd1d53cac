use Rattle.std.proofs.Common.{◌+◌, ◌-◌, ◌==◌, ◌∷◌, length, take, drop, sym, ap, ◌∙◌, arith, length-drop}
use Rattle.std.specs.List.{slice_split}
use Rattle.std.proofs.lemmas.List.{take_all}
use Rattle.zr_lists.proofs.Cutting.{cut_some, none_cut}
use Rattle.zr_lists.proofs.cut.Goals as goal

pub returns-in-Some-clause-parts : goal.returns-in-Some-clause-parts
returns-in-Some-clause-parts c =
    let all = c.args.bytes.now in
    let n = c.in-Some.place + 1 in
    cut_some (λ b. b == c.args.at) all c.in-Some.place 0 (sym c.in-Some.ensures)
    ∙ ap (λ more. take c.in-Some.place all ∷ slice_split (λ b. b == c.args.at) more) (sym (take_all (length all - n) (drop n all) (omega (arith, length-drop n all))))

pub returns-in-None-clause-parts : goal.returns-in-None-clause-parts
returns-in-None-clause-parts c = none_cut (λ b. b == c.args.at) c.args.bytes.now 0 (sym c.in-None.ensures)
