-- With rules the router was served; without them only that was told.
use Rattle.std.proofs.Common.{◌≡◌, ◌∙◌, ap, arith, inl, Ok, Err, refl}
use Rattle.zr_rules.specs.declared.rules.RulesError.TheVariants.{ReadFault}
use Rattle.zr_top.specs.Asked.{status_of_rules}
use Rattle.zr_top.proofs.Branches.{read_fault_kept}
use Rattle.zr_top.proofs.asked.serve.Goals as goal

pub returns-in-Ok-clause-served : goal.returns-in-Ok-clause-served
returns-in-Ok-clause-served g c = record { given = Ok c.in-Ok.policy; rules = c.in-Ok.ensures.rules; answers = c.serve_by.ensures.served }

pub returns-in-Err-clause-served : goal.returns-in-Err-clause-served
returns-in-Err-clause-served g c = record {
  given = Err c.in-Err.error;
  rules = c.in-Err.ensures.rules;
  answers = (refl, refl, refl, refl, (c.tell_refusal.result, c.status_of_rules.ensures.is, c.tell_refusal.ensures.tells));
}

-- where a read failed there are no rules, and the end says so
pub returns-in-Ok-clause-read_told : goal.returns-in-Ok-clause-read_told
returns-in-Ok-clause-read_told g c = λ rose.
    let none = c.in-Ok.ensures.only rose in
    absurd (cc)

pub returns-in-Err-clause-read_told : goal.returns-in-Err-clause-read_told
returns-in-Err-clause-read_told g c = λ rose.
    let told = c.in-Err.ensures.only rose in
    let is : c.in-Err.error ≡ ReadFault = cc in
    c.status_of_rules.ensures.is ∙ ap status_of_rules (read_fault_kept _ _ _ _ _ is c.tell_refusal.ensures.tells)

-- a write that failed is told as that, or behind a host that failed as that
pub returns-in-Ok-clause-write_told : goal.returns-in-Ok-clause-write_told
returns-in-Ok-clause-write_told g c = c.serve_by.ensures.write_told

pub returns-in-Err-clause-write_told : goal.returns-in-Err-clause-write_told
returns-in-Err-clause-write_told g c = (
  λ rose. absurd (omega (arith, rose)),
  λ rose. inl (c.status_of_rules.ensures.is ∙ ap status_of_rules (c.tell_refusal.ensures.only rose)),
)
