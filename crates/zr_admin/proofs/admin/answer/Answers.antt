use Rattle.std.proofs.Common.{◌≡◌, ◌∙◌, true, false, subst}
use Rattle.std.specs.Prelude.{MatchOption}
use Rattle.zr_port.specs.Coming.{sight}
use Rattle.zr_admin.specs.Asked.{asked}
use Rattle.zr_admin.specs.Hearing.{heard}
use Rattle.zr_admin.proofs.Stepping.{heard_so}
use Rattle.zr_admin.proofs.admin.answer.Goals as goal

pub returns-in-Some-clause-hears : goal.returns-in-Some-clause-hears
returns-in-Some-clause-hears g c =
    let h = heard c.args.hearing.now c.args.parcel.now in
    let told : (h.part ≡ false) × (c.in-Some.requests.items ≡ asked h.whole) =
    subst (λ o. MatchOption o (h.part ≡ true) (λ v. (h.part ≡ false) × (v.items ≡ asked h.whole))) c.in-Some.is c.in-Ok.ensures.requests in
    heard_so c.args.link (λ h m e. g.P.Port.refuses_message c.args.port.now h c.args.link m e) (λ h. g.P.Glancing.glance_of c.args.port.now h) c.args.id c.answer_all.result c.as_slice.result.now
    c.args.parcel.now c.args.hearing.now c.hear.new.hearing (sight c.args.pass.now) (sight c.answer_all.new.pass)
    told.0 (c.as_slice.ensures.value ∙ told.1) c.in-Ok.ensures.kept c.answer_all.ensures.answers
