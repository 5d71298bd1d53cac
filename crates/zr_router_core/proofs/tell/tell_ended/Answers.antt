use Rattle.std.proofs.Common.{◌≡◌, ◌++◌, List, Err, ap, sym, subst, ◌∙◌}
use Rattle.std.proofs.lemmas.Bool.{false≢true}
use Rattle.zr_local.specs.Clients.{interests_on}
use Rattle.zr_local.specs.State.{LocalState}
use Rattle.zr_local.specs.declared.interest.ClientInterests.{ClientInterests}
use Rattle.zr_local.specs.declared.interest.Interest.{Interest}
use Rattle.zr_lists.specs.Prefix.{IsPrefixBehind}
use Rattle.zr_told_spec.specs.Rows.{lacks_ids, map_on, others, sent_on, tells_changes}
use Rattle.zr_told.specs.declared.error.ToldError.{ToldError}
use Rattle.zr_router_core.proofs.Telling.{lasts_on}
use Rattle.zr_router_core.proofs.tell.tell_ended.Goals as goal

pub unreachable-requires : goal.unreachable-requires
unreachable-requires c =
    let e : c.interests_on-interests.result.now ≡ interests_on c.args.tables.now.clients c.args.link.0 =
    c.interests_on-interests.ensures ∙ ap (λ (cs : List ClientInterests). interests_on cs c.args.link.0) (c.clients.ensures.value ∙ ap (λ (l : LocalState). l.clients) c.local.ensures) in
    false≢true
    (sym (lasts_on c.args.tables.now c.args.link.0 c.args.tables.now.clients c.requires)
    ∙ ap (λ (is : List Interest). lacks_ids (others c.args.tables.now c.args.link.0) is) (sym e)
    ∙ c.in-Err-Worn.ensures.worn (ap (λ (x : ToldError). Err x) c.in-Err-Worn.field-0-is))

pub returns-in-Ok-clause-sends : goal.returns-in-Ok-clause-sends
returns-in-Ok-clause-sends c =
    let e : c.interests_on-interests.result.now ≡ interests_on c.args.tables.now.clients c.args.link.0 =
    c.interests_on-interests.ensures ∙ ap (λ (cs : List ClientInterests). interests_on cs c.args.link.0) (c.clients.ensures.value ∙ ap (λ (l : LocalState). l.clients) c.local.ensures) in
    c.in-Ok.ensures.out ∙ ap (λ (is : List Interest). c.args.out.now.items ++ sent_on c.args.link (tells_changes (others c.args.tables.now c.args.link.0) is (map_on c.args.told.now c.args.link.0))) e

pub returns-in-Err-NoMemory-clause-prefix : goal.returns-in-Err-NoMemory-clause-prefix
returns-in-Err-NoMemory-clause-prefix c =
    let e : c.interests_on-interests.result.now ≡ interests_on c.args.tables.now.clients c.args.link.0 =
    c.interests_on-interests.ensures ∙ ap (λ (cs : List ClientInterests). interests_on cs c.args.link.0) (c.clients.ensures.value ∙ ap (λ (l : LocalState). l.clients) c.local.ensures) in
    subst (λ (is : List Interest). IsPrefixBehind c.args.out.now.items (sent_on c.args.link (tells_changes (others c.args.tables.now c.args.link.0) is (map_on c.args.told.now c.args.link.0))) c.changed.new.out.items) e c.in-Err-NoMemory.ensures.err
