-- The job is that of the next link, under the router's rules.
use Rattle.std.proofs.Common.{◌≡◌, ◌∙◌, [], ◌∷◌, ap, subst}
use Rattle.zr_access.specs.Rules.{PolicyState}
use Rattle.zr_link_job.specs.Starts.{Starts}
use Rattle.zr_link_job.specs.declared.job.LinkStart.{LinkStart}
use Rattle.zr_link_job.specs.declared.job.ServeJob.{ServeJob}
use Rattle.zr_link_job.specs.declared.job.ServeJob.TheVariants.{Link}
use Rattle.zr_outside_crew.specs.Crew.{crew_faults, crew_told}
use Rattle.zr_serve.specs.Jobs.{LinksState, NewLink, next_job, next_start}
use Rattle.zr_serve.specs.Links.{links_of}
use Rattle.zr_serve.proofs.service.start.Goals as goal

pub returns-in_default-clause-links : goal.returns-in_default-clause-links
returns-in_default-clause-links g c = c.next-begins.ensures.next c.args.serving.now.policy

pub returns-clause-links : goal.returns-clause-links
returns-clause-links g c = c.next-begins.ensures.next c.args.serving.now.policy

pub returns-clause-started : goal.returns-clause-started
returns-clause-started g c =
    let rules = c.args.serving.now.policy in
    let links : LinksState = links_of (λ w. g.H.Words.Rng.stream w) c.args.id.now rules c.args.links.now in
    let link : NewLink = record { side = c.args.side; weight = c.args.weight } in
    let begins = ap (λ (s : LinkStart). Link (record { start = s; policy = c.in-Ok.policy })) (c.next-begins.ensures.start rules) in
    let ruled = ap (λ (p : PolicyState). Link (record { start = next_start links link; policy = p })) c.in-Ok.ensures.policy in
    let is : Link (record { start = c.next-begins.result; policy = c.in-Ok.policy }) ≡ next_job links link = begins ∙ ruled in
    subst (λ (job : ServeJob). Starts (job ∷ []) (crew_told c.args.crew.now) (crew_told c.hand_over.new.crew) (crew_faults c.args.crew.now) (crew_faults c.hand_over.new.crew)) is c.hand_over.ensures.started
