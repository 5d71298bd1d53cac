use Rattle.std.proofs.Common.{◌≡◌, ◌+◌, ◌<◌, [], ◌∷◌, ◌++◌, ℕ, List, length, drop, get_or, subst, ◌∙◌, arith}
use Rattle.std.proofs.lemmas.List.{at_drop_more}
use Rattle.std.proofs.lemmas.Result.{err_from_is_err_and}
use Rattle.zr_id.specs.declared.link.LinkNo.{LinkNo}
use Rattle.zr_msg.specs.declared.content.Parts.{Parts}
use Rattle.zr_msg.specs.declared.msg.Msg.{Msg}
use Rattle.zr_msg.specs.declared.msg.Target.{Target}
use Rattle.zr_push.specs.declared.route.RouteLink.{RouteLink}
use Rattle.zr_lists.proofs.Prefixes.{IsSoFar, so_far_one, so_far_prefix}
use Rattle.zr_query.specs.Asking.{each_asked, request_for}
use Rattle.zr_query.proofs.asking.ask_each.Goals as goal

pub returns-in_err-ask_at-clause-err : goal.returns-in_err-ask_at-clause-err
returns-in_err-ask_at-clause-err c =
    let p = err_from_is_err_and c.from_residual.result c.from_residual.ensures.1 in
    rw (p.1, c.in_err-ask_at.ensures.err) (so_far_prefix _ _ _ _ c.loop-i.invariant)

-- one more stop was asked
asked_more : (tree : List ℕ) (target : Target) (content : Parts) (stops : List RouteLink) (numbers : List ℕ) (i : ℕ) (d : RouteLink) (e : ℕ) (before now next : List (LinkNo × Msg))
    → i < length stops → length numbers ≡ length stops → next ≡ now ++ request_for tree target content (get_or stops i d) (get_or numbers i e) ∷ []
    → IsSoFar before (each_asked tree target content stops numbers) now (each_asked tree target content (drop i stops) (drop i numbers))
    → IsSoFar before (each_asked tree target content stops numbers) next (each_asked tree target content (drop (i + 1) stops) (drop (i + 1) numbers))
asked_more tree target content stops numbers i d e before now next less same said h =
    let stop : RouteLink = get_or stops i d in
    let number : ℕ = get_or numbers i e in
    let rest : List (LinkNo × Msg) = each_asked tree target content (drop (i + 1) stops) (drop (i + 1) numbers) in
    let one : each_asked tree target content (drop i stops) (drop i numbers) ≡ request_for tree target content stop number ∷ rest =
    at_drop_more (λ ss. each_asked tree target content ss (drop i numbers)) stops i d less
    ∙ at_drop_more (λ ns. each_asked tree target content (stop ∷ drop (i + 1) stops) ns) numbers i e (omega arith) in
    so_far_one before (each_asked tree target content stops numbers) now next (request_for tree target content stop number) rest
    (subst (λ ms. IsSoFar before (each_asked tree target content stops numbers) now ms) one h) said

pub loop-i-preserved : goal.loop-i-preserved
loop-i-preserved c =
    asked_more c.args.tree c.args.target c.args.content.now c.args.stops.now c.args.numbers.now c.loop-i.i _ _ c.args.out.now.items c.loop-i.out.items c.ask_at.new.out.items (omega arith) c.requires
    c.in_ok-ask_at.ensures.ok c.loop-i.invariant
