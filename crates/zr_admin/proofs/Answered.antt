-- Answers have a spelling, and one final for each request.
use Rattle.std.proofs.Common.{◌≡◌, ◌+◌, Bool, true, false, List, [], ◌∷◌, cond, length, refl, length-append, arith}
use Rattle.std.specs.List.{AllByRecursion, flat_map}
use Rattle.zr_msg.specs.declared.msg.Msg.{Msg}
use Rattle.zr_msg.specs.declared.msg.Msg.TheVariants.{Final}
use Rattle.zr_msg.specs.Extras.{no_extras}
use Rattle.zr_wire.specs.Writing.{IsSpelled}
use Rattle.zr_lists.proofs.Each.{All-append}
use Rattle.zr_glance.specs.declared.space.Page.{Page}
use Rattle.zr_admin.specs.Answers.{all_answers, answers, count_replies, is_asked, replies, response}
use Rattle.zr_admin.specs.declared.asked.Asked.{Asked}

one_spelled : (r : Asked) (p : Page) (t : Bool) → AllByRecursion IsSpelled (cond t (response r p ∷ []) [])
one_spelled r p true = ((record { marks = refl; stamp = tt; responder = tt }, refl, refl), tt)
one_spelled r p false = tt

replies_spelled : (r : Asked) (pages : List Page) → AllByRecursion IsSpelled (replies pages r)
replies_spelled r [] = tt
replies_spelled r (p ∷ pages) = All-append IsSpelled (cond (is_asked r p) (response r p ∷ []) []) (replies pages r) (one_spelled r p (is_asked r p)) (replies_spelled r pages)

pub all_spelled : (pages : List Page) (requests : List Asked) → AllByRecursion IsSpelled (all_answers pages requests)
all_spelled pages [] = tt
all_spelled pages (r ∷ requests) =
    All-append IsSpelled (answers pages r) (all_answers pages requests)
    (All-append IsSpelled (replies pages r) (Final r.id no_extras ∷ []) (replies_spelled r pages) ((record { marks = refl; stamp = tt; responder = tt }, refl, refl, refl), tt))
    (all_spelled pages requests)

pub one_final_each : (pages : List Page) (requests : List Asked) → length (all_answers pages requests) ≡ count_replies pages requests + length requests
one_final_each pages [] = refl
one_final_each pages (r ∷ requests) =
    let ih : length (all_answers pages requests) ≡ count_replies pages requests + length requests = one_final_each pages requests in
    let here : length (all_answers pages (r ∷ requests)) ≡ length (answers pages r) + length (all_answers pages requests) = length-append (answers pages r) (all_answers pages requests) in
    let mine : length (answers pages r) ≡ length (replies pages r) + 1 = length-append (replies pages r) (Final r.id no_extras ∷ []) in
    let both : count_replies pages (r ∷ requests) ≡ length (replies pages r) + count_replies pages requests =
    length-append (replies pages r) (flat_map (λ q. replies pages q) requests) in
    omega (arith, here, mine, both, ih)
