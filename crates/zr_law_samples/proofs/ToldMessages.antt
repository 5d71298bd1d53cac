-- What a router's clients are told of others' declarations: such a message carries nothing and unsettles nothing.
use Rattle.std.proofs.Common.{◌≡◌, ℕ, Bool, true, false, cond, List, [], ◌∷◌, Option, Some, None, refl, sym, ap, ◌∙◌, subst}
use Rattle.std.specs.Prelude.{IfSome}
use Rattle.std.specs.List.{cons_option, list_all}
use Rattle.std.specs.Option.{option_map}
use Rattle.std.proofs.lemmas.Bool.{false≢true, and_parts}
use Rattle.zr_id.specs.Zid.{is_named}
use Rattle.zr_msg.specs.declared.event.Event.{Event}
use Rattle.zr_msg.specs.declared.msg.Msg.{Msg}
use Rattle.zr_msg.specs.declared.msg.Msg.TheVariants.{Sub, Unsub, Token, Untoken, Able, Unable, Interest, EndInterest, ToldSub, ToldAble, ToldUnsub, ToldToken, ToldUntoken, ToldUnable, ToldEnd, Push, Request, Response, Final, State, Step, Snap}
use Rattle.zr_world_spec.specs.World.{RouterState, EndState, Ends, end_of, queued, unsettles}
use Rattle.zr_world_spec.specs.Acts.{told_to, all_told}
use Rattle.zr_world_spec.proofs.Ends.{with_waiting, waiting_is}
use Rattle.zr_world_spec.proofs.Telling.{is_told}
use Rattle.zr_guarantee.specs.Sent.{carried_by}
use Rattle.zr_law_settled.proofs.Ends.{AtEnds}
use Rattle.zr_law_samples.proofs.Carried.{carried_in}

pub told_idle : (msg : Msg) → is_told msg ≡ true → (unsettles msg ≡ false) × (carried_by msg ≡ None)
told_idle (Sub id key) h = absurd (false≢true h)
told_idle (Unsub id) h = absurd (false≢true h)
told_idle (Token id key) h = absurd (false≢true h)
told_idle (Untoken id) h = absurd (false≢true h)
told_idle (Able id key complete) h = absurd (false≢true h)
told_idle (Unable id) h = absurd (false≢true h)
told_idle (Interest id current future kinds key aggregate) h = absurd (false≢true h)
told_idle (EndInterest id) h = absurd (false≢true h)
told_idle (ToldSub id key interest) h = (refl, refl)
told_idle (ToldToken id key interest) h = (refl, refl)
told_idle (ToldAble id key complete interest) h = (refl, refl)
told_idle (ToldUnsub id) h = (refl, refl)
told_idle (ToldUntoken id) h = (refl, refl)
told_idle (ToldUnable id) h = (refl, refl)
told_idle (ToldEnd interest) h = (refl, refl)
told_idle (Push tree content) h = absurd (false≢true h)
told_idle (Request tree id target content) h = absurd (false≢true h)
told_idle (Response id content) h = absurd (false≢true h)
told_idle (Final id extras) h = absurd (false≢true h)
told_idle (State links) h = absurd (false≢true h)
told_idle (Step source number added decl) h = absurd (false≢true h)
told_idle (Snap source number decls) h = absurd (false≢true h)

-- together they carry nothing
pub told_none : (ms : List Msg) → list_all is_told ms ≡ true → carried_in ms ≡ []
told_none [] h = refl
told_none (z ∷ ms) h =
    let parts = and_parts (is_told z) (list_all is_told ms) h in
    ap (λ o. cons_option o (carried_in ms)) (told_idle z parts.0).1 ∙ told_none ms parts.1

-- what holds at each end, and still does where its neighbour is told more, does so once all are told
pub told_all : (P : EndState → Type 0) (es : Ends) → AtEnds P es → (x : List ℕ) (r : RouterState) (event : Event) (tag : ℕ) →
    ((y : List ℕ) (s : EndState) → P s → P (queued s (told_to r event y) tag)) → AtEnds P (all_told es x r event tag)
told_all P es h x r event tag step q = subst (λ o. IfSome o P) (sym (waiting_is es x (told_to r event) tag q)) (by (is_named x q.0) (end_of es q) (h q))
  where
    by : (b : Bool) (o : Option EndState) → IfSome o P → IfSome (cond b (option_map (with_waiting es x (told_to r event) tag q.1) o) o) P
    by false o k = k
    by true None k = tt
    by true (Some s) k = step q.1 s k
