-- What is known of each end of a world stays known after a change of its ends: one lemma for each change that acts make.
use Rattle.std.proofs.Common.{◌≡◌, ℕ, Bool, true, false, cond, List, Option, Some, None, sym, ◌∙◌, subst}
use Rattle.std.specs.Prelude.{is_some, IfSome}
use Rattle.std.specs.Option.{option_map}
use Rattle.std.proofs.lemmas.Bool.{and_right}
use Rattle.zr_id.specs.Zid.{is_named}
use Rattle.zr_msg.specs.declared.event.Event.{Event}
use Rattle.zr_node_spec.specs.State.{NodeState}
use Rattle.zr_world_spec.specs.World.{EndState, End, Ends, is_end, end_of, with_end, put_end, queued, changed}
use Rattle.zr_world_spec.specs.Acts.{sends_to, all_queued}
use Rattle.zr_world_spec.proofs.Ends.{end_parts, with_end_is, put_end_is, changed_is, all_queued_is}

-- something holds of each end that is there
abbrev pub AtEnds : (EndState → Type 0) → Ends → Type 0
AtEnds P es = (e : End) → IfSome (end_of es e) P

-- the ends to two neighbours are two
pub other_end : (x y name d : List ℕ) → is_named name d ≡ false → is_end (x, name) (y, d) ≡ false
other_end x y name d k = end_parts (x, name) (y, d) ∙ and_right (is_named x y) (is_named name d) k

-- what holds of what was found
pub of_found : {X : Type 0} (P : X → Type 0) (o : Option X) (x : X) → o ≡ Some x → IfSome o P → P x
of_found P o x e h = subst (λ z. IfSome z P) e h

either : {X : Type 0} (P : X → Type 0) (b : Bool) (x y : Option X) → IfSome x P → IfSome y P → IfSome (cond b x y) P
either P true x y h k = h
either P false x y h k = k

mapped : {X : Type 0} (P : X → Type 0) (f : X → X) → ((x : X) → P x → P (f x)) → (o : Option X) → IfSome o P → IfSome (option_map f o) P
mapped P f step None h = tt
mapped P f step (Some x) h = step x h

module _ (P : EndState → Type 0) (es : Ends) (h : AtEnds P es) where
  pub with_end_all : (e : End) (s : EndState) → is_some (end_of es e) ≡ true → P s → AtEnds P (with_end es e s)
  with_end_all e s there p q = subst (λ o. IfSome o P) (sym (with_end_is es e s q there)) (either P (is_end e q) (Some s) (end_of es q) p (h q))

  pub put_end_all : (e : End) (s : EndState) → P s → AtEnds P (put_end es e s)
  put_end_all e s p q = subst (λ o. IfSome o P) (sym (put_end_is es e s q)) (either P (is_end e q) (Some s) (end_of es q) p (h q))

  pub changed_all : (e : End) (change : EndState → EndState) → ((s : EndState) → P s → P (change s)) → AtEnds P (changed es e change)
  changed_all e change step q =
      subst (λ o. IfSome o P) (sym (changed_is es e change q)) (either P (is_end e q) (option_map change (end_of es q)) (end_of es q) (mapped P change step (end_of es q) (h q)) (h q))

  pub all_queued_all : (x : List ℕ) (node : NodeState) (event : Event) (tag : ℕ) → ((y : List ℕ) (s : EndState) → P s → P (queued s (sends_to node event y) tag)) →
      AtEnds P (all_queued es x node event tag)
  all_queued_all x node event tag step q =
      subst (λ o. IfSome o P) (sym (all_queued_is es x node event tag q))
      (either P (is_named x q.0) (option_map (λ s. queued s (sends_to node event q.1) tag) (end_of es q)) (end_of es q)
      (mapped P (λ s. queued s (sends_to node event q.1) tag) (step q.1) (end_of es q) (h q)) (h q))
