-- A change or a snapshot of another router's log that is taken over.
use Rattle.std.proofs.Common.{◌≡◌, ℕ, ◌&&◌, Bool, true, false, cond, List, [], ◌∷◌, Option, Some, None, Result, Err, option_map, refl, sym, ap, subst}
use Rattle.std.specs.Result.{IsErrAnd}
use Rattle.zr_id.specs.declared.link.LinkNo.{LinkNo}
use Rattle.zr_log.specs.Known.{KnownState, IsRefusedAs, refusal}
use Rattle.zr_log.specs.declared.error.KnownError.{KnownError}
use Rattle.zr_log.specs.declared.error.KnownError.TheVariants as known
use Rattle.zr_log.specs.declared.known.Taken.{Taken}
use Rattle.zr_log.specs.declared.known.Taken.TheVariants.{New, Old}
use Rattle.zr_msg.specs.declared.error.NodeError.TheVariants as error
use Rattle.zr_msg.specs.declared.msg.Msg.{Msg}
use Rattle.zr_node_spec.specs.Tables.{leads_to_router, is_to_child}
use Rattle.zr_node_spec.specs.Early.{is_early}
use Rattle.zr_node_spec.specs.Event.{Tells}
use Rattle.zr_node_spec.specs.State.{NodeState, tables}
use Rattle.zr_node_spec.specs.Table.{with_known, known_error}
use Rattle.zr_node.specs.Answer.{known_failure}
use Rattle.zr_node.specs.Done.{Part, IsLeft, IsDone}
use Rattle.zr_node.specs.declared.failure.NodeFailure.{NodeFailure}
use Rattle.zr_node.specs.declared.failure.NodeFailure.TheVariants.{Refused}
use Rattle.zr_node.proofs.Done.{failed, nothing_sent}

-- ---- answers

pub new_is : (b : Bool) → New ≡ cond b New Old → b ≡ true
new_is true h = refl
new_is false h = cc

-- ---- the logs that it leaves, whether it is new, what goes on, and why it is refused

module _ (n : NodeState) (from : ℕ) (source : List ℕ) (logs : KnownState) (new : Bool) (msg : Msg) (why : Option KnownError) where
  abbrev by_role : Bool → Part
  by_role router =
      record {
        before = n;
        left = with_known n (cond router logs n.known);
        sends = λ to. cond (router && (new && is_to_child (tables n) source to)) (msg ∷ []) [];
        refused = cond router (option_map (λ x. known_error x) why) None;
      }

  abbrev pub news_part : Part
  news_part = by_role (leads_to_router n.links from)

  module _ (router : leads_to_router n.links from ≡ true) where
    -- it is taken over
    pub news_taken : (now : NodeState) (said all : List (LinkNo × Msg)) → why ≡ None → now ≡ with_known n logs → Tells news_part.sends said all → IsLeft news_part now said all
    news_taken now said all allowed e told =
        record {
          allowed = subst (λ (b : Bool). (by_role b).refused ≡ None) (sym router) (ap (option_map (λ x. known_error x)) allowed);
          state = subst (λ (b : Bool). now ≡ (by_role b).left) (sym router) e;
          sends = told;
        }

    -- it is refused, or memory ran out
    pub news_failed : (e : KnownError) (r : Result (Unit {0}) NodeFailure) (now : NodeState) (said : List (LinkNo × Msg)) → IsErrAnd r (λ f. f ≡ known_failure e) → IsRefusedAs {X = Unit {0}} why (Err e)
        → (e ≡ known.NoMemory → is_early news_part.refused ≡ false) → now ≡ n → IsDone news_part r now said said
    news_failed e r now said h j late same = by e h j late
      where
        refused : (x : KnownError) → why ≡ Some x → news_part.refused ≡ Some (known_error x)
        refused x j = subst (λ (b : Bool). (by_role b).refused ≡ Some (known_error x)) (sym router) (ap (option_map (λ y. known_error y)) j)

        by : (e : KnownError) → IsErrAnd r (λ f. f ≡ known_failure e) → IsRefusedAs {X = Unit {0}} why (Err e) → (e ≡ known.NoMemory → is_early news_part.refused ≡ false) → IsDone news_part r now said said
        by (known.Gap s has came) h j late = failed news_part (Refused (error.Gap s has came)) r now said said h (record { refused = refused (known.Gap s has came) j; state = same; sends = refl })
        by (known.TextLimit held more) h j late = failed news_part (Refused (error.TextLimit held more)) r now said said h (record { refused = refused (known.TextLimit held more) j; state = same; sends = refl })
        by known.Worn h j late = failed news_part (Refused error.Worn) r now said said h (record { refused = refused known.Worn j; state = same; sends = refl })
        by known.NoMemory h j late = nothing_sent news_part r now said h (late refl)

pub refused_as : (why : Option KnownError) (e : KnownError) → why ≡ refusal {X = Taken} (Err e) → IsRefusedAs {X = Unit {0}} why (Err e)
refused_as why (known.Gap s has came) j = j
refused_as why (known.TextLimit held more) j = j
refused_as why known.Worn j = j
refused_as why known.NoMemory j = tt

pub refused_again : (why : Option KnownError) (e : KnownError) → IsRefusedAs {X = Taken} why (Err e) → IsRefusedAs {X = Unit {0}} why (Err e)
refused_again why (known.Gap s has came) j = j
refused_again why (known.TextLimit held more) j = j
refused_again why known.Worn j = j
refused_again why known.NoMemory j = tt
