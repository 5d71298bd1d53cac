-- What is told by rows in a row, and by rows that say nothing.
use Rattle.std.proofs.Common.{◌≡◌, ℕ, ◌∙◌, List, [], ◌++◌, append_assoc, sym, ap, subst}
use Rattle.std.proofs.lemmas.List.{append-nil}
use Rattle.zr_id.specs.declared.link.LinkNo.{LinkNo}
use Rattle.zr_msg.specs.declared.msg.Msg.{Msg}
use Rattle.zr_node_spec.specs.Event.{on_link, Tells, TellsPrefix}
use Rattle.zr_lists.specs.Prefix.{IsPrefixOf}
use Rattle.zr_node_spec.proofs.Told.{on_link-append}

-- all of it is a prefix
pub all_told : (rows : ℕ → List Msg) (before now : List (LinkNo × Msg)) → Tells rows before now → TellsPrefix rows before now
all_told rows before now h = record { sent = h.sent; appended = h.appended; each = λ to. ([], sym (h.each to) ∙ sym (append-nil (on_link to h.sent))) }

-- the same is told
pub retold : (a b : ℕ → List Msg) (before now : List (LinkNo × Msg)) → ((to : ℕ) → a to ≡ b to) → Tells a before now → Tells b before now
retold a b before now e h = record { sent = h.sent; appended = h.appended; each = λ to. h.each to ∙ e to.0 }

pub retold_prefix : (a b : ℕ → List Msg) (before now : List (LinkNo × Msg)) → ((to : ℕ) → a to ≡ b to) → TellsPrefix a before now → TellsPrefix b before now
retold_prefix a b before now e h = record { sent = h.sent; appended = h.appended; each = λ to. subst (λ ms. IsPrefixOf (on_link to h.sent) ms) (e to.0) (h.each to) }

-- what was told into a list of its own is told where that list is appended
pub told_behind : (rows : ℕ → List Msg) (told before now : List (LinkNo × Msg)) → Tells rows [] told → now ≡ before ++ told → Tells rows before now
told_behind rows told before now h e = record { sent = told; appended = e; each = λ to. ap (λ (xs : List (LinkNo × Msg)). on_link to xs) h.appended ∙ h.each to }

module _ (a b both : ℕ → List Msg) (before : List (LinkNo × Msg)) (e : (to : ℕ) → a to ++ b to ≡ both to) where
  -- one after the other
  pub told_both : (mid now : List (LinkNo × Msg)) → Tells a before mid → Tells b mid now → Tells both before now
  told_both mid now h k = record {
    sent = h.sent ++ k.sent;
    appended = k.appended ∙ ap (λ xs. xs ++ k.sent) h.appended ∙ append_assoc before h.sent k.sent;
    each = λ to. on_link-append to h.sent k.sent ∙ ap (λ ms. ms ++ on_link to k.sent) (h.each to) ∙ ap (λ ms. a to.0 ++ ms) (k.each to) ∙ e to.0;
  }

  -- where one stops in the first, a prefix of both was said
  pub prefix_first : (now : List (LinkNo × Msg)) → TellsPrefix a before now → TellsPrefix both before now
  prefix_first now h = record {
    sent = h.sent;
    appended = h.appended;
    each = λ to. ((h.each to).0 ++ b to.0, sym (e to.0) ∙ ap (λ ms. ms ++ b to.0) (h.each to).1 ∙ append_assoc (on_link to h.sent) (h.each to).0 (b to.0));
  }

  -- and where one stops in the second
  pub prefix_second : (mid now : List (LinkNo × Msg)) → Tells a before mid → TellsPrefix b mid now → TellsPrefix both before now
  prefix_second mid now h k = record {
    sent = h.sent ++ k.sent;
    appended = k.appended ∙ ap (λ xs. xs ++ k.sent) h.appended ∙ append_assoc before h.sent k.sent;
    each = λ to. (
      (k.each to).0,
      sym (e to.0) ∙ ap (λ ms. a to.0 ++ ms) (k.each to).1 ∙ sym (append_assoc (a to.0) (on_link to k.sent) (k.each to).0)
          ∙ ap (λ ms. ms ++ (k.each to).0) (ap (λ ms. ms ++ on_link to k.sent) (sym (h.each to)) ∙ sym (on_link-append to h.sent k.sent)),
    );
  }
