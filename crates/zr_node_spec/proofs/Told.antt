-- What is appended, link by link: one message for each link that a test picks is one message on each such link.
use Rattle.std.proofs.Common.{◌≡◌, ℕ, ◌==◌, Bool, true, false, cond, List, [], ◌∷◌, ◌++◌, Option, Some, None, map, filter, refl, sym, ap, ◌∙◌}
use Rattle.std.specs.Option.{option_map_or}
use Rattle.std.proofs.lemmas.Bool.{eqb-true}
use Rattle.std.proofs.lemmas.List.{map-append}
use Rattle.std.proofs.lemmas.List.Elements.{filter-append}
use Rattle.zr_id.specs.declared.link.LinkNo.{LinkNo}
use Rattle.zr_msg.specs.declared.msg.Msg.{Msg}
use Rattle.zr_node_spec.specs.Event.{on_link, Tells, TellsPrefix}
use Rattle.zr_lists.specs.Prefix.{IsPrefixBehind}
use Rattle.zr_node_spec.specs.Tables.{link_at}
use Rattle.zr_msg.specs.declared.peer.LinkPeer.{LinkPeer}
use Rattle.zr_node_spec.proofs.Links.{AreAscending, none_behind, ascending_behind}

pub on_link-append : (to : LinkNo) (a b : List (LinkNo × Msg)) → on_link to (a ++ b) ≡ on_link to a ++ on_link to b
on_link-append to a b =
    ap (λ (xs : List (LinkNo × Msg)). map (λ x. x.1) xs) (filter-append (λ (x : LinkNo × Msg). x.0.0 == to.0) a b)
    ∙ map-append (λ (x : LinkNo × Msg). x.1) (filter (λ x. x.0.0 == to.0) a) (filter (λ x. x.0.0 == to.0) b)

-- what was appended as a list tells what is on each link of it
pub tells_list : (rows : ℕ → List Msg) (before said now : List (LinkNo × Msg)) → ((to : LinkNo) → on_link to said ≡ rows to.0) → now ≡ before ++ said → Tells rows before now
tells_list rows before said now each e = record { sent = said; appended = e; each = each }

pub tells_prefix : (rows : ℕ → List Msg) (before said now : List (LinkNo × Msg)) → ((to : LinkNo) → on_link to said ≡ rows to.0) → IsPrefixBehind before said now
    → TellsPrefix rows before now
tells_prefix rows before said now each h = record {
  sent = h.0;
  appended = h.2;
  each = λ to. (on_link to h.1.0, sym (each to) ∙ ap (λ (xs : List (LinkNo × Msg)). on_link to xs) h.1.1 ∙ on_link-append to h.0 h.1.0);
}

-- a message for each link that the test picks
abbrev pub to_picked : (LinkPeer → Bool) → Msg → List LinkPeer → List (LinkNo × Msg)
to_picked test msg links = map (λ l. (l.link, msg)) (filter test links)

pub on_picked : (test : LinkPeer → Bool) (msg : Msg) (links : List LinkPeer) → AreAscending links → (to : LinkNo)
    → on_link to (to_picked test msg links) ≡ cond (option_map_or test (link_at links to.0) false) (msg ∷ []) []
on_picked test msg [] up to = refl
on_picked test msg (l ∷ links) up to =
    by (test l) (l.link.0 == to.0) refl refl (on_picked test msg links (ascending_behind l links up) to)
  where
    by : (t b : Bool) → test l ≡ t → (l.link.0 == to.0) ≡ b → on_link to (to_picked test msg links) ≡ cond (option_map_or test (link_at links to.0) false) (msg ∷ []) []
        → on_link to (map (λ k. (k.link, msg)) (cond t (l ∷ filter test links) (filter test links)))
        ≡ cond (option_map_or test (cond b (Some l) (link_at links to.0)) false) (msg ∷ []) []
    by t true p e ih = last t p (ih ∙ ap (λ (o : Option LinkPeer). cond (option_map_or test o false) (msg ∷ []) []) none)
      where
        none : link_at links to.0 ≡ None
        none = ap (λ n. link_at links n) (sym (eqb-true l.link.0 to.0 e)) ∙ none_behind l links up

        last : (t : Bool) → test l ≡ t → on_link to (to_picked test msg links) ≡ []
            → on_link to (map (λ k. (k.link, msg)) (cond t (l ∷ filter test links) (filter test links))) ≡ cond (test l) (msg ∷ []) []
        last true p h = rw (p, e) (ap (λ ms. msg ∷ ms) h)
        last false p h = rw p h
    by true false p e ih = rw e ih
    by false false p e ih = ih
