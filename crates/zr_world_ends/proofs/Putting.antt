-- What the calls that make and break links do, step by step.
use Rattle.std.proofs.Common.{◌≡◌, ℕ, Bool, true, false, cond, List, Option, Some, None, Result, Ok, Err, refl, sym, ap, ◌∙◌, subst}
use Rattle.std.specs.Prelude.{◌⊎◌, is_err, OnOk, OnErr}
use Rattle.std.proofs.lemmas.Bool.{true≢false, false≢true}
use Rattle.std.specs.Option.{option_map}
use Rattle.zr_id.specs.Zid.{is_named}
use Rattle.zr_msg.specs.declared.peer.Role.TheVariants.{Client, Router}
use Rattle.zr_carrier.specs.Wire.{Wire, Wires, AreSame, Closes, Opens}
use Rattle.zr_world_spec.specs.World.{Ends, is_end, end_of, changed, put_end, broken as broken_end, lifted as lifted_end, new_end as new_link}
use Rattle.zr_world_spec.proofs.Ends.{ends}
use Rattle.zr_world_ends.specs.Carried.{seen, seen_ends, IsAtWire, AreCarried, neighbour_role}
use Rattle.zr_world_ends.specs.Kept.{KeptEnd, KeptEnds, broken, lifted, new_end}
use Rattle.zr_world_ends.specs.Named.{at_end, change_at, put_at}
use Rattle.zr_world_ends.proofs.Linking.{cut, cut_off, carried_cut, seen_cut, carried_client, seen_client, carried_no_client, carried_link, seen_link, carried_no_link, put_cut_client, put_cut_link}
use Rattle.zr_world_ends.proofs.Same.{change_is}
use Rattle.zr_world_ends.proofs.Seen.{seen_at, sorted_seen}

pub on_either : {A E X Y P : Type 0} (r : Result A E) → OnOk r X → OnErr r Y → (X → P) → (Y → P) → P
on_either (Ok a) x y f g = f x
on_either (Err e) x y f g = g y

pub on_ok_with : {A E X Z : Type 0} (r : Result A E) → OnOk r X → (X → Z) → OnOk r Z
on_ok_with (Ok a) x f = f x
on_ok_with (Err e) x f = tt

pub sent_ok : {A E X P : Type 0} (r : Result A E) → OnOk r X → is_err r ≡ false → (X → P) → P
sent_ok (Ok a) x h f = f x
sent_ok (Err e) x h f = absurd (true≢false h)

pub sent_err : {A E X P : Type 0} (r : Result A E) → OnErr r X → is_err r ≡ true → (X → P) → P
sent_err (Ok a) x h f = absurd (false≢true h)
sent_err (Err e) x h f = f x

-- wires that are the same carry the same
pub carried_same : (ws ws' : Wires) (ks : KeptEnds) → AreSame ws ws' → AreCarried ws ks → AreCarried ws' ks
carried_same ws ws' ks same h = record {
  ordered = h.ordered;
  carried = λ x y k found. subst (λ (w : Option Wire). IsAtWire (neighbour_role ks (x, y)) k w) (sym (same y x)) (h.carried x y k found);
  paired = h.paired;
}

pub closed_none : (one other : List ℕ) (ws ws' : Wires) → Closes one other ws ws' → (ws' one other ≡ None) × (ws' other one ≡ None)
closed_none one other ws ws' closes = (
  closes one other ∙ by (is_end (other, one) (one, other)) ∙ ap (λ b. cond b None (ws one other)) (ends.refl (one, other)),
  closes other one ∙ ap (λ b. cond b None (cond (is_end (one, other) (other, one)) None (ws other one))) (ends.refl (other, one)),
)
  where
    by : (b : Bool) → cond b None (cond (is_end (one, other) (one, other)) None (ws one other)) ≡ cond (is_end (one, other) (one, other)) None (ws one other)
    by false = refl
    by true = sym (ap (λ b. cond b None (ws one other)) (ends.refl (one, other)))

module _ (one other : List ℕ) (ws0 ws1 : Wires) (ks0 ks1 : KeptEnds) (h : AreCarried ws0 ks0) (closes : Closes one other ws0 ws1) (is : ks1 ≡ cut one other ks0) where
  pub cut_carried : AreCarried ws1 ks1
  cut_carried = subst (λ (z : KeptEnds). AreCarried ws1 z) (sym is) (carried_cut one other ws0 ws1 ks0 h closes)

  pub cut_seen : seen_ends ws1 ks1 ≡ changed (changed (seen_ends ws0 ks0) (one, other) broken_end) (other, one) broken_end
  cut_seen = ap (λ (z : KeptEnds). seen_ends ws1 z) is ∙ seen_cut one other ws0 ws1 ks0 h closes

  -- ---- a client

  module _ (ws2 : Wires) (ks2 : KeptEnds) (n : KeptEnd) (opens : Opens one other Client ws1 ws2) (apart : is_named one other ≡ false)
      (none : end_of (seen_ends ws0 ks0) (other, one) ≡ None) (n_is : n ≡ lifted (new_end 1)) where
    none_kept : at_end ks1 (other, one) ≡ None
    none_kept = gone (at_end ks1 (other, one)) (sym (seen_at ws1 ks1 (other, one)) ∙ ap (λ z. end_of z (other, one)) cut_seen ∙ still)
      where
        gone : (o : Option KeptEnd) → option_map (λ k. seen k (ws1 one other)) o ≡ None → o ≡ None
        gone None e = refl
        gone (Some k) e = absurd (cc)

        es : Ends
        es = seen_ends ws0 ks0

        still : end_of (changed (changed es (one, other) broken_end) (other, one) broken_end) (other, one) ≡ None
        still =
            change_is (changed es (one, other) broken_end) (other, one) broken_end (other, one)
            ∙ ap (λ o. cond (is_end (other, one) (other, one)) (option_map broken_end o) o)
            (change_is es (one, other) broken_end (other, one) ∙ ap (λ o. cond (is_end (one, other) (other, one)) (option_map broken_end o) o) none ∙ no (is_end (one, other) (other, one)))
            ∙ no (is_end (other, one) (other, one))
          where
            no : (b : Bool) → cond b (option_map broken_end None) None ≡ None
            no true = refl
            no false = refl

    pub client_carried : {E : Type 0} (r : Result (Unit {0}) E) → OnOk r (ks2 ≡ put_at ks1 (one, other) n) → OnErr r (ks2 ≡ ks1) → AreCarried ws2 ks2
    client_carried r put err =
        on_either r put err
        (λ e. subst (λ (z : KeptEnds). AreCarried ws2 z) (sym (e ∙ ap (λ (k : KeptEnd). put_at ks1 (one, other) k) n_is)) (carried_client one other ws1 ws2 ks1 cut_carried opens apart none_kept))
        (λ e. subst (λ (z : KeptEnds). AreCarried ws2 z) (sym e)
        (carried_no_client one other ws1 ws2 ks1 cut_carried opens apart none_kept
        (λ q k b found. cut_off one other ks0 q k b (ap (λ (z : KeptEnds). at_end z q) (sym is) ∙ found))))

    pub client_seen : {E : Type 0} (r : Result (Unit {0}) E) → OnOk r (ks2 ≡ put_at ks1 (one, other) n) →
        OnOk r (seen_ends ws2 ks2 ≡ put_end (seen_ends ws0 ks0) (one, other) (lifted_end (new_link 1)))
    client_seen r put = on_ok_with r put (λ e.
        ap (λ (z : KeptEnds). seen_ends ws2 z) (e ∙ ap (λ (k : KeptEnd). put_at ks1 (one, other) k) n_is) ∙ seen_client one other ws1 ws2 ks1 cut_carried opens apart none_kept
        ∙ ap (λ (z : Ends). put_end z (one, other) (lifted_end (new_link 1))) cut_seen
        ∙ put_cut_client (seen_ends ws0 ks0) one other (lifted_end (new_link 1)) (sorted_seen ws0 ks0 h.ordered) none)

  -- ---- another router

  module _ (weight : ℕ) (ws2 : Wires) (ks2 : KeptEnds) (opens : Opens one other Router ws1 ws2) where
    pub link_carried : {E : Type 0} (r : Result (Unit {0}) E) → OnOk r (ks2 ≡ put_at (put_at ks1 (one, other) (new_end weight)) (other, one) (new_end weight)) →
        OnErr r ((ks2 ≡ ks1) ⊎ (ks2 ≡ change_at (put_at ks1 (one, other) (new_end weight)) (one, other) broken)) → AreCarried ws2 ks2
    link_carried r put err =
        on_either r put err (λ e. subst (λ (z : KeptEnds). AreCarried ws2 z) (sym e) (carried_link one other weight ws1 ws2 ks1 cut_carried opens))
        (λ e. carried_no_link one other weight ws1 ws2 ks1 cut_carried opens
        (λ q k b found. cut_off one other ks0 q k b (ap (λ (z : KeptEnds). at_end z q) (sym is) ∙ found)) ks2 e)

    pub link_seen : {E : Type 0} (r : Result (Unit {0}) E) → OnOk r (ks2 ≡ put_at (put_at ks1 (one, other) (new_end weight)) (other, one) (new_end weight)) →
        OnOk r (seen_ends ws2 ks2 ≡ put_end (put_end (seen_ends ws0 ks0) (one, other) (new_link weight)) (other, one) (new_link weight))
    link_seen r put = on_ok_with r put (λ e.
        ap (λ (z : KeptEnds). seen_ends ws2 z) e ∙ seen_link one other weight ws1 ws2 ks1 cut_carried opens
        ∙ ap (λ (z : Ends). put_end (put_end z (one, other) (new_link weight)) (other, one) (new_link weight)) cut_seen
        ∙ put_cut_link (seen_ends ws0 ks0) one other (new_link weight) (sorted_seen ws0 ks0 h.ordered))
