use Rattle.std.proofs.Common.{◌≡◌, ◌∷◌, [], ◌||◌, ◌&&◌, ◌+◌, Bool, true, false, refl, sym, ap, ◌∙◌, get_or, arith, length}
use Rattle.std.specs.List.{list_any}
use Rattle.std.specs.Option.{option_copied, option_map_or}
use Rattle.std.specs.Map.{keys_of}
use Rattle.std.proofs.lemmas.Bool.{not-true}
use Rattle.std.proofs.lemmas.Result.{on_ok_weaker}
use Rattle.std.proofs.lemmas.Map.Keys.{IsDistinct-from_sorted}
use Rattle.std.proofs.Math.Bool.{or-false, or_assoc}
use Rattle.zr_lists.specs.Cut.{parts}
use Rattle.zr_key.specs.Key.{chunk_of}
use Rattle.zr_match.proofs.ChunkSteps.{room_at, room_more}
use Rattle.zr_index.specs.declared.node.Node.TheViews.{out-Node}
use Rattle.zr_index.specs.Pairs.{pairs}
use Rattle.zr_index.specs.Walk.{is_among, is_met, finds, finds_plain, finds_wild, finds_in, finds_sought}
use Rattle.zr_index.proofs.Found.{none_found, last_mark, finds_level}
use Rattle.zr_index.proofs.Sought.{sought_is_plain, total_by}
use Rattle.zr_index.proofs.node.Node.+gathering.Goals.{gather-then-meets+in_ok-put_all, gather-else-meets, gather-then-seeks_plain+in_ok-gather_sought, gather-else-seeks_plain+in_ok-gather_plain, gather_sought-then-is_marked+in_ok-gather_at, gather_sought-else-is_marked}
use Rattle.zr_index.proofs.node.Node.+gathering.Goals as goal

or_join : (o h p w : Bool) → (((o || h) || p) || w) ≡ (o || (h || (p || w)))
or_join true h p w = refl
or_join false true p w = refl
or_join false false p w = refl

pub gather-returns-then-is_blank : goal.gather-returns-then-is_blank
gather-returns-then-is_blank g t c above row v =
    let none = none_found g.V.Ord.cmp above c.args.row.now.marks.items c.args.key.now row (not-true (list_any (λ m. m) c.args.row.now.marks.items) (sym c.if-is_blank.ensures)) (pairs c.args.self.now) v in
    sym (ap (λ b. is_among g.V.Ord.cmp c.args.out.now.items v || b) none ∙ or-false (is_among g.V.Ord.cmp c.args.out.now.items v))

pub gather-returns : goal.gather-returns
gather-returns g t c = on_ok_weaker c.gather_wild.result (λ last above row v.
    let cmp = g.V.Ord.cmp in
    let key = c.args.key.now in
    let o : Bool = is_among cmp c.args.out.now.items v in
    let m : Bool = is_met above key [] in
    let h : Bool = is_among cmp (out-Node g.row.V.Denot c.args.self.now).values.items v in
    let mark : m ≡ get_or c.args.row.now.marks.items c.args.row.now.last false = sym (ap (λ n. get_or c.args.row.now.marks.items n false) c.requires.last ∙ last_mark above c.args.row.now.marks.items key row) in
    let a : is_among cmp c.if-meets.out.items v ≡ (o || (m && h)) = elim c.if-meets.branch [
      | gather-then-meets+in_ok-put_all w ↦
          let out-is = w.out-is in
          let put = w.in_ok-put_all.ensures v in
          let values = w.deref.ensures.value in
          let met : m ≡ true = mark ∙ sym w.if-meets.ensures in
          let both : (m && h) ≡ h = ap (λ b. b && h) met in
          cc
      | gather-else-meets w ↦
          let out-is = w.out-is in
          let met : m ≡ false = mark ∙ sym w.if-meets.ensures in
          let both : (m && h) ≡ false = ap (λ b. b && h) met in
          let none : (o || false) ≡ o = or-false o in
          cc
    ] in
    let p : Bool = finds_plain cmp above key c.args.self.now v in
    let b : is_among cmp c.if-seeks_plain.out.items v ≡ (is_among cmp c.if-meets.out.items v || p) = elim c.if-seeks_plain.branch [
      | gather-then-seeks_plain+in_ok-gather_sought w ↦
          let out-is = w.out-is in
          let found = w.in_ok-gather_sought.ensures above row v in
          cc
      | gather-else-seeks_plain+in_ok-gather_plain w ↦
          let out-is = w.out-is in
          let found = w.in_ok-gather_plain.ensures above row v in
          cc
    ] in
    let w : Bool = finds_wild cmp above key c.args.self.now v in
    last above row v ∙ ap (λ z. z || w) (b ∙ ap (λ z. z || p) a) ∙ or_join o (m && h) p w ∙ sym (ap (λ z. o || z) (finds_level cmp above key c.args.self.now v))) c.gather_wild.ensures

pub gather_at-returns-in_ok-next-in-Some : goal.gather_at-returns-in_ok-next-in-Some
gather_at-returns-in_ok-next-in-Some g t c = on_ok_weaker c.gather.result (λ h above row v.
    let key = c.args.key.now in
    let chunk = c.args.chunk.now in
    h (chunk_of chunk ∷ above) (c.in_ok-next-in-Some.ensures.is above row) v
    ∙ ap (λ r. is_among g.V.Ord.cmp c.args.out.now.items v || option_map_or (λ child. finds g.V.Ord.cmp (chunk_of chunk ∷ above) key (pairs child) v) r false) c.in-Some.ensures.value) c.gather.ensures

pub gather_sought-loop-rest-preserved : goal.gather_sought-loop-rest-preserved
gather_sought-loop-rest-preserved g t c =
    let i = c.loop-rest.invariant in
    let had = room_at c.loop-rest.rest c.in-Some.text c.in-Some.is in
    let has = room_more c.cut.result.1 (length c.in-Some.text.now) c.cut.ensures.shorter in
    record {
      room = omega arith;
      is = λ above row v.
          let cmp = g.V.Ord.cmp in
          let key = c.args.key.now in
          let es = (out-Node g.row.V.Denot c.args.self.now).plain.entries in
          let marks = c.args.row.now.marks.items in
          let at = c.loop-rest.at in
          let o : Bool = is_among cmp c.loop-rest.out.items v in
          let m : Bool = get_or marks at false in
          let f : Bool = finds_in (λ k. k.items) cmp above key es c.cut.result.0.now v in
          let n : is_among cmp c.if-is_marked.out.items v ≡ (o || (m && f)) = elim c.if-is_marked.branch [
            | gather_sought-then-is_marked+in_ok-gather_at w ↦
                let out-is = w.out-is in
                let found = w.in_ok-gather_at.ensures above row v in
                let marked : m ≡ true = sym w.if-is_marked.ensures in
                let both : (m && f) ≡ f = ap (λ b. b && f) marked in
                cc
            | gather_sought-else-is_marked w ↦
                let out-is = w.out-is in
                let marked : m ≡ false = sym w.if-is_marked.ensures in
                let both : (m && f) ≡ false = ap (λ b. b && f) marked in
                let none : (o || false) ≡ o = or-false o in
                cc
          ] in
          let s : Bool = finds_sought (λ k. k.items) cmp above key es marks (at + 1) (parts 47 (option_copied c.cut.result.1)) v in
          let left = ap (λ r. parts 47 (option_copied r)) c.in-Some.is ∙ c.cut.ensures.parts in
          ap (λ z. z || s) n ∙ or_assoc o (m && f) s ∙ ap (λ ys. o || finds_sought (λ k. k.items) cmp above key es marks at ys v) (sym left) ∙ i.is above row v;
    }

pub gather_sought-returns : goal.gather_sought-returns
gather_sought-returns g t c above row v =
    let cmp = g.V.Ord.cmp in
    let key = c.args.key.now in
    let es = (out-Node g.row.V.Denot c.args.self.now).plain.entries in
    let marks = c.args.row.now.marks.items in
    let o : Bool = is_among cmp c.loop-rest.out.items v in
    let distinct = IsDistinct-from_sorted _ (keys_of es) c.len-ascends.ensures.ordered in
    sym (or-false o) ∙ ap (λ r. o || finds_sought (λ k. k.items) cmp above key es marks c.loop-rest.at (parts 47 (option_copied r)) v) (sym c.in_default.is)
    ∙ c.loop-rest.invariant.is above row v
    ∙ ap (λ z. is_among cmp c.args.out.now.items v || z) (sought_is_plain (λ k. k.items) cmp above key es marks v distinct (total_by (λ k. k.items)) row c.requires.sought)
