-- What a test on identifiers or on keys tells.
use Rattle.std.proofs.Common.{◌≡◌, ℕ, ◌≤◌, List, [], ◌∷◌, length, true, false, not, ◌&&◌, ◌==◌, refl, arith, inl, inr, nat_lt, nat_le}
use Rattle.std.specs.List.{list_all}
use Rattle.std.proofs.lemmas.Bool.{and_parts, leb-true, ltb-false, cases_Bool}
use Rattle.zr_id.specs.Zid.{is_zid}
use Rattle.zr_oam.specs.Oam.{is_canonical}

-- an identifier is short
pub zid_small : (id : List ℕ) → is_zid id ≡ true → length id ≤ 255
zid_small id named =
    let few = and_parts (nat_lt 0 (length id) && nat_le (length id) 16) (not (list_all (λ b. b == 0) id)) named in
    let le = (and_parts (nat_lt 0 (length id)) (nat_le (length id) 16) few.0).1 in
    omega (arith, leb-true (length id) 16 le)

-- a canonical text is short
pub key_small : (key : List ℕ) → is_canonical key ≡ true → length key ≤ 2048
key_small [] same = omega arith
key_small (b ∷ bs) same =
    elim (cases_Bool (nat_lt 2048 (length (b ∷ bs)))) [
      | inl long ↦ absurd (let e : is_canonical (b ∷ bs) ≡ false = rw long refl in cc)
      | inr short ↦ ltb-false 2048 (length (b ∷ bs)) short
    ]
