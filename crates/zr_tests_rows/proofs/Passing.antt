-- What was read may be sent.
use Rattle.std.proofs.Common.{◌≡◌, ℕ, ◌+◌, ◌<◌, ◌≤◌, List, [], ◌∷◌, ◌++◌, length, Option, Ok, refl, sym, ap, subst, arith}
use Rattle.std.proofs.lemmas.List.{length-append}
use Rattle.zr_body.specs.declared.place.Place.{Place}
use Rattle.zr_body.specs.declared.place.Place.TheVariants as place
use Rattle.zr_body.specs.Body.{IsBodyIn}
use Rattle.zr_body.specs.Reading.{body_of}
use Rattle.zr_body.proofs.Bodies.{follows_body}
use Rattle.zr_msg.specs.declared.content.Parts.{Parts}
use Rattle.zr_msg.specs.declared.decl.Decl.{Decl}
use Rattle.zr_msg.specs.declared.msg.Msg.TheVariants as m
use Rattle.zr_msg.specs.declared.msg.Target.TheVariants.{All}
use Rattle.zr_msg.specs.declared.extras.Extras.{Extras}
use Rattle.zr_msg.specs.Extras.{no_extras}
use Rattle.zr_log_set.proofs.Decls.{set_none, set_with}
use Rattle.zr_law_sent.specs.Passing.{IsPassable, extras_length}
use Rattle.zr_net.specs.Writing as net
use Rattle.zr_tests_rows.specs.Sendable.{IsPlain}

-- a body that was read is one of its kind, and no longer than what it was read from
pub read_is_body : (at : Place) (bytes b rest : List ℕ) → body_of at bytes ≡ Ok (b, rest) → IsBodyIn at b
read_is_body at bytes b rest e =
    let begins = ((follows_body at).found bytes rest b e).0 in
    subst (IsBodyIn at) (sym begins.1.0) begins.1.1

pub read_is_short : (at : Place) (bytes b rest : List ℕ) → body_of at bytes ≡ Ok (b, rest) → length b ≤ length bytes
read_is_short at bytes b rest e =
    let begins = ((follows_body at).found bytes rest b e).0 in
    omega (arith, ap (λ (z : List ℕ). length z) begins.1.0, ap (λ (z : List ℕ). length z) begins.2, length-append begins.0 rest)

-- what is said of no extensions holds of a content without any
bare : (P : Extras → Type 0) (extras : Extras) → extras ≡ no_extras → P no_extras → P extras
bare P extras is h = subst P (sym is) h

-- a sample without extensions has a spelling
pub push_fits : (tree : Option (List ℕ)) (c : Parts) → c.extras ≡ no_extras → net.Fits (m.Push tree c)
push_fits tree c none =
    bare (λ x. net.Fits (m.Push tree (record { key = c.key; extras = x; body = c.body }))) c.extras none (record { marks = refl; stamp = tt; responder = tt }, refl, refl, refl)

-- a plain content may be passed on, by the kind of its body
pub push_passes : (tree : Option (List ℕ)) (c : Parts) → IsPlain place.Push c → IsPassable (m.Push tree c)
push_passes tree c h = (push_fits tree c h.extras, h.is_body, omega (arith, h.short, ap extras_length h.extras))

pub request_passes : (tree : Option (List ℕ)) (id : ℕ) (c : Parts) → IsPlain place.Request c → IsPassable (m.Request tree id All c)
request_passes tree id c h = (
  bare (λ x. net.Fits (m.Request tree id All (record { key = c.key; extras = x; body = c.body }))) c.extras h.extras (record { marks = refl; stamp = tt; responder = tt }, refl),
  h.is_body,
  omega (arith, h.short, ap extras_length h.extras),
)

pub response_passes : (id : ℕ) (c : Parts) → IsPlain place.Response c → IsPassable (m.Response id c)
response_passes id c h = (
  bare (λ x. net.Fits (m.Response id (record { key = c.key; extras = x; body = c.body }))) c.extras h.extras (record { marks = refl; stamp = tt; responder = tt }, refl, refl),
  h.is_body,
  omega (arith, h.short, ap extras_length h.extras),
)

pub final_passes : (id : ℕ) → IsPassable (m.Final id no_extras)
final_passes id = ((record { marks = refl; stamp = tt; responder = tt }, refl, refl, refl), omega arith)

-- one declaration is a set, and its key is short
pub snap_passes : (source : List ℕ) (number : ℕ) (d : Decl) → 0 < number → length d.key ≤ 2048 → IsPassable (m.Snap source number (d ∷ []))
snap_passes source number d above short = (above, set_with [] d set_none, omega (arith, short))
