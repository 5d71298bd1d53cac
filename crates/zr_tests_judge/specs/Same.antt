-- Whether two samples, queries or replies are one.
use Rattle.std.specs.Prelude.{ℕ, ◌==◌, ◌&&◌, nat_eq, Bool, true, false, List}
use Rattle.std.specs.Option.{option_eq}
use Rattle.std.specs.Cmp.Lexicographic.{pointwise}
use Rattle.zr_msg.specs.declared.content.Parts.{Parts}
use Rattle.zr_msg.specs.declared.extras.Extras.{Extras}
use Rattle.zr_msg.specs.declared.msg.Target.{Target}
use Rattle.zr_msg.specs.declared.msg.Target.TheVariants.{Best, All, Complete}
use Rattle.zr_guarantee.specs.Item.{Item, Carried, Sample, Query, Reply}

-- whether two lists of bytes are one
abbrev pub is_same_bytes : List ℕ → List ℕ → Bool
is_same_bytes x y = pointwise nat_eq x y

-- whether two messages have the same extensions
abbrev pub is_same_extras : Extras → Extras → Bool
is_same_extras x y =
    option_eq nat_eq x.qos y.qos
    && (option_eq is_same_bytes x.stamp y.stamp
    && (option_eq nat_eq x.budget y.budget
    && (option_eq nat_eq x.timeout y.timeout && (option_eq is_same_bytes x.responder y.responder && x.marks == y.marks))))

-- whether two contents are one
abbrev pub is_same_content : Parts → Parts → Bool
is_same_content x y = is_same_bytes x.key y.key && (is_same_extras x.extras y.extras && is_same_bytes x.body y.body)

-- whether two targets are one
abbrev pub is_same_target : Target → Target → Bool
is_same_target Best Best = true
is_same_target Best All = false
is_same_target Best Complete = false
is_same_target All Best = false
is_same_target All All = true
is_same_target All Complete = false
is_same_target Complete Best = false
is_same_target Complete All = false
is_same_target Complete Complete = true

-- whether two samples or queries are one
abbrev pub is_same_carried : Carried → Carried → Bool
is_same_carried (Sample x) (Sample y) = is_same_content x y
is_same_carried (Sample x) (Query target y) = false
is_same_carried (Query target x) (Sample y) = false
is_same_carried (Query target x) (Query other y) = is_same_target target other && is_same_content x y

-- whether two items are one
abbrev pub is_same : Item → Item → Bool
is_same x y = x.line == y.line && is_same_carried x.carried y.carried

-- whether two replies are one
abbrev pub is_same_reply : Reply → Reply → Bool
is_same_reply x y = x.line == y.line && (x.number == y.number && is_same_content x.content y.content)

-- whether two keys with their bodies are one
abbrev pub is_same_key_body : List ℕ × List ℕ → List ℕ × List ℕ → Bool
is_same_key_body x y = is_same_bytes x.0 y.0 && is_same_bytes x.1 y.1
