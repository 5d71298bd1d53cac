-- A list of what is told, where it is.
use Rattle.std.specs.Prelude.{◌<◌, List, [], ◌∷◌, ◌++◌, Option, Some, None, Vec, vec_len, vec_capacity}
use Rattle.std.specs.declared.alloc.Global.{Global}

module _ {T : Type 0} where
  abbrev pub items_of : Option (Vec T Global) → Option (List T)
  items_of None = None
  items_of (Some told) = Some told.items

  -- there is room for one more
  abbrev pub HasRoom : Option (Vec T Global) → Type 0
  HasRoom None = Unit {0}
  HasRoom (Some told) = vec_len told < vec_capacity told

  -- with one more, where there is a list
  abbrev pub with_last : T → Option (List T) → Option (List T)
  with_last told None = None
  with_last told (Some list) = Some (list ++ told ∷ [])
