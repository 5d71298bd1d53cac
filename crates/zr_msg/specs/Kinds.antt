-- In what an interest is (Zenoh protocol 1.0, "INTEREST").
use Rattle.std.specs.Prelude.{◌==◌, not, Bool, bit_and}
use Rattle.zr_msg.specs.declared.msg.Kinds.{Kinds}
use Rattle.zr_msg.specs.declared.msg.TheConstants.{SUBSCRIBERS, QUERYABLES, TOKENS}

-- it is in subscribers
abbrev pub in_subs : Kinds → Bool
in_subs kinds = not (bit_and kinds.0 SUBSCRIBERS == 0)

-- it is in queryables
abbrev pub in_ables : Kinds → Bool
in_ables kinds = not (bit_and kinds.0 QUERYABLES == 0)

-- it is in liveliness tokens
abbrev pub in_tokens : Kinds → Bool
in_tokens kinds = not (bit_and kinds.0 TOKENS == 0)
