-- The messages of a client about what it declares.
use Rattle.std.specs.Prelude.{ℕ, true, false, List}
use Rattle.zr_msg.specs.declared.decl.Kind.{Kind}
use Rattle.zr_msg.specs.declared.decl.Kind.TheVariants as k
use Rattle.zr_msg.specs.declared.msg.Msg.{Msg}
use Rattle.zr_msg.specs.declared.msg.Msg.TheVariants.{Sub, Unsub, Token, Untoken, Able, Unable}

-- it declares something
abbrev pub declaration : Kind → ℕ → List ℕ → Msg
declaration k.Sub id key = Sub id key
declaration k.Able id key = Able id key false
declaration k.Full id key = Able id key true
declaration k.Token id key = Token id key

-- it takes something back
abbrev pub withdrawal : Kind → ℕ → Msg
withdrawal k.Sub id = Unsub id
withdrawal k.Able id = Unable id
withdrawal k.Full id = Unable id
withdrawal k.Token id = Untoken id
