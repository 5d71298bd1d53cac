-- The order of declarations.
use Rattle.std.specs.Prelude.{ℕ}
use Rattle.std.specs.declared.cmp.Ordering.{Ordering}
use Rattle.std.specs.Ordering.{nat_cmp, on, then_cmp}
use Rattle.std.specs.Cmp.Lexicographic.{slice_cmp}
use Rattle.zr_msg.specs.declared.decl.Kind.{Kind}
use Rattle.zr_msg.specs.declared.decl.Kind.TheVariants.{Sub, Able, Full, Token}
use Rattle.zr_msg.specs.declared.decl.Decl.{Decl}

-- the place of a kind in the order of kinds
abbrev pub kind_rank : Kind → ℕ
kind_rank Sub = 0
kind_rank Able = 1
kind_rank Full = 2
kind_rank Token = 3

-- by kind, then by the key's bytes
abbrev pub decl_cmp : Decl → Decl → Ordering
decl_cmp = then_cmp (on (λ d. kind_rank d.kind) nat_cmp) (on (λ d. d.key) (slice_cmp nat_cmp))
