-- Sets of declarations, as lists in ascending order by kind and key, and what declarations weigh.
use Rattle.std.specs.Prelude.{ℕ, ◌+◌, Bool, List, [], length}
use Rattle.std.specs.List.{fold, sum_by}
use Rattle.std.specs.Ordering.{is_eq}
use Rattle.zr_msg.specs.Decl.{decl_cmp}
use Rattle.zr_msg.specs.declared.decl.Decl.{Decl}
use Rattle.zr_lists.specs.Ascending.{IsAscending, has_key, put, without}

-- two declarations are one: of one kind, on one key
abbrev pub is_decl : Decl → Decl → Bool
is_decl a b = is_eq (decl_cmp a b)

-- a set: its declarations ascend, each once
abbrev pub IsSet : List Decl → Type 0
IsSet ds = IsAscending decl_cmp (λ d. d) ds

-- whether a declaration is among these
abbrev pub has : List Decl → Decl → Bool
has ds d = has_key decl_cmp (λ d. d) ds d

-- a set with one declaration more, and with one less
abbrev pub with_decl : List Decl → Decl → List Decl
with_decl ds d = put decl_cmp (λ d. d) ds d

abbrev pub without_decl : List Decl → Decl → List Decl
without_decl ds d = without decl_cmp (λ d. d) ds d

-- the set of declarations that come in any order, some of them twice
abbrev pub set_of : List Decl → List Decl
set_of ds = fold with_decl [] ds

-- what one weighs beside its text
abbrev pub decl_overhead : ℕ
decl_overhead = 16

-- what one weighs, and what several weigh together
abbrev pub decl_weight : Decl → ℕ
decl_weight d = length d.key + decl_overhead

abbrev pub weight : List Decl → ℕ
weight ds = sum_by decl_weight ds

-- how much the declarations of all clients of one router weigh together at most, and the set of each router
abbrev pub most_weight : ℕ
most_weight = 4194304
