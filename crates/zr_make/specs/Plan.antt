-- Which scripts can be made.
use Rattle.std.specs.Prelude.{ℕ, ◌==◌, nat_le, nat_lt, ◌&&◌, ◌||◌, Bool}

-- whether so many routers, clients and samples make a script: 1 to 64 routers, at most 1,024 clients and 2,000 samples, and none without a client
abbrev pub is_in_range : ℕ → ℕ → ℕ → Bool
is_in_range routers clients messages =
    nat_le 1 routers && (nat_le routers 64 && (nat_le clients 1024 && (nat_le messages 2000 && (nat_lt 0 clients || (messages == 0)))))
