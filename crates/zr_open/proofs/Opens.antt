-- Both ends open.
use Rattle.std.proofs.Common.{◌≡◌, ap, refl, sym, ℕ, ◌+◌, ◌*◌, ◌%◌, ◌<◌, ◌≤◌, ◌==◌, Bool, true, false, cond, ◌&&◌, List, [], ◌∷◌, Option, Some, None, nat_lt, nat_eq, mod-lt, arith}
use Rattle.std.proofs.lemmas.Bool.Decides.{nat_tests}
use Rattle.std.specs.Cmp.Lexicographic.{pointwise}
use Rattle.zr_trans.specs.declared.trans.Sizes.{Sizes}
use Rattle.zr_trans.specs.declared.trans.Trans.TheVariants.{Open}
use Rattle.zr_msg.specs.declared.peer.Role.TheVariants.{Client, Router}
use Rattle.zr_frame.specs.Turn.{modulus_of}
use Rattle.zr_open.specs.declared.expected.Expected.TheVariants as expects
use Rattle.zr_open.specs.Opening.{OpeningState}
use Rattle.zr_open.specs.Cookie.{cookie_of}
use Rattle.zr_open.specs.Sizes.{frame_bits, usual, offered, agreed, told}
use Rattle.zr_open.specs.Table.{init_answer, outbox_of, milliseconds}
use Rattle.zr_open.specs.Laws.{RoutersOpen, ClientOpens}

pub same_bytes : (bytes : List ℕ) → pointwise nat_eq bytes bytes ≡ true
same_bytes [] = refl
same_bytes (b ∷ bytes) =
    let head : nat_eq b b ≡ true = grind (arith, nat_tests) in
    rw (head, same_bytes bytes) refl

-- a word within the modulus of 32 bits
pub word_below : (word : ℕ) → nat_lt (word % modulus_of 2) (modulus_of 2) ≡ true
word_below word = let below : word % modulus_of 2 < modulus_of 2 = mod-lt word (omega arith) in grind (arith, nat_tests, below)

pub routers_open : (a d : OpeningState) → RoutersOpen a d
routers_open a d = record {
  init_answer = init_answer a (record { id = d.me; role = Router; weight = a.weight }) usual;
  opening = Open false true 10 (d.word % modulus_of 2) (Some (cookie_of a d.me));
  opening_answer = Open true true 10 (a.word % modulus_of 2) None;
  wants_opening = expects.Open (record { id = d.me; role = Router; weight = a.weight }) (outbox_of a Router usual);
  wants_answer = expects.OpenAnswer (record { id = a.me; role = Router; weight = d.weight }) (outbox_of d Router usual);
  accepted = record {
    peer = record { id = d.me; role = Router; weight = a.weight };
    outbox = outbox_of a Router usual;
    first = d.word % modulus_of 2;
    lease = 10000;
    answer = Some (Open true true 10 (a.word % modulus_of 2) None);
  };
  dialled = record {
    peer = record { id = a.me; role = Router; weight = d.weight };
    outbox = outbox_of d Router usual;
    first = a.word % modulus_of 2;
    lease = 10000;
    answer = None;
  };
  on_init = refl;
  on_init_answer = refl;
  on_opening = rw (same_bytes (cookie_of a d.me), word_below d.word) refl;
  answers = refl;
  on_opening_answer = rw (word_below a.word) refl;
  accepts = refl;
  dials = refl;
  batch = refl;
  bits = refl;
  from_dialling = refl;
  from_accepting = refl;
}

-- what is told is read as what was meant
told_again : (s : Sizes) → offered (told s) ≡ s
told_again s = by (s.bits == 2 + 4 * 2) (s.batch == 65535) refl refl
  where
    by : (a b : Bool) → (s.bits == 2 + 4 * 2) ≡ a → (s.batch == 65535) ≡ b → offered (cond (a && b) None (Some s)) ≡ s
    by true true e f =
        let bits : 2 + 4 * 2 ≡ s.bits = grind (arith, nat_tests, e) in
        let batch : 65535 ≡ s.batch = grind (arith, nat_tests, f) in
        λ i. record { bits = bits i; batch = batch i }
    by true false e f = refl
    by false b e f = refl

pub client_opens : (o : OpeningState) (id : List ℕ) (sizes : Option Sizes) → 64 ≤ (agreed (offered sizes)).batch → ClientOpens o id sizes
client_opens o id sizes large = record {
  wants_opening = expects.Open (record { id = id; role = Client; weight = 1 }) (outbox_of o Client s);
  told = told s;
  cookie = Some (cookie_of o id);
  on_init = rw enough refl;
  tells = told_again s;
  on_opening = λ seconds lease first some below.
      let lasts : nat_lt 0 lease ≡ true = grind (arith, nat_tests, some) in
      let in_range : nat_lt first (modulus_of (frame_bits s)) ≡ true =
      let b : first < modulus_of (frame_bits s) = rw (told_again s) at below in grind (arith, nat_tests, b) in (
        record {
          peer = record { id = id; role = Client; weight = 1 };
          outbox = outbox_of o Client s;
          first = first;
          lease = milliseconds seconds lease;
          answer = Some (Open true true 10 (outbox_of o Client s).next None);
        },
        rw (same_bytes (cookie_of o id), lasts, in_range) refl,
        refl,
        refl,
        refl,
        ap (λ (z : Sizes). z.batch) (sym (told_again s)),
        ap (λ (z : Sizes). frame_bits z) (sym (told_again s)),
      );
}
  where
    s : Sizes
    s = agreed (offered sizes)

    enough : nat_lt s.batch 64 ≡ false
    enough = grind (arith, nat_tests, large)
