-- What one end of a link does there by one act (`Moves`): it handles what came, if something did, and then it does what is its own. As the upper end it
-- sends requests and handles replies and finals, as the lower end it sends these and takes requests. Events on the link lead there (`moves_lead`).
use Rattle.std.proofs.Common.{◌≡◌, ℕ, true, List, [], ◌++◌, Option, refl, sym, subst}
use Rattle.std.specs.List.{AllByRecursion, flat_map, list_all}
use Rattle.zr_msg.specs.declared.msg.Msg.{Msg}
use Rattle.zr_msg.specs.declared.msg.Msg.TheVariants.{Sub, Unsub, Token, Untoken, Able, Unable, Interest, EndInterest, ToldSub, ToldAble, ToldUnsub, ToldToken, ToldUntoken, ToldUnable, ToldEnd, Push, Request, Response, Final, State, Step, Snap}
use Rattle.zr_world_spec.specs.World.{Tagged}
use Rattle.zr_law_numbers.specs.Deeds.{Half, Deed, with_deeds, MayDoAll, asked_by_deed, answered_by_deed, handles_msg, is_own}
use Rattle.zr_law_numbers.proofs.Leading.{Leads, Stays, Wire, link_is, led, handled, answered, requested, deeds_upper, deeds_lower}

-- the upper end does
pub record Above (fine : Deed → Type 0) (l m : Wire) : Type 0 where
  pub came : Option Tagged
  pub half : Half
  pub own : List Deed
  pub owns : list_all is_own own ≡ true
  pub fits : AllByRecursion fine own
  pub may : MayDoAll half (handled came ++ own)
  pub asks : m.asks ≡ l.asks ++ flat_map asked_by_deed own
  pub answers : l.answers ≡ answered came ++ m.answers
  pub keeps : (n : ℕ) → m.keeps n ≡ l.keeps n
  pub before : (n : ℕ) → l.back n ≡ half.back n
  pub leaves : (n : ℕ) → m.back n ≡ (with_deeds half (handled came ++ own)).back n

-- the lower end does
pub record Below (fine : Deed → Type 0) (l m : Wire) : Type 0 where
  pub came : Option Tagged
  pub half : Half
  pub own : List Deed
  pub owns : list_all is_own own ≡ true
  pub fits : AllByRecursion fine own
  pub may : MayDoAll half (handled came ++ own)
  pub asks : l.asks ≡ requested came ++ m.asks
  pub answers : m.answers ≡ l.answers ++ flat_map answered_by_deed own
  pub back : (n : ℕ) → m.back n ≡ l.back n
  pub before : (n : ℕ) → l.keeps n ≡ half.keeps n
  pub leaves : (n : ℕ) → m.keeps n ≡ (with_deeds half (handled came ++ own)).keeps n

-- one of them does, or none; what is own is fine above or below
pub data Moves (above below : Deed → Type 0) (l m : Wire) : Type 0 where
  Same : l ≡ m → Moves above below l m
  Upper : Above above l m → Moves above below l m
  Lower : Below below l m → Moves above below l m

pub moved : (above below : Deed → Type 0) (l m n : Wire) → Moves above below l m → m ≡ n → Moves above below l n
moved above below l m n moves e = subst (λ z. Moves above below l z) e moves

pub moves_lead : (above below : Deed → Type 0) (l m : Wire) → Moves above below l m → Leads l m
moves_lead above below l m (Same e) = led l l m Stays e
moves_lead above below l m (Upper u) =
    led l _ m (deeds_upper l l u.half u.own u.owns Stays u.came m.answers u.answers u.before u.may)
    (link_is (record { asks = l.asks ++ flat_map asked_by_deed u.own; answers = m.answers; keeps = l.keeps; back = (with_deeds u.half (handled u.came ++ u.own)).back }) m
    (sym u.asks) refl (λ n. sym (u.keeps n)) (λ n. sym (u.leaves n)))
moves_lead above below l m (Lower d) =
    led l _ m (deeds_lower l l d.half d.own d.owns Stays d.came m.asks d.asks d.before d.may)
    (link_is (record { asks = m.asks; answers = l.answers ++ flat_map answered_by_deed d.own; keeps = (with_deeds d.half (handled d.came ++ d.own)).keeps; back = l.back }) m
    refl (sym d.answers) (λ n. sym (d.leaves n)) (λ n. sym (d.back n)))

-- what handles a message may always be done
pub may_handle : (h : Half) (msg : Msg) → MayDoAll h (handles_msg msg ++ [])
may_handle h (Sub id key) = tt
may_handle h (Unsub id) = tt
may_handle h (Token id key) = tt
may_handle h (Untoken id) = tt
may_handle h (Able id key complete) = tt
may_handle h (Unable id) = tt
may_handle h (Interest id current future kinds key aggregate) = tt
may_handle h (EndInterest id) = tt
may_handle h (ToldSub id key interest) = tt
may_handle h (ToldToken id key interest) = tt
may_handle h (ToldAble id key complete interest) = tt
may_handle h (ToldUnsub id) = tt
may_handle h (ToldUntoken id) = tt
may_handle h (ToldUnable id) = tt
may_handle h (ToldEnd interest) = tt
may_handle h (Push tree content) = tt
may_handle h (Request tree id target content) = (tt, tt)
may_handle h (Response id content) = (tt, tt)
may_handle h (Final id extras) = (tt, tt)
may_handle h (State links) = tt
may_handle h (Step source number added decl) = tt
may_handle h (Snap source number decls) = tt
