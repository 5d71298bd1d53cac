-- A message with a key is what stands before its extensions, and what stands behind.
use Rattle.std.proofs.Common.{◌≡◌, ℕ, List, ◌∷◌, ◌++◌, append_assoc, Some, None, refl, sym, ap}
use Rattle.zr_bytes.specs.Number.{writes}
use Rattle.zr_ext.specs.Writing.{writes_chain}
use Rattle.zr_wirekey.specs.Writing.{writes_key}
use Rattle.zr_msg.specs.declared.msg.Msg.{Msg}
use Rattle.zr_msg.specs.declared.msg.Msg.TheVariants.{Sub, Unsub, Token, Untoken, Able, Unable, Interest, EndInterest, ToldSub, ToldAble, ToldUnsub, ToldToken, ToldUntoken, ToldUnable, ToldEnd, Push, Request, Response, Final, State, Step, Snap}
use Rattle.zr_msg.specs.declared.msg.Target.TheVariants.{Best}
use Rattle.zr_net.specs.Writing.{kept_exts, writes_keyed, writes_front, writes_back}
use Rattle.zr_wire.specs.Writing.{text_of, writes_numbered}

pub front_and_back : (m : Msg) (text : List ℕ) (number : ℕ) → text_of m ≡ Some text → writes_numbered m number ≡ writes_front m number ++ writes_back m
front_and_back (Push tree content) text number e = refl
front_and_back (Request tree id target content) text number e =
    let exts = kept_exts content.extras target tree in
    ap (λ x. writes_keyed 0x1C number exts ∷ x) (sym (append_assoc (writes id) (writes_key content.key number) (writes_chain exts ++ content.body)))
front_and_back (Response id content) text number e =
    let exts = kept_exts content.extras Best None in
    ap (λ x. writes_keyed 0x1B number exts ∷ x) (sym (append_assoc (writes id) (writes_key content.key number) (writes_chain exts ++ content.body)))
front_and_back (Sub id key) text number e = cc
front_and_back (Unsub id) text number e = cc
front_and_back (Token id key) text number e = cc
front_and_back (Untoken id) text number e = cc
front_and_back (Able id key complete) text number e = cc
front_and_back (Unable id) text number e = cc
front_and_back (Interest id current future kinds key aggregate) text number e = cc
front_and_back (EndInterest id) text number e = cc
front_and_back (ToldSub id key interest) text number e = cc
front_and_back (ToldToken id key interest) text number e = cc
front_and_back (ToldAble id key complete interest) text number e = cc
front_and_back (ToldUnsub id) text number e = cc
front_and_back (ToldUntoken id) text number e = cc
front_and_back (ToldUnable id) text number e = cc
front_and_back (ToldEnd interest) text number e = cc
front_and_back (Final id extras) text number e = cc
front_and_back (State links) text number e = cc
front_and_back (Step source number added decl) text n e = cc
front_and_back (Snap source number decls) text n e = cc
