-- The texts of messages worked out, one of each kind and of each word that a text may have.
use Rattle.std.specs.Prelude.{◌≡◌, ℕ, List, [], ◌∷◌, codes, true, false, Some, None}
use Rattle.zr_body.specs.Payload.{put_body, del_body}
use Rattle.zr_msg.specs.Extras.{no_extras}
use Rattle.zr_msg.specs.declared.decl.Kind.TheVariants as k
use Rattle.zr_msg.specs.declared.decl.Decl.{Decl}
use Rattle.zr_msg.specs.declared.msg.Target.TheVariants.{Best, All, Complete}
use Rattle.zr_msg.specs.declared.msg.Msg.TheVariants.{Sub, Unsub, Token, Untoken, Able, Unable, Interest, EndInterest, ToldSub, ToldAble, ToldUnsub, ToldToken, ToldUntoken, ToldUnable, ToldEnd, Push, Request, Response, Final, State, Step, Snap}
use Rattle.zr_script_spec.specs.Command.{plain, query_body, latest_body, reply_body, timed_body}
use Rattle.zr_script_spec.specs.Report.{msg_text}

-- three identifiers
abbrev pub one : List ℕ
one = 1 ∷ []

abbrev pub two : List ℕ
two = 2 ∷ []

abbrev pub three : List ℕ
three = 3 ∷ []

-- declarations
abbrev pub sub_a : Decl
sub_a = record { kind = k.Sub; key = codes "a" }

abbrev pub able_b : Decl
able_b = record { kind = k.Able; key = codes "b" }

abbrev pub full_ab : Decl
full_ab = record { kind = k.Full; key = codes "a/b" }

abbrev pub token_a : Decl
token_a = record { kind = k.Token; key = codes "a" }

-- the bodies of a reply with a deletion and of an error
abbrev pub end_body : List ℕ
end_body = 4 ∷ del_body

abbrev pub error_body : List ℕ
error_body = 5 ∷ 2 ∷ codes "no"

-- what clients declare, and the end of it
pub record DeclarationsAreTold : Type 0 where
  pub sub : msg_text (Sub 1 (codes "a/b")) ≡ codes "sub 1 a/b"
  pub unsub : msg_text (Unsub 4294967295) ≡ codes "unsub 4294967295"
  pub token : msg_text (Token 1 (codes "a/b")) ≡ codes "token 1 a/b"
  pub untoken : msg_text (Untoken 1) ≡ codes "untoken 1"
  pub able : msg_text (Able 2 (codes "a/**") false) ≡ codes "able 2 a/**"
  pub full : msg_text (Able 2 (codes "a/**") true) ≡ codes "full 2 a/**"
  pub unable : msg_text (Unable 2) ≡ codes "unable 2"

-- interests, and what is told of them
pub record InterestsAreTold : Type 0 where
  pub now : msg_text (Interest 3 true false (record { 0 = 2 }) (Some (codes "a/*")) false) ≡ codes "interest 3 now sub a/*"
  pub later : msg_text (Interest 3 false true (record { 0 = 4 }) (Some (codes "a")) true) ≡ codes "interest 3 later able a aggregate"
  pub both : msg_text (Interest 3 true true (record { 0 = 6 }) None true) ≡ codes "interest 3 both all - aggregate"
  pub tokens : msg_text (Interest 3 true true (record { 0 = 8 }) (Some (codes "a/*")) false) ≡ codes "interest 3 both token a/*"
  pub ended : msg_text (EndInterest 3) ≡ codes "uninterest 3"
  pub told_sub : msg_text (ToldSub 0 (codes "a/b") (Some 3)) ≡ codes "told sub 0 a/b 3"
  pub told_able : msg_text (ToldAble 5 (codes "a") false (Some 3)) ≡ codes "told able 5 a 3"
  pub told_full : msg_text (ToldAble 5 (codes "a") true None) ≡ codes "told full 5 a -"
  pub told_token : msg_text (ToldToken 5 (codes "a/b") None) ≡ codes "told token 5 a/b -"
  pub told_unsub : msg_text (ToldUnsub 5) ≡ codes "told unsub 5"
  pub told_untoken : msg_text (ToldUntoken 5) ≡ codes "told untoken 5"
  pub told_unable : msg_text (ToldUnable 5) ≡ codes "told unable 5"
  pub told_end : msg_text (ToldEnd 3) ≡ codes "told end 3"

-- samples, requests and their replies
pub record ContentsAreTold : Type 0 where
  pub put : msg_text (Push None (plain (codes "a/b") (put_body (codes "hi")))) ≡ codes "put - a/b hi"
  pub put_along : msg_text (Push (Some one) (plain (codes "a") (put_body []))) ≡ codes "put 01 a -"
  pub del : msg_text (Push (Some one) (plain (codes "a") del_body)) ≡ codes "del 01 a"
  pub get_best : msg_text (Request None 7 Best (plain (codes "a") query_body)) ≡ codes "get - 7 a best"
  pub get_all : msg_text (Request (Some two) 1 All (plain (codes "a") query_body)) ≡ codes "get 02 1 a all"
  pub get_complete : msg_text (Request None 7 Complete (plain (codes "a") query_body)) ≡ codes "get - 7 a complete"
  pub get_latest : msg_text (Request None 7 Best (plain (codes "a") latest_body)) ≡ codes "get - 7 a best latest"
  pub reply : msg_text (Response 7 (plain (codes "a") (reply_body (codes "z")))) ≡ codes "reply 7 a z"
  pub reply_timed : msg_text (Response 7 (plain (codes "a") (timed_body 5 one (codes "z")))) ≡ codes "reply 7 a z 5"
  pub reply_deletes : msg_text (Response 7 (plain (codes "a") end_body)) ≡ codes "reply 7 a -"
  pub reply_fails : msg_text (Response 7 (plain (codes "a") error_body)) ≡ codes "reply 7 a no"
  pub final : msg_text (Final 7 no_extras) ≡ codes "final 7"

-- what routers tell each other
pub record RoutersAreTold : Type 0 where
  pub state : msg_text (State (record { id = two; seq = 2; links = record { id = one; weight = 1 } ∷ record { id = three; weight = 1 } ∷ [] })) ≡ codes "record 02 2 01,03"
  pub weighted : msg_text (State (record { id = two; seq = 2; links = record { id = one; weight = 5 } ∷ record { id = three; weight = 1 } ∷ [] })) ≡ codes "record 02 2 01:5,03"
  pub alone : msg_text (State (record { id = two; seq = 0; links = [] })) ≡ codes "record 02 0 -"
  pub added : msg_text (Step two 1 true sub_a) ≡ codes "entry 02 1 + sub a"
  pub lives : msg_text (Step two 1 true token_a) ≡ codes "entry 02 1 + token a"
  pub removed : msg_text (Step two 2 false full_ab) ≡ codes "entry 02 2 - full a/b"
  pub snap : msg_text (Snap two 3 (sub_a ∷ able_b ∷ [])) ≡ codes "snap 02 3 sub a able b"
  pub empty : msg_text (Snap two 2 []) ≡ codes "snap 02 2"
