-- What each act means to the guarantee. Each act stands here once, and all else that the guarantee says of acts goes by it.
use Rattle.std.specs.Prelude.{ℕ, Bool, true, false, if◌then◌else◌, List, Option, Some, None}
use Rattle.zr_msg.specs.declared.content.Parts.{Parts}
use Rattle.zr_msg.specs.declared.decl.Decl.{Decl}
use Rattle.zr_msg.specs.declared.decl.Kind.TheVariants as kind
use Rattle.zr_msg.specs.declared.msg.Target.{Target}
use Rattle.zr_local.specs.declared.interest.Interest.{Interest}
use Rattle.zr_told_spec.specs.declared.place.Class.{Class}
use Rattle.zr_told_spec.specs.declared.place.Class.TheVariants.{Subscriber, Queryable, Living}
use Rattle.zr_script_spec.specs.Mode.{is_future}
use Rattle.zr_script_spec.specs.declared.command.Act.{Act}
use Rattle.zr_script_spec.specs.declared.command.Act.TheVariants as a
use Rattle.zr_guarantee.specs.Item.{Carried, Sample, Query}

-- what stands under an id of a client from then on, or nothing where the client takes back what it has declared there; ids of subscribers, of
-- queryables and of tokens are apart
pub record Declares : Type 0 where
  pub client : List ℕ
  pub class : Class
  pub id : ℕ
  pub decl : Option Decl

-- in what a client is interested under an id from then on, or nothing where it ends the interest
pub record Wants : Type 0 where
  pub client : List ℕ
  pub id : ℕ
  pub interest : Option Interest

-- what a client publishes: a sample, or a query
pub record Publication : Type 0 where
  pub client : List ℕ
  pub carried : Carried

-- a query that a line asks: the client that asks it, its number there, which queryables it asks, and what it is
pub record Asked : Type 0 where
  pub line : ℕ
  pub client : List ℕ
  pub number : ℕ
  pub target : Target
  pub content : Parts

-- what a client says to the request that it was sent under a number: a reply, or none where it ends the request
pub record Saying : Type 0 where
  pub line : ℕ
  pub client : List ℕ
  pub number : ℕ
  pub reply : Option Parts

pub record Meaning : Type 0 where
  -- the router that comes
  pub router : Option (List ℕ)
  -- the client that comes, with the router that it is attached to
  pub client : Option (List ℕ × List ℕ)
  -- the neighbour to which a router's link breaks
  pub broken : Option (List ℕ)
  pub declares : Option Declares
  -- of interests in what is declared later
  pub wants : Option Wants
  pub publishes : Option Publication
  -- by the number of the act's line
  pub asks : ℕ → Option Asked
  pub says : ℕ → Option Saying
  -- routers, clients, links and declarations are as before
  pub stays : Bool

-- an act of which the guarantee speaks nowhere, and one that changes the network
abbrev pub nothing : Meaning
nothing = record {
  router = None;
  client = None;
  broken = None;
  declares = None;
  wants = None;
  publishes = None;
  asks = λ line. None;
  says = λ line. None;
  stays = true;
}

abbrev pub change : Meaning
change = record nothing { stays = false }

abbrev pub declaring : Declares → Meaning
declaring d = record change { declares = Some d }

abbrev pub meaning : Act → Meaning
meaning (a.Router id) = record change { router = Some id }
meaning (a.Client id router) = record change { client = Some (id, router) }
meaning (a.Link one other weight) = change
meaning (a.Up router neighbour) = change
meaning (a.Break router neighbour) = record change { broken = Some neighbour }
meaning (a.Down router neighbour) = change
meaning (a.Sub client id key) = declaring (record { client = client; class = Subscriber; id = id; decl = Some (record { kind = kind.Sub; key = key }) })
meaning (a.Unsub client id) = declaring (record { client = client; class = Subscriber; id = id; decl = None })
meaning (a.Token client id key) = declaring (record { client = client; class = Living; id = id; decl = Some (record { kind = kind.Token; key = key }) })
meaning (a.Untoken client id) = declaring (record { client = client; class = Living; id = id; decl = None })
meaning (a.Able client id key complete) =
    declaring (record { client = client; class = Queryable; id = id; decl = Some (record { kind = if complete then kind.Full else kind.Able; key = key }) })
meaning (a.Unable client id) = declaring (record { client = client; class = Queryable; id = id; decl = None })
meaning (a.Interest client id mode kinds key aggregate) =
    record nothing {
      wants = if is_future mode then Some (record { client = client; id = id; interest = Some (record { id = id; kinds = kinds; key = key; aggregate = aggregate }) }) else None;
    }
meaning (a.Uninterest client id) = record nothing { wants = Some (record { client = client; id = id; interest = None }) }
meaning (a.Publish client content) = record nothing { publishes = Some (record { client = client; carried = Sample content }) }
meaning (a.Get client number target content) =
    record nothing {
      publishes = Some (record { client = client; carried = Query target content });
      asks = λ line. Some (record { line = line; client = client; number = number; target = target; content = content });
    }
meaning (a.Reply client number content) = record nothing { says = λ line. Some (record { line = line; client = client; number = number; reply = Some content }) }
meaning (a.End client number) = record nothing { says = λ line. Some (record { line = line; client = client; number = number; reply = None }) }
meaning (a.Handle router from) = nothing
meaning (a.Take router to) = nothing
meaning a.Mark = nothing
meaning (a.Show router) = nothing
