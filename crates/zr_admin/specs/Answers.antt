-- What an inner client answers: to each request the pages whose keys meet the request's, and behind them that no more come.
use Rattle.std.specs.Prelude.{ℕ, Bool, if◌then◌else◌, List, [], ◌∷◌, ◌++◌, length}
use Rattle.std.specs.List.{flat_map}
use Rattle.zr_match.specs.Table.{texts_meet}
use Rattle.zr_msg.specs.declared.msg.Msg.{Msg}
use Rattle.zr_msg.specs.declared.msg.Msg.TheVariants.{Response, Final}
use Rattle.zr_msg.specs.Extras.{no_extras}
use Rattle.zr_script_spec.specs.Command.{plain, reply_body}
use Rattle.zr_glance.specs.declared.space.Page.{Page}
use Rattle.zr_admin.specs.declared.asked.Asked.{Asked}

-- a page is asked for: its key meets the request's
abbrev pub is_asked : Asked → Page → Bool
is_asked r p = texts_meet p.key r.content.key

-- the reply that has a page
abbrev pub response : Asked → Page → Msg
response r p = Response r.id (plain p.key (reply_body p.payload))

-- what one page brings to a request
abbrev pub reply : Asked → Page → List Msg
reply r p = if is_asked r p then response r p ∷ [] else []

abbrev pub replies : List Page → Asked → List Msg
replies pages r = flat_map (λ p. reply r p) pages

abbrev pub answers : List Page → Asked → List Msg
answers pages r = replies pages r ++ Final r.id no_extras ∷ []

-- one request after another, all at the same pages
abbrev pub all_answers : List Page → List Asked → List Msg
all_answers pages requests = flat_map (λ r. answers pages r) requests

-- how many replies they have
abbrev pub count_replies : List Page → List Asked → ℕ
count_replies pages requests = length (flat_map (λ r. replies pages r) requests)
