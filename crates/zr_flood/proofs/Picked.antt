-- What is told to the links that a test picks is, on the link of each number, what is told to it if it passes the test.
use Rattle.std.proofs.Common.{◌≡◌, Bool, true, false, cond, List, [], ◌∷◌, ◌++◌, filter, refl, ap, ◌∙◌, map}
use Rattle.std.specs.Option.{option_map_or}
use Rattle.std.proofs.lemmas.Grind.{flat_map-append}
use Rattle.zr_id.specs.declared.link.LinkNo.{LinkNo}
use Rattle.zr_msg.specs.declared.msg.Msg.{Msg}
use Rattle.zr_msg.specs.declared.peer.LinkPeer.{LinkPeer}
use Rattle.zr_node_spec.specs.Tables.{AreNumbered, link_at}
use Rattle.zr_node_spec.specs.Event.{on_link}
use Rattle.zr_node_spec.proofs.Told.{on_link-append, to_picked, on_picked as to_picked_on}
use Rattle.zr_node_spec.specs.Each.{to_each}
use Rattle.zr_flood.specs.Tell.{picked, all_to_each}

-- a message for the links that a test picks is one for each such link
told_picked : (test : LinkPeer → Bool) (msg : Msg) (links : List LinkPeer) → to_each (picked test links) msg ≡ to_picked test msg links
told_picked test msg links = by (filter test links)
  where
    by : (ls : List LinkPeer) → map {B = LinkNo × Msg} (λ n. (n, msg)) (map (λ l. l.link) ls) ≡ map (λ l. (l.link, msg)) ls
    by [] = refl
    by (l ∷ ls) = ap (λ xs. (l.link, msg) ∷ xs) (by ls)

-- one message
pub on_picked : (test : LinkPeer → Bool) (msg : Msg) (links : List LinkPeer) → AreNumbered links → (to : LinkNo)
    → on_link to (to_each (picked test links) msg) ≡ cond (option_map_or test (link_at links to.0) false) (msg ∷ []) []
on_picked test msg links up to = ap (λ xs. on_link to xs) (told_picked test msg links) ∙ to_picked_on test msg links up to

-- several messages
pub on_all_picked : (test : LinkPeer → Bool) (msgs : List Msg) (links : List LinkPeer) → AreNumbered links → (to : LinkNo)
    → on_link to (all_to_each (picked test links) msgs) ≡ cond (option_map_or test (link_at links to.0) false) msgs []
on_all_picked test [] links up to = by (option_map_or test (link_at links to.0) false)
  where
    by : (b : Bool) → [] ≡ cond {A = List Msg} b [] []
    by true = refl
    by false = refl
on_all_picked test (m ∷ msgs) links up to =
    on_link-append to (to_each (picked test links) m) (all_to_each (picked test links) msgs)
    ∙ ap (λ ms. ms ++ on_link to (all_to_each (picked test links) msgs)) (on_picked test m links up to)
    ∙ ap (λ ms. cond (option_map_or test (link_at links to.0) false) (m ∷ []) [] ++ ms) (on_all_picked test msgs links up to)
    ∙ by (option_map_or test (link_at links to.0) false)
  where
    by : (b : Bool) → cond b (m ∷ []) [] ++ cond b msgs [] ≡ cond b (m ∷ msgs) []
    by true = refl
    by false = refl

-- nobody is told anything
pub none_told : (msgs : List Msg) → all_to_each [] msgs ≡ []
none_told [] = refl
none_told (m ∷ msgs) = none_told msgs

-- one after the other
pub all_to_each-append : (links : List LinkNo) (a b : List Msg) → all_to_each links (a ++ b) ≡ all_to_each links a ++ all_to_each links b
all_to_each-append links a b = flat_map-append (λ m. to_each links m) a b
