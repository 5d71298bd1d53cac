-- What clients have declared, as the guarantee lists it: the declarations that stand under their ids. A client that is attached is one of the clients.
use Rattle.std.proofs.Common.{◌≡◌, ℕ, Bool, true, false, List, [], ◌∷◌, ◌++◌, Option, Some, None, ◌⊎◌, inl, inr, refl, sym, ap, ◌∙◌, subst}
use Rattle.std.specs.Prelude.{◌==◌, ◌&&◌, ◌||◌, not, is_some}
use Rattle.std.specs.List.{fold, find, cons_option}
use Rattle.std.specs.Option.{option_map}
use Rattle.std.proofs.lemmas.Bool.{true≢false, false≢true}
use Rattle.zr_id.specs.Zid.{is_named}
use Rattle.zr_graph.proofs.Names.{same_is}
use Rattle.zr_lists.proofs.Finds.{In, find_in, map_in, in_map}
use Rattle.zr_lists.proofs.Elements.{in_front, in_behind, in_either}
use Rattle.zr_msg.specs.declared.decl.Decl.{Decl}
use Rattle.zr_msg.specs.declared.decl.Kind.{Kind}
use Rattle.zr_msg.specs.declared.decl.Kind.TheVariants as k
use Rattle.zr_script_spec.specs.declared.command.Act.{Act}
use Rattle.zr_script_spec.specs.declared.command.Act.TheVariants as a
use Rattle.zr_told_spec.specs.Place.{class_of}
use Rattle.zr_told_spec.specs.declared.place.Class.{Class}
use Rattle.zr_told_spec.specs.declared.place.Class.TheVariants.{Subscriber, Queryable, Living}
use Rattle.zr_world_spec.specs.World.{ClientState, WorldState}
use Rattle.zr_world_spec.specs.Moments.{Numbered}
use Rattle.zr_guarantee.specs.Broker.{attached_by, is_attached, Standing, standing}
use Rattle.zr_guarantee.specs.Interests.{declared}
use Rattle.zr_guarantee.specs.Names.{client_in, clients}
use Rattle.zr_law_settled.proofs.Spreading.{Name}
use Rattle.zr_law_declared.specs.Declared.{stands}
use Rattle.zr_law_declared.proofs.Said.{decl_in}
use Rattle.zr_law_declared.proofs.Spoken.{IsSpoken}

-- ---- clients

client_found : (n : Name) (acts : List Numbered) (b : Bool) → b ≡ false → fold (λ so_far x. attached_by n so_far x.1) b acts ≡ true → In n (clients acts)
client_found n [] b none h = absurd (true≢false (sym h ∙ none))
client_found n (x ∷ acts) b none h = by x.1 h (client_found n acts)
  where
    goes : Bool → Bool
    goes c = fold (λ so_far y. attached_by n so_far y.1) c acts

    by : (act : Act) → goes (attached_by n b act) ≡ true → ((c : Bool) → c ≡ false → goes c ≡ true → In n (clients acts)) → In n (cons_option (client_in act) (clients acts))
    by (a.Router id) k ih = ih b none k
    by (a.Client id router) k ih = at (is_named n id) refl
      where
        at : (t : Bool) → is_named n id ≡ t → In n (id ∷ clients acts)
        at true e = inl (same_is n id e)
        at false e = inr (ih (b || is_named n id) (ap (λ z. z || is_named n id) none ∙ e) k)
    by (a.Link one other weight) k ih = ih b none k
    by (a.Up router neighbour) k ih = ih b none k
    by (a.Break router neighbour) k ih = ih (b && not (is_named n neighbour)) (ap (λ z. z && not (is_named n neighbour)) none) k
    by (a.Down router neighbour) k ih = ih b none k
    by (a.Sub client id key) k ih = ih b none k
    by (a.Unsub client id) k ih = ih b none k
    by (a.Token client id key) k ih = ih b none k
    by (a.Untoken client id) k ih = ih b none k
    by (a.Able client id key complete) k ih = ih b none k
    by (a.Unable client id) k ih = ih b none k
    by (a.Interest client id mode kinds key aggregate) k ih = ih b none k
    by (a.Uninterest client id) k ih = ih b none k
    by (a.Publish client content) k ih = ih b none k
    by (a.Get client number target content) k ih = ih b none k
    by (a.Reply client number content) k ih = ih b none k
    by (a.End client number) k ih = ih b none k
    by (a.Handle router from) k ih = ih b none k
    by (a.Take router to) k ih = ih b none k
    by a.Mark k ih = ih b none k
    by (a.Show router) k ih = ih b none k

-- who is attached is a client
pub attached_client : (acts : List Numbered) (n : Name) → is_attached acts n ≡ true → In n (clients acts)
attached_client acts n h = client_found n acts false refl h

-- ---- declarations

-- what is declared under an id stands
under_id : (xs : List Standing) (id : ℕ) (d : Decl) → decl_in xs id ≡ Some d → (s : Standing) × In s xs × (s.decl ≡ d)
under_id xs id d h = by (find (λ (s : Standing). s.id == id) xs) refl h
  where
    by : (o : Option Standing) → find (λ (s : Standing). s.id == id) xs ≡ o → option_map (λ (s : Standing). s.decl) o ≡ Some d → (s : Standing) × In s xs × (s.decl ≡ d)
    by None e q = absurd (false≢true (ap is_some q))
    by (Some s) e q = let same : s.decl ≡ d = cc in (s, (find_in (λ (s : Standing). s.id == id) xs s e).0, same)

module _ (acts : List Numbered) (w : WorldState) (c : Name) (s : ClientState) (h : IsSpoken acts w c s) where
  abbrev subs : List Standing
  subs = standing acts c Subscriber

  abbrev ables : List Standing
  ables = standing acts c Queryable

  abbrev tokens : List Standing
  tokens = standing acts c Living

  abbrev all : List Standing
  all = subs ++ ables ++ tokens

  -- what stands is declared, of each class
  is_declared : (class : Class) (x : Standing) → In x (standing acts c class) → In x.decl (declared acts c)
  is_declared Subscriber x i = map_in (λ (x : Standing). x.decl) all x (in_front (subs ++ ables) tokens x (in_front subs ables x i))
  is_declared Queryable x i = map_in (λ (x : Standing). x.decl) all x (in_front (subs ++ ables) tokens x (in_behind subs ables x i))
  is_declared Living x i = map_in (λ (x : Standing). x.decl) all x (in_behind (subs ++ ables) tokens x i)

  pub stands_in : (kind : Kind) (id : ℕ) (d : Decl) → stands acts c kind id ≡ Some d → In d (declared acts c)
  stands_in kind id d e =
      let x = under_id (standing acts c (class_of kind)) id d (sym ((h.listed kind).stand id) ∙ e) in
      subst (λ z. In z (declared acts c)) x.2 (is_declared (class_of kind) x.0 x.1)

  pub in_stands : (d : Decl) → In d (declared acts c) → (kind : Kind) × (id : ℕ) × (stands acts c kind id ≡ Some d)
  in_stands d i = by (in_either (subs ++ ables) tokens x.0 x.1)
    where
      x : (x : Standing) × In x all × (x.decl ≡ d)
      x = in_map (λ (x : Standing). x.decl) all d i

      its : (kind : Kind) → In x.0 (standing acts c (class_of kind)) → (kind : Kind) × (id : ℕ) × (stands acts c kind id ≡ Some d)
      its kind j = (kind, x.0.id, (h.listed kind).stand x.0.id ∙ (h.listed kind).apart x.0 j ∙ ap Some x.2)

      others : In x.0 subs ⊎ In x.0 ables → (kind : Kind) × (id : ℕ) × (stands acts c kind id ≡ Some d)
      others (inl j) = its k.Sub j
      others (inr j) = its k.Able j

      by : In x.0 (subs ++ ables) ⊎ In x.0 tokens → (kind : Kind) × (id : ℕ) × (stands acts c kind id ≡ Some d)
      by (inl j) = others (in_either subs ables x.0 j)
      by (inr j) = its k.Token j
