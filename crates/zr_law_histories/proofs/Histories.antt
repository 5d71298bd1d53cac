-- A router's tables are the replay of its history, of which the run of several routers has the events.
use Rattle.std.proofs.Common.{◌≡◌, List, [], ◌∷◌, refl}
use Rattle.std.specs.List.{fold}
use Rattle.zr_told_spec.specs.Hub.{hub_after}
use Rattle.zr_port.specs.declared.entry.Entry.{Entry}
use Rattle.zr_router_queue.specs.Tables.{Tables, new_tables, advanced, replay_from}
use Rattle.zr_law_running.proofs.Running as law
use Rattle.zr_law_histories.specs.Histories.{events_of, RunningRoutersAreAWorld}

-- the replay's router goes by the events alone
hub_replayed : (h : List Entry) (t : Tables) → (replay_from t h).hub ≡ fold hub_after t.hub (events_of h)
hub_replayed [] t = refl
hub_replayed (e ∷ h) t = hub_replayed h (advanced t e)

pub running_routers_are_a_world : RunningRoutersAreAWorld
running_routers_are_a_world ids history run routers is =
    let all = law.runs_are_of_a_world ids (λ x. events_of (history x)) run routers is.heard is.fits in (
      all.0,
      all.1,
      all.2,
      (
        all.3.0,
        all.3.1,
        all.3.2,
        λ x i.
            let r = all.3.2.routers x i in
            record { router = r.0; is = r.1; tables = r.2; does = all.4 x i; replayed = hub_replayed (history x) (new_tables x) },
      ),
    )
