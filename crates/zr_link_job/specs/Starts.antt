-- Which jobs a crew has started.
use Rattle.std.specs.Prelude.{◌≡◌, ℕ, suc, ◌+◌, ◌-◌, ◌^◌, ◌≤◌, min, Bool, true, false, List, [], ◌∷◌, ◌++◌, length, Option, Some, None}

-- how many came back, by a mark for each
abbrev pub unmarked : List Bool → ℕ
unmarked [] = 0
unmarked (true ∷ marks) = unmarked marks
unmarked (false ∷ marks) = suc (unmarked marks)

module _ {J : Type 0} where
  -- the jobs that were started, by a mark for each
  abbrev pub marked : List Bool → List J → List J
  marked [] [] = []
  marked [] (job ∷ jobs) = []
  marked (mark ∷ marks) [] = []
  marked (true ∷ marks) (job ∷ jobs) = job ∷ marked marks jobs
  marked (false ∷ marks) (job ∷ jobs) = marked marks jobs

  -- some jobs stand behind those told before, where these are told
  abbrev pub Tells : List J → Option (List J) → Option (List J) → Type 0
  Tells jobs None after = after ≡ None
  Tells jobs (Some told) after = after ≡ Some (told ++ jobs)

  -- Each of these jobs was started once, in order, and stands in the crew's list, but for those that came back: they are no more than the starts
  -- that failed, unless the count of these is at its end
  pub record Starts (jobs : List J) (told told' : Option (List J)) (faults faults' : ℕ) : Type 0 where
    pub marks : List Bool
    pub each : length marks ≡ length jobs
    pub are_told : Tells (marked marks jobs) told told'
    pub back : min (faults + unmarked marks) (2 ^ 64 - 1) ≤ faults'
