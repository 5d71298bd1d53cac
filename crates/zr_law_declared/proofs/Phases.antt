-- An act of a phase changes nothing: act by act.
use Rattle.std.proofs.Common.{◌≡◌, true, refl}
use Rattle.std.proofs.lemmas.Bool.{false≢true}
use Rattle.zr_script_spec.specs.declared.command.Act.{Act}
use Rattle.zr_script_spec.specs.declared.command.Act.TheVariants as a
use Rattle.zr_guarantee.specs.Meaning.{meaning}
use Rattle.zr_guarantee.specs.Phase.{stays}
use Rattle.zr_law_declared.specs.Phases.{ChangesNothing}

pub phases_change_nothing : (act : Act) → stays act ≡ true → ChangesNothing (meaning act)
phases_change_nothing (a.Router id) h = absurd (false≢true h)
phases_change_nothing (a.Client id router) h = absurd (false≢true h)
phases_change_nothing (a.Link one other weight) h = absurd (false≢true h)
phases_change_nothing (a.Up router neighbour) h = absurd (false≢true h)
phases_change_nothing (a.Break router neighbour) h = absurd (false≢true h)
phases_change_nothing (a.Down router neighbour) h = absurd (false≢true h)
phases_change_nothing (a.Sub client id key) h = absurd (false≢true h)
phases_change_nothing (a.Unsub client id) h = absurd (false≢true h)
phases_change_nothing (a.Token client id key) h = absurd (false≢true h)
phases_change_nothing (a.Untoken client id) h = absurd (false≢true h)
phases_change_nothing (a.Able client id key complete) h = absurd (false≢true h)
phases_change_nothing (a.Unable client id) h = absurd (false≢true h)
phases_change_nothing (a.Interest client id mode kinds key aggregate) h = record { router = refl; client = refl; broken = refl; declares = refl }
phases_change_nothing (a.Uninterest client id) h = record { router = refl; client = refl; broken = refl; declares = refl }
phases_change_nothing (a.Publish client content) h = record { router = refl; client = refl; broken = refl; declares = refl }
phases_change_nothing (a.Get client number target content) h = record { router = refl; client = refl; broken = refl; declares = refl }
phases_change_nothing (a.Reply client number content) h = record { router = refl; client = refl; broken = refl; declares = refl }
phases_change_nothing (a.End client number) h = record { router = refl; client = refl; broken = refl; declares = refl }
phases_change_nothing (a.Handle router from) h = record { router = refl; client = refl; broken = refl; declares = refl }
phases_change_nothing (a.Take router to) h = record { router = refl; client = refl; broken = refl; declares = refl }
phases_change_nothing a.Mark h = record { router = refl; client = refl; broken = refl; declares = refl }
phases_change_nothing (a.Show router) h = record { router = refl; client = refl; broken = refl; declares = refl }
