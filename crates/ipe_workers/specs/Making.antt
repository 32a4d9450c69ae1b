-- What workers of a new gate have.
use Rattle.std.specs.Prelude.{◌≡◌, List, [], map}
use Rattle.std.specs.List.{AllByRecursion}
use Rattle.ipe_gate.specs.declared.pass.Pass.{Pass}
use Rattle.ipe_objects.specs.Ready.{Ready, tables_of}
use Rattle.ipe_workers.specs.declared.worker.Worker.{Worker}
use Rattle.ipe_workers.specs.Workers.{entries_in, pass_of, view_of}

-- a worker reads through a view of the declared files, and has no entries yet
pub record IsMade (objects : Ready) (w : Worker) : Type 0 where
  pub view : view_of w ≡ tables_of objects.script
  pub empty : entries_in w ≡ []

-- there is such a worker for each pass, in their order
pub record AreMade (objects : Ready) (passes : List Pass) (ws : List Worker) : Type 0 where
  pub each : AllByRecursion (IsMade objects) ws
  pub passes_are : map pass_of ws ≡ passes
