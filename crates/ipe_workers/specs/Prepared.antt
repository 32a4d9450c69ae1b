-- What is known of the declared files before any line runs.
use Rattle.std.specs.Prelude.{◌≡◌, ℕ, List}
use Rattle.std.specs.List.{AllByRecursion}
use Rattle.blk_device.specs.Contents.{Contents}
use Rattle.ipe_requests.specs.declared.script.PhaseLine.{PhaseLine}
use Rattle.ipe_requests.specs.Rules.{IsHookOf}
use Rattle.ipe_objects.specs.Contexts.{context_of}
use Rattle.ipe_objects.specs.Devices.{AreImages}
use Rattle.ipe_objects.specs.Ready.{Ready, context_in}
use Rattle.ipe_lines.specs.Asked.{Files, verdicts_of}
use Rattle.ipe_lines.specs.Files.{files_of}

-- what is known of the declared files
abbrev pub files_in : Ready → Contents → Files
files_in objects images = files_of objects.script images

-- these are images of the request file's devices, and the contexts are those that its marks give the files
pub record ArePrepared (objects : Ready) (images : Contents) : Type 0 where
  pub images_are : AreImages objects.script images
  pub contexts_are : (path : List ℕ) → context_in objects path ≡ context_of objects.script images (verdicts_of objects.script) path

-- these lines may be run: what is known of the files is so, and each hook is of a worker and of a declared file
pub record AreAsked (objects : Ready) (images : Contents) (lines : List PhaseLine) : Type 0 where
  pub prepared : ArePrepared objects images
  pub hooks : AllByRecursion (IsHookOf objects.script) lines
