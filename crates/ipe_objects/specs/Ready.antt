-- Declared files that are ready to be asked about.
use Rattle.std.specs.Prelude.{ℕ, List, map, position, slice_get, Option}
use Rattle.std.specs.Option.{option_and_then}
use Rattle.line_words.specs.Words.{is_text}
use Rattle.dmv_volume.specs.Table.{TableParts}
use Rattle.ipe_policy.specs.declared.evaluation.Context.{Context}
use Rattle.ipe_requests.specs.declared.script.TextLine.{TextLine}
use Rattle.ipe_requests.specs.declared.script.VolumeLine.{VolumeLine}
use Rattle.ipe_requests.specs.declared.script.FileLine.{FileLine}
use Rattle.ipe_requests.specs.declared.script.SealLine.{SealLine}
use Rattle.ipe_requests.specs.Requests.{Script}
use Rattle.ipe_objects.specs.Places.{Placed, PlacesAre}

-- the places of all that is declared, by the names
pub record AreDeclared (script : Script) (text_places volume_places file_places seal_places : Placed) : Type 0 where
  pub texts : PlacesAre text_places (map (λ (text : TextLine). text.id) script.texts)
  pub volumes : PlacesAre volume_places (map (λ (volume : VolumeLine). volume.id) script.volumes)
  pub files : PlacesAre file_places (map (λ (file : FileLine). file.path) script.files)
  pub seals : PlacesAre seal_places (map (λ (seal : SealLine). seal.path) script.seals)

-- what a request file declares, and the contexts of its files, in the order of their lines
pub record Ready : Type 0 where
  pub script : Script
  pub contexts : List Context

-- the context of the file of a path, unless none is declared
abbrev pub context_in : Ready → List ℕ → Option Context
context_in objects path =
    option_and_then (slice_get objects.contexts)
    (position (is_text path) (map (λ (file : FileLine). file.path) objects.script.files))

-- the tables of the declared volumes, in the order of their lines
abbrev pub tables_of : Script → List TableParts
tables_of script = map (λ (volume : VolumeLine). volume.table) script.volumes
