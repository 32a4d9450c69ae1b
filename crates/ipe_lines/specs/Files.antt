-- What a request file and the images of its devices say of the files of paths.
use Rattle.std.specs.Prelude.{unwrap_or}
use Rattle.std.specs.Option.{option_map}
use Rattle.blk_device.specs.Contents.{Contents}
use Rattle.ipe_policy.specs.declared.request.Object.TheVariants as object
use Rattle.ipe_objects.specs.Contents.{content_by}
use Rattle.ipe_objects.specs.Contexts.{context_of}
use Rattle.ipe_objects.specs.Files.{object_of}
use Rattle.ipe_requests.specs.Requests.{Script, file_of}
use Rattle.ipe_lines.specs.Asked.{Files, no_context, verdicts_of}

-- each declared file is what its line says, in the context that the marks give it, and comes to what its bytes and trees
-- come to
abbrev pub files_of : Script → Contents → Files
files_of script images = record {
  object = λ path. unwrap_or (object_of script path) object.NoFile;
  context = λ path. unwrap_or (context_of script images (verdicts_of script) path) no_context;
  content = λ path. option_map (content_by script images) (file_of script path);
}
