use Rattle.std.proofs.Common.{◌≡◌, map, take}
use Rattle.ipe_objects.specs.Contexts.{context_by}
use Rattle.ipe_objects.proofs.objects.Objects.build.Given as goal

-- the contexts so far are those of the files so far
abbrev pub invariant-loop-file : goal.invariant-loop-file
invariant-loop-file g l =
    l.contexts.items
    ≡ map (context_by l.requests l.images (g.S.Signer.verdict_of l.signer)) (take l.file-index l.requests.files)
