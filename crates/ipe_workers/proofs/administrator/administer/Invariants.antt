use Rattle.std.proofs.Common.{true, take}
use Rattle.ipe_workers.specs.Administering.{HasAdministered}
use Rattle.ipe_workers.proofs.administrator.administer.Given as goal

-- the lines so far ran
abbrev pub invariant-loop-line : goal.invariant-loop-line
invariant-loop-line g l =
    HasAdministered l.work.objects.now l.work.images.now l.work.phase true (take l.line-index l.lines) l.fn.admin l.admin l.fn.entries.items l.entries.items
