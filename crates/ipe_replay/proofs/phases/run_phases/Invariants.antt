use Rattle.std.proofs.Common.{take}
use Rattle.ipe_replay.specs.Phases.{HavePhases}
use Rattle.ipe_replay.proofs.phases.run_phases.Given as goal

-- the phases so far ran
abbrev pub invariant-loop-place : goal.invariant-loop-place
invariant-loop-place g l =
    HavePhases l.setting.objects.now l.setting.images.now (take l.place l.phases) l.fn.admin l.admin l.fn.workers l.workers l.entries.items
