-- When a policy has no image.
use Rattle.std.specs.Prelude.{◌≡◌, ℕ, ◌<◌, ◌≤◌}
use Rattle.ipe_image.specs.declared.compiling.CompileError.{CompileError}
use Rattle.ipe_image.specs.declared.compiling.CompileError.TheVariants.{TooWide, NoMemory}

-- a policy that needs so many words is too wide exactly where they are more than 4,096
abbrev pub HasNoImage : ℕ → CompileError → Type 0
HasNoImage needed (TooWide words) = (words ≡ needed) × (4096 < needed)
HasNoImage needed NoMemory = needed ≤ 4096
