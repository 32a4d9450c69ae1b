-- How what is refused is told.
use Rattle.std.specs.Prelude.{ℕ, codes, List, ◌++◌}
use Rattle.std.specs.Fmt.{decimal}
use Rattle.line_words.specs.Lines.{line_text}

-- the refusal of a line of the input for what has this name
abbrev pub bad_line_text : ℕ → List ℕ → List ℕ
bad_line_text line name = codes "refused line " ++ decimal line ++ codes ": " ++ name ++ line_text (codes "")

-- the refusal of a device
abbrev pub device_text : List ℕ → List ℕ → List ℕ
device_text device why = codes "refused: device " ++ device ++ codes ": " ++ why ++ line_text (codes "")
