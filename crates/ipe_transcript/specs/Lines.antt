-- The lines of a transcript.
use Rattle.std.specs.Prelude.{ℕ, ℤ, Bool, codes, List, [], ◌∷◌, ◌++◌, if◌then◌else◌, Option, Some, None}
use Rattle.std.specs.Fmt.{decimal, signed_decimal}
use Rattle.hex.specs.Hex.{encode_lower}
use Rattle.ipe_policy.specs.declared.evaluation.Which.{Which}
use Rattle.ipe_policy.specs.declared.evaluation.Which.TheVariants as which
use Rattle.ipe_machine.specs.declared.event.Place.{Place}
use Rattle.line_words.specs.Lines.{line_text}

-- who wrote: one who may administer, or one who may not
abbrev pub who_text : Bool → List ℕ
who_text may = if may then codes " admin" else codes " guest"

-- the number of a line, who acted, and the code
abbrev pub acted_text : ℕ → List ℕ → ℤ → List ℕ
acted_text line who code = codes "line=" ++ decimal line ++ who ++ codes " code=" ++ signed_decimal code

-- a write: the epoch is the one after it
abbrev pub write_text : ℕ → Bool → ℤ → ℕ → List ℕ
write_text line may code epoch = acted_text line (who_text may) code ++ codes " epoch=" ++ decimal epoch

-- bytes as hexadecimal digits, or a dash for none
abbrev pub bytes_text : List ℕ → List ℕ
bytes_text [] = codes "-"
bytes_text (byte ∷ bytes) = encode_lower (byte ∷ bytes)

-- what was read, where the read was answered
abbrev pub told_text : Option (List ℕ) → List ℕ
told_text None = []
told_text (Some bytes) = codes " bytes=" ++ bytes_text bytes

-- a read
abbrev pub read_text : ℕ → ℤ → ℕ → Option (List ℕ) → List ℕ
read_text line code epoch bytes =
    acted_text line (codes " admin") code ++ codes " epoch=" ++ decimal epoch ++ told_text bytes

-- the place of a claim, or dashes where there was none
abbrev pub place_text : Option Place → List ℕ
place_text None = codes " epoch=- count=-"
place_text (Some place) = codes " epoch=" ++ decimal place.epoch ++ codes " count=" ++ decimal place.count

-- the serial of the policy that was active, or a dash
abbrev pub serial_text : Option ℕ → List ℕ
serial_text None = codes " policy=-"
serial_text (Some serial) = codes " policy=" ++ decimal serial

-- which statement decided, or a dash where none did
abbrev pub by_text : Option Which → List ℕ
by_text None = codes " by=-"
by_text (Some (which.Rule number)) = codes " by=rule:" ++ decimal number
by_text (Some which.OpDefault) = codes " by=op"
by_text (Some which.GlobalDefault) = codes " by=global"

-- a hook of a worker
abbrev pub hook_text : ℕ → ℕ → ℤ → Option Place → Option ℕ → Option Which → List ℕ
hook_text line worker code place serial by =
    acted_text line (codes " w" ++ decimal worker) code ++ place_text place ++ serial_text serial ++ by_text by

-- the record of an access, where one is due
abbrev pub access_line : Option (List ℕ) → List ℕ
access_line None = []
access_line (Some record_line) = line_text record_line
