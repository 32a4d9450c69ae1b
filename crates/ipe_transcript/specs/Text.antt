-- The text of a transcript.
use Rattle.std.specs.Prelude.{ℕ, ◌+◌, codes, List, [], ◌∷◌, ◌++◌, Option, Some, None}
use Rattle.std.specs.List.{flat_map}
use Rattle.std.specs.Fmt.{decimal}
use Rattle.hex.specs.Hex.{encode_lower}
use Rattle.ipe_transcript.specs.declared.transcript.Content.{Content}
use Rattle.ipe_transcript.specs.declared.transcript.Content.TheVariants as content
use Rattle.ipe_transcript.specs.declared.transcript.Entry.{Entry}
use Rattle.ipe_transcript.specs.declared.transcript.Entry.TheVariants as entry
use Rattle.ipe_transcript.specs.Lines.{write_text, read_text, hook_text, access_line}
use Rattle.line_words.specs.Lines.{line_text}

-- the first block that is not the one that was hashed, and whose tree it is of
abbrev pub corrupt_text : List ℕ → ℕ → ℕ → List ℕ
corrupt_text whose level block = codes "content corrupt " ++ whose ++ codes " level=" ++ decimal level ++ codes " block=" ++ decimal block

-- what a file that was read came to
abbrev pub content_text : Content → List ℕ
content_text (content.Hash digest) = codes "content sha256:" ++ encode_lower digest
content_text (content.VolumeCorrupt level block) = corrupt_text (codes "volume") level block
content_text (content.FileCorrupt level block) = corrupt_text (codes "file") level block
content_text (content.BadDescriptor byte) = codes "content bad-descriptor byte=" ++ decimal byte

-- the content line, where the file was read
abbrev pub content_line : Option Content → List ℕ
content_line None = []
content_line (Some content) = line_text (content_text content)

-- an entry's line, after it its record lines, and after these its content line
abbrev pub entry_text : Entry → List ℕ
entry_text (entry.Write phase line may code epoch switched records) =
    line_text (write_text line may code epoch) ++ flat_map line_text records
entry_text (entry.Read phase line code epoch bytes) = line_text (read_text line code epoch bytes)
entry_text (entry.Hook phase line worker code place serial by access content) =
    line_text (hook_text line worker code place serial by) ++ access_line access ++ content_line content

-- a phase: its number, and its entries
abbrev pub phase_text : ℕ → List Entry → List ℕ
phase_text number entries = line_text (codes "phase " ++ decimal number) ++ flat_map entry_text entries

-- phases one after another, the first of them with this number
abbrev pub phases_text : ℕ → List (List Entry) → List ℕ
phases_text number [] = []
phases_text number (entries ∷ phases) = phase_text number entries ++ phases_text (number + 1) phases

-- a whole transcript: its first line, its phases, and its last line
abbrev pub transcript_text : List (List Entry) → List ℕ
transcript_text phases = line_text (codes "ipe-transcript 1") ++ phases_text 1 phases ++ line_text (codes "end")
