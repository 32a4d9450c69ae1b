-- The line numbers that a text spells, and those of entries.
use Rattle.std.specs.Prelude.{ℕ, codes, List, map, take, drop, Option}
use Rattle.std.specs.List.{before_first, filter_map, flat_map, slice_split}
use Rattle.line_words.specs.Words.{is_text, number_of, when}
use Rattle.line_words.specs.Lines.{is_blank, is_line_feed}
use Rattle.ipe_transcript.specs.declared.transcript.Entry.{Entry}
use Rattle.ipe_transcript.specs.Entries.{line_of}

-- the number that stands between `line=`, with which a line begins, and the next blank
abbrev pub line_spells : List ℕ → Option ℕ
line_spells line =
    when (is_text (codes "line=") (take 5 line)) (number_of 4294967295 (before_first is_blank (drop 5 line)))

-- the numbers that a text's lines spell, one line after another
unfoldable pub spelled : List ℕ → List ℕ
spelled text = filter_map line_spells (slice_split is_line_feed text)

-- the numbers of the entries' lines, phase after phase
abbrev pub numbers_of : List (List Entry) → List ℕ
numbers_of phases = flat_map (map line_of) phases
