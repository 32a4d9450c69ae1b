-- What a line says after the lines before it, or what is wrong with it; and the same of a file.
use Rattle.std.specs.Prelude.{ℕ, zero, suc, ◌+◌, ◌==◌, ◌&&◌, ◌||◌, Bool, true, false, nat_eq, if◌then◌else◌, codes, List, [], ◌∷◌, ◌++◌, length, Option, Some, None, ok_or, Result, Ok, Err}
use Rattle.std.specs.List.{find, starts_with, slice_split}
use Rattle.std.specs.Option.{option_map}
use Rattle.std.specs.Fmt.{decimal}
use Rattle.hex.specs.Hex.{encode_lower}
use Rattle.line_words.specs.Words.{hex_of, is_text, is_visible, is_word, number_of}
use Rattle.line_words.specs.Lines.{is_line_feed, joined, words_of}
use Rattle.ipe_policy.specs.Words.{is_comm, is_dev_name, is_path}
use Rattle.dmv_volume.specs.Table.{TableParts}
use Rattle.ipe_requests.specs.declared.line.Shape.{Shape}
use Rattle.ipe_requests.specs.declared.line.ScriptKind.{ScriptKind}
use Rattle.ipe_requests.specs.declared.line.ScriptKind.TheVariants as fault
use Rattle.ipe_requests.specs.declared.line.Line.{Line}
use Rattle.ipe_requests.specs.declared.line.Section.{Section}
use Rattle.ipe_requests.specs.declared.line.Section.TheVariants as section
use Rattle.ipe_requests.specs.declared.known.Known.{Known}
use Rattle.ipe_requests.specs.Words.{at_least, worker_of, kind_of, kind_word, purpose_of, purpose_word, verdict_of, verdict_word, right_of, right_word, bit_of, bit_word, bytes_of, bytes_word, path_word}
use Rattle.ipe_requests.specs.TableWords.{table_of}
use Rattle.ipe_requests.specs.Known.{Thing, a_text, a_volume, a_file, a_seal, at_first, is_declared, is_out_of_range, is_within_limits, with_line, with_raw}
use Rattle.ipe_requests.specs.Table.{Rule, Number, Worker, Name, Visible, Comm, Bit, FileKind, Purpose, Verdict, Right, Digits, Content, New, Old, OldOrDash, Unsealed, Cell, Fixed, By, Table, cells, may_follow, ValueOf, Values, line_of}

-- a result goes on
abbrev pub and_then : {A B : Type 0} → (A → Result B ScriptKind) → Result A ScriptKind → Result B ScriptKind
and_then more (Ok value) = more value
and_then more (Err fault) = Err fault

-- ---- a word by its rule

-- the rule of names of each thing
abbrev pub is_name_of : Thing → List ℕ → Bool
is_name_of a_text word = is_dev_name word
is_name_of a_volume word = is_dev_name word
is_name_of a_file word = is_path word
is_name_of a_seal word = is_path word

-- the value, where the test holds, and else this fault
abbrev pub unless : {A : Type 0} → ScriptKind → Bool → A → Result A ScriptKind
unless fault true value = Ok value
unless fault false value = Err fault

-- what a word says by its rule
abbrev pub read_word : Known → (rule : Rule) → List ℕ → Result (ValueOf rule) ScriptKind
read_word known (Number low high) word = ok_or (at_least low (number_of high word)) fault.Number
read_word known Worker word = ok_or (worker_of known.workers word) fault.Number
read_word known Name word = unless fault.Name (is_dev_name word) word
read_word known (Visible most) word = unless fault.Name (is_word 1 most is_visible word) word
read_word known Comm word = unless fault.Name (is_comm word) word
read_word known Bit word = ok_or (bit_of word) fault.Number
read_word known FileKind word = ok_or (kind_of word) fault.Name
read_word known Purpose word = ok_or (purpose_of word) fault.Name
read_word known Verdict word = ok_or (verdict_of word) fault.Name
read_word known Right word = ok_or (right_of word) fault.Form
read_word known (Digits low high) word = ok_or (hex_of low high word) fault.Hex
read_word known Content word = ok_or (bytes_of word) fault.Hex
read_word known (New thing) word =
    if is_name_of thing word then (if is_declared thing known word then Err fault.Twice else Ok word) else Err fault.Name
read_word known (Old thing) word =
    if is_name_of thing word then (if is_declared thing known word then Ok word else Err fault.Unknown)
    else Err fault.Name
read_word known OldOrDash word =
    if is_text (codes "-") word then Ok None
    else if is_path word then (if is_declared a_file known word then Ok (Some word) else Err fault.Unknown)
    else Err fault.Name
read_word known Unsealed word =
    if is_path word then
    (if is_declared a_seal known word then Err fault.Twice
    else if is_declared a_file known word then Ok word
    else Err fault.Unknown)
    else Err fault.Name

-- the words after the first
abbrev pub rest : List (List ℕ) → List (List ℕ)
rest [] = []
rest (word ∷ words) = words

-- the words of a volume's table, and what they say
abbrev pub read_table : List (List ℕ) → Result (List ℕ × TableParts) ScriptKind
read_table words = ok_or (option_map (λ table. (joined words, table)) (table_of words)) fault.Table

-- what the words of a line say, by their cells, or the first fault from the left
abbrev pub read_cells : Known → (cells : List Cell) → List (List ℕ) → Result (Values cells) ScriptKind
read_cells known [] words = Ok tt
read_cells known (Fixed text ∷ cells) words = read_cells known cells (rest words)
read_cells known (By rule ∷ cells) [] = Err fault.Form
read_cells known (By rule ∷ cells) (word ∷ words) =
    and_then (λ value. and_then (λ values. Ok (value, values)) (read_cells known cells words))
    (read_word known rule word)
read_cells known (Table ∷ cells) words = read_table words

-- the word that says a value
abbrev pub spell_word : (rule : Rule) → ValueOf rule → List ℕ
spell_word (Number low high) n = decimal n
spell_word Worker n = codes "w" ++ decimal n
spell_word Name word = word
spell_word (Visible most) word = word
spell_word Comm word = word
spell_word Bit bit = bit_word bit
spell_word FileKind kind = kind_word kind
spell_word Purpose purpose = purpose_word purpose
spell_word Verdict verdict = verdict_word verdict
spell_word Right may = right_word may
spell_word (Digits low high) bytes = encode_lower bytes
spell_word Content bytes = bytes_word bytes
spell_word (New thing) word = word
spell_word (Old thing) word = word
spell_word OldOrDash path = path_word path
spell_word Unsealed word = word

-- the words that say values; those of a volume's table are one, with their blanks
abbrev pub spell_cells : (cells : List Cell) → Values cells → List (List ℕ)
spell_cells [] values = []
spell_cells (Fixed text ∷ cells) values = text ∷ spell_cells cells values
spell_cells (By rule ∷ cells) values = spell_word rule values.0 ∷ spell_cells cells values.1
spell_cells (Table ∷ cells) values = values.0 ∷ []

-- ---- the shape of a line

-- the word has the form of its rule: only `w`, `admin` and `guest` tell a line's form
abbrev pub may_be : Rule → List ℕ → Bool
may_be Worker word = starts_with nat_eq word (codes "w")
may_be Right word = is_text (codes "admin") word || is_text (codes "guest") word
may_be rule word = true

-- a volume's table has ten words, or thirteen with the option
abbrev pub are_many : List (List ℕ) → Bool
are_many words = (length words == 10) || (length words == 13)

-- as many words as cells, and each has its cell's form
abbrev pub has_form : List Cell → List (List ℕ) → Bool
has_form [] [] = true
has_form (Fixed text ∷ cells) (word ∷ words) = is_text text word && has_form cells words
has_form (By rule ∷ cells) (word ∷ words) = may_be rule word && has_form cells words
has_form (Table ∷ cells) words = are_many words
has_form cells words = false

-- the shape of a line among those that may stand in its place
abbrev pub shape_of : List Shape → List (List ℕ) → Option Shape
shape_of shapes words = find (λ shape. has_form (cells shape) words) shapes

-- ---- a line

-- the fault of a line that has none of the forms that may stand after a line of this section
abbrev pub misplaced : Section → ScriptKind
misplaced section.Start = fault.Header
misplaced section.Ended = fault.After
misplaced place = fault.Form

-- what the words of a shape say
abbrev pub reads : Known → Shape → List (List ℕ) → Result Line ScriptKind
reads known shape words =
    and_then (λ values. Ok (line_of known.count shape values)) (read_cells known (cells shape) words)

-- what a line of a shape says
abbrev pub read_shape : Known → List (List ℕ) → Section → Option Shape → Result Line ScriptKind
read_shape known words section None = Err (misplaced section)
read_shape known words section (Some shape) = reads known shape words

-- what a line says that isn't raw
abbrev pub read_line : Known → List ℕ → Result Line ScriptKind
read_line known bytes =
    read_shape known (words_of bytes) known.section (shape_of (may_follow known.section) (words_of bytes))

-- what is known after a line whose words are good: it is within its range, and then within the limits
abbrev pub take_line : Known → Line → Result Known ScriptKind
take_line known line =
    if is_out_of_range known line then Err fault.Range
    else if is_within_limits (with_line known line) then Ok (with_line known line)
    else Err fault.Limit

-- what is known after a line, where so many raw lines are due
abbrev pub take_due : ℕ → Known → List ℕ → Result Known ScriptKind
take_due zero known bytes = and_then (take_line known) (read_line known bytes)
take_due (suc due) known bytes = Ok (with_raw known known.text bytes)

-- a line has the next number
abbrev pub counted : Known → Known
counted known = record known { count = known.count + 1 }

-- what is known after the next line
abbrev pub take : Known → List ℕ → Result Known ScriptKind
take known bytes = take_due known.due (counted known) bytes

-- ---- a file

-- the first bad line
pub record FirstBad : Type 0 where
  pub line : ℕ
  pub fault : ScriptKind

-- the fault of the last piece, after which there is no line feed
abbrev pub last_piece : Section → List ℕ → Option ScriptKind
last_piece section.Ended [] = None
last_piece place [] = Some fault.Unended
last_piece place bytes = Some fault.NoNewline

-- what the last piece makes of the lines before it
abbrev pub end_with : Known → Option ScriptKind → Result Known FirstBad
end_with known None = Ok known
end_with known (Some fault) = Err (record { line = known.count + 1; fault = fault })

-- what pieces between line feeds come to, after the lines before
abbrev pub read_pieces : Known → List (List ℕ) → Result Known FirstBad
read_pieces known [] = Err (record { line = known.count + 1; fault = fault.Unended })
read_pieces known (last ∷ []) = end_with known (last_piece known.section last)
read_pieces known (bytes ∷ piece ∷ pieces) =
    elim (take known bytes) [
      | Ok more ↦ read_pieces more (piece ∷ pieces)
      | Err fault ↦ Err (record { line = known.count + 1; fault = fault })
    ]

-- what a request file comes to, or its first bad line
unfoldable pub file_read : List ℕ → Result Known FirstBad
file_read bytes = read_pieces at_first (slice_split is_line_feed bytes)
