-- What a line that is read says, by the rules of its words.
use Rattle.std.proofs.Common.{◌≡◌, ℕ, ◌<◌, ◌≤◌, Bool, true, false, cond, ◌&&◌, nat_le, List, [], ◌∷◌, Option, Some, None, Ok, Err, codes, refl, subst, arith}
use Rattle.std.proofs.lemmas.Bool.{leb-true}
use Rattle.std.proofs.lemmas.Option.{same_Some}
use Rattle.line_words.specs.Words.{digits_onto, is_number, is_text, number_of}
use Rattle.line_words.specs.Lines.{words_of}
use Rattle.ipe_policy.specs.Words.{is_comm, is_dev_name, is_path}
use Rattle.ipe_requests.specs.declared.script.FileForm.{FileForm}
use Rattle.ipe_requests.specs.declared.script.FileForm.TheVariants as form
use Rattle.ipe_requests.specs.declared.script.MarkDigest.{MarkDigest}
use Rattle.ipe_requests.specs.declared.script.MarkDigest.TheVariants as digest
use Rattle.ipe_requests.specs.declared.script.WriteContent.{WriteContent}
use Rattle.ipe_requests.specs.declared.script.WriteContent.TheVariants as content
use Rattle.ipe_requests.specs.declared.script.PhaseLine.{PhaseLine}
use Rattle.ipe_requests.specs.declared.script.PhaseLine.TheVariants as asked
use Rattle.ipe_requests.specs.declared.line.Shape.{Shape}
use Rattle.ipe_requests.specs.declared.line.Shape.TheVariants as shape
use Rattle.ipe_requests.specs.declared.line.ScriptKind.TheVariants as fault
use Rattle.ipe_requests.specs.declared.line.Section.{Section}
use Rattle.ipe_requests.specs.declared.line.Line.{Line}
use Rattle.ipe_requests.specs.declared.line.Line.TheVariants as line
use Rattle.ipe_requests.specs.declared.known.Known.{Known}
use Rattle.ipe_requests.specs.Words.{at_least, at_most, worker_of}
use Rattle.ipe_requests.specs.Known.{a_text, a_volume, a_file, a_seal, is_declared}
use Rattle.ipe_requests.specs.Table.{Rule, Number, Worker, Name, Visible, Comm, Bit, FileKind, Purpose, Verdict, Right, Digits, Content, New, Old, OldOrDash, Unsealed, Cell, Fixed, By, Table, cells, may_follow, ValueOf, Values, line_of}
use Rattle.ipe_requests.specs.Reading.{and_then, is_name_of, read_word, read_cells, read_shape, read_line, rest, shape_of}
use Rattle.ipe_requests.specs.Rules.{line_number}
use Rattle.ipe_requests.proofs.Results.{and_then-is, good, new-ok, ok-is, ok_or-is, old-ok, unless-ok, unsealed-ok}
use Rattle.ipe_requests.proofs.Spelled.{at_least-is, at_most-is}

-- ---- a word by its rule

-- a path, where there is one, is declared
abbrev pub GoodPath : Known → Option (List ℕ) → Type 0
GoodPath known None = Unit {0}
GoodPath known (Some path) = (is_path path ≡ true) × (is_declared a_file known path ≡ true)

-- what is true of the value of a word
abbrev pub Says : Known → (rule : Rule) → ValueOf rule → Type 0
Says known (Number low high) n = (low ≤ n) × (n ≤ high)
Says known Worker n = (0 < n) × (n ≤ known.workers)
Says known Name word = is_dev_name word ≡ true
Says known (Visible most) word = Unit {0}
Says known Comm word = is_comm word ≡ true
Says known Bit bit = Unit {0}
Says known FileKind kind = Unit {0}
Says known Purpose purpose = Unit {0}
Says known Verdict verdict = Unit {0}
Says known Right may = Unit {0}
Says known (Digits low high) bytes = Unit {0}
Says known Content bytes = Unit {0}
Says known (New thing) word = is_name_of thing word ≡ true
Says known (Old thing) word = (is_name_of thing word ≡ true) × (is_declared thing known word ≡ true)
Says known OldOrDash path = GoodPath known path
Says known Unsealed word = (is_path word ≡ true) × (is_declared a_file known word ≡ true)

at_least-low : (low : ℕ) (o : Option ℕ) (n : ℕ) → at_least low o ≡ Some n → low ≤ n
at_least-low low None n e = absurd (cc)
at_least-low low (Some m) n e = chosen (nat_le low m) refl e
  where
    chosen : (b : Bool) → nat_le low m ≡ b → cond b (Some m) None ≡ Some n → low ≤ n
    chosen true is e = let same : m ≡ n = same_Some m n e in subst (λ (x : ℕ). low ≤ x) same (leb-true low m is)
    chosen false is e = absurd (cc)

at_most-high : (high : ℕ) (o : Option ℕ) (n : ℕ) → at_most high o ≡ Some n → n ≤ high
at_most-high high None n e = absurd (cc)
at_most-high high (Some m) n e = chosen (nat_le m high) refl e
  where
    chosen : (b : Bool) → nat_le m high ≡ b → cond b (Some m) None ≡ Some n → n ≤ high
    chosen true is e = let same : m ≡ n = same_Some m n e in subst (λ (x : ℕ). x ≤ high) same (leb-true m high is)
    chosen false is e = absurd (cc)

number_of-most : (most : ℕ) (word : List ℕ) (n : ℕ) → number_of most word ≡ Some n → n ≤ most
unfolding number_of
number_of-most most word n e = chosen (is_number word) (nat_le (digits_onto 0 word) most) refl e
  where
    chosen : (a b : Bool) → nat_le (digits_onto 0 word) most ≡ b
        → cond (a && b) (Some (digits_onto 0 word)) None ≡ Some n → n ≤ most
    chosen true true is e =
        let same : digits_onto 0 word ≡ n = same_Some (digits_onto 0 word) n e in
        subst (λ (x : ℕ). x ≤ most) same (leb-true (digits_onto 0 word) most is)
    chosen true false is e = absurd (cc)
    chosen false b is e = absurd (cc)

worker-good : (workers : ℕ) (word : List ℕ) (n : ℕ) → worker_of workers word ≡ Some n → (0 < n) × (n ≤ workers)
worker-good workers [] n e = absurd (cc)
worker-good workers (letter ∷ digits) n e =
    let some = at_most-is workers (at_least 1 (number_of 30 digits)) n e in
    let least : 1 ≤ n = at_least-low 1 (number_of 30 digits) n some in
    (omega (arith, least), at_most-high workers (at_least 1 (number_of 30 digits)) n e)

dash-good : (known : Known) (dash b d : Bool) (word : List ℕ) (value : Option (List ℕ)) → is_path word ≡ b
    → is_declared a_file known word ≡ d
    → cond dash (Ok None) (cond b (cond d (Ok (Some word)) (Err fault.Unknown)) (Err fault.Name)) ≡ Ok value
    → GoodPath known value
dash-good known true b d word value path declared e =
    let same : None ≡ value = cc in subst (λ (v : Option (List ℕ)). GoodPath known v) same tt
dash-good known false true true word value path declared e =
    let same : Some word ≡ value = cc in subst (λ (v : Option (List ℕ)). GoodPath known v) same (path, declared)
dash-good known false true false word value path declared e = absurd (cc)
dash-good known false false d word value path declared e = absurd (cc)

-- a word that is read meets its rule
read_word-says : (known : Known) (rule : Rule) (word : List ℕ) (value : ValueOf rule)
    → read_word known rule word ≡ Ok value → Says known rule value
read_word-says known (Number low high) word value e =
    let some = ok_or-is (at_least low (number_of high word)) fault.Number value e in (
      at_least-low low (number_of high word) value some,
      number_of-most high word value (at_least-is low (number_of high word) value some),
    )
read_word-says known Worker word value e =
    worker-good known.workers word value (ok_or-is (worker_of known.workers word) fault.Number value e)
read_word-says known Name word value e =
    let test = unless-ok (is_dev_name word) word value fault.Name e in
    subst (λ (w : List ℕ). is_dev_name w ≡ true) test.1 test.0
read_word-says known (Visible most) word value e = tt
read_word-says known Comm word value e =
    let test = unless-ok (is_comm word) word value fault.Name e in
    subst (λ (w : List ℕ). is_comm w ≡ true) test.1 test.0
read_word-says known Bit word value e = tt
read_word-says known FileKind word value e = tt
read_word-says known Purpose word value e = tt
read_word-says known Verdict word value e = tt
read_word-says known Right word value e = tt
read_word-says known (Digits low high) word value e = tt
read_word-says known Content word value e = tt
read_word-says known (New thing) word value e =
    let test = new-ok (is_name_of thing word) (is_declared thing known word) word value fault.Twice fault.Name e in
    subst (λ (w : List ℕ). is_name_of thing w ≡ true) test.2 test.0
read_word-says known (Old thing) word value e =
    let test = old-ok (is_name_of thing word) (is_declared thing known word) word value fault.Unknown fault.Name e in
    subst (λ (w : List ℕ). (is_name_of thing w ≡ true) × (is_declared thing known w ≡ true)) test.2 (test.0, test.1)
read_word-says known OldOrDash word value e =
    dash-good known (is_text (codes "-") word) (is_path word) (is_declared a_file known word) word value refl refl e
read_word-says known Unsealed word value e =
    let test = unsealed-ok (is_path word) (is_declared a_seal known word) (is_declared a_file known word) word value
    fault.Twice fault.Unknown fault.Name e in
    subst (λ (w : List ℕ). (is_path w ≡ true) × (is_declared a_file known w ≡ true)) test.3 (test.0, test.2)

-- ---- the words of a line by its cells

-- what is true of the values of a line's words
abbrev pub SayAll : Known → (row : List Cell) → Values row → Type 0
SayAll known [] values = Unit {0}
SayAll known (Fixed text ∷ row) values = SayAll known row values
SayAll known (By rule ∷ row) values = Says known rule values.0 × SayAll known row values.1
SayAll known (Table ∷ row) values = Unit {0}

read_cells-say : (known : Known) (row : List Cell) (words : List (List ℕ)) (values : Values row)
    → read_cells known row words ≡ Ok values → SayAll known row values
read_cells-say known [] words values e = tt
read_cells-say known (Fixed text ∷ row) words values e = read_cells-say known row (rest words) values e
read_cells-say known (Table ∷ row) words values e = tt
read_cells-say known (By rule ∷ row) [] values e = absurd (cc)
read_cells-say known (By rule ∷ row) (word ∷ words) values e =
    let one = and_then-is (λ value. and_then (λ values. Ok (value, values)) (read_cells known row words))
    (read_word known rule word) values e in
    let two = and_then-is {A = Values row} {B = Values (By rule ∷ row)} (λ values. Ok (one.0, values))
    (read_cells known row words) values one.2 in
    let same : (one.0, two.0) ≡ values = ok-is {A = Values (By rule ∷ row)} (one.0, two.0) values two.2 in
    subst (λ (vs : Values (By rule ∷ row)). SayAll known (By rule ∷ row) vs) same
    (read_word-says known rule word one.0 one.1, read_cells-say known row words two.0 two.1)

-- ---- a line

-- where a file's bytes are is declared
abbrev pub GoodForm : Known → FileForm → Type 0
GoodForm known (form.Boot dev ino text) = (is_dev_name dev ≡ true) × (is_declared a_text known text ≡ true)
GoodForm known (form.Volume volume first size ino) =
    (is_dev_name volume ≡ true) × (is_declared a_volume known volume ≡ true)
GoodForm known (form.Plain device at size dev ino) = is_dev_name dev ≡ true

-- a text that is marked is declared
abbrev pub GoodDigest : Known → MarkDigest → Type 0
GoodDigest known (digest.Text text) = is_declared a_text known text ≡ true
GoodDigest known (digest.Hex bytes) = Unit {0}

-- a text that is written is declared
abbrev pub GoodContent : Known → WriteContent → Type 0
GoodContent known (content.Text text) = is_declared a_text known text ≡ true
GoodContent known (content.Echo word) = Unit {0}
GoodContent known (content.Hex bytes) = Unit {0}

-- a line of a phase names what is declared
abbrev pub GoodAsked : Known → PhaseLine → Type 0
GoodAsked known (asked.Write number may node what) = GoodContent known what
GoodAsked known (asked.Read number node) = Unit {0}
GoodAsked known (asked.Hook number worker what subject path) =
    (0 < worker) × (worker ≤ known.workers) × (is_comm subject.comm ≡ true) × GoodPath known path

-- a line names what is declared, and its numbers are within their ranges
abbrev pub Good : Known → Line → Type 0
Good known line.Header = Unit {0}
Good known (line.Workers count) = (1 ≤ count) × (count ≤ 30)
Good known (line.Text text) = Unit {0}
Good known (line.Volume volume) = Unit {0}
Good known (line.File file) = (is_path file.path ≡ true) × GoodForm known file.form
Good known (line.Seal seal) = is_declared a_file known seal.path ≡ true
Good known (line.Mark mark) = GoodDigest known mark.digest
Good known (line.Phase number) = Unit {0}
Good known (line.Asked what) = (line_number what ≡ known.count) × GoodAsked known what
Good known line.End = Unit {0}

-- one clause a shape, each by its cells
table_good : (known : Known) (s : Shape) (values : Values (cells s)) → SayAll known (cells s) values
    → Good known (line_of known.count s values)
table_good known shape.Header values says = tt
table_good known shape.Workers values says = says.0
table_good known shape.Text values says = tt
table_good known shape.Volume values says = tt
table_good known shape.FileBoot (path, (dev, (ino, (text, end)))) (one, (two, (three, (four, none)))) =
    (one, (two, four.1))
table_good known shape.FileVolume (path, (volume, (first, (size, (ino, end)))))
    (one, (two, (three, (four, (five, none))))) = (one, two)
table_good known shape.FilePlain (path, (device, (at, (size, (dev, (ino, end))))))
    (one, (two, (three, (four, (five, (six, none)))))) = (one, five)
table_good known shape.Seal values says = says.0.1
table_good known shape.MarkText (purpose, (verdict, (text, end))) (one, (two, (three, none))) = three.1
table_good known shape.MarkHex values says = tt
table_good known shape.Phase values says = tt
table_good known shape.WriteText (may, (node, (text, end))) (one, (two, (three, none))) = (refl, three.1)
table_good known shape.WriteEcho values says = (refl, tt)
table_good known shape.WriteHex values says = (refl, tt)
table_good known shape.Read values says = (refl, tt)
table_good known shape.Exec (worker, (pid, (comm, (path, end)))) (one, (two, (three, (four, none)))) =
    (refl, (one.0, one.1, three, four))
table_good known shape.Mmap (worker, (pid, (comm, (prot, (path, end))))) (one, (two, (three, (four, (five, none))))) =
    (refl, (one.0, one.1, three, five))
table_good known shape.Mprotect (worker, (pid, (comm, (was, (prot, (path, end))))))
    (one, (two, (three, (four, (five, (six, none)))))) = (refl, (one.0, one.1, three, six))
table_good known shape.KernelRead (worker, (pid, (comm, (kind, (path, end)))))
    (one, (two, (three, (four, (five, none))))) = (refl, (one.0, one.1, three, five))
table_good known shape.KernelLoad (worker, (pid, (comm, (kind, end)))) (one, (two, (three, (four, none)))) =
    (refl, (one.0, one.1, three, tt))
table_good known shape.End values says = tt

read_shape-good : (known : Known) (words : List (List ℕ)) (place : Section) (o : Option Shape) (said : Line)
    → read_shape known words place o ≡ Ok said → Good known said
read_shape-good known words place None said e = absurd (cc)
read_shape-good known words place (Some s) said e =
    let two = and_then-is (λ values. good (line_of known.count s values)) (read_cells known (cells s) words) said e in
    subst (λ (l : Line). Good known l) (ok-is (line_of known.count s two.0) said two.2)
    (table_good known s two.0 (read_cells-say known (cells s) words two.0 two.1))

-- a line that is read names what is declared, and its numbers are within their ranges
pub read_line-good : (known : Known) (bytes : List ℕ) (said : Line) → read_line known bytes ≡ Ok said → Good known said
read_line-good known bytes said e =
    read_shape-good known (words_of bytes) known.section (shape_of (may_follow known.section) (words_of bytes)) said e
