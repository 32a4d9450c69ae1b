-- A line that is read is the one spelling of what it says.
use Rattle.std.proofs.Common.{◌≡◌, ℕ, ◌<◌, ◌^◌, Bool, true, false, cond, ◌&&◌, nat_le, nat_eq, List, [], ◌∷◌, ◌++◌, Option, Some, None, Ok, Err, option_map, codes, refl, sym, ap, ◌∙◌, subst, arith}
use Rattle.std.specs.List.{starts_with}
use Rattle.std.specs.Fmt.{decimal}
use Rattle.std.proofs.lemmas.Bool.{and_parts, false≢true}
use Rattle.std.proofs.lemmas.Bool.Decides.{nat_tests}
use Rattle.std.proofs.lemmas.Option.{same_Some}
use Rattle.line_words.specs.Words.{hex_of, is_text, is_visible, is_word, number_of}
use Rattle.line_words.specs.Lines.{joined, words_of}
use Rattle.line_words.proofs.Numbers.{number_of-is}
use Rattle.line_words.proofs.Spells.{joined-words_of, text-is, named-is, hex_of-is, hex_of-some}
use Rattle.ipe_policy.specs.Words.{is_comm, is_dev_name, is_path}
use Rattle.ipe_policy.specs.declared.request.Kind.{Kind}
use Rattle.ipe_policy.specs.declared.request.Kind.TheVariants.{Firmware, Module, KexecImage, KexecInitramfs, Policy, X509}
use Rattle.dmv_volume.specs.Table.{TableParts}
use Rattle.ipe_requests.specs.declared.script.MarkPurpose.{MarkPurpose}
use Rattle.ipe_requests.specs.declared.script.MarkPurpose.TheVariants as purpose
use Rattle.ipe_requests.specs.declared.script.MarkVerdict.{MarkVerdict}
use Rattle.ipe_requests.specs.declared.script.MarkVerdict.TheVariants as verdict
use Rattle.ipe_requests.specs.declared.line.Shape.{Shape}
use Rattle.ipe_requests.specs.declared.line.Shape.TheVariants as shape
use Rattle.ipe_requests.specs.declared.line.ScriptKind.{ScriptKind}
use Rattle.ipe_requests.specs.declared.line.ScriptKind.TheVariants as fault
use Rattle.ipe_requests.specs.declared.line.Line.{Line}
use Rattle.ipe_requests.specs.declared.known.Known.{Known}
use Rattle.ipe_requests.specs.Words.{at_least, at_most, worker_of, kind_of, kind_word, purpose_of, purpose_word, verdict_of, verdict_word, right_of, right_word, bit_of, bit_word, bytes_of, bytes_word, path_word}
use Rattle.ipe_requests.specs.TableWords.{table_of}
use Rattle.ipe_requests.specs.Known.{a_file, a_seal, is_declared}
use Rattle.ipe_requests.specs.Table.{Rule, Number, Worker, Name, Visible, Comm, Bit, FileKind, Purpose, Verdict, Right, Digits, Content, New, Old, OldOrDash, Unsealed, Cell, Fixed, By, Table, cells, may_follow, ValueOf, Values, line_of}
use Rattle.ipe_requests.specs.Reading.{and_then, is_name_of, read_word, read_table, read_cells, spell_word, spell_cells, are_many, may_be, has_form, shape_of, read_shape, read_line}
use Rattle.ipe_requests.specs.Spelling.{shape_for, values_of}
use Rattle.ipe_requests.proofs.Results.{and_then-is, good, new-ok, ok-is, ok_or-is, old-ok, unless-ok, unsealed-ok}
use Rattle.ipe_requests.proofs.Found.{found-fits}

-- ---- a word by its rule

pub at_least-is : (low : ℕ) (o : Option ℕ) (n : ℕ) → at_least low o ≡ Some n → o ≡ Some n
at_least-is low None n e = e
at_least-is low (Some m) n e = chosen (nat_le low m) e
  where
    chosen : (b : Bool) → cond b (Some m) None ≡ Some n → Some m ≡ Some n
    chosen true e = e
    chosen false e = absurd (cc)

pub at_most-is : (high : ℕ) (o : Option ℕ) (n : ℕ) → at_most high o ≡ Some n → o ≡ Some n
at_most-is high None n e = e
at_most-is high (Some m) n e = chosen (nat_le m high) e
  where
    chosen : (b : Bool) → cond b (Some m) None ≡ Some n → Some m ≡ Some n
    chosen true e = e
    chosen false e = absurd (cc)

kind-is : (word : List ℕ) (kind : Kind) → kind_of word ≡ Some kind → word ≡ kind_word kind
unfolding kind_of
kind-is word kind e =
    named-is kind_word (codes "firmware") word Firmware kind _ refl e (λ e.
    named-is kind_word (codes "module") word Module kind _ refl e (λ e.
    named-is kind_word (codes "kexec-image") word KexecImage kind _ refl e (λ e.
    named-is kind_word (codes "kexec-initramfs") word KexecInitramfs kind _ refl e (λ e.
    named-is kind_word (codes "policy") word Policy kind _ refl e (λ e.
    named-is kind_word (codes "x509") word X509 kind None refl e (λ e. absurd (cc)))))))

purpose-is : (word : List ℕ) (what : MarkPurpose) → purpose_of word ≡ Some what → word ≡ purpose_word what
unfolding purpose_of
purpose-is word what e =
    named-is purpose_word (codes "policy") word purpose.Policy what _ refl e (λ e.
    named-is purpose_word (codes "root") word purpose.Root what _ refl e (λ e.
    named-is purpose_word (codes "file") word purpose.File what None refl e (λ e. absurd (cc))))

verdict-is : (word : List ℕ) (what : MarkVerdict) → verdict_of word ≡ Some what → word ≡ verdict_word what
unfolding verdict_of
verdict-is word what e =
    named-is verdict_word (codes "trusted") word verdict.Trusted what _ refl e (λ e.
    named-is verdict_word (codes "unknown") word verdict.Unknown what _ refl e (λ e.
    named-is verdict_word (codes "revoked") word verdict.Revoked what None refl e (λ e. absurd (cc))))

right-is : (word : List ℕ) (may : Bool) → right_of word ≡ Some may → word ≡ right_word may
unfolding right_of
right-is word may e =
    named-is right_word (codes "admin") word true may _ refl e (λ e.
    named-is right_word (codes "guest") word false may None refl e (λ e. absurd (cc)))

bit-is : (word : List ℕ) (bit : Bool) → bit_of word ≡ Some bit → word ≡ bit_word bit
unfolding bit_of
bit-is word bit e =
    named-is bit_word (codes "0") word false bit _ refl e (λ e.
    named-is bit_word (codes "1") word true bit None refl e (λ e. absurd (cc)))

bytes-some : (word bytes : List ℕ) → hex_of 2 8192 word ≡ Some bytes → word ≡ bytes_word bytes
bytes-some word [] e = absurd (hex_of-some 8192 word e)
bytes-some word (byte ∷ bytes) e = hex_of-is 2 8192 word (byte ∷ bytes) e

bytes-is : (word bytes : List ℕ) → bytes_of word ≡ Some bytes → word ≡ bytes_word bytes
unfolding bytes_of
bytes-is word bytes e = named-is bytes_word (codes "-") word [] bytes _ refl e (λ e. bytes-some word bytes e)

dash-ok : (dash b d : Bool) (word : List ℕ) (value : Option (List ℕ)) (f g : ScriptKind) → is_text (codes "-") word ≡ dash
    → cond dash (Ok None) (cond b (cond d (Ok (Some word)) (Err f)) (Err g)) ≡ Ok value → word ≡ path_word value
dash-ok true b d word value f g is e =
    let same : None ≡ value = cc in text-is (codes "-") word is ∙ ap path_word same
dash-ok false true true word value f g is e = let same : Some word ≡ value = cc in ap path_word same
dash-ok false true false word value f g is e = absurd (cc)
dash-ok false false d word value f g is e = absurd (cc)

worker-is : (workers : ℕ) (word : List ℕ) (n : ℕ) → starts_with nat_eq word (codes "w") ≡ true
    → worker_of workers word ≡ Some n → word ≡ codes "w" ++ decimal n
worker-is workers [] n w e = absurd (cc)
worker-is workers (letter ∷ digits) n w e =
    let some = at_least-is 1 (number_of 30 digits) n (at_most-is workers _ n e) in
    let first : letter ≡ 119 = grind (arith, nat_tests) in
    let rest : digits ≡ decimal n = number_of-is digits 30 n (omega arith) some in
    rw (first, rest)

-- the numbers of a rule are of 64 bits
abbrev pub is_small : Rule → Bool
is_small (Number low high) = nat_le high 18446744073709551615
is_small other = true

read_word-spelled : (known : Known) (rule : Rule) (word : List ℕ) (value : ValueOf rule) → is_small rule ≡ true
    → may_be rule word ≡ true → read_word known rule word ≡ Ok value → word ≡ spell_word rule value
read_word-spelled known (Number low high) word value small may e =
    let below : high < 2 ^ 64 = grind (arith, nat_tests) in
    number_of-is word high value below
    (at_least-is low (number_of high word) value (ok_or-is (at_least low (number_of high word)) fault.Number value e))
read_word-spelled known Worker word value small may e =
    worker-is known.workers word value may (ok_or-is (worker_of known.workers word) fault.Number value e)
read_word-spelled known Name word value small may e = (unless-ok (is_dev_name word) word value fault.Name e).1
read_word-spelled known (Visible most) word value small may e =
    (unless-ok (is_word 1 most is_visible word) word value fault.Name e).1
read_word-spelled known Comm word value small may e = (unless-ok (is_comm word) word value fault.Name e).1
read_word-spelled known Bit word value small may e = bit-is word value (ok_or-is (bit_of word) fault.Number value e)
read_word-spelled known FileKind word value small may e = kind-is word value (ok_or-is (kind_of word) fault.Name value e)
read_word-spelled known Purpose word value small may e =
    purpose-is word value (ok_or-is (purpose_of word) fault.Name value e)
read_word-spelled known Verdict word value small may e =
    verdict-is word value (ok_or-is (verdict_of word) fault.Name value e)
read_word-spelled known Right word value small may e = right-is word value (ok_or-is (right_of word) fault.Form value e)
read_word-spelled known (Digits low high) word value small may e =
    hex_of-is low high word value (ok_or-is (hex_of low high word) fault.Hex value e)
read_word-spelled known Content word value small may e =
    bytes-is word value (ok_or-is (bytes_of word) fault.Hex value e)
read_word-spelled known (New thing) word value small may e =
    (new-ok (is_name_of thing word) (is_declared thing known word) word value fault.Twice fault.Name e).2
read_word-spelled known (Old thing) word value small may e =
    (old-ok (is_name_of thing word) (is_declared thing known word) word value fault.Unknown fault.Name e).2
read_word-spelled known OldOrDash word value small may e =
    dash-ok (is_text (codes "-") word) (is_path word) (is_declared a_file known word) word value fault.Unknown fault.Name
    refl e
read_word-spelled known Unsealed word value small may e =
    (unsealed-ok (is_path word) (is_declared a_seal known word) (is_declared a_file known word) word value fault.Twice
    fault.Unknown fault.Name e).3

-- ---- the words of a line by its cells

abbrev pub all_small : List Cell → Bool
all_small [] = true
all_small (Fixed text ∷ row) = all_small row
all_small (By rule ∷ row) = is_small rule && all_small row
all_small (Table ∷ row) = true

-- words and their spelling are the same bytes, and there are some of both or none of both
pub record Same (words spelled : List (List ℕ)) : Type 0 where
  pub bytes : joined words ≡ joined spelled
  pub none : words ≡ [] → spelled ≡ []
  pub some : spelled ≡ [] → words ≡ []

same-more : (word spelt : List ℕ) (words spelled : List (List ℕ)) → word ≡ spelt → Same words spelled
    → Same (word ∷ words) (spelt ∷ spelled)
same-more word spelt [] [] e same = record { bytes = e; none = λ h. absurd (cc); some = λ h. absurd (cc) }
same-more word spelt [] (other ∷ spelled) e same = let none : other ∷ spelled ≡ [] = same.none refl in absurd (cc)
same-more word spelt (other ∷ words) [] e same = let none : other ∷ words ≡ [] = same.some refl in absurd (cc)
same-more word spelt (next ∷ words) (other ∷ spelled) e same = record {
  bytes = ap (λ (w : List ℕ). w ++ 32 ∷ joined (next ∷ words)) e
      ∙ ap (λ (b : List ℕ). spelt ++ 32 ∷ b) same.bytes;
  none = λ h. absurd (cc);
  some = λ h. absurd (cc);
}

table-same : (words : List (List ℕ)) (values : List ℕ × TableParts) → are_many words ≡ true
    → read_table words ≡ Ok values → Same words (values.0 ∷ [])
table-same [] values many e = absurd (false≢true many)
table-same (word ∷ words) values many e =
    let given : option_map (λ table. (joined (word ∷ words), table)) (table_of (word ∷ words)) ≡ Some values =
    ok_or-is (option_map (λ table. (joined (word ∷ words), table)) (table_of (word ∷ words))) fault.Table values e in
    record {
      bytes = mapped (table_of (word ∷ words)) given;
      none = λ h. absurd (cc);
      some = λ h. absurd (cc);
    }
  where
    mapped : (o : Option TableParts) → option_map (λ table. (joined (word ∷ words), table)) o ≡ Some values
        → joined (word ∷ words) ≡ values.0
    mapped None e = absurd (cc)
    mapped (Some table) e =
        ap (λ (v : List ℕ × TableParts). v.0) (same_Some (joined (word ∷ words), table) values e)

-- words that are read by cells whose form they have are the spelling of what they say
pub read_cells-spelled : (known : Known) (row : List Cell) (words : List (List ℕ)) (values : Values row)
    → all_small row ≡ true → has_form row words ≡ true → read_cells known row words ≡ Ok values
    → Same words (spell_cells row values)
read_cells-spelled known [] [] values small form e = record { bytes = refl; none = λ h. h; some = λ h. h }
read_cells-spelled known [] (word ∷ words) values small form e = absurd (false≢true form)
read_cells-spelled known (Fixed text ∷ row) [] values small form e = absurd (false≢true form)
read_cells-spelled known (By rule ∷ row) [] values small form e = absurd (false≢true form)
read_cells-spelled known (Table ∷ row) words values small form e = table-same words values form e
read_cells-spelled known (Fixed text ∷ row) (word ∷ words) values small form e =
    let parts = and_parts (is_text text word) (has_form row words) form in
    same-more word text words (spell_cells row values) (text-is text word parts.0)
    (read_cells-spelled known row words values small parts.1 e)
read_cells-spelled known (By rule ∷ row) (word ∷ words) values small form e =
    let parts = and_parts (may_be rule word) (has_form row words) form in
    let smalls = and_parts (is_small rule) (all_small row) small in
    let one = and_then-is (λ value. and_then (λ values. Ok (value, values)) (read_cells known row words))
    (read_word known rule word) values e in
    let two = and_then-is {A = Values row} {B = Values (By rule ∷ row)} (λ values. Ok (one.0, values))
    (read_cells known row words) values one.2 in
    let same : (one.0, two.0) ≡ values = ok-is {A = Values (By rule ∷ row)} (one.0, two.0) values two.2 in
    subst (λ (vs : Values (By rule ∷ row)). Same (word ∷ words) (spell_cells (By rule ∷ row) vs)) same
    (same-more word (spell_word rule one.0) words (spell_cells row two.0)
    (read_word-spelled known rule word one.0 smalls.0 parts.0 one.1)
    (read_cells-spelled known row words two.0 smalls.1 parts.1 two.1))

-- ---- the table's own facts: one clause a shape, each by computation

pub table_small : (s : Shape) → all_small (cells s) ≡ true
table_small shape.Header = refl
table_small shape.Workers = refl
table_small shape.Text = refl
table_small shape.Volume = refl
table_small shape.FileBoot = refl
table_small shape.FileVolume = refl
table_small shape.FilePlain = refl
table_small shape.Seal = refl
table_small shape.MarkText = refl
table_small shape.MarkHex = refl
table_small shape.Phase = refl
table_small shape.WriteText = refl
table_small shape.WriteEcho = refl
table_small shape.WriteHex = refl
table_small shape.Read = refl
table_small shape.Exec = refl
table_small shape.Mmap = refl
table_small shape.Mprotect = refl
table_small shape.KernelRead = refl
table_small shape.KernelLoad = refl
table_small shape.End = refl

-- the words of a line
abbrev pub words_for : Line → List (List ℕ)
words_for said = spell_cells (cells (shape_for said)) (values_of said)

pub table_told : (number : ℕ) (s : Shape) (values : Values (cells s))
    → words_for (line_of number s values) ≡ spell_cells (cells s) values
table_told number shape.Header values = refl
table_told number shape.Workers values = refl
table_told number shape.Text values = refl
table_told number shape.Volume values = refl
table_told number shape.FileBoot values = refl
table_told number shape.FileVolume values = refl
table_told number shape.FilePlain values = refl
table_told number shape.Seal values = refl
table_told number shape.MarkText values = refl
table_told number shape.MarkHex values = refl
table_told number shape.Phase values = refl
table_told number shape.WriteText values = refl
table_told number shape.WriteEcho values = refl
table_told number shape.WriteHex values = refl
table_told number shape.Read values = refl
table_told number shape.Exec values = refl
table_told number shape.Mmap values = refl
table_told number shape.Mprotect values = refl
table_told number shape.KernelRead values = refl
table_told number shape.KernelLoad values = refl
table_told number shape.End values = refl

-- ---- a line

-- what is known of a line that is read: its shape, what its words say, and that they are spelled so
pub record Read (known : Known) (bytes : List ℕ) (said : Line) : Type 0 where
  pub shape : Shape
  pub values : Values (cells shape)
  pub found : shape_of (may_follow known.section) (words_of bytes) ≡ Some shape
  pub says : line_of known.count shape values ≡ said
  pub spelled : bytes ≡ joined (words_for said)

read_shape-spelled : (known : Known) (bytes : List ℕ) (o : Option Shape) (said : Line)
    → shape_of (may_follow known.section) (words_of bytes) ≡ o
    → read_shape known (words_of bytes) known.section o ≡ Ok said → Read known bytes said
read_shape-spelled known bytes None said is e = absurd (cc)
read_shape-spelled known bytes (Some s) said is e =
    let form : has_form (cells s) (words_of bytes) ≡ true =
    found-fits known.section (words_of bytes) (Some s) s (sym is) refl in
    let two = and_then-is (λ values. good (line_of known.count s values)) (read_cells known (cells s) (words_of bytes))
    said e in
    let same : line_of known.count s two.0 ≡ said = ok-is (line_of known.count s two.0) said two.2 in
    record {
      shape = s;
      values = two.0;
      found = is;
      says = same;
      spelled = sym (joined-words_of bytes)
          ∙ (read_cells-spelled known (cells s) (words_of bytes) two.0 (table_small s) form two.1).bytes
          ∙ ap joined (sym (table_told known.count s two.0) ∙ ap words_for same);
    }

-- a line that is read is the spelling of what it says
pub read_line-spelled : (known : Known) (bytes : List ℕ) (said : Line) → read_line known bytes ≡ Ok said
    → Read known bytes said
read_line-spelled known bytes said e =
    read_shape-spelled known bytes (shape_of (may_follow known.section) (words_of bytes)) said refl e
