-- A word that spells a value is read as the value, where it meets its rule.
use Rattle.std.proofs.Common.{◌≡◌, ℕ, ◌<◌, ◌≤◌, ◌^◌, Bool, true, false, cond, List, ◌++◌, Option, Some, None, codes, ok_or, Ok, Err, refl, ap, ◌∙◌, arith}
use Rattle.std.specs.Fmt.{decimal}
use Rattle.std.proofs.lemmas.Bool.{le-leb}
use Rattle.line_words.specs.Words.{is_visible, is_word, number_of}
use Rattle.line_words.proofs.Numbers.{number_of-decimal}
use Rattle.ipe_policy.specs.Words.{is_comm, is_dev_name}
use Rattle.ipe_policy.specs.declared.request.Kind.{Kind}
use Rattle.ipe_policy.specs.declared.request.Kind.TheVariants.{Firmware, Module, KexecImage, KexecInitramfs, Policy, X509}
use Rattle.ipe_requests.specs.declared.known.Known.{Known}
use Rattle.ipe_requests.specs.declared.line.ScriptKind.{ScriptKind}
use Rattle.ipe_requests.specs.declared.line.ScriptKind.TheVariants as fault
use Rattle.ipe_requests.specs.Words.{at_least, at_most, kind_of, kind_word}
use Rattle.ipe_requests.specs.Known.{Thing, is_declared}
use Rattle.ipe_requests.specs.Table.{Number, Worker, Name, Visible, Comm, FileKind, New, Old}
use Rattle.ipe_requests.specs.Reading.{is_name_of, read_word, unless}

least-is : (low n : ℕ) → low ≤ n → at_least low (Some n) ≡ Some n
least-is low n below = ap (λ (b : Bool). cond b (Some n) None) (le-leb low n below)

most-is : (high n : ℕ) → n ≤ high → at_most high (Some n) ≡ Some n
most-is high n below = ap (λ (b : Bool). cond b (Some n) None) (le-leb n high below)

number-is : (low high n : ℕ) → high < 2 ^ 64 → low ≤ n → n ≤ high → at_least low (number_of high (decimal n)) ≡ Some n
number-is low high n small least most =
    ap (λ (o : Option ℕ). at_least low o) (number_of-decimal (decimal n) high n small most refl) ∙ least-is low n least

-- a number in its range
pub number-said : (known : Known) (low high n : ℕ) → high < 2 ^ 64 → low ≤ n → n ≤ high
    → read_word known (Number low high) (decimal n) ≡ Ok n
number-said known low high n small least most =
    ap (λ (o : Option ℕ). ok_or o fault.Number) (number-is low high n small least most)

-- one of the workers
pub worker-said : (known : Known) (n : ℕ) → 0 < n → n ≤ known.workers → n ≤ 30
    → read_word known Worker (codes "w" ++ decimal n) ≡ Ok n
worker-said known n some among few =
    ap (λ (o : Option ℕ). ok_or (at_most known.workers o) fault.Number)
    (number-is 1 30 n (omega arith) (omega arith) few)
    ∙ ap (λ (o : Option ℕ). ok_or o fault.Number) (most-is known.workers n among)

tested : (b : Bool) (fault : ScriptKind) (word : List ℕ) → b ≡ true → unless fault b word ≡ Ok word
tested b fault word e = rw e refl

-- a short name
pub name-said : (known : Known) (word : List ℕ) → is_dev_name word ≡ true → read_word known Name word ≡ Ok word
name-said known word e = tested (is_dev_name word) fault.Name word e

-- visible bytes, not too many
pub visible-said : (known : Known) (most : ℕ) (word : List ℕ) → is_word 1 most is_visible word ≡ true
    → read_word known (Visible most) word ≡ Ok word
visible-said known most word e = tested (is_word 1 most is_visible word) fault.Name word e

-- a task's name
pub comm-said : (known : Known) (word : List ℕ) → is_comm word ≡ true → read_word known Comm word ≡ Ok word
comm-said known word e = tested (is_comm word) fault.Name word e

-- a kind of file
pub kind-said : (known : Known) (kind : Kind) → read_word known FileKind (kind_word kind) ≡ Ok kind
unfolding kind_of
kind-said known Firmware = refl
kind-said known Module = refl
kind-said known KexecImage = refl
kind-said known KexecInitramfs = refl
kind-said known Policy = refl
kind-said known X509 = refl

chosen-old : (b d : Bool) (word : List ℕ) (f g : ScriptKind) → b ≡ true → d ≡ true
    → cond b (cond d (Ok word) (Err f)) (Err g) ≡ Ok word
chosen-old b d word f g e declared = rw (e, declared) refl

chosen-new : (b d : Bool) (word : List ℕ) (f g : ScriptKind) → b ≡ true → d ≡ false
    → cond b (cond d (Err f) (Ok word)) (Err g) ≡ Ok word
chosen-new b d word f g e fresh = rw (e, fresh) refl

-- the name of a thing that is declared before
pub old-said : (known : Known) (thing : Thing) (word : List ℕ) → is_name_of thing word ≡ true
    → is_declared thing known word ≡ true → read_word known (Old thing) word ≡ Ok word
old-said known thing word e declared =
    chosen-old (is_name_of thing word) (is_declared thing known word) word fault.Unknown fault.Name e declared

-- the name of a thing that isn't
pub new-said : (known : Known) (thing : Thing) (word : List ℕ) → is_name_of thing word ≡ true
    → is_declared thing known word ≡ false → read_word known (New thing) word ≡ Ok word
new-said known thing word e fresh =
    chosen-new (is_name_of thing word) (is_declared thing known word) word fault.Twice fault.Name e fresh
