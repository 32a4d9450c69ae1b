-- What the words of a request file's lines say.
use Rattle.std.specs.Prelude.{ℕ, nat_le, Bool, true, false, if◌then◌else◌, codes, List, [], ◌∷◌, Option, Some, None}
use Rattle.hex.specs.Hex.{encode_lower}
use Rattle.line_words.specs.Words.{hex_of, is_text, number_of}
use Rattle.ipe_policy.specs.declared.request.Kind.{Kind}
use Rattle.ipe_policy.specs.declared.request.Kind.TheVariants.{Firmware, Module, KexecImage, KexecInitramfs, Policy, X509}
use Rattle.ipe_requests.specs.declared.script.MarkPurpose.{MarkPurpose}
use Rattle.ipe_requests.specs.declared.script.MarkPurpose.TheVariants as purpose
use Rattle.ipe_requests.specs.declared.script.MarkVerdict.{MarkVerdict}
use Rattle.ipe_requests.specs.declared.script.MarkVerdict.TheVariants as verdict

-- the number of the word, where it is at least this
abbrev pub at_least : ℕ → Option ℕ → Option ℕ
at_least low None = None
at_least low (Some n) = if nat_le low n then Some n else None

-- the number of the word, where it is at most this
abbrev pub at_most : ℕ → Option ℕ → Option ℕ
at_most high None = None
at_most high (Some n) = if nat_le n high then Some n else None

-- the worker that `w` and a number name, of so many
abbrev pub worker_of : ℕ → List ℕ → Option ℕ
worker_of workers [] = None
worker_of workers (letter ∷ digits) = at_most workers (at_least 1 (number_of 30 digits))

-- the word of a kind of file that the kernel reads
abbrev pub kind_word : Kind → List ℕ
kind_word Firmware = codes "firmware"
kind_word Module = codes "module"
kind_word KexecImage = codes "kexec-image"
kind_word KexecInitramfs = codes "kexec-initramfs"
kind_word Policy = codes "policy"
kind_word X509 = codes "x509"

-- the kind of file that a word names
unfoldable pub kind_of : List ℕ → Option Kind
kind_of word =
    if is_text (codes "firmware") word then Some Firmware
    else if is_text (codes "module") word then Some Module
    else if is_text (codes "kexec-image") word then Some KexecImage
    else if is_text (codes "kexec-initramfs") word then Some KexecInitramfs
    else if is_text (codes "policy") word then Some Policy
    else if is_text (codes "x509") word then Some X509
    else None

-- the word of a mark's purpose
abbrev pub purpose_word : MarkPurpose → List ℕ
purpose_word purpose.Policy = codes "policy"
purpose_word purpose.Root = codes "root"
purpose_word purpose.File = codes "file"

-- the purpose of a mark that a word names
unfoldable pub purpose_of : List ℕ → Option MarkPurpose
purpose_of word =
    if is_text (codes "policy") word then Some purpose.Policy
    else if is_text (codes "root") word then Some purpose.Root
    else if is_text (codes "file") word then Some purpose.File
    else None

-- the word of a mark's verdict
abbrev pub verdict_word : MarkVerdict → List ℕ
verdict_word verdict.Trusted = codes "trusted"
verdict_word verdict.Unknown = codes "unknown"
verdict_word verdict.Revoked = codes "revoked"

-- the verdict of a mark that a word names
unfoldable pub verdict_of : List ℕ → Option MarkVerdict
verdict_of word =
    if is_text (codes "trusted") word then Some verdict.Trusted
    else if is_text (codes "unknown") word then Some verdict.Unknown
    else if is_text (codes "revoked") word then Some verdict.Revoked
    else None

-- the word of one who has the right to administer, or hasn't
abbrev pub right_word : Bool → List ℕ
right_word true = codes "admin"
right_word false = codes "guest"

-- whether the one whom a word names has the right to administer
unfoldable pub right_of : List ℕ → Option Bool
right_of word =
    if is_text (codes "admin") word then Some true else if is_text (codes "guest") word then Some false else None

-- the word of a truth value
abbrev pub bit_word : Bool → List ℕ
bit_word true = codes "1"
bit_word false = codes "0"

-- the truth value that a word says
unfoldable pub bit_of : List ℕ → Option Bool
bit_of word = if is_text (codes "0") word then Some false else if is_text (codes "1") word then Some true else None

-- bytes as lower case digits, a dash for none
abbrev pub bytes_word : List ℕ → List ℕ
bytes_word [] = codes "-"
bytes_word (byte ∷ bytes) = encode_lower (byte ∷ bytes)

-- the bytes that a dash or 2 to 8,192 digits say
unfoldable pub bytes_of : List ℕ → Option (List ℕ)
bytes_of word = if is_text (codes "-") word then Some [] else hex_of 2 8192 word

-- a path, or a dash for no file
abbrev pub path_word : Option (List ℕ) → List ℕ
path_word None = codes "-"
path_word (Some path) = path
