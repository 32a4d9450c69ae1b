-- What the lines before a line come to. It is the only thing that the reading of a line looks back at.
use Rattle.std.specs.Prelude.{◌≡◌, ℕ, zero, suc, ◌+◌, ◌*◌, ◌-◌, max, min, Bool, true, false, if◌then◌else◌, codes, nat_eq, nat_le, nat_lt, ◌&&◌, ◌||◌, List, [], ◌∷◌, ◌++◌, length, Option, None, Some, is_some, position, slice_get}
use Rattle.std.specs.List.{ends_with}
use Rattle.std.specs.Option.{option_and_then, option_map_or}
use Rattle.line_words.specs.Words.{is_text}
use Rattle.ipe_policy.specs.declared.request.Request.{Request}
use Rattle.ipe_policy.specs.declared.request.Request.TheVariants as request
use Rattle.ipe_requests.specs.declared.script.TextLine.{TextLine}
use Rattle.ipe_requests.specs.declared.script.VolumeLine.{VolumeLine}
use Rattle.ipe_requests.specs.declared.script.FileForm.{FileForm}
use Rattle.ipe_requests.specs.declared.script.FileForm.TheVariants as form
use Rattle.ipe_requests.specs.declared.script.FileLine.{FileLine}
use Rattle.ipe_requests.specs.declared.script.Phase.{Phase}
use Rattle.ipe_requests.specs.declared.script.PhaseLine.{PhaseLine}
use Rattle.ipe_requests.specs.declared.script.PhaseLine.TheVariants as asked
use Rattle.ipe_requests.specs.declared.script.WriteContent.{WriteContent}
use Rattle.ipe_requests.specs.declared.script.WriteContent.TheVariants as content
use Rattle.ipe_requests.specs.declared.line.Section.TheVariants as section
use Rattle.ipe_requests.specs.declared.line.Line.{Line}
use Rattle.ipe_requests.specs.declared.line.Line.TheVariants as line
use Rattle.ipe_requests.specs.declared.known.Known.{Known}
use Rattle.ipe_requests.specs.declared.known.OpenText.{OpenText}
use Rattle.ipe_requests.specs.declared.known.Declared.{Declared}

-- ---- what is declared

-- nothing is declared
abbrev pub nothing : {A : Type 0} → Declared A
nothing = record { names = []; items = [] }

-- a thing is declared under a name
abbrev pub with_item : {A : Type 0} → Declared A → List ℕ → A → Declared A
with_item things name item = record { names = things.names ++ name ∷ []; items = things.items ++ item ∷ [] }

-- the thing that is declared under a name
abbrev pub item_of : {A : Type 0} → Declared A → List ℕ → Option A
item_of things name = option_and_then (λ place. slice_get things.items place) (position (is_text name) things.names)

-- ---- sizes

-- the bytes of a text
abbrev pub text_size : Known → List ℕ → ℕ
text_size known id = option_map_or (λ (text : TextLine). length text.bytes) (item_of known.texts id) 0

-- the size of a file
abbrev pub size_of : Known → FileForm → ℕ
size_of known (form.Boot dev ino text) = text_size known text
size_of known (form.Volume volume first size ino) = size
size_of known (form.Plain device at size dev ino) = size

-- the size of the file of a path
abbrev pub file_size : Known → List ℕ → ℕ
file_size known path = option_map_or (λ (file : FileLine). size_of known file.form) (item_of known.files path) 0

-- a program check and a kernel read read the file
abbrev pub reads_file : Request → Bool
reads_file request.ExecCheck = true
reads_file (request.KernelRead kind) = true
reads_file other = false

-- the bytes that a hook reads
abbrev pub hook_work : Known → Request → Option (List ℕ) → ℕ
hook_work known asked None = 0
hook_work known asked (Some path) = if reads_file asked then file_size known path else 0

-- the bytes of a text that is written
abbrev pub write_work : Known → WriteContent → ℕ
write_work known (content.Text id) = text_size known id
write_work known (content.Echo word) = 0
write_work known (content.Hex bytes) = 0

-- a read of such a node gives a policy's text
abbrev pub gives_text : List ℕ → Bool
gives_text node = ends_with nat_eq node (codes "/pkcs7") || ends_with nat_eq node (codes "/policy")

-- the bytes that a read of a node may give: those of the longest text, or 4,096 where that is more
abbrev pub read_size : Known → List ℕ → ℕ
read_size known node = if gives_text node then known.longest else 0

-- ---- a line more

-- before the first line
abbrev pub at_first : Known
at_first = record {
  section = section.Start;
  count = 0;
  due = 0;
  text = None;
  workers = 0;
  texts = nothing;
  volumes = nothing;
  files = nothing;
  seals = nothing;
  marks = [];
  phases = [];
  opened = None;
  asked = [];
  devices = [];
  commands = 0;
  hooks = 0;
  work = 0;
  reads = 0;
  longest = 4096;
}

-- the open text is whole
abbrev pub with_whole : Known → OpenText → Known
with_whole known text = record known {
  due = 0;
  text = None;
  texts = record {
    names = known.texts.names;
    items = known.texts.items
        ++ (record { line = text.line; id = text.id; lines = text.lines; bytes = text.bytes }) ∷ [];
  };
  longest = max known.longest (length text.bytes);
}

-- a text of which so many lines are still to come
abbrev pub with_open : Known → OpenText → ℕ → Known
with_open known text zero = with_whole known text
with_open known text (suc due) = record known { due = suc due; text = Some text }

-- a line of the open text
abbrev pub with_raw : Known → Option OpenText → List ℕ → Known
with_raw known None bytes = known
with_raw known (Some text) bytes =
    with_open known (record text { bytes = text.bytes ++ bytes ++ 10 ∷ [] }) (known.due - 1)

-- a text begins
abbrev pub with_text : Known → OpenText → Known
with_text known text =
    with_open (record known {
      section = section.Texts;
      texts = record { names = known.texts.names ++ text.id ∷ []; items = known.texts.items };
    }) text text.lines

-- the devices that are named, each once, in the order of their first naming
abbrev pub with_device : List (List ℕ) → List ℕ → List (List ℕ)
with_device devices name = if is_some (position (is_text name) devices) then devices else devices ++ name ∷ []

-- the devices with those of a file
abbrev pub with_form : List (List ℕ) → FileForm → List (List ℕ)
with_form devices (form.Plain device at size dev ino) = with_device devices device
with_form devices other = devices

-- the phases with the one that has begun last
abbrev pub with_opened : List Phase → Option ℕ → List PhaseLine → List Phase
with_opened phases None lines = phases
with_opened phases (Some line) lines = phases ++ (record { line = line; lines = lines }) ∷ []

-- all the phases
abbrev pub phases_of : Known → List Phase
phases_of known = with_opened known.phases known.opened known.asked

-- a count of 64 bits that rises stands still at its end
abbrev pub raised : ℕ → ℕ → ℕ
raised count more = min (count + more) 18446744073709551615

-- the counts with those of a line of a phase
abbrev pub with_counts : Known → PhaseLine → Known
with_counts known (asked.Write number may node what) = record known {
  commands = raised known.commands 1;
  work = raised known.work (write_work known what);
}
with_counts known (asked.Read number node) = record known {
  commands = raised known.commands 1;
  reads = raised known.reads (read_size known node);
}
with_counts known (asked.Hook number worker what subject path) = record known {
  hooks = raised known.hooks 1;
  work = raised known.work (hook_work known what path);
}

-- the phase that has begun last with a line more
abbrev pub with_last : Known → PhaseLine → Known
with_last known what = record known { section = section.Asked; asked = known.asked ++ what ∷ [] }

-- a line of a phase
abbrev pub with_asked : Known → PhaseLine → Known
with_asked known what = with_last (with_counts known what) what

-- what is known after a line that says this
abbrev pub with_line : Known → Line → Known
with_line known line.Header = record known { section = section.Header }
with_line known (line.Workers count) = record known { section = section.Workers; workers = count }
with_line known (line.Text text) = with_text known text
with_line known (line.Volume volume) = record known {
  section = section.Volumes;
  volumes = with_item known.volumes volume.id volume;
  devices = with_device (with_device known.devices volume.table.device) volume.table.hash_device;
}
with_line known (line.File file) = record known {
  section = section.Files;
  files = with_item known.files file.path file;
  devices = with_form known.devices file.form;
}
with_line known (line.Seal seal) = record known {
  section = section.Seals;
  seals = with_item known.seals seal.path seal;
  devices = with_device known.devices seal.device;
}
with_line known (line.Mark mark) = record known { section = section.Marks; marks = known.marks ++ mark ∷ [] }
with_line known (line.Phase number) = record known {
  section = section.Phase;
  phases = phases_of known;
  opened = Some number;
  asked = [];
}
with_line known (line.Asked what) = with_asked known what
with_line known line.End = record known {
  section = section.Ended;
  phases = phases_of known;
  opened = None;
  asked = [];
}

-- ---- limits

-- there are not too many declarations, devices, marks and phases
abbrev pub has_few_lines : Known → Bool
has_few_lines known =
    nat_le (length known.texts.names) 256
    && nat_le (length known.volumes.names) 64
    && nat_le (length known.files.names) 1024
    && nat_le (length known.devices) 8
    && nat_le (length known.marks) 4096
    && nat_le (length (phases_of known)) 1000

-- there are not too many commands and hooks, and they don't ask for too many bytes
abbrev pub asks_little : Known → Bool
asks_little known =
    nat_le known.commands 100000
    && nat_le known.hooks 200000
    && nat_le known.work 1073741824
    && nat_le known.reads 67108864

-- no limit is exceeded
abbrev pub is_within_limits : Known → Bool
is_within_limits known = has_few_lines known && asks_little known

-- a file of a volume ends beyond its data blocks
abbrev pub ends_beyond : Known → FileForm → Bool
ends_beyond known (form.Volume volume first size ino) =
    option_map_or (λ (named : VolumeLine).
    nat_lt (named.table.blocks * named.table.block_size) (first * named.table.block_size + size))
    (item_of known.volumes volume) false
ends_beyond known other = false

-- a line's range ends beyond what it is a range of
abbrev pub is_out_of_range : Known → Line → Bool
is_out_of_range known (line.File file) = ends_beyond known file.form
is_out_of_range known other = false

-- ---- names

-- what has a name of its own
pub data Thing : Type 0 where
  a_text : Thing
  a_volume : Thing
  a_file : Thing
  a_seal : Thing

-- the names of each thing that stand before
abbrev pub names_of : Thing → Known → List (List ℕ)
names_of a_text known = known.texts.names
names_of a_volume known = known.volumes.names
names_of a_file known = known.files.names
names_of a_seal known = known.seals.names

-- a thing of this name stands before
abbrev pub is_declared : Thing → Known → List ℕ → Bool
is_declared thing known name = is_some (position (is_text name) (names_of thing known))

-- a line declares no name that is declared before
abbrev pub IsNew : Known → Line → Type 0
IsNew known (line.Text text) = position (is_text text.id) known.texts.names ≡ None
IsNew known (line.Volume volume) = position (is_text volume.id) known.volumes.names ≡ None
IsNew known (line.File file) = position (is_text file.path) known.files.names ≡ None
IsNew known (line.Seal seal) = position (is_text seal.path) known.seals.names ≡ None
IsNew known other = Unit {0}
