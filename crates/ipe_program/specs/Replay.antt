-- What is written for a request file.
use Rattle.std.specs.Prelude.{◌≡◌, ℕ, codes, List, Ok, Option, Some, None, IfSome, IsSomeAnd, ◌⊎◌}
use Rattle.blk_device.specs.Contents.{Contents}
use Rattle.ipe_gate.specs.declared.meeting.Closed.{Closed}
use Rattle.ipe_gate.specs.Meeting.{history}
use Rattle.ipe_requests.specs.declared.line.ScriptKind.{ScriptKind}
use Rattle.ipe_requests.specs.declared.line.ScriptKind.TheVariants as kind
use Rattle.ipe_requests.specs.Law.{AreRequests, HaveFirstBad}
use Rattle.ipe_requests.specs.Reading.{FirstBad}
use Rattle.ipe_requests.specs.Requests.{Script, requests_of}
use Rattle.ipe_objects.specs.declared.images.ImagesError.{ImagesError}
use Rattle.ipe_objects.specs.declared.images.ImagesError.TheVariants as refused
use Rattle.ipe_objects.specs.Devices.{AreImages, named_devices}
use Rattle.ipe_objects.specs.Loading.{AreOf, first_refusal}
use Rattle.ipe_lines.specs.Files.{files_of}
use Rattle.ipe_lines.specs.Spelled.{numbers_of, spelled}
use Rattle.ipe_lines.specs.Told.{TellInOrder}
use Rattle.ipe_transcript.specs.declared.transcript.Entry.{Entry}
use Rattle.ipe_transcript.specs.Text.{transcript_text}
use Rattle.ipe_tasks.specs.Refusals.{bad_line_text, device_text}

-- the devices have these images, each as large as it needs to be; the text is a transcript of the request file's lines in
-- an order that keeps each one's lines in that one's order, with each entry in its place, as the machine replies along
-- it; the order is the one that the written lines spell; and the one history of the gate that is handed out stands for it
pub record IsTranscript (script : Script) (held : Option Contents) (closed : Option Closed) (text : List ℕ) : Type 0 where
  pub images : Contents
  pub loaded : AreOf held (named_devices script) images
  pub enough : AreImages script images
  pub gate : Closed
  pub handed_out : closed ≡ Some gate
  pub entries : List (List Entry)
  pub tell : TellInOrder script (files_of script images) (history gate) entries
  pub bytes : text ≡ transcript_text entries
  pub spells : spelled text ≡ numbers_of entries

-- the input is the one spelling of exactly these requests, and the text is their transcript
pub record IsReplay (input : List ℕ) (held : Option Contents) (closed : Option Closed) (text : List ℕ) : Type 0 where
  pub script : Script
  pub asks : AreRequests input script
  pub transcript : IsTranscript script held closed text

-- the input is the requests of something, and no device of theirs is refused
pub record IsAccepted (input : List ℕ) (held : Option Contents) : Type 0 where
  pub script : Script
  pub read : requests_of input ≡ Ok script
  pub loaded : IsSomeAnd held (λ told. first_refusal script told ≡ None)

-- what is wrong with a line, as it is spelled
abbrev pub kind_name : ScriptKind → List ℕ
kind_name kind.Unended = codes "Unended"
kind_name kind.NoNewline = codes "NoNewline"
kind_name kind.After = codes "After"
kind_name kind.Header = codes "Header"
kind_name kind.Form = codes "Form"
kind_name kind.Number = codes "Number"
kind_name kind.Name = codes "Name"
kind_name kind.Hex = codes "Hex"
kind_name kind.Table = codes "Table"
kind_name kind.Twice = codes "Twice"
kind_name kind.Unknown = codes "Unknown"
kind_name kind.Range = codes "Range"
kind_name kind.Limit = codes "Limit"

-- the input has exactly this first bad line, and the text says so
pub record IsBadLine (input text : List ℕ) : Type 0 where
  pub bad : FirstBad
  pub found : HaveFirstBad input bad
  pub text_is : text ≡ bad_line_text bad.line (kind_name bad.fault)

-- the refusal of a device; that one failed, or that memory ran out, is none
abbrev pub refusal_text : ImagesError → Option (List ℕ)
refusal_text refused.DeviceFault = None
refusal_text (refused.Missing name) = Some (device_text name (codes "missing"))
refusal_text (refused.TooLarge name) = Some (device_text name (codes "too large"))
refusal_text (refused.TooSmall name) = Some (device_text name (codes "too small"))
refusal_text refused.NoMemory = None

-- the first of the devices, in the order of their naming, that is refused is refused for this, and the text says so
pub record IsDeviceRefusal (script : Script) (held : Option Contents) (text : List ℕ) : Type 0 where
  pub error : ImagesError
  pub first : IfSome held (λ told. first_refusal script told ≡ Some error)
  pub text_is : refusal_text error ≡ Some text

-- the input is the one spelling of exactly these requests, and a device of theirs is refused
pub record IsRefusedDevice (input : List ℕ) (held : Option Contents) (text : List ℕ) : Type 0 where
  pub script : Script
  pub asks : AreRequests input script
  pub refusal : IsDeviceRefusal script held text

-- a line or a device is refused
abbrev pub IsReplayRefusal : List ℕ → Option Contents → List ℕ → Type 0
IsReplayRefusal input held text = IsBadLine input text ⊎ IsRefusedDevice input held text
