-- What the administrator's commands act on: the loaded policies, the active one, the two switches, the epoch and the
-- next serial.
use Rattle.std.specs.Prelude.{ℕ, ◌+◌, Bool, true, false, List, [], ◌∷◌, ◌++◌, Option, None, slice_get, slice_set, position, remove}
use Rattle.std.specs.Option.{option_map_or, option_and_then, unwrap_or}
use Rattle.std.specs.Result.{result_ok, result_err}
use Rattle.ipe_policy.specs.declared.version.Version.{Version}
use Rattle.line_words.specs.Words.{is_text}
use Rattle.ipe_policy.specs.Policy.{PolicyParts}
use Rattle.ipe_parse.specs.declared.error.BadKind.TheVariants.{NoHeader}
use Rattle.ipe_parse.specs.declared.error.BadText.{BadText}
use Rattle.ipe_parse.specs.declared.error.BadText.TheVariants.{Bad}
use Rattle.ipe_parse.specs.Reading.{reading}

-- a loaded policy: its name, version and text, and the serial that its load or update took
pub record Loaded : Type 0 where
  pub name : List ℕ
  pub version : Version
  pub text : List ℕ
  pub serial : ℕ

-- the loaded policies in the order of their loads, the name of the active one, the switches enforce and success_audit,
-- the epoch, and the serial that the next load or update takes
pub record Policies : Type 0 where
  pub loaded : List Loaded
  pub active : Option (List ℕ)
  pub enforce : Bool
  pub success : Bool
  pub epoch : ℕ
  pub next : ℕ

-- at the start nothing is loaded, enforce is on and success_audit off
abbrev pub first_policies : Policies
first_policies = record { loaded = []; active = None; enforce = true; success = false; epoch = 0; next = 1 }

-- an entry has this name
abbrev pub is_named : List ℕ → Loaded → Bool
is_named name entry = is_text name entry.name

-- the place of a name in the list, if it is loaded
abbrev pub place_of : List ℕ → List Loaded → Option ℕ
place_of name loaded = position (is_named name) loaded

-- the entry of a name
abbrev pub entry_named : List ℕ → List Loaded → Option Loaded
entry_named name loaded = option_and_then (slice_get loaded) (place_of name loaded)

-- the name is the active one
abbrev pub is_active : List ℕ → Policies → Bool
is_active name policies = option_map_or (is_text name) policies.active false

-- the entry of the active policy
abbrev pub active_entry : Policies → Option Loaded
active_entry policies = option_and_then (λ name. entry_named name policies.loaded) policies.active

-- no policy, where a text reads as none; its version is below every other
abbrev pub no_policy : PolicyParts
no_policy = record { name = []; version = record { major = 0; minor = 0; rev = 0 }; items = [] }

-- the policy that a text reads as
abbrev pub policy_in : List ℕ → PolicyParts
policy_in text = unwrap_or (result_ok (reading text)) no_policy

-- no fault, where a text reads as a policy
abbrev pub no_fault : BadText
no_fault = Bad 0 NoHeader

-- the first fault of a text
abbrev pub fault_in : List ℕ → BadText
fault_in text = unwrap_or (result_err (reading text)) no_fault

-- the version of an entry, or the lowest where there is none
abbrev pub entry_version : Option Loaded → Version
entry_version entry = option_map_or (λ (e : Loaded). e.version) entry no_policy.version

-- the entry that a text makes
abbrev pub entry_of : ℕ → List ℕ → Loaded
entry_of serial text =
    record { name = (policy_in text).name; version = (policy_in text).version; text = text; serial = serial }

-- the entry stands last
abbrev pub added : Policies → Loaded → Policies
added policies entry = record policies { loaded = policies.loaded ++ entry ∷ []; next = policies.next + 1 }

-- the list with an entry in the place of that of a name
abbrev pub replaced : List Loaded → List ℕ → Loaded → List Loaded
replaced loaded name entry = option_map_or (λ place. slice_set loaded place entry) (place_of name loaded) loaded

-- the list without the entry of a name
abbrev pub without : List Loaded → List ℕ → List Loaded
without loaded name = option_map_or (remove loaded) (place_of name loaded) loaded
