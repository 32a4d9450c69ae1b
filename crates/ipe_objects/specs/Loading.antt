-- What the loading of devices answers.
use Rattle.std.specs.Prelude.{◌≡◌, ℕ, nat_lt, if◌then◌else◌, List, length, Option, Some, None, All, Result, Ok, Err}
use Rattle.blk_device.specs.Contents.{Contents, HasContent, content}
use Rattle.ipe_requests.specs.Requests.{Script}
use Rattle.ipe_objects.specs.declared.images.ImagesError.{ImagesError}
use Rattle.ipe_objects.specs.declared.images.ImagesError.TheVariants.{DeviceFault, Missing, TooLarge, TooSmall, NoMemory}
use Rattle.ipe_objects.specs.Devices.{bytes_under, most_bytes, named_devices, need_of}
use Rattle.ipe_objects.specs.Firsts.{first_some}

-- why a device isn't loaded: there is none, it has more bytes than the most, or fewer than it needs to have
abbrev pub refusal : ℕ → List ℕ → Option (List ℕ) → Option ImagesError
refusal need name None = Some (Missing name)
refusal need name (Some bytes) =
    if nat_lt most_bytes (length bytes) then Some (TooLarge name)
    else if nat_lt (length bytes) need then Some (TooSmall name)
    else None

-- the same of one of a request file's devices
abbrev pub refusal_of : Script → Contents → List ℕ → Option ImagesError
refusal_of script told name = refusal (need_of script name) name (content name told)

-- why the first of a request file's devices that isn't loaded isn't
abbrev pub first_refusal : Script → Contents → Option ImagesError
first_refusal script told = first_some (refusal_of script told) (named_devices script)

-- done means that nothing is refused; each other answer than that a device failed or memory ran out is what is refused
abbrev pub Answers : {A : Type 0} → Result A ImagesError → Option ImagesError → Type 0
Answers (Ok loaded) refused = refused ≡ None
Answers (Err DeviceFault) refused = Unit {0}
Answers (Err NoMemory) refused = Unit {0}
Answers (Err (Missing name)) refused = refused ≡ Some (Missing name)
Answers (Err (TooLarge name)) refused = refused ≡ Some (TooLarge name)
Answers (Err (TooSmall name)) refused = refused ≡ Some (TooSmall name)

-- images have the bytes that devices have, where these are told
abbrev pub AreOf : Option Contents → List (List ℕ) → Contents → Type 0
AreOf told names images = All (λ name. HasContent told name (bytes_under images name)) names
