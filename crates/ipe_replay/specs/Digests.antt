-- The digests of the texts that marks have named.
use Rattle.std.specs.Prelude.{◌≡◌, ℕ, List, [], Option, Some, slice_get}
use Rattle.std.specs.Option.{option_map_or}
use Rattle.sha2.specs.Sha256.{sha256}
use Rattle.ipe_requests.specs.declared.script.TextLine.{TextLine}
use Rattle.ipe_requests.specs.Requests.{Script}

-- the bytes of the text at a place, past the last one none
abbrev pub bytes_at : Script → ℕ → List ℕ
bytes_at script place = option_map_or (λ (text : TextLine). text.bytes) (slice_get script.texts place) []

-- each digest that is known is that of the text at its place
abbrev pub AreDigests : Script → List (Option (List ℕ)) → Type 0
AreDigests script known =
    (place : ℕ) (digest : List ℕ) → slice_get known place ≡ Some (Some digest) → digest ≡ sha256 (bytes_at script place)
