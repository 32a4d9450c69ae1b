-- What devices hold, by their names.
use Rattle.std.specs.Prelude.{◌≡◌, ℕ, ◌<◌, ◌≤◌, List, length, take, drop, Option, Some, None, IfSome, IsSomeAnd, bytes_eq}
use Rattle.std.specs.Option.{option_map}
use Rattle.std.specs.Map.{lookup}

-- names and the bytes under them
abbrev pub Contents : Type 0
Contents = List (List ℕ × List ℕ)

-- the bytes under a name: of the first that is so named
unfoldable pub content : List ℕ → Contents → Option (List ℕ)
content name items = lookup (bytes_eq name) items

-- where the contents are told, a device has the name, and has so many bytes
abbrev pub HasSize : Option Contents → List ℕ → ℕ → Type 0
HasSize told name size = IfSome told (λ items. option_map length (content name items) ≡ Some size)

-- where the contents are told, a device has the name, and this is true of its bytes
abbrev pub OnDevice : Option Contents → List ℕ → (List ℕ → Type 0) → Type 0
OnDevice told name P = IfSome told (λ items. IsSomeAnd (content name items) P)

-- where the contents are told, a device has the name
abbrev pub HasDevice : Option Contents → List ℕ → Type 0
HasDevice told name = OnDevice told name (λ _. Unit {0})

-- where the contents are told, no device has the name
abbrev pub HasNone : Option Contents → List ℕ → Type 0
HasNone told name = IfSome told (λ items. content name items ≡ None)

-- where the contents are told, a device has the name, and its bytes from `at` on begin with these
abbrev pub HasBytes : Option Contents → List ℕ → ℕ → List ℕ → Type 0
HasBytes told name at bytes =
    IfSome told (λ items. option_map (λ all. take (length bytes) (drop at all)) (content name items) ≡ Some bytes)

-- where the contents are told and a device has the name, it has a byte at `at`, unless no byte is asked for
abbrev pub CanRead : Option Contents → List ℕ → ℕ → ℕ → Type 0
CanRead told name at room =
    IfSome told (λ items. IfSome (content name items) (λ all. 0 < room → at < length all))

-- where the contents are told, a device has the name, and these are all its bytes
abbrev pub HasContent : Option Contents → List ℕ → List ℕ → Type 0
HasContent told name bytes = IfSome told (λ items. content name items ≡ Some bytes)

-- where the contents are told and a device has the name, it has at least so many bytes
abbrev pub HasAtLeast : Option Contents → List ℕ → ℕ → Type 0
HasAtLeast told name size = IfSome told (λ items. IfSome (content name items) (λ all. size ≤ length all))
