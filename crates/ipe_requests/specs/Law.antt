-- What is true of request files and of what they ask.
use Rattle.std.specs.Prelude.{◌≡◌, ◌⊎◌, ℕ, ◌≤◌, true, List, [], ◌∷◌, length, Ok, Err}
use Rattle.ipe_requests.specs.declared.line.Shape.{Shape}
use Rattle.ipe_requests.specs.declared.line.Section.{Section}
use Rattle.ipe_requests.specs.Table.{cells, may_follow}
use Rattle.ipe_requests.specs.Reading.{FirstBad, has_form}
use Rattle.ipe_requests.specs.Requests.{Script, requests_of}
use Rattle.ipe_requests.specs.Spelling.{request_text}

-- what is declared and asked is that of a file: its own spelling is read as it, and isn't too long
pub record IsOfFile (script : Script) : Type 0 where
  pub read : requests_of (request_text script) ≡ Ok script
  pub few : length (request_text script) ≤ 16777216

-- bytes are the requests of one value and of no other, and have no first bad line
pub record AreRequests (bytes : List ℕ) (script : Script) : Type 0 where
  pub read : requests_of bytes ≡ Ok script
  pub one : (other : Script) → requests_of bytes ≡ Ok other → other ≡ script
  pub good : (bad : FirstBad) → requests_of bytes ≡ Err bad → ⊥
  pub spelled : request_text script ≡ bytes

-- bytes have this first bad line and no other, and are the requests of nothing
pub record HaveFirstBad (bytes : List ℕ) (bad : FirstBad) : Type 0 where
  pub found : requests_of bytes ≡ Err bad
  pub one : (other : FirstBad) → requests_of bytes ≡ Err other → other ≡ bad
  pub none : (script : Script) → requests_of bytes ≡ Ok script → ⊥

-- bytes are the requests of exactly one value or have a first bad line, never both
abbrev pub RequestsOrFirstBad : Type 0
RequestsOrFirstBad =
    (bytes : List ℕ) → ((script : Script) × AreRequests bytes script) ⊎ ((bad : FirstBad) × HaveFirstBad bytes bad)

-- a shape is one of these
abbrev pub IsAmong : Shape → List Shape → Type 0
IsAmong one [] = ⊥
IsAmong one (other ∷ shapes) = (one ≡ other) ⊎ IsAmong one shapes

-- no two shapes that may stand in one place fit the same words
abbrev pub OneShape : Type 0
OneShape =
    (place : Section) (words : List (List ℕ)) (one other : Shape) → IsAmong one (may_follow place)
    → IsAmong other (may_follow place) → has_form (cells one) words ≡ true → has_form (cells other) words ≡ true
    → one ≡ other
