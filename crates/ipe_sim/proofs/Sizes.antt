-- How many bytes a line of a roll-out asks for.
use Rattle.std.proofs.Common.{◌≡◌, ℕ, zero, suc, ◌≤◌, Bool, true, false, cond, List, [], ◌∷◌, length, position, Option, Some, None, slice_get, sym, subst, arith}
use Rattle.std.specs.List.{AllByRecursion}
use Rattle.std.specs.Option.{option_and_then, option_map_or}
use Rattle.line_words.specs.Words.{is_text}
use Rattle.ipe_policy.specs.declared.request.Request.{Request}
use Rattle.ipe_requests.specs.declared.script.TextLine.{TextLine}
use Rattle.ipe_requests.specs.declared.script.FileLine.{FileLine}
use Rattle.ipe_requests.specs.declared.script.WriteContent.{WriteContent}
use Rattle.ipe_requests.specs.declared.script.WriteContent.TheVariants as content
use Rattle.ipe_requests.specs.declared.known.Known.{Known}
use Rattle.ipe_requests.specs.declared.known.Declared.{Declared}
use Rattle.ipe_requests.specs.Known.{file_size, hook_work, item_of, reads_file, size_of, text_size, write_work}
use Rattle.ipe_sim.specs.Roll.{file, text, text_id}
use Rattle.ipe_sim.proofs.Each.{all-each}
use Rattle.ipe_sim.proofs.Facts.{has_lines}
use Rattle.ipe_sim.proofs.Policies.{first_texts}
use Rattle.ipe_sim.proofs.Files.{first_files}

-- a measure of a list's item at any place is no more than that of each
got-few : {A : Type 0} (size : A → ℕ) (most : ℕ) (xs : List A) (place : ℕ) → AllByRecursion (λ x. size x ≤ most) xs
    → option_map_or size (slice_get xs place) 0 ≤ most
got-few size most [] place all = omega arith
got-few size most (x ∷ xs) zero all = all.0
got-few size most (x ∷ xs) (suc place) all = got-few size most xs place all.1

item-few : {A : Type 0} (size : A → ℕ) (most : ℕ) (things : Declared A) (name : List ℕ)
    → AllByRecursion (λ x. size x ≤ most) things.items → option_map_or size (item_of things name) 0 ≤ most
item-few {A = A} size most things name all = placed (position (is_text name) things.names)
  where
    placed : (o : Option ℕ)
        → option_map_or size (option_and_then (λ place. slice_get things.items place) o) 0 ≤ most
    placed None = omega arith
    placed (Some place) = got-few size most things.items place all

-- a text has few bytes
text_size-few : (known : Known) (id : List ℕ) → known.texts ≡ first_texts 16 → text_size known id ≤ 4096
text_size-few known id is =
    subst (λ (texts : Declared TextLine). option_map_or (λ (text : TextLine). length text.bytes) (item_of texts id) 0 ≤ 4096)
    (sym is)
    (item-few (λ (text : TextLine). length text.bytes) 4096 (first_texts 16) id
    (all-each (λ (text : TextLine). length text.bytes ≤ 4096) 16 text
    (λ i below. omega (arith, (has_lines i below).short))))

-- so has a file
file-few : (known : Known) (path : List ℕ) → known.texts ≡ first_texts 16 → known.files ≡ first_files 8 → file_size known path ≤ 4096
file-few known path texts files =
    subst (λ (of : Declared FileLine). option_map_or (λ (file : FileLine). size_of known file.form) (item_of of path) 0 ≤ 4096)
    (sym files)
    (item-few (λ (file : FileLine). size_of known file.form) 4096 (first_files 8) path
    (all-each (λ (file : FileLine). size_of known file.form ≤ 4096) 8 file (λ j below. text_size-few known (text_id j) texts)))

pub write-few : (known : Known) (what : WriteContent) → known.texts ≡ first_texts 16 → write_work known what ≤ 4096
write-few known (content.Text id) texts = text_size-few known id texts
write-few known (content.Echo word) texts = omega arith
write-few known (content.Hex bytes) texts = omega arith

pub hook-few : (known : Known) (what : Request) (path : Option (List ℕ)) → known.texts ≡ first_texts 16
    → known.files ≡ first_files 8 → hook_work known what path ≤ 4096
hook-few known what None texts files = omega arith
hook-few known what (Some path) texts files = chosen (reads_file what)
  where
    chosen : (b : Bool) → cond b (file_size known path) 0 ≤ 4096
    chosen true = file-few known path texts files
    chosen false = omega arith
