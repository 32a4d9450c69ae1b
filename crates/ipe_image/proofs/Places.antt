-- Where the parts of an image stand in its words.
use Rattle.std.proofs.Common.{◌≡◌, ◌∙◌, ℕ, ◌+◌, ◌<◌, ◌≤◌, suc, zero, true, false, Bool, ◌||◌, List, [], ◌∷◌, ◌++◌, length, map, sum_by, get_or, slice_get, take, drop, Option, Some, None, is_some, refl, ap, sym, arith, append_assoc, length-append}
use Rattle.std.specs.Prelude.{option_and_then}
use Rattle.std.specs.List.{list_all}
use Rattle.std.proofs.lemmas.Bool.{and_parts, eqb-true}
use Rattle.std.proofs.lemmas.List.{drop_at, take_at, drop-drop, get_or-drop, length-map}
use borrow.Author.Tests.{leb-true}
use Rattle.ipe_policy.specs.declared.op.Op.{Op}
use Rattle.ipe_policy.specs.declared.op.Op.TheVariants.{Execute, Firmware, Kmodule, KexecImage, KexecInitramfs, Policy, X509Cert}
use Rattle.ipe_policy.specs.declared.op.Action.{Action}
use Rattle.ipe_policy.specs.declared.op.Action.TheVariants.{Allow, Deny}
use Rattle.ipe_policy.specs.Statement.{op_number, operations}
use Rattle.ipe_policy.specs.Spelling.{rule_words}
use Rattle.ipe_image.specs.Parts.{ImageParts, own_default}
use Rattle.ipe_image.specs.Image.{default_word, grouped, image_of, place_of, records, rules_of, tables, words_used}
use Rattle.ipe_image.specs.Reading.{default_read, fits_rule, is_complete}
use Rattle.ipe_image.proofs.Groups.{words-grouped}
use Rattle.ipe_image.proofs.Sizes.{length-records}

-- what the test of complete parts says
pub record Complete (parts : ImageParts) : Type 0 where
  pub seven : length parts.defaults ≡ 7
  pub some : (is_some parts.global || list_all is_some parts.defaults) ≡ true
  pub fit : list_all fits_rule parts.rules ≡ true
  pub few : words_used parts ≤ 4096

pub complete-facts : (parts : ImageParts) → is_complete parts ≡ true → Complete parts
complete-facts parts h =
    let both = and_parts _ _ h in
    let defaults = and_parts _ _ both.0 in
    let rules = and_parts _ _ both.1 in
    record { seven = eqb-true _ 7 defaults.0; some = defaults.1; fit = rules.0; few = leb-true _ 4096 rules.1 }

-- the place of an operation
pub op-below : (op : Op) → op_number op < 7
op-below Execute = omega arith
op-below Firmware = omega arith
op-below Kmodule = omega arith
op-below KexecImage = omega arith
op-below KexecInitramfs = omega arith
op-below Policy = omega arith
op-below X509Cert = omega arith

-- a default is read back from its word
pub default-read : (o : Option Action) → default_read (default_word o) ≡ o
default-read None = refl
default-read (Some Allow) = refl
default-read (Some Deny) = refl

-- the default at a place
abbrev pub default_at : List (Option Action) → ℕ → Option Action
default_at defaults n = option_and_then (λ own. own) (slice_get defaults n)

-- the word of the default at a place
word-at : (defaults : List (Option Action)) (more : List ℕ) (n : ℕ) → n < length defaults
    → get_or (map default_word defaults ++ more) n 0 ≡ default_word (default_at defaults n)
word-at [] more n h = absurd (omega arith)
word-at (own ∷ defaults) more zero h = refl
word-at (own ∷ defaults) more (suc n) h = word-at defaults more n (omega arith)

-- where each default is there, the one at a place is
some-at : (defaults : List (Option Action)) (n : ℕ) → n < length defaults → list_all is_some defaults ≡ true
    → is_some (default_at defaults n) ≡ true
some-at [] n h all = absurd (omega arith)
some-at (own ∷ defaults) zero h all = (and_parts (is_some own) (list_all is_some defaults) all).0
some-at (own ∷ defaults) (suc n) h all =
    some-at defaults n (omega arith) (and_parts (is_some own) (list_all is_some defaults) all).1

-- a policy with complete parts has a default for each operation
pub some-default : (parts : ImageParts) (op : Op) → Complete parts → own_default parts op ≡ None
    → parts.global ≡ None → ⊥
some-default parts op h own global =
    at (is_some parts.global) (list_all is_some parts.defaults) h.some (ap is_some global)
    (λ all. let there : is_some (own_default parts op) ≡ true = some-at parts.defaults (op_number op) (omega
    (arith, op-below op, h.seven)) all in
    let none : is_some (own_default parts op) ≡ false = ap is_some own in cc)
  where
    at : (x y : Bool) → (x || y) ≡ true → x ≡ false → (y ≡ true → ⊥) → ⊥
    at true y e no_x no_y = cc
    at false y e no_x no_y = no_y e

-- the word of an operation's place, and that of its number of rules
place-at : (f : Op → ℕ) (more : List ℕ) (op : Op) → get_or (map f operations ++ more) (op_number op) 0 ≡ f op
place-at f more Execute = refl
place-at f more Firmware = refl
place-at f more Kmodule = refl
place-at f more KexecImage = refl
place-at f more KexecInitramfs = refl
place-at f more Policy = refl
place-at f more X509Cert = refl

-- where each part of an image stands
pub record Places (words : List ℕ) (parts : ImageParts) (behind : List ℕ) : Type 0 where
  pub serial : get_or words 1 0 ≡ parts.serial
  pub global : get_or words 2 0 ≡ default_word parts.global
  pub own : (op : Op) → get_or words (3 + op_number op) 0 ≡ default_word (own_default parts op)
  pub defaults : take 7 (drop 3 words) ≡ map default_word parts.defaults
  pub count : get_or words 10 0 ≡ length parts.rules
  pub place : (op : Op) → get_or words (11 + op_number op) 0 ≡ place_of parts.rules op
  pub many : (op : Op) → get_or words (18 + op_number op) 0 ≡ length (rules_of parts.rules op)
  pub rest : drop 25 words ≡ records (grouped parts.rules) ++ behind
  pub long : words_used parts ≤ length words

pub places : (words : List ℕ) (parts : ImageParts) (behind : List ℕ) → Complete parts
    → words ≡ image_of parts ++ behind → Places words parts behind
places words parts behind complete whole =
    let defaults = map default_word parts.defaults in
    let all = records (grouped parts.rules) in
    let many : Op → ℕ = λ op. length (rules_of parts.rules op) in
    let counts : List ℕ = map many operations in
    let at18 : List ℕ = counts ++ (all ++ behind) in
    let at11 : List ℕ = map (place_of parts.rules) operations ++ at18 in
    let tail : List ℕ = length parts.rules ∷ at11 in
    let used = words_used parts in
    let global = default_word parts.global in
    let spread : words ≡ used ∷ parts.serial ∷ global ∷ (defaults ++ tail) =
    whole ∙ ap (λ (ws : List ℕ). used ∷ parts.serial ∷ global ∷ ws) (
    append_assoc (defaults ++ length parts.rules ∷ tables parts.rules) all behind
    ∙ append_assoc defaults (length parts.rules ∷ tables parts.rules) (all ++ behind)) in
    let seven : length defaults ≡ 7 = length-map parts.defaults default_word ∙ complete.seven in
    let from3 : drop 3 words ≡ defaults ++ tail = ap (λ (ws : List ℕ). drop 3 ws) spread in
    let from10 : drop 10 words ≡ tail = sym (drop-drop 7 3 words) ∙ ap (drop 7) from3 ∙ drop_at defaults tail 7 seven in
    let from11 : drop 11 words ≡ at11 = sym (drop-drop 1 10 words) ∙ ap (drop 1) from10 in
    let from18 : drop 18 words ≡ at18 = sym (drop-drop 7 11 words) ∙ ap (drop 7) from11 in
    let from25 : drop 25 words ≡ all ++ behind = sym (drop-drop 7 18 words) ∙ ap (drop 7) from18 in
    let length_all : length words ≡ 3 + (length defaults + length tail) = ap length spread
    ∙ omega (arith, length-append defaults tail) in
    let tail_len : length tail ≡ 15 + length (all ++ behind) = omega arith in
    let rules_len : length (all ++ behind) ≡ sum_by rule_words parts.rules + length behind =
    length-append all behind
    ∙ ap (λ (n : ℕ). n + length behind) (length-records (grouped parts.rules) ∙ words-grouped parts.rules) in
    record {
      serial = ap (λ (ws : List ℕ). get_or ws 1 0) spread;
      global = ap (λ (ws : List ℕ). get_or ws 2 0) spread;
      own = λ op. sym (get_or-drop 3 words (op_number op) 0)
          ∙ ap (λ (ws : List ℕ). get_or ws (op_number op) 0) from3
          ∙ word-at parts.defaults tail (op_number op) (omega (arith, op-below op, complete.seven));
      defaults = ap (take 7) from3 ∙ take_at defaults tail 7 seven;
      count = sym (get_or-drop 10 words 0 0) ∙ ap (λ (ws : List ℕ). get_or ws 0 0) from10;
      place = λ op. sym (get_or-drop 11 words (op_number op) 0)
          ∙ ap (λ (ws : List ℕ). get_or ws (op_number op) 0) from11
          ∙ place-at (place_of parts.rules) at18 op;
      many = λ op. sym (get_or-drop 18 words (op_number op) 0)
          ∙ ap (λ (ws : List ℕ). get_or ws (op_number op) 0) from18
          ∙ place-at many (all ++ behind) op;
      rest = from25;
      long = omega arith;
    }
