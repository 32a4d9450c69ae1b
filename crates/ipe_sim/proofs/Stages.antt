-- What the lines of a roll-out come to, line after line.
use Rattle.std.proofs.Common.{◌≡◌, ℕ, zero, suc, ◌+◌, ◌*◌, ◌<◌, ◌≤◌, true, ◌&&◌, nat_le, List, [], ◌∷◌, ◌++◌, length, Option, None, refl, sym, ap, subst, arith}
use Rattle.std.specs.List.{flat_map}
use Rattle.std.proofs.Math.Nat.{min-le_left}
use Rattle.std.proofs.lemmas.Bool.{and_from, le-leb}
use Rattle.std.proofs.lemmas.List.{length-append}
use Rattle.line_words.specs.Lines.{joined}
use Rattle.ipe_requests.specs.declared.script.TextLine.{TextLine}
use Rattle.ipe_requests.specs.declared.script.FileLine.{FileLine}
use Rattle.ipe_requests.specs.declared.script.MarkLine.{MarkLine}
use Rattle.ipe_requests.specs.declared.script.Phase.{Phase}
use Rattle.ipe_requests.specs.declared.script.PhaseLine.{PhaseLine}
use Rattle.ipe_requests.specs.declared.line.Section.{Section}
use Rattle.ipe_requests.specs.declared.line.Line.{Line}
use Rattle.ipe_requests.specs.declared.known.Known.{Known}
use Rattle.ipe_requests.specs.declared.known.Declared.{Declared}
use Rattle.ipe_requests.specs.Known.{asks_little, has_few_lines, is_within_limits, nothing, phases_of, raised, with_line}
use Rattle.ipe_requests.specs.Spelling.{said_text}
use Rattle.ipe_sim.proofs.Says.{Comes, MayStand, comes-nothing, comes-said, comes-then, words_said}
use Rattle.ipe_sim.specs.Roll.{each}
use Rattle.ipe_sim.proofs.Each.{each-none, flat_map-each}

-- what is counted of the lines so far
pub record Counts : Type 0 where
  pub commands : ℕ
  pub hooks : ℕ
  pub work : ℕ
  pub longest : ℕ

-- what is declared and asked so far, but for the counts
pub record Stage : Type 0 where
  pub place : Section
  pub workers : ℕ
  pub texts : Declared TextLine
  pub files : Declared FileLine
  pub marks : List MarkLine
  pub phases : List Phase
  pub opened : Option ℕ
  pub asked : List PhaseLine

-- what so many lines come to
abbrev pub known_at : ℕ → Stage → Counts → Known
known_at count part counts = record {
  section = part.place;
  count = count;
  due = 0;
  text = None;
  workers = part.workers;
  texts = part.texts;
  volumes = nothing;
  files = part.files;
  seals = nothing;
  marks = part.marks;
  phases = part.phases;
  opened = part.opened;
  asked = part.asked;
  devices = [];
  commands = counts.commands;
  hooks = counts.hooks;
  work = counts.work;
  reads = 0;
  longest = counts.longest;
}

-- so many lines have no more commands and hooks, and each asks for few bytes
pub record Few (count : ℕ) (counts : Counts) : Type 0 where
  pub commands : counts.commands ≤ count
  pub hooks : counts.hooks ≤ count
  pub work : counts.work ≤ 4096 * count

-- these bytes, not too many to a line, lead from what so many lines come to to what more lines do
pub record Leads (count : ℕ) (part : Stage) (bytes : List ℕ) (next : ℕ) (last : Stage) : Type 0 where
  pub short : length bytes + 128 * count ≤ 128 * next
  pub comes : (counts : Counts) → Few count counts
      → (more : Counts) × Few next more × Comes (known_at count part counts) bytes (known_at next last more)

pub leads-then : (count next last : ℕ) (one two three : Stage) (first second : List ℕ) → Leads count one first next two
    → Leads next two second last three → Leads count one (first ++ second) last three
leads-then count next last one two three first second a b = record {
  short = omega (arith, a.short, b.short, length-append first second);
  comes = λ counts few.
      let mid = a.comes counts few in
      let end = b.comes mid.0 mid.1 in
      (end.0, end.1, comes-then (known_at count one counts) (known_at next two mid.0) (known_at last three end.0) first second mid.2 end.2);
}

pub leads-nothing : (count : ℕ) (part : Stage) → Leads count part [] count part
leads-nothing count part = record {
  short = omega arith;
  comes = λ counts few. (counts, few, comes-nothing (known_at count part counts));
}

-- items, each with the bytes of so many lines
pub leads-each : {A : Type 0} (item : ℕ → A) (text : A → List ℕ) (part : ℕ → Stage) (first lines total : ℕ)
    → ((i : ℕ) → i < total → Leads (first + lines * i) (part i) (text (item i)) (first + lines * suc i) (part (suc i)))
    → (count : ℕ) → count ≤ total
    → Leads (first + lines * 0) (part 0) (flat_map text (each count item)) (first + lines * count) (part count)
leads-each {A = A} item text part first lines total step zero most =
    subst (λ (xs : List A). Leads (first + lines * 0) (part 0) (flat_map text xs) (first + lines * 0) (part 0))
    (sym (each-none item)) (leads-nothing (first + lines * 0) (part 0))
leads-each {A = A} item text part first lines total step (suc count) most =
    subst (λ (bs : List ℕ). Leads (first + lines * 0) (part 0) bs (first + lines * suc count) (part (suc count)))
    (sym (flat_map-each text count item))
    (leads-then (first + lines * 0) (first + lines * count) (first + lines * suc count) (part 0) (part count)
    (part (suc count)) (flat_map text (each count item)) (text (item count))
    (leads-each item text part first lines total step count (omega (arith, most))) (step count (omega (arith, most))))

-- ---- one line

-- the bytes of words, each with one that follows it
abbrev pub room : List (List ℕ) → ℕ
room [] = 0
room (word ∷ words) = length word + 1 + room words

joined-room : (word : List ℕ) (words : List (List ℕ)) → length (joined (word ∷ words)) + 1 ≤ room (word ∷ words)
joined-room word [] = omega arith
joined-room word (next ∷ words) =
    omega (arith, joined-room next words, length-append word (32 ∷ joined (next ∷ words)))

pub said-short : (said : Line) (word : List ℕ) (words : List (List ℕ)) → words_said said ≡ word ∷ words
    → room (word ∷ words) ≤ 128 → length (said_text said) ≤ 128
said-short said word words spelled few =
    omega (
      arith,
      joined-room word words,
      length-append (joined (words_said said)) (10 ∷ []),
      few,
      ap (λ (ws : List (List ℕ)). length (joined ws)) spelled,
    )

-- a line that may stand there leads to what it says
pub leads-said : (count : ℕ) (part last : Stage) (said : Line) (word : List ℕ) (words : List (List ℕ))
    → words_said said ≡ word ∷ words → room (word ∷ words) ≤ 128
    → ((counts : Counts) → Few count counts → (more : Counts) × Few (count + 1) more
    × MayStand (known_at (count + 1) part counts) said word words
    × (with_line (known_at (count + 1) part counts) said ≡ known_at (count + 1) last more))
    → Leads count part (said_text said) (count + 1) last
leads-said count part last said word words spelled few stands = record {
  short = omega (arith, said-short said word words spelled few);
  comes = λ counts fews.
      let given = stands counts fews in (
        given.0,
        given.1,
        subst (λ (known : Known). Comes (known_at count part counts) (said_text said) known) given.3
            (comes-said (known_at count part counts) said word words refl given.2),
      );
}

-- few lines, declarations and phases are within the limits
pub within-limits : (count : ℕ) (part : Stage) (counts : Counts) → Few count counts → count ≤ 90000
    → length part.texts.names ≤ 256 → length part.files.names ≤ 1024 → length part.marks ≤ 4096
    → length (phases_of (known_at count part counts)) ≤ 1000 → is_within_limits (known_at count part counts) ≡ true
within-limits count part counts few most texts files marks phases =
    and_from (has_few_lines (known_at count part counts)) (asks_little (known_at count part counts))
    (and_from (nat_le (length part.texts.names) 256 && true && nat_le (length part.files.names) 1024 && true && nat_le (length part.marks) 4096)
    (nat_le (length (phases_of (known_at count part counts))) 1000)
    (and_from (nat_le (length part.texts.names) 256 && true && nat_le (length part.files.names) 1024 && true) (nat_le (length part.marks) 4096)
    (and_from (nat_le (length part.texts.names) 256 && true && nat_le (length part.files.names) 1024) true
    (and_from (nat_le (length part.texts.names) 256 && true) (nat_le (length part.files.names) 1024)
    (and_from (nat_le (length part.texts.names) 256) true (le-leb (length part.texts.names) 256 texts) refl)
    (le-leb (length part.files.names) 1024 files)) refl)
    (le-leb (length part.marks) 4096 marks))
    (le-leb (length (phases_of (known_at count part counts))) 1000 phases))
    (and_from (nat_le counts.commands 100000 && nat_le counts.hooks 200000 && nat_le counts.work 1073741824) true
    (and_from (nat_le counts.commands 100000 && nat_le counts.hooks 200000) (nat_le counts.work 1073741824)
    (and_from (nat_le counts.commands 100000) (nat_le counts.hooks 200000)
    (le-leb counts.commands 100000 (omega (arith, few.commands, most)))
    (le-leb counts.hooks 200000 (omega (arith, few.hooks, most))))
    (le-leb counts.work 1073741824 (omega (arith, few.work, most)))) refl)

-- a count that rises
pub raised-few : (count more : ℕ) → raised count more ≤ count + more
raised-few count more = min-le_left (count + more) 18446744073709551615

-- the same lines and one that asks for nothing
pub few-more : (count : ℕ) (counts : Counts) → Few count counts → Few (count + 1) counts
few-more count counts few = record {
  commands = omega (arith, few.commands);
  hooks = omega (arith, few.hooks);
  work = omega (arith, few.work);
}
