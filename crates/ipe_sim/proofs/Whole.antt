-- The roll-out of a seed is that of a file: its own spelling is read as it.
use Rattle.std.proofs.Common.{◌≡◌, ℕ, zero, suc, ◌+◌, ◌*◌, ◌/◌, ◌<◌, true, false, codes, List, [], ◌∷◌, ◌++◌, Some, None, Ok, refl, sym, ap, ◌∙◌, subst, arith}
use Rattle.std.specs.Fmt.{decimal}
use Rattle.std.specs.List.{flat_map, slice_split}
use Rattle.std.proofs.lemmas.Bool.{and_from}
use Rattle.std.proofs.lemmas.List.{append-nil, append_assoc, length-append}
use Rattle.std.proofs.lemmas.List.Concat.{flat_map-append}
use Rattle.line_words.specs.Lines.{is_line_feed}
use Rattle.ipe_requests.specs.declared.script.TextLine.{TextLine}
use Rattle.ipe_requests.specs.declared.script.VolumeLine.{VolumeLine}
use Rattle.ipe_requests.specs.declared.script.FileLine.{FileLine}
use Rattle.ipe_requests.specs.declared.script.SealLine.{SealLine}
use Rattle.ipe_requests.specs.declared.script.MarkLine.{MarkLine}
use Rattle.ipe_requests.specs.declared.script.Phase.{Phase}
use Rattle.ipe_requests.specs.declared.script.PhaseLine.{PhaseLine}
use Rattle.ipe_requests.specs.declared.known.Known.{Known}
use Rattle.ipe_requests.specs.declared.line.Section.{Section}
use Rattle.ipe_requests.specs.declared.line.Section.TheVariants as section
use Rattle.ipe_requests.specs.declared.line.Shape.TheVariants as shape
use Rattle.ipe_requests.specs.declared.line.Line.TheVariants as line
use Rattle.ipe_requests.specs.Known.{at_first, is_out_of_range, is_within_limits, nothing, phases_of, with_line}
use Rattle.ipe_requests.specs.Law.{IsOfFile}
use Rattle.ipe_requests.specs.Table.{may_follow}
use Rattle.ipe_requests.specs.Reading.{file_read, read_pieces, shape_of}
use Rattle.ipe_requests.specs.Requests.{requests_of, script_or_bad}
use Rattle.ipe_requests.specs.Spelling.{asked_text, body_text, file_text, head_text, mark_text, phase_text, request_text, said_text, text_text}
use Rattle.ipe_sim.proofs.SaysWords.{number-said}
use Rattle.ipe_sim.specs.Draws.{draw_below}
use Rattle.ipe_sim.specs.Roll.{command, command_at, each, file, file_path, hook, hook_at, mark, phase, phase_line, draws_before, roll, text, text_id}
use Rattle.ipe_sim.proofs.Each.{each-more, each-none, length-each}
use Rattle.ipe_sim.proofs.Numbers.{decimal_plain, decimal_short}
use Rattle.ipe_sim.proofs.Stages.{Counts, Leads, Stage, known_at, few-more, leads-each, leads-nothing, leads-said, leads-then, within-limits}
use Rattle.ipe_sim.proofs.Policies.{text_leads, text_part}
use Rattle.ipe_sim.proofs.Files.{file_leads, file_part, mark_leads, mark_part}
use Rattle.ipe_sim.proofs.Commands.{Within, asking, command-leads}
use Rattle.ipe_sim.proofs.Hooks.{Place, hook-leads}

-- ---- the first two lines

abbrev start_part : Stage
start_part = record {
  place = section.Start;
  workers = 0;
  texts = nothing;
  files = nothing;
  marks = [];
  phases = [];
  opened = None;
  asked = [];
}

abbrev header_part : Stage
header_part = record start_part { place = section.Header }

abbrev workers_part : Stage
workers_part = record start_part { place = section.Workers; workers = 8 }

header_leads : Leads 0 start_part (said_text line.Header) 1 header_part
header_leads =
    leads-said 0 start_part header_part line.Header (codes "ipe-requests") (codes "1" ∷ []) refl (omega arith)
    (λ counts few. (
      counts,
      few-more 0 counts few,
      record {
        spelled = refl;
        plain = refl;
        placed = refl;
        says = tt;
        told = refl;
        ranged = refl;
        within = within-limits 1 header_part counts (few-more 0 counts few) (omega arith) (omega arith) (omega arith)
            (omega arith) (omega arith);
      },
      refl,
    ))

workers_leads : Leads 1 header_part (said_text (line.Workers 8)) 2 workers_part
workers_leads =
    leads-said 1 header_part workers_part (line.Workers 8) (codes "workers") (decimal 8 ∷ []) refl
    (omega (arith, decimal_short 8 (omega arith)))
    (λ counts few. (
      counts,
      few-more 1 counts few,
      record {
        spelled = refl;
        plain = and_from _ true (decimal_plain 8 (omega arith)) refl;
        placed = refl;
        says = (number-said (known_at 2 header_part counts) 1 30 8 (omega arith) (omega arith) (omega arith), tt);
        told = refl;
        ranged = refl;
        within = within-limits 2 workers_part counts (few-more 1 counts few) (omega arith) (omega arith) (omega arith)
            (omega arith) (omega arith);
      },
      refl,
    ))

first_text : workers_part ≡ text_part 0
first_text =
    ap (λ (names : List (List ℕ)). record workers_part { texts = record { names = names; items = [] } })
    (sym (each-none text_id))
    ∙ ap (λ items. record workers_part { texts = record { names = each 0 text_id; items = items } }) (sym (each-none text))

first_file : text_part 16 ≡ file_part 0
first_file =
    ap (λ (names : List (List ℕ)). record (text_part 16) { files = record { names = names; items = [] } })
    (sym (each-none file_path))
    ∙ ap (λ items. record (text_part 16) { files = record { names = each 0 file_path; items = items } })
    (sym (each-none file))

first_mark : file_part 8 ≡ mark_part 0
first_mark = ap (λ marks. record (file_part 8) { marks = marks }) (sym (each-none mark))

-- ---- a phase

-- the lines of a phase
abbrev lines_within : ℕ → ℕ → List PhaseLine
lines_within seed p = each 30 (command_at seed p) ++ each 8000 (hook_at seed p)

-- before a phase
abbrev phase_part : ℕ → ℕ → Stage
phase_part seed zero = mark_part 16
phase_part seed (suc p) = asking section.Asked (each p (phase seed)) (phase_line p) (lines_within seed p)

abbrev command_place : ℕ → Section
command_place zero = section.Phase
command_place (suc i) = section.Asked

-- after so many commands
abbrev commands_part : ℕ → ℕ → ℕ → Stage
commands_part seed p i = asking (command_place i) (each p (phase seed)) (phase_line p) (each i (command_at seed p))

-- after so many hooks
abbrev hooks_part : ℕ → ℕ → ℕ → Stage
hooks_part seed p n =
    asking section.Asked (each p (phase seed)) (phase_line p) (each 30 (command_at seed p) ++ each n (hook_at seed p))

command_follow : (i : ℕ) → may_follow (command_place i) ≡ may_follow section.Asked
command_follow zero = refl
command_follow (suc i) = refl

phase_placed : (seed p : ℕ) → shape_of (may_follow (phase_part seed p).place) (codes "phase" ∷ []) ≡ Some shape.Phase
phase_placed seed zero = refl
phase_placed seed (suc p) = refl

-- the phases before a phase
before_is : (seed p count : ℕ) (counts : Counts) → phases_of (known_at count (phase_part seed p) counts) ≡ each p (phase seed)
before_is seed zero count counts = sym (each-none (phase seed))
before_is seed (suc p) count counts = sym (each-more p (phase seed))

abbrev begun_at : ℕ → ℕ → ℕ → Counts → List Phase → List PhaseLine → Known
begun_at seed p count counts phases lines = known_at count (asking section.Phase phases (phase_line p) lines) counts

begun_is : (seed p count : ℕ) (counts : Counts)
    → begun_at seed p count counts (phases_of (known_at count (phase_part seed p) counts)) []
    ≡ known_at count (commands_part seed p 0) counts
begun_is seed p count counts =
    ap (λ (phases : List Phase). begun_at seed p count counts phases []) (before_is seed p count counts)
    ∙ ap (λ (lines : List PhaseLine). begun_at seed p count counts (each p (phase seed)) lines)
    (sym (each-none (command_at seed p)))

with_begun : (seed p count : ℕ) (counts : Counts)
    → with_line (known_at count (phase_part seed p) counts) (line.Phase (phase_line p))
    ≡ begun_at seed p count counts (phases_of (known_at count (phase_part seed p) counts)) []
with_begun seed zero count counts = refl
with_begun seed (suc p) count counts = refl

phase_ranged : (known : Known) (number : ℕ) → is_out_of_range known (line.Phase number) ≡ false
phase_ranged known number = refl

phase_begins : (seed p : ℕ) → p < 10
    → Leads (106 + 8031 * p) (phase_part seed p) (said_text (line.Phase (phase_line p))) (106 + 8031 * p + 1)
    (commands_part seed p 0)
phase_begins seed p below =
    leads-said (106 + 8031 * p) (phase_part seed p) (commands_part seed p 0) (line.Phase (phase_line p)) (codes "phase") []
    refl (omega arith)
    (λ counts few.
    let made : with_line (known_at (106 + 8031 * p + 1) (phase_part seed p) counts) (line.Phase (phase_line p))
    ≡ known_at (106 + 8031 * p + 1) (commands_part seed p 0) counts =
    with_begun seed p (106 + 8031 * p + 1) counts ∙ begun_is seed p (106 + 8031 * p + 1) counts in (
      counts,
      few-more (106 + 8031 * p) counts few,
      record {
        spelled = refl;
        plain = refl;
        placed = phase_placed seed p;
        says = tt;
        told =
            let same : 106 + 8031 * p + 1 ≡ phase_line p = omega arith in
            ap (λ (n : ℕ). line.Phase n) same;
        ranged = refl;
        within = ap is_within_limits made
            ∙ within-limits (106 + 8031 * p + 1) (commands_part seed p 0) counts (few-more (106 + 8031 * p) counts few)
            (omega (arith, below)) (omega (arith, length-each 16 text_id)) (omega (arith, length-each 8 file_path))
            (omega (arith, length-each 16 mark))
            (omega (
              arith,
              length-each p (phase seed),
              below,
              length-append (each p (phase seed))
                  ((record { line = phase_line p; lines = each 0 (command_at seed p) }) ∷ []),
            ));
      },
      made,
    ))

command_within : (seed p i : ℕ) → p < 10 → i < 30
    → Within (command_place i) (each p (phase seed)) (phase_line p + 1 * i)
command_within seed p i below few = record {
  follow = command_follow i;
  few = omega (arith, length-each p (phase seed), below);
  most = omega (arith, below, few);
}

command_next : (seed p i : ℕ) → p < 10 → i < 30
    → Leads (phase_line p + 1 * i) (commands_part seed p i) (asked_text (command_at seed p i)) (phase_line p + 1 * suc i)
    (commands_part seed p (suc i))
command_next seed p i below few =
    let k : ℕ = draw_below seed (draws_before p + 2 * i) 6 in
    let of : ℕ = draw_below seed (draws_before p + 2 * i + 1) 16 in
    let small : of < 16 = omega arith in
    let line : phase_line p + 1 * i + 1 ≡ phase_line p + 1 + i = omega arith in
    let next : phase_line p + 1 * i + 1 ≡ phase_line p + 1 * suc i = omega arith in
    let one = command-leads (command_place i) (each p (phase seed)) (phase_line p) (each i (command_at seed p))
    (phase_line p + 1 * i) k of (command_within seed p i below few) small in
    let two = subst (λ (n : ℕ). Leads (phase_line p + 1 * i) (commands_part seed p i) (asked_text (command n k of))
    (phase_line p + 1 * i + 1)
    (asking section.Asked (each p (phase seed)) (phase_line p) (each i (command_at seed p) ++ (command n k of) ∷ []))) line
    one in
    let three = subst (λ (n : ℕ). Leads (phase_line p + 1 * i) (commands_part seed p i) (asked_text (command_at seed p i)) n
    (asking section.Asked (each p (phase seed)) (phase_line p) (each i (command_at seed p) ++ (command_at seed p i) ∷ [])))
    next two in
    subst (λ (lines : List PhaseLine). Leads (phase_line p + 1 * i) (commands_part seed p i)
    (asked_text (command_at seed p i)) (phase_line p + 1 * suc i)
    (asking section.Asked (each p (phase seed)) (phase_line p) lines)) (sym (each-more i (command_at seed p))) three

hook_next : (seed p n : ℕ) → p < 10 → n < 8000
    → Leads (phase_line p + 30 + 1 * n) (hooks_part seed p n) (asked_text (hook_at seed p n)) (phase_line p + 30 + 1 * suc n)
    (hooks_part seed p (suc n))
hook_next seed p n below few =
    let k : ℕ = draw_below seed (draws_before p + 60 + 3 * n) 5 in
    let j : ℕ = draw_below seed (draws_before p + 61 + 3 * n) 8 in
    let c : ℕ = draw_below seed (draws_before p + 62 + 3 * n) 6 in
    let worker : ℕ = n / 1000 + 1 in
    let commands : List PhaseLine = each 30 (command_at seed p) in
    let hooks : List PhaseLine = each n (hook_at seed p) in
    let line : phase_line p + 30 + 1 * n + 1 ≡ phase_line p + 31 + n = omega arith in
    let next : phase_line p + 30 + 1 * n + 1 ≡ phase_line p + 30 + 1 * suc n = omega arith in
    let place : Place = record {
      section = section.Asked;
      phases = each p (phase seed);
      opened = phase_line p;
      lines = commands ++ hooks;
      count = phase_line p + 30 + 1 * n;
      worker = worker;
    } in
    let one = hook-leads place k j c (record {
      follow = refl;
      few = omega (arith, length-each p (phase seed), below);
      most = omega (arith, below, few);
    }) (record { some = omega arith; among = omega (arith, few); below = omega arith }) (omega arith) in
    let two = subst (λ (m : ℕ). Leads (phase_line p + 30 + 1 * n) (hooks_part seed p n) (asked_text (hook m worker k j c))
    (phase_line p + 30 + 1 * n + 1)
    (asking section.Asked (each p (phase seed)) (phase_line p) (commands ++ hooks ++ (hook m worker k j c) ∷ []))) line one in
    let three = subst (λ (m : ℕ). Leads (phase_line p + 30 + 1 * n) (hooks_part seed p n) (asked_text (hook_at seed p n)) m
    (asking section.Asked (each p (phase seed)) (phase_line p) (commands ++ hooks ++ (hook_at seed p n) ∷ []))) next two in
    let lines : commands ++ hooks ++ (hook_at seed p n) ∷ [] ≡ commands ++ each (suc n) (hook_at seed p) =
    append_assoc commands hooks ((hook_at seed p n) ∷ []) ∙ ap (λ (ls : List PhaseLine). commands ++ ls)
    (sym (each-more n (hook_at seed p))) in
    subst (λ (ls : List PhaseLine). Leads (phase_line p + 30 + 1 * n) (hooks_part seed p n) (asked_text (hook_at seed p n))
    (phase_line p + 30 + 1 * suc n) (asking section.Asked (each p (phase seed)) (phase_line p) ls)) lines three

-- the same lines, counted otherwise
leads-as : (a b c d : ℕ) (part last : Stage) (bytes : List ℕ) → a ≡ b → c ≡ d → Leads a part bytes c last
    → Leads b part bytes d last
leads-as a b c d part last bytes e f leads =
    subst (λ (n : ℕ). Leads n part bytes d last) e (subst (λ (n : ℕ). Leads a part bytes n last) f leads)

commands_lead : (seed p : ℕ) → p < 10
    → Leads (phase_line p + 1 * 0) (commands_part seed p 0) (flat_map asked_text (each 30 (command_at seed p)))
    (phase_line p + 1 * 30) (commands_part seed p 30)
commands_lead seed p below =
    leads-each (command_at seed p) asked_text (commands_part seed p) (phase_line p) 1 30
    (λ i few. command_next seed p i below few) 30 (omega arith)

hooks_lead : (seed p : ℕ) → p < 10
    → Leads (phase_line p + 30 + 1 * 0) (hooks_part seed p 0) (flat_map asked_text (each 8000 (hook_at seed p)))
    (phase_line p + 30 + 1 * 8000) (hooks_part seed p 8000)
hooks_lead seed p below =
    leads-each (hook_at seed p) asked_text (hooks_part seed p) (phase_line p + 30) 1 8000
    (λ n few. hook_next seed p n below few) 8000 (omega arith)

first_hook : (seed p : ℕ) → commands_part seed p 30 ≡ hooks_part seed p 0
first_hook seed p =
    ap (λ (lines : List PhaseLine). asking section.Asked (each p (phase seed)) (phase_line p) lines)
    (sym (append-nil (each 30 (command_at seed p)))
    ∙ ap (λ (none : List PhaseLine). each 30 (command_at seed p) ++ none) (sym (each-none (hook_at seed p))))

phase_leads : (seed p : ℕ) → p < 10
    → Leads (106 + 8031 * p) (phase_part seed p) (phase_text (phase seed p)) (106 + 8031 * suc p) (phase_part seed (suc p))
phase_leads seed p below =
    let commands : List ℕ = flat_map asked_text (each 30 (command_at seed p)) in
    let hooks : List ℕ = flat_map asked_text (each 8000 (hook_at seed p)) in
    let begins = leads-as (106 + 8031 * p) (106 + 8031 * p) (106 + 8031 * p + 1) (phase_line p + 1 * 0) (phase_part seed p)
    (commands_part seed p 0) (said_text (line.Phase (phase_line p))) refl (omega arith) (phase_begins seed p below) in
    let first = leads-as (phase_line p + 1 * 0) (phase_line p + 1 * 0) (phase_line p + 1 * 30) (phase_line p + 30 + 1 * 0)
    (commands_part seed p 0) (commands_part seed p 30) commands refl (omega arith) (commands_lead seed p below) in
    let second = subst (λ (part : Stage). Leads (phase_line p + 1 * 0) (commands_part seed p 0) commands
    (phase_line p + 30 + 1 * 0) part) (first_hook seed p) first in
    let third = leads-as (phase_line p + 30 + 1 * 0) (phase_line p + 30 + 1 * 0) (phase_line p + 30 + 1 * 8000)
    (106 + 8031 * suc p) (hooks_part seed p 0) (hooks_part seed p 8000) hooks refl (omega arith) (hooks_lead seed p below) in
    let lines = leads-then (phase_line p + 1 * 0) (phase_line p + 30 + 1 * 0) (106 + 8031 * suc p) (commands_part seed p 0)
    (hooks_part seed p 0) (hooks_part seed p 8000) commands hooks second third in
    subst (λ (bs : List ℕ). Leads (106 + 8031 * p) (phase_part seed p) (said_text (line.Phase (phase_line p)) ++ bs)
    (106 + 8031 * suc p) (hooks_part seed p 8000))
    (sym (flat_map-append asked_text (each 30 (command_at seed p)) (each 8000 (hook_at seed p))))
    (leads-then (106 + 8031 * p) (phase_line p + 1 * 0) (106 + 8031 * suc p) (phase_part seed p) (commands_part seed p 0)
    (hooks_part seed p 8000) (said_text (line.Phase (phase_line p))) (commands ++ hooks) begins lines)

-- ---- the whole file

abbrev end_part : ℕ → Stage
end_part seed = record (mark_part 16) {
  place = section.Ended;
  phases = each 10 (phase seed);
  opened = None;
  asked = [];
}

end_leads : (seed : ℕ) → Leads 80416 (phase_part seed 10) (said_text line.End) 80417 (end_part seed)
end_leads seed =
    leads-said 80416 (phase_part seed 10) (end_part seed) line.End (codes "end") [] refl (omega arith)
    (λ counts few. (
      counts,
      few-more 80416 counts few,
      record {
        spelled = refl;
        plain = refl;
        placed = refl;
        says = tt;
        told = refl;
        ranged = refl;
        within = ap is_within_limits (ended counts)
            ∙ within-limits 80417 (end_part seed) counts (few-more 80416 counts few) (omega arith)
            (omega (arith, length-each 16 text_id)) (omega (arith, length-each 8 file_path))
            (omega (arith, length-each 16 mark)) (omega (arith, length-each 10 (phase seed)));
      },
      ended counts,
    ))
  where
    ended : (counts : Counts)
        → with_line (known_at 80417 (phase_part seed 10) counts) line.End ≡ known_at 80417 (end_part seed) counts
    ended counts =
        ap (λ (phases : List Phase). known_at 80417 (record (end_part seed) { phases = phases }) counts)
        (before_is seed 10 80417 counts)

whole_leads : (seed : ℕ) → Leads 0 start_part (request_text (roll seed)) 80417 (end_part seed)
whole_leads seed =
    let script = roll seed in
    let head : Leads 0 start_part (head_text 8) 2 (text_part 0) =
    subst (λ (part : Stage). Leads 0 start_part (head_text 8) 2 part) first_text
    (leads-then 0 1 2 start_part header_part workers_part (said_text line.Header) (said_text (line.Workers 8)) header_leads
    workers_leads) in
    let texts : Leads 2 (text_part 0) (flat_map text_text script.texts) 82 (file_part 0) =
    subst (λ (part : Stage). Leads 2 (text_part 0) (flat_map text_text script.texts) 82 part) first_file
    (leads-each text text_text text_part 2 5 16 text_leads 16 (omega arith)) in
    let files : Leads 82 (file_part 0) (flat_map file_text script.files) 90 (mark_part 0) =
    subst (λ (part : Stage). Leads 82 (file_part 0) (flat_map file_text script.files) 90 part) first_mark
    (leads-each file file_text file_part 82 1 8 file_leads 8 (omega arith)) in
    let marks : Leads 90 (mark_part 0) (flat_map mark_text script.marks) 106 (phase_part seed 0) =
    leads-each mark mark_text mark_part 90 1 16 mark_leads 16 (omega arith) in
    let phases : Leads 106 (phase_part seed 0) (flat_map phase_text script.phases) 80416 (phase_part seed 10) =
    leads-each (phase seed) phase_text (phase_part seed) 106 8031 10 (λ p below. phase_leads seed p below) 10 (omega arith) in
    let last = leads-then 106 80416 80416 (phase_part seed 0) (phase_part seed 10) (phase_part seed 10)
    (flat_map phase_text script.phases) [] phases (leads-nothing 80416 (phase_part seed 10)) in
    let more = leads-then 90 106 80416 (mark_part 0) (phase_part seed 0) (phase_part seed 10)
    (flat_map mark_text script.marks) (flat_map phase_text script.phases ++ []) marks last in
    let rest = leads-then 82 90 80416 (file_part 0) (mark_part 0) (phase_part seed 10) (flat_map file_text script.files)
    (flat_map mark_text script.marks ++ (flat_map phase_text script.phases ++ [])) files more in
    let body : Leads 2 (text_part 0) (body_text script) 80416 (phase_part seed 10) =
    leads-then 2 82 80416 (text_part 0) (file_part 0) (phase_part seed 10) (flat_map text_text script.texts)
    (flat_map file_text script.files ++ (flat_map mark_text script.marks ++ (flat_map phase_text script.phases ++ [])))
    texts rest in
    leads-then 0 80416 80417 start_part (phase_part seed 10) (end_part seed) (head_text 8 ++ body_text script)
    (said_text line.End)
    (leads-then 0 2 80416 start_part (text_part 0) (phase_part seed 10) (head_text 8) (body_text script) head body)
    (end_leads seed)

none_counted : Counts
none_counted = record { commands = 0; hooks = 0; work = 0; longest = 4096 }

roll_read : (seed : ℕ) → requests_of (request_text (roll seed)) ≡ Ok (roll seed)
unfolding file_read none_counted
roll_read seed =
    let given = (whole_leads seed).comes none_counted
    (record { commands = omega arith; hooks = omega arith; work = omega arith }) in
    ap (λ (bs : List ℕ). script_or_bad (read_pieces at_first (slice_split is_line_feed bs)))
    (sym (append-nil (request_text (roll seed))))
    ∙ ap script_or_bad (given.2 [])

-- the roll-out is read of its spelling, which isn't too long
pub roll_of_file : (seed : ℕ) → IsOfFile (roll seed)
roll_of_file seed = record {
  read = roll_read seed;
  few = omega (arith, (whole_leads seed).short);
}

-- so is one that is made of the same lists
pub made_of_file : (seed : ℕ) (texts : List TextLine) (volumes : List VolumeLine) (files : List FileLine)
    (seals : List SealLine) (marks : List MarkLine) (phases : List Phase) → texts ≡ each 16 text → volumes ≡ []
    → files ≡ each 8 file → seals ≡ [] → marks ≡ each 16 mark → phases ≡ each 10 (phase seed)
    → IsOfFile (record {
      workers = 8;
      texts = texts;
      volumes = volumes;
      files = files;
      seals = seals;
      marks = marks;
      phases = phases;
    })
made_of_file seed texts volumes files seals marks phases a b c d e f = rw (a, b, c, d, e, f) (roll_of_file seed)
