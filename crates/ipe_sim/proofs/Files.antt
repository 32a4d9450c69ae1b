-- The files and the marks.
use Rattle.std.proofs.Common.{◌≡◌, ℕ, zero, suc, ◌+◌, ◌*◌, ◌<◌, true, codes, List, [], ◌∷◌, ◌++◌, Some, None, Ok, refl, sym, ap, ◌∙◌, subst, arith}
use Rattle.std.specs.Fmt.{decimal}
use Rattle.std.specs.List.{list_all}
use Rattle.std.proofs.lemmas.Bool.{and_from}
use Rattle.std.proofs.lemmas.List.{length-append}
use Rattle.ipe_requests.specs.declared.script.FileLine.{FileLine}
use Rattle.ipe_requests.specs.declared.script.FileForm.TheVariants as form
use Rattle.ipe_requests.specs.declared.script.MarkLine.{MarkLine}
use Rattle.ipe_requests.specs.declared.script.MarkPurpose.TheVariants as purpose
use Rattle.ipe_requests.specs.declared.script.MarkVerdict.TheVariants as verdict
use Rattle.ipe_requests.specs.declared.script.MarkDigest.TheVariants as digest
use Rattle.ipe_requests.specs.declared.known.Known.{Known}
use Rattle.ipe_requests.specs.declared.known.Declared.{Declared}
use Rattle.ipe_requests.specs.declared.line.Section.{Section}
use Rattle.ipe_requests.specs.declared.line.Section.TheVariants as section
use Rattle.ipe_requests.specs.declared.line.Shape.TheVariants as shape
use Rattle.ipe_requests.specs.declared.line.Line.TheVariants as line
use Rattle.ipe_requests.specs.Words.{purpose_of, purpose_word, verdict_of, verdict_word}
use Rattle.ipe_requests.specs.Known.{a_file, a_text}
use Rattle.ipe_requests.specs.Table.{Purpose, Verdict, may_follow}
use Rattle.ipe_requests.specs.Reading.{read_word, shape_of}
use Rattle.ipe_requests.specs.Spelling.{file_text, mark_text}
use Rattle.ipe_sim.proofs.Says.{is_in_word}
use Rattle.ipe_sim.proofs.SaysWords.{name-said, new-said, number-said, old-said}
use Rattle.ipe_sim.specs.Roll.{each, file, file_path, mark, text_id}
use Rattle.ipe_sim.proofs.Each.{each-more, length-each}
use Rattle.ipe_sim.proofs.Facts.{is_file, is_id}
use Rattle.ipe_sim.proofs.Numbers.{decimal_plain, decimal_short}
use Rattle.ipe_sim.proofs.Stages.{Counts, Leads, Stage, known_at, few-more, leads-said, within-limits}
use Rattle.ipe_sim.proofs.Policies.{first_texts}

-- ---- the files

abbrev pub file_place : ℕ → Section
file_place zero = section.Texts
file_place (suc j) = section.Files

-- so many files
abbrev pub first_files : ℕ → Declared FileLine
first_files j = record { names = each j file_path; items = each j file }

abbrev pub file_part : ℕ → Stage
file_part j = record {
  place = file_place j;
  workers = 8;
  texts = first_texts 16;
  files = first_files j;
  marks = [];
  phases = [];
  opened = None;
  asked = [];
}

abbrev file_words : ℕ → List (List ℕ)
file_words j = file_path j ∷ codes "boot" ∷ codes "rootfs" ∷ decimal (100 + j) ∷ text_id j ∷ []

file_placed : (j : ℕ) → shape_of (may_follow (file_place j)) (codes "file" ∷ file_words j) ≡ Some shape.FileBoot
file_placed zero = refl
file_placed (suc j) = refl

abbrev file_whole : ℕ → Counts → List (List ℕ) → List FileLine → Known
file_whole j counts names items = known_at (82 + 1 * j + 1) (record (file_part j) {
  place = section.Files;
  files = record { names = names; items = items };
}) counts

file_whole-is : (j : ℕ) (counts : Counts)
    → file_whole j counts (each j file_path ++ file_path j ∷ []) (each j file ++ file j ∷ [])
    ≡ known_at (82 + 1 * j + 1) (file_part (suc j)) counts
file_whole-is j counts =
    ap (λ (names : List (List ℕ)). file_whole j counts names (each j file ++ file j ∷ [])) (sym (each-more j file_path))
    ∙ ap (λ (items : List FileLine). file_whole j counts (each (suc j) file_path) items) (sym (each-more j file))

file_next : (j : ℕ) → j < 8 → Leads (82 + 1 * j) (file_part j) (file_text (file j)) (82 + 1 * j + 1) (file_part (suc j))
file_next j below =
    let path = is_file j below in
    let id = is_id j (omega (arith, below)) in
    leads-said (82 + 1 * j) (file_part j) (file_part (suc j)) (line.File (file j)) (codes "file") (file_words j) refl
    (omega (arith, path.short, id.short, decimal_short (100 + j) (omega (arith, below))))
    (λ counts few.
    let known = known_at (82 + 1 * j + 1) (file_part j) counts in (
      counts,
      few-more (82 + 1 * j) counts few,
      record {
        spelled = refl;
        plain = and_from (list_all is_in_word (file_path j)) _ path.plain
            (and_from (list_all is_in_word (decimal (100 + j))) _ (decimal_plain (100 + j) (omega (arith, below)))
            (and_from (list_all is_in_word (text_id j)) true id.plain refl));
        placed = file_placed j;
        says = (
          new-said known a_file (file_path j) path.rule path.fresh,
          (
            name-said known (codes "rootfs") refl,
            (
              number-said known 0 18446744073709551615 (100 + j) (omega arith) (omega arith) (omega (arith, below)),
              (old-said known a_text (text_id j) id.rule id.declared, tt),
            ),
          ),
        );
        told =
            let same : 82 + 1 * j + 1 ≡ 83 + j = omega arith in
            ap (λ (n : ℕ). line.File (record {
              line = n;
              path = file_path j;
              form = form.Boot (codes "rootfs") (100 + j) (text_id j);
            })) same;
        ranged = refl;
        within = within-limits (82 + 1 * j + 1) (record (file_part j) {
          place = section.Files;
          files = record { names = each j file_path ++ file_path j ∷ []; items = each j file ++ file j ∷ [] };
        }) counts (few-more (82 + 1 * j) counts few) (omega (arith, below)) (omega (arith, length-each 16 text_id))
            (omega (arith, length-append (each j file_path) (file_path j ∷ []), length-each j file_path, below)) (omega arith)
            (omega arith);
      },
      file_whole-is j counts,
    ))

pub file_leads : (j : ℕ) → j < 8 → Leads (82 + 1 * j) (file_part j) (file_text (file j)) (82 + 1 * suc j) (file_part (suc j))
file_leads j below =
    let count : 82 + 1 * j + 1 ≡ 82 + 1 * suc j = omega arith in
    subst (λ (n : ℕ). Leads (82 + 1 * j) (file_part j) (file_text (file j)) n (file_part (suc j))) count (file_next j below)

-- ---- the marks

abbrev pub mark_place : ℕ → Section
mark_place zero = section.Files
mark_place (suc i) = section.Marks

abbrev pub mark_part : ℕ → Stage
mark_part i = record {
  place = mark_place i;
  workers = 8;
  texts = first_texts 16;
  files = first_files 8;
  marks = each i mark;
  phases = [];
  opened = None;
  asked = [];
}

abbrev mark_words : ℕ → List (List ℕ)
mark_words i = codes "policy" ∷ codes "trusted" ∷ codes "text" ∷ text_id i ∷ []

mark_placed : (i : ℕ) → shape_of (may_follow (mark_place i)) (codes "mark" ∷ mark_words i) ≡ Some shape.MarkText
mark_placed zero = refl
mark_placed (suc i) = refl

purpose-said : (known : Known) → read_word known Purpose (purpose_word purpose.Policy) ≡ Ok purpose.Policy
unfolding purpose_of
purpose-said known = refl

verdict-said : (known : Known) → read_word known Verdict (verdict_word verdict.Trusted) ≡ Ok verdict.Trusted
unfolding verdict_of
verdict-said known = refl

abbrev mark_whole : ℕ → Counts → List MarkLine → Known
mark_whole i counts marks = known_at (90 + 1 * i + 1) (record (mark_part i) { place = section.Marks; marks = marks }) counts

mark_next : (i : ℕ) → i < 16 → Leads (90 + 1 * i) (mark_part i) (mark_text (mark i)) (90 + 1 * i + 1) (mark_part (suc i))
mark_next i below =
    let id = is_id i below in
    leads-said (90 + 1 * i) (mark_part i) (mark_part (suc i)) (line.Mark (mark i)) (codes "mark") (mark_words i) refl
    (omega (arith, id.short))
    (λ counts few.
    let known = known_at (90 + 1 * i + 1) (mark_part i) counts in (
      counts,
      few-more (90 + 1 * i) counts few,
      record {
        spelled = refl;
        plain = and_from (list_all is_in_word (text_id i)) true id.plain refl;
        placed = mark_placed i;
        says = (
          purpose-said known,
          (verdict-said known, (old-said known a_text (text_id i) id.rule id.declared, tt)),
        );
        told =
            let same : 90 + 1 * i + 1 ≡ 91 + i = omega arith in
            ap (λ (n : ℕ). line.Mark (record {
              line = n;
              purpose = purpose.Policy;
              verdict = verdict.Trusted;
              digest = digest.Text (text_id i);
            })) same;
        ranged = refl;
        within = within-limits (90 + 1 * i + 1) (record (mark_part i) {
          place = section.Marks;
          marks = each i mark ++ mark i ∷ [];
        }) counts (few-more (90 + 1 * i) counts few) (omega (arith, below)) (omega (arith, length-each 16 text_id))
            (omega (arith, length-each 8 file_path))
            (omega (arith, length-append (each i mark) (mark i ∷ []), length-each i mark, below)) (omega arith);
      },
      ap (λ (marks : List MarkLine). mark_whole i counts marks) (sym (each-more i mark)),
    ))

pub mark_leads : (i : ℕ) → i < 16 → Leads (90 + 1 * i) (mark_part i) (mark_text (mark i)) (90 + 1 * suc i) (mark_part (suc i))
mark_leads i below =
    let count : 90 + 1 * i + 1 ≡ 90 + 1 * suc i = omega arith in
    subst (λ (n : ℕ). Leads (90 + 1 * i) (mark_part i) (mark_text (mark i)) n (mark_part (suc i))) count (mark_next i below)
