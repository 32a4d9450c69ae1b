-- A line more keeps the rules.
use Rattle.std.proofs.Common.{◌≡◌, ℕ, zero, suc, ◌+◌, ◌-◌, ◌*◌, ◌<◌, ◌≤◌, true, false, nat_lt, List, [], ◌∷◌, ◌++◌, length, map, Option, Some, None, is_some, sym, ap, ◌∙◌, arith, append-nil, length-append}
use Rattle.std.specs.List.{AllByRecursion}
use Rattle.std.specs.Option.{option_map_or}
use Rattle.std.proofs.lemmas.Bool.{ltb-false}
use Rattle.std.proofs.lemmas.List.{map_push}
use Rattle.std.proofs.lemmas.List.Sums.{sum_by_push}
use Rattle.line_words.specs.Words.{is_text}
use Rattle.ipe_requests.specs.declared.script.TextLine.{TextLine}
use Rattle.ipe_requests.specs.declared.script.VolumeLine.{VolumeLine}
use Rattle.ipe_requests.specs.declared.script.FileForm.{FileForm}
use Rattle.ipe_requests.specs.declared.script.FileForm.TheVariants as form
use Rattle.ipe_requests.specs.declared.script.FileLine.{FileLine}
use Rattle.ipe_requests.specs.declared.script.MarkDigest.{MarkDigest}
use Rattle.ipe_requests.specs.declared.script.MarkDigest.TheVariants as digest
use Rattle.ipe_requests.specs.declared.script.WriteContent.{WriteContent}
use Rattle.ipe_requests.specs.declared.script.WriteContent.TheVariants as content
use Rattle.ipe_requests.specs.declared.script.PhaseLine.{PhaseLine}
use Rattle.ipe_requests.specs.declared.script.PhaseLine.TheVariants as asked
use Rattle.ipe_requests.specs.declared.script.Phase.{Phase}
use Rattle.ipe_requests.specs.declared.line.Section.TheVariants as section
use Rattle.ipe_requests.specs.declared.line.Line.{Line}
use Rattle.ipe_requests.specs.declared.line.Line.TheVariants as line
use Rattle.ipe_requests.specs.declared.known.Known.{Known}
use Rattle.ipe_requests.specs.declared.known.OpenText.{OpenText}
use Rattle.ipe_requests.specs.Known.{a_text, a_file, ends_beyond, is_declared, is_out_of_range, item_of, phases_of, with_counts, with_last, with_line, with_open, with_opened, with_raw}
use Rattle.ipe_requests.specs.Requests.{Script, file_of, script_of, text_of, volume_of}
use Rattle.ipe_requests.specs.Rules.{EndsWithin, IsContentOf, IsDigestOf, IsFileOf, IsFormOf, IsMarkOf, IsPathOf, IsSealOf, line_number}
use Rattle.ipe_requests.proofs.RuleLists.{all-map, all-push, declared-found, found-push, found-same, item-found, names-push, rise-push}
use Rattle.ipe_requests.proofs.RuleKept.{Grows, Held, Keeps, KeepsOpen, KeptLine, KeptPhase, digest-grows, file_name, form-grows, held-grows, line-grows, lines_in, more-keeps, open_name, text_name, volume_name}
use Rattle.ipe_requests.proofs.RuleWords.{Good, GoodAsked, GoodContent, GoodDigest, GoodForm, GoodPath}
use Rattle.ipe_requests.specs.Spelling.{file_shape, mark_shape}
use Rattle.ipe_requests.proofs.SoFar.{Stands, asked-place, first_place, rank}

-- ---- what is declared is found

whole-names : (names : List (List ℕ)) (texts : List TextLine) (text : Option OpenText) → text ≡ None
    → names ≡ map text_name texts ++ open_name text → names ≡ map text_name texts
whole-names names texts text none is =
    is ∙ ap (λ (o : Option OpenText). map text_name texts ++ open_name o) none ∙ append-nil (map text_name texts)

text-declared : (most : ℕ) (known : Known) (name : List ℕ) → Keeps most known → known.text ≡ None
    → is_declared a_text known name ≡ true → is_some (text_of (script_of known) name) ≡ true
text-declared most known name keeps none e =
    declared-found text_name name known.texts.names known.texts.items
    (whole-names known.texts.names known.texts.items known.text none keeps.text_names) e

file-declared : (most : ℕ) (known : Known) (path : List ℕ) → Keeps most known → is_declared a_file known path ≡ true
    → is_some (file_of (script_of known) path) ≡ true
file-declared most known path keeps e =
    declared-found file_name path known.files.names known.files.items keeps.file_names e

ends-within : (o : Option VolumeLine) (first size : ℕ) → is_some o ≡ true
    → option_map_or (λ (named : VolumeLine).
    nat_lt (named.table.blocks * named.table.block_size) (first * named.table.block_size + size)) o false ≡ false
    → EndsWithin o first size
ends-within None first size some e = absurd (cc)
ends-within (Some volume) first size some e =
    ltb-false (volume.table.blocks * volume.table.block_size) (first * volume.table.block_size + size) e

form-of : (most : ℕ) (known : Known) (of_file : FileForm) → Keeps most known → known.text ≡ None → GoodForm known of_file
    → ends_beyond known of_file ≡ false → IsFormOf (script_of known) of_file
form-of most known (form.Boot dev ino text) keeps none good e =
    (good.0, text-declared most known text keeps none good.1)
form-of most known (form.Plain device at size dev ino) keeps none good e = good
form-of most known (form.Volume volume first size ino) keeps none good e =
    let same : item_of known.volumes volume ≡ volume_of (script_of known) volume =
    item-found volume_name volume known.volumes.names known.volumes.items keeps.volume_names in (
      good.0,
      ends-within (volume_of (script_of known) volume) first size
          (declared-found volume_name volume known.volumes.names known.volumes.items keeps.volume_names good.1)
          (ap (λ (o : Option VolumeLine). option_map_or (λ (named : VolumeLine).
          nat_lt (named.table.blocks * named.table.block_size) (first * named.table.block_size + size)) o false) (sym same) ∙ e),
    )

digest-of : (most : ℕ) (known : Known) (what : MarkDigest) → Keeps most known → known.text ≡ None → GoodDigest known what
    → IsDigestOf (script_of known) what
digest-of most known (digest.Text text) keeps none good = text-declared most known text keeps none good
digest-of most known (digest.Hex bytes) keeps none good = tt

content-of : (most : ℕ) (known : Known) (what : WriteContent) → Keeps most known → known.text ≡ None
    → GoodContent known what → IsContentOf (script_of known) what
content-of most known (content.Text text) keeps none good = text-declared most known text keeps none good
content-of most known (content.Echo word) keeps none good = tt
content-of most known (content.Hex bytes) keeps none good = tt

path-of : (most : ℕ) (known : Known) (path : Option (List ℕ)) → Keeps most known → GoodPath known path
    → IsPathOf (script_of known) path
path-of most known None keeps good = tt
path-of most known (Some path) keeps good = (good.0, file-declared most known path keeps good.1)

line-of : (most : ℕ) (known : Known) (what : PhaseLine) → Keeps most known → known.text ≡ None → most < known.count
    → line_number what ≡ known.count → GoodAsked known what → KeptLine known.count (script_of known) what
line-of most known (asked.Write number may node what) keeps none next is good =
    (tt, content-of most known what keeps none good, (omega (arith, next, is), omega (arith, is)))
line-of most known (asked.Read number node) keeps none next is good =
    (tt, tt, (omega (arith, next, is), omega (arith, is)))
line-of most known (asked.Hook number worker what subject path) keeps none next is good =
    ((good.0, good.1, good.2, path-of most known path keeps good.3), tt, (omega (arith, next, is), omega (arith, is)))

-- ---- one line

-- a text of which lines are still to come, or that is whole
pub open-keeps : (most : ℕ) (known : Known) (text : OpenText) (due : ℕ) → KeepsOpen most known text
    → Keeps most (with_open known text due)
open-keeps most known text zero keeps =
    let whole : TextLine = record { line = text.line; id = text.id; lines = text.lines; bytes = text.bytes } in
    let grows : Grows (script_of known) (script_of (with_open known text zero)) = record {
      texts = λ name e. found-push (λ (t : TextLine). is_text name t.id) known.texts.items whole e;
      volumes = λ name volume e. e;
      files = λ path e. e;
      workers = omega arith;
    } in
    record {
      text_names = keeps.text_names ∙ sym (map_push text_name known.texts.items whole)
          ∙ sym (append-nil (map text_name (known.texts.items ++ whole ∷ [])));
      volume_names = keeps.volume_names;
      file_names = keeps.file_names;
      early = keeps.early;
      workers = keeps.workers;
      held = held-grows most most (script_of known) (script_of (with_open known text zero)) known.files.items
          known.seals.items known.marks known.phases known.asked (omega arith) grows keeps.held;
    }
open-keeps most known text (suc due) keeps = record {
  text_names = keeps.text_names;
  volume_names = keeps.volume_names;
  file_names = keeps.file_names;
  early = keeps.early;
  workers = keeps.workers;
  held = keeps.held;
}

-- a line of the open text
pub raw-keeps : (most : ℕ) (known : Known) (o : Option OpenText) (bytes : List ℕ) → known.text ≡ o → Keeps most known
    → Keeps most (with_raw known o bytes)
raw-keeps most known None bytes is keeps = keeps
raw-keeps most known (Some text) bytes is keeps =
    open-keeps most known (record text { bytes = text.bytes ++ bytes ++ 10 ∷ [] }) (known.due - 1) (record {
      text_names = keeps.text_names
          ∙ ap (λ (o : Option OpenText). map text_name known.texts.items ++ open_name o) is;
      volume_names = keeps.volume_names;
      file_names = keeps.file_names;
      early = keeps.early;
      workers = keeps.workers;
      held = keeps.held;
    })

-- the phases with the one that has begun last
pub opened-all : (P : Phase → Type 0) (phases : List Phase) (opened : Option ℕ) (last : List PhaseLine)
    → AllByRecursion P phases → ((number : ℕ) → P (record { line = number; lines = last }))
    → AllByRecursion P (with_opened phases opened last)
opened-all P phases None last all one = all
opened-all P phases (Some number) last all one = all-push P phases (record { line = number; lines = last }) all (one number)

pub opened-few : (phases : List Phase) (opened : Option ℕ) (last : List PhaseLine)
    → lines_in (with_opened phases opened last) ≤ lines_in phases + length last
opened-few phases None last = omega arith
opened-few phases (Some number) last =
    let e : lines_in (phases ++ (record { line = number; lines = last }) ∷ []) ≡ lines_in phases + length last =
    sum_by_push (λ (phase : Phase). length phase.lines) phases (record { line = number; lines = last }) in
    omega (arith, e)

closed-held : (most : ℕ) (known : Known) (script : Script)
    → Held most script script.files script.seals script.marks known.phases known.asked
    → Held most script script.files script.seals script.marks (phases_of known) []
closed-held most known script held = record {
  files_of = held.files_of;
  seals_of = held.seals_of;
  marks_of = held.marks_of;
  phases_of = opened-all (KeptPhase most script) known.phases known.opened known.asked held.phases_of
      (λ number. held.last_of);
  last_of = (tt, tt);
  few = omega (arith, held.few, opened-few known.phases known.opened known.asked);
}

-- a line of a phase
asked-keeps : (most : ℕ) (known : Known) (what : PhaseLine) → Keeps most known → known.text ≡ None
    → rank known.section ≡ 8 → most < known.count → line_number what ≡ known.count → GoodAsked known what
    → Keeps known.count (with_last known what)
asked-keeps most known what keeps none place next is good =
    let more = more-keeps most known.count known (omega arith) keeps in
    let grows : Grows (script_of known) (script_of (with_last known what)) =
    record { texts = λ name e. e; volumes = λ name volume e. e; files = λ path e. e; workers = omega arith } in
    let held = held-grows known.count known.count (script_of known) (script_of (with_last known what)) known.files.items
    known.seals.items known.marks known.phases known.asked (omega arith) grows more.held in
    record {
      text_names = keeps.text_names;
      volume_names = keeps.volume_names;
      file_names = keeps.file_names;
      early = λ early. absurd (omega (arith, early));
      workers = λ late. keeps.workers (omega (arith, place));
      held = record {
        files_of = held.files_of;
        seals_of = held.seals_of;
        marks_of = held.marks_of;
        phases_of = held.phases_of;
        last_of = (
          rise-push line_number most known.asked what keeps.held.last_of.0
              (all-map (KeptLine most (script_of known)) (λ (l : PhaseLine). line_number l ≤ most) known.asked
              (λ l kept. kept.2.1) keeps.held.last_of.1) (omega (arith, is, next)),
          all-push (KeptLine known.count (script_of (with_last known what))) known.asked what held.last_of.1
              (line-grows known.count known.count (script_of known) (script_of (with_last known what)) what (omega arith) grows
              (line-of most known what keeps none next is good)),
        );
        few = omega (arith, keeps.held.few, next, length-append known.asked (what ∷ []));
      };
    }

asked-step : (most : ℕ) (known : Known) (what : PhaseLine) → Keeps most known → known.text ≡ None
    → rank known.section ≡ 8 → most < known.count → line_number what ≡ known.count → GoodAsked known what
    → Keeps known.count (with_line known (line.Asked what))
asked-step most known (asked.Write number may node what) keeps none place next is good =
    asked-keeps most (with_counts known (asked.Write number may node what)) (asked.Write number may node what) keeps none
    place next is good
asked-step most known (asked.Read number node) keeps none place next is good =
    asked-keeps most (with_counts known (asked.Read number node)) (asked.Read number node) keeps none place next is good
asked-step most known (asked.Hook number worker what subject path) keeps none place next is good =
    asked-keeps most (with_counts known (asked.Hook number worker what subject path))
    (asked.Hook number worker what subject path) keeps none place next is good

-- a line keeps the rules, where no text is open
pub line-keeps : (most : ℕ) (known : Known) (said : Line) → Keeps most known → known.text ≡ None → most < known.count
    → Stands known.section said → Good known said → is_out_of_range known said ≡ false
    → Keeps known.count (with_line known said)
line-keeps most known line.Header keeps none next stands good within =
    let more = more-keeps most known.count known (omega arith) keeps in
    record {
      text_names = keeps.text_names;
      volume_names = keeps.volume_names;
      file_names = keeps.file_names;
      early = λ early. keeps.early (omega (arith, stands.upto));
      workers = λ late. absurd (omega (arith, late));
      held = more.held;
    }
line-keeps most known (line.Workers count) keeps none next stands good within =
    let before : known.workers ≡ 0 = keeps.early (omega (arith, stands.upto)) in
    let grows : Grows (script_of known) (script_of (with_line known (line.Workers count))) =
    record { texts = λ name e. e; volumes = λ name volume e. e; files = λ path e. e; workers = omega (arith, before) } in
    record {
      text_names = keeps.text_names;
      volume_names = keeps.volume_names;
      file_names = keeps.file_names;
      early = λ early. absurd (omega (arith, early));
      workers = λ late. good;
      held = held-grows most known.count (script_of known) (script_of (with_line known (line.Workers count)))
          known.files.items known.seals.items known.marks known.phases known.asked (omega arith) grows keeps.held;
    }
line-keeps most known (line.Text text) keeps none next stands good within =
    let more = more-keeps most known.count known (omega arith) keeps in
    open-keeps known.count (record known {
      section = section.Texts;
      texts = record { names = known.texts.names ++ text.id ∷ []; items = known.texts.items };
    }) text text.lines (record {
      text_names = ap (λ (ns : List (List ℕ)). ns ++ text.id ∷ [])
          (whole-names known.texts.names known.texts.items known.text none keeps.text_names);
      volume_names = keeps.volume_names;
      file_names = keeps.file_names;
      early = λ early. absurd (omega (arith, early));
      workers = λ late. keeps.workers (omega (arith, stands.from));
      held = more.held;
    })
line-keeps most known (line.Volume volume) keeps none next stands good within =
    let grows : Grows (script_of known) (script_of (with_line known (line.Volume volume))) = record {
      texts = λ name e. e;
      volumes = λ name found e.
          found-same (λ (v : VolumeLine). is_text name v.id) known.volumes.items volume found e;
      files = λ path e. e;
      workers = omega arith;
    } in
    record {
      text_names = keeps.text_names;
      volume_names = names-push volume_name known.volumes.names known.volumes.items volume keeps.volume_names;
      file_names = keeps.file_names;
      early = λ early. absurd (omega (arith, early));
      workers = λ late. keeps.workers (omega (arith, stands.from));
      held = held-grows most known.count (script_of known) (script_of (with_line known (line.Volume volume)))
          known.files.items known.seals.items known.marks known.phases known.asked (omega arith) grows keeps.held;
    }
line-keeps most known (line.File file) keeps none next stands good within =
    let grows : Grows (script_of known) (script_of (with_line known (line.File file))) = record {
      texts = λ name e. e;
      volumes = λ name volume e. e;
      files = λ path e. found-push (λ (f : FileLine). is_text path f.path) known.files.items file e;
      workers = omega arith;
    } in
    let held = held-grows most known.count (script_of known) (script_of (with_line known (line.File file)))
    known.files.items known.seals.items known.marks known.phases known.asked (omega arith) grows keeps.held in
    record {
      text_names = keeps.text_names;
      volume_names = keeps.volume_names;
      file_names = names-push file_name known.files.names known.files.items file keeps.file_names;
      early = λ early. absurd (omega (arith, early));
      workers = λ late. keeps.workers (omega (arith, from_place file.form stands.from));
      held = record {
        files_of = all-push (IsFileOf (script_of (with_line known (line.File file)))) known.files.items file held.files_of (
          good.0,
          form-grows (script_of known) (script_of (with_line known (line.File file))) file.form grows
              (form-of most known file.form keeps none good.1 within),
        );
        seals_of = held.seals_of;
        marks_of = held.marks_of;
        phases_of = held.phases_of;
        last_of = held.last_of;
        few = held.few;
      };
    }
  where
    from_place : (of_file : FileForm) → first_place (file_shape of_file) ≤ rank known.section → 2 ≤ rank known.section
    from_place (form.Boot dev ino text) from = from
    from_place (form.Volume volume first size ino) from = from
    from_place (form.Plain device at size dev ino) from = from
line-keeps most known (line.Seal seal) keeps none next stands good within =
    let more = more-keeps most known.count known (omega arith) keeps in
    let grows : Grows (script_of known) (script_of (with_line known (line.Seal seal))) =
    record { texts = λ name e. e; volumes = λ name volume e. e; files = λ path e. e; workers = omega arith } in
    let held = held-grows known.count known.count (script_of known) (script_of (with_line known (line.Seal seal)))
    known.files.items known.seals.items known.marks known.phases known.asked (omega arith) grows more.held in
    record {
      text_names = keeps.text_names;
      volume_names = keeps.volume_names;
      file_names = keeps.file_names;
      early = λ early. absurd (omega (arith, early));
      workers = λ late. keeps.workers (omega (arith, stands.from));
      held = record {
        files_of = held.files_of;
        seals_of = all-push (IsSealOf (script_of (with_line known (line.Seal seal)))) known.seals.items seal held.seals_of
            (file-declared most known seal.path keeps good);
        marks_of = held.marks_of;
        phases_of = held.phases_of;
        last_of = held.last_of;
        few = held.few;
      };
    }
line-keeps most known (line.Mark mark) keeps none next stands good within =
    let more = more-keeps most known.count known (omega arith) keeps in
    let grows : Grows (script_of known) (script_of (with_line known (line.Mark mark))) =
    record { texts = λ name e. e; volumes = λ name volume e. e; files = λ path e. e; workers = omega arith } in
    let held = held-grows known.count known.count (script_of known) (script_of (with_line known (line.Mark mark)))
    known.files.items known.seals.items known.marks known.phases known.asked (omega arith) grows more.held in
    record {
      text_names = keeps.text_names;
      volume_names = keeps.volume_names;
      file_names = keeps.file_names;
      early = λ early. absurd (omega (arith, early));
      workers = λ late. keeps.workers (omega (arith, from_place mark.digest stands.from));
      held = record {
        files_of = held.files_of;
        seals_of = held.seals_of;
        marks_of = all-push (IsMarkOf (script_of (with_line known (line.Mark mark)))) known.marks mark held.marks_of
            (digest-grows (script_of known) (script_of (with_line known (line.Mark mark))) mark.digest grows
            (digest-of most known mark.digest keeps none good));
        phases_of = held.phases_of;
        last_of = held.last_of;
        few = held.few;
      };
    }
  where
    from_place : (of_mark : MarkDigest) → first_place (mark_shape of_mark) ≤ rank known.section → 2 ≤ rank known.section
    from_place (digest.Text text) from = from
    from_place (digest.Hex bytes) from = from
line-keeps most known (line.Phase number) keeps none next stands good within =
    let more = more-keeps most known.count known (omega arith) keeps in
    let grows : Grows (script_of known) (script_of (with_line known (line.Phase number))) =
    record { texts = λ name e. e; volumes = λ name volume e. e; files = λ path e. e; workers = omega arith } in
    let held = held-grows known.count known.count (script_of known) (script_of (with_line known (line.Phase number)))
    known.files.items known.seals.items known.marks known.phases known.asked (omega arith) grows more.held in
    record {
      text_names = keeps.text_names;
      volume_names = keeps.volume_names;
      file_names = keeps.file_names;
      early = λ early. absurd (omega (arith, early));
      workers = λ late. keeps.workers (omega (arith, stands.from));
      held = closed-held known.count known (script_of (with_line known (line.Phase number))) held;
    }
line-keeps most known (line.Asked what) keeps none next stands good within =
    asked-step most known what keeps none (asked-place known what stands) next good.0 good.1
line-keeps most known line.End keeps none next stands good within =
    let more = more-keeps most known.count known (omega arith) keeps in
    let grows : Grows (script_of known) (script_of (with_line known line.End)) =
    record { texts = λ name e. e; volumes = λ name volume e. e; files = λ path e. e; workers = omega arith } in
    let held = held-grows known.count known.count (script_of known) (script_of (with_line known line.End))
    known.files.items known.seals.items known.marks known.phases known.asked (omega arith) grows more.held in
    record {
      text_names = keeps.text_names;
      volume_names = keeps.volume_names;
      file_names = keeps.file_names;
      early = λ early. absurd (omega (arith, early));
      workers = λ late. keeps.workers (omega (arith, stands.from));
      held = closed-held known.count known (script_of (with_line known line.End)) held;
    }
