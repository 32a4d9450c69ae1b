-- The lines before the phases.
use Rattle.std.proofs.Common.{◌≡◌, ℕ, zero, suc, ◌+◌, ◌*◌, ◌<◌, ◌≤◌, max, true, ◌&&◌, codes, List, [], ◌∷◌, ◌++◌, length, Some, None, refl, sym, ap, ◌∙◌, subst, arith}
use Rattle.std.specs.Fmt.{decimal, digits}
use Rattle.std.specs.List.{list_all}
use Rattle.std.proofs.lemmas.Bool.{and_from}
use Rattle.std.proofs.lemmas.Fmt.{length-decimal-le}
use Rattle.std.proofs.lemmas.List.{length-append, append_assoc}
use Rattle.line_words.specs.Lines.{line_text}
use Rattle.ipe_requests.specs.declared.script.TextLine.{TextLine}
use Rattle.ipe_requests.specs.declared.known.Known.{Known}
use Rattle.ipe_requests.specs.declared.known.Declared.{Declared}
use Rattle.ipe_requests.specs.declared.line.Section.{Section}
use Rattle.ipe_requests.specs.declared.line.Section.TheVariants as section
use Rattle.ipe_requests.specs.declared.line.Line.{Line}
use Rattle.ipe_requests.specs.declared.line.Line.TheVariants as line
use Rattle.ipe_requests.specs.Known.{a_text, nothing}
use Rattle.ipe_requests.specs.Table.{may_follow}
use Rattle.ipe_requests.specs.Reading.{shape_of}
use Rattle.ipe_requests.specs.Spelling.{said_text, text_text}
use Rattle.ipe_sim.proofs.Says.{Comes, MayStand, comes-raw, comes-said, comes-then, is_in_word}
use Rattle.ipe_sim.proofs.SaysWords.{new-said, number-said}
use Rattle.ipe_sim.specs.Roll.{default, each, header, policy_text, text, text_id}
use Rattle.ipe_sim.proofs.Each.{each-more, length-each}
use Rattle.ipe_sim.proofs.Texts.{four}
use Rattle.ipe_sim.proofs.Facts.{has_lines, is_id}
use Rattle.ipe_sim.proofs.Stages.{Counts, Few, Leads, Stage, known_at, few-more, said-short, within-limits}

-- ---- the texts

abbrev pub text_place : ℕ → Section
text_place zero = section.Workers
text_place (suc i) = section.Texts

text_follow : (i : ℕ) → may_follow (text_place i) ≡ may_follow section.Workers
text_follow zero = refl
text_follow (suc i) = refl

-- so many texts
abbrev pub first_texts : ℕ → Declared TextLine
first_texts i = record { names = each i text_id; items = each i text }

abbrev pub text_part : ℕ → Stage
text_part i = record {
  place = text_place i;
  workers = 8;
  texts = first_texts i;
  files = nothing;
  marks = [];
  phases = [];
  opened = None;
  asked = [];
}

four_plain : list_all is_in_word (decimal 4) ≡ true
unfolding digits
four_plain = refl

four_short : length (decimal 4) ≤ 1
four_short = length-decimal-le 1 4 (omega arith) (omega arith) (omega arith)

-- the text's line, before its lines
abbrev text_line : ℕ → Line
text_line i = line.Text (record { line = 3 + 5 * i; id = text_id i; lines = 4; bytes = [] })

text_stands : (i : ℕ) (counts : Counts) → i < 16 → Few (2 + 5 * i) counts
    → MayStand (known_at (2 + 5 * i + 1) (text_part i) counts) (text_line i) (codes "text") (text_id i ∷ decimal 4 ∷ [])
text_stands i counts below few =
    let id = is_id i below in
    let known = known_at (2 + 5 * i + 1) (text_part i) counts in
    record {
      spelled = refl;
      plain = and_from (list_all is_in_word (text_id i)) (list_all is_in_word (decimal 4) && true) id.plain
          (and_from (list_all is_in_word (decimal 4)) true four_plain refl);
      placed = ap (λ shapes. shape_of shapes (codes "text" ∷ text_id i ∷ decimal 4 ∷ [])) (text_follow i);
      says = (
        new-said known a_text (text_id i) id.rule id.fresh,
        (number-said known 0 1048576 4 (omega arith) (omega arith) (omega arith), tt),
      );
      told =
          let same : 2 + 5 * i + 1 ≡ 3 + 5 * i = omega arith in
          ap (λ (n : ℕ). line.Text (record { line = n; id = text_id i; lines = 4; bytes = [] })) same;
      ranged = refl;
      within = within-limits (2 + 5 * i + 1) (record (text_part i) {
        place = section.Texts;
        texts = record { names = each i text_id ++ text_id i ∷ []; items = each i text };
      }) counts (few-more (2 + 5 * i) counts few) (omega (arith, below))
          (omega (arith, length-append (each i text_id) (text_id i ∷ []), length-each i text_id, below)) (omega arith)
          (omega arith) (omega arith);
    }

abbrev third : List ℕ
third = codes "op=EXECUTE boot_verified=TRUE action=ALLOW"

abbrev fourth : List ℕ
fourth = codes "op=KMODULE boot_verified=FALSE action=DENY"

-- the bytes of the lines, one after another
abbrev taken_text : ℕ → List ℕ
taken_text i = ((line_text (header i) ++ line_text (default i)) ++ line_text third) ++ line_text fourth

taken_is : (i : ℕ) → taken_text i ≡ policy_text i
taken_is i = four (line_text (header i)) (line_text (default i)) (line_text third) (line_text fourth)

-- with the text's line and the first of its lines
abbrev open_at : ℕ → Counts → ℕ → ℕ → List ℕ → Known
open_at i counts count due bytes = record (known_at count (record (text_part i) {
  place = section.Texts;
  texts = record { names = each i text_id ++ text_id i ∷ []; items = each i text };
}) counts) {
  due = due;
  text = Some (record { line = 3 + 5 * i; id = text_id i; lines = 4; bytes = bytes });
}

-- the counts with the text's
abbrev text_counts : ℕ → Counts → Counts
text_counts i counts = record counts { longest = max counts.longest (length (taken_text i)) }

abbrev text_whole : ℕ → Counts → ℕ → List (List ℕ) → List TextLine → Known
text_whole i counts count names items = known_at count (record (text_part i) {
  place = section.Texts;
  texts = record { names = names; items = items };
}) (text_counts i counts)

last_raw : (i : ℕ) (counts : Counts) (n : ℕ) (c : List ℕ) → Comes (open_at i counts n 1 c) (line_text fourth)
    (known_at (n + 1) (record (text_part i) {
      place = section.Texts;
      texts = record {
        names = each i text_id ++ text_id i ∷ [];
        items = each i text ++ (record { line = 3 + 5 * i; id = text_id i; lines = 4; bytes = c ++ line_text fourth }) ∷ [];
      };
    }) (record counts { longest = max counts.longest (length (c ++ line_text fourth)) }))
last_raw i counts n c =
    subst (λ (bs : List ℕ). Comes (open_at i counts n 1 c) (line_text fourth) (known_at (n + 1) (record (text_part i) {
      place = section.Texts;
      texts = record {
        names = each i text_id ++ text_id i ∷ [];
        items = each i text ++ (record { line = 3 + 5 * i; id = text_id i; lines = 4; bytes = bs }) ∷ [];
      };
    }) (record counts { longest = max counts.longest (length bs) })))
    (append_assoc c fourth (10 ∷ [])) (comes-raw (open_at i counts n 1 c) fourth (omega arith) refl)

text_comes : (i : ℕ) (counts : Counts) → i < 16 → Few (2 + 5 * i) counts
    → Comes (known_at (2 + 5 * i) (text_part i) counts) (text_text (text i))
    (text_whole i counts (2 + 5 * i + 1 + 1 + 1 + 1 + 1) (each i text_id ++ text_id i ∷ [])
    (each i text ++ (record { line = 3 + 5 * i; id = text_id i; lines = 4; bytes = taken_text i }) ∷ []))
text_comes i counts below few =
    let lines = has_lines i below in
    let n : ℕ = 2 + 5 * i + 1 in
    let a : List ℕ = line_text (header i) in
    let b : List ℕ = a ++ line_text (default i) in
    let c : List ℕ = b ++ line_text third in
    let last = text_whole i counts (n + 1 + 1 + 1 + 1) (each i text_id ++ text_id i ∷ [])
    (each i text ++ (record { line = 3 + 5 * i; id = text_id i; lines = 4; bytes = taken_text i }) ∷ []) in
    let raw4 : Comes (open_at i counts (n + 1 + 1 + 1) 1 c) (line_text fourth) last =
    last_raw i counts (n + 1 + 1 + 1) c in
    let raw3 : Comes (open_at i counts (n + 1 + 1) 2 b) (line_text third) (open_at i counts (n + 1 + 1 + 1) 1 c) =
    subst (λ (bs : List ℕ). Comes (open_at i counts (n + 1 + 1) 2 b) (line_text third) (open_at i counts (n + 1 + 1 + 1) 1 bs))
    (append_assoc b third (10 ∷ [])) (comes-raw (open_at i counts (n + 1 + 1) 2 b) third (omega arith) refl) in
    let raw2 : Comes (open_at i counts (n + 1) 3 a) (line_text (default i)) (open_at i counts (n + 1 + 1) 2 b) =
    subst (λ (bs : List ℕ). Comes (open_at i counts (n + 1) 3 a) (line_text (default i)) (open_at i counts (n + 1 + 1) 2 bs))
    (append_assoc a (default i) (10 ∷ [])) (comes-raw (open_at i counts (n + 1) 3 a) (default i) (omega arith) lines.second) in
    let raw1 : Comes (open_at i counts n 4 []) (line_text (header i)) (open_at i counts (n + 1) 3 a) =
    subst (λ (bs : List ℕ). Comes (open_at i counts n 4 []) (line_text (header i)) (open_at i counts (n + 1) 3 bs))
    (append_assoc [] (header i) (10 ∷ [])) (comes-raw (open_at i counts n 4 []) (header i) (omega arith) lines.first) in
    let head : Comes (known_at (2 + 5 * i) (text_part i) counts) (said_text (text_line i)) (open_at i counts n 4 []) =
    comes-said (known_at (2 + 5 * i) (text_part i) counts) (text_line i) (codes "text") (text_id i ∷ decimal 4 ∷ []) refl
    (text_stands i counts below few) in
    comes-then (known_at (2 + 5 * i) (text_part i) counts) (open_at i counts n 4 []) last (said_text (text_line i))
    (policy_text i) head
    (subst (λ (bs : List ℕ). Comes (open_at i counts n 4 []) bs last) (taken_is i)
    (comes-then (open_at i counts n 4 []) (open_at i counts (n + 1 + 1 + 1) 1 c) last c (line_text fourth)
    (comes-then (open_at i counts n 4 []) (open_at i counts (n + 1 + 1) 2 b) (open_at i counts (n + 1 + 1 + 1) 1 c) b
    (line_text third)
    (comes-then (open_at i counts n 4 []) (open_at i counts (n + 1) 3 a) (open_at i counts (n + 1 + 1) 2 b) a
    (line_text (default i)) raw1 raw2) raw3) raw4))

text_whole-is : (i : ℕ) (counts : Counts)
    → text_whole i counts (2 + 5 * i + 1 + 1 + 1 + 1 + 1) (each i text_id ++ text_id i ∷ [])
    (each i text ++ (record { line = 3 + 5 * i; id = text_id i; lines = 4; bytes = taken_text i }) ∷ [])
    ≡ known_at (2 + 5 * suc i) (text_part (suc i)) (text_counts i counts)
text_whole-is i counts =
    let count : 2 + 5 * i + 1 + 1 + 1 + 1 + 1 ≡ 2 + 5 * suc i = omega arith in
    let items : each i text ++ (record { line = 3 + 5 * i; id = text_id i; lines = 4; bytes = taken_text i }) ∷ []
    ≡ each (suc i) text =
    ap (λ (bs : List ℕ). each i text ++ (record { line = 3 + 5 * i; id = text_id i; lines = 4; bytes = bs }) ∷ [])
    (taken_is i) ∙ sym (each-more i text) in
    ap (λ (n : ℕ). text_whole i counts n (each i text_id ++ text_id i ∷ [])
    (each i text ++ (record { line = 3 + 5 * i; id = text_id i; lines = 4; bytes = taken_text i }) ∷ [])) count
    ∙ ap (λ (names : List (List ℕ)). text_whole i counts (2 + 5 * suc i) names
    (each i text ++ (record { line = 3 + 5 * i; id = text_id i; lines = 4; bytes = taken_text i }) ∷ []))
    (sym (each-more i text_id))
    ∙ ap (λ (xs : List TextLine). text_whole i counts (2 + 5 * suc i) (each (suc i) text_id) xs) items

pub text_leads : (i : ℕ) → i < 16 → Leads (2 + 5 * i) (text_part i) (text_text (text i)) (2 + 5 * suc i) (text_part (suc i))
text_leads i below = record {
  short =
      let id = is_id i below in
      let line_short : length (said_text (text_line i)) ≤ 128 =
      said-short (text_line i) (codes "text") (text_id i ∷ decimal 4 ∷ []) refl (omega (arith, id.short, four_short)) in
      omega (arith, line_short, (has_lines i below).short, length-append (said_text (text_line i)) (policy_text i));
  comes = λ counts few. (
    text_counts i counts,
    record {
      commands = omega (arith, few.commands);
      hooks = omega (arith, few.hooks);
      work = omega (arith, few.work);
    },
    subst (λ (known : Known). Comes (known_at (2 + 5 * i) (text_part i) counts) (text_text (text i)) known)
        (text_whole-is i counts) (text_comes i counts below few),
  );
}
