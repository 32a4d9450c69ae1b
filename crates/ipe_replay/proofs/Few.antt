-- A request file has no more phases than bytes.
use Rattle.std.proofs.Common.{◌≡◌, ℕ, ◌≤◌, ◌++◌, List, [], ◌∷◌, length, sym, subst, arith}
use Rattle.std.proofs.lemmas.List.{length-append}
use Rattle.std.proofs.lemmas.List.Concat.{length-flat_map}
use Rattle.std.specs.List.{concat, flat_map}
use Rattle.line_words.specs.Lines.{joined}
use Rattle.ipe_requests.specs.declared.line.Line.TheVariants as line
use Rattle.ipe_requests.specs.declared.script.Phase.{Phase}
use Rattle.ipe_requests.specs.Law.{IsOfFile}
use Rattle.ipe_requests.specs.Reading.{spell_cells}
use Rattle.ipe_requests.specs.Requests.{Script}
use Rattle.ipe_requests.specs.Rules.{count_lines}
use Rattle.ipe_requests.specs.Spelling.{asked_text, body_text, file_text, head_text, mark_text, phase_text, request_text, said_text, seal_text, shape_for, text_text, values_of, volume_text}
use Rattle.ipe_replay.specs.Phases.{lines_in}
use Rattle.ipe_requests.specs.Table.{cells}

-- a line has a byte at least
one-byte : (words : List ℕ) → 1 ≤ length (words ++ 10 ∷ [])
one-byte words = omega (arith, length-append words (10 ∷ []))

-- a phase has a byte at least
phase-byte : (phase : Phase) → 1 ≤ length (phase_text phase)
phase-byte phase =
    omega (
      arith,
      length-append (said_text (line.Phase phase.line)) (flat_map asked_text phase.lines),
      one-byte (joined (spell_cells (cells (shape_for (line.Phase phase.line))) (values_of (line.Phase phase.line)))),
    )

-- phases have as many bytes at least as they are
phases-bytes : (phases : List Phase) → length phases ≤ length (flat_map phase_text phases)
phases-bytes [] = omega arith
phases-bytes (phase ∷ phases) =
    omega (arith, length-append (phase_text phase) (flat_map phase_text phases), phase-byte phase, phases-bytes phases)

-- the last of six texts is no longer than all of them
last-within : (a b c d e f : List ℕ) → length f ≤ length (concat (a ∷ b ∷ c ∷ d ∷ e ∷ f ∷ []))
last-within a b c d e f =
    omega (
      arith,
      length-append a (concat (b ∷ c ∷ d ∷ e ∷ f ∷ [])),
      length-append b (concat (c ∷ d ∷ e ∷ f ∷ [])),
      length-append c (concat (d ∷ e ∷ f ∷ [])),
      length-append d (concat (e ∷ f ∷ [])),
      length-append e (concat (f ∷ [])),
      length-append f [],
    )

-- so it has no more phases than a request file may have bytes
pub few-phases : (script : Script) → IsOfFile script → length script.phases ≤ 16777216
few-phases script of =
    let head = head_text script.workers in
    let body = body_text script in
    omega (
      arith,
      of.few,
      length-append (head ++ body) (said_text line.End),
      length-append head body,
      last-within (flat_map text_text script.texts) (flat_map volume_text script.volumes) (flat_map file_text script.files)
          (flat_map seal_text script.seals) (flat_map mark_text script.marks) (flat_map phase_text script.phases),
      phases-bytes script.phases,
    )

-- nor more lines
pub few-lines : (script : Script) (phases : List Phase) → phases ≡ script.phases → count_lines script ≤ length (request_text script) → IsOfFile script → length (lines_in phases) ≤ 16777216
few-lines script phases are counted of =
    subst (λ (ps : List Phase). length (lines_in ps) ≤ 16777216) (sym are) (omega (arith, length-flat_map (λ (phase : Phase). phase.lines) script.phases, counted, of.few))
