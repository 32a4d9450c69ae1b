-- What is printed, one list of bytes after another, is the spelling.
use Rattle.std.proofs.Common.{◌≡◌, ℕ, List, [], ◌∷◌, ◌++◌, ap, ◌∙◌}
use Rattle.std.specs.List.{flat_map}
use Rattle.ipe_requests.specs.declared.line.Line.TheVariants as line
use Rattle.ipe_requests.specs.Requests.{Script}
use Rattle.ipe_requests.specs.Spelling.{file_text, head_text, mark_text, phase_text, request_text, said_text, seal_text, text_text, volume_text}
use Rattle.ipe_requests.proofs.Laws.{onto-concat}

-- what is printed one after another is the spelling
pub printed : (script : Script) (first a b c d e f last : List ℕ) → first ≡ head_text script.workers
    → a ≡ first ++ flat_map text_text script.texts → b ≡ a ++ flat_map volume_text script.volumes
    → c ≡ b ++ flat_map file_text script.files → d ≡ c ++ flat_map seal_text script.seals
    → e ≡ d ++ flat_map mark_text script.marks → f ≡ e ++ flat_map phase_text script.phases
    → last ≡ f ++ said_text line.End → last ≡ request_text script
printed script first a b c d e f last is_first is_a is_b is_c is_d is_e is_f is_last =
    is_last
    ∙ ap (λ (x : List ℕ). x ++ said_text line.End) (is_f
    ∙ ap (λ (x : List ℕ). x ++ flat_map phase_text script.phases) (is_e
    ∙ ap (λ (x : List ℕ). x ++ flat_map mark_text script.marks) (is_d
    ∙ ap (λ (x : List ℕ). x ++ flat_map seal_text script.seals) (is_c
    ∙ ap (λ (x : List ℕ). x ++ flat_map file_text script.files) (is_b
    ∙ ap (λ (x : List ℕ). x ++ flat_map volume_text script.volumes) (is_a
    ∙ ap (λ (x : List ℕ). x ++ flat_map text_text script.texts) is_first))))))
    ∙ ap (λ (x : List ℕ). x ++ said_text line.End) (onto-concat (head_text script.workers) (
    flat_map text_text script.texts
    ∷ flat_map volume_text script.volumes
    ∷ flat_map file_text script.files
    ∷ flat_map seal_text script.seals
    ∷ flat_map mark_text script.marks
    ∷ flat_map phase_text script.phases
    ∷ []))
