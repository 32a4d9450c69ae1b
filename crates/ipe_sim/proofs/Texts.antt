-- Bytes that are appended, one line after another.
use Rattle.std.proofs.Common.{◌≡◌, ℕ, ◌%◌, ◌/◌, codes, List, [], ◌∷◌, ◌++◌, Option, Some, None, refl, sym, ap, ◌∙◌}
use Rattle.std.specs.Fmt.{decimal}
use Rattle.std.specs.List.{concat}
use Rattle.std.specs.Option.{IsSome, SomeIff}
use Rattle.std.proofs.lemmas.List.{append_assoc, append-nil}
use Rattle.line_words.specs.Lines.{line_text}
use Rattle.ipe_sim.specs.Roll.{default, header, policy_text}

pub four : (a b c d : List ℕ) → a ++ b ++ c ++ d ≡ concat (a ∷ b ∷ c ∷ d ∷ [])
four a b c d =
    append_assoc (a ++ b) c d ∙ append_assoc a b (c ++ d)
    ∙ ap (λ (last : List ℕ). a ++ (b ++ (c ++ last))) (sym (append-nil d))

-- a format's pieces are a policy's first line
pub header-is : (i : ℕ) (bytes : List ℕ)
    → bytes ≡ codes "policy_name=p" ++ (decimal (i % 4) ++ (codes " policy_version=1." ++ (decimal (i / 4) ++ codes ".0")))
    → bytes ≡ header i
header-is i bytes is =
    let front : List ℕ = codes "policy_name=p" ++ decimal (i % 4) in
    let middle : List ℕ = codes " policy_version=1." in
    is ∙ sym (append_assoc (codes "policy_name=p") (decimal (i % 4)) (middle ++ (decimal (i / 4) ++ codes ".0")))
    ∙ sym (append_assoc front middle (decimal (i / 4) ++ codes ".0"))
    ∙ sym (append_assoc (front ++ middle) (decimal (i / 4)) (codes ".0"))

pub policy_text-made : (i : ℕ) (none first one two three all second : List ℕ) → none ≡ [] → first ≡ header i
    → second ≡ default i → one ≡ none ++ line_text first → two ≡ one ++ line_text second
    → three ≡ two ++ line_text (codes "op=EXECUTE boot_verified=TRUE action=ALLOW")
    → all ≡ three ++ line_text (codes "op=KMODULE boot_verified=FALSE action=DENY") → all ≡ policy_text i
policy_text-made i none first one two three all second empty is by a b c d =
    let third : List ℕ = line_text (codes "op=EXECUTE boot_verified=TRUE action=ALLOW") in
    let fourth : List ℕ = line_text (codes "op=KMODULE boot_verified=FALSE action=DENY") in
    d ∙ ap (λ (t : List ℕ). t ++ fourth) (c ∙ ap (λ (t : List ℕ). t ++ third)
    (b ∙ ap (λ (t : List ℕ). one ++ line_text t) by ∙ ap (λ (t : List ℕ). t ++ line_text (default i))
    (a ∙ ap (λ (t : List ℕ). t ++ line_text first) empty ∙ ap line_text is)))
    ∙ four (line_text (header i)) (line_text (default i)) third fourth

-- what is given where something holds is given, since it holds
pub given : {T : Type 0} (o : Option T) (P : Type 0) (value : T) → SomeIff o P value → P → IsSome o
given None P value iff holds = absurd (iff holds)
given (Some x) P value iff holds = refl
