use Rattle.std.proofs.Common.{◌≡◌, ◌∙◌, [], ◌++◌, ◌∷◌, List, ℕ, length, map, slice_get, ap, append_assoc}
use Rattle.std.specs.List.{filter_map}
use Rattle.ipe_policy.specs.Policy.{global_defaults, op_defaults}
use Rattle.ipe_policy.specs.Statement.{operations, rule_of}
use Rattle.ipe_image.specs.Image.{default_word}
use Rattle.ipe_image.proofs.compiling.append_head.Goals as goal

-- five parts put after words one after another
append-parts : (old a b c d e : List ℕ) → ((((old ++ a) ++ b) ++ c) ++ d) ++ e ≡ old ++ (a ++ (b ++ (c ++ (d ++ e))))
append-parts old a b c d e = simp append_assoc

-- words that were put after each other are known
appended : (old a b c d e c' e' first second third fourth fifth : List ℕ) → first ≡ old ++ a → second ≡ first ++ b
    → third ≡ second ++ c → fourth ≡ third ++ d → fifth ≡ fourth ++ e → c ≡ c' → e ≡ e'
    → fifth ≡ old ++ (a ++ (b ++ (c' ++ (d ++ e'))))
appended old a b c d e c' e' first second third fourth fifth first_is second_is third_is fourth_is fifth_is c_is e_is =
    rw (fifth_is, fourth_is, third_is, second_is, first_is, c_is, e_is) (append-parts old a b c' d e')

pub returns : goal.returns
returns c =
    let items = c.args.items.now in
    let global : c.default_word.result ≡ default_word (slice_get (global_defaults items) 0) =
    c.default_word.ensures ∙ ap default_word c.global_default.ensures in
    appended c.args.image.now.items (c.args.words ∷ []) (c.args.serial ∷ []) (c.default_word.result ∷ [])
    (map (λ op. default_word (slice_get (op_defaults op items) 0)) operations) (c.rule_count.result ∷ [])
    (default_word (slice_get (global_defaults items) 0) ∷ []) (length (filter_map rule_of items) ∷ []) _ _ _ _ _
    c.in_ok-push.ensures.items c.in_ok-push-2.ensures.items c.in_ok-push-3.ensures.items
    c.in_ok-append_defaults.ensures c.in_ok-push-4.ensures.items (ap (λ (w : ℕ). w ∷ []) global)
    (ap (λ (w : ℕ). w ∷ []) c.rule_count.ensures)
