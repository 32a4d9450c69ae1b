use Rattle.std.proofs.Common.{◌≡◌, ◌∙◌, ℕ, ◌≤◌, List, map, length, position, ap, subst}
use Rattle.std.specs.Prelude.{slice_get}
use Rattle.std.specs.Option.{option_and_then}
use Rattle.std.proofs.lemmas.List.{take_all}
use Rattle.line_words.specs.Words.{is_text}
use Rattle.ipe_policy.specs.declared.evaluation.Context.{Context}
use Rattle.ipe_requests.specs.declared.script.FileLine.{FileLine}
use Rattle.ipe_requests.specs.Requests.{Script}
use Rattle.ipe_objects.specs.Contexts.{context_by}
use Rattle.ipe_objects.proofs.Placing.{made-find}
use Rattle.ipe_objects.proofs.objects.Objects.build.Goals as goal

pub returns-clause-contexts : goal.returns-clause-contexts
returns-clause-contexts g c path =
    let script : Script = c.args.requests.now in
    let files : List FileLine = script.files in
    let make : FileLine → Context = context_by script c.args.images.now (g.S.Signer.verdict_of c.args.signer.now) in
    let path_of : FileLine → List ℕ = λ file. file.path in
    let k : ℕ = c.loop-file.file-index in
    let same : c.files-file-items.result.now ≡ files =
    c.files-file-items.ensures ∙ ap (λ (s : Script). s.files) c.in_ok-declared.ensures in
    let past : length files ≤ k = subst (λ (l : List FileLine). length l ≤ k) same c.loop-file-test.false in
    let made : c.loop-file.contexts.items ≡ map make files =
    c.loop-file.invariant ∙ ap (map make) (take_all k files past) in
    ap (λ (contexts : List Context).
    option_and_then (slice_get contexts) (position (is_text path) (map path_of c.in_ok-declared.declared.files))) made
    ∙ ap (λ (s : Script). option_and_then (slice_get (map make files)) (position (is_text path) (map path_of s.files)))
    c.in_ok-declared.ensures
    ∙ made-find make path_of path files
