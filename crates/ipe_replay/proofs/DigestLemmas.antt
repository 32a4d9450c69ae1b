-- What is known of the texts' digests.
use Rattle.std.proofs.Common.{◌≡◌, ℕ, ◌<◌, ◌≤◌, List, Option, Some, None, length, get_or, slice_set, sym, subst, ap, ◌∙◌, inl, inr}
use Rattle.std.specs.Prelude.{replicate}
use Rattle.std.proofs.lemmas.Bool.{cases_eq, cases_lt}
use Rattle.std.proofs.lemmas.List.{get_or-replicate, get_or-set_same, get_or-set_other, length-replicate, length-set}
use Rattle.std.proofs.lemmas.Option.{get_or_from_slice_get, none-some, slice_get-get_or, slice_get_past, slice_get_within}
use Rattle.sha2.specs.Sha256.{sha256}
use Rattle.ipe_requests.specs.Requests.{Script}
use Rattle.ipe_replay.specs.Digests.{AreDigests, bytes_at}

-- nothing is known
pub none_known : (script : Script) (texts : ℕ) → AreDigests script (replicate texts None)
none_known script texts place digest is = elim (cases_lt place texts) [
  | inl within ↦
      let none : get_or (replicate texts None) place None ≡ None = get_or-replicate texts place None None within in
      absurd (none-some digest (sym none ∙ get_or_from_slice_get (replicate texts None) place (Some digest) None is))
  | inr past ↦
      let beyond : length (replicate {A = Option (List ℕ)} texts None) ≤ place = subst (λ (n : ℕ). n ≤ place) (sym (length-replicate texts None)) past in
      absurd (none-some (Some digest) (sym (slice_get_past (replicate texts None) place beyond) ∙ is))
]

-- one digest more is known
pub one_more : (script : Script) (known : List (Option (List ℕ))) (place : ℕ) (digest : List ℕ) → place < length known
    → digest ≡ sha256 (bytes_at script place) → AreDigests script known → AreDigests script (slice_set known place (Some digest))
one_more script known place digest within right before at found is =
    let there : at < length known = subst (λ (n : ℕ). at < n) (length-set known place (Some digest)) (slice_get_within (slice_set known place (Some digest)) at (Some found) is) in
    let got : get_or (slice_set known place (Some digest)) at None ≡ Some found = get_or_from_slice_get (slice_set known place (Some digest)) at (Some found) None is in
    elim (cases_eq at place) [
      | inl same ↦
          let one : get_or (slice_set known place (Some digest)) at None ≡ Some digest = subst (λ (i : ℕ). get_or (slice_set known place (Some digest)) i None ≡ Some digest) (sym same) (get_or-set_same known place (Some digest) None within) in
          let found_is : found ≡ digest = cc in
          found_is ∙ right ∙ ap (λ (i : ℕ). sha256 (bytes_at script i)) (sym same)
      | inr other ↦
          let old : get_or known at None ≡ Some found = sym (get_or-set_other known place at (Some digest) None other) ∙ got in
          before at found (slice_get-get_or known at None there ∙ ap (λ (o : Option (List ℕ)). Some o) old)
    ]
