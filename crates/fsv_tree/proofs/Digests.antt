-- What a file digest tells of a descriptor.
use Rattle.std.proofs.Common.{◌≡◌, List, ℕ, take, drop, ap, sym, ◌∙◌, inl, inr}
use Rattle.std.specs.Prelude.{bytes_eq}
use Rattle.std.specs.Int.{w64, from_le_bytes}
use Rattle.std.proofs.lemmas.Bool.{cases_Bool, both_ways}
use Rattle.std.proofs.lemmas.Slice.Eq.{bytes_eq-Decides}
use Rattle.fsv_tree.specs.Descriptor.{DescriptorParts, said_by, spelling}
use Rattle.fsv_tree.specs.File.{DigestsTellDescriptors}
use Rattle.fsv_tree.specs.Kept.{MayBeSaid}
use Rattle.fsv_tree.proofs.Sound.{number_said, said_again}

-- what the same bytes spell is the same
same_spelling : (one other : DescriptorParts) → MayBeSaid one → MayBeSaid other → spelling one ≡ spelling other →
    one ≡ other
same_spelling one other first second is =
    let size : one.size ≡ other.size =
    sym (number_said one first)
    ∙ (ap (λ (xs : List ℕ). from_le_bytes w64 (take 8 (drop 8 xs))) is ∙ number_said other second) in
    sym (said_again one first)
    ∙ (ap (λ (n : ℕ). said_by (spelling one) n) size
    ∙ (ap (λ (xs : List ℕ). said_by xs other.size) is ∙ said_again other second))

pub told : DigestsTellDescriptors
told one other first second digests = elim (cases_Bool (bytes_eq (spelling one) (spelling other))) [
  | inl holds ↦
      inl (same_spelling one other first second ((bytes_eq-Decides (spelling one) (spelling other)).0 holds))
  | inr fails ↦
      inr (
        (λ same. both_ways (bytes_eq (spelling one) (spelling other)) fails
            ((bytes_eq-Decides (spelling one) (spelling other)).1 same)),
        digests,
      )
]
