-- What a list of marks says of a digest.
use Rattle.std.specs.Prelude.{ℕ, ◌==◌, ◌&&◌, Bool, List, reverse}
use Rattle.std.specs.declared.vec.Vec.{Vec}
use Rattle.std.specs.List.{find}
use Rattle.std.specs.Option.{option_map_or, unwrap_or}
use Rattle.std.specs.Map.{lookup}
use Rattle.line_words.specs.Words.{is_text}
use Rattle.ipe_signer.specs.declared.signer.Purpose.{Purpose}
use Rattle.ipe_signer.specs.declared.signer.Purpose.TheVariants.{Policy, Root, File}
use Rattle.ipe_signer.specs.declared.signer.Verdict.{Verdict}
use Rattle.ipe_signer.specs.declared.signer.Verdict.TheVariants.{Unknown}
use Rattle.ipe_signer.specs.declared.trust_list.Mark.{Mark}

-- the place of a purpose in their order, from 0
abbrev pub purpose_number : Purpose → ℕ
purpose_number Policy = 0
purpose_number Root = 1
purpose_number File = 2

-- two purposes are the same
abbrev pub same_purpose : Purpose → Purpose → Bool
same_purpose a b = purpose_number a == purpose_number b

-- a mark is of this purpose and digest
abbrev pub is_about : Purpose → List ℕ → Mark → Bool
is_about purpose digest mark = same_purpose purpose mark.purpose && is_text digest mark.digest

-- the last mark of a purpose and digest decides; without one nothing is known
abbrev pub last_verdict : List Mark → Purpose → List ℕ → Verdict
last_verdict marks purpose digest =
    option_map_or (λ (mark : Mark). mark.verdict) (find (is_about purpose digest) (reverse marks)) Unknown

-- the verdict that stands beside a digest among those of one purpose; Unknown where there is none
abbrev pub verdict_at : {A : Type 0} → List (Vec ℕ A × Verdict) → List ℕ → Verdict
verdict_at entries digest = unwrap_or (lookup (λ key. is_text key.items digest) entries) Unknown
