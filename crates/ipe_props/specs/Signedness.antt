-- Which volumes and files are signed (kernel admin-guide/LSM/ipe.rst, "dmverity_signature" and "fsverity_signature").
use Rattle.std.specs.Prelude.{Bool, true, false, ◌&&◌, List, ℕ}
use Rattle.ipe_policy.specs.declared.statement.Digest.{Digest}
use Rattle.ipe_signer.specs.declared.signer.Purpose.{Purpose}
use Rattle.ipe_signer.specs.declared.signer.Purpose.TheVariants as purpose
use Rattle.ipe_signer.specs.declared.signer.Verdict.{Verdict}
use Rattle.ipe_signer.specs.declared.signer.Verdict.TheVariants.{Trusted, Unknown, Revoked}

-- the verdict is Trusted
abbrev pub is_trusted : Verdict → Bool
is_trusted Trusted = true
is_trusted Unknown = false
is_trusted Revoked = false

-- a volume is signed where its table has the signature's option and its root is trusted as a root
abbrev pub signed_volume : (Purpose → List ℕ → Verdict) → Digest → Bool → Bool
signed_volume verdict_of root has_option = has_option && is_trusted (verdict_of purpose.Root root.bytes)

-- a file is signed where its digest is trusted as a file's
abbrev pub signed_file : (Purpose → List ℕ → Verdict) → Digest → Bool
signed_file verdict_of digest = is_trusted (verdict_of purpose.File digest.bytes)
