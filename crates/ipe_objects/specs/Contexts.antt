-- The contexts in which policies are evaluated (kernel admin-guide/LSM/ipe.rst).
use Rattle.std.specs.Prelude.{ℕ, Bool, true, false, codes, List, length, Option, None}
use Rattle.std.specs.Option.{option_and_then, option_map}
use Rattle.std.specs.Result.{result_ok}
use Rattle.blk_device.specs.Contents.{Contents}
use Rattle.dmv_volume.specs.Table.{TableParts}
use Rattle.fsv_tree.specs.Descriptor.{DescriptorParts}
use Rattle.fsv_tree.specs.File.{file_digest}
use Rattle.ipe_policy.specs.declared.statement.Digest.{Digest}
use Rattle.ipe_policy.specs.declared.evaluation.Signed.{Signed}
use Rattle.ipe_policy.specs.declared.evaluation.Context.{Context}
use Rattle.ipe_signer.specs.declared.signer.Purpose.{Purpose}
use Rattle.ipe_signer.specs.declared.signer.Verdict.{Verdict}
use Rattle.ipe_props.specs.Signedness.{signed_volume, signed_file}
use Rattle.ipe_requests.specs.declared.script.VolumeLine.{VolumeLine}
use Rattle.ipe_requests.specs.declared.script.FileForm.{FileForm}
use Rattle.ipe_requests.specs.declared.script.FileForm.TheVariants as form
use Rattle.ipe_requests.specs.declared.script.FileLine.{FileLine}
use Rattle.ipe_requests.specs.declared.script.SealLine.{SealLine}
use Rattle.ipe_requests.specs.Requests.{Script, file_of, volume_of}
use Rattle.ipe_objects.specs.Files.{bytes_by, seal_of}
use Rattle.ipe_objects.specs.Seals.{descriptor_of}

-- what a signer says of each digest, as a thing of each purpose
abbrev pub Verdicts : Type 0
Verdicts = Purpose → List ℕ → Verdict

-- a digest of SHA-256
abbrev pub sha256_digest : List ℕ → Digest
sha256_digest bytes = record { alg = codes "sha256"; bytes = bytes }

-- a file is of the initial root file system
abbrev pub is_boot : FileForm → Bool
is_boot (form.Boot dev ino text) = true
is_boot other = false

-- a volume's root, and whether it is signed
abbrev pub volume_part : Verdicts → TableParts → Signed
volume_part verdicts table = record {
  digest = sha256_digest table.root;
  signed = signed_volume verdicts (sha256_digest table.root) table.has_option;
}

-- the dm-verity part: of a file of a volume, that volume's
abbrev pub dm_part : Script → Verdicts → FileForm → Option Signed
dm_part script verdicts (form.Volume volume first size ino) =
    option_map (λ (declared : VolumeLine). volume_part verdicts declared.table) (volume_of script volume)
dm_part script verdicts other = None

-- the digest of a file's descriptor, and whether it is signed
abbrev pub sealed_part : Verdicts → DescriptorParts → Signed
sealed_part verdicts descriptor = record {
  digest = sha256_digest (file_digest descriptor);
  signed = signed_file verdicts (sha256_digest (file_digest descriptor));
}

-- the fs-verity part: of a file with a seal whose descriptor is accepted, that descriptor's
abbrev pub fs_part : Script → Contents → Verdicts → FileLine → Option Signed
fs_part script images verdicts file =
    option_and_then (λ (seal : SealLine).
    option_map (sealed_part verdicts)
    (result_ok (descriptor_of images seal (length (bytes_by script images file.form)))))
    (seal_of script file.path)

-- the context of a declared file
abbrev pub context_by : Script → Contents → Verdicts → FileLine → Context
context_by script images verdicts file = record {
  boot = is_boot file.form;
  dm = dm_part script verdicts file.form;
  fs = fs_part script images verdicts file;
}

-- the context of the file of a path, unless none is declared
abbrev pub context_of : Script → Contents → Verdicts → List ℕ → Option Context
context_of script images verdicts path = option_map (context_by script images verdicts) (file_of script path)
