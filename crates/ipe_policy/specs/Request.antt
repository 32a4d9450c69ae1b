-- Requests to the gate, and the operation as which each is evaluated (kernel admin-guide/LSM/ipe.rst, "op").
use Rattle.std.specs.Prelude.{ℕ, ◌/◌, ◌%◌, ◌==◌, ◌&&◌, Bool, not, if◌then◌else◌, Option, Some, None}
use Rattle.ipe_policy.specs.declared.op.Op as op
use Rattle.ipe_policy.specs.declared.request.Kind as kind
use Rattle.ipe_policy.specs.declared.request.Hook as hook
use Rattle.ipe_policy.specs.declared.request.Request as request

-- the operation of a kind of kernel read or load
abbrev pub kind_op : kind.Kind → op.Op
kind_op kind.TheVariants.Firmware = op.TheVariants.Firmware
kind_op kind.TheVariants.Module = op.TheVariants.Kmodule
kind_op kind.TheVariants.KexecImage = op.TheVariants.KexecImage
kind_op kind.TheVariants.KexecInitramfs = op.TheVariants.KexecInitramfs
kind_op kind.TheVariants.Policy = op.TheVariants.Policy
kind_op kind.TheVariants.X509 = op.TheVariants.X509Cert

-- PROT_EXEC, the bit of value 4, is set
abbrev pub is_exec : ℕ → Bool
is_exec prot = (prot / 4) % 2 == 1

-- the operation as which a request is evaluated, if it is
abbrev pub evaluated_op : request.Request → Option op.Op
evaluated_op request.TheVariants.ExecCheck = Some op.TheVariants.Execute
evaluated_op (request.TheVariants.Mmap prot) = if is_exec prot then Some op.TheVariants.Execute else None
evaluated_op (request.TheVariants.Mprotect was_exec prot) =
    if not was_exec && is_exec prot then Some op.TheVariants.Execute else None
evaluated_op (request.TheVariants.KernelRead kind) = Some (kind_op kind)
evaluated_op (request.TheVariants.KernelLoad kind) = Some (kind_op kind)

-- the hook that a request comes by
abbrev pub hook_of : request.Request → hook.Hook
hook_of request.TheVariants.ExecCheck = hook.TheVariants.BprmCheck
hook_of (request.TheVariants.Mmap prot) = hook.TheVariants.Mmap
hook_of (request.TheVariants.Mprotect was_exec prot) = hook.TheVariants.Mprotect
hook_of (request.TheVariants.KernelRead kind) = hook.TheVariants.KernelRead
hook_of (request.TheVariants.KernelLoad kind) = hook.TheVariants.KernelLoad
