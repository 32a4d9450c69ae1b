use Rattle.std.proofs.Common.{◌≡◌}
use Rattle.ipe_requests.proofs.print.asked.append_hook.Goals as goal

pub returns-in-ExecCheck : goal.returns-in-ExecCheck
returns-in-ExecCheck c = rw c.in-ExecCheck.is c.append_exec.ensures

pub returns-in-Mmap : goal.returns-in-Mmap
returns-in-Mmap c = rw c.in-Mmap.is c.append_mmap.ensures

pub returns-in-Mprotect : goal.returns-in-Mprotect
returns-in-Mprotect c = rw c.in-Mprotect.is c.append_mprotect.ensures

pub returns-in-KernelRead : goal.returns-in-KernelRead
returns-in-KernelRead c = rw c.in-KernelRead.is c.append_kernel_read.ensures

pub returns-in-KernelLoad : goal.returns-in-KernelLoad
returns-in-KernelLoad c = rw c.in-KernelLoad.is c.append_kernel_load.ensures
