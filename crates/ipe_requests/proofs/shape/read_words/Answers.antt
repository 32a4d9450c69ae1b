use Rattle.std.proofs.Common.{refl}
use Rattle.ipe_requests.proofs.shape.read_words.Goals as goal

pub returns-in-Header : goal.returns-in-Header
returns-in-Header c = rw c.in-Header.is refl

pub returns-in-Workers : goal.returns-in-Workers
returns-in-Workers c = rw c.in-Workers.is c.workers.ensures

pub returns-in-Text : goal.returns-in-Text
returns-in-Text c = rw c.in-Text.is c.text.ensures

pub returns-in-Volume : goal.returns-in-Volume
returns-in-Volume c = rw c.in-Volume.is c.volume.ensures

pub returns-in-FileBoot : goal.returns-in-FileBoot
returns-in-FileBoot c = rw c.in-FileBoot.is c.file_boot.ensures

pub returns-in-FileVolume : goal.returns-in-FileVolume
returns-in-FileVolume c = rw c.in-FileVolume.is c.file_volume.ensures

pub returns-in-FilePlain : goal.returns-in-FilePlain
returns-in-FilePlain c = rw c.in-FilePlain.is c.file_plain.ensures

pub returns-in-Seal : goal.returns-in-Seal
returns-in-Seal c = rw c.in-Seal.is c.seal.ensures

pub returns-in-MarkText : goal.returns-in-MarkText
returns-in-MarkText c = rw c.in-MarkText.is c.mark_text.ensures

pub returns-in-MarkHex : goal.returns-in-MarkHex
returns-in-MarkHex c = rw c.in-MarkHex.is c.mark_hex.ensures

pub returns-in-Phase : goal.returns-in-Phase
returns-in-Phase c = rw c.in-Phase.is refl

pub returns-in-WriteText : goal.returns-in-WriteText
returns-in-WriteText c = rw c.in-WriteText.is c.write_text.ensures

pub returns-in-WriteEcho : goal.returns-in-WriteEcho
returns-in-WriteEcho c = rw c.in-WriteEcho.is c.write_echo.ensures

pub returns-in-WriteHex : goal.returns-in-WriteHex
returns-in-WriteHex c = rw c.in-WriteHex.is c.write_hex.ensures

pub returns-in-Read : goal.returns-in-Read
returns-in-Read c = rw c.in-Read.is c.read.ensures

pub returns-in-Exec : goal.returns-in-Exec
returns-in-Exec c = rw c.in-Exec.is c.exec.ensures

pub returns-in-Mmap : goal.returns-in-Mmap
returns-in-Mmap c = rw c.in-Mmap.is c.mmap.ensures

pub returns-in-Mprotect : goal.returns-in-Mprotect
returns-in-Mprotect c = rw c.in-Mprotect.is c.mprotect.ensures

pub returns-in-KernelRead : goal.returns-in-KernelRead
returns-in-KernelRead c = rw c.in-KernelRead.is c.kernel_read.ensures

pub returns-in-KernelLoad : goal.returns-in-KernelLoad
returns-in-KernelLoad c = rw c.in-KernelLoad.is c.kernel_load.ensures

pub returns-in-End : goal.returns-in-End
returns-in-End c = rw c.in-End.is refl
