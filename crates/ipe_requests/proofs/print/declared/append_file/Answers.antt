use Rattle.std.proofs.Common.{◌≡◌}
use Rattle.ipe_requests.proofs.print.declared.append_file.Goals as goal

pub returns-in-Boot : goal.returns-in-Boot
returns-in-Boot c = rw c.in-Boot.is c.append_boot.ensures

pub returns-in-Volume : goal.returns-in-Volume
returns-in-Volume c = rw c.in-Volume.is c.append_part.ensures

pub returns-in-Plain : goal.returns-in-Plain
returns-in-Plain c = rw c.in-Plain.is c.append_plain.ensures
