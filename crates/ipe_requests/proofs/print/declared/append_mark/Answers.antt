use Rattle.std.proofs.Common.{◌≡◌}
use Rattle.ipe_requests.proofs.print.declared.append_mark.Goals as goal

pub returns-in-Text : goal.returns-in-Text
returns-in-Text c = rw c.in-Text.is c.append_mark_text.ensures

pub returns-in-Hex : goal.returns-in-Hex
returns-in-Hex c = rw c.in-Hex.is c.append_mark_hex.ensures
