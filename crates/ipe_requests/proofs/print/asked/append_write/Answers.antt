use Rattle.std.proofs.Common.{◌≡◌}
use Rattle.ipe_requests.proofs.print.asked.append_write.Goals as goal

pub returns-in-Text : goal.returns-in-Text
returns-in-Text c = rw c.in-Text.is c.append_write_text.ensures

pub returns-in-Echo : goal.returns-in-Echo
returns-in-Echo c = rw c.in-Echo.is c.append_write_echo.ensures

pub returns-in-Hex : goal.returns-in-Hex
returns-in-Hex c = rw c.in-Hex.is c.append_write_hex.ensures
