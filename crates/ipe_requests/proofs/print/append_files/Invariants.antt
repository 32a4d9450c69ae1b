use Rattle.std.proofs.Common.{◌≡◌, ◌++◌, drop}
use Rattle.std.specs.List.{flat_map}
use Rattle.ipe_requests.specs.Spelling.{file_text}
use Rattle.ipe_requests.proofs.print.append_files.Given as goal

-- what is appended, and what is left to append, is all of it
abbrev pub invariant-loop-file : goal.invariant-loop-file
invariant-loop-file l =
    l.out.items ++ flat_map file_text (drop l.file-index l.files) ≡ l.fn.out.items ++ flat_map file_text l.files
