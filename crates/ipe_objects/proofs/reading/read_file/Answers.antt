use Rattle.std.proofs.Common.{sym}
use Rattle.line_words.specs.Words.{is_text}
use Rattle.ipe_requests.specs.declared.script.FileLine.{FileLine}
use Rattle.ipe_objects.proofs.Standing.{stands-contains, stands-find}
use Rattle.ipe_objects.proofs.reading.read_file.Goals as goal

pub own_content-requires-clause-declared : goal.own_content-requires-clause-declared
own_content-requires-clause-declared c =
    stands-contains c.in-Some.file.now c.declared-declared.result.now.files
    (stands-find (λ (file : FileLine). is_text c.args.path.now file.path) c.declared-declared.result.now.files
    c.in-Some.file.now (sym c.in-Some.ensures))
