use Rattle.std.proofs.Common.{◌≡◌, ◌+◌, ◌≤◌, length}
use Rattle.std.specs.List.{slice_split}
use Rattle.line_words.specs.Lines.{is_line_feed}
use Rattle.ipe_requests.specs.Reading.{file_read, read_pieces}
use Rattle.ipe_requests.proofs.reader.parse_requests.Given as goal

-- what the file comes to is what its rest comes to after the lines so far
abbrev pub invariant-loop-line : goal.invariant-loop-line
invariant-loop-line l = record {
  asks : file_read l.bytes ≡ read_pieces l.known (slice_split is_line_feed l.rest);
  few : l.known.count + length l.rest ≤ 16777216;
}

abbrev pub decreases-loop-line : goal.decreases-loop-line
decreases-loop-line l = length l.rest
