use Rattle.std.proofs.Common.{◌≡◌, ◌+◌, ◌≤◌, ◌++◌, take, drop}
use Rattle.ipe_image.proofs.deciding.append_words.Given as goal

-- the words so far
abbrev pub invariant-loop-i : goal.invariant-loop-i
invariant-loop-i g l =
    (g.R.WordReader.words l.reader ≡ g.R.WordReader.words l.initial.reader)
    × (l.buffer.items ≡ l.initial.buffer.items ++ take l.i (drop l.at (g.R.WordReader.words l.initial.reader)))
    × (g.R.WordReader.kept l.reader ≡ g.R.WordReader.kept l.initial.reader)
    × (g.R.WordReader.reads l.reader ≤ g.R.WordReader.reads l.initial.reader + l.i)
