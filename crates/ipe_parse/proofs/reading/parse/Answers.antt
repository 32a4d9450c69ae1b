use Rattle.std.proofs.Common.{map, filter, ap, ◌∙◌, arith}
use Rattle.ipe_parse.proofs.Readings.{answered-fault, answered-policy}
use Rattle.ipe_parse.proofs.SpokenLemmas.{placed_lines-few, spoken_lines-placed}
use Rattle.ipe_parse.specs.Reading.{is_spoken, reading}
use Rattle.ipe_parse.specs.Walk.{spoken_of}
use Rattle.ipe_parse.proofs.reading.parse.Goals as goal

pub read_lines-requires : goal.read_lines-requires
read_lines-requires c = rw c.lines.ensures.lines (omega (arith, placed_lines-few c.args.text.now, c.requires))

pub returns-clause-reading : goal.returns-clause-reading
unfolding reading
returns-clause-reading c =
    let same = ap (λ left. filter is_spoken (map spoken_of left)) c.lines.ensures.lines ∙ spoken_lines-placed c.args.text.now in
    rw same at c.read_lines.ensures

pub returns-clause-policy : goal.returns-clause-policy
returns-clause-policy c = answered-policy c.args.text.now c.read_lines.result c.requires (returns-clause-reading c)

pub returns-clause-refused : goal.returns-clause-refused
returns-clause-refused c = answered-fault c.args.text.now c.read_lines.result (returns-clause-reading c)
