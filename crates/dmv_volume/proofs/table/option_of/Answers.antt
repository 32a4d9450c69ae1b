use Rattle.std.proofs.Common.{ℕ, List, arith, rules}
use Rattle.line_words.specs.Lines.{seen}
use Rattle.dmv_volume.proofs.Fitting.{Option, seen_count, whole, has, too_many}
use Rattle.dmv_volume.proofs.table.option_of.Goals as goal

pub returns-then-words-gt13-clause-bad : goal.returns-then-words-gt13-clause-bad
returns-then-words-gt13-clause-bad c =
    let words : List (List ℕ) = seen c.args.words.now in
    let option : Option words = record {
      fit = c.requires;
      number = search rules;
      key = search rules;
      name = search rules;
    } in
    too_many words option (omega (arith, seen_count c.args.words.now, c.if-words-gt13.true))

pub returns-clause-whole : goal.returns-clause-whole
returns-clause-whole c =
    let words : List (List ℕ) = seen c.args.words.now in
    let option : Option words = record {
      fit = c.requires;
      number = search rules;
      key = search rules;
      name = search rules;
    } in
    whole words option (omega (arith, seen_count c.args.words.now, c.if-words-gt13.false))

pub returns-clause-has : goal.returns-clause-has
returns-clause-has c =
    let words : List (List ℕ) = seen c.args.words.now in
    let option : Option words = record {
      fit = c.requires;
      number = search rules;
      key = search rules;
      name = search rules;
    } in
    has words option (omega (arith, seen_count c.args.words.now, c.if-words-gt13.false))
