use Rattle.ipe_transcript.specs.Entries.{actor_of, key_of, line_of}
use Rattle.ipe_transcript.proofs.Filed.{filing_prints}
use Rattle.ipe_transcript.proofs.laws.filed_entries_are_printed.Goals as goal

pub returns : goal.returns
returns c = λ entries ordered printed are is rise. filing_prints actor_of line_of key_of entries ordered printed are is rise
