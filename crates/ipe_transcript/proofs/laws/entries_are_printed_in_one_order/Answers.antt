use Rattle.ipe_transcript.specs.Entries.{actor_of, key_of}
use Rattle.ipe_transcript.proofs.Once.{printed_once}
use Rattle.ipe_transcript.proofs.laws.entries_are_printed_in_one_order.Goals as goal

pub returns : goal.returns
returns c = λ entries one other is_one is_other. printed_once actor_of key_of entries one other is_one is_other
