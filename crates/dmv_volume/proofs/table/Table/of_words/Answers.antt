use Rattle.std.proofs.Common.{rules}
use Rattle.dmv_volume.proofs.table.Table.of_words.Goals as goal

pub returns-clause-says : goal.returns-clause-says
returns-clause-says c = record {
  device = search rules;
  hash_device = search rules;
  block_size = search rules;
  blocks = search rules;
  hash_start = search rules;
  root = search rules;
  salt = search rules;
  has_option = search rules;
}
