-- What an entry keeps beside what is seen of it.
use Rattle.std.specs.Prelude.{◌≡◌, ◌≤◌, Ok}
use Rattle.sha2.specs.Sha256.{sha256}
use Rattle.ipe_policy.specs.Spelling.{words_of_image}
use Rattle.ipe_parse.specs.Reading.{reading}
use Rattle.ipe_machine.specs.Policies.{Loaded}
use Rattle.ipe_machine.specs.Answer.{most_words}
use Rattle.ipe_registry.specs.declared.entry.Entry.TheInside.{Inside}

-- what is seen of an entry
abbrev pub loaded_of : Inside → Loaded
loaded_of entry = record { name = entry.name; version = entry.version; text = entry.text; serial = entry.serial }

-- the digest is the text's, and the policy is the one that the text reads as, with the entry's name and version; its
-- image fits
pub record IsEntry (entry : Inside) : Type 0 where
  pub digest : entry.digest ≡ sha256 entry.text
  pub policy : reading entry.text ≡ Ok entry.policy
  pub name : entry.name ≡ entry.policy.name
  pub version : entry.version ≡ entry.policy.version
  pub fits : words_of_image entry.policy.items ≤ most_words
