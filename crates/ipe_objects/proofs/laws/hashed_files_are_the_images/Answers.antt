use Rattle.ipe_objects.proofs.HashSays.{hash-says}
use Rattle.ipe_objects.proofs.laws.hashed_files_are_the_images.Goals as goal

pub returns : goal.returns
returns c =
    hash-says c.block_sizes_are_spelled.ensures.filled c.checked_blocks_are_of_the_image.ensures c.roots_are_of_trees.ensures
    c.digests_tell_descriptors.ensures c.requests_keep_their_rules.ensures.files
