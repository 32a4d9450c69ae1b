use Rattle.std.proofs.Common.{◌≡◌, ◌∙◌, ◌++◌, drop, length, replicate}
use Rattle.std.specs.Int.{w64, from_le_bytes}
use Rattle.ipe_image.proofs.Bytes.{word-copied}
use Rattle.ipe_image.proofs.packing.word_of.Goals as goal

pub returns : goal.returns
returns c =
    let read : c.from_le_bytes.result ≡ from_le_bytes w64 (c.copy_from_slice.new.self ++ drop
    (length c.args.bytes.now) (replicate 8 0)) = c.from_le_bytes.ensures in
    record {
      word = read ∙ word-copied c.args.bytes.now c.copy_from_slice.new.self c.requires
          c.copy_from_slice.ensures.after;
    }
