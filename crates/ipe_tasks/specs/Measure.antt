-- What is written of the fs-verity digest of a file.
use Rattle.std.specs.Prelude.{ℕ, codes, List, ◌++◌}
use Rattle.hex.specs.Hex.{encode_lower}
use Rattle.fsv_tree.specs.File.{described, file_digest}
use Rattle.ipe_tasks.specs.declared.file_digest.FileTree.{FileTree}
use Rattle.line_words.specs.Lines.{line_text}

-- the line of a digest, in lower case digits
abbrev pub digest_text : List ℕ → List ℕ
digest_text digest = codes "sha256:" ++ encode_lower digest ++ line_text (codes "")

-- the line of the file digest of an input, with this size of blocks and this salt
abbrev pub measure_text : List ℕ → FileTree → List ℕ
measure_text input tree = digest_text (file_digest (described input tree.block_size tree.salt))
