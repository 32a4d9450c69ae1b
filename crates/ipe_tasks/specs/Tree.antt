-- What is written of the hash tree over a device's image.
use Rattle.std.specs.Prelude.{◌≡◌, ℕ, ◌/◌, ◌<◌, ◌≤◌, codes, List, ◌++◌, length, Some, None}
use Rattle.std.specs.Fmt.{decimal}
use Rattle.hex.specs.Hex.{encode_lower}
use Rattle.blk_device.specs.Contents.{Contents, content}
use Rattle.dmv_tree.specs.Blocks.{AreBlocks, AreNoBlocks}
use Rattle.hash_tree.specs.Chunks.{chunks}
use Rattle.hash_tree.specs.Hash.{sha256_hash}
use Rattle.hash_tree.specs.Shape.{height, tree_blocks}
use Rattle.hash_tree.specs.Tree.{fan_out, root, stored}
use Rattle.line_words.specs.Lines.{line_text}
use Rattle.ipe_tasks.specs.Refusals.{device_text}
use Rattle.ipe_tasks.specs.declared.tree.ImageTree.{ImageTree}
use Rattle.ipe_tasks.specs.declared.tree.TreePart.{TreePart}
use Rattle.ipe_tasks.specs.declared.tree.TreePart.TheVariants.{Root, HashBlocks}
use Rattle.ipe_tasks.specs.declared.tree.Refusal.{Refusal}
use Rattle.ipe_tasks.specs.declared.tree.Refusal.TheVariants.{Missing, TooLarge, BadSize}

-- the most bytes of a device
abbrev pub most_device : ℕ
most_device = 16777216

-- how many levels and hash blocks a tree has
abbrev pub shape_text : ℕ → ℕ → List ℕ
shape_text above hash_blocks =
    codes " levels=" ++ decimal above ++ codes " hash_blocks=" ++ decimal hash_blocks ++ line_text (codes "")

-- a root, and how many levels and hash blocks its tree has
abbrev pub root_line : List ℕ → ℕ → ℕ → List ℕ
root_line digest above hash_blocks = codes "sha256:" ++ encode_lower digest ++ shape_text above hash_blocks

-- the root over an image cut into blocks, each hashed after the salt, and the shape of the tree over so many blocks
abbrev pub root_text : ImageTree → List ℕ → List ℕ
root_text tree bytes =
    root_line (root sha256_hash tree.block_size tree.salt (chunks tree.block_size bytes))
    (height (fan_out sha256_hash tree.block_size) (length bytes / tree.block_size))
    (tree_blocks (fan_out sha256_hash tree.block_size) (length bytes / tree.block_size))

-- the device has an image within the limit, whose bytes are whole blocks
pub record HasImage (items : Contents) (tree : ImageTree) (bytes : List ℕ) : Type 0 where
  pub is : content tree.device items ≡ Some bytes
  pub fits : length bytes ≤ most_device
  pub blocks : AreBlocks (length bytes) tree.block_size

-- what is written of a tree over an image: its root, or its hash blocks
abbrev pub tree_text : TreePart → ImageTree → List ℕ → List ℕ
tree_text Root tree bytes = root_text tree bytes
tree_text HashBlocks tree bytes = stored sha256_hash tree.block_size tree.salt (chunks tree.block_size bytes)

-- the device has an image, and this of its tree is written
pub record IsOfTree (part : TreePart) (items : Contents) (tree : ImageTree) (text : List ℕ) : Type 0 where
  pub bytes : List ℕ
  pub image : HasImage items tree bytes
  pub text_is : text ≡ tree_text part tree bytes

-- no device has the name
abbrev pub IsMissing : Contents → ImageTree → Type 0
IsMissing items tree = content tree.device items ≡ None

-- the device has more bytes than may be
pub record IsTooLarge (items : Contents) (tree : ImageTree) : Type 0 where
  pub bytes : List ℕ
  pub is : content tree.device items ≡ Some bytes
  pub large : most_device < length bytes

-- the device has no more bytes than may be, and they are no blocks
pub record IsBadSize (items : Contents) (tree : ImageTree) : Type 0 where
  pub bytes : List ℕ
  pub is : content tree.device items ≡ Some bytes
  pub fits : length bytes ≤ most_device
  pub bad : AreNoBlocks (length bytes) tree.block_size

-- the device is refused for this
abbrev pub IsRefusedFor : Contents → ImageTree → Refusal → Type 0
IsRefusedFor items tree Missing = IsMissing items tree
IsRefusedFor items tree TooLarge = IsTooLarge items tree
IsRefusedFor items tree BadSize = IsBadSize items tree

-- how a refusal is spelled
abbrev pub refusal_words : Refusal → List ℕ
refusal_words Missing = codes "missing"
refusal_words TooLarge = codes "too large"
refusal_words BadSize = codes "bad size"

-- the device is refused, and what is written says why
pub record IsTreeRefusal (items : Contents) (tree : ImageTree) (text : List ℕ) : Type 0 where
  pub refusal : Refusal
  pub why : IsRefusedFor items tree refusal
  pub text_is : text ≡ device_text tree.device (refusal_words refusal)
