use Rattle.std.proofs.Common.{◌≡◌, ℕ, List, ◌∙◌, ap, sym}
use Rattle.std.proofs.lemmas.Result.{IfOk-weaker}
use Rattle.hash_tree.specs.Chunks.{chunks}
use Rattle.hash_tree.specs.Hash.{sha256_hash}
use Rattle.hash_tree.specs.Tree.{root}
use Rattle.dmv_tree.specs.Tree.{RootAndBytes}
use Rattle.ipe_tasks.specs.Tree.{root_line, tree_text}
use Rattle.ipe_tasks.specs.declared.tree.TreePart.{TreePart}
use Rattle.ipe_tasks.proofs.tree.tree_text.Goals as goal

-- equal parts are told by equal lines
same_line : (one other : List ℕ) (L M count number : ℕ) → one ≡ other → L ≡ M → count ≡ number →
    root_line one L count ≡ root_line other M number
same_line one other L M count number digests levels counts =
    ap (λ (digest : List ℕ). root_line digest L count) digests ∙ ap (λ (l : ℕ). root_line other l count) levels
    ∙ ap (λ (n : ℕ). root_line other M n) counts

pub returns-in-Root : goal.returns-in-Root
returns-in-Root c =
    let tree = c.args.tree.now in
    let image = c.args.image.now in
    let digest : c.root.result ≡ root sha256_hash tree.block_size tree.salt (chunks tree.block_size image) =
    c.root.ensures ∙ ap (λ (built : RootAndBytes). built.root) c.in_ok-built.ensures
    ∙ ap (λ (salt : List ℕ). root sha256_hash tree.block_size salt (chunks tree.block_size image)) c.as_slice.ensures in
    let whole = same_line _ _ _ _ _ _ digest c.layout.ensures.height c.layout.ensures.count in
    IfOk-weaker c.root_line.result _ _ (λ text told.
    told ∙ whole ∙ ap (λ (part : TreePart). tree_text part tree image) (sym c.in-Root.is)) c.root_line.ensures
