-- The files of securityfs by which an administrator acts: what a write to each asks for, and what a read of each gives.
use Rattle.std.specs.Prelude.{ℕ, ◌==◌, Bool, codes, if◌then◌else◌, List, length, take, drop, Option, Some, None, Result, Ok, Err}
use Rattle.std.specs.declared.vec.Vec.{Vec}
use Rattle.std.specs.List.{before_first, after_first}
use Rattle.std.specs.Option.{option_map, ok_or}
use Rattle.line_words.specs.Words.{is_byte, is_text}
use Rattle.ipe_policy.specs.Words.{is_name}
use Rattle.ipe_policy.specs.Spelling.{bit_text, version_text}
use Rattle.ipe_machine.specs.declared.command.Act.{Act}
use Rattle.ipe_machine.specs.declared.command.Act.TheVariants as act
use Rattle.ipe_machine.specs.declared.command.Command.{Command}
use Rattle.ipe_machine.specs.declared.answer.Refusal.{Refusal}
use Rattle.ipe_machine.specs.declared.answer.Refusal.TheVariants.{NoEntry, Direction}
use Rattle.ipe_machine.specs.Refusals.{value_of}
use Rattle.ipe_machine.specs.Policies.{Policies, Loaded, entry_named, is_active}
use Rattle.ipe_nodes.specs.declared.node.Leaf.{Leaf}
use Rattle.ipe_nodes.specs.declared.node.Leaf.TheVariants as leaf
use Rattle.ipe_nodes.specs.declared.node.Node.{Node}
use Rattle.ipe_nodes.specs.declared.node.Node.TheVariants as node

-- the file that a word names in a policy's folder
unfoldable pub leaf_of : List ℕ → Option Leaf
leaf_of word =
    if is_text (codes "pkcs7") word then Some leaf.Pkcs7
    else if is_text (codes "policy") word then Some leaf.Policy
    else if is_text (codes "name") word then Some leaf.Name
    else if is_text (codes "version") word then Some leaf.Version
    else if is_text (codes "active") word then Some leaf.Active
    else if is_text (codes "update") word then Some leaf.Update
    else if is_text (codes "delete") word then Some leaf.Delete
    else None

-- the test for the slash between two words of a path
abbrev pub is_slash : ℕ → Bool
is_slash = is_byte 47

-- the node of NAME/LEAF: the name stands before the first slash, the file's word after it
abbrev pub policy_node : List ℕ → Option Node
policy_node rest =
    if is_name (before_first is_slash rest)
    then option_map (node.OfPolicy (before_first is_slash rest)) (leaf_of (after_first is_slash rest))
    else None

-- the folder in which each loaded policy has its own
abbrev pub policies_folder : List ℕ
policies_folder = codes "policies/"

-- the path goes into this folder
abbrev pub is_in : List ℕ → List ℕ → Bool
is_in folder path = is_text folder (take (length folder) path)

-- what stands after a folder in a path
abbrev pub path_in : List ℕ → List ℕ → List ℕ
path_in folder path = drop (length folder) path

-- the node of a path
unfoldable pub node_of : List ℕ → Option Node
node_of path =
    if is_text (codes "new_policy") path then Some node.NewPolicy
    else if is_text (codes "enforce") path then Some node.Enforce
    else if is_text (codes "success_audit") path then Some node.SuccessAudit
    else if is_in policies_folder path then policy_node (path_in policies_folder path)
    else None

-- the act of these bytes at a file of a policy's folder, where it is written
abbrev pub leaf_act : List ℕ → Leaf → List ℕ → Result Act Refusal
leaf_act name leaf.Pkcs7 bytes = Err Direction
leaf_act name leaf.Policy bytes = Err Direction
leaf_act name leaf.Name bytes = Err Direction
leaf_act name leaf.Version bytes = Err Direction
leaf_act name leaf.Active bytes = Ok (act.Activate name (value_of bytes))
leaf_act name leaf.Update bytes = Ok (act.Update name bytes)
leaf_act name leaf.Delete bytes = Ok (act.Delete name (value_of bytes))

-- the act of these bytes at a node, where it is written
abbrev pub node_act : Node → List ℕ → Result Act Refusal
node_act node.NewPolicy bytes = Ok (act.Load bytes)
node_act node.Enforce bytes = Ok (act.Enforce (value_of bytes))
node_act node.SuccessAudit bytes = Ok (act.SuccessAudit (value_of bytes))
node_act (node.OfPolicy name leaf) bytes = leaf_act name leaf bytes

-- the command of one who has the right or has it not
abbrev pub asked : Bool → Result Act Refusal → Result Command Refusal
asked may (Ok act) = Ok (record { may = may; act = act })
asked may (Err refusal) = Err refusal

-- what a write of these bytes to a node asks for; a path that is no node's has no entry
abbrev pub write_at : Option Node → List ℕ → Bool → Result Command Refusal
write_at None bytes may = Err NoEntry
write_at (Some node) bytes may = asked may (node_act node bytes)

-- what a write of these bytes to a path asks for, by one who has the right or has it not
abbrev pub node_write : List ℕ → List ℕ → Bool → Result Command Refusal
node_write path bytes may = write_at (node_of path) bytes may

-- what is shown of a loaded policy; one that isn't loaded has no entry
abbrev pub of_loaded : (Loaded → List ℕ) → Option Loaded → Result (List ℕ) Refusal
of_loaded shown entry = ok_or (option_map shown entry) NoEntry

-- what a read of a file gives, of the policy of this name with its entry
abbrev pub leaf_read : Policies → List ℕ → Option Loaded → Leaf → Result (List ℕ) Refusal
leaf_read policies name entry leaf.Pkcs7 = of_loaded (λ (e : Loaded). e.text) entry
leaf_read policies name entry leaf.Policy = of_loaded (λ (e : Loaded). e.text) entry
leaf_read policies name entry leaf.Name = of_loaded (λ (e : Loaded). e.name) entry
leaf_read policies name entry leaf.Version = of_loaded (λ (e : Loaded). version_text e.version) entry
leaf_read policies name entry leaf.Active = of_loaded (λ (e : Loaded). bit_text (is_active name policies)) entry
leaf_read policies name entry leaf.Update = Err Direction
leaf_read policies name entry leaf.Delete = Err Direction

-- what a read of a node gives
abbrev pub bytes_at : Policies → Node → Result (List ℕ) Refusal
bytes_at policies node.NewPolicy = Err Direction
bytes_at policies node.Enforce = Ok (bit_text policies.enforce)
bytes_at policies node.SuccessAudit = Ok (bit_text policies.success)
bytes_at policies (node.OfPolicy name leaf) = leaf_read policies name (entry_named name policies.loaded) leaf

-- what a read of a node gives; a path that is no node's has no entry
abbrev pub read_at : Policies → Option Node → Result (List ℕ) Refusal
read_at policies None = Err NoEntry
read_at policies (Some node) = bytes_at policies node

-- what a read of a path gives
abbrev pub node_read : Policies → List ℕ → Result (List ℕ) Refusal
node_read policies path = read_at policies (node_of path)

-- an answer with its bytes as a list
abbrev pub bytes_in : {A : Type 0} → Result (Vec ℕ A) Refusal → Result (List ℕ) Refusal
bytes_in (Ok bytes) = Ok bytes.items
bytes_in (Err refusal) = Err refusal
