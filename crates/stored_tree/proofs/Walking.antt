-- The way down a path, block by block.
use Rattle.std.proofs.Common.{◌≡◌, ◌≢◌, ℕ, zero, suc, ◌+◌, ◌-◌, ◌/◌, ◌%◌, ◌^◌, ◌<◌, List, [], ◌∷◌, ◌++◌, length, take, cond, not, true, false, Option, None, Some, ap, refl, sym, ◌∙◌, subst, arith, append_assoc, inl, inr}
use Rattle.std.specs.Prelude.{IfSome, IsSomeAnd, bytes_eq}
use Rattle.std.proofs.lemmas.Bool.{cases_Bool, cond-true, cond-false, false_from_ne_true, false≢true, not-false, not_from_true}
use Rattle.std.proofs.lemmas.List.{length-append, take_at}
use Rattle.std.proofs.lemmas.Option.{none-some}
use Rattle.std.proofs.lemmas.Slice.Eq.{bytes_eq-Decides}
use Rattle.std.proofs.Math.Nat.{div-one, pow-zero}
use Rattle.blk_device.specs.Contents.{Contents, HasDevice, OnDevice, content}
use Rattle.hash_tree.specs.Hash.{Hash, hash_of}
use Rattle.hash_tree.specs.Path.{digest_in, first_failing}
use Rattle.hash_tree.specs.Shape.{blocks_above, level_blocks}
use Rattle.hash_tree.specs.Tree.{salted}
use Rattle.stored_tree.specs.Checked.{FailsAt, IsRightSoFar, LeadsTo, failing}
use Rattle.stored_tree.specs.Stored.{fan_of, OfBytes, Stored, TakenFrom, held_block, held_blocks, held_from, levels_of}
use Rattle.hash_tree.proofs.Heights.{above_more}

-- a block that has the digest that is wanted
right_first : (hash : Hash) (h : ℕ) (salt wanted : List ℕ) (i : ℕ) (block : List ℕ) (below : List (List ℕ)) →
    wanted ≡ salted hash salt block →
    first_failing hash h salt wanted i (block ∷ below)
    ≡ first_failing hash h salt (digest_in hash ((i / h ^ (length below - 1)) % h) block) i below
unfolding first_failing
right_first hash h salt wanted i block below is =
    cond-true (bytes_eq wanted (salted hash salt block))
    (first_failing hash h salt (digest_in hash ((i / h ^ (length below - 1)) % h) block) i below)
    (Some (length below, i / h ^ length below)) ((bytes_eq-Decides wanted (salted hash salt block)).1 is)

-- and one that hasn't
wrong_first : (hash : Hash) (h : ℕ) (salt wanted : List ℕ) (i : ℕ) (block : List ℕ) (below : List (List ℕ)) →
    wanted ≢ salted hash salt block →
    first_failing hash h salt wanted i (block ∷ below) ≡ Some (length below, i / h ^ length below)
unfolding first_failing
wrong_first hash h salt wanted i block below is =
    cond-false (bytes_eq wanted (salted hash salt block))
    (first_failing hash h salt (digest_in hash ((i / h ^ (length below - 1)) % h) block) i below)
    (Some (length below, i / h ^ length below))
    (false_from_ne_true (bytes_eq wanted (salted hash salt block)) (λ holds. is ((bytes_eq-Decides wanted (salted hash salt
    block)).0 holds)))

-- what a test of two digests says
pub right_digest : (wanted found digest : List ℕ) → found ≡ digest → false ≡ not (bytes_eq wanted found) →
    wanted ≡ digest
right_digest wanted found digest is test =
    (bytes_eq-Decides wanted found).0 (not-false (bytes_eq wanted found) (sym test)) ∙ is

pub wrong_digest : (wanted found digest : List ℕ) → found ≡ digest → true ≡ not (bytes_eq wanted found) →
    wanted ≢ digest
wrong_digest wanted found digest is test right =
    false≢true (sym (not_from_true (bytes_eq wanted found) ((bytes_eq-Decides wanted found).1 (right ∙ sym is)))
    ∙ sym test)

-- one block alone
first_alone : (hash : Hash) (h : ℕ) (salt wanted : List ℕ) (i : ℕ) (block : List ℕ) →
    first_failing hash h salt wanted i (block ∷ []) ≡ cond (bytes_eq wanted (salted hash salt block)) None (Some (0, i))
unfolding first_failing
first_alone hash h salt wanted i block =
    ap (λ (n : ℕ). cond (bytes_eq wanted (salted hash salt block)) None (Some (0, n)))
    (ap (λ (x : ℕ). i / x) (pow-zero h) ∙ div-one i)

-- before the block of a level is read: the block of the tree at which the level begins, and the digest that is wanted
pub record AtStep (tree : Stored) (told : Option Contents) (i : ℕ) (path : List (List ℕ)) (level first : ℕ)
    (wanted : List ℕ) : Type 0 where
  pub count : length path + level ≡ levels_of tree
  pub so_far : (rest : List (List ℕ)) → length rest ≡ suc level →
      failing tree i (path ++ rest) ≡ first_failing (hash_of tree.algorithm) (fan_of tree) tree.salt wanted i rest
  pub held : OfBytes told tree.device (λ bytes.
      held_blocks tree bytes i ≡ path ++ held_from tree bytes i first level)
  pub there : 0 < length path → HasDevice told tree.device
  pub place : first + blocks_above (fan_of tree) tree.blocks level
      ≡ blocks_above (fan_of tree) tree.blocks (levels_of tree)

there_of : (found : Option (List ℕ)) (P : List ℕ → Type 0) → IsSomeAnd found P → IsSomeAnd found (λ _. Unit {0})
there_of None P on = on
there_of (Some bytes) P on = tt

-- what is true of a device that is there
pub is_there : (told : Option Contents) (name : List ℕ) (P : List ℕ → Type 0) → OnDevice told name P → HasDevice told name
is_there None name P on = tt
is_there (Some items) name P on = there_of (content name items) P on

bytes_of : (found : Option (List ℕ)) (P : List ℕ → Type 0) → IsSomeAnd found P → IfSome found P
bytes_of None P on = tt
bytes_of (Some bytes) P on = on

pub of_device : (told : Option Contents) (name : List ℕ) (P : List ℕ → Type 0) → OnDevice told name P → OfBytes told name P
of_device None name P on = tt
of_device (Some items) name P on = bytes_of (content name items) P on

found_both : (found : Option (List ℕ)) (P Q R : List ℕ → Type 0) → ((bytes : List ℕ) → P bytes → Q bytes → R bytes) →
    IfSome found (λ bytes. P bytes) → IfSome found (λ bytes. Q bytes) → IfSome found (λ bytes. R bytes)
found_both None P Q R each p q = tt
found_both (Some bytes) P Q R each p q = each bytes p q

-- what follows from two facts on a device's bytes
pub of_both : (told : Option Contents) (name : List ℕ) (P Q R : List ℕ → Type 0) →
    ((bytes : List ℕ) → P bytes → Q bytes → R bytes) → OfBytes told name P → OfBytes told name Q → OfBytes told name R
of_both None name P Q R each p q = tt
of_both (Some items) name P Q R each p q = found_both (content name items) P Q R each p q

-- the blocks that are held from a level down: that level's, and those below it
held_more : (tree : Stored) (bytes : List ℕ) (i first k : ℕ) →
    held_from tree bytes i first (suc k)
    ≡ held_block tree bytes (first + i / fan_of tree ^ suc k)
    ∷ held_from tree bytes i (first + level_blocks (fan_of tree) tree.blocks (suc k)) k
unfolding held_from
held_more tree bytes i first k = refl

-- they are as many as the levels
pub length-held_from : (tree : Stored) (bytes : List ℕ) (i first k : ℕ) → length (held_from tree bytes i first k) ≡ k
unfolding held_from
length-held_from tree bytes i first zero = refl
length-held_from tree bytes i first (suc k) =
    ap suc (length-held_from tree bytes i (first + level_blocks (fan_of tree) tree.blocks (suc k)) k)

-- the front of a list
front : (held path rest : List (List ℕ)) → held ≡ path ++ rest → path ≡ take (length path) held
front held path rest is = sym (ap (λ xs. take (length path) xs) is ∙ take_at path rest (length path) refl)

-- and with the block that was read, too
longer_read : (tree : Stored) (told : Option Contents) (i : ℕ) (path longer : List (List ℕ)) (k first : ℕ)
    (wanted block : List ℕ) → AtStep tree told i path (suc k) first wanted →
    OfBytes told tree.device (λ bytes. block ≡ held_block tree bytes (first + i / fan_of tree ^ suc k)) →
    longer ≡ path ++ block ∷ [] →
    OfBytes told tree.device (λ bytes. held_blocks tree bytes i
    ≡ longer ++ held_from tree bytes i (first + level_blocks (fan_of tree) tree.blocks (suc k)) k)
longer_read tree told i path longer k first wanted block at read added =
    let next = first + level_blocks (fan_of tree) tree.blocks (suc k) in
    of_both told tree.device
    (λ bytes. held_blocks tree bytes i ≡ path ++ held_from tree bytes i first (suc k))
    (λ bytes. block ≡ held_block tree bytes (first + i / fan_of tree ^ suc k))
    (λ bytes. held_blocks tree bytes i ≡ longer ++ held_from tree bytes i next k)
    (λ bytes is same.
    let below = held_from tree bytes i next k in
    is
    ∙ (ap (λ xs. path ++ xs) (held_more tree bytes i first k ∙ ap (λ x. x ∷ below) (sym same))
    ∙ (sym (append_assoc path (block ∷ []) below)
    ∙ ap (λ xs. xs ++ below) (sym added))))
    at.held read

pub after_read : (tree : Stored) (told : Option Contents) (i : ℕ) (path longer : List (List ℕ)) (level first : ℕ)
    (wanted block : List ℕ) → AtStep tree told i path level first wanted → 0 < level →
    OnDevice told tree.device (λ bytes. block ≡ held_block tree bytes (first + i / fan_of tree ^ level)) →
    longer ≡ path ++ block ∷ [] → TakenFrom told tree i longer
after_read tree told i path longer zero first wanted block at above read added = absurd (omega arith)
after_read tree told i path longer (suc k) first wanted block at above read added =
    let next = first + level_blocks (fan_of tree) tree.blocks (suc k) in
    let here = of_device told tree.device (λ bytes. block ≡ held_block tree bytes (first + i / fan_of tree ^ suc k)) read in
    let held = longer_read tree told i path longer k first wanted block at here added in
    record {
      there = λ _. is_there told tree.device
          (λ bytes. block ≡ held_block tree bytes (first + i / fan_of tree ^ suc k)) read;
      front = of_both told tree.device
          (λ bytes. held_blocks tree bytes i ≡ longer ++ held_from tree bytes i next k)
          (λ bytes. held_blocks tree bytes i ≡ longer ++ held_from tree bytes i next k)
          (λ bytes. longer ≡ take (length longer) (held_blocks tree bytes i))
          (λ bytes is _. front _ longer (held_from tree bytes i next k) is)
          held held;
    }

-- what was taken so far
pub taken_from : (tree : Stored) (told : Option Contents) (i : ℕ) (path : List (List ℕ)) (level first : ℕ)
    (wanted : List ℕ) → AtStep tree told i path level first wanted → TakenFrom told tree i path
taken_from tree told i path level first wanted at = record {
  there = at.there;
  front = of_both told tree.device
      (λ bytes. held_blocks tree bytes i ≡ path ++ held_from tree bytes i first level)
      (λ bytes. held_blocks tree bytes i ≡ path ++ held_from tree bytes i first level)
      (λ bytes. path ≡ take (length path) (held_blocks tree bytes i))
      (λ bytes is _. front _ path (held_from tree bytes i first level) is)
      at.held at.held;
}

-- the number of the level of the first block that fails
abbrev level_of : Option (ℕ × ℕ) → ℕ
level_of None = 0
level_of (Some failure) = failure.0

-- the first block of some that fails is one of them
failing_within : (hash : Hash) (h : ℕ) (salt wanted : List ℕ) (i : ℕ) (blocks : List (List ℕ)) (level b : ℕ) →
    first_failing hash h salt wanted i blocks ≡ Some (level, b) → level < length blocks
unfolding first_failing
failing_within hash h salt wanted i [] level b fails = absurd (none-some (level, b) fails)
failing_within hash h salt wanted i (block ∷ below) level b fails =
    let test = bytes_eq wanted (salted hash salt block) in
    let others = first_failing hash h salt (digest_in hash ((i / h ^ (length below - 1)) % h) block) i below in
    let failure : Option (ℕ × ℕ) = Some (length below, i / h ^ length below) in
    elim (cases_Bool test) [
      | inl holds ↦
          let more = failing_within hash h salt (digest_in hash ((i / h ^ (length below - 1)) % h) block) i below level b
          (sym (cond-true test others failure holds) ∙ fails) in
          omega (arith, more)
      | inr wrong ↦
          let same : length below ≡ level = ap level_of (sym (cond-false test others failure wrong) ∙ fails) in
          omega (arith, same)
    ]

-- no block so far fails
pub right_so_far : (tree : Stored) (told : Option Contents) (i : ℕ) (path : List (List ℕ)) (level first : ℕ)
    (wanted : List ℕ) → AtStep tree told i path level first wanted → IsRightSoFar tree i path
right_so_far tree told i path level first wanted at rest long k b fails =
    failing_within (hash_of tree.algorithm) (fan_of tree) tree.salt wanted i rest k b
    (sym (at.so_far rest (omega (arith, at.count))) ∙ fails)

pub one_more : (path : List (List ℕ)) (block : List ℕ) → length (path ++ block ∷ []) ≡ length path + 1
one_more path block = length-append path (block ∷ [])

-- the block fails
pub fails : (tree : Stored) (told : Option Contents) (i : ℕ) (path longer : List (List ℕ)) (level first : ℕ)
    (wanted block : List ℕ) → AtStep tree told i path level first wanted → wanted ≢ salted (hash_of tree.algorithm) tree.salt block →
    longer ≡ path ++ block ∷ [] →
    FailsAt tree i longer level (i / fan_of tree ^ level)
fails tree told i path longer level first wanted block at wrong added =
    let h = fan_of tree in
    let count : length path + level ≡ levels_of tree = at.count in
    record {
      levels_left = omega (arith, one_more path block, ap (λ (xs : List (List ℕ)). length xs) added);
      fails = λ rest long.
          let number : Option (ℕ × ℕ) = Some (level, i / h ^ level) in
          ap (λ xs. failing tree i xs) (ap (λ xs. xs ++ rest) added ∙ append_assoc path (block ∷ []) rest)
          ∙ (at.so_far (block ∷ rest) (ap suc long)
          ∙ (wrong_first (hash_of tree.algorithm) h tree.salt wanted i block rest wrong
          ∙ ap (λ (k : ℕ). Some (k, i / h ^ k)) long));
    }

-- at the bottom all the hash blocks are taken and right
pub leads_to : (tree : Stored) (told : Option Contents) (i : ℕ) (path : List (List ℕ)) (level first : ℕ)
    (wanted : List ℕ) → AtStep tree told i path level first wanted → level ≡ 0 → LeadsTo tree i path wanted
leads_to tree told i path level first wanted at bottom = record {
  whole = omega (arith, at.count);
  wants = λ block.
      at.so_far (block ∷ []) (ap suc (sym bottom))
      ∙ first_alone (hash_of tree.algorithm) (fan_of tree) tree.salt wanted i block;
}

-- another block doesn't fail
one_down : (tree : Stored) (told : Option Contents) (i : ℕ) (path longer : List (List ℕ)) (k first : ℕ)
    (wanted block : List ℕ) → AtStep tree told i path (suc k) first wanted → wanted ≡ salted (hash_of tree.algorithm) tree.salt block →
    OnDevice told tree.device (λ bytes. block ≡ held_block tree bytes (first + i / fan_of tree ^ suc k)) →
    longer ≡ path ++ block ∷ [] →
    AtStep tree told i longer k (first + level_blocks (fan_of tree) tree.blocks (suc k))
    (digest_in (hash_of tree.algorithm) ((i / fan_of tree ^ k) % fan_of tree) block)
one_down tree told i path longer k first wanted block at right read added =
    let h = fan_of tree in
    let n = tree.blocks in
    let count : length path + suc k ≡ levels_of tree = at.count in
    let place : first + blocks_above h n (suc k) ≡ blocks_above h n (levels_of tree) = at.place in
    record {
      count = omega (arith, one_more path block, ap (λ (xs : List (List ℕ)). length xs) added);
      so_far = λ rest long.
          let lower : length rest - 1 ≡ k = omega arith in
          ap (λ xs. failing tree i xs) (ap (λ xs. xs ++ rest) added ∙ append_assoc path (block ∷ []) rest)
          ∙ (at.so_far (block ∷ rest) (ap suc long)
          ∙ (right_first (hash_of tree.algorithm) h tree.salt wanted i block rest right
          ∙ ap (λ (x : ℕ). first_failing (hash_of tree.algorithm) h tree.salt (digest_in (hash_of tree.algorithm) ((i / h ^ x) % h) block) i rest) lower));
      held = longer_read tree told i path longer k first wanted block at
          (of_device told tree.device (λ bytes. block ≡ held_block tree bytes (first + i / h ^ suc k)) read) added;
      there = λ _. is_there told tree.device (λ bytes. block ≡ held_block tree bytes (first + i / h ^ suc k)) read;
      place = omega (arith, above_more h n k);
    }

-- before the block of the next lower level is read
pub next_step : (tree : Stored) (told : Option Contents) (i : ℕ) (path longer : List (List ℕ)) (level first next : ℕ)
    (wanted block digest : List ℕ) → AtStep tree told i path level first wanted → 0 < level →
    wanted ≡ salted (hash_of tree.algorithm) tree.salt block →
    OnDevice told tree.device (λ bytes. block ≡ held_block tree bytes (first + i / fan_of tree ^ level)) →
    next ≡ first + level_blocks (fan_of tree) tree.blocks level →
    digest ≡ digest_in (hash_of tree.algorithm) ((i / fan_of tree ^ (level - 1)) % fan_of tree) block →
    longer ≡ path ++ block ∷ [] → AtStep tree told i longer (level - 1) next digest
next_step tree told i path longer zero first next wanted block digest at above right read place is added =
    absurd (omega arith)
next_step tree told i path longer (suc k) first next wanted block digest at above right read place is added =
    let h = fan_of tree in
    let lower : suc k - 1 ≡ k = omega arith in
    let same : digest ≡ digest_in (hash_of tree.algorithm) ((i / h ^ k) % h) block =
    is ∙ ap (λ (x : ℕ). digest_in (hash_of tree.algorithm) ((i / h ^ x) % h) block) lower in
    let below = one_down tree told i path longer k first wanted block at right read added in
    subst (λ (x : ℕ). AtStep tree told i longer x next digest) (sym lower)
    (subst (λ (x : ℕ). AtStep tree told i longer k x digest) (sym place)
    (subst (λ xs. AtStep tree told i longer k (first + level_blocks h tree.blocks (suc k)) xs) (sym same) below))

-- the block that was read, where the device's contents are the same as before
pub read_before : (told now : Option Contents) (tree : Stored) (i first level over : ℕ) (block : List ℕ) → now ≡ told →
    over ≡ i / fan_of tree ^ level →
    OnDevice now tree.device (λ bytes. block ≡ held_block tree bytes (first + over)) →
    OnDevice told tree.device (λ bytes. block ≡ held_block tree bytes (first + i / fan_of tree ^ level))
read_before told now tree i first level over block same place read =
    subst (λ (x : ℕ). OnDevice told tree.device (λ bytes. block ≡ held_block tree bytes (first + x))) place
    (subst (λ items. OnDevice items tree.device (λ bytes. block ≡ held_block tree bytes (first + over))) same read)

-- all the hash blocks that lead to a digest are right
pub leads_right : (tree : Stored) (i : ℕ) (path : List (List ℕ)) (wanted : List ℕ) → LeadsTo tree i path wanted →
    IsRightSoFar tree i path
leads_right tree i path wanted leads [] long level b fails = absurd (omega (arith, leads.whole))
leads_right tree i path wanted leads (block ∷ []) long level b first =
    let test = bytes_eq wanted (salted (hash_of tree.algorithm) tree.salt block) in
    let found = sym (leads.wants block) ∙ first in
    elim (cases_Bool test) [
      | inl holds ↦ absurd (none-some (level, b) (sym (cond-true test None (Some (0, i)) holds) ∙ found))
      | inr wrong ↦
          let same : 0 ≡ level = ap level_of (sym (cond-false test None (Some (0, i)) wrong) ∙ found) in
          omega (arith, same)
    ]
leads_right tree i path wanted leads (block ∷ next ∷ rest) long level b fails = absurd (omega (arith, leads.whole))
