-- What is true of the names, paths and nodes of a roll-out, of which there are few.
use Rattle.std.proofs.Common.{◌≡◌, ℕ, ◌%◌, ◌<◌, ◌≤◌, Bool, true, false, not, ◌&&◌, nat_le, codes, List, length, position, is_some, refl}
use Rattle.std.specs.Fmt.{decimal, digits}
use Rattle.std.specs.List.{list_all}
use Rattle.std.proofs.lemmas.Bool.{and_parts, leb-true, not-true}
use Rattle.line_words.specs.Words.{is_text, is_visible, is_word}
use Rattle.ipe_policy.specs.Words.{is_dev_name, is_path}
use Rattle.ipe_sim.proofs.Says.{is_inline, is_in_word}
use Rattle.ipe_sim.specs.Roll.{default, each, file_path, header, policy_node, policy_text, text_id}
use Rattle.ipe_sim.proofs.Each.{all_below, below-at}

-- ---- the ids of texts and the paths of files

-- it meets its rule, is short, and is one of so many names, but none of those before it
abbrev name_test : (List ℕ → Bool) → (ℕ → List ℕ) → ℕ → ℕ → Bool
name_test test name count i =
    test (name i) && list_all is_in_word (name i) && nat_le (length (name i)) 3
    && is_some (position (is_text (name i)) (each count name))
    && not (is_some (position (is_text (name i)) (each i name)))

pub record IsFreshName (test : List ℕ → Bool) (name : ℕ → List ℕ) (count i : ℕ) : Type 0 where
  pub rule : test (name i) ≡ true
  pub plain : list_all is_in_word (name i) ≡ true
  pub short : length (name i) ≤ 3
  pub declared : is_some (position (is_text (name i)) (each count name)) ≡ true
  pub fresh : is_some (position (is_text (name i)) (each i name)) ≡ false

fresh_name : (test : List ℕ → Bool) (name : ℕ → List ℕ) (count i : ℕ) → name_test test name count i ≡ true
    → IsFreshName test name count i
fresh_name test name count i e =
    let four = and_parts (test (name i) && list_all is_in_word (name i) && nat_le (length (name i)) 3
    && is_some (position (is_text (name i)) (each count name))) (not (is_some (position (is_text (name i)) (each i name)))) e in
    let three = and_parts (test (name i) && list_all is_in_word (name i) && nat_le (length (name i)) 3)
    (is_some (position (is_text (name i)) (each count name))) four.0 in
    let two = and_parts (test (name i) && list_all is_in_word (name i)) (nat_le (length (name i)) 3) three.0 in
    let one = and_parts (test (name i)) (list_all is_in_word (name i)) two.0 in
    record {
      rule = one.0;
      plain = one.1;
      short = leb-true (length (name i)) 3 two.1;
      declared = three.1;
      fresh = not-true (is_some (position (is_text (name i)) (each i name))) four.1;
    }

ids_pass : all_below 16 (name_test is_dev_name text_id 16) ≡ true
unfolding digits each
ids_pass = refl

pub is_id : (i : ℕ) → i < 16 → IsFreshName is_dev_name text_id 16 i
is_id i below =
    fresh_name is_dev_name text_id 16 i (below-at 16 (name_test is_dev_name text_id 16) i ids_pass below)

paths_pass : all_below 8 (name_test is_path file_path 8) ≡ true
unfolding digits each
paths_pass = refl

pub is_file : (j : ℕ) → j < 8 → IsFreshName is_path file_path 8 j
is_file j below = fresh_name is_path file_path 8 j (below-at 8 (name_test is_path file_path 8) j paths_pass below)

-- ---- the lines of policies

abbrev lines_test : ℕ → Bool
lines_test i =
    list_all is_inline (header i) && list_all is_inline (default i) && nat_le (length (policy_text i)) 256

lines_pass : all_below 16 lines_test ≡ true
unfolding digits
lines_pass = refl

pub record HasLines (i : ℕ) : Type 0 where
  pub first : list_all is_inline (header i) ≡ true
  pub second : list_all is_inline (default i) ≡ true
  pub short : length (policy_text i) ≤ 256

pub has_lines : (i : ℕ) → i < 16 → HasLines i
has_lines i below =
    let e = below-at 16 lines_test i lines_pass below in
    let two = and_parts (list_all is_inline (header i) && list_all is_inline (default i))
    (nat_le (length (policy_text i)) 256) e in
    let one = and_parts (list_all is_inline (header i)) (list_all is_inline (default i)) two.0 in
    record { first = one.0; second = one.1; short = leb-true (length (policy_text i)) 256 two.1 }

-- ---- nodes

-- visible, without blanks, and short
abbrev pub is_node : List ℕ → Bool
is_node word = is_word 1 320 is_visible word && list_all is_in_word word && nat_le (length word) 24

abbrev nodes_test : ℕ → Bool
nodes_test i =
    is_node (policy_node i (codes "/update")) && is_node (policy_node i (codes "/active"))
    && is_node (policy_node i (codes "/delete"))

nodes_pass : all_below 16 nodes_test ≡ true
unfolding digits
nodes_pass = refl

pub record HasNodes (i : ℕ) : Type 0 where
  pub update : is_node (policy_node i (codes "/update")) ≡ true
  pub active : is_node (policy_node i (codes "/active")) ≡ true
  pub delete : is_node (policy_node i (codes "/delete")) ≡ true

pub has_nodes : (i : ℕ) → i < 16 → HasNodes i
has_nodes i below =
    let e = below-at 16 nodes_test i nodes_pass below in
    let two = and_parts (is_node (policy_node i (codes "/update")) && is_node (policy_node i (codes "/active")))
    (is_node (policy_node i (codes "/delete"))) e in
    let one = and_parts (is_node (policy_node i (codes "/update"))) (is_node (policy_node i (codes "/active"))) two.0 in
    record { update = one.0; active = one.1; delete = two.1 }

-- a word that says a switch's value
abbrev pub is_value : List ℕ → Bool
is_value word = is_word 1 64 is_visible word && list_all is_in_word word && nat_le (length word) 2

abbrev values_test : ℕ → Bool
values_test i = is_value (decimal (i % 2))

values_pass : all_below 16 values_test ≡ true
unfolding digits
values_pass = refl

pub value_passes : (i : ℕ) → i < 16 → is_value (decimal (i % 2)) ≡ true
value_passes i below = below-at 16 values_test i values_pass below

pub record IsShortWord (most short : ℕ) (word : List ℕ) : Type 0 where
  pub visible : is_word 1 most is_visible word ≡ true
  pub plain : list_all is_in_word word ≡ true
  pub few : length word ≤ short

pub is_word_of : (most short : ℕ) (word : List ℕ)
    → (is_word 1 most is_visible word && list_all is_in_word word && nat_le (length word) short) ≡ true
    → IsShortWord most short word
is_word_of most short word e =
    let two = and_parts (is_word 1 most is_visible word && list_all is_in_word word) (nat_le (length word) short) e in
    let one = and_parts (is_word 1 most is_visible word) (list_all is_in_word word) two.0 in
    record { visible = one.0; plain = one.1; few = leb-true (length word) short two.1 }
