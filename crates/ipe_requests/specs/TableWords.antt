-- What the words of a volume's table say, as a function of them.
use Rattle.std.specs.Prelude.{ℕ, zero, suc, ◌%◌, ◌==◌, ◌&&◌, ◌||◌, Bool, true, false, nat_le, if◌then◌else◌, codes, List, [], length, Option, Some, None, is_some, unwrap_or}
use Rattle.std.specs.List.{list_all, slice_get}
use Rattle.std.specs.Result.{result_ok}
use Rattle.hex.specs.Hex.{decode_of, is_hex_digit}
use Rattle.line_words.specs.Words.{digits_onto, is_text, number_of}
use Rattle.dmv_tree.specs.Words.{block_size_of, salt_of}
use Rattle.dmv_volume.specs.Table.{TableParts}
use Rattle.dmv_volume.specs.Words.{Rule, Text, Name, BlockSize, SameAs, Number, Digits, Salt, is_name, may_end, rules, word_at}
use Rattle.ipe_requests.specs.Words.{at_least}

-- hexadecimal digits of either case, an even number of them, between two others
abbrev pub are_digits : ℕ → ℕ → List ℕ → Bool
are_digits low high word =
    nat_le low (length word) && nat_le (length word) high && (length word % 2 == 0) && list_all is_hex_digit word

-- a word meets a rule of the table's words
abbrev pub meets : List (List ℕ) → List ℕ → Rule → Bool
meets words word (Text text) = is_text text word
meets words word Name = is_name word
meets words word BlockSize = is_some (block_size_of word)
meets words word (SameAs number) = is_text (word_at words number) word
meets words word (Number low high) = is_some (at_least low (number_of high word))
meets words word (Digits low high) = are_digits low high word
meets words word Salt = is_text (codes "-") word || are_digits 2 512 word

-- a word meets its rule, where it has one
abbrev pub meets_its : List (List ℕ) → List ℕ → Option Rule → Bool
meets_its words word None = false
meets_its words word (Some rule) = meets words word rule

-- the first words, so many, meet their rules
abbrev pub words_fit : List (List ℕ) → ℕ → Bool
words_fit words zero = true
words_fit words (suc count) =
    words_fit words count && meets_its words (word_at words (suc count)) (slice_get rules count)

-- what the words of a table say
abbrev pub table_said : List (List ℕ) → TableParts
table_said words = record {
  device = word_at words 2;
  hash_device = word_at words 3;
  block_size = digits_onto 0 (word_at words 4);
  blocks = digits_onto 0 (word_at words 6);
  hash_start = digits_onto 0 (word_at words 7);
  root = unwrap_or (result_ok (decode_of (word_at words 9))) [];
  salt = unwrap_or (salt_of 512 (word_at words 10)) [];
  has_option = length words == 13;
}

-- the table that words say, where all of them meet their rules
unfoldable pub table_of : List (List ℕ) → Option TableParts
table_of words = if may_end (length words) && words_fit words (length words) then Some (table_said words) else None
