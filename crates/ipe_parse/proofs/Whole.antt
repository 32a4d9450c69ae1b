-- The text of a printed policy reads as that policy.
use Rattle.std.proofs.Common.{◌≡◌, ℕ, ◌+◌, ◌<◌, true, codes, List, [], ◌∷◌, ◌++◌, length, map, filter, Ok, refl, ap, ◌∙◌, arith, append_assoc, lt-ltb}
use Rattle.std.specs.List.{flat_map, enumerate_from, AllByRecursion}
use Rattle.ipe_lex.specs.Lines.{lines_of, tokens_of, uncommented}
use Rattle.ipe_policy.specs.declared.statement.Statement.{Statement}
use Rattle.ipe_policy.specs.declared.statement.Statement.TheVariants.{Rule, OpDefault, GlobalDefault}
use Rattle.ipe_policy.specs.Policy.{IsPolicy, IsStatement, PolicyParts}
use Rattle.ipe_policy.specs.Words.{is_name}
use Rattle.ipe_policy.specs.Spelling.{header_text, policy_text, statement_text, statement_tokens, version_text}
use Rattle.line_words.specs.Lines.{joined}
use Rattle.ipe_parse.specs.Reading.{SpokenLine, is_spoken, reading, spoken_lines}
use Rattle.ipe_parse.specs.Reads.{Reads, SpellsStatement}
use Rattle.ipe_parse.proofs.Bytes.{IsWord, line-first, line-words}
use Rattle.ipe_parse.proofs.Values.{IsSmall, version_of-text}
use Rattle.ipe_parse.proofs.Printings.{each-made, header-words, header_tokens, statement-spells, statement-words}
use Rattle.ipe_parse.proofs.Readings.{is-read, tokens_on}

-- lines of words, each with its line feed
abbrev text_of : List (List (List ℕ)) → List ℕ
text_of lines = flat_map (λ words. joined words ++ 10 ∷ []) lines

-- a line of words, and at least one
record IsLine (line : List (List ℕ)) : Type 0 where
  words : AllByRecursion IsWord line
  some : 0 < length line

-- the numbered lines that have tokens, as their tokens
abbrev spoken : List (ℕ × List ℕ) → List SpokenLine
spoken lines = filter is_spoken (map (λ (line : ℕ × List ℕ). record { number = line.0; tokens = tokens_of (uncommented line.1) }) lines)

-- the words of lines are their tokens
text-tokens : (number : ℕ) (lines : List (List (List ℕ))) → AllByRecursion IsLine lines
    → tokens_on (spoken (enumerate_from number (lines_of (text_of lines)))) ≡ lines
text-tokens number [] h = refl
text-tokens number (line ∷ lines) h =
    ap (λ (cut : List (List ℕ)). tokens_on (spoken (enumerate_from number cut)))
    (line-first line (text_of lines) h.0.words)
    ∙ rw (line-words line h.0.words, lt-ltb 0 (length line) h.0.some, text-tokens (number + 1) lines h.1)

-- the lines of a policy, as their tokens
abbrev policy_lines : PolicyParts → List (List (List ℕ))
policy_lines policy = header_tokens policy.name policy.version ∷ map statement_tokens policy.items

-- a statement has a token
statement-some : (statement : Statement) → 0 < length (statement_tokens statement)
statement-some (Rule op properties action) = omega arith
statement-some (OpDefault op action) = omega arith
statement-some (GlobalDefault action) = omega arith

-- each statement is a line of words
statements-lines : (items : List Statement) → AllByRecursion IsStatement items
    → AllByRecursion IsLine (map statement_tokens items)
statements-lines [] h = tt
statements-lines (item ∷ items) h =
    (record { words = statement-words item h.0; some = statement-some item }, statements-lines items h.1)

-- printed statements are their tokens' lines
statements-text : (items : List Statement)
    → flat_map (λ statement. statement_text statement ++ 10 ∷ []) items ≡ text_of (map statement_tokens items)
statements-text [] = refl
statements-text (item ∷ items) =
    ap (λ (rest : List ℕ). (statement_text item ++ 10 ∷ []) ++ rest) (statements-text items)

-- a printed policy is its lines
policy-text : (policy : PolicyParts) → policy_text policy ≡ text_of (policy_lines policy)
policy-text policy =
    ap (λ (rest : List ℕ). (header_text policy.name policy.version ++ 10 ∷ []) ++ rest) (statements-text policy.items)
    ∙ ap (λ (header : List ℕ). (header ++ 10 ∷ []) ++ text_of (map statement_tokens policy.items))
    (append_assoc (codes "policy_name=" ++ policy.name) (codes " policy_version=") (version_text policy.version))

-- a printed policy reads as itself
printed-reads : (policy : PolicyParts) → is_name policy.name ≡ true → IsSmall policy.version → IsPolicy policy.items
    → Reads (policy_text policy) policy
printed-reads policy name version rules =
    let words = header-words policy.name policy.version name version in
    let lines = statements-lines policy.items rules.statements in
    record {
      version_word = version_text policy.version;
      lines = map statement_tokens policy.items;
      whole = ap (λ (text : List ℕ). tokens_on (spoken_lines text)) (policy-text policy)
          ∙ text-tokens 1 (policy_lines policy) (record { words = words; some = omega arith }, lines);
      name = name;
      version = version_of-text policy.version version;
      statements = each-made _ IsStatement SpellsStatement statement-spells policy.items rules.statements;
      keeps_rules = rules;
    }

-- a printed policy is read as itself
pub policy-read : (policy : PolicyParts) → is_name policy.name ≡ true → IsSmall policy.version → IsPolicy policy.items
    → reading (policy_text policy) ≡ Ok policy
policy-read policy name version rules = is-read (policy_text policy) policy (printed-reads policy name version rules)
