-- Lists of bytes that all pass a test, and how lines and tokens are cut from them.
use Rattle.std.proofs.Common.{◌≡◌, ℕ, ◌+◌, ◌<◌, suc, Bool, true, false, not, ◌&&◌, List, [], ◌∷◌, ◌++◌, length, refl, ap, ◌∙◌, arith, append_assoc, append-nil, one-add}
use Rattle.std.specs.List.{list_all, before_first, after_first, position_or_len, AllByRecursion}
use Rattle.std.proofs.lemmas.Bool.{and_parts, and_from, not-true}
use Rattle.std.proofs.lemmas.Bool.Decides.{nat_tests}
use Rattle.std.proofs.lemmas.List.Folds.{list_all-append}
use Rattle.ipe_lex.specs.Lines.{goes_on, is_comment_sign, is_in_token, is_separator, lines_of, tokens_of, uncommented}
use Rattle.line_words.specs.Lines.{is_line_feed, joined}

-- a byte that can stand in a word of a line: no separator, no line feed and no number sign
abbrev pub is_plain : ℕ → Bool
is_plain byte = is_in_token byte && (not (is_line_feed byte) && not (is_comment_sign byte))

-- a word of a line: at least one byte, each of which can stand in a word
pub record IsWord (word : List ℕ) : Type 0 where
  pub plain : list_all is_plain word ≡ true
  pub not_empty : 0 < length word

-- every byte of both lists passes
pub all-append : (p : ℕ → Bool) (xs ys : List ℕ) → list_all p xs ≡ true → list_all p ys ≡ true → list_all p (xs ++ ys) ≡ true
all-append p xs ys a b = list_all-append p xs ys ∙ and_from (list_all p xs) (list_all p ys) a b

-- what passes one test passes another that follows from it
pub all-weaker : (p q : ℕ → Bool) (weaker : (x : ℕ) → p x ≡ true → q x ≡ true) (xs : List ℕ) → list_all p xs ≡ true → list_all q xs ≡ true
all-weaker p q weaker [] h = refl
all-weaker p q weaker (x ∷ xs) h =
    let parts = and_parts (p x) (list_all p xs) h in
    and_from (q x) (list_all q xs) (weaker x parts.0) (all-weaker p q weaker xs parts.1)

-- what stands before and after the first byte that passes, where it is the first byte or a later one
before-hit : (p : ℕ → Bool) (x : ℕ) (xs : List ℕ) → p x ≡ true → before_first p (x ∷ xs) ≡ []
before-hit p x xs e = rw e

after-hit : (p : ℕ → Bool) (x : ℕ) (xs : List ℕ) → p x ≡ true → after_first p (x ∷ xs) ≡ xs
after-hit p x xs e = rw e

before-miss : (p : ℕ → Bool) (x : ℕ) (xs : List ℕ) → p x ≡ false → before_first p (x ∷ xs) ≡ x ∷ before_first p xs
before-miss p x xs e = rw (e, one-add)

after-miss : (p : ℕ → Bool) (x : ℕ) (xs : List ℕ) → p x ≡ false → after_first p (x ∷ xs) ≡ after_first p xs
after-miss p x xs e =
    let shifted : 1 + position_or_len p xs + 1 ≡ suc (position_or_len p xs + 1) = omega arith in rw (e, shifted)

-- where nothing passes, the whole list stands before the first that does
before-none : (p : ℕ → Bool) (xs : List ℕ) → list_all (λ x. not (p x)) xs ≡ true → before_first p xs ≡ xs
before-none p [] h = refl
before-none p (x ∷ xs) h =
    let parts = and_parts (not (p x)) (list_all (λ x. not (p x)) xs) h in
    before-miss p x xs (not-true (p x) parts.0) ∙ ap (λ (r : List ℕ). x ∷ r) (before-none p xs parts.1)

-- what stands before the first byte that passes
pub before-at : (p : ℕ → Bool) (xs : List ℕ) (y : ℕ) (ys : List ℕ) → list_all (λ x. not (p x)) xs ≡ true → p y ≡ true → before_first p (xs ++ y ∷ ys) ≡ xs
before-at p [] y ys h e = before-hit p y ys e
before-at p (x ∷ xs) y ys h e =
    let parts = and_parts (not (p x)) (list_all (λ x. not (p x)) xs) h in
    before-miss p x (xs ++ y ∷ ys) (not-true (p x) parts.0) ∙ ap (λ (r : List ℕ). x ∷ r) (before-at p xs y ys parts.1 e)

-- what stands after the first byte that passes
pub after-at : (p : ℕ → Bool) (xs : List ℕ) (y : ℕ) (ys : List ℕ) → list_all (λ x. not (p x)) xs ≡ true → p y ≡ true → after_first p (xs ++ y ∷ ys) ≡ ys
after-at p [] y ys h e = after-hit p y ys e
after-at p (x ∷ xs) y ys h e =
    let parts = and_parts (not (p x)) (list_all (λ x. not (p x)) xs) h in
    after-miss p x (xs ++ y ∷ ys) (not-true (p x) parts.0) ∙ after-at p xs y ys parts.1 e

-- the line before a line feed, and the lines after it
lines-at : (line rest : List ℕ) → list_all (λ byte. not (is_line_feed byte)) line ≡ true → lines_of (line ++ 10 ∷ rest) ≡ line ∷ lines_of rest
lines-at [] rest h = refl
lines-at (byte ∷ line) rest h =
    let parts = and_parts (not (is_line_feed byte)) (list_all (λ b. not (is_line_feed b)) line) h in
    rw (not-true (is_line_feed byte) parts.0, lines-at line rest parts.1)

-- the word at the front of a line, and the tokens after it
tokens-word : (word rest : List ℕ) → list_all is_in_token word ≡ true → 0 < length word → goes_on rest ≡ false → tokens_of (word ++ rest) ≡ word ∷ tokens_of rest
tokens-word [] rest h some ends = absurd (omega arith)
tokens-word (byte ∷ []) rest h some ends =
    let parts = and_parts (is_in_token byte) true h in
    rw (not-true (is_separator byte) parts.0, ends)
tokens-word (byte ∷ next ∷ word) rest h some ends =
    let parts = and_parts (is_in_token byte) (list_all is_in_token (next ∷ word)) h in
    let others = and_parts (is_in_token next) (list_all is_in_token word) parts.1 in
    let later : tokens_of ((next ∷ word) ++ rest) ≡ (next ∷ word) ∷ tokens_of rest = tokens-word (next ∷ word) rest parts.1 (omega arith) ends in
    rw (not-true (is_separator byte) parts.0, others.0, later)

-- a byte of a word is part of a token
plain-in_token : (byte : ℕ) → is_plain byte ≡ true → is_in_token byte ≡ true
plain-in_token byte h = (and_parts (is_in_token byte) _ h).0

-- words parted by one blank are the tokens of their line
tokens_of-joined : (words : List (List ℕ)) → AllByRecursion IsWord words → tokens_of (joined words) ≡ words
tokens_of-joined [] h = refl
tokens_of-joined (word ∷ []) h =
    let whole = tokens-word word [] (all-weaker is_plain is_in_token plain-in_token word h.0.plain) h.0.not_empty refl in
    rw append-nil at whole
tokens_of-joined (word ∷ next ∷ words) h =
    tokens-word word (32 ∷ joined (next ∷ words)) (all-weaker is_plain is_in_token plain-in_token word h.0.plain) h.0.not_empty refl
    ∙ ap (λ (r : List (List ℕ)). word ∷ r) (tokens_of-joined (next ∷ words) h.1)

-- words parted by one blank pass a test that each byte of a word passes, and the blank
joined-all : (p : ℕ → Bool) → ((byte : ℕ) → is_plain byte ≡ true → p byte ≡ true) → p 32 ≡ true
    → (words : List (List ℕ)) → AllByRecursion IsWord words → list_all p (joined words) ≡ true
joined-all p weaker blank [] h = refl
joined-all p weaker blank (word ∷ []) h = all-weaker is_plain p weaker word h.0.plain
joined-all p weaker blank (word ∷ next ∷ words) h =
    all-append p word (32 ∷ joined (next ∷ words)) (all-weaker is_plain p weaker word h.0.plain)
    (and_from (p 32) (list_all p (joined (next ∷ words))) blank (joined-all p weaker blank (next ∷ words) h.1))

-- a byte of a word begins no comment
plain-no_comment : (byte : ℕ) → is_plain byte ≡ true → not (is_comment_sign byte) ≡ true
plain-no_comment byte h = grind (arith, nat_tests)

-- a byte of a word ends no line
plain-no_line_feed : (byte : ℕ) → is_plain byte ≡ true → not (is_line_feed byte) ≡ true
plain-no_line_feed byte h = grind (arith, nat_tests)

-- a line of words, read back as its words
pub line-words : (words : List (List ℕ)) → AllByRecursion IsWord words → tokens_of (uncommented (joined words)) ≡ words
line-words words h =
    let apart = joined-all (λ byte. not (is_comment_sign byte)) plain-no_comment refl words h in
    ap tokens_of (before-none is_comment_sign (joined words) apart)
    ∙ tokens_of-joined words h

-- a line of words is the first line of a text
pub line-first : (words : List (List ℕ)) (rest : List ℕ) → AllByRecursion IsWord words
    → lines_of ((joined words ++ 10 ∷ []) ++ rest) ≡ joined words ∷ lines_of rest
line-first words rest h =
    ap lines_of (append_assoc (joined words) (10 ∷ []) rest)
    ∙ lines-at (joined words) rest (joined-all (λ byte. not (is_line_feed byte)) plain-no_line_feed refl words h)
