-- Texts that read as a policy are read as it, and no others are.
use Rattle.std.proofs.Common.{◌≡◌, ℕ, ◌≤◌, ◌⊎◌, inl, inr, Bool, true, false, cond, List, [], ◌∷◌, ◌++◌, length, map, Option, Some, None, Result, Ok, Err, IfOk, IfErr, refl, sym, ◌∙◌, ap, arith, subst, append_assoc, append-nil, codes}
use Rattle.std.specs.List.{AllByRecursion, AllZip}
use Rattle.std.proofs.lemmas.List.{length-map}
use Rattle.std.proofs.lemmas.List.Sums.{count_by-le-length, length-filter}
use Rattle.std.proofs.lemmas.Slice.Zip.{AllZip-long}
use Rattle.std.proofs.lemmas.Bool.{cases_Bool}
use Rattle.ipe_lex.specs.Lines.{lines_of, placed_lines}
use Rattle.ipe_policy.specs.declared.op.Op.{Op}
use Rattle.ipe_policy.specs.declared.statement.Statement.{Statement}
use Rattle.ipe_policy.specs.declared.version.Version.{Version}
use Rattle.ipe_policy.specs.Words.{is_name}
use Rattle.ipe_policy.specs.Policy.{PolicyParts, IsPolicy, IsStatement}
use Rattle.ipe_parse.specs.declared.error.BadKind.{BadKind}
use Rattle.ipe_parse.specs.declared.error.BadKind.TheVariants.{TwiceDefault}
use Rattle.ipe_parse.specs.declared.error.BadText.{BadText}
use Rattle.ipe_parse.specs.declared.error.BadText.TheVariants.{Bad, NoDefault}
use Rattle.ipe_parse.specs.declared.error.ParseError.{ParseError}
use Rattle.ipe_parse.specs.declared.error.ParseError.TheVariants as error
use Rattle.ipe_parse.specs.declared.header.Header.{Header}
use Rattle.ipe_parse.specs.Defaults.{IsOnce, first_missing, repeats_default}
use Rattle.ipe_parse.specs.Tokens.{◌>>=◌, header_of, statement_of}
use Rattle.ipe_parse.specs.Reading.{IsReading, SpokenLine, at_line, completed, is_spoken, next_statement, not_twice, reading, reading_of_lines, spoken_lines, statements_from}
use Rattle.ipe_parse.specs.Walk.{spoken_of}
use Rattle.ipe_parse.proofs.DraftLemmas.{IsOnce-push, each-has-one}
use Rattle.ipe_parse.proofs.SpokenLemmas.{placed_lines-few, spoken_lines-placed}
use Rattle.ipe_parse.specs.Reads.{HasFault, Reads, ReadsAsOne, Refuses, SpellsStatement}
use Rattle.ipe_parse.proofs.KeptRules.{spelled-keep_rules}
use Rattle.ipe_parse.proofs.Steps.{then-ok, then-parts}
use Rattle.ipe_parse.proofs.Defaults.{missing-none, repeats-none}
use Rattle.ipe_parse.proofs.SpelledStatements.{SpellsHeader, header-read, header-spelled, statement-read, statement-spelled}

-- a value at a line is the value of the line
line-parts : {A : Type 0} (number : ℕ) (r : Result A BadKind) (x : A) → at_line number r ≡ Ok x → r ≡ Ok x
line-parts number (Ok y) x e = cc
line-parts number (Err kind) x e = absurd (cc)

-- the tokens of lines
abbrev pub tokens_on : List SpokenLine → List (List (List ℕ))
tokens_on lines = map (λ (line : SpokenLine). line.tokens) lines

-- ---- statements

-- a line that spells a statement, which repeats no default, is read as it
next-read : (before : List Statement) (line : SpokenLine) (statement : Statement) → SpellsStatement line.tokens statement → repeats_default before statement ≡ false → next_statement before line ≡ Ok statement
next-read before line statement spelled free =
    ap (λ (r : Result Statement BadKind). at_line line.number (not_twice before r)) (statement-read line.tokens statement spelled)
    ∙ ap (λ (b : Bool). at_line line.number (cond b (Err TwiceDefault) (Ok statement))) free

-- lines that spell statements are read as them, where none repeats a default
statements-read : (lines : List SpokenLine) (before items : List Statement) → AllZip SpellsStatement (tokens_on lines) items → IsOnce (before ++ items) → statements_from before lines ≡ Ok (before ++ items)
statements-read [] before [] each once = ap (λ (items : List Statement). Ok items) (sym (append-nil before))
statements-read [] before (item ∷ items) each once = absurd each
statements-read (line ∷ lines) before [] each once = absurd each
statements-read (line ∷ lines) before (item ∷ items) each once =
    let whole : (before ++ item ∷ []) ++ items ≡ before ++ item ∷ items = append_assoc before (item ∷ []) items in
    then-ok (next_statement before line) item (λ statement. statements_from (before ++ statement ∷ []) lines) (next-read before line item each.0 (repeats-none before items item once))
    ∙ statements-read lines (before ++ item ∷ []) items each.1 (subst IsOnce (sym whole) once)
    ∙ ap (λ (items : List Statement). Ok items) whole

-- what lines spell, after statements that stand before them
record Behind (before : List Statement) (lines : List SpokenLine) (items : List Statement) : Type 0 where
  more : List Statement
  whole : items ≡ before ++ more
  each : AllZip SpellsStatement (tokens_on lines) more
  once : IsOnce items

-- a line spells a statement, which repeats no default
record NextSpelled (before : List Statement) (line : SpokenLine) (statement : Statement) : Type 0 where
  spelled : SpellsStatement line.tokens statement
  free : repeats_default before statement ≡ false

-- a statement that passed the test for repeated defaults repeats none
not_twice-parts : (before : List Statement) (r : Result Statement BadKind) (statement : Statement) → not_twice before r ≡ Ok statement → (r ≡ Ok statement) × (repeats_default before statement ≡ false)
not_twice-parts before (Err kind) statement e = absurd (cc)
not_twice-parts before (Ok other) statement e = elim (cases_Bool (repeats_default before other)) [
  | inl again ↦ absurd (let h = rw again at e in cc)
  | inr free ↦ (let h : ◌≡◌ {A = Result Statement BadKind} (Ok other) (Ok statement) = rw free at e in let same : other ≡ statement = cc in (ap (λ (s : Statement). Ok s) same, ap (repeats_default before) (sym same) ∙ free))
]

-- a line that is read as a statement spells it, and repeats no default
next-spelled : (before : List Statement) (line : SpokenLine) (statement : Statement) → next_statement before line ≡ Ok statement → NextSpelled before line statement
next-spelled before line statement e =
    let both = not_twice-parts before (statement_of line.tokens) statement (line-parts line.number (not_twice before (statement_of line.tokens)) statement e) in
    record { spelled = statement-spelled line.tokens statement both.0; free = both.1 }

-- lines that are read as statements spell them, and none repeats a default
statements-spelled : (lines : List SpokenLine) (before items : List Statement) → IsOnce before → statements_from before lines ≡ Ok items → Behind before lines items
statements-spelled [] before items once e =
    let same : before ≡ items = cc in
    record { more = []; whole = sym same ∙ sym (append-nil before); each = tt; once = subst IsOnce same once }
statements-spelled (line ∷ lines) before items once e =
    let one = then-parts (next_statement before line) (λ (statement : Statement). statements_from (before ++ statement ∷ []) lines) items e in
    let here = next-spelled before line one.0 one.1 in
    let others = statements-spelled lines (before ++ one.0 ∷ []) items (IsOnce-push before one.0 here.free once) one.2 in
    record {
      more = one.0 ∷ others.more;
      whole = others.whole ∙ append_assoc before (one.0 ∷ []) others.more;
      each = (here.spelled, others.each);
      once = others.once;
    }

-- no statements give no default twice
no-statement-once : IsOnce []
no-statement-once = record { op_once = λ op. omega arith; global_once = omega arith }

-- statements that are read keep the rules on their properties
pub read-keep_rules : (lines : List SpokenLine) (items : List Statement) → statements_from [] lines ≡ Ok items
    → AllByRecursion IsStatement items
read-keep_rules lines items e =
    let behind = statements-spelled lines [] items no-statement-once e in
    subst (AllByRecursion IsStatement) (sym behind.whole) (spelled-keep_rules (tokens_on lines) behind.more behind.each)

-- ---- a whole text

-- what stands after the header
abbrev rest_of_reading : List SpokenLine → Header → Result PolicyParts BadText
rest_of_reading lines header = statements_from [] lines >>= λ items. completed header items (first_missing items)

-- a header and lines that spell a policy's are read as it
lines-read : (line : SpokenLine) (lines : List SpokenLine) (policy : PolicyParts) (header : Header) → SpellsHeader line.tokens header → header.name ≡ policy.name → header.version ≡ policy.version
    → AllZip SpellsStatement (tokens_on lines) policy.items → IsPolicy policy.items → reading_of_lines (line ∷ lines) ≡ Ok policy
lines-read line lines policy header spelled name version each rules =
    then-ok (at_line line.number (header_of line.tokens)) header (rest_of_reading lines) (ap (at_line line.number) (header-read line.tokens header spelled))
    ∙ then-ok (statements_from [] lines) policy.items (λ items. completed header items (first_missing items))
    (statements-read lines [] policy.items each (record { op_once = rules.op_once; global_once = rules.global_once }))
    ∙ ap (completed header policy.items) (missing-none policy.items rules.each_has_one)
    ∙ rw (name, version)

-- a first line and others that say what a text says
first-line : (spoken : List SpokenLine) (first : List (List ℕ)) (others : List (List (List ℕ))) → tokens_on spoken ≡ first ∷ others
    → (line : SpokenLine) × (lines : List SpokenLine) × (spoken ≡ line ∷ lines) × (line.tokens ≡ first) × (tokens_on lines ≡ others)
first-line [] first others e = absurd (cc)
first-line (line ∷ lines) first others e = (line, lines, refl, cc, cc)

-- a text that reads as a policy is read as it
pub is-read : (text : List ℕ) (policy : PolicyParts) → Reads text policy → reading text ≡ Ok policy
unfolding reading
is-read text policy h =
    let cut = first-line (spoken_lines text) _ h.lines h.whole in
    let header : Header = record { name = policy.name; version = policy.version } in
    ap reading_of_lines cut.2
    ∙ lines-read cut.0 cut.1 policy header (record { version_word = h.version_word; whole = cut.3; name = h.name; version = h.version }) refl refl
    (subst (λ (lines : List (List (List ℕ))). AllZip SpellsStatement lines policy.items) (sym cut.4) h.statements) h.keeps_rules

-- what lines that are read as a policy say
record Says (spoken : List SpokenLine) (policy : PolicyParts) : Type 0 where
  line : SpokenLine
  lines : List SpokenLine
  cut : spoken ≡ line ∷ lines
  header : Header
  spelled : SpellsHeader line.tokens header
  name : header.name ≡ policy.name
  version : header.version ≡ policy.version
  each : AllZip SpellsStatement (tokens_on lines) policy.items
  once : IsOnce policy.items
  complete : first_missing policy.items ≡ None

-- a policy that is completed is made of its header and its statements, and lacks no default
completed-parts : (header : Header) (items : List Statement) (missing : Option Op) (policy : PolicyParts) → completed header items missing ≡ Ok policy
    → (header.name ≡ policy.name) × (header.version ≡ policy.version) × (items ≡ policy.items) × (missing ≡ None)
completed-parts header items (Some op) policy e = absurd (cc)
completed-parts header items None policy e =
    let same : ◌≡◌ {A = PolicyParts} (record { name = header.name; version = header.version; items = items }) policy = cc in
    (ap (λ (p : PolicyParts). p.name) same, ap (λ (p : PolicyParts). p.version) same, ap (λ (p : PolicyParts). p.items) same, refl)

-- lines that are read as a policy spell it
lines-spelled : (spoken : List SpokenLine) (policy : PolicyParts) → reading_of_lines spoken ≡ Ok policy → Says spoken policy
lines-spelled [] policy e = absurd (cc)
lines-spelled (line ∷ lines) policy e =
    let one = then-parts (at_line line.number (header_of line.tokens)) (rest_of_reading lines) policy e in
    let two = then-parts (statements_from [] lines) (λ (items : List Statement). completed one.0 items (first_missing items)) policy one.2 in
    let parts = completed-parts one.0 two.0 (first_missing two.0) policy two.2 in
    let behind = statements-spelled lines [] two.0 no-statement-once two.1 in
    record {
      line = line;
      lines = lines;
      cut = refl;
      header = one.0;
      spelled = header-spelled line.tokens one.0 (line-parts line.number (header_of line.tokens) one.0 one.1);
      name = parts.0;
      version = parts.1;
      each = subst (λ (items : List Statement). AllZip SpellsStatement (tokens_on lines) items) (sym behind.whole ∙ parts.2) behind.each;
      once = subst IsOnce parts.2 behind.once;
      complete = ap first_missing (sym parts.2) ∙ parts.3;
    }

-- ---- a text has at most as many statements as bytes

-- a text has at most as many lines with tokens as bytes
spoken-few : (text : List ℕ) → length (spoken_lines text) ≤ length text
spoken-few text =
    let placed = placed_lines 1 0 (lines_of text) in
    omega (
      arith,
      ap length (spoken_lines-placed text),
      length-filter is_spoken (map spoken_of placed),
      count_by-le-length is_spoken (map spoken_of placed),
      length-map placed spoken_of,
      placed_lines-few text,
    )

-- a text whose lines say a policy reads as it
reads-by : (text : List ℕ) (policy : PolicyParts) → length text ≤ 1048576 → Says (spoken_lines text) policy → Reads text policy
reads-by text policy small says = record {
  version_word = says.spelled.version_word;
  lines = tokens_on says.lines;
  whole = ap tokens_on says.cut ∙ ap (λ (first : List (List ℕ)). first ∷ tokens_on says.lines) says.spelled.whole
      ∙ ap (λ (name : List ℕ). ((codes "policy_name=" ++ name) ∷ (codes "policy_version=" ++ says.spelled.version_word) ∷ []) ∷ tokens_on says.lines) says.name;
  name = subst (λ (name : List ℕ). is_name name ≡ true) says.name says.spelled.name;
  version = says.spelled.version ∙ ap (λ (v : Version). Some v) says.version;
  statements = says.each;
  keeps_rules = record {
    few = omega (
      arith,
      spoken-few text,
      ap length says.cut,
      AllZip-long SpellsStatement (tokens_on says.lines) policy.items says.each,
      length-map says.lines (λ (line : SpokenLine). line.tokens),
    );
    global_once = says.once.global_once;
    op_once = says.once.op_once;
    each_has_one = each-has-one policy.items says.complete;
    statements = spelled-keep_rules (tokens_on says.lines) policy.items says.each;
  };
}

-- a text that is read as a policy reads as it
pub is-spelled : (text : List ℕ) (policy : PolicyParts) → length text ≤ 1048576 → reading text ≡ Ok policy → Reads text policy
unfolding reading
is-spelled text policy small e = reads-by text policy small (lines-spelled (spoken_lines text) policy e)

-- two values that are read from one text are one
one-value : (read : Result PolicyParts BadText) (policy other : PolicyParts) → read ≡ Ok policy → read ≡ Ok other → other ≡ policy
one-value read policy other e h = cc

-- what is read is no value and fault at once
not-both : (read : Result PolicyParts BadText) (policy : PolicyParts) (fault : BadText) → read ≡ Ok policy → read ≡ Err fault → ⊥
not-both read policy fault e h = cc

-- a text that is read as a policy reads as it and as no other
reads-as-one : (text : List ℕ) (policy : PolicyParts) → length text ≤ 1048576 → reading text ≡ Ok policy → ReadsAsOne text policy
reads-as-one text policy small e = record {
  reads = is-spelled text policy small e;
  alone = λ other h. one-value (reading text) policy other e (is-read text other h);
  faultless = λ fault h. not-both (reading text) policy fault e h;
}

-- a text of which a fault is read reads as no policy
has-fault : (text : List ℕ) (fault : BadText) → reading text ≡ Err fault → HasFault text fault
has-fault text fault e = record {
  first = e;
  unread = λ policy h. not-both (reading text) policy fault (is-read text policy h) e;
}

-- what is read of a text tells which of the two it is
sorted : (text : List ℕ) (read : Result PolicyParts BadText) → length text ≤ 1048576 → reading text ≡ read → ((policy : PolicyParts) × ReadsAsOne text policy) ⊎ ((fault : BadText) × HasFault text fault)
sorted text (Ok policy) small e = inl (policy, reads-as-one text policy small e)
sorted text (Err fault) small e = inr (fault, has-fault text fault e)

-- a text reads as one policy, or has a first fault, and never both
pub one-or-fault : (text : List ℕ) → length text ≤ 1048576 → ((policy : PolicyParts) × ReadsAsOne text policy) ⊎ ((fault : BadText) × HasFault text fault)
one-or-fault text small = sorted text (reading text) small refl

-- an answer that is the reading tells the one policy
pub answered-policy : (text : List ℕ) (result : Result PolicyParts ParseError) → length text ≤ 1048576 → IsReading result (reading text) → IfOk result (ReadsAsOne text)
answered-policy text (Ok policy) small e = reads-as-one text policy small e
answered-policy text (Err error) small e = tt

-- an answer that is the reading is refused by the first fault
pub answered-fault : (text : List ℕ) (result : Result PolicyParts ParseError) → IsReading result (reading text) → IfErr result (Refuses text)
answered-fault text (Ok policy) e = tt
answered-fault text (Err (error.Bad line kind)) e = has-fault text (Bad line kind) e
answered-fault text (Err (error.NoDefault missing)) e = has-fault text (NoDefault missing) e
answered-fault text (Err error.NoMemory) e = tt
