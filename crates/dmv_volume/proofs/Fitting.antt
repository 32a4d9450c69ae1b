-- Words that meet their rules.
use Rattle.std.proofs.Common.{◌≡◌, ℕ, zero, suc, ◌-◌, ◌<◌, ◌≤◌, eqb, List, [], length, get_or, true, ap, refl, sym, ◌∙◌, subst, arith, inl, inr}
use Rattle.std.specs.Prelude.{IsTrue, ◌==◌, codes}
use Rattle.std.specs.Borrow.{Bor}
use Rattle.std.proofs.lemmas.Bool.{cases_lt, cases_eq, eqb-true, false≢true, or_cases}
use Rattle.std.proofs.lemmas.List.{get_or_past, length-map}
use Rattle.dmv_volume.specs.Words.{AreWhole, IsFirstBad, OneFirstBad, WholeOrBad, WordFits, WordsFit, is_name, may_end, word_at}
use Rattle.line_words.specs.Lines.{seen}

-- as many words are seen as there are
pub seen_count : (words : List (Bor (List ℕ))) → length (seen words) ≡ length words
seen_count words = length-map words (λ (word : Bor (List ℕ)). word.now)

-- a name isn't missing
name_there : (words : List (List ℕ)) (k : ℕ) → IsTrue (is_name (get_or words k [])) → k < length words
name_there words k name = elim (cases_lt k (length words)) [
  | inl inside ↦ inside
  | inr past ↦ absurd (false≢true (subst (λ word. is_name word ≡ true) (get_or_past words k [] past) name))
]

-- the option's words
pub record Option (words : List (List ℕ)) : Type 0 where
  pub fit : WordsFit words 10
  pub number : word_at words 11 ≡ codes "2"
  pub key : word_at words 12 ≡ codes "root_hash_sig_key_desc"
  pub name : IsTrue (is_name (word_at words 13))

all : (words : List (List ℕ)) → Option words → WordsFit words 13
all words option = (((option.fit, option.number), option.key), option.name)

count : (words : List (List ℕ)) → Option words → length words ≤ 13 → length words ≡ 13
count words option few = omega (arith, name_there words 12 option.name)

pub whole : (words : List (List ℕ)) → Option words → length words ≤ 13 → AreWhole words
whole words option few =
    let is : length words ≡ 13 = count words option few in
    record {
      fit = subst (λ (n : ℕ). WordsFit words n) (sym is) (all words option);
      at_end = ap may_end is;
    }

pub has : (words : List (List ℕ)) → Option words → length words ≤ 13 → true ≡ (length words == 13)
has words option few = sym (ap (λ (n : ℕ). n == 13) (count words option few))

pub too_many : (words : List (List ℕ)) → Option words → 13 < length words → IsFirstBad words 14
too_many words option more = record {
  counted = omega arith;
  before = all words option;
  bad = λ fits. fits;
  not_at_end = λ end is. omega arith;
}

-- each of the first words meets its rule
each : (words : List (List ℕ)) (count k : ℕ) → WordsFit words count → 1 ≤ k → k ≤ count → WordFits words k
each words zero k fit some within = absurd (omega arith)
each words (suc count) k fit some within = elim (cases_eq k (suc count)) [
  | inl same ↦ subst (λ (x : ℕ). WordFits words x) (sym same) fit.1
  | inr other ↦ each words count k fit.0 some (omega arith)
]

-- after the last word no word meets its rule
none_behind : (words : List (List ℕ)) (count : ℕ) → length words ≡ count → IsTrue (may_end count) →
    WordFits words (suc count) → ⊥
none_behind words count long end fits =
    let missing : word_at words (suc count) ≡ [] = get_or_past words (suc count - 1) [] (omega arith) in
    elim (or_cases _ (eqb count 13) end) [
      | inl ten ↦
          let same : count ≡ 10 = eqb-true count 10 ten in
          let here : WordFits words 11 = subst (λ (x : ℕ). WordFits words (suc x)) same fits in
          let none : word_at words 11 ≡ [] = subst (λ (x : ℕ). word_at words (suc x) ≡ []) same missing in
          let both : [] ≡ codes "2" = sym none ∙ here in
          cc both
      | inr last ↦ subst (λ (x : ℕ). WordFits words (suc x)) (eqb-true count 13 last) fits
    ]

pub whole_or_bad : WholeOrBad
whole_or_bad words number whole bad =
    let count = length words in
    let counted : 1 ≤ number = bad.counted in
    elim (cases_lt count number) [
      | inl past ↦ elim (cases_eq (number - 1) count) [
        | inl next ↦ bad.not_at_end (subst (λ (x : ℕ). IsTrue (may_end x)) (sym next) whole.at_end) (sym next)
        | inr later ↦
            none_behind words count refl whole.at_end (each words (number - 1) (suc count) bad.before (omega arith)
            (omega arith))
      ]
      | inr within ↦ bad.bad (each words count number whole.fit counted within)
    ]

earlier : (words : List (List ℕ)) (number other : ℕ) → number < other → IsFirstBad words number →
    IsFirstBad words other → ⊥
earlier words number other below first second =
    let counted : 1 ≤ number = first.counted in
    first.bad (each words (other - 1) number second.before counted (omega arith))

pub one_first_bad : OneFirstBad
one_first_bad words number other first second = elim (cases_lt number other) [
  | inl below ↦ absurd (earlier words number other below first second)
  | inr from ↦ elim (cases_lt other number) [
    | inl below ↦ absurd (earlier words other number below second first)
    | inr above ↦ omega arith
  ]
]
