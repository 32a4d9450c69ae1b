use Rattle.std.proofs.Common.{◌≡◌, ◌∙◌, ◌≤◌, ◌+◌, ◌-◌, ◌^◌, min, List, ℕ, length, get_or, ap}
use Rattle.ipe_image.specs.Reader.{CountedWords, filled}
use Rattle.ipe_image.proofs.WordLists.{length-filled}
use Rattle.ipe_image.proofs.reader.CountingReaderWordReader.word.Goals as goal

pub returns-clause-word : goal.returns-clause-word
returns-clause-word c =
    let view : c.self.inside.words.now ≡ c.args.self.now.words = ap (λ (w : CountedWords). w.words) c.self.view_is in
    c.word_or_zero.ensures ∙ ap (λ (ws : List ℕ). get_or (filled 4096 ws) c.args.i 0) view

pub returns-clause-whole : goal.returns-clause-whole
returns-clause-whole c =
    let view : c.self.inside.words.now ≡ c.args.self.now.words = ap (λ (w : CountedWords). w.words) c.self.view_is in
    let few : length c.self.inside.words.now ≤ 4096 = c.self.invariant in
    length-filled 4096 c.args.self.now.words (rw view at few)

-- words with as many reads are the same
same-counted : (words words' : List ℕ) (reads reads' : ℕ) → words ≡ words' → reads ≡ reads'
    → ◌≡◌ {A = CountedWords} (record { words = words; reads = reads }) (record { words = words'; reads = reads' })
same-counted words words' reads reads' words_are reads_are = rw (words_are, reads_are)

pub returns-clause-counted : goal.returns-clause-counted
returns-clause-counted c =
    let view : c.self.inside.words.now ≡ c.args.self.now.words = ap (λ (w : CountedWords). w.words) c.self.view_is in
    let reads : c.self.inside.reads ≡ c.args.self.now.reads = ap (λ (w : CountedWords). w.reads) c.self.view_is in
    same-counted _ _ _ _ view (c.saturating_add-self-inside.ensures
    ∙ ap (λ (n : ℕ). min (n + 1) (2 ^ 64 - 1)) reads)
