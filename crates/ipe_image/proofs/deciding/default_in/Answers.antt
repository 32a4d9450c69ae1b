use Rattle.std.proofs.Common.{◌≡◌, ◌∙◌, ℕ, ◌+◌, List, get_or, Option, None, ap, sym}
use Rattle.ipe_policy.specs.Statement.{op_number}
use Rattle.ipe_policy.specs.declared.op.Op.{Op}
use Rattle.ipe_policy.specs.declared.op.Action.{Action}
use Rattle.ipe_policy.specs.declared.evaluation.Which.TheVariants.{OpDefault, GlobalDefault}
use Rattle.ipe_image.specs.Parts.{ImageParts}
use Rattle.ipe_image.specs.Reading.{default_read}
use Rattle.ipe_image.specs.Parts.{own_default}
use Rattle.ipe_image.specs.Decision.{default_found}
use Rattle.ipe_image.specs.Found.{BeginsWithImage}
use Rattle.ipe_image.proofs.Places.{complete-facts, Places, places, default-read, some-default}
use Rattle.ipe_image.proofs.deciding.default_in.Goals as goal

-- where the parts stand in words that begin with their image
at : (words : List ℕ) (parts : ImageParts) (h : BeginsWithImage words parts) → Places words parts h.behind
at words parts h = places words parts h.behind (complete-facts parts h.complete) h.whole

-- what is read at the place of an operation's default
own-read : (words : List ℕ) (parts : ImageParts) (op : Op) (n word : ℕ) → BeginsWithImage words parts
    → n ≡ op_number op → word ≡ get_or words (3 + n) 0 → default_read word ≡ own_default parts op
own-read words parts op n word h number read =
    ap default_read (read ∙ ap (λ (k : ℕ). get_or words (3 + k) 0) number ∙ (at words parts h).own op)
    ∙ default-read (own_default parts op)

-- what is read at the place of the global default
global-read : (words : List ℕ) (parts : ImageParts) (word : ℕ) → BeginsWithImage words parts
    → word ≡ get_or words 2 0 → default_read word ≡ parts.global
global-read words parts word h read = ap default_read (read ∙ (at words parts h).global) ∙ default-read parts.global

pub returns-in-Some-clause-found : goal.returns-in-Some-clause-found
returns-in-Some-clause-found g c parts h =
    let own = own-read _ parts c.args.op c.number.result c.word.result h c.number.ensures.number
    c.word.ensures.word in
    ap (λ (o : Option Action). default_found OpDefault o (default_found GlobalDefault parts.global None)) (sym
    (c.in-Some.ensures ∙ own))

pub unreachable-requires : goal.unreachable-requires
unreachable-requires g c =
    let parts = c.requires.0 in
    let h = c.requires.1 in
    let own = own-read _ parts c.args.op c.number.result c.word.result h c.number.ensures.number
    c.word.ensures.word in
    let no_own : c.action_of.result ≡ None = c.in_default.is in
    let global = global-read (g.R.WordReader.words c.args.reader.now) parts c.word-2.result h
    (c.word-2.ensures.word ∙ ap (λ (ws : List ℕ). get_or ws 2 0) c.word.ensures.stays) in
    some-default parts c.args.op (complete-facts parts h.complete) (sym own ∙ sym c.action_of.ensures
    ∙ no_own) (sym global ∙ sym c.action_of-2.ensures ∙ c.in-None.is)

pub returns-clause-found : goal.returns-clause-found
returns-clause-found g c parts h =
    let own = own-read _ parts c.args.op c.number.result c.word.result h c.number.ensures.number
    c.word.ensures.word in
    let no_own : c.action_of.result ≡ None = c.in_default.is in
    let global = global-read (g.R.WordReader.words c.args.reader.now) parts c.word-2.result h
    (c.word-2.ensures.word ∙ ap (λ (ws : List ℕ). get_or ws 2 0) c.word.ensures.stays) in
    ap (λ (o : Option Action). default_found OpDefault o (default_found GlobalDefault parts.global None)) (sym own
    ∙ sym c.action_of.ensures ∙ no_own)
    ∙ ap (λ (o : Option Action). default_found GlobalDefault o None) (sym (c.in-Some-action_of.ensures ∙ global))
