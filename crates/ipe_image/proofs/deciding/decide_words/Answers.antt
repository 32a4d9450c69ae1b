use Rattle.std.proofs.Common.{◌≡◌, ◌∙◌, ℕ, [], List, get_or, Option, Some, None, refl, ap, sym, arith}
use Rattle.ipe_policy.specs.declared.op.Op.{Op}
use Rattle.ipe_policy.specs.declared.op.Action.{Action}
use Rattle.ipe_policy.specs.declared.evaluation.Context.{Context}
use Rattle.ipe_policy.specs.declared.evaluation.Found.{Found}
use Rattle.ipe_image.specs.declared.hit.Hit.{Hit}
use Rattle.ipe_image.specs.declared.deciding.Matched.{Matched}
use Rattle.ipe_image.specs.Answer.{IsAnswer}
use Rattle.ipe_policy.specs.declared.evaluation.Which.TheVariants.{Rule}
use Rattle.ipe_policy.specs.Statement.{RuleParts}
use Rattle.ipe_image.specs.Parts.{ImageParts}
use Rattle.ipe_image.specs.Decision.{default_in, first_match_in, match_found, record_in}
use Rattle.ipe_image.specs.Found.{BeginsWithImage, IsMatch}
use Rattle.ipe_image.proofs.Places.{complete-facts, places}
use Rattle.ipe_image.proofs.Deciders.{record-default, record-found}
use Rattle.ipe_image.proofs.Told.{read-begins, read-some, moved}
use Rattle.ipe_image.proofs.deciding.decide_words.Goals as goal

pub first_match-requires : goal.first_match-requires
first_match-requires g c =
    let s = read-some (g.R.WordReader.words c.args.reader.now) c.requires in
    (s.0, moved _ _ s.0 (sym c.word-serial.ensures.stays) (read-begins _ s.0 s.1))

pub default_in-requires : goal.default_in-requires
default_in-requires g c =
    let s = read-some (g.R.WordReader.words c.args.reader.now) c.requires in
    (s.0, moved _ _ s.0 (sym (c.first_match.ensures.stays ∙ c.word-serial.ensures.stays)) (read-begins _ s.0 s.1))

-- what a match answers
matched : (words : List ℕ) (parts : ImageParts) (op : Op) (context : Context) (found : Matched) (hit : Hit)
    → BeginsWithImage words parts → IsMatch parts op context found → hit.serial ≡ get_or words 1 0
    → hit.found ≡ (record { action = found.action; which = Rule found.number })
    → hit.rule.items ≡ found.record.items → IsAnswer parts op context hit
matched words parts op context found hit h m serial found_is rule_is =
    let p = places words parts h.behind (complete-facts parts h.complete) h.whole in
    record {
      serial = serial ∙ p.serial;
      decision = ap (λ (o : Option (ℕ × RuleParts)). match_found o (default_in parts op)) m.first
          ∙ ap (λ (a : Action). Some (record { action = a; which = Rule found.number })) (sym m.action)
          ∙ ap (λ (f : Found). Some f) (sym found_is);
      rule = rule_is ∙ m.whole ∙ sym (record-found parts op context found.number m.matched m.first)
          ∙ ap (λ (f : Found). record_in parts f.which) (sym found_is);
    }

-- what a default answers
defaulted : (words : List ℕ) (parts : ImageParts) (op : Op) (context : Context) (hit : Hit)
    → BeginsWithImage words parts → first_match_in parts op context ≡ None → default_in parts op ≡ Some hit.found
    → hit.serial ≡ get_or words 1 0
    → hit.rule.items ≡ [] → IsAnswer parts op context hit
defaulted words parts op context hit h none default serial rule_is =
    let p = places words parts h.behind (complete-facts parts h.complete) h.whole in
    record {
      serial = serial ∙ p.serial;
      decision = ap (λ (o : Option (ℕ × RuleParts)). match_found o (default_in parts op)) none ∙ default;
      rule = rule_is ∙ sym (record-default parts op hit.found default);
    }

pub returns-in-Some-clause-answer : goal.returns-in-Some-clause-answer
returns-in-Some-clause-answer g c parts told =
    let h = read-begins _ parts told in
    let m = c.in-Some.ensures.found parts (moved _ _ parts (sym c.word-serial.ensures.stays) h) in
    matched _ parts c.args.op c.args.context.now c.in-Some.rule _ h m c.word-serial.ensures.word refl refl

pub returns-in-Some-clause-hit : goal.returns-in-Some-clause-hit
returns-in-Some-clause-hit g c =
    let s = read-some (g.R.WordReader.words c.args.reader.now) c.requires in
    let h = read-begins _ s.0 s.1 in
    let m = c.in-Some.ensures.found s.0 (moved _ _ s.0 (sym c.word-serial.ensures.stays) h) in
    record {
      words = g.R.WordReader.words c.args.reader.now;
      parts = s.0;
      context = c.args.context.now;
      image = s.1;
      answer = matched _ s.0 c.args.op c.args.context.now c.in-Some.rule _ h m c.word-serial.ensures.word refl refl;
    }

pub returns-in-Some-clause-reads : goal.returns-in-Some-clause-reads
returns-in-Some-clause-reads g c parts told =
    let h = read-begins _ parts told in
    let one = c.word-serial.ensures.reads in
    let rules = c.first_match.ensures.reads parts (moved _ _ parts (sym c.word-serial.ensures.stays) h) in
    omega arith

pub returns-in-None-clause-reads : goal.returns-in-None-clause-reads
returns-in-None-clause-reads g c parts told =
    let h = read-begins _ parts told in
    let one = c.word-serial.ensures.reads in
    let rules = c.first_match.ensures.reads parts (moved _ _ parts (sym c.word-serial.ensures.stays) h) in
    let two = c.default_in.ensures.reads in
    omega arith

pub returns-in-None-clause-answer : goal.returns-in-None-clause-answer
returns-in-None-clause-answer g c parts told =
    let h = read-begins _ parts told in
    let m = c.in-None.ensures.found parts (moved _ _ parts (sym c.word-serial.ensures.stays) h) in
    let d = c.default_in.ensures.found parts (moved _ _ parts (sym (c.first_match.ensures.stays
    ∙ c.word-serial.ensures.stays)) h) in
    defaulted _ parts c.args.op c.args.context.now _ h m d c.word-serial.ensures.word c.new.ensures

pub returns-in-None-clause-hit : goal.returns-in-None-clause-hit
returns-in-None-clause-hit g c =
    let s = read-some (g.R.WordReader.words c.args.reader.now) c.requires in
    let h = read-begins _ s.0 s.1 in
    let m = c.in-None.ensures.found s.0 (moved _ _ s.0 (sym c.word-serial.ensures.stays) h) in
    let d = c.default_in.ensures.found s.0 (moved _ _ s.0 (sym (c.first_match.ensures.stays
    ∙ c.word-serial.ensures.stays)) h) in
    record {
      words = g.R.WordReader.words c.args.reader.now;
      parts = s.0;
      context = c.args.context.now;
      image = s.1;
      answer = defaulted _ s.0 c.args.op c.args.context.now _ h m d c.word-serial.ensures.word c.new.ensures;
    }
