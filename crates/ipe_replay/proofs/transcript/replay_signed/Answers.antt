use Rattle.std.proofs.Common.{◌≡◌, List, ℕ, ap, sym, subst, ◌∙◌}
use Rattle.ipe_requests.specs.Requests.{Script}
use Rattle.ipe_machine.specs.Answer.{Verdicts}
use Rattle.ipe_objects.specs.Contexts.{context_of}
use Rattle.ipe_objects.specs.Devices.{AreImages}
use Rattle.ipe_objects.specs.Ready.{Ready, context_in}
use Rattle.blk_device.specs.Contents.{Contents}
use Rattle.ipe_workers.specs.Prepared.{ArePrepared}
use Rattle.ipe_lines.specs.Asked.{verdicts_of}
use Rattle.ipe_replay.specs.declared.end.End.{End}
use Rattle.ipe_replay.proofs.transcript.replay_signed.Goals as goal

-- objects that were built of a script's lines are prepared, where the signer's verdicts are its marks
prepared :
    (objects : Ready) (images : Contents) (script : Script) (verdicts : Verdicts) → objects.script ≡ script →
    verdicts ≡ verdicts_of script → AreImages script images →
    ((path : List ℕ) → context_in objects path ≡ context_of script images verdicts path) → ArePrepared objects images
prepared objects images script verdicts own signed held contexts = record {
  images_are = subst (λ (s : Script). AreImages s images) (sym own) held;
  contexts_are = λ path.
      contexts path ∙ ap (λ (v : Verdicts). context_of script images v path) signed
      ∙ ap (λ (s : Script). context_of s images (verdicts_of s) path) (sym own);
}

pub run_all-requires-clause-prepared : goal.run_all-requires-clause-prepared
run_all-requires-clause-prepared g c κs within =
    prepared c.in_ok-objects.objects c.args.images.now c.args.requests.now (g.S.Signer.verdict_of c.args.signer.now)
    c.in_ok-objects.ensures.script c.requires.signer c.requires.images c.in_ok-objects.ensures.contexts

pub run_all-requires-clause-requests : goal.run_all-requires-clause-requests
run_all-requires-clause-requests g c κs within = c.in_ok-objects.ensures.script

pub run_all-requires-clause-signer : goal.run_all-requires-clause-signer
run_all-requires-clause-signer g c κs within = c.requires.signer

pub transcript_of-requires : goal.transcript_of-requires
transcript_of-requires g c = (c.in_ok-objects.objects, c.in_ok-objects.ensures.script, c.in_ok-entries.ensures.whole)

pub build-requires : goal.build-requires
build-requires g c = c.requires.images

pub returns-clause-tell : goal.returns-clause-tell
returns-clause-tell g c = c.in_ok-transcript.ensures

pub returns-clause-end : goal.returns-clause-end
returns-clause-end g c = record {
  epoch = ap (λ (end : End). end.epoch) c.in_ok-entries.ensures.end;
  active = ap (λ (end : End). end.active) c.in_ok-entries.ensures.end;
  enforce = ap (λ (end : End). end.enforce) c.in_ok-entries.ensures.end;
  success = ap (λ (end : End). end.success) c.in_ok-entries.ensures.end;
}
