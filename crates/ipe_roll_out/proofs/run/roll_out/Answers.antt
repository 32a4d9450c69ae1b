use Rattle.std.proofs.Common.{◌≡◌, [], sym, subst, ◌∙◌, rules}
use Rattle.blk_device.specs.Contents.{Contents}
use Rattle.ipe_gate.specs.Meeting.{history}
use Rattle.ipe_lines.specs.Files.{files_of}
use Rattle.ipe_objects.specs.Devices.{AreImages}
use Rattle.ipe_requests.specs.Requests.{Script}
use Rattle.ipe_replay.specs.Summary.{IsSummary}
use Rattle.ipe_sim.specs.Roll.{roll}
use Rattle.ipe_roll_out.proofs.NoDevices.{no_images}
use Rattle.ipe_roll_out.proofs.run.roll_out.Goals as goal

pub summarize-requires : goal.summarize-requires
summarize-requires g c =
    let none : c.from_vec-images.result ≡ [] = c.from_vec-images.ensures ∙ c.new.ensures.items in
    let there : AreImages c.in_ok-requests.requests c.from_vec-images.result =
    subst (λ (script : Script). AreImages script c.from_vec-images.result) (sym c.in_ok-requests.ensures)
    (subst (AreImages (roll c.args.seed)) (sym none) (no_images c.args.seed)) in
    (search rules, (search rules, there))

pub returns : goal.returns
returns g c =
    let none : c.from_vec-images.result ≡ [] = c.from_vec-images.ensures ∙ c.new.ensures.items in
    let made = c.in_ok-requests.ensures in
    record {
      summary = c.in_ok-summary.summary;
      came_to =
          subst (λ (images : Contents). IsSummary (roll c.args.seed) (files_of (roll c.args.seed) images) (history c.in_ok-summary.closed) c.in_ok-summary.summary) none
          (subst (λ (script : Script). IsSummary script (files_of script c.from_vec-images.result) (history c.in_ok-summary.closed) c.in_ok-summary.summary) made c.in_ok-summary.ensures);
      told = c.in_ok-line.ensures;
    }
