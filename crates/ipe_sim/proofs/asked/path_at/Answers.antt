use Rattle.std.proofs.Common.{◌≡◌, List, length, get_or, ap, ◌∙◌, arith}
use Rattle.std.proofs.lemmas.Result.{IfOk-weaker}
use Rattle.ipe_requests.specs.declared.script.FileLine.{FileLine}
use Rattle.ipe_sim.specs.Roll.{file}
use Rattle.ipe_sim.proofs.Each.{get_or-each, length-each}
use Rattle.ipe_sim.proofs.asked.path_at.Goals as goal

pub bounds-files-place : goal.bounds-files-place
bounds-files-place c = omega (arith, c.requires.place, length-each 8 file, ap length c.requires.files)

pub returns : goal.returns
returns c =
    let item : get_or c.args.files.now c.args.place c.index-files-place.result ≡ file c.args.place =
    ap (λ (files : List FileLine). get_or files c.args.place c.index-files-place.result) c.requires.files
    ∙ get_or-each 8 file c.args.place c.index-files-place.result c.requires.place in
    IfOk-weaker c.share.result _ _ (λ path is. is ∙ ap (λ (f : FileLine). f.path) item) c.share.ensures
