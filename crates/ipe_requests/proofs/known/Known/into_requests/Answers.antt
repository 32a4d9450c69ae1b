use Rattle.std.proofs.Common.{◌≡◌, ℕ, Option, sym, ap, ◌∙◌, subst}
use Rattle.ipe_requests.specs.Known.{phases_of, with_opened}
use Rattle.ipe_requests.specs.Law.{IsOfFile}
use Rattle.ipe_requests.specs.Requests.{Script, script_of}
use Rattle.ipe_requests.proofs.known.Known.into_requests.Goals as goal

pub invariant_of-result : goal.invariant_of-result
invariant_of-result c =
    let closed : phases_of c.args.self ≡ c.args.self.phases =
    ap (λ (o : Option ℕ). with_opened c.args.self.phases o c.args.self.asked) c.requires.closed in
    let phases : phases_of c.args.self ≡ c.into_items-6.result = closed ∙ sym c.into_items-6.ensures in
    let same : script_of c.args.self ≡ record {
      workers = c.args.self.workers;
      texts = c.into_items.result;
      volumes = c.into_items-2.result;
      files = c.into_items-3.result;
      seals = c.into_items-4.result;
      marks = c.into_items-5.result;
      phases = c.into_items-6.result;
    } = λ i. record {
      workers = c.args.self.workers;
      texts = sym c.into_items.ensures i;
      volumes = sym c.into_items-2.ensures i;
      files = sym c.into_items-3.ensures i;
      seals = sym c.into_items-4.ensures i;
      marks = sym c.into_items-5.ensures i;
      phases = phases i;
    } in
    subst (λ (s : Script). IsOfFile s) same c.requires.file
