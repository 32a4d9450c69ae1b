use Rattle.std.proofs.Common.{rules, ◌+◌, sym, ap, ◌∙◌, arith, refl}
use Rattle.ipe_gate_rule.proofs.Steps.{claims}
use Rattle.ipe_gate_rule.proofs.Told.{claim_told}
use Rattle.ipe_gate.proofs.pass.Pass.claim.Goals as goal

pub fetch_add-found-requires : goal.fetch_add-found-requires
fetch_add-found-requires c =
    let p = c.args.self.now in
    (search rules, search rules, claims _ _ _ p.number p.role c.requires.free c.requires.few)

pub invariant_of-self : goal.invariant_of-self
invariant_of-self c =
    let p = c.args.self.now in
    let f = c.fetch_add-found in
    let t = claim_told _ _ _ p.number p.role f.ensures.2 in
    record { seated = f.ensures.0 ∙ p.seated; wide = p.wide; plain = t.carried ∙ p.plain; role = t.role; made_is = ap (λ k. k + 1) p.made_is ∙ sym t.calls; holding_below = omega arith; holding_is = t.found.slot ∙ sym t.held }

pub returns : goal.returns
returns c =
    let p = c.args.self.now in
    let f = c.fetch_add-found in
    let t = claim_told _ _ _ p.number p.role f.ensures.2 in
    let a = t.adds in
    record {
      before = t.before;
      step = record { gate = f.ensures.0; number = refl; later = a.later; legal = a.legal; seen_is = a.seen; mine_is = t.own };
      tells = record {
        epoch = t.found.epoch;
        count = t.found.count;
        slot = c.of_number.ensures ∙ t.found.slot;
        enforce = t.found.enforce;
        success = t.found.success;
      };
      held = t.held ∙ sym t.found.slot ∙ sym c.of_number.ensures;
      calls = t.calls;
      places = t.places;
    }
