-- What stays where the fields of a seat stay.
use Rattle.std.proofs.Common.{◌≡◌, refl, sym, ◌∙◌}
use Rattle.ipe_gate.specs.declared.pass.Pass.{Pass}
use Rattle.ipe_gate.specs.declared.administrator.GateAdmin.{GateAdmin}
use Rattle.ipe_gate.specs.Seats.{SameAdmin, SamePass, admin_gate, gate_of}

pub same_pass : (p q : Pass) → gate_of q ≡ gate_of p → q.number ≡ p.number → q.made ≡ p.made → q.holding ≡ p.holding
    → SamePass p q
same_pass p q gate number made holding = record {
  gate = gate;
  number = number;
  calls = sym q.made_is ∙ made ∙ p.made_is;
  held = sym q.holding_is ∙ holding ∙ p.holding_is;
}

pub same_admin : (a b : GateAdmin) → admin_gate b ≡ admin_gate a → b.passes ≡ a.passes → b.epoch ≡ a.epoch
    → b.active ≡ a.active → b.bound ≡ a.bound → SameAdmin a b
same_admin a b gate passes epoch active bound = record {
  gate = gate;
  passes = passes;
  epoch = sym b.epoch_is ∙ epoch ∙ a.epoch_is;
  active = sym b.active_is ∙ active ∙ a.active_is;
  bound = bound;
}

pub same_admin_itself : (a : GateAdmin) → SameAdmin a a
same_admin_itself a = record { gate = refl; passes = refl; epoch = refl; active = refl; bound = refl }

pub same_admin_chain : (o p q : GateAdmin) → SameAdmin o p → SameAdmin p q → SameAdmin o q
same_admin_chain o p q a b = record {
  gate = b.gate ∙ a.gate;
  passes = b.passes ∙ a.passes;
  epoch = b.epoch ∙ a.epoch;
  active = b.active ∙ a.active;
  bound = b.bound ∙ a.bound;
}
